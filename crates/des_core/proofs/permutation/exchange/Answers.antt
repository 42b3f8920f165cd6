use Rattle.std.proofs.Common.{refl}
use Rattle.des_core.specs.Exchanges.{exchanged}
use Rattle.des_core.proofs.permutation.exchange.Goals as goal

pub returns : goal.returns
unfolding exchanged
returns c = refl
