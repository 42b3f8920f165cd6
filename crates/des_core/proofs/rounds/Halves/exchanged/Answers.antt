use Rattle.std.proofs.Common.{arith}
use Rattle.des_core.proofs.BitLemmas.{bits_of-or}
use Rattle.des_core.proofs.rounds.Halves.exchanged.Goals as goal

pub returns : goal.returns
returns c = bits_of-or 32 32 64 c.args.self.right c.args.self.left (omega arith) (omega arith) (omega arith)
