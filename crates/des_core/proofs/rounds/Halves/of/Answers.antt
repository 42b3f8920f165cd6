use Rattle.des_core.proofs.BitLemmas.{bits_of-parts}
use Rattle.des_core.proofs.rounds.Halves.of.Goals as goal

pub returns-clause-left : goal.returns-clause-left
returns-clause-left c = (bits_of-parts 32 32 c.args.block).0

pub returns-clause-right : goal.returns-clause-right
returns-clause-right c = (bits_of-parts 32 32 c.args.block).1
