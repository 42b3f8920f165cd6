use Rattle.std.proofs.Common.{arith}
use Rattle.des_core.proofs.RoundLemmas.{bits_of-rotate}
use Rattle.des_core.proofs.key_schedule.rotate_left.Goals as goal

pub returns-clause-bits : goal.returns-clause-bits
returns-clause-bits c = bits_of-rotate 28 c.args.count c.args.half c.requires.short (omega arith) c.requires.small
