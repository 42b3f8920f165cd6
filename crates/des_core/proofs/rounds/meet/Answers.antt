use Rattle.std.proofs.Common.{◌<◌}
use Rattle.std.specs.Int.{to_le_bytes, w32}
use Rattle.std.specs.Int.RustNames.{bit_and, bit_xor}
use Rattle.std.proofs.lemmas.List.Elements.{All-from_get_or}
use Rattle.des_core.proofs.GroupLemmas.{group_met}
use Rattle.des_core.proofs.rounds.meet.Goals as goal

pub returns-clause-bits : goal.returns-clause-bits
returns-clause-bits c = rw c.to_le_bytes.ensures (λ byte within. (group_met c.args.half c.args.groups byte within c.requires).0)

pub returns-clause-bound : goal.returns-clause-bound
returns-clause-bound c =
    rw c.to_le_bytes.ensures
    (All-from_get_or (λ six. six < 64) (to_le_bytes w32 (bit_xor (bit_and c.args.half 0x3f3f3f3f) c.args.groups)) 0
    (λ byte within. (group_met c.args.half c.args.groups byte within c.requires).1))
