use Rattle.std.proofs.Common.{◌∙◌}
use Rattle.des_core.proofs.GroupLemmas.{groups_at, key_bits_by_sixes}
use Rattle.des_core.proofs.key_schedule.kept_of.Goals as goal

pub returns-clause-bits : goal.returns-clause-bits
returns-clause-bits c =
    let g1 = c.group_of in
    let g7 = c.group_of-2 in
    let g5 = c.group_of-3 in
    let g3 = c.group_of-4 in
    let g8 = c.group_of-5 in
    let g6 = c.group_of-6 in
    let g4 = c.group_of-7 in
    let g2 = c.group_of-8 in
    let odd =
    groups_at g1.result g7.result g5.result g3.result c.from_le_bytes.result g1.ensures.bound g7.ensures.bound g5.ensures.bound g3.ensures.bound
    c.from_le_bytes.ensures in
    let even =
    groups_at g8.result g6.result g4.result g2.result c.from_le_bytes-2.result g8.ensures.bound g6.ensures.bound g4.ensures.bound
    g2.ensures.bound c.from_le_bytes-2.ensures in
    key_bits_by_sixes c.args.key _ (odd.0 ∙ g1.ensures.bits) (even.3 ∙ g2.ensures.bits) (odd.3 ∙ g3.ensures.bits) (even.2 ∙ g4.ensures.bits)
    (odd.2 ∙ g5.ensures.bits) (even.1 ∙ g6.ensures.bits) (odd.1 ∙ g7.ensures.bits) (even.0 ∙ g8.ensures.bits)
