use Rattle.std.proofs.Common.{ap, arith, get_or, sym, ◌∙◌}
use Rattle.des_core.specs.Permutations.{round_permutation}
use Rattle.des_core.specs.Des.{bits_by_table, cipher_function}
use Rattle.des_core.proofs.CipherFunctionLemmas.{eight_entries, met_bits, selections_by_sixes, six_1, six_2, six_3, six_4, six_5, six_6, six_7, six_8}
use Rattle.des_core.proofs.rounds.cipher_function.Goals as goal

pub returns : goal.returns
unfolding cipher_function
returns c =
    let half = c.args.half in
    let key = c.args.key in
    let odd = c.meet.result in
    let even = c.meet-2.result in
    let i1 = get_or odd 0 0 in
    let h1 = six_1 i1 half c.rotate_left.result key (omega arith) c.rotate_left.ensures (c.meet.ensures.bits 0 (omega arith)) in
    let i2 = get_or even 3 0 in
    let h2 = six_2 i2 half c.rotate_left-2.result key (omega arith) c.rotate_left-2.ensures (c.meet-2.ensures.bits 3 (omega arith)) in
    let i3 = get_or odd 3 0 in
    let h3 = six_3 i3 half c.rotate_left.result key (omega arith) c.rotate_left.ensures (c.meet.ensures.bits 3 (omega arith)) in
    let i4 = get_or even 2 0 in
    let h4 = six_4 i4 half c.rotate_left-2.result key (omega arith) c.rotate_left-2.ensures (c.meet-2.ensures.bits 2 (omega arith)) in
    let i5 = get_or odd 2 0 in
    let h5 = six_5 i5 half c.rotate_left.result key (omega arith) c.rotate_left.ensures (c.meet.ensures.bits 2 (omega arith)) in
    let i6 = get_or even 1 0 in
    let h6 = six_6 i6 half c.rotate_left-2.result key (omega arith) c.rotate_left-2.ensures (c.meet-2.ensures.bits 1 (omega arith)) in
    let i7 = get_or odd 1 0 in
    let h7 = six_7 i7 half c.rotate_left.result key (omega arith) c.rotate_left.ensures (c.meet.ensures.bits 1 (omega arith)) in
    let i8 = get_or even 0 0 in
    let h8 = six_8 i8 half c.rotate_left-2.result key (omega arith) c.rotate_left-2.ensures (c.meet-2.ensures.bits 0 (omega arith)) in
    eight_entries c.joined.result c.joined-8.result c.joined-4.result c.joined-7.result c.joined-3.result c.joined-6.result c.joined-2.result c.joined-5.result
    i1 i2 i3 i4 i5 i6 i7 i8
    c.joined.ensures c.joined-8.ensures c.joined-4.ensures c.joined-7.ensures c.joined-3.ensures c.joined-6.ensures c.joined-2.ensures c.joined-5.ensures
    ∙ ap (bits_by_table round_permutation) (sym (selections_by_sixes (met_bits half key) i1 i2 i3 i4 i5 i6 i7 i8 h1 h2 h3 h4 h5 h6 h7 h8))
