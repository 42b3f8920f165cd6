use Rattle.std.proofs.Common.{◌≡◌, ◌+◌, ◌-◌, ◌*◌, ◌^◌, ◌/◌, take, drop, ap, sym, ◌∙◌, arith}
use Rattle.std.proofs.lemmas.Nat.{and_mask}
use Rattle.des_core.specs.Bits.{bits_of}
use Rattle.des_core.proofs.BitLemmas.{bits_of-mod, part-bits_of}
use Rattle.des_core.proofs.key_schedule.group_of.Goals as goal

pub returns-clause-bits : goal.returns-clause-bits
returns-clause-bits c =
    let number = c.args.number in
    let before = 6 * (number - 1) in
    let behind = 48 - 6 * number in
    let shifted = c.args.key / 2 ^ behind in
    let whole : before + (6 + behind) ≡ 48 = omega arith in
    ap (bits_of 6) (and_mask shifted 6)
    ∙ (bits_of-mod 6 shifted 6 (omega arith)
    ∙ (sym (part-bits_of before 6 behind c.args.key) ∙ ap (λ width. take 6 (drop before (bits_of width c.args.key))) whole))
