use Rattle.std.proofs.Common.{List, length, ◌*◌, ◌/◌, ℕ}
use Rattle.std.specs.List.{concat}
use Rattle.cbc_mac.specs.Modes.{ecb, blocks_of, tdea_block}
use Rattle.cbc_mac.proofs.ModeLemmas.{IsChanged}
use Rattle.cbc_mac.proofs.modes.ecb.Given as goal

abbrev pub invariant-loop-i : goal.invariant-loop-i
invariant-loop-i l =
    let whole : List (List ℕ) → List ℕ = λ blocks. concat (ecb (tdea_block l.way l.key) blocks) in
    IsChanged l.buf (length l.fn.buf / 8) (3 * l.i) whole (whole (blocks_of l.fn.buf))

abbrev pub invariant-loop-i-2 : goal.invariant-loop-i-2
invariant-loop-i-2 l =
    let whole : List (List ℕ) → List ℕ = λ blocks. concat (ecb (tdea_block l.way l.key) blocks) in
    IsChanged l.buf (length l.fn.buf / 8) l.i whole (whole (blocks_of l.fn.buf))
