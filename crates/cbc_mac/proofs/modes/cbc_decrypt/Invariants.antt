use Rattle.std.proofs.Common.{List, length, ◌*◌, ◌/◌, ℕ}
use Rattle.std.specs.List.{concat}
use Rattle.des_core.specs.TripleDes.{tdea_back_bytes}
use Rattle.cbc_mac.specs.Modes.{blocks_of, cbc_back}
use Rattle.cbc_mac.proofs.ModeLemmas.{IsChanged}
use Rattle.cbc_mac.proofs.modes.cbc_decrypt.Given as goal

abbrev pub invariant-loop-i : goal.invariant-loop-i
invariant-loop-i l =
    let chained : List ℕ → List (List ℕ) → List ℕ = λ start blocks. concat (cbc_back (tdea_back_bytes l.key) start blocks) in
    IsChanged l.buf (length l.fn.buf / 8) (3 * l.i) (chained l.before.0) (chained l.fn.start.0 (blocks_of l.fn.buf))

abbrev pub invariant-loop-i-2 : goal.invariant-loop-i-2
invariant-loop-i-2 l =
    let chained : List ℕ → List (List ℕ) → List ℕ = λ start blocks. concat (cbc_back (tdea_back_bytes l.key) start blocks) in
    IsChanged l.buf (length l.fn.buf / 8) l.i (chained l.before.0) (chained l.fn.start.0 (blocks_of l.fn.buf))
