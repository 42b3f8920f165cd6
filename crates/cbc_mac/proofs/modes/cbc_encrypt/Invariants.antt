use Rattle.std.proofs.Common.{List, length, ◌/◌, ℕ}
use Rattle.std.specs.List.{concat}
use Rattle.des_core.specs.TripleDes.{tdea_bytes}
use Rattle.cbc_mac.specs.Modes.{cbc, blocks_of}
use Rattle.cbc_mac.proofs.ModeLemmas.{IsChanged}
use Rattle.cbc_mac.proofs.modes.cbc_encrypt.Given as goal

abbrev pub invariant-loop-i : goal.invariant-loop-i
invariant-loop-i l =
    let chained : List ℕ → List (List ℕ) → List ℕ = λ start blocks. concat (cbc (tdea_bytes l.key) start blocks) in
    IsChanged l.buf (length l.fn.buf / 8) l.i (chained l.before) (chained l.fn.start.0 (blocks_of l.fn.buf))
