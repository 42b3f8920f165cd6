use Rattle.std.proofs.Common.{◌≡◌, ◌<◌, ℕ, ◌+◌, ◌*◌, ◌/◌, ◌%◌, All, get_or, length}
use Rattle.std.specs.Prelude.{slice_index}
use Rattle.local_check.proofs.checking.looked_up.Given as goal

abbrev pub invariant-loop-i : goal.invariant-loop-i
invariant-loop-i l = (length l.digits ≡ 16) × All (λ digit. digit < 16) l.digits
    × ((k : ℕ) → k < l.i → get_or l.digits (2 * k) 0 ≡ slice_index l.table (get_or l.block.0 k 0 / 16))
    × ((k : ℕ) → k < l.i → get_or l.digits (2 * k + 1) 0 ≡ slice_index l.table (get_or l.block.0 k 0 % 16))
