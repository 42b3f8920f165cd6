use Rattle.std.proofs.Common.{◌≡◌, ◌<◌, ℕ, ◌+◌, ◌%◌, get_or, length}
use Rattle.local_check.proofs.checking.added.Given as goal

abbrev pub invariant-loop-i : goal.invariant-loop-i
invariant-loop-i l = (length l.sums ≡ 16) × ((k : ℕ) → k < l.i → get_or l.sums k 0 ≡ (get_or l.digits k 0 + get_or l.offset k 0) % 10)
