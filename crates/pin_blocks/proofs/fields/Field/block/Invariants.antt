use Rattle.std.proofs.Common.{◌≡◌, ◌<◌, ℕ, ◌+◌, ◌*◌, get_or, length}
use Rattle.pin_blocks.proofs.fields.Field.block.Given as goal

abbrev pub invariant-loop-i : goal.invariant-loop-i
invariant-loop-i l =
    (length l.bytes ≡ 8) × ((k : ℕ) → k < l.i → get_or l.bytes k 0 ≡ get_or l.nibbles (2 * k) 0 * 16 + get_or l.nibbles (2 * k + 1) 0)
