use Rattle.std.proofs.Common.{take, ◌≡◌}
use Rattle.pad_replay.proofs.generated.nibbles.Given as goal

abbrev pub invariant-loop-value : goal.invariant-loop-value
invariant-loop-value l = l.nibbles ≡ take l.value-index l.values
