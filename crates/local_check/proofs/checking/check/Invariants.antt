use Rattle.std.proofs.Common.{◌≡◌, map, take}
use Rattle.local_check.proofs.checking.check.Given as goal

abbrev pub invariant-loop-i : goal.invariant-loop-i
invariant-loop-i l = take l.i (map (λ digit. digit.value) l.digits) ≡ take l.i l.sums
