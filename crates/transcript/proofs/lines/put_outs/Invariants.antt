use Rattle.std.proofs.Common.{◌≡◌, ◌++◌, flat_map, take}
use Rattle.transcript.specs.PrintedLines.{out_line}
use Rattle.transcript.proofs.lines.put_outs.Given as goal

abbrev pub invariant-loop-out : goal.invariant-loop-out
invariant-loop-out l = l.text ≡ l.fn.text ++ flat_map out_line (take l.out-index l.outs)
