use Rattle.std.proofs.Common.{length, ◌≤◌}
use Rattle.script_lang_tests.proofs.lines.are_answered.Given as goal

abbrev pub invariant-loop-wanted : goal.invariant-loop-wanted
invariant-loop-wanted l = length l.reader.kept ≤ 4096
