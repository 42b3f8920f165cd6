use Rattle.std.proofs.Common.{length, ◌≤◌}
use Rattle.script_lang_tests.proofs.lines.count_lines.Given as goal

abbrev pub invariant-loop-count : goal.invariant-loop-count
invariant-loop-count l = length l.reader.kept ≤ 4096
