use Rattle.std.proofs.Common.{drop, ◌+◌, ◌≡◌}
use Rattle.script_lang.specs.Lines.{feed_at}
use Rattle.script_lang.proofs.line_buffer.feed_place.Given as goal

abbrev pub invariant-loop-place : goal.invariant-loop-place
invariant-loop-place l = feed_at l.bytes ≡ l.place + feed_at (drop l.place l.bytes)
