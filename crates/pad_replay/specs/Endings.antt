-- How the run of a script ends.
use Rattle.pad_replay.specs.Outcomes.{EndsAtBadLine, EndsUnread, EndsWell, GaveFront, RanEach, RanSoMany}
use Rattle.pad_replay.specs.Parts.{Progress, RunsOnDisk}
use Rattle.pad_replay.specs.Runs.{deeds_of, play, printed_by}
use Rattle.pad_replay.specs.Script.{lines_of}
use Rattle.pad_replay.specs.Tallies.{tally_after}
use Rattle.pad_replay.specs.declared.script_run.Course.{Course}
use Rattle.pad_replay.specs.declared.script_run.End.TheVariants as ends
use Rattle.flat_machine.specs.State.{opening}
use Rattle.script_lang.specs.declared.kinds.Line.{Line}
use Rattle.std.specs.Prelude.{List, Option, ℕ, ◌≡◌, ◌≢◌}

-- what each end of a run over a script says, and what all of them say
pub record RunEnds (seed script : List ℕ) (course : Course) (left : Option (List ℕ)) (before after : Progress) : Type 0 where
  pub whole : course.end ≡ ends.Whole → EndsWell seed script after.words course.line left before.given after.given before.disk after.disk
  pub bad_line : course.end ≡ ends.BadLine → EndsAtBadLine seed script after.words course.line before.given after.given before.disk after.disk
  pub unread : course.end ≡ ends.SourceFailed → EndsUnread seed script after.words course.line left before.given after.given before.disk after.disk
  pub front : GaveFront seed script after.words before.given after.given
  pub lines : course.end ≢ ends.BadLine → RanSoMany seed (lines_of script).lines after.words course.line
  pub on_disk : RunsOnDisk seed (deeds_of seed script after.words) before.disk after.disk

-- what each end of a run of these lines says
pub record LinesEnd (seed : List ℕ) (lines : List Line) (course : Course) (before after : Progress) : Type 0 where
  pub whole : course.end ≡ ends.Whole → RanEach seed lines after.words course.line before.disk after.disk
  pub counted : course.end ≡ ends.Whole → after.tally ≡ tally_after before.tally (printed_by seed lines after.words)
  pub many : RanSoMany seed lines after.words course.line
  pub on_disk : RunsOnDisk seed (play seed lines opening after.words).deeds before.disk after.disk
