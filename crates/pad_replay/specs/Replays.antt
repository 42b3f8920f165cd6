-- How far the code of a replay is.
use Rattle.disk_core.specs.DiskStates.{DiskState}
use Rattle.pad_replay.specs.Parts.{Progress}
use Rattle.pad_replay.specs.declared.replay.Replay.{Replay}
use Rattle.std.specs.Prelude.{List, Option, ℕ}

-- how far a replay is, where the sink was given this and the disk is so
abbrev pub progress_of : Replay → Option (List ℕ) → DiskState → Progress
progress_of replay given disk = record { pad = replay.pad; words = replay.words.items; tally = replay.tally; given = given; disk = disk }
