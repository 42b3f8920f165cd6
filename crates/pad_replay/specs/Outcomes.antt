-- What a whole run of a script comes to, by how it ended.
use Rattle.disk_core.specs.DiskStates.{DiskState}
use Rattle.disk_core.specs.Streams.{GivesFront, with_more}
use Rattle.flat_machine.specs.Deeds.{DueFrom}
use Rattle.flat_machine.specs.Machine.{Act}
use Rattle.flat_machine.specs.State.{opening}
use Rattle.flat_machine.specs.Twins.{Twins}
use Rattle.pad_steps.specs.declared.steps.DiskWord.{DiskWord}
use Rattle.pad_replay.specs.Generated.{generated_lines}
use Rattle.pad_replay.specs.Parts.{RunsOnDisk}
use Rattle.pad_replay.specs.Tallies.{summary_text}
use Rattle.pad_replay.specs.Runs.{deeds_of, has_word_per_step, mark_in, play, play_any, play_then, printed_by, program_setting, steps_of, text_of}
use Rattle.pad_replay.specs.Script.{IsTaken, lines_of}
use Rattle.script_lang.specs.declared.kinds.Line.{Line}
use Rattle.std.specs.Prelude.{List, None, Option, Some, [], false, length, take, true, ℕ, ◌+◌, ◌++◌, ◌<◌, ◌≡◌, ◌≤◌}

module _ (seed script : List ℕ) (words : List DiskWord) where
  -- All lines before the first bad one were run: there is a word for each of their steps, the text of the steps was given, and the mark of the bad line behind it. The same bytes are the text of every twin of the steps.
  pub record RanAll (given now : Option (List ℕ)) (s t : DiskState) : Type 0 where
    pub whole : has_word_per_step seed script words ≡ true
    pub printed : now ≡ with_more given (text_of seed (steps_of seed script words) (mark_in seed script words))
    pub twins : (twin : List Act) → Twins (program_setting seed) opening (steps_of seed script words) twin
        → now ≡ with_more given (text_of seed twin (mark_in seed script words))
    -- each word is due by what was armed
    pub due : DueFrom (program_setting seed) opening (deeds_of seed script words) s.armed t.armed

  -- The source was read to its end, and no line was bad.
  pub record EndsWell (line : ℕ) (left given now : Option (List ℕ)) (s t : DiskState) : Type 0 where
    pub good : (lines_of script).bad ≡ None
    pub lines : line ≡ length (lines_of script).lines
    pub read : left ≡ Some []
    pub ran : RanAll given now s t

  -- The line of this number is the first bad one.
  pub record EndsAtBadLine (line : ℕ) (given now : Option (List ℕ)) (s t : DiskState) : Type 0 where
    pub bad : (lines_of script).bad ≡ Some line
    pub ran : RanAll given now s t

  -- The source failed behind these lines: just they were run, there is a word for each of their steps, the text of just these steps was given, and the bytes that were taken have as many line feeds as lines were run.
  pub record EndsUnread (line : ℕ) (left given now : Option (List ℕ)) (s t : DiskState) : Type 0 where
    pub whole : (play seed (take line (lines_of script).lines) opening words).whole ≡ true
    pub printed : now ≡ with_more given (text_of seed (steps_of seed script words) [])
    pub due : DueFrom (program_setting seed) opening (play seed (take line (lines_of script).lines) opening words).deeds s.armed t.armed
    pub taken : IsTaken script left line

  -- A front of the text of these words was given, which is a front of the text of every twin.
  pub record GaveFront (given now : Option (List ℕ)) : Type 0 where
    pub text : GivesFront given now (text_of seed (steps_of seed script words) (mark_in seed script words))
    pub twins : (twin : List Act) → Twins (program_setting seed) opening (steps_of seed script words) twin
        → GivesFront given now (text_of seed twin (mark_in seed script words))

-- A run of these lines, with these words.
module _ (seed : List ℕ) (lines : List Line) (words : List DiskWord) where
  -- So many of the lines were run: a front of the words is one for each of their steps, and what is left, if anything, is too few for one line more.
  pub record RanSoMany (line : ℕ) : Type 0 where
    pub within : line ≤ length lines
    pub front : List DiskWord
    pub back : List DiskWord
    pub parts : words ≡ front ++ back
    pub whole : (play seed (take line lines) opening front).whole ≡ true
    pub few : 0 < length back → (play_then seed (take (line + 1) lines) play_any opening words).whole ≡ false

  -- All lines were run: there is a word for each of their steps, and each is due by what was armed.
  pub record RanEach (line : ℕ) (s t : DiskState) : Type 0 where
    pub count : line ≡ length lines
    pub whole : (play seed lines opening words).whole ≡ true
    pub due : DueFrom (program_setting seed) opening (play seed lines opening words).deeds s.armed t.armed

-- the line that sums up a run of the generated script of so many rounds, with these words
abbrev pub summary_by : List ℕ → ℕ → List DiskWord → List ℕ
summary_by seed rounds words = summary_text rounds (printed_by seed (generated_lines rounds) words)

-- A run of the generated script of so many rounds, with these words.
module _ (seed : List ℕ) (rounds : ℕ) (words : List DiskWord) where
  -- All of its lines were run, and the line of its summary was given.
  pub record SumsUp (line : ℕ) (given now : Option (List ℕ)) (s t : DiskState) : Type 0 where
    pub ran : RanEach seed (generated_lines rounds) words line s t
    pub printed : now ≡ with_more given (summary_by seed rounds words)

  -- So many of its lines were run, a front of the line of its summary was given, and the disk is as its steps and armings leave it.
  pub record RanRounds (line : ℕ) (given now : Option (List ℕ)) (s t : DiskState) : Type 0 where
    pub many : RanSoMany seed (generated_lines rounds) words line
    pub front : GivesFront given now (summary_by seed rounds words)
    pub on_disk : RunsOnDisk seed (play seed (generated_lines rounds) opening words).deeds s t
