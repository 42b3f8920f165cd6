-- A part of a run, as the code takes it.
use Rattle.disk_core.specs.DiskStates.{DiskState, EachImage}
use Rattle.disk_core.specs.Streams.{GivesFront, with_more}
use Rattle.flat_machine.specs.Deeds.{CalmFrom, Deed, FitsDeeds, acts_in, after_deeds, cut_words, failed_words, loads_rows, off_along}
use Rattle.flat_machine.specs.DiskRuns.{ComeFromOne, RoseBy, RunOnDisk}
use Rattle.flat_machine.specs.DiskSteps.{ShowsKeys}
use Rattle.flat_machine.specs.KeyLayout.{key_layout}
use Rattle.flat_machine.specs.Machine.{Act, lines_from}
use Rattle.flat_machine.specs.State.{Flat, is_off, opening}
use Rattle.pad_machine.specs.Stands.{PadState, StandsFor}
use Rattle.pad_steps.specs.declared.steps.DiskWord.{DiskWord}
use Rattle.pad_replay.specs.Runs.{Player, Wordless, play_then, played_text, program_setting, text_from, with_deeds}
use Rattle.pad_replay.specs.Script.{feeds_in, lines_behind, lines_of}
use Rattle.script_lang.specs.Scripts.{lines_before}
use Rattle.pad_replay.specs.Tallies.{tally_after}
use Rattle.pad_replay.specs.declared.tally.Tally.{Tally}
use Rattle.script_lang.specs.declared.kinds.Line.{Line}
use Rattle.std.specs.Prelude.{Bool, IfSome, IsTrue, List, Option, [], false, is_some, length, ℕ, ◌++◌, ◌≡◌}

-- How far a replay is: the pad, the words that the disk said, what was counted, what the sink was given, and the disk.
pub record Progress : Type 1 where
  pub pad : PadState
  pub words : List DiskWord
  pub tally : Tally
  pub given : Option (List ℕ)
  pub disk : DiskState

-- From a state the machine took the front of a whole over a disk: it stands for the state after what it did, a rest is left to play, and what it did is a run on the disk, and was counted.
pub record Took (seed : List ℕ) (start : Flat) (whole rest : Player) (before after : Progress) : Type 0 where
  pub more : List DiskWord
  pub told_more : after.words ≡ before.words ++ more
  pub done : List Deed
  pub stands : StandsFor after.pad seed (after_deeds (program_setting seed) start done)
  pub played : (tail : List DiskWord) → whole start (more ++ tail) ≡ with_deeds done (rest (after_deeds (program_setting seed) start done) tail)
  pub tally : after.tally ≡ tally_after before.tally (lines_from (program_setting seed) start (acts_in done))
  pub on_disk : RunOnDisk key_layout (program_setting seed) start done before.disk after.disk

-- From a state the machine took the front of a whole over a disk, and all of its text was given.
pub record Ran (seed : List ℕ) (start : Flat) (whole rest : Player) (before after : Progress) : Type 0 where
  pub took : Took seed start whole rest before after
  pub text : List ℕ
  pub printed : after.given ≡ with_more before.given text
  pub spelled : (others : List Act) → text_from seed start (acts_in took.done ++ others) ≡ text ++ text_from seed (after_deeds (program_setting seed) start took.done) others

-- From a state the machine played some of a whole over a disk: of what these words play, it did all but armings at the end, and a front of the text was given; where not all steps of the part at hand were taken the words are too few.
pub record BrokeOff (seed : List ℕ) (start : Flat) (whole : Player) (is_taken : Bool) (before after : Progress) : Type 0 where
  pub more : List DiskWord
  pub told_more : after.words ≡ before.words ++ more
  pub done : List Deed
  pub left : List Deed
  pub parts : (whole start more).deeds ≡ done ++ left
  pub armings : acts_in left ≡ []
  pub on_disk : RunOnDisk key_layout (program_setting seed) start done before.disk after.disk
  pub front : GivesFront before.given after.given (played_text seed start (whole start more))
  pub few : is_taken ≡ false → (whole start more).whole ≡ false

-- Wherever the pad stands, a part was run whole, and whatever follows it is left to play.
abbrev pub RunsPart : (List ℕ → Player → Player) → Progress → Progress → Type 0
RunsPart part before after = (seed : List ℕ) (start : Flat) (rest : Player) → StandsFor before.pad seed start → Ran seed start (part seed rest) rest before after

-- Wherever the pad stands, a part was taken whole, and whatever follows it is left to play.
abbrev pub TakesPart : (List ℕ → Player → Player) → Progress → Progress → Type 0
TakesPart part before after = (seed : List ℕ) (start : Flat) (rest : Player) → StandsFor before.pad seed start → Took seed start (part seed rest) rest before after

-- Wherever the pad stands, a run broke off in a part; where not all of its steps were taken the words are too few for it.
abbrev pub BreaksPart : (List ℕ → Player → Player) → Bool → Progress → Progress → Type 0
BreaksPart part is_taken before after = (seed : List ℕ) (start : Flat) (rest : Player) → Wordless rest → StandsFor before.pad seed start → BrokeOff seed start (part seed rest) is_taken before after

-- A run came behind these lines of a script: the rest of the script is still to be cut and to be played.
pub record RanLines (seed script : List ℕ) (count : ℕ) (rest : List ℕ) (before after : Progress) : Type 0 where
  pub cut : List ℕ
  pub parts : script ≡ cut ++ rest
  pub feeds : feeds_in cut ≡ count
  pub lines : List Line
  pub many : length lines ≡ count
  pub are : lines_of script ≡ lines_before lines (lines_behind count rest)
  pub ran : (others : Player) → Ran seed opening (play_then seed lines others) others before after

-- A run came behind these lines of others: those that are left are still to be played.
pub record RanFront (seed : List ℕ) (lines left : List Line) (count : ℕ) (before after : Progress) : Type 0 where
  pub front : List Line
  pub parts : lines ≡ front ++ left
  pub many : length front ≡ count
  pub ran : (others : Player) → Ran seed opening (play_then seed front others) others before after

-- What the steps and armings of a script did to a disk, in a run of this seed.
pub record RunsOnDisk (seed : List ℕ) (deeds : List Deed) (s t : DiskState) : Type 0 where
  -- each word fits its step
  pub fits : FitsDeeds (program_setting seed) opening deeds
  -- each word of a fault or a cut has its cause
  pub faults : RoseBy (failed_words deeds) s.faults t.faults
  pub cuts : RoseBy (cut_words deeds) s.cuts t.cuts
  -- the disk is off as cuts, Off and Boot leave it, and on while the device is not off
  pub off : t.off ≡ off_along (program_setting seed) opening deeds s.off
  pub on : is_off (after_deeds (program_setting seed) opening deeds).shared.device ≡ false → t.off ≡ false
  pub tells : is_some t.content ≡ is_some s.content
  -- before a loading nothing is written: each image is one of before
  pub unwritten : loads_rows deeds ≡ false → EachImage t (λ bytes. s.image bytes)
  -- from the first loading on, all images are what the history of the store allows for the bytes that it read, one image of before
  pub begun : IsTrue (loads_rows deeds) → IfSome s.content (λ _. ComeFromOne key_layout (program_setting seed) opening deeds s t)
  -- once rows were loaded, each image shows the rows that are kept, or these with the slot in doubt replaced: every key is whole, old or new
  pub shows : EachImage t (ShowsKeys key_layout (after_deeds (program_setting seed) opening deeds).shared)
  -- no bad store comes after a loading, and no fate is other
  pub calm : IfSome s.content (λ _. CalmFrom (program_setting seed) opening deeds)
