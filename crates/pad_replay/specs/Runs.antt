-- The steps and armings of a script, and the text of a run.
use Rattle.des_core.specs.TripleDes.{tdea_bytes}
use Rattle.disk_core.specs.declared.disk.Strike.{Strike}
use Rattle.flat_machine.specs.Deeds.{Arms, Deed, Takes, acts_in}
use Rattle.flat_machine.specs.Machine.{Act, lines_from, next, next_work}
use Rattle.flat_machine.specs.Settings.{Setting}
use Rattle.flat_machine.specs.State.{Flat, Shared, opening}
use Rattle.local_check.specs.StandardWork.{standard_rules}
use Rattle.pad_machine.specs.Stands.{set_by}
use Rattle.pad_steps.specs.Lines.{Line as PrintedLine}
use Rattle.pad_steps.specs.declared.steps.DiskWord.{DiskWord}
use Rattle.pad_steps.specs.declared.steps.Step.{Step}
use Rattle.pad_replay.specs.Script.{ScriptLines, lines_of}
use Rattle.script_lang.specs.declared.kinds.Line.{Line}
use Rattle.script_lang.specs.declared.kinds.Line.TheVariants as line
use Rattle.std.specs.Prelude.{Bool, List, None, Option, Some, [], false, is_none, true, ℕ, ◌++◌, ◌∷◌, ◌≡◌}
use Rattle.transcript.specs.PrintedLines.{lines_text, mark_text}

-- what was played: steps with their words and armings; whether the words came out even, one for each step and none left
-- over; and the mark of a bad line, where one was come to
pub record Played : Type 0 where
  pub deeds : List Deed
  pub whole : Bool
  pub mark : List ℕ

-- the words ran out, or some are left over
abbrev pub stopped : Played
stopped = record { deeds = []; whole = false; mark = [] }

-- these deeds, and then those
abbrev pub with_deeds : List Deed → Played → Played
with_deeds deeds played = record { deeds = deeds ++ played.deeds; whole = played.whole; mark = played.mark }

-- no step of the line is left where one of them was taken: none is due after `auto`
abbrev pub is_over : Line → Shared → Bool
is_over line.Blank shared = true
is_over line.Auto shared = is_none (next_work shared)
is_over (line.Do step) shared = true
is_over (line.Arm call strike) shared = true

-- what is played from a state, given the words that the disk will say
abbrev pub Player : Type 0
Player = Flat → List DiskWord → Played

-- nothing more is played, and this mark is given
abbrev pub play_mark : List ℕ → Player
play_mark mark state [] = record { deeds = []; whole = true; mark = mark }
play_mark mark state (word ∷ words) = stopped

-- nothing more is played
abbrev pub play_end : Player
play_end = play_mark []

-- nothing more is played, whatever words are left
abbrev pub play_any : Player
play_any state words = record { deeds = []; whole = true; mark = [] }

-- the mark of a bad line with this number, and none where there is no bad line
abbrev pub mark_of : Option ℕ → List ℕ
mark_of None = []
mark_of (Some number) = mark_text number

-- a call is armed, which takes no word, and then the rest
abbrev pub arm_then : ℕ → Strike → Player → Player
arm_then call strike rest state words = with_deeds (Arms call strike ∷ []) (rest state words)

-- where a step is due the words ran out too early
abbrev pub unless_due : Option Step → Played → Played
unless_due None rest = rest
unless_due (Some step) rest = stopped

-- the step that is due comes first
abbrev pub due_first : Option Step → Played → (Step → Played) → Played
due_first None rest more = rest
due_first (Some step) rest more = more step

-- without a word no step is played
abbrev pub Wordless : Player → Type 0
Wordless player = (state : Flat) → acts_in (player state []).deeds ≡ []

-- what the program's pad has from outside: its cipher and its PIN work are the standard ones, and its seed is open
abbrev pub program_setting : List ℕ → Setting
program_setting seed = set_by (standard_rules tdea_bytes) seed

-- a run of this seed
module _ (seed : List ℕ) where
  -- a step, which takes the next word, and then the rest
  abbrev pub step_then : Step → Player → Player
  step_then step rest state [] = stopped
  step_then step rest state (word ∷ words) = with_deeds (Takes (record { step = step; word = word }) ∷ []) (rest (next (program_setting seed) state step word).state words)

  -- the steps that are due, each of which takes a word, until none is, and then the rest
  abbrev pub auto_then : Player → Player
  auto_then rest state [] = unless_due (next_work state.shared) (rest state [])
  auto_then rest state (word ∷ words) = due_first (next_work state.shared) (rest state (word ∷ words))
      (λ step. with_deeds (Takes (record { step = step; word = word }) ∷ []) (auto_then rest (next (program_setting seed) state step word).state words))

  -- a line, and then the rest; a blank line is no step
  abbrev pub line_then : Line → Player → Player
  line_then line.Blank rest = rest
  line_then line.Auto rest = auto_then rest
  line_then (line.Do step) rest = step_then step rest
  line_then (line.Arm call strike) rest = arm_then call strike rest

  -- lines, one after the other, and then the rest
  abbrev pub play_then : List Line → Player → Player
  play_then [] rest = rest
  play_then (first ∷ lines) rest = line_then first (play_then lines rest)

  -- lines, one after the other, and nothing more
  abbrev pub play : List Line → Player
  play lines = play_then lines play_end

  -- what is printed of lines with these words
  abbrev pub printed_by : List Line → List DiskWord → List PrintedLine
  printed_by lines words = lines_from (program_setting seed) opening (acts_in (play lines opening words).deeds)

  -- the lines of a script, and the mark of its bad line
  abbrev pub play_script : ScriptLines → Player
  play_script script = play_then script.lines (play_mark (mark_of script.bad))

  -- what a script plays with these words
  unfoldable pub played_by : List ℕ → List DiskWord → Played
  played_by script words = play_script (lines_of script) opening words

  -- the steps and armings of a script with these words
  abbrev pub deeds_of : List ℕ → List DiskWord → List Deed
  deeds_of script words = (played_by script words).deeds

  -- the steps of a script with these words
  abbrev pub steps_of : List ℕ → List DiskWord → List Act
  steps_of script words = acts_in (deeds_of script words)

  -- the words are one for each step of the lines before the first bad one
  abbrev pub has_word_per_step : List ℕ → List DiskWord → Bool
  has_word_per_step script words = (played_by script words).whole

  -- the mark of the bad line, where the words lead to it
  abbrev pub mark_in : List ℕ → List DiskWord → List ℕ
  mark_in script words = (played_by script words).mark

  -- the printed text of a run from a state
  abbrev pub text_from : Flat → List Act → List ℕ
  text_from state acts = lines_text (lines_from (program_setting seed) state acts)

  -- the printed text of what is played from a state
  abbrev pub played_text : Flat → Played → List ℕ
  played_text state played = text_from state (acts_in played.deeds) ++ played.mark

  -- the printed text of a run from the opening state, and a mark behind it
  abbrev pub text_of : List Act → List ℕ → List ℕ
  text_of acts mark = text_from opening acts ++ mark
