-- The lines of a step, and of a run.
use Rattle.std.specs.Prelude.{Bool, List, Option, codes, flat_map, ℕ, ◌++◌}
use Rattle.std.specs.Fmt.{decimal}
use Rattle.pad_steps.specs.Lines.{Line}
use Rattle.pad_steps.specs.declared.answers.Out.{Out}
use Rattle.pad_steps.specs.declared.answers.Out.TheVariants as out
use Rattle.pad_steps.specs.declared.steps.DiskWord.{DiskWord}
use Rattle.pad_steps.specs.declared.steps.Fate.{Fate}
use Rattle.pad_steps.specs.declared.steps.Step.{Step}
use Rattle.script_lang.specs.Spelling.{shown_text, unless_masked}
use Rattle.transcript.specs.DiskWords.{disk_word_text}
use Rattle.transcript.specs.Events.{event_text}
use Rattle.transcript.specs.Questions.{told_text}
use Rattle.transcript.specs.Refusals.{refusal_text}
use Rattle.transcript.specs.Replies.{reply_text}

-- the session, and what is said to it
unfoldable pub out_text : Out → List ℕ
out_text (out.Request s id) = decimal s.number ++ codes " request " ++ decimal id
out_text (out.Refused s r) = decimal s.number ++ codes " refused " ++ refusal_text r
out_text (out.Ended s id r) = decimal s.number ++ codes " ended " ++ decimal id ++ codes " " ++ reply_text r
out_text (out.Told s t) = decimal s.number ++ codes " told " ++ told_text t
out_text (out.Event s e) = decimal s.number ++ codes " event " ++ event_text e

-- an out on its line
unfoldable pub out_line : Out → List ℕ
out_line o = codes "< " ++ out_text o ++ codes "\n"

-- the step with the disk's word on one line, and then a line for each out
unfoldable pub line_text : Line → List ℕ
line_text l = codes "> " ++ shown_text l.shown ++ disk_word_text l.word l.fate ++ codes "\n" ++ flat_map out_line l.outs

-- the mark of a line outside the grammar, by its number from 1
unfoldable pub mark_text : ℕ → List ℕ
mark_text line = codes "! bad line " ++ decimal line ++ codes "\n"

-- the text of a run
abbrev pub lines_text : List Line → List ℕ
lines_text lines = flat_map line_text lines

-- what is printed of a step as it is shown
abbrev pub line_of_shown : Option Step → DiskWord → Option Fate → List Out → Line
line_of_shown shown word fate outs = record { shown = shown; word = word; fate = fate; outs = outs }

-- what is printed of a step; a masked press does not keep its key
abbrev pub line_of_step : Step → Bool → DiskWord → Option Fate → List Out → Line
line_of_step step masked word fate outs = line_of_shown (unless_masked masked step) word fate outs
