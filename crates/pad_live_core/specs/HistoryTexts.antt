-- The printed text of a history.
use Rattle.des_core.specs.TripleDes.{tdea_bytes}
use Rattle.flat_machine.specs.Machine.{Act, lines_from}
use Rattle.flat_machine.specs.Settings.{Setting}
use Rattle.flat_machine.specs.State.{opening}
use Rattle.local_check.specs.StandardWork.{standard_rules}
use Rattle.pad_desk.specs.Histories.{DeskEntry}
use Rattle.pad_machine.specs.Stands.{set_by}
use Rattle.pad_steps.specs.Formed.{is_well_formed}
use Rattle.pad_steps.specs.Lines.{Line}
use Rattle.pin_blocks.specs.PinRules.{PinRules}
use Rattle.std.specs.Prelude.{IsTrue, List, flat_map, ℕ}
use Rattle.transcript.specs.PrintedLines.{line_of_step, line_text, lines_text}
use Rattle.turnstile.specs.Numbers.{Each}

-- what is printed of an entry
abbrev pub entry_line : DeskEntry → Line
entry_line entry =
    line_of_step entry.op entry.outcome.masked entry.outcome.word entry.outcome.fate entry.outcome.outs.items

-- the text of an entry
abbrev pub entry_text : DeskEntry → List ℕ
entry_text entry = line_text (entry_line entry)

-- the text of a history
abbrev pub history_text : List DeskEntry → List ℕ
history_text history = flat_map entry_text history

-- each step is well formed
abbrev pub AreFormed : List DeskEntry → Type 0
AreFormed = Each (λ (entry : DeskEntry). IsTrue (is_well_formed entry.op))

-- the PIN work of a live run is the standard one
abbrev pub live_rules : PinRules
live_rules = standard_rules tdea_bytes

-- what the pad of a live run has from outside
abbrev pub live_setting : List ℕ → Setting
live_setting seed = set_by live_rules seed

-- the text of a run of the flat machine, with this seed
abbrev pub run_text : List ℕ → List Act → List ℕ
run_text seed acts = lines_text (lines_from (live_setting seed) opening acts)
