-- What is printed of a legal history is the text of the run of its steps.
use Rattle.std.proofs.Common.{ap, refl, ◌∙◌}
use Rattle.std.specs.Prelude.{Bool, List, Option, [], flat_map, ℕ, ◌++◌, ◌∷◌, ◌≡◌}
use Rattle.flat_machine.specs.Machine.{Act, is_masked, line_of, lines_from, next}
use Rattle.flat_machine.specs.Power.{word_fate}
use Rattle.flat_machine.specs.Settings.{Setting}
use Rattle.flat_machine.specs.State.{Flat}
use Rattle.pad_desk.specs.Histories.{DeskEntry, IsEntryAt, LegalFrom, act_of, acts_of}
use Rattle.pad_live_core.specs.HistoryTexts.{AreFormed, entry_text, history_text}
use Rattle.pad_steps.specs.declared.answers.Out.{Out}
use Rattle.pad_steps.specs.declared.steps.Fate.{Fate}
use Rattle.transcript.specs.PrintedLines.{line_of_step, line_text, lines_text}

-- the steps of a legal history are well formed
pub legal-formed : (set : Setting) (state : Flat) (history : List DeskEntry) → LegalFrom set state history → AreFormed history
legal-formed set state [] legal = tt
legal-formed set state (entry ∷ rest) legal = (legal.0.formed, legal-formed set (next set state entry.op entry.outcome.word).state rest legal.1)

-- what is printed of an entry is the machine's line
entry-text : (set : Setting) (state : Flat) (entry : DeskEntry) → IsEntryAt set state entry → entry_text entry ≡ line_text (line_of set state (act_of entry))
entry-text set state entry is = let word = entry.outcome.word in
    ap (λ (masked : Bool). line_text (line_of_step entry.op masked word entry.outcome.fate entry.outcome.outs.items)) is.masked
    ∙ ap (λ (outs : List Out). line_text (line_of_step entry.op (is_masked state.shared entry.op) word entry.outcome.fate outs)) is.outs
    ∙ ap (λ (fate : Option Fate). line_text (line_of_step entry.op (is_masked state.shared entry.op) word fate (next set state entry.op word).outs)) is.fate

-- so it is of the whole
pub legal-text : (set : Setting) (state : Flat) (history : List DeskEntry) → LegalFrom set state history → history_text history ≡ lines_text (lines_from set state (acts_of history))
legal-text set state [] legal = refl
legal-text set state (entry ∷ rest) legal = (λ i. entry-text set state entry legal.0 i ++ legal-text set (next set state entry.op entry.outcome.word).state rest legal.1 i)
