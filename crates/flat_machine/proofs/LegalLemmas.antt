-- Legal histories, in parts and as they are printed.
use Rattle.flat_machine.specs.Histories.{FitsFrom, HistoryEntry, LegalFrom, Outcome, act_of, line_of_entry, outcome_of}
use Rattle.flat_machine.specs.Machine.{line_of, lines_from, next, run_from}
use Rattle.flat_machine.specs.State.{Flat}
use Rattle.flat_machine.specs.Settings.{Setting}
use Rattle.pad_steps.specs.Lines.{Line}
use Rattle.std.proofs.Common.{ap}
use Rattle.std.specs.Prelude.{List, None, Some, [], if◌then◌else◌, map, refl, ◌++◌, ◌∷◌, ◌≡◌}

pub legal_joined : (set : Setting) (h : Flat) (before after : List HistoryEntry) → LegalFrom set h before → LegalFrom set (run_from set h (map act_of before)) after → LegalFrom set h (before ++ after)
legal_joined set h [] after legal rest = rest
legal_joined set h (e ∷ before) after legal rest = (legal.0, legal.1, legal_joined set (next set h e.op e.outcome.word).state before after legal.2 rest)

pub legal_front : (set : Setting) (h : Flat) (before after : List HistoryEntry) → LegalFrom set h (before ++ after) → LegalFrom set h before
legal_front set h [] after legal = tt
legal_front set h (e ∷ before) after legal = (legal.0, legal.1, legal_front set (next set h e.op e.outcome.word).state before after legal.2)

pub legal_rest : (set : Setting) (h : Flat) (before after : List HistoryEntry) → LegalFrom set h (before ++ after) → LegalFrom set (run_from set h (map act_of before)) after
legal_rest set h [] after legal = legal
legal_rest set h (e ∷ before) after legal = legal_rest set (next set h e.op e.outcome.word).state before after legal.2

pub legal_fits : (set : Setting) (h : Flat) (history : List HistoryEntry) → LegalFrom set h history → FitsFrom set h (map act_of history)
legal_fits set h [] legal = tt
legal_fits set h (e ∷ history) legal = (legal.0, legal_fits set (next set h e.op e.outcome.word).state history legal.2)

two_lines : (a b : Line) (xs ys : List Line) → a ≡ b → xs ≡ ys → a ∷ xs ≡ b ∷ ys
two_lines a b xs ys e f = rw (e, f) refl

entry_line : (set : Setting) (h : Flat) (e : HistoryEntry) → e.outcome ≡ outcome_of set h (act_of e) → line_of_entry e ≡ line_of set h (act_of e)
entry_line set h e same = ap (λ (o : Outcome). record { shown = if o.is_masked then None else Some e.op; word = o.word; fate = o.fate; outs = o.outs }) same

pub legal_lines : (set : Setting) (h : Flat) (history : List HistoryEntry) → LegalFrom set h history → map line_of_entry history ≡ lines_from set h (map act_of history)
legal_lines set h [] legal = refl
legal_lines set h (e ∷ history) legal = two_lines (line_of_entry e) (line_of set h (act_of e)) _ _ (entry_line set h e legal.1) (legal_lines set (next set h e.op e.outcome.word).state history legal.2)
