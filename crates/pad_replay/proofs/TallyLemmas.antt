-- The counts of a run, part by part.
use Rattle.flat_machine.specs.Machine.{Act, line_of, lines_from, next, run_from}
use Rattle.flat_machine.specs.State.{Flat}
use Rattle.pad_replay.specs.Runs.{program_setting}
use Rattle.pad_replay.specs.Tallies.{capped, count_after, counted, cut_in, is_answer, is_refusal, is_request, is_yes, no_counts, outs_in, step_in, tally_after, tally_of}
use Rattle.pad_replay.specs.declared.tally.Tally.{Tally}
use Rattle.pad_steps.specs.Lines.{Line as PrintedLine}
use Rattle.std.proofs.Common.{ap, arith, refl, sym, ◌∙◌}
use Rattle.std.specs.Prelude.{List, [], ℕ, ◌+◌, ◌-◌, ◌^◌, ◌++◌, ◌∷◌, ◌≡◌, ◌≤◌}

count_after-append : (count : PrintedLine → ℕ) (before : ℕ) (firsts others : List PrintedLine) → count_after count (count_after count before firsts) others ≡ count_after count before (firsts ++ others)
count_after-append count before [] others = refl
count_after-append count before (line ∷ firsts) others = count_after-append count (capped (before + count line)) firsts others

-- the counts after lines, and after more lines
pub tally_after-append : (tally : Tally) (firsts others : List PrintedLine) → tally_after (tally_after tally firsts) others ≡ tally_after tally (firsts ++ others)
tally_after-append tally firsts others = λ i. record {
  steps = count_after-append step_in tally.steps firsts others i;
  requests = count_after-append (outs_in is_request) tally.requests firsts others i;
  answers = count_after-append (outs_in is_answer) tally.answers firsts others i;
  refusals = count_after-append (outs_in is_refusal) tally.refusals firsts others i;
  yes = count_after-append (outs_in is_yes) tally.yes firsts others i;
  cuts = count_after-append cut_in tally.cuts firsts others i;
}

-- the lines of steps, and of more steps
lines_from-append : (seed : List ℕ) (start : Flat) (firsts others : List Act)
    → lines_from (program_setting seed) start (firsts ++ others) ≡ lines_from (program_setting seed) start firsts ++ lines_from (program_setting seed) (run_from (program_setting seed) start firsts) others
lines_from-append seed start [] others = refl
lines_from-append seed start (act ∷ firsts) others = ap (λ (lines : List PrintedLine). line_of (program_setting seed) start act ∷ lines) (lines_from-append seed (next (program_setting seed) start act.step act.word).state firsts others)

-- the counts after steps, and after more steps
pub tally-then : (seed : List ℕ) (start : Flat) (firsts others : List Act) (one two three : Tally)
    → two ≡ tally_after one (lines_from (program_setting seed) start firsts)
    → three ≡ tally_after two (lines_from (program_setting seed) (run_from (program_setting seed) start firsts) others)
    → three ≡ tally_after one (lines_from (program_setting seed) start (firsts ++ others))
tally-then seed start firsts others one two three first second =
    second
    ∙ ap (λ (t : Tally). tally_after t (lines_from (program_setting seed) (run_from (program_setting seed) start firsts) others)) first
    ∙ tally_after-append one (lines_from (program_setting seed) start firsts) (lines_from (program_setting seed) (run_from (program_setting seed) start firsts) others)
    ∙ ap (tally_after one) (sym (lines_from-append seed start firsts others))

-- a count of 64 bits after more lines
capped-more : (a b : ℕ) → capped (capped a + b) ≡ capped (a + b)
capped-more a b = omega arith

capped-within : (a : ℕ) → a ≤ 2 ^ 64 - 1 → a ≡ capped (a + 0)
capped-within a within = omega (arith, within)

capped-small : (a : ℕ) → capped a ≤ 2 ^ 64 - 1
capped-small a = omega arith

count_after-is : (count : PrintedLine → ℕ) (before : ℕ) (lines : List PrintedLine) → before ≤ 2 ^ 64 - 1 → count_after count before lines ≡ capped (before + counted count lines)
count_after-is count before [] within = capped-within before within
count_after-is count before (line ∷ lines) within =
    let sums : (before + count line) + counted count lines ≡ before + (count line + counted count lines) = omega arith in
    count_after-is count (capped (before + count line)) lines (capped-small (before + count line))
    ∙ capped-more (before + count line) (counted count lines)
    ∙ ap capped sums

count_after-all : (count : PrintedLine → ℕ) (lines : List PrintedLine) → count_after count 0 lines ≡ capped (counted count lines)
count_after-all count lines = count_after-is count 0 lines (omega arith) ∙ ap capped (omega arith)

-- the counts after all lines of a run
pub tally_after-all : (lines : List PrintedLine) → tally_after no_counts lines ≡ tally_of lines
tally_after-all lines = λ i. record {
  steps = count_after-all step_in lines i;
  requests = count_after-all (outs_in is_request) lines i;
  answers = count_after-all (outs_in is_answer) lines i;
  refusals = count_after-all (outs_in is_refusal) lines i;
  yes = count_after-all (outs_in is_yes) lines i;
  cuts = count_after-all cut_in lines i;
}
