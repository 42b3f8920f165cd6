-- A run of the generated script summed up.
use Rattle.std.proofs.Common.{ap, arith, refl, subst, sym, ◌∙◌}
use Rattle.disk_core.specs.Streams.{GivesFront}
use Rattle.pad_replay.proofs.RunLemmas.{with_more-none}
use Rattle.pad_replay.proofs.TallyLemmas.{tally_after-all}
use Rattle.pad_replay.specs.CommandLine.{Asked, Generates, Replays, asked_by, rounds_asked, rounds_in, script_asked, script_in, seed_asked, seed_in}
use Rattle.pad_replay.specs.Endings.{LinesEnd}
use Rattle.pad_replay.specs.Generated.{generated_lines}
use Rattle.pad_replay.specs.Outcomes.{summary_by}
use Rattle.pad_replay.specs.Parts.{Progress}
use Rattle.pad_replay.specs.Runs.{printed_by}
use Rattle.pad_replay.specs.Tallies.{no_counts, tally_after, tally_text}
use Rattle.pad_replay.specs.declared.script_run.Course.{Course}
use Rattle.pad_replay.specs.declared.script_run.End.{End}
use Rattle.pad_replay.specs.declared.script_run.End.TheVariants as ends
use Rattle.pad_replay.specs.declared.tally.Tally.{Tally}
use Rattle.std.specs.Global.{Global}
use Rattle.std.specs.declared.string.String.{String}
use Rattle.std.specs.Prelude.{IfSome, List, Option, Some, ℕ, ◌≡◌, ◌≢◌}

-- the line of the counts is that of the summary
pub summed-up : (seed : List ℕ) (rounds : ℕ) (course : Course) (before after : Progress) → before.tally ≡ no_counts → LinesEnd seed (generated_lines rounds) course before after → course.end ≡ ends.Whole
    → tally_text rounds after.tally ≡ summary_by seed rounds after.words
summed-up seed rounds course before after fresh end whole =
    ap (tally_text rounds) (end.counted whole ∙ ap (λ (t : Tally). tally_after t (printed_by seed (generated_lines rounds) after.words)) fresh ∙ tally_after-all (printed_by seed (generated_lines rounds) after.words))

-- nothing of a line was given
pub front-none : (given now : Option (List ℕ)) (text : List ℕ) → now ≡ given → GivesFront given now text
front-none given now text same = (0, omega arith, same ∙ with_more-none given)

-- a run ended whole, or it did not
pub whole-or-not : {A : Type 0} (end : End) → (end ≡ ends.Whole → A) → (end ≢ ends.Whole → A) → A
whole-or-not ends.Whole whole broken = whole refl
whole-or-not ends.BadLine whole broken = broken (λ is. cc)
whole-or-not ends.SourceFailed whole broken = broken (λ is. cc)
whole-or-not ends.SinkFailed whole broken = broken (λ is. cc)
whole-or-not ends.NoMemory whole broken = broken (λ is. cc)

-- where the sink failed at the summary, the run had ended whole
pub whole-before : (end result : End) → (end ≢ ends.Whole → result ≡ end) → end ≢ ends.SinkFailed → result ≡ ends.SinkFailed → end ≡ ends.Whole
whole-before end result untold no_sink failed = whole-or-not end (λ is. is) (λ broken. absurd (no_sink (sym (untold broken) ∙ failed)))

-- ---- what the words ask for

module _ (words : List (String Global)) where
  -- a fact of a script whose replay the words ask for
  pub of-script : (script : Option (List ℕ)) (path : Option (List ℕ)) (seed : List ℕ) (P : List ℕ → List ℕ → Type 0) → asked_by words ≡ Some (Replays path seed)
      → IfSome script (P seed) → IfSome (script_in words script) (P (seed_in words))
  of-script script path seed P asked holds = subst (λ (a : Option Asked). IfSome (script_asked a script) (P (seed_asked a))) (sym asked) holds

  -- a fact of the rounds that the words ask for
  pub of-rounds : (rounds : ℕ) (P : List ℕ → ℕ → Type 0) → asked_by words ≡ Some (Generates rounds)
      → P (seed_asked (Some (Generates rounds))) rounds → IfSome (rounds_in words) (P (seed_in words))
  of-rounds rounds P asked holds = subst (λ (a : Option Asked). IfSome (rounds_asked a) (P (seed_asked a))) (sym asked) holds
