use Rattle.std.proofs.Common.{arith, refl, sym}
use Rattle.flat_machine.specs.KeyLayout.{key_layout}
use Rattle.pad_replay.proofs.RunLemmas.{auto_then-over, due-broke, due-last, due-ran, ran-none, ran-over, wordless-auto}
use Rattle.pad_replay.specs.Runs.{auto_then, program_setting}
use Rattle.pad_replay.proofs.replay.Replay.take_due_steps.Goals as goal

pub loop-step-init : goal.loop-step-init
loop-step-init g c = record {
  ran = λ seed start rest stands. ran-none seed start _ _ (auto_then seed rest) stands refl refl refl (c.disk_runs_join.ensures.none key_layout (program_setting seed) start c.args.disk.now);
  later = omega arith;
  ids = omega arith;
  tied = c.requires.tied;
}

pub loop-step-preserved : goal.loop-step-preserved
loop-step-preserved g c = record {
  ran = λ seed start rest stands. due-ran seed start rest c.in-Some.step _ _ _ (λ firsts others. c.disk_runs_join.ensures.joined key_layout (program_setting seed) start firsts others c.args.disk.now c.loop-step.disk c.take_step.new.disk) (c.loop-step.invariant.ran seed start rest stands)
      (λ state now. sym (c.in-Some.ensures.due seed state now)) (λ state now. c.in-Ok.ensures.ran seed state (auto_then seed rest) now);
  later = omega (arith, c.loop-step.invariant.later, c.in-Ok.ensures.later);
  ids = omega (arith, c.loop-step.invariant.ids, c.in-Ok.ensures.ids, c.in-Some.ensures.draws);
  tied = c.in-Ok.ensures.tied;
}

pub returns-in-Err-clause-broke : goal.returns-in-Err-clause-broke
returns-in-Err-clause-broke g c = λ seed start rest none stands.
    due-broke seed start rest c.in-Some.step _ _ _ (λ firsts others. c.disk_runs_join.ensures.joined key_layout (program_setting seed) start firsts others c.args.disk.now c.loop-step.disk c.take_step.new.disk) (c.loop-step.invariant.ran seed start rest stands)
    (λ state now. sym (c.in-Some.ensures.due seed state now)) c.in-Err.stop.is_taken c.with_due_steps.result.is_taken
    (λ state now. c.in-Err.ensures.broke seed state (auto_then seed rest) (wordless-auto seed rest none) now)
    (λ taken state now. c.in-Err.ensures.taken taken seed state (auto_then seed rest) now)
    (λ all. (c.with_due_steps.ensures.taken all).0) c.with_due_steps.ensures.due

pub returns-in-Err-clause-taken : goal.returns-in-Err-clause-taken
returns-in-Err-clause-taken g c = λ all seed start rest stands.
    due-last seed start rest c.in-Some.step _ _ _ (λ firsts others. c.disk_runs_join.ensures.joined key_layout (program_setting seed) start firsts others c.args.disk.now c.loop-step.disk c.take_step.new.disk) (c.loop-step.invariant.ran seed start rest stands)
    (λ state now. sym (c.in-Some.ensures.due seed state now))
    (λ state now. c.in-Err.ensures.taken (c.with_due_steps.ensures.taken all).0 seed state (auto_then seed rest) now) (c.with_due_steps.ensures.taken all).1

pub returns-clause-ran : goal.returns-clause-ran
returns-clause-ran g c = λ seed start rest stands. ran-over seed start _ _ (auto_then seed rest) (auto_then seed rest) rest (c.loop-step.invariant.ran seed start rest stands)
    (λ later ws now. auto_then-over seed rest later ws (sym (c.in_default.ensures.due seed later now)))
