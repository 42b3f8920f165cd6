use Rattle.std.proofs.Common.{ap, refl, ◌∙◌}
use Rattle.std.specs.Prelude.{List, [], ◌++◌, ◌∷◌}
use Rattle.flat_machine.specs.KeyLayout.{key_layout}
use Rattle.pad_steps.specs.declared.steps.DiskWord.{DiskWord}
use Rattle.pad_replay.proofs.RunLemmas.{broke-none, broke-step, ran-step, step-taken, took-step, wordless-step}
use Rattle.pad_replay.specs.Replays.{progress_of}
use Rattle.pad_replay.specs.Runs.{program_setting, step_then}
use Rattle.pad_replay.proofs.replay.Replay.take_step.Goals as goal

pub returns-in_default-clause-broke : goal.returns-in_default-clause-broke
returns-in_default-clause-broke g c = λ seed start rest none stands.
    broke-none seed start _ _ (step_then seed c.args.step.now rest) _ (wordless-step seed c.args.step.now rest) (λ not_taken. refl) c.reserve.ensures.items refl
    (c.disk_runs_join.ensures.none key_layout (program_setting seed) start c.args.disk.now)

pub returns-in_default-step-clause-broke : goal.returns-in_default-step-clause-broke
returns-in_default-step-clause-broke g c = λ seed start rest none stands. rw c.in_default-step.ensures.disk_err
    (broke-none seed start _ _ (step_then seed c.args.step.now rest) _ (wordless-step seed c.args.step.now rest) (λ not_taken. refl) c.reserve.ensures.items refl
    (c.disk_runs_join.ensures.none key_layout (program_setting seed) start c.args.disk.now))

pub returns-in-Ok-printed-clause-ran : goal.returns-in-Ok-printed-clause-ran
returns-in-Ok-printed-clause-ran g c = λ seed start rest stands.
    ran-step seed start _ _ c.args.step.now c.in-Ok-step.stepped.word _ rest
    (step-taken seed start (progress_of c.args.self.now (g.K.Sink.given c.args.sink.now.inner) (g.D.Disk.state c.args.disk.now)) _ c.args.step.now c.in-Ok-step.stepped c.is_masked-is_masked.result c.clear.new.self.items c.step.new.out.items stands (c.in-Ok-step.ensures.machine seed start stands) c.clear.ensures (c.is_masked-is_masked.ensures seed start stands) c.in-Ok-step.ensures.on_disk
    (λ on. c.disk_runs_join.ensures.step key_layout (program_setting seed) start (record { step = c.args.step.now; word = c.in-Ok-step.stepped.word }) c.args.disk.now c.step.new.disk c.key_layout_tells_apart.ensures on)
    (c.push_reserved.ensures.items ∙ ap (λ (words : List DiskWord). words ++ c.in-Ok-step.stepped.word ∷ []) c.reserve.ensures.items)
    c.count_step.ensures)
    c.in-Ok-printed.ensures.ok

pub returns-in-Err-clause-broke : goal.returns-in-Err-clause-broke
returns-in-Err-clause-broke g c = λ seed start rest none stands.
    broke-step seed start _ _ c.args.step.now c.in-Ok-step.stepped.word _ rest none
    (step-taken seed start (progress_of c.args.self.now (g.K.Sink.given c.args.sink.now.inner) (g.D.Disk.state c.args.disk.now)) _ c.args.step.now c.in-Ok-step.stepped c.is_masked-is_masked.result c.clear.new.self.items c.step.new.out.items stands (c.in-Ok-step.ensures.machine seed start stands) c.clear.ensures (c.is_masked-is_masked.ensures seed start stands) c.in-Ok-step.ensures.on_disk
    (λ on. c.disk_runs_join.ensures.step key_layout (program_setting seed) start (record { step = c.args.step.now; word = c.in-Ok-step.stepped.word }) c.args.disk.now c.step.new.disk c.key_layout_tells_apart.ensures on)
    (c.push_reserved.ensures.items ∙ ap (λ (words : List DiskWord). words ++ c.in-Ok-step.stepped.word ∷ []) c.reserve.ensures.items)
    c.count_step.ensures)
    c.in-Err.ensures.err

pub returns-in-Err-clause-taken : goal.returns-in-Err-clause-taken
returns-in-Err-clause-taken g c = λ taken seed start rest stands.
    took-step seed start _ _ c.args.step.now c.in-Ok-step.stepped.word _ rest
    (step-taken seed start (progress_of c.args.self.now (g.K.Sink.given c.args.sink.now.inner) (g.D.Disk.state c.args.disk.now)) _ c.args.step.now c.in-Ok-step.stepped c.is_masked-is_masked.result c.clear.new.self.items c.step.new.out.items stands (c.in-Ok-step.ensures.machine seed start stands) c.clear.ensures (c.is_masked-is_masked.ensures seed start stands) c.in-Ok-step.ensures.on_disk
    (λ on. c.disk_runs_join.ensures.step key_layout (program_setting seed) start (record { step = c.args.step.now; word = c.in-Ok-step.stepped.word }) c.args.disk.now c.step.new.disk c.key_layout_tells_apart.ensures on)
    (c.push_reserved.ensures.items ∙ ap (λ (words : List DiskWord). words ++ c.in-Ok-step.stepped.word ∷ []) c.reserve.ensures.items)
    c.count_step.ensures)
