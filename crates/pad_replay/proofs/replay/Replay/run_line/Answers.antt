use Rattle.std.proofs.Common.{arith, refl, subst, sym, ◌≤◌}
use Rattle.flat_machine.specs.KeyLayout.{key_layout}
use Rattle.pad_replay.proofs.RunLemmas.{arms-later, ran-arm, ran-none}
use Rattle.pad_replay.proofs.TieLemmas.{tied-arm}
use Rattle.pad_replay.specs.Parts.{RunsPart}
use Rattle.pad_replay.specs.Replays.{progress_of}
use Rattle.pad_replay.specs.Runs.{line_then, program_setting}
use Rattle.script_lang.specs.declared.kinds.Line.{Line}
use Rattle.pad_replay.proofs.replay.Replay.run_line.Goals as goal

pub returns-in-Auto-clause-ran : goal.returns-in-Auto-clause-ran
returns-in-Auto-clause-ran g c = rw c.in-Auto.is c.take_due_steps.ensures.ran

pub returns-in-Auto-clause-broke : goal.returns-in-Auto-clause-broke
returns-in-Auto-clause-broke g c = rw c.in-Auto.is c.take_due_steps.ensures.broke

pub returns-in-Auto-clause-taken : goal.returns-in-Auto-clause-taken
returns-in-Auto-clause-taken g c = rw c.in-Auto.is c.take_due_steps.ensures.taken

pub returns-in-Blank-clause-ran : goal.returns-in-Blank-clause-ran
returns-in-Blank-clause-ran g c = subst (λ (line : Line). RunsPart (λ seed. line_then seed line) (progress_of c.args.self.now (g.K.Sink.given c.args.sink.now.inner) (g.D.Disk.state c.args.disk.now)) (progress_of c.args.self.now (g.K.Sink.given c.args.sink.now.inner) (g.D.Disk.state c.args.disk.now))) (sym c.in-Blank.is)
    (λ seed start rest stands. ran-none seed start _ _ rest stands refl refl refl (c.disk_runs_join.ensures.none key_layout (program_setting seed) start c.args.disk.now))

pub arm-requires : goal.arm-requires
arm-requires g c = let later : 1 ≤ c.in-Arm.call = arms-later c.args.line c.in-Arm.call c.in-Arm.strike c.in-Arm.is c.requires.spelled in omega arith

pub returns-in-Arm-clause-tied : goal.returns-in-Arm-clause-tied
returns-in-Arm-clause-tied g c = tied-arm (g.D.Disk.state c.args.disk.now) (g.D.Disk.state c.arm.new.self) c.in-Arm.call c.in-Arm.strike c.arm.ensures c.args.self.now.pad c.requires.tied

pub returns-in-Arm-clause-ran : goal.returns-in-Arm-clause-ran
returns-in-Arm-clause-ran g c = subst (λ (line : Line). RunsPart (λ seed. line_then seed line) (progress_of c.args.self.now (g.K.Sink.given c.args.sink.now.inner) (g.D.Disk.state c.args.disk.now)) (progress_of c.args.self.now (g.K.Sink.given c.args.sink.now.inner) (g.D.Disk.state c.arm.new.self))) (sym c.in-Arm.is)
    (λ seed start rest stands. ran-arm seed start _ _ c.in-Arm.call c.in-Arm.strike rest stands refl refl refl (c.disk_runs_join.ensures.arm key_layout (program_setting seed) start c.in-Arm.call c.in-Arm.strike c.args.disk.now c.arm.new.self c.arm.ensures))

pub returns-in-Do-clause-taken : goal.returns-in-Do-clause-taken
returns-in-Do-clause-taken g c = rw c.in-Do.is c.take_step.ensures.taken
