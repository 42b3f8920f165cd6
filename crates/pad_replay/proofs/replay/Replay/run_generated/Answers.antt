use Rattle.std.proofs.Common.{ap, arith, length, refl, subst, sym, ◌≡◌}
use Rattle.flat_machine.specs.KeyLayout.{key_layout}
use Rattle.flat_machine.specs.State.{opening}
use Rattle.pad_replay.proofs.LineLemmas.{broke-line, broke-many, ended-counted, ended-each, ends-broken, front-line, front-many, front-none, stopped-deeds}
use Rattle.pad_replay.specs.Generators.{lines_left}
use Rattle.pad_replay.specs.Outcomes.{RanSoMany}
use Rattle.pad_replay.specs.Parts.{RanFront}
use Rattle.pad_replay.specs.Replays.{progress_of}
use Rattle.pad_replay.specs.Runs.{program_setting}
use Rattle.script_lang.specs.Spelling.{is_spelled}
use Rattle.script_lang.specs.declared.kinds.Line.{Line}
use Rattle.std.specs.Prelude.{IsTrue, List, None, [], ◌∷◌, ℕ}
use Rattle.pad_replay.proofs.replay.Replay.run_generated.Goals as goal

pub loop-line-init : goal.loop-line-init
loop-line-init g c = record {
  ran = λ seed stands. front-none seed (lines_left c.args.script.now) _ stands (c.disk_runs_join.ensures.none key_layout (program_setting seed) opening c.args.disk.now);
  within = c.requires.within;
  few = omega (arith, c.requires.few);
  ids = omega (arith, ap length c.requires.fresh);
  tied = c.requires.tied;
}

pub loop-line-preserved : goal.loop-line-preserved
loop-line-preserved g c =
    let first : (lines_left c.loop-line.script ≡ c.in-Ok-Some.line ∷ lines_left c.next_line.new.self) × IsTrue (is_spelled c.in-Ok-Some.line) = rw c.in-Ok-Some.field-0-is at c.in-Ok-Some.ensures.next in
    record {
      ran = λ seed stands. front-line seed (lines_left c.args.script.now) c.in-Ok-Some.line (lines_left c.next_line.new.self) c.loop-line.count _ _ _
          (λ firsts others. c.disk_runs_join.ensures.joined key_layout (program_setting seed) opening firsts others c.args.disk.now c.loop-line.disk c.run_line.new.disk)
          (subst (λ (all : List Line). RanFront seed (lines_left c.args.script.now) all c.loop-line.count (progress_of c.args.self.now None (g.D.Disk.state c.args.disk.now)) (progress_of c.loop-line.self None (g.D.Disk.state c.loop-line.disk))) first.0 (c.loop-line.invariant.ran seed stands))
          c.in-Ok.ensures.ran;
      within = c.next_line.ensures.within;
      few = omega (arith, ap length first.0, c.loop-line.invariant.few);
      ids = omega (arith, c.loop-line.invariant.ids, c.in-Ok.ensures.ids);
      tied = c.in-Ok.ensures.tied;
    }

pub returns-in-Err-run_line-clause-ends : goal.returns-in-Err-run_line-clause-ends
returns-in-Err-run_line-clause-ends g c = λ seed stands.
    let first : (lines_left c.loop-line.script ≡ c.in-Ok-Some.line ∷ lines_left c.next_line.new.self) × IsTrue (is_spelled c.in-Ok-Some.line) = rw c.in-Ok-Some.field-0-is at c.in-Ok-Some.ensures.next in
    let ran = subst (λ (all : List Line). RanFront seed (lines_left c.args.script.now) all c.loop-line.count (progress_of c.args.self.now None (g.D.Disk.state c.args.disk.now)) (progress_of c.loop-line.self None (g.D.Disk.state c.loop-line.disk))) first.0 (c.loop-line.invariant.ran seed stands) in
    ends-broken seed (lines_left c.args.script.now) c.without_memory.result (progress_of c.args.self.now None (g.D.Disk.state c.args.disk.now)) (progress_of c.run_line.new.self None (g.D.Disk.state c.run_line.new.disk)) c.without_memory.ensures.end
    (subst (λ (n : ℕ). RanSoMany seed (lines_left c.args.script.now) c.run_line.new.self.words.items n) (sym c.without_memory.ensures.line)
    (broke-many seed (lines_left c.args.script.now) c.in-Ok-Some.line (lines_left c.next_line.new.self) c.loop-line.count _ _ (progress_of c.run_line.new.self None (g.D.Disk.state c.run_line.new.disk))
    (λ firsts others. c.disk_runs_join.ensures.joined key_layout (program_setting seed) opening firsts others c.args.disk.now c.loop-line.disk c.run_line.new.disk) ran
    c.in-Err-run_line.stop.is_taken c.broken_off.result.line c.requires.told c.broken_off.ensures.taken c.broken_off.ensures.not_taken c.in-Err-run_line.ensures.broke c.in-Err-run_line.ensures.taken))
    (broke-line seed (lines_left c.args.script.now) c.in-Ok-Some.line (lines_left c.next_line.new.self) c.loop-line.count _ _ (progress_of c.run_line.new.self None (g.D.Disk.state c.run_line.new.disk))
    (λ firsts others. c.disk_runs_join.ensures.joined key_layout (program_setting seed) opening firsts others c.args.disk.now c.loop-line.disk c.run_line.new.disk) ran
    c.in-Err-run_line.stop.is_taken c.requires.told (λ deeds unread on. c.store_history_goes_on.ensures.unloaded key_layout (program_setting seed) opening deeds c.args.disk.now c.run_line.new.disk refl refl unread on) c.in-Err-run_line.ensures.broke)

pub returns-in-Ok-None-clause-ends : goal.returns-in-Ok-None-clause-ends
returns-in-Ok-None-clause-ends g c = λ seed stands.
    let none : lines_left c.loop-line.script ≡ [] = rw c.in-Ok-None.field-0-is at c.in-Ok-None.ensures.next in
    let ran = c.loop-line.invariant.ran seed stands in
    record {
      whole = λ is. ended-each seed (lines_left c.args.script.now) (lines_left c.loop-line.script) c.loop-line.count _ _ c.requires.told ran none;
      counted = λ is. ended-counted seed (lines_left c.args.script.now) (lines_left c.loop-line.script) c.loop-line.count _ _ c.requires.told ran none;
      many = front-many seed (lines_left c.args.script.now) (lines_left c.loop-line.script) c.loop-line.count _ _ c.requires.told ran;
      on_disk = stopped-deeds seed (lines_left c.args.script.now) (lines_left c.loop-line.script) c.loop-line.count _ _ c.requires.told ran
          (λ deeds unread on. c.store_history_goes_on.ensures.unloaded key_layout (program_setting seed) opening deeds c.args.disk.now c.loop-line.disk refl refl unread on)
          (λ state. c.disk_runs_join.ensures.none key_layout (program_setting seed) state c.loop-line.disk)
          (λ firsts others. c.disk_runs_join.ensures.joined key_layout (program_setting seed) opening firsts others c.args.disk.now c.loop-line.disk c.loop-line.disk);
    }

pub returns-in-Err-clause-ends : goal.returns-in-Err-clause-ends
returns-in-Err-clause-ends g c = λ seed stands.
    let ran = c.loop-line.invariant.ran seed stands in
    ends-broken seed (lines_left c.args.script.now) _ (progress_of c.args.self.now None (g.D.Disk.state c.args.disk.now)) (progress_of c.loop-line.self None (g.D.Disk.state c.loop-line.disk)) refl
    (front-many seed (lines_left c.args.script.now) (lines_left c.loop-line.script) c.loop-line.count _ _ c.requires.told ran)
    (stopped-deeds seed (lines_left c.args.script.now) (lines_left c.loop-line.script) c.loop-line.count _ _ c.requires.told ran
    (λ deeds unread on. c.store_history_goes_on.ensures.unloaded key_layout (program_setting seed) opening deeds c.args.disk.now c.loop-line.disk refl refl unread on)
    (λ state. c.disk_runs_join.ensures.none key_layout (program_setting seed) state c.loop-line.disk)
    (λ firsts others. c.disk_runs_join.ensures.joined key_layout (program_setting seed) opening firsts others c.args.disk.now c.loop-line.disk c.loop-line.disk))
