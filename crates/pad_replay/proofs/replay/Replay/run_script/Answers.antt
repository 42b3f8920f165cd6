use Rattle.std.proofs.Common.{ap, arith, refl, subst, ◌∙◌}
use Rattle.std.specs.Global.{Vec}
use Rattle.std.specs.Prelude.{Err, Some, [], length, ℕ, ◌+◌, ◌≡◌}
use Rattle.pad_steps.specs.declared.steps.DiskWord.{DiskWord}
use Rattle.pad_replay.specs.declared.script_reader.ReadFault.{ReadFault}
use Rattle.flat_machine.specs.KeyLayout.{key_layout}
use Rattle.flat_machine.specs.State.{opening}
use Rattle.pad_replay.proofs.DiskLemmas.{if_some-some, if_some-then}
use Rattle.pad_replay.proofs.EndLemmas.{end-whole, ends-at-bad-line, ends-in-line, ends-unread-at, ran-line, ran-no_line, taken-of, text-fact}
use Rattle.pad_replay.proofs.ScriptLemmas.{feeds_in-open}
use Rattle.pad_replay.specs.NextLines.{IsEnd, IsFirstLine, IsNext}
use Rattle.pad_replay.specs.Runs.{program_setting}
use Rattle.script_lang.specs.Lines.{still}
use Rattle.pad_replay.proofs.replay.Replay.run_script.Goals as goal

pub loop-line-init : goal.loop-line-init
loop-line-init g c = rw c.requires.new_reader (record {
  ran = if_some-some (g.S.Source.left c.args.source.now) (λ script is. (script, ap (still []) is, λ seed stands. ran-no_line seed script _ stands (c.disk_runs_join.ensures.none key_layout (program_setting seed) opening c.args.disk.now)));
  few = omega arith;
  lines = refl;
  most = omega arith;
  ids = omega (arith, ap length c.requires.fresh);
  tied = c.requires.tied;
  source_later = omega arith;
  sink_later = omega arith;
})

pub loop-line-preserved : goal.loop-line-preserved
loop-line-preserved g c = record {
  ran = if_some-then (g.S.Source.left c.args.source.now) (λ script fact.
      let found : IsNext c.loop-line.count fact.0 (still c.next_line.new.reader.kept (g.S.Source.left c.next_line.new.source)) c.in-Ok-Line.field-0 = subst (λ (n : ℕ). IsNext n fact.0 (still c.next_line.new.reader.kept (g.S.Source.left c.next_line.new.source)) c.in-Ok-Line.field-0) c.loop-line.invariant.lines (text-fact (still c.loop-line.reader.kept (g.S.Source.left c.loop-line.source)) fact.0 (λ text. IsNext c.loop-line.reader.lines text (still c.next_line.new.reader.kept (g.S.Source.left c.next_line.new.source)) c.in-Ok-Line.field-0) fact.1 c.in-Ok-Line.ensures.next) in
      let first : IsFirstLine c.loop-line.count fact.0 (still c.next_line.new.reader.kept (g.S.Source.left c.next_line.new.source)) c.in-Ok-Line.line = rw c.in-Ok-Line.field-0-is at found in
      (first.rest, first.left, λ seed stands. ran-line seed script c.loop-line.count fact.0 c.in-Ok-Line.line (still c.next_line.new.reader.kept (g.S.Source.left c.next_line.new.source)) _ _ _ (λ firsts others. c.disk_runs_join.ensures.joined key_layout (program_setting seed) opening firsts others c.args.disk.now c.loop-line.disk c.run_line.new.disk) (fact.2 seed stands) first c.in-Ok.ensures.ran)) c.loop-line.invariant.ran;
  few = (rw c.in-Ok-Line.field-0-is at c.in-Ok-Line.ensures.goes_on).kept;
  lines = (rw c.in-Ok-Line.field-0-is at c.in-Ok-Line.ensures.goes_on).lines ∙ ap (λ (n : ℕ). n + 1) c.loop-line.invariant.lines;
  most = omega (arith, (rw c.in-Ok-Line.field-0-is at c.in-Ok-Line.ensures.goes_on).before, c.loop-line.invariant.lines);
  ids = omega (arith, c.loop-line.invariant.ids, c.in-Ok.ensures.ids);
  tied = c.in-Ok.ensures.tied;
  source_later = omega (arith, c.loop-line.invariant.source_later, c.in-Ok-Line.ensures.later);
  sink_later = omega (arith, c.loop-line.invariant.sink_later, c.in-Ok.ensures.later);
}

pub returns-in-Err-run_line-clause-ends : goal.returns-in-Err-run_line-clause-ends
returns-in-Err-run_line-clause-ends g c = if_some-then (g.S.Source.left c.args.source.now) (λ script fact seed stands.
    let found : IsNext c.loop-line.count fact.0 (still c.next_line.new.reader.kept (g.S.Source.left c.next_line.new.source)) c.in-Ok-Line.field-0 = subst (λ (n : ℕ). IsNext n fact.0 (still c.next_line.new.reader.kept (g.S.Source.left c.next_line.new.source)) c.in-Ok-Line.field-0) c.loop-line.invariant.lines (text-fact (still c.loop-line.reader.kept (g.S.Source.left c.loop-line.source)) fact.0 (λ text. IsNext c.loop-line.reader.lines text (still c.next_line.new.reader.kept (g.S.Source.left c.next_line.new.source)) c.in-Ok-Line.field-0) fact.1 c.in-Ok-Line.ensures.next) in
    let first : IsFirstLine c.loop-line.count fact.0 (still c.next_line.new.reader.kept (g.S.Source.left c.next_line.new.source)) c.in-Ok-Line.line = rw c.in-Ok-Line.field-0-is at found in
    ends-in-line seed script c.loop-line.count fact.0 c.in-Ok-Line.line (still c.next_line.new.reader.kept (g.S.Source.left c.next_line.new.source)) _ _ _ (λ firsts others. c.disk_runs_join.ensures.joined key_layout (program_setting seed) opening firsts others c.args.disk.now c.loop-line.disk c.run_line.new.disk) (fact.2 seed stands) first c.in-Err-run_line.stop.is_taken (λ acts twin twins. c.twins_print_alike.ensures (program_setting seed) opening acts twin twins) c.broken_off.result _ c.requires.told (λ deeds unread on. c.store_history_goes_on.ensures.unloaded key_layout (program_setting seed) opening deeds c.args.disk.now c.run_line.new.disk refl refl unread on)
    c.broken_off.ensures.others.0 c.broken_off.ensures.others.1.0 c.broken_off.ensures.others.1.1 c.broken_off.ensures.taken c.broken_off.ensures.not_taken c.in-Err-run_line.ensures.broke c.in-Err-run_line.ensures.taken) c.loop-line.invariant.ran

pub returns-in-Ok-End-clause-ends : goal.returns-in-Ok-End-clause-ends
returns-in-Ok-End-clause-ends g c = if_some-then (g.S.Source.left c.args.source.now) (λ script fact seed stands.
    let found : IsNext c.loop-line.count fact.0 (still c.next_line.new.reader.kept (g.S.Source.left c.next_line.new.source)) c.in-Ok-End.field-0 = subst (λ (n : ℕ). IsNext n fact.0 (still c.next_line.new.reader.kept (g.S.Source.left c.next_line.new.source)) c.in-Ok-End.field-0) c.loop-line.invariant.lines (text-fact (still c.loop-line.reader.kept (g.S.Source.left c.loop-line.source)) fact.0 (λ text. IsNext c.loop-line.reader.lines text (still c.next_line.new.reader.kept (g.S.Source.left c.next_line.new.source)) c.in-Ok-End.field-0) fact.1 c.in-Ok-End.ensures.next) in
    let last : IsEnd c.loop-line.count fact.0 (still c.next_line.new.reader.kept (g.S.Source.left c.next_line.new.source)) = rw c.in-Ok-End.field-0-is at found in
    end-whole seed script (λ acts twin twins. c.twins_print_alike.ensures (program_setting seed) opening acts twin twins) c.loop-line.count fact.0 _ _ _ c.requires.told (fact.2 seed stands) _ _ (λ deeds unread on. c.store_history_goes_on.ensures.unloaded key_layout (program_setting seed) opening deeds c.args.disk.now c.loop-line.disk refl refl unread on) refl refl last.are (c.texts_end_once.ensures.left c.next_line.new.reader.kept _ last.left) refl refl refl) c.loop-line.invariant.ran

pub returns-in-Ok-BadLine-clause-ends : goal.returns-in-Ok-BadLine-clause-ends
returns-in-Ok-BadLine-clause-ends g c = if_some-then (g.S.Source.left c.args.source.now) (λ script fact seed stands.
    let found : IsNext c.loop-line.count fact.0 (still c.next_line.new.reader.kept (g.S.Source.left c.next_line.new.source)) c.in-Ok-BadLine.field-0 = subst (λ (n : ℕ). IsNext n fact.0 (still c.next_line.new.reader.kept (g.S.Source.left c.next_line.new.source)) c.in-Ok-BadLine.field-0) c.loop-line.invariant.lines (text-fact (still c.loop-line.reader.kept (g.S.Source.left c.loop-line.source)) fact.0 (λ text. IsNext c.loop-line.reader.lines text (still c.next_line.new.reader.kept (g.S.Source.left c.next_line.new.source)) c.in-Ok-BadLine.field-0) fact.1 c.in-Ok-BadLine.ensures.next) in
    ends-at-bad-line seed script c.loop-line.count fact.0 _ _ _ (λ firsts others. c.disk_runs_join.ensures.joined key_layout (program_setting seed) opening firsts others c.args.disk.now c.loop-line.disk c.loop-line.disk) (fact.2 seed stands) (λ acts twin twins. c.twins_print_alike.ensures (program_setting seed) opening acts twin twins) c.end_at_bad_line.result _ c.requires.told (λ deeds unread on. c.store_history_goes_on.ensures.unloaded key_layout (program_setting seed) opening deeds c.args.disk.now c.loop-line.disk refl refl unread on) (ap (λ (words : Vec DiskWord). words.items) c.end_at_bad_line.ensures.words) refl (λ state. c.disk_runs_join.ensures.none key_layout (program_setting seed) state c.loop-line.disk)
    c.end_at_bad_line.result.end refl (rw c.in-Ok-BadLine.field-0-is at found) c.end_at_bad_line.ensures.others.0 c.end_at_bad_line.ensures.others.1 c.end_at_bad_line.ensures.marked c.end_at_bad_line.ensures.broke) c.loop-line.invariant.ran

pub returns-in-Err-clause-ends : goal.returns-in-Err-clause-ends
returns-in-Err-clause-ends g c = if_some-then (g.S.Source.left c.args.source.now) (λ script fact seed stands.
    ends-unread-at seed script c.loop-line.count fact.0 _ _ (λ firsts others. c.disk_runs_join.ensures.joined key_layout (program_setting seed) opening firsts others c.args.disk.now c.loop-line.disk c.loop-line.disk) (fact.2 seed stands) (λ acts twin twins. c.twins_print_alike.ensures (program_setting seed) opening acts twin twins) (record { end = c.end_of_reading.result; line = c.loop-line.count }) _ c.requires.told (λ deeds unread on. c.store_history_goes_on.ensures.unloaded key_layout (program_setting seed) opening deeds c.args.disk.now c.loop-line.disk refl refl unread on) (λ state. c.disk_runs_join.ensures.none key_layout (program_setting seed) state c.loop-line.disk)
    c.end_of_reading.ensures.others.0 c.end_of_reading.ensures.others.1.0 refl
    (λ failed.
    let unread = c.next_line.ensures.unread (c.in-Err.is ∙ ap (λ (fault : ReadFault). Err fault) (c.end_of_reading.ensures.failed.0 failed)) in
    taken-of script fact.0 c.next_line.new.reader.kept (fact.2 seed stands).cut _ c.loop-line.count (fact.2 seed stands).parts (fact.2 seed stands).feeds
    (text-fact (still c.loop-line.reader.kept (g.S.Source.left c.loop-line.source)) fact.0 (λ text. (still c.next_line.new.reader.kept (g.S.Source.left c.next_line.new.source)) ≡ Some text) fact.1 unread.1.text) (feeds_in-open c.next_line.new.reader.kept unread.0.feed))) c.loop-line.invariant.ran
