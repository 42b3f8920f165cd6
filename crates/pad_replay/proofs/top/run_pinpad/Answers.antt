use Rattle.std.proofs.Common.{ap, refl, sym, ◌∙◌, ◌≡◌}
use Rattle.disk_core.specs.CountedSinks.{counted_given}
use Rattle.flat_machine.specs.KeyLayout.{key_layout}
use Rattle.flat_machine.specs.State.{opening}
use Rattle.pad_replay.proofs.DiskLemmas.{if_some-then}
use Rattle.pad_replay.proofs.EndLemmas.{nothing-ran}
use Rattle.pad_replay.proofs.RoundLemmas.{of-script}
use Rattle.pad_replay.specs.Asked.{asked_of}
use Rattle.pad_replay.specs.CommandLine.{Replays, asked_by}
use Rattle.pad_replay.specs.Outcomes.{EndsAtBadLine, EndsUnread, EndsWell, GaveFront, RanSoMany}
use Rattle.pad_replay.specs.Parts.{RunsOnDisk}
use Rattle.pad_replay.specs.Runs.{deeds_of, program_setting}
use Rattle.pad_replay.specs.Script.{lines_of}
use Rattle.pad_replay.specs.declared.command_line.Request.{Request}
use Rattle.std.specs.Option.{option_copied, option_map}
use Rattle.std.specs.Prelude.{Some}
use Rattle.pad_replay.proofs.top.run_pinpad.Goals as goal

pub returns-clause-whole : goal.returns-clause-whole
returns-clause-whole g c = λ zero.
    let asked : asked_by c.args.words.now ≡ Some (Replays (option_copied c.in-Replay.field-0) c.in-Replay.seed) =
    sym c.request_of.ensures.asked ∙ ap (option_map asked_of) (c.in-Some.is ∙ ap (λ (request : Request). Some request) c.in-Replay.is) in
    of-script c.args.words.now (g.S.Source.left c.args.source.now) (option_copied c.in-Replay.field-0) c.in-Replay.seed
    (λ seed script. EndsWell seed script c.into_words.result c.run_script-course.result.line (g.S.Source.left c.run_script-course.new.source) (counted_given g.K.Sink.given c.args.sink.now) (counted_given g.K.Sink.given c.run_script-course.new.sink) (g.D.Disk.state c.args.disk.now) (g.D.Disk.state c.run_script-course.new.disk))
    asked (rw c.into_words.ensures (if_some-then (g.S.Source.left c.args.source.now) (λ script ends. (ends c.in-Replay.seed c.in-Ok.ensures.stands).whole (c.status_of.ensures.whole.0 zero)) c.run_script-course.ensures.ends))

pub returns-clause-bad_line : goal.returns-clause-bad_line
returns-clause-bad_line g c = λ one.
    let asked : asked_by c.args.words.now ≡ Some (Replays (option_copied c.in-Replay.field-0) c.in-Replay.seed) =
    sym c.request_of.ensures.asked ∙ ap (option_map asked_of) (c.in-Some.is ∙ ap (λ (request : Request). Some request) c.in-Replay.is) in
    of-script c.args.words.now (g.S.Source.left c.args.source.now) (option_copied c.in-Replay.field-0) c.in-Replay.seed
    (λ seed script. EndsAtBadLine seed script c.into_words.result c.run_script-course.result.line (counted_given g.K.Sink.given c.args.sink.now) (counted_given g.K.Sink.given c.run_script-course.new.sink) (g.D.Disk.state c.args.disk.now) (g.D.Disk.state c.run_script-course.new.disk))
    asked (rw c.into_words.ensures (if_some-then (g.S.Source.left c.args.source.now) (λ script ends. (ends c.in-Replay.seed c.in-Ok.ensures.stands).bad_line (c.status_of.ensures.bad_line.0 one)) c.run_script-course.ensures.ends))

pub returns-clause-unread : goal.returns-clause-unread
returns-clause-unread g c = λ three.
    let asked : asked_by c.args.words.now ≡ Some (Replays (option_copied c.in-Replay.field-0) c.in-Replay.seed) =
    sym c.request_of.ensures.asked ∙ ap (option_map asked_of) (c.in-Some.is ∙ ap (λ (request : Request). Some request) c.in-Replay.is) in
    of-script c.args.words.now (g.S.Source.left c.args.source.now) (option_copied c.in-Replay.field-0) c.in-Replay.seed
    (λ seed script. EndsUnread seed script c.into_words.result c.run_script-course.result.line (g.S.Source.left c.run_script-course.new.source) (counted_given g.K.Sink.given c.args.sink.now) (counted_given g.K.Sink.given c.run_script-course.new.sink) (g.D.Disk.state c.args.disk.now) (g.D.Disk.state c.run_script-course.new.disk))
    asked (rw c.into_words.ensures (if_some-then (g.S.Source.left c.args.source.now) (λ script ends. (ends c.in-Replay.seed c.in-Ok.ensures.stands).unread (c.status_of.ensures.source_fault.0 three)) c.run_script-course.ensures.ends))

pub returns-clause-front : goal.returns-clause-front
returns-clause-front g c =
    let asked : asked_by c.args.words.now ≡ Some (Replays (option_copied c.in-Replay.field-0) c.in-Replay.seed) =
    sym c.request_of.ensures.asked ∙ ap (option_map asked_of) (c.in-Some.is ∙ ap (λ (request : Request). Some request) c.in-Replay.is) in
    of-script c.args.words.now (g.S.Source.left c.args.source.now) (option_copied c.in-Replay.field-0) c.in-Replay.seed
    (λ seed script. GaveFront seed script c.into_words.result (counted_given g.K.Sink.given c.args.sink.now) (counted_given g.K.Sink.given c.run_script-course.new.sink))
    asked (rw c.into_words.ensures (if_some-then (g.S.Source.left c.args.source.now) (λ script ends. (ends c.in-Replay.seed c.in-Ok.ensures.stands).front) c.run_script-course.ensures.ends))

pub returns-clause-lines : goal.returns-clause-lines
returns-clause-lines g c = λ other.
    let asked : asked_by c.args.words.now ≡ Some (Replays (option_copied c.in-Replay.field-0) c.in-Replay.seed) =
    sym c.request_of.ensures.asked ∙ ap (option_map asked_of) (c.in-Some.is ∙ ap (λ (request : Request). Some request) c.in-Replay.is) in
    of-script c.args.words.now (g.S.Source.left c.args.source.now) (option_copied c.in-Replay.field-0) c.in-Replay.seed
    (λ seed script. RanSoMany seed (lines_of script).lines c.into_words.result c.run_script-course.result.line)
    asked (rw c.into_words.ensures (if_some-then (g.S.Source.left c.args.source.now) (λ script ends. (ends c.in-Replay.seed c.in-Ok.ensures.stands).lines (λ bad. other (c.status_of.ensures.bad_line.1 bad))) c.run_script-course.ensures.ends))

pub returns-clause-on_disk : goal.returns-clause-on_disk
returns-clause-on_disk g c =
    let asked : asked_by c.args.words.now ≡ Some (Replays (option_copied c.in-Replay.field-0) c.in-Replay.seed) =
    sym c.request_of.ensures.asked ∙ ap (option_map asked_of) (c.in-Some.is ∙ ap (λ (request : Request). Some request) c.in-Replay.is) in
    of-script c.args.words.now (g.S.Source.left c.args.source.now) (option_copied c.in-Replay.field-0) c.in-Replay.seed
    (λ seed script. RunsOnDisk seed (deeds_of seed script c.into_words.result) (g.D.Disk.state c.args.disk.now) (g.D.Disk.state c.run_script-course.new.disk))
    asked (rw c.into_words.ensures (if_some-then (g.S.Source.left c.args.source.now) (λ script ends. (ends c.in-Replay.seed c.in-Ok.ensures.stands).on_disk) c.run_script-course.ensures.ends))

pub returns-in_default-new-clause-on_disk : goal.returns-in_default-new-clause-on_disk
returns-in_default-new-clause-on_disk g c =
    let asked : asked_by c.args.words.now ≡ Some (Replays (option_copied c.in-Replay.field-0) c.in-Replay.seed) =
    sym c.request_of.ensures.asked ∙ ap (option_map asked_of) (c.in-Some.is ∙ ap (λ (request : Request). Some request) c.in-Replay.is) in
    of-script c.args.words.now (g.S.Source.left c.args.source.now) (option_copied c.in-Replay.field-0) c.in-Replay.seed
    (λ seed script. RunsOnDisk seed (deeds_of seed script c.stopped-in_default-new.result.words) (g.D.Disk.state c.args.disk.now) (g.D.Disk.state c.args.disk.now))
    asked (nothing-ran c.in-Replay.seed (g.D.Disk.state c.args.disk.now) (λ deeds unread on. c.store_history_goes_on.ensures.unloaded key_layout (program_setting c.in-Replay.seed) opening deeds c.args.disk.now c.args.disk.now refl refl unread on) (c.disk_runs_join.ensures.none key_layout (program_setting c.in-Replay.seed) opening c.args.disk.now) (g.S.Source.left c.args.source.now) c.stopped-in_default-new.result.words c.stopped-in_default-new.ensures.words)

pub returns-in_default-new-2-clause-on_disk : goal.returns-in_default-new-2-clause-on_disk
returns-in_default-new-2-clause-on_disk g c =
    let asked : asked_by c.args.words.now ≡ Some (Replays (option_copied c.in-Replay.field-0) c.in-Replay.seed) =
    sym c.request_of.ensures.asked ∙ ap (option_map asked_of) (c.in-Some.is ∙ ap (λ (request : Request). Some request) c.in-Replay.is) in
    of-script c.args.words.now (g.S.Source.left c.args.source.now) (option_copied c.in-Replay.field-0) c.in-Replay.seed
    (λ seed script. RunsOnDisk seed (deeds_of seed script c.stopped-in_default-new-2.result.words) (g.D.Disk.state c.args.disk.now) (g.D.Disk.state c.args.disk.now))
    asked (nothing-ran c.in-Replay.seed (g.D.Disk.state c.args.disk.now) (λ deeds unread on. c.store_history_goes_on.ensures.unloaded key_layout (program_setting c.in-Replay.seed) opening deeds c.args.disk.now c.args.disk.now refl refl unread on) (c.disk_runs_join.ensures.none key_layout (program_setting c.in-Replay.seed) opening c.args.disk.now) (g.S.Source.left c.args.source.now) c.stopped-in_default-new-2.result.words c.stopped-in_default-new-2.ensures.words)
