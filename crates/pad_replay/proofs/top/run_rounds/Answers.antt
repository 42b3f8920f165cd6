use Rattle.std.proofs.Common.{ap, length, subst, sym, ◌∙◌, ◌≤◌}
use Rattle.disk_core.specs.CountedSinks.{counted_given}
use Rattle.disk_core.specs.Streams.{GivesFront, with_more}
use Rattle.pad_replay.proofs.GeneratedLemmas.{length-generated}
use Rattle.pad_replay.proofs.RoundLemmas.{front-none, summed-up, whole-before, whole-or-not}
use Rattle.pad_replay.specs.CommandLine.{zero_seed}
use Rattle.pad_replay.specs.Endings.{LinesEnd}
use Rattle.pad_replay.specs.Generated.{generated_lines}
use Rattle.pad_replay.specs.Replays.{progress_of}
use Rattle.script_lang.specs.declared.kinds.Line.{Line}
use Rattle.std.specs.Prelude.{List, None, ℕ}
use Rattle.pad_replay.proofs.top.run_rounds.Goals as goal

pub run_generated-course-requires-clause-few : goal.run_generated-course-requires-clause-few
run_generated-course-requires-clause-few g c = subst (λ (all : List Line). length all ≤ 100000) (sym c.new-script.ensures.lines) (length-generated c.args.rounds c.requires)

pub returns-clause-whole : goal.returns-clause-whole
returns-clause-whole g c = λ zero.
    let sum = c.sum_up-end.ensures.whole (c.status_of.ensures.whole.0 zero) in
    let end : LinesEnd zero_seed (generated_lines c.args.rounds) c.run_generated-course.result (progress_of c.in-Ok.replay None (g.D.Disk.state c.args.disk.now)) (progress_of c.run_generated-course.new.self None (g.D.Disk.state c.run_generated-course.new.disk)) =
    subst (λ (all : List Line). LinesEnd zero_seed all c.run_generated-course.result (progress_of c.in-Ok.replay None (g.D.Disk.state c.args.disk.now)) (progress_of c.run_generated-course.new.self None (g.D.Disk.state c.run_generated-course.new.disk))) c.new-script.ensures.lines (c.run_generated-course.ensures.ends zero_seed c.in-Ok.ensures.stands) in
    rw c.into_words.ensures (record {
      ran = end.whole sum.0;
      printed = sum.1 ∙ ap (with_more (g.K.Sink.given c.args.sink.now.inner)) (summed-up zero_seed c.args.rounds c.run_generated-course.result _ _ c.in-Ok.ensures.tally end sum.0);
    })

pub returns-clause-printed : goal.returns-clause-printed
returns-clause-printed g c = λ four.
    let end : LinesEnd zero_seed (generated_lines c.args.rounds) c.run_generated-course.result (progress_of c.in-Ok.replay None (g.D.Disk.state c.args.disk.now)) (progress_of c.run_generated-course.new.self None (g.D.Disk.state c.run_generated-course.new.disk)) =
    subst (λ (all : List Line). LinesEnd zero_seed all c.run_generated-course.result (progress_of c.in-Ok.replay None (g.D.Disk.state c.args.disk.now)) (progress_of c.run_generated-course.new.self None (g.D.Disk.state c.run_generated-course.new.disk))) c.new-script.ensures.lines (c.run_generated-course.ensures.ends zero_seed c.in-Ok.ensures.stands) in
    rw c.into_words.ensures (end.whole (whole-before c.run_generated-course.result.end c.sum_up-end.result (λ broken. (c.sum_up-end.ensures.untold broken).0) c.run_generated-course.ensures.others.1.1 (c.status_of.ensures.sink_fault.0 four)))

pub returns-clause-ran : goal.returns-clause-ran
returns-clause-ran g c =
    let end : LinesEnd zero_seed (generated_lines c.args.rounds) c.run_generated-course.result (progress_of c.in-Ok.replay None (g.D.Disk.state c.args.disk.now)) (progress_of c.run_generated-course.new.self None (g.D.Disk.state c.run_generated-course.new.disk)) =
    subst (λ (all : List Line). LinesEnd zero_seed all c.run_generated-course.result (progress_of c.in-Ok.replay None (g.D.Disk.state c.args.disk.now)) (progress_of c.run_generated-course.new.self None (g.D.Disk.state c.run_generated-course.new.disk))) c.new-script.ensures.lines (c.run_generated-course.ensures.ends zero_seed c.in-Ok.ensures.stands) in
    rw c.into_words.ensures (record {
      many = end.many;
      front = whole-or-not c.run_generated-course.result.end
          (λ whole. subst (λ (text : List ℕ). GivesFront (g.K.Sink.given c.args.sink.now.inner) (g.K.Sink.given c.sum_up-end.new.sink.inner) text)
          (summed-up zero_seed c.args.rounds c.run_generated-course.result _ _ c.in-Ok.ensures.tally end whole) (c.sum_up-end.ensures.front whole))
          (λ broken. front-none _ _ _ (ap (counted_given g.K.Sink.given) (c.sum_up-end.ensures.untold broken).1));
      on_disk = end.on_disk;
    })
