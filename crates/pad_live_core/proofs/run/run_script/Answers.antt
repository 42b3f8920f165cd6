use Rattle.std.proofs.Common.{List, ap, inl, inr, subst, sym, ⊎_elim, ◌≡◌, ℕ}
use Rattle.disk_core.specs.Streams.{GivesFront, with_more}
use Rattle.flat_machine.specs.Kept.{Kept}
use Rattle.flat_machine.specs.State.{opening}
use Rattle.pad_desk.specs.Histories.{DeskEntry}
use Rattle.pad_live_core.proofs.EndLemmas.{all_formed, front_printed, if_printed, lanes_came, lanes_wanted, printed_front, printed_or_failed, whole_printed}
use Rattle.pad_live_core.proofs.HistoryLemmas.{legal-formed}
use Rattle.pad_live_core.specs.HistoryTexts.{AreFormed, history_text, live_rules}
use Rattle.pad_live_core.specs.LaneJobs.{AllFormed}
use Rattle.pad_live_core.specs.LiveHistories.{LiveHistory}
use Rattle.pad_live_core.specs.LiveRuns.{IsRunOf}
use Rattle.script_lang.specs.declared.lane_kinds.LaneStep.{LaneStep}
use Rattle.pad_live_core.proofs.run.run_script.Goals as goal

pub returns-in_default-clause-run : goal.returns-in_default-clause-run
returns-in_default-clause-run g c = lanes_wanted c.args.seed c.args.lanes.now c.no_lane_ran.result.status c.no_lane_ran.result.history _ c.no_lane_ran.ensures.no_lane.nothing c.no_lane_ran.ensures.status

pub run_lanes-requires-clause-formed : goal.run_lanes-requires-clause-formed
run_lanes-requires-clause-formed g c κs within = subst AllFormed (sym c.items.ensures.lanes) (all_formed c.args.lanes.now c.requires.formed)

pub returns-in_default-run_lanes-clause-run : goal.returns-in_default-run_lanes-clause-run
returns-in_default-run_lanes-clause-run g c = lanes_wanted c.args.seed c.args.lanes.now c.disk_lost.result.status c.disk_lost.result.history _ c.disk_lost.ensures.nothing c.disk_lost.ensures.status

pub print_history-printed-requires : goal.print_history-printed-requires
print_history-printed-requires g c = subst AreFormed (sym c.items-2.ensures) (legal-formed _ opening c.in-Ok-run_lanes.end.history c.in-Ok-run_lanes.ensures.seed.legal)

pub returns-clause-run : goal.returns-clause-run
returns-clause-run g c =
    let history : List DeskEntry = c.in-Ok-run_lanes.end.history in
    let run : IsRunOf live_rules c.args.seed history = subst (λ (seed : List ℕ). IsRunOf live_rules seed history) (ap (λ (kept : Kept). kept.seed) c.in-Ok.ensures) c.in-Ok-run_lanes.ensures.seed in
    let printed = c.print_history-printed in
    let front = printed_front printed.result _ _ (history_text c.items-2.result.now) printed.ensures.whole printed.ensures.front in
    lanes_came c.live_histories_are_bounded.ensures c.args.seed c.args.lanes.now c.in-Ok-run_lanes.end.stop c.status_of.result history _ _ c.requires.sixteen
    (subst (λ (lines : List (List LaneStep)). LiveHistory live_rules lines c.in-Ok-run_lanes.end.stop history) c.items.ensures.lanes c.in-Ok-run_lanes.ensures.history)
    (λ is. (c.status_of.ensures.done is).0) (λ is. (c.status_of.ensures.unprinted is).0) (λ is. (c.status_of.ensures.full is).0) c.status_of.ensures.met_full
    (front_printed c.twins_print_alike.ensures c.args.seed history run _ _ (subst (λ (h : List DeskEntry). GivesFront (g.K.Sink.given c.args.sink.now.inner) (g.K.Sink.given printed.new.sink.inner) (history_text h)) c.items-2.ensures front))

pub returns-clause-printed : goal.returns-clause-printed
returns-clause-printed g c = λ is.
    let history : List DeskEntry = c.in-Ok-run_lanes.end.history in
    let run : IsRunOf live_rules c.args.seed history = subst (λ (seed : List ℕ). IsRunOf live_rules seed history) (ap (λ (kept : Kept). kept.seed) c.in-Ok.ensures) c.in-Ok-run_lanes.ensures.seed in
    whole_printed c.twins_print_alike.ensures c.args.seed history run _ _
    (subst (λ (h : List DeskEntry). g.K.Sink.given c.print_history-printed.new.sink.inner ≡ with_more (g.K.Sink.given c.args.sink.now.inner) (history_text h)) c.items-2.ensures (if_printed c.print_history-printed.result (c.status_of.ensures.done is).1 c.print_history-printed.ensures.whole))

pub returns-clause-full_printed : goal.returns-clause-full_printed
returns-clause-full_printed g c = λ is.
    let history : List DeskEntry = c.in-Ok-run_lanes.end.history in
    let run : IsRunOf live_rules c.args.seed history = subst (λ (seed : List ℕ). IsRunOf live_rules seed history) (ap (λ (kept : Kept). kept.seed) c.in-Ok.ensures) c.in-Ok-run_lanes.ensures.seed in
    let printed = c.print_history-printed in
    ⊎_elim (λ rose. inl rose)
    (λ whole. inr (whole_printed c.twins_print_alike.ensures c.args.seed history run _ _ (subst (λ (h : List DeskEntry). g.K.Sink.given c.print_history-printed.new.sink.inner ≡ with_more (g.K.Sink.given c.args.sink.now.inner) (history_text h)) c.items-2.ensures whole)))
    (printed_or_failed printed.result (c.status_of.ensures.full is).1 printed.ensures.cause printed.ensures.whole)
