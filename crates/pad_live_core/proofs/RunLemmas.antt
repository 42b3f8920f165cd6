-- A whole run, from its parts.
use Rattle.std.proofs.Common.{ap, append_assoc, arith, length, length-append, map, refl, subst, suc, sym, List, [], ◌++◌, ◌+◌, ◌∙◌, ◌∷◌, ◌≡◌, ◌≤◌, ℕ}
use Rattle.std.specs.Prelude.{None, Option, Some}
use mathlib.Core.Path.{Path}
use Rattle.pad_desk.specs.Histories.{DeskEntry, Legal, status_after}
use Rattle.pad_desk.specs.declared.outcome.StepOut.{StepOut}
use Rattle.pad_live_core.proofs.LiveLemmas.{StopsSo, lives, starts_with}
use Rattle.pad_live_core.specs.LaneEvents.{DeskLog, DeskView}
use Rattle.pad_live_core.specs.LiveHistories.{JoinsLanes, Lane, LanesKnow, LiveHistory, notes_of, passes_of}
use Rattle.pad_live_core.specs.Stops.{FinishEnds, WorkEnds, full_or, worse}
use Rattle.pad_live_core.specs.Workers.{IsWorked, WorkHolds, WorksOn}
use Rattle.pad_live_core.specs.declared.stop.Stop.TheVariants as why
use Rattle.pad_live_core.specs.declared.stop.Stop.{Stop}
use Rattle.pad_steps.specs.declared.steps.Step.{Step}
use Rattle.pin_blocks.specs.PinRules.{PinRules}
use Rattle.script_lang.specs.declared.lane_kinds.LaneStep.{LaneStep}
use Rattle.turnstile.proofs.ListLemmas.{each_map}
use Rattle.turnstile.specs.Numbers.{Each, places_from}
use Rattle.turnstile.specs.Rules.{Settled, StartsWith, first_view, joined, known_self, new_seat, with_new_seat}
use Rattle.turnstile.specs.Turns.{Closes}
use Rattle.turnstile.specs.declared.view.MadeEntry.{MadeEntry}

starts_length : (a b : DeskLog) → StartsWith a b → length b ≤ length a
starts_length a b s = let long = ap length s.1 in omega (arith, long, length-append b s.0)

pub map_length : {A B : Type 0} (f : A → B) (l : List A) → length (map f l) ≡ length l
map_length f [] = refl
map_length f (x ∷ l) = ap suc (map_length f l)

-- no entry stands in an empty history
no_split : (front : DeskLog) (m : MadeEntry Step StepOut) (rest : DeskLog) → ¬ Path DeskLog [] (front ++ m ∷ rest)
no_split [] m rest e = let e' : Path DeskLog [] (m ∷ rest) = e in cc
no_split (x ∷ front) m rest e = let e' : Path DeskLog [] (x ∷ (front ++ m ∷ rest)) = e in cc

-- the reasons why lanes stopped, of which this is the one that counts most
pub record LanesStop (stop : Option Stop) (lanes : List Lane) (w : DeskView) : Type 0 where
  pub none : stop ≡ None → Each (λ (lane : Lane). lane.stop ≡ None) lanes
  pub full : stop ≡ Some why.Full → 1048576 ≤ length w.seen
  pub met : Each (λ (lane : Lane). lane.stop ≡ Some why.Full → stop ≡ Some why.Full) lanes

none_some : {A : Type 0} {x : A} → None ≡ Some x → ⊥
none_some e = cc

some_none : {A : Type 0} {x : A} → Some x ≡ None → ⊥
some_none e = cc

memory_full : Some why.NoMemory ≡ Some why.Full → ⊥
memory_full e = cc

told_full : Some why.Told ≡ Some why.Full → ⊥
told_full e = cc

-- a reason other than a full history counts less than one
full_or_lanes : (one : Option Stop) (lanes : List Lane) (w : DeskView) → LanesStop one lanes w → LanesStop (full_or one) lanes w
full_or_lanes None lanes w l = record { none = λ e. absurd (some_none e); full = λ e. absurd (memory_full e); met = each_map (λ (lane : Lane). lane.stop ≡ Some why.Full → None ≡ Some why.Full) (λ (lane : Lane). lane.stop ≡ Some why.Full → Some why.NoMemory ≡ Some why.Full) lanes (λ lane m is. absurd (none_some (m is))) l.met }
full_or_lanes (Some why.Full) lanes w l = l
full_or_lanes (Some why.NoMemory) lanes w l = l
full_or_lanes (Some why.Told) lanes w l = record { none = λ e. absurd (some_none e); full = λ e. absurd (memory_full e); met = each_map (λ (lane : Lane). lane.stop ≡ Some why.Full → Some why.Told ≡ Some why.Full) (λ (lane : Lane). lane.stop ≡ Some why.Full → Some why.NoMemory ≡ Some why.Full) lanes (λ lane m is. absurd (told_full (m is))) l.met }

-- the worker's reason beside the lanes'
worse_lanes : (one other : Option Stop) (lanes : List Lane) (v w : DeskView) → LanesStop one lanes w → WorkEnds other v → length v.seen ≤ length w.seen → LanesStop (worse one other) lanes w
worse_lanes one None lanes v w l ends le = l
worse_lanes one (Some why.Full) lanes v w l ends le = let f : length v.seen ≡ 1048576 = ends in record { none = λ e. absurd (some_none e); full = λ _. omega (arith, f, le); met = each_map (λ (lane : Lane). lane.stop ≡ Some why.Full → one ≡ Some why.Full) (λ (lane : Lane). lane.stop ≡ Some why.Full → Some why.Full ≡ Some why.Full) lanes (λ lane m is. refl) l.met }
worse_lanes one (Some why.NoMemory) lanes v w l ends le = full_or_lanes one lanes w l
worse_lanes one (Some why.Told) lanes v w l ends le = full_or_lanes one lanes w l

-- the last work, where nothing had stopped, or no last work
stops_so : (early stop : Option Stop) (lanes : List Lane) (v w : DeskView) → LanesStop early lanes v → FinishEnds early stop w → length v.seen ≤ length w.seen → StopsSo stop lanes w
stops_so None stop lanes v w l e le = record {
  done = λ _. l.none refl;
  idle = λ is. subst (λ (s : Option Stop). WorkEnds s w) is e;
  full = λ is. let f : length w.seen ≡ 1048576 = subst (λ (s : Option Stop). WorkEnds s w) is e in omega (arith, f);
  met = each_map (λ (lane : Lane). lane.stop ≡ Some why.Full → None ≡ Some why.Full) (λ (lane : Lane). lane.stop ≡ Some why.Full → stop ≡ Some why.Full) lanes (λ lane m is. absurd (none_some (m is))) l.met;
}
stops_so (Some early) stop lanes v w l e le = record {
  done = λ is. absurd (some_none (sym e ∙ is));
  idle = λ is. absurd (some_none (sym e ∙ is));
  full = λ is. let f : 1048576 ≤ length v.seen = l.full (sym e ∙ is) in omega (arith, f, le);
  met = each_map (λ (lane : Lane). lane.stop ≡ Some why.Full → Some early ≡ Some why.Full) (λ (lane : Lane). lane.stop ≡ Some why.Full → stop ≡ Some why.Full) lanes (λ lane m is. e ∙ m is) l.met;
}

-- the first pass, after it seated the worker's and those of n lanes
pub seated_lanes : (origin : List ℕ) (n : ℕ) (opened first later : DeskView) → opened ≡ first_view origin → first ≡ with_new_seat opened → later ≡ record (first_view first.origin) { seated = 1 + n } → later ≡ record (first_view origin) { seated = 1 + n }
seated_lanes origin n opened first later opened_is is later_is =
    later_is ∙ ap (λ (seed : List ℕ). record (first_view seed) { seated = 1 + n }) (ap (λ (y : DeskView). y.origin) is ∙ ap (λ (y : DeskView). y.origin) opened_is)

module _ (pin_rules : PinRules) where
  -- a pass that was seated before any call has made nothing
  work_begins : (origin : List ℕ) → WorkHolds pin_rules (new_seat (first_view origin))
  work_begins origin = record { base = []; seen = ([], refl); mine = refl; worked = λ front m rest cut by. absurd (no_split front m rest cut) }

  work_joins : (v w : DeskView) (lanes : List Lane) → JoinsLanes v lanes w → WorkHolds pin_rules v → WorkHolds pin_rules w
  work_joins v w lanes j h = record {
    base = h.base;
    seen = starts_with w.seen v.seen h.base j.seen h.seen;
    mine = ap (λ (n : List ℕ). places_from 0 n h.base) j.number ∙ h.mine ∙ sym j.mine;
    worked = subst (λ (n : List ℕ). IsWorked pin_rules n h.base) (sym j.number) h.worked;
  }

  -- a run: the first pass seats the worker's and those of n lanes; the worker works, and ends; the passes of the lanes are joined into its own; it
  -- works once more, unless a lane or it had stopped; its pass is joined into the first, and the desk is closed
  pub live_history : (origin : List ℕ) (lines : List (List LaneStep)) (n : ℕ) (opened first worker0 w0 w1 w2 last : DeskView) (lanes : List Lane) (worker_stop lanes_stop early stop : Option Stop) (history : List DeskEntry)
      → n ≡ length lines → opened ≡ first_view origin → worker0 ≡ new_seat opened → first ≡ record (first_view origin) { seated = 1 + n }
      → WorksOn pin_rules worker0 w0 → WorkEnds worker_stop w0
      → map (λ (lane : Lane). lane.lines) lanes ≡ lines → LanesKnow pin_rules 1 lanes → JoinsLanes w0 lanes w1 → LanesStop lanes_stop lanes w1
      → early ≡ worse lanes_stop worker_stop → WorksOn pin_rules w1 w2 → FinishEnds early stop w2
      → Settled (joined first w2) last → Closes (status_after pin_rules) last history → Legal pin_rules history → LiveHistory pin_rules lines stop history
  live_history origin lines n opened first worker0 w0 w1 w2 last lanes worker_stop lanes_stop early stop history count opened_is worker_is first_is works ends are know j lanes_stops early_is more finish settled closes legal =
      let start : worker0 ≡ new_seat (first_view origin) = worker_is ∙ ap new_seat opened_is in
      let long : length lanes ≡ n = sym (map_length (λ (lane : Lane). lane.lines) lanes) ∙ ap length are ∙ sym count in
      let w1_0 = starts_length w1.seen w0.seen j.seen in
      let w2_1 = starts_length w2.seen w1.seen more.seen in
      let stops = stops_so early stop lanes w1 w2 (subst (λ (e : Option Stop). LanesStop e lanes w1) (sym early_is) (worse_lanes lanes_stop worker_stop lanes w0 w1 lanes_stops ends w1_0)) finish w2_1 in
      lives pin_rules lines stop history last w2 lanes record {
        number = ap (λ (y : DeskView). y.number) settled.0 ∙ ap (λ (y : DeskView). y.number) first_is;
        seated = ap (λ (y : DeskView). y.seated) settled.0 ∙ ap (λ (y : DeskView). y.seated) first_is ∙ ap (λ (k : ℕ). 1 + k) (sym long);
        mine = ap (λ (y : DeskView). y.mine) settled.0 ∙ ap (λ (y : DeskView). y.mine) first_is;
        ended = ap (λ (y : DeskView). y.ended) settled.0 ∙ ap (λ (y : DeskView). y.ended ++ known_self w2 ∷ w2.ended) first_is ∙ ap (λ l. known_self w2 ∷ l) (more.same.ended ∙ j.ended ∙ ap (λ l. l ++ passes_of lanes) (works.same.ended ∙ ap (λ (y : DeskView). y.ended) start));
        seen = settled.2;
        notes = ap (λ (y : DeskView). y.notes) settled.0 ∙ ap (λ (y : DeskView). y.notes ++ w2.notes) first_is;
        w_number = more.same.number ∙ j.number ∙ works.same.number ∙ ap (λ (y : DeskView). y.number) start;
        w_seated = more.same.seated ∙ j.seated ∙ works.same.seated ∙ ap (λ (y : DeskView). y.seated) start;
        work = more.holds (work_joins w0 w1 lanes j (works.holds (subst (WorkHolds pin_rules) (sym start) (work_begins origin))));
        before = w0.notes;
        after = more.more;
        w_notes = more.notes ∙ ap (λ l. l ++ more.more) j.notes ∙ append_assoc w0.notes (notes_of lanes) more.more;
        each = each_map (λ (lane : Lane). StartsWith w1.seen lane.view.seen) (λ (lane : Lane). StartsWith w2.seen lane.view.seen) lanes (λ lane x. starts_with w2.seen w1.seen lane.view.seen more.seen x) j.each;
        know = know;
      } are closes legal stops
