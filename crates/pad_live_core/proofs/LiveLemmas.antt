-- What the whole history is, from what the passes know at their ends.
use Rattle.std.proofs.Common.{ap, append_assoc, append-nil, arith, length, map, refl, subst, suc, sym, zero, inl, inr, ⊎_elim, List, [], ◌++◌, ◌+◌, ◌∙◌, ◌∷◌, ◌≡◌, ◌≢◌, ◌<◌, ◌≤◌, ℕ}
use mathlib.Core.Option.{some, some-injective, some-ne-none}
use lib.ListN.{get_elem?}
use Rattle.std.specs.Prelude.{Option, Some, None}
use Rattle.std.proofs.lemmas.Bool.{cases_eq}
use Rattle.pad_desk.specs.Answers.{due_at}
use Rattle.pad_desk.specs.Histories.{DeskEntry, Legal, status_after}
use Rattle.pad_desk.specs.declared.outcome.StepOut.{StepOut}
use Rattle.pad_live_core.proofs.EventLemmas.{opens_most}
use Rattle.pad_live_core.proofs.LaneListLemmas.{has_lane_list}
use Rattle.pad_live_core.proofs.MoveLemmas.{each_left, each_right}
use Rattle.pad_live_core.proofs.PlacedLemmas.{no_length, placed_length, placed_none, placed_on, placed_same}
use Rattle.pad_live_core.proofs.ShuffleLemmas.{Refined, joined_lists, own_from, owns, refine, shuffle_one, shuffle_own}
use Rattle.pad_live_core.proofs.WorkLemmas.{append_cases, take_whole}
use Rattle.pad_live_core.specs.LaneEvents.{DeskLog, DeskView, Holds, LaneEvent, made, opened, passed, placed_from, placed_of, polled, polls_of, steps_of}
use Rattle.pad_live_core.specs.LiveHistories.{Lane, LaneStands, LanesKnow, LanesRun, LiveHistory, lists_of, notes_of, passes_of}
use Rattle.pad_live_core.specs.Shuffles.{Shuffle}
use Rattle.pad_live_core.specs.Workers.{IsIdle, IsWorked, WorkHolds}
use Rattle.pad_live_core.specs.declared.stop.Stop.{Stop}
use Rattle.pad_live_core.specs.declared.stop.Stop.TheVariants as why
use Rattle.pad_steps.specs.declared.steps.Step.{Step}
use Rattle.pin_blocks.specs.PinRules.{PinRules}
use Rattle.script_lang.specs.declared.lane_kinds.LaneStep.{LaneStep}
use Rattle.turnstile.proofs.JoiningLemmas.{joined_all-whole}
use Rattle.turnstile.proofs.ListLemmas.{each_map}
use Rattle.turnstile.proofs.NumberLemmas.{has_maker}
use Rattle.turnstile.proofs.SeatLemmas.{notes_below, starts_length}
use Rattle.turnstile.specs.Joinings.{HasNumber, HasSeated}
use Rattle.turnstile.specs.Numbers.{AreWhole, Each, HasPlaces, TellsPasses, places_from}
use Rattle.turnstile.specs.Rules.{IsTrueNote, NotesTrue, StartsWith, entries_of, first_view, known_self, passes_known}
use Rattle.turnstile.specs.Turns.{Closes}
use Rattle.turnstile.specs.declared.view.KnownPass.{KnownPass}
use Rattle.turnstile.specs.declared.view.MadeEntry.{MadeEntry}

-- the events of a lane

shuffle_events : (events : List LaneEvent) → Shuffle (map (λ (p : ℕ × DeskEntry). p.1) (placed_of events)) (steps_of events ∷ polls_of events ∷ [])
shuffle_events [] = (refl, (refl, tt))
shuffle_events (made place e ∷ es) = (steps_of es ∷ polls_of es ∷ [], inl (record { rest = steps_of es; front = refl; left = refl }), shuffle_events es)
shuffle_events (polled place e ∷ es) = (steps_of es ∷ polls_of es ∷ [], inr (polls_of es ∷ [], inl (record { rest = polls_of es; front = refl; left = refl }), refl), shuffle_events es)
shuffle_events (passed k ∷ es) = shuffle_events es
shuffle_events (opened ∷ es) = shuffle_events es

abbrev pairs : List (List LaneEvent) → List (List (List DeskEntry))
pairs [] = []
pairs (events ∷ others) = (steps_of events ∷ polls_of events ∷ []) ∷ pairs others

pairs_are : (all : List (List LaneEvent)) → joined_lists (pairs all) ≡ lists_of all
pairs_are [] = refl
pairs_are (events ∷ others) = let more = pairs_are others in (λ i. steps_of events ∷ polls_of events ∷ more i)

-- each entry is of a known pass

each_by_index : {A : Type 0} (P : A → Type 0) (l : List A) → ((i : ℕ) (x : A) → get_elem? l i ≡ some x → P x) → Each P l
each_by_index P [] f = tt
each_by_index P (x ∷ l) f = (f 0 x refl, each_by_index P l (λ i y at. f (suc i) y at))

has_of_index : (number : List ℕ) (ps : List KnownPass) (i : ℕ) (p : KnownPass) → get_elem? ps i ≡ some p → p.number ≡ number → HasNumber number ps
has_of_index number [] i p at is = absurd (some-ne-none p (sym at))
has_of_index number (q ∷ ps) zero p at is = inl (ap (λ (y : KnownPass). y.number) (some-injective q p at) ∙ is)
has_of_index number (q ∷ ps) (suc i) p at is = inr (has_of_index number ps i p at is)

all_known : (log : DeskLog) (ps : List KnownPass) → AreWhole ps → TellsPasses log ps → Each (λ (m : MadeEntry Step StepOut). HasNumber m.by ps) log
all_known log ps are told = each_by_index (λ (m : MadeEntry Step StepOut). HasNumber m.by ps) log (λ i m at. let found = has_maker ps are log m i told at in has_of_index m.by ps found.0 found.1 found.2 found.3)

-- no entry of a pass stands beyond what it had seen at its end
beyond : (log seen rest base : DeskLog) (number mine : List ℕ) → log ≡ seen ++ rest → StartsWith seen base → places_from 0 number log ≡ mine → places_from 0 number base ≡ mine → Each (λ (m : MadeEntry Step StepOut). ¬ (number ≡ m.by)) rest
beyond log seen rest base number mine cut starts places is =
    let front : DeskLog = starts.0 in
    let whole : log ≡ base ++ (front ++ rest) = cut ∙ ap (λ (l : DeskLog). l ++ rest) starts.1 ∙ append_assoc base front rest in
    let same : places_from 0 number (base ++ (front ++ rest)) ≡ places_from 0 number base = ap (places_from 0 number) (sym whole) ∙ places ∙ sym is in
    each_map (λ (m : MadeEntry Step StepOut). m.by ≢ number) (λ (m : MadeEntry Step StepOut). ¬ (number ≡ m.by)) rest (λ m ne e. ne (sym e)) (each_right (λ (m : MadeEntry Step StepOut). m.by ≢ number) front rest (placed_none (0 + length base) number (front ++ rest) (placed_same number base (front ++ rest) same)))

pub starts_with : (a b c : DeskLog) → StartsWith a b → StartsWith b c → StartsWith a c
starts_with a b c x y = (y.0 ++ x.0, x.1 ∙ ap (λ (l : DeskLog). l ++ x.0) y.1 ∙ append_assoc c y.0 x.0)

entries_length : (log : DeskLog) → length (entries_of log) ≡ length log
entries_length [] = refl
entries_length (m ∷ log) = ap suc (entries_length log)

-- why the run stopped, from why its lanes did and what the worker's pass knows at the end
pub record StopsSo (stop : Option Stop) (lanes : List Lane) (w : DeskView) : Type 0 where
  pub done : stop ≡ None → Each (λ (lane : Lane). lane.stop ≡ None) lanes
  pub idle : stop ≡ None → IsIdle w
  pub full : stop ≡ Some why.Full → 1048576 ≤ length w.seen
  pub met : Each (λ (lane : Lane). lane.stop ≡ Some why.Full → stop ≡ Some why.Full) lanes

module _ (pin_rules : PinRules) where
  lane_stands : (number : List ℕ) (log : DeskLog) (events : List LaneEvent) (last : ℕ) (v : DeskView) → v.number ≡ number → Holds pin_rules 0 last events v → StartsWith log v.seen → NotesTrue (status_after pin_rules) log v.notes → places_from 0 v.number log ≡ v.mine → LaneStands pin_rules number log events
  lane_stands number log events last v is h starts notes mine =
      let same : places_from 0 v.number (v.seen ++ starts.0) ≡ places_from 0 v.number v.seen = ap (places_from 0 v.number) (sym starts.1) ∙ mine ∙ sym h.mine in
      subst (λ (n : List ℕ). LaneStands pin_rules n log events) is record {
        placed = ap (placed_from 0 v.number) starts.1 ∙ placed_on v.number v.seen starts.0 same ∙ h.placed;
        rising = h.rising (length log) (starts_length log v.seen starts) (notes_below (status_after pin_rules) log v.notes notes);
        passed = h.passed log notes;
        polls = (let p = h.polls in let t = h.told log notes in omega (arith, p, t));
      }

  -- all lanes stand in the history, and each lane's entries are the shuffle of its two lists
  pub record Stands (log : DeskLog) (k : ℕ) (lanes : List Lane) : Type 0 where
    pub events : List (List LaneEvent)
    pub stand : LanesRun pin_rules log k lanes events
    pub refined : Refined (owns 0 log (passes_of lanes)) (pairs events)

  lanes_stand : (log : DeskLog) (k : ℕ) (lanes : List Lane) → LanesKnow pin_rules k lanes → Each (λ (lane : Lane). StartsWith log lane.view.seen) lanes → NotesTrue (status_after pin_rules) log (notes_of lanes) → Each (HasPlaces log) (passes_of lanes) → Stands log k lanes
  lanes_stand log k [] know starts notes places = record { events = []; stand = tt; refined = tt }
  lanes_stand log k (lane ∷ lanes) know starts notes places =
      let one = know.0 in
      let more = lanes_stand log (k + 1) lanes know.1 starts.1 (each_right (IsTrueNote (status_after pin_rules) log) lane.view.notes (notes_of lanes) notes) places.1 in
      let stands = lane_stands (k ∷ []) log one.events one.last lane.view one.number one.holds starts.0 (each_left (IsTrueNote (status_after pin_rules) log) lane.view.notes (notes_of lanes) notes) places.0.mine in
      let own : own_from 0 lane.view.number log ≡ map (λ (p : ℕ × DeskEntry). p.1) (placed_of one.events) = ap (λ (n : List ℕ). own_from 0 n log) one.number ∙ ap (map (λ (p : ℕ × DeskEntry). p.1)) stands.placed in record {
        events = one.events ∷ more.events;
        stand = (
          record {
            stands = stands;
            follows = one.follows;
            polls = (let most = opens_most lane.lines lane.stop one.events one.follows in let told = stands.polls in omega (arith, most, told));
            list = has_lane_list lane.lines lane.stop one.events one.follows;
          },
          more.stand,
        );
        refined = (subst (λ (l : List DeskEntry). Shuffle l (steps_of one.events ∷ polls_of one.events ∷ [])) (sym own) (shuffle_events one.events), more.refined);
      }

  -- the passes are whole

  has_rank : (k : ℕ) (lanes : List Lane) (rank : ℕ) → LanesKnow pin_rules k lanes → k ≤ rank → rank < k + length lanes → HasNumber (rank ∷ []) (passes_of lanes)
  has_rank k [] rank know from below = absurd (omega (arith, from, below))
  has_rank k (lane ∷ lanes) rank know from below = ⊎_elim
      (λ (same : rank ≡ k). inl (know.0.number ∙ ap (λ (n : ℕ). n ∷ []) (sym same)))
      (λ (other : rank ≡ k → ⊥). inr (has_rank (k + 1) lanes rank know.1 (omega (arith, from, other)) (omega (arith, below))))
      (cases_eq rank k)

  none_seated : (k : ℕ) (lanes : List Lane) (more : List KnownPass) → LanesKnow pin_rules k lanes → Each (λ pass. HasSeated pass 0 more) (passes_of lanes)
  none_seated k [] more know = tt
  none_seated k (lane ∷ lanes) more know = ((λ rank from below. let s = know.0.seated in absurd (omega (arith, below, s))), none_seated (k + 1) lanes more know.1)

  pub record Ends (first w : DeskView) (lanes : List Lane) : Type 0 where
    pub number : first.number ≡ []
    pub seated : first.seated ≡ 1 + length lanes
    pub mine : first.mine ≡ []
    pub ended : first.ended ≡ known_self w ∷ passes_of lanes
    pub seen : StartsWith first.seen w.seen
    pub notes : first.notes ≡ w.notes
    pub w_number : w.number ≡ 0 ∷ []
    pub w_seated : w.seated ≡ 0
    pub work : WorkHolds pin_rules w
    pub before : List (ℕ × ℕ)
    pub after : List (ℕ × ℕ)
    pub w_notes : w.notes ≡ before ++ (notes_of lanes ++ after)
    pub each : Each (λ (lane : Lane). StartsWith w.seen lane.view.seen) lanes
    pub know : LanesKnow pin_rules 1 lanes

  whole : (first w : DeskView) (lanes : List Lane) → Ends first w lanes → AreWhole (passes_known first)
  whole first w lanes e = joined_all-whole [] (first_view []) first refl record {
    number = e.number;
    more = first.ended;
    ended = refl;
    own = λ rank from below. subst (λ (l : List KnownPass). HasNumber (first.number ++ rank ∷ []) l) (sym e.ended) (subst (λ (n : List ℕ). HasNumber (n ++ rank ∷ []) (known_self w ∷ passes_of lanes)) (sym e.number)
        (⊎_elim
        (λ (same : rank ≡ 0). inl (e.w_number ∙ ap (λ (n : ℕ). n ∷ []) (sym same)))
        (λ (other : rank ≡ 0 → ⊥). let s = e.seated in inr (has_rank 1 lanes rank e.know (omega (arith, other)) (omega (arith, below, s))))
        (cases_eq rank 0)));
    theirs = subst (λ (l : List KnownPass). Each (λ pass. HasSeated pass 0 l) l) (sym e.ended) ((λ rank from below. let s = e.w_seated in absurd (omega (arith, below, s))), none_seated 1 lanes (known_self w ∷ passes_of lanes) e.know);
  }

  -- this entry is of none of these lanes
  lanes_beyond : (log seen rest : DeskLog) (k : ℕ) (lanes : List Lane) (m : MadeEntry Step StepOut) (more : DeskLog) → rest ≡ m ∷ more → log ≡ seen ++ rest → LanesKnow pin_rules k lanes → Each (λ (lane : Lane). StartsWith seen lane.view.seen) lanes → Each (HasPlaces log) (passes_of lanes) → ¬ HasNumber m.by (passes_of lanes)
  lanes_beyond log seen rest k [] m more cut whole know starts places has = has
  lanes_beyond log seen rest k (lane ∷ lanes) m more cut whole know starts places (inl is) = (subst (Each (λ (x : MadeEntry Step StepOut). ¬ (lane.view.number ≡ x.by))) cut (beyond log seen rest lane.view.seen lane.view.number lane.view.mine whole starts.0 places.0.mine know.0.holds.mine)).0 is
  lanes_beyond log seen rest k (lane ∷ lanes) m more cut whole know starts places (inr has) = lanes_beyond log seen rest (k + 1) lanes m more cut whole know.1 starts.1 places.1 has

  -- the history has nothing beyond what the worker's pass has seen at the end
  nothing_more : (first w : DeskView) (lanes : List Lane) (log rest : DeskLog) → Ends first w lanes → log ≡ w.seen ++ rest → Each (λ (m : MadeEntry Step StepOut). HasNumber m.by (known_self first ∷ known_self w ∷ passes_of lanes)) log → places_from 0 first.number log ≡ first.mine → places_from 0 w.number log ≡ w.mine → Each (HasPlaces log) (passes_of lanes) → rest ≡ []
  nothing_more first w lanes log [] e cut known first_places w_places places = refl
  nothing_more first w lanes log (m ∷ rest) e cut known first_places w_places places = absurd (none (each_right (λ (x : MadeEntry Step StepOut). HasNumber x.by (known_self first ∷ known_self w ∷ passes_of lanes)) w.seen (m ∷ rest) (subst (Each (λ (x : MadeEntry Step StepOut). HasNumber x.by (known_self first ∷ known_self w ∷ passes_of lanes))) cut known)).0)
    where
      none : HasNumber m.by (known_self first ∷ known_self w ∷ passes_of lanes) → ⊥
      none (inl is) = (beyond log w.seen (m ∷ rest) [] first.number first.mine cut (w.seen, refl) first_places (sym e.mine)).0 is
      none (inr (inl is)) = (beyond log w.seen (m ∷ rest) e.work.base w.number w.mine cut e.work.seen w_places e.work.mine).0 is
      none (inr (inr has)) = lanes_beyond log w.seen (m ∷ rest) 1 lanes m rest refl cut e.know e.each places has

  -- the worker's entries in the whole history
  worked_all : (log : DeskLog) (w : DeskView) → WorkHolds pin_rules w → StartsWith log w.seen → places_from 0 w.number log ≡ w.mine → IsWorked pin_rules w.number log
  worked_all log w h starts places front m rest cut by =
      let more : DeskLog = h.seen.0 ++ starts.0 in
      let whole : log ≡ h.base ++ more = starts.1 ∙ ap (λ (l : DeskLog). l ++ starts.0) h.seen.1 ∙ append_assoc h.base h.seen.0 starts.0 in
      let same : places_from 0 w.number (h.base ++ more) ≡ places_from 0 w.number h.base = ap (places_from 0 w.number) (sym whole) ∙ places ∙ sym h.mine in
      ⊎_elim (λ (r : (rest' : DeskLog) × (h.base ≡ front ++ m ∷ rest')). h.worked front m r.0 r.1 by) (λ (ne : m.by ≢ w.number). absurd (ne by))
      (append_cases (λ (y : MadeEntry Step StepOut). y.by ≢ w.number) h.base more front rest m (placed_none (0 + length h.base) w.number more (placed_same w.number h.base more same)) (sym whole ∙ cut))

  -- no work is due after the whole history
  idle_after : (log : DeskLog) (w : DeskView) → IsIdle w → NotesTrue (status_after pin_rules) log w.notes → log ≡ w.seen → due_at (status_after pin_rules (entries_of log)) ≡ None
  idle_after log w idle notes same =
      let note : IsTrueNote (status_after pin_rules) log (idle.length_then, idle.status_then) = (each_right (IsTrueNote (status_after pin_rules) log) idle.front ((idle.length_then, idle.status_then) ∷ []) (subst (NotesTrue (status_after pin_rules) log) idle.last notes)).0 in
      let below = note.0 in let far = idle.seen in let long = ap length same in
      let at : idle.length_then ≡ length log = omega (arith, below, far, long) in
      ap due_at (sym (note.1 ∙ ap (λ l. status_after pin_rules (entries_of l)) (take_whole log idle.length_then at))) ∙ idle.none

  pub lives : (lines : List (List LaneStep)) (stop : Option Stop) (history : List DeskEntry) (first w : DeskView) (lanes : List Lane) → Ends first w lanes → map (λ (lane : Lane). lane.lines) lanes ≡ lines → Closes (status_after pin_rules) first history → Legal pin_rules history
      → StopsSo stop lanes w → LiveHistory pin_rules lines stop history
  lives lines stop history first w lanes e are closes legal stops =
      let log : DeskLog = closes.log in
      let P : List KnownPass = known_self first ∷ known_self w ∷ passes_of lanes in
      let ps : passes_known first ≡ P = (λ i. known_self first ∷ e.ended i) in
      let told : TellsPasses log P = subst (TellsPasses log) ps closes.known in
      let are_whole : AreWhole P = subst AreWhole ps (whole first w lanes e) in
      let known : Each (λ (m : MadeEntry Step StepOut). HasNumber m.by P) log = all_known log P are_whole told in
      let log_w : StartsWith log w.seen = starts_with log first.seen w.seen closes.seen e.seen in
      let notes : NotesTrue (status_after pin_rules) log w.notes = subst (NotesTrue (status_after pin_rules) log) e.notes closes.notes in
      let lane_notes : NotesTrue (status_after pin_rules) log (notes_of lanes) = each_left (IsTrueNote (status_after pin_rules) log) (notes_of lanes) e.after (each_right (IsTrueNote (status_after pin_rules) log) e.before (notes_of lanes ++ e.after) (subst (NotesTrue (status_after pin_rules) log) e.w_notes notes)) in
      let each : Each (λ (lane : Lane). StartsWith log lane.view.seen) lanes = each_map (λ (lane : Lane). StartsWith w.seen lane.view.seen) (λ (lane : Lane). StartsWith log lane.view.seen) lanes (λ lane s. starts_with log w.seen lane.view.seen log_w s) e.each in
      let stands = lanes_stand log 1 lanes e.know each lane_notes told.each.1.1 in
      let none : own_from 0 first.number log ≡ [] = ap (map (λ (p : ℕ × DeskEntry). p.1)) (no_length (placed_from 0 first.number log) (placed_length 0 first.number log ∙ ap length (told.each.0.mine ∙ e.mine))) in
      let rest_none : log_w.0 ≡ [] = nothing_more first w lanes log log_w.0 e log_w.1 known told.each.0.mine told.each.1.0.mine told.each.1.1 in
      let log_is : log ≡ w.seen = log_w.1 ∙ ap (λ (l : DeskLog). w.seen ++ l) rest_none ∙ append-nil w.seen in
      let work : List DeskEntry = own_from 0 w.number log in
      let all : Shuffle (entries_of log) (joined_lists ([] ∷ (work ∷ []) ∷ pairs stands.events)) =
      refine (entries_of log) (owns 0 log P) ([] ∷ (work ∷ []) ∷ pairs stands.events) (shuffle_own 0 log P known told.differ)
      (subst (λ (l : List DeskEntry). Shuffle l []) (sym none) tt, (shuffle_one work, stands.refined)) in record {
        log = log;
        bare = closes.bare;
        legal = legal;
        lanes = lanes;
        lines_are = are;
        events = stands.events;
        run = stands.stand;
        worked = subst (λ (n : List ℕ). IsWorked pin_rules n log) e.w_number (worked_all log w e.work log_w told.each.1.0.mine);
        work = work;
        work_is = ap (λ (n : List ℕ). own_from 0 n log) e.w_number;
        shuffle = subst (λ (h : List DeskEntry). Shuffle h (work ∷ lists_of stands.events)) (sym closes.bare) (subst (λ (ls : List (List DeskEntry)). Shuffle (entries_of log) (work ∷ ls)) (pairs_are stands.events) all);
        done = stops.done;
        idle = λ is. subst (λ (h : List DeskEntry). due_at (status_after pin_rules h) ≡ None) (sym closes.bare) (idle_after log w (stops.idle is) notes log_is);
        full = λ is. let f : 1048576 ≤ length w.seen = stops.full is in let short = closes.short in let long = ap length closes.bare in let l = ap length log_is in let n = entries_length log in omega (arith, short, f, long, l, n);
        met = stops.met;
      }
