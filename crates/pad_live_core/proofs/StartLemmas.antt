-- Lanes that are started and joined one by one.
use Rattle.std.proofs.Common.{ap, append_assoc, append-nil, arith, length, length-append, map, refl, subst, suc, sym, zero, List, [], ◌++◌, ◌+◌, ◌∙◌, ◌∷◌, ◌≡◌, ◌<◌, ◌≤◌, ℕ, get_or, take}
use Rattle.std.proofs.lemmas.List.{map-append, take_more}
use Rattle.std.specs.Prelude.{IfSome, None, Option, Some, option_to_list}
use Rattle.disk_core.specs.declared.disk.Disk.{Ghosts as DiskGhosts}
use Rattle.pad_desk.specs.declared.machine.PadAndDisk.{PadAndDisk}
use Rattle.pad_desk.specs.declared.outcome.StepOut.{StepOut}
use Rattle.pad_live_core.proofs.MoveLemmas.{begins}
use Rattle.pad_live_core.proofs.WorkLemmas.{take_whole}
use Rattle.pad_live_core.specs.LaneEvents.{DeskLog, DeskView}
use Rattle.pad_live_core.specs.LaneJobs.{AllEnded, AllFormed, AreSeated, DeskSeat, DeskTurn, EndsAs, EndsFrom, LastSeat, StartsAs, WorkerRan, seat_view}
use Rattle.pad_live_core.specs.LiveHistories.{JoinsLanes, Lane, LaneKnows, LanesKnow, notes_of, passes_of}
use Rattle.pad_live_core.specs.PendingLanes.{Absorbed, Absorbing, Absorbs, AllPend, Joining, PendsAs, StopsFor}
use Rattle.pad_live_core.specs.Stops.{AreFormed, LaneFull, LaneRan, worse}
use Rattle.pad_live_core.specs.declared.jobs.LaneStart.{LaneStart}
use Rattle.pad_live_core.specs.declared.jobs.Pending.{Pending}
use Rattle.pad_live_core.specs.declared.lane.LaneEnd.{LaneEnd}
use Rattle.pad_live_core.specs.declared.stop.Stop.TheVariants as why
use Rattle.pad_live_core.specs.declared.stop.Stop.{Stop}
use Rattle.pad_live_core.specs.declared.worker.WorkerEnd.{WorkerEnd}
use Rattle.pad_steps.specs.declared.steps.Step.{Step}
use Rattle.pin_blocks.specs.PinRules.{PinRules}
use Rattle.pin_blocks.specs.declared.work.PinWork.{Ghosts as PinWorkGhosts}
use Rattle.script_lang.specs.declared.lane_kinds.LaneStep.{LaneStep}
use Rattle.turnstile.proofs.ListLemmas.{each_append, each_map}
use Rattle.turnstile.specs.Numbers.{Each}
use Rattle.turnstile.specs.Rules.{Settled, StartsWith, first_view, joined, known_self, new_seat, with_new_seat}
use Rattle.turnstile.specs.Turns.{IsPassOf, view}
use Rattle.turnstile.specs.declared.view.MadeEntry.{MadeEntry}

-- the first pass after it seated so many
abbrev seated_view : List ℕ → ℕ → DeskView
seated_view origin n = record (first_view origin) { seated = n }

-- a fact of each, at a place
pub each_at : {A : Type 0} (P : A → Type 0) (l : List A) (i : ℕ) (d : A) → Each P l → i < length l → P (get_or l i d)
each_at P [] i d each below = absurd (omega (arith, below))
each_at P (x ∷ l) zero d each below = each.0
each_at P (x ∷ l) (suc i) d each below = each_at P l i d each.1 (omega (arith, below))

-- the lines of the lane at a place have their form
pub formed_at : {V : Type 0} (f : V → List LaneStep) (lanes : List V) (i : ℕ) (x d : V) → AllFormed (map f lanes) → i < length lanes → x ≡ get_or lanes i d → AreFormed (f x)
formed_at {V} f lanes i x d formed below is = subst (λ y. AreFormed (f y)) (sym is) (go lanes i formed below)
  where
    go : (l : List V) (i : ℕ) → AllFormed (map f l) → i < length l → AreFormed (f (get_or l i d))
    go [] i formed below = absurd (omega (arith, below))
    go (x ∷ l) zero formed below = formed.0
    go (x ∷ l) (suc i) formed below = go l i formed.1 (omega (arith, below))

module _ {X : Type 0} where
  -- the last of the seated passes, and those before it
  pub seats_last : (turn : DeskTurn X) (k : ℕ) (ps : List (DeskSeat X)) (p : DeskSeat X) → AreSeated turn k (ps ++ p ∷ []) → AreSeated turn k ps × IsPassOf turn p × (view p ≡ seat_view (view p).origin (k + length ps))
  seats_last turn k [] p ok = (tt, ok.0.0, ok.0.1 ∙ ap (seat_view (view p).origin) (omega arith))
  seats_last turn k (q ∷ ps) p ok = let more = seats_last turn (k + 1) ps p ok.1 in ((ok.0, more.0), more.1, more.2 ∙ ap (seat_view (view p).origin) (omega arith))

  popped : (turn : DeskTurn X) (all rest : List (DeskSeat X)) (p : DeskSeat X) (r : Option (DeskSeat X)) → AreSeated turn 1 all → all ≡ rest ++ option_to_list r → r ≡ Some p → LastSeat turn rest p
  popped turn all rest p r ok cut is = let last = seats_last turn 1 rest p (subst (AreSeated turn 1) (cut ∙ ap (λ (x : Option (DeskSeat X)). rest ++ option_to_list x) is) ok) in record { seated = last.0; pass_of = last.1; viewed = last.2 }

  pub some_popped : (turn : DeskTurn X) (all rest : List (DeskSeat X)) (r : Option (DeskSeat X)) → AreSeated turn 1 all → all ≡ rest ++ option_to_list r → IfSome r (LastSeat turn rest)
  some_popped turn all rest None ok cut = tt
  some_popped turn all rest (Some p) ok cut = popped turn all rest p (Some p) ok cut refl

  pub seats_more : (turn : DeskTurn X) (k : ℕ) (ps : List (DeskSeat X)) (p : DeskSeat X) → AreSeated turn k ps → IsPassOf turn p → view p ≡ seat_view (view p).origin (k + length ps) → AreSeated turn k (ps ++ p ∷ [])
  seats_more turn k [] p so pass is = ((pass, is ∙ ap (seat_view (view p).origin) (omega arith)), tt)
  seats_more turn k (q ∷ ps) p so pass is = (so.0, seats_more turn (k + 1) ps p so.1 pass (is ∙ ap (seat_view (view p).origin) (omega arith)))

  pub seats_next : (turn : DeskTurn X) (origin : List ℕ) (i : ℕ) (ps qs : List (DeskSeat X)) (p : DeskSeat X) (v : DeskView) → AreSeated turn 1 ps → IsPassOf turn p → v ≡ record (first_view origin) { seated = 1 + i } → view p ≡ new_seat v → length ps ≡ i → qs ≡ ps ++ p ∷ [] → AreSeated turn 1 qs
  seats_next turn origin i ps qs p v so pass is made long grown =
      let seated : view p ≡ seat_view origin (1 + length ps) = made ∙ ap new_seat is ∙ ap (λ (n : ℕ). seat_view origin (1 + n)) (sym long) in
      subst (AreSeated turn 1) (sym grown) (seats_more turn 1 ps p so pass (seated ∙ ap (λ (o : List ℕ). seat_view o (1 + length ps)) (sym (ap (λ (y : DeskView). y.origin) seated))))

  -- the same of what a closure that was handed back holds
  pub pass_from : (turn turn' : DeskTurn X) (p p' : DeskSeat X) → turn' ≡ turn → p' ≡ p → IsPassOf turn p → IsPassOf turn' p'
  pass_from turn turn' p p' same_turn same_pass pass = subst (λ (x : DeskTurn X). IsPassOf x p') (sym same_turn) (subst (λ (x : DeskSeat X). IsPassOf turn x) (sym same_pass) pass)

pub formed_from : (l l' : List LaneStep) → l' ≡ l → AreFormed l → AreFormed l'
formed_from l l' same formed = subst AreFormed (sym same) formed

pub first_more : (origin : List ℕ) (i : ℕ) (v w : DeskView) → v ≡ record (first_view origin) { seated = 1 + i } → w ≡ with_new_seat v → w ≡ record (first_view origin) { seated = 1 + (i + 1) }
first_more origin i v w is made = made ∙ ap with_new_seat is ∙ ap (λ (n : ℕ). seated_view origin n) (omega arith)

lanes_more : {V : Type 0} (f : V → List LaneStep) (lanes : List V) (m : ℕ) (x : V) → m < length lanes → x ≡ get_or lanes m x → map f (take (m + 1) lanes) ≡ map f (take m lanes) ++ f x ∷ []
lanes_more f lanes m x below is = ap (map f) (take_more lanes m x below) ∙ map-append f (take m lanes) (get_or lanes m x ∷ []) ∙ ap (λ y. map f (take m lanes) ++ f y ∷ []) (sym is)

-- lanes that are joined

notes_of_append : (a b : List Lane) → notes_of (a ++ b) ≡ notes_of a ++ notes_of b
notes_of_append [] b = refl
notes_of_append (l ∷ a) b = ap (λ n. l.view.notes ++ n) (notes_of_append a b) ∙ sym (append_assoc l.view.notes (notes_of a) (notes_of b))

passes_of_append : (a b : List Lane) → passes_of (a ++ b) ≡ passes_of a ++ passes_of b
passes_of_append [] b = refl
passes_of_append (l ∷ a) b = ap (λ n. known_self l.view ∷ n) (passes_of_append a b)

starts_with : (a b c : DeskLog) → StartsWith a b → StartsWith b c → StartsWith a c
starts_with a b c x y = (y.0 ++ x.0, x.1 ∙ ap (λ l. l ++ x.0) y.1 ∙ append_assoc c y.0 x.0)

joins_none : (v : DeskView) → JoinsLanes v [] v
joins_none v = record { number = refl; seated = refl; mine = refl; ended = sym (append-nil v.ended); seen = ([], sym (append-nil v.seen)); each = tt; notes = sym (append-nil v.notes) }

joins_more : (v u w : DeskView) (ds : List Lane) (d : Lane) → JoinsLanes v ds u → d.view.ended ≡ [] → Settled (joined u d.view) w → JoinsLanes v (ds ++ d ∷ []) w
joins_more v u w ds d so none settled = record {
  number = ap (λ (y : DeskView). y.number) settled.0 ∙ so.number;
  seated = ap (λ (y : DeskView). y.seated) settled.0 ∙ so.seated;
  mine = ap (λ (y : DeskView). y.mine) settled.0 ∙ so.mine;
  ended = ap (λ (y : DeskView). y.ended) settled.0 ∙ (λ i. so.ended i ++ known_self d.view ∷ none i) ∙ append_assoc v.ended (passes_of ds) (known_self d.view ∷ []) ∙ ap (λ l. v.ended ++ l) (sym (passes_of_append ds (d ∷ [])));
  seen = starts_with w.seen u.seen v.seen settled.1 so.seen;
  each = each_append (λ (l : Lane). StartsWith w.seen l.view.seen) ds (d ∷ []) (each_map (λ (l : Lane). StartsWith u.seen l.view.seen) (λ (l : Lane). StartsWith w.seen l.view.seen) ds (λ l s. starts_with w.seen u.seen l.view.seen settled.1 s) so.each) (settled.2, tt);
  notes = ap (λ (y : DeskView). y.notes) settled.0 ∙ ap (λ n. n ++ d.view.notes) so.notes ∙ append_assoc v.notes (notes_of ds) d.view.notes ∙ ap (λ n. v.notes ++ n) (ap (λ n. notes_of ds ++ n) (sym (append-nil d.view.notes)) ∙ sym (notes_of_append ds (d ∷ [])));
}

-- the reason that counts more

worse_none : (one other : Option Stop) → worse one other ≡ None → (one ≡ None) × (other ≡ None)
worse_none one None e = (e, refl)
worse_none one (Some why.Full) e = absurd cc
worse_none None (Some why.NoMemory) e = absurd cc
worse_none (Some why.NoMemory) (Some why.NoMemory) e = absurd cc
worse_none (Some why.Told) (Some why.NoMemory) e = absurd cc
worse_none (Some why.Full) (Some why.NoMemory) e = absurd cc
worse_none None (Some why.Told) e = absurd cc
worse_none (Some why.NoMemory) (Some why.Told) e = absurd cc
worse_none (Some why.Told) (Some why.Told) e = absurd cc
worse_none (Some why.Full) (Some why.Told) e = absurd cc

worse_first : (one other : Option Stop) → one ≡ Some why.Full → worse one other ≡ Some why.Full
worse_first one None e = e
worse_first one (Some why.Full) e = refl
worse_first one (Some why.NoMemory) e = ap (λ o. worse o (Some why.NoMemory)) e
worse_first one (Some why.Told) e = ap (λ o. worse o (Some why.Told)) e

worse_second : (one other : Option Stop) → other ≡ Some why.Full → worse one other ≡ Some why.Full
worse_second one other e = ap (worse one) e

-- a full history is the reason of one of the two
worse_full : (P : Type 0) (one other : Option Stop) → worse one other ≡ Some why.Full → (one ≡ Some why.Full → P) → (other ≡ Some why.Full → P) → P
worse_full P one None e first second = first e
worse_full P one (Some why.Full) e first second = second refl
worse_full P None (Some why.NoMemory) e first second = absurd cc
worse_full P (Some why.NoMemory) (Some why.NoMemory) e first second = absurd cc
worse_full P (Some why.Told) (Some why.NoMemory) e first second = absurd cc
worse_full P (Some why.Full) (Some why.NoMemory) e first second = first refl
worse_full P None (Some why.Told) e first second = absurd cc
worse_full P (Some why.NoMemory) (Some why.Told) e first second = absurd cc
worse_full P (Some why.Told) (Some why.Told) e first second = absurd cc
worse_full P (Some why.Full) (Some why.Told) e first second = first refl

stops_none : (v : DeskView) → StopsFor None [] v
stops_none v = record { none = λ _. tt; full = λ e. absurd cc; met = tt; known = tt }

stops_more : (one other : Option Stop) (ds : List Lane) (d : Lane) (u w : DeskView) → d.stop ≡ other → StopsFor one ds u → LaneFull d.stop d.view → length u.seen ≤ length w.seen → length d.view.seen ≤ length w.seen → StopsFor (worse one other) (ds ++ d ∷ []) w
stops_more one other ds d u w is so full le lf = record {
  none = λ e. let both = worse_none one other e in each_append (λ (l : Lane). l.stop ≡ None) ds (d ∷ []) (so.none both.0) (is ∙ both.1, tt);
  full = λ e. worse_full (1048576 ≤ length w.seen) one other e (λ first. let long = so.full first in omega (arith, long, le))
      (λ second. let long : length d.view.seen ≡ 1048576 = subst (λ (s : Option Stop). LaneFull s d.view) (is ∙ second) full in omega (arith, long, lf));
  met = each_append (λ (l : Lane). l.stop ≡ Some why.Full → worse one other ≡ Some why.Full) ds (d ∷ [])
      (each_map (λ (l : Lane). l.stop ≡ Some why.Full → one ≡ Some why.Full) (λ (l : Lane). l.stop ≡ Some why.Full → worse one other ≡ Some why.Full) ds (λ l f e. worse_first one other (f e)) so.met) ((λ e. worse_second one other (sym is ∙ e)), tt);
  known = each_append (λ (l : Lane). LaneFull l.stop l.view) ds (d ∷ []) so.known (full, tt);
}

module _ (pin_rules : PinRules) where
  -- a lane that was seated before any call, and ran
  pub lane_knows : (k : ℕ) (lines : List LaneStep) (maker start end : DeskView) (stop : Option Stop) → maker.seen ≡ [] → maker.number ≡ [] → maker.seated ≡ k → start ≡ new_seat maker → LaneRan pin_rules lines start stop end → LaneKnows pin_rules k (record { lines = lines; stop = stop; view = end })
  lane_knows k lines maker start end None seen number seated is ran = record {
    number = ran.moves.same.number ∙ ap (λ (y : DeskView). y.number) is ∙ (λ i. number i ++ seated i ∷ []);
    seated = ran.moves.same.seated ∙ ap (λ (y : DeskView). y.seated) is;
    ended = ran.moves.same.ended ∙ ap (λ (y : DeskView). y.ended) is;
    events = ran.events;
    last = ran.last;
    holds = ran.moves.holds [] (begins pin_rules maker start seen is);
    follows = ran.follows;
  }
  lane_knows k lines maker start end (Some stop) seen number seated is ran = let cut = ran.0 in record {
    number = cut.moves.same.number ∙ ap (λ (y : DeskView). y.number) is ∙ (λ i. number i ++ seated i ∷ []);
    seated = cut.moves.same.seated ∙ ap (λ (y : DeskView). y.seated) is;
    ended = cut.moves.same.ended ∙ ap (λ (y : DeskView). y.ended) is;
    events = cut.events ++ cut.now;
    last = cut.last;
    holds = cut.moves.holds [] (begins pin_rules maker start seen is);
    follows = record { done = cut.done; line = cut.line; rest = cut.rest; cut = cut.cut; events = cut.events; now = cut.now; follows = cut.follows; breaks = cut.breaks; is = refl };
  }

module _ {W D : Type 0} {work : PinWorkGhosts W} {disk : DiskGhosts D} (pin_rules : PinRules) where
  pub pendings_more : (turn : DeskTurn (PadAndDisk W D work disk)) (k : ℕ) (ls : List (List LaneStep)) (ps : List (Pending W D work disk)) (l : List LaneStep) (p : Pending W D work disk) → AllPend pin_rules turn k ls ps → PendsAs pin_rules turn (k + length ps) l p → AllPend pin_rules turn k (ls ++ l ∷ []) (ps ++ p ∷ [])
  pendings_more turn k [] [] l p so one = (subst (λ (n : ℕ). PendsAs pin_rules turn n l p) (omega arith) one, tt)
  pendings_more turn k [] (q ∷ ps) l p so one = absurd so
  pendings_more turn k (m ∷ ls) [] l p so one = absurd so
  pendings_more turn k (m ∷ ls) (q ∷ ps) l p so one = (so.0, pendings_more turn (k + 1) ls ps l p so.1 (subst (λ (n : ℕ). PendsAs pin_rules turn n l p) (omega arith) one))

  -- a lane that was joined is the one that was begun
  pub joined_end : (turn : DeskTurn (PadAndDisk W D work disk)) (k : ℕ) (l : List LaneStep) (start : LaneStart W D work disk) (end : LaneEnd W D work disk) → StartsAs pin_rules turn k l start → EndsFrom pin_rules start end → EndsAs pin_rules turn k l end
  joined_end turn k l start end was ran = record {
    pass_of = subst (λ (x : DeskTurn (PadAndDisk W D work disk)). IsPassOf x end.pass) was.turn_is ran.0;
    origin = (view start.pass.value).origin;
    ran = subst (λ v. LaneRan pin_rules l v end.stop (view end.pass)) was.viewed (subst (λ (x : List LaneStep). LaneRan pin_rules x (view start.pass.value) end.stop (view end.pass)) was.lines_are ran.1);
  }

  pub started_more : {V : Type 0} (f : V → List LaneStep) (turn : DeskTurn (PadAndDisk W D work disk)) (lanes : List V) (n m : ℕ) (x : V) (ps qs : List (Pending W D work disk)) (p : Pending W D work disk) → n ≡ m + 1 → n ≤ length lanes → x ≡ get_or lanes m x → AllPend pin_rules turn 1 (map f (take m lanes)) ps → length ps ≡ m → qs ≡ ps ++ p ∷ [] → PendsAs pin_rules turn (1 + m) (f x) p → AllPend pin_rules turn 1 (map f (take n lanes)) qs
  started_more {V} f turn lanes n m x ps qs p next below is so long grown one =
      subst (λ (y : List (Pending W D work disk)). AllPend pin_rules turn 1 (map f (take n lanes)) y) (sym grown)
      (subst (λ (ls : List (List LaneStep)). AllPend pin_rules turn 1 ls (ps ++ p ∷ [])) (sym (ap (λ (k : ℕ). map f (take k lanes)) next ∙ lanes_more f lanes m x (omega (arith, next, below)) is))
      (pendings_more turn 1 (map f (take m lanes)) ps (f x) p so (subst (λ (k : ℕ). PendsAs pin_rules turn (1 + k) (f x) p) (sym long) one)))

  pub was_started : (turn : DeskTurn (PadAndDisk W D work disk)) (k : ℕ) (l : List LaneStep) (start made : LaneStart W D work disk) → start ≡ made → made.desk.value.turn ≡ turn → made.lines.value.items ≡ l → view made.pass.value ≡ seat_view (view made.pass.value).origin k → StartsAs pin_rules turn k l start
  was_started turn k l start made is a b c = subst (StartsAs pin_rules turn k l) (sym is) (record { turn_is = a; lines_are = b; viewed = c })

  -- a lane that ran here is the one that was begun
  pub end_of : (turn : DeskTurn (PadAndDisk W D work disk)) (k : ℕ) (l : List LaneStep) (p : DeskSeat (PadAndDisk W D work disk)) (end : LaneEnd W D work disk) → view p ≡ seat_view (view p).origin k → IsPassOf turn end.pass → LaneRan pin_rules l (view p) end.stop (view end.pass) → EndsAs pin_rules turn k l end
  end_of turn k l p end is pass ran = record { pass_of = pass; origin = (view p).origin; ran = subst (λ v. LaneRan pin_rules l v end.stop (view end.pass)) is ran }

  -- the same of what a closure that was handed back ran with
  pub end_from : (turn turn' : DeskTurn (PadAndDisk W D work disk)) (k : ℕ) (l l' : List LaneStep) (p p' : DeskSeat (PadAndDisk W D work disk)) (end : LaneEnd W D work disk) → turn' ≡ turn → l' ≡ l → p' ≡ p → view p ≡ seat_view (view p).origin k → IsPassOf turn' end.pass → LaneRan pin_rules l' (view p') end.stop (view end.pass) → EndsAs pin_rules turn k l end
  end_from turn turn' k l l' p p' end same_turn same_lines same_pass is pass ran =
      end_of turn k l p end is (subst (λ (x : DeskTurn (PadAndDisk W D work disk)). IsPassOf x end.pass) same_turn pass) (subst (λ (x : DeskSeat (PadAndDisk W D work disk)). LaneRan pin_rules l (view x) end.stop (view end.pass)) same_pass (subst (λ (x : List LaneStep). LaneRan pin_rules x (view p') end.stop (view end.pass)) same_lines ran))

  pub whole_pendings : {V : Type 0} (f : V → List LaneStep) (turn : DeskTurn (PadAndDisk W D work disk)) (lanes : List V) (n : ℕ) (ps : List (Pending W D work disk)) → n ≡ length lanes → AllPend pin_rules turn 1 (map f (take n lanes)) ps → AllPend pin_rules turn 1 (map f lanes) ps
  whole_pendings f turn lanes n ps is so = subst (λ (ls : List (List LaneStep)). AllPend pin_rules turn 1 ls ps) (ap (map f) (take_whole lanes n is)) so

  -- lanes that run are joined

  joining_more : (turn : DeskTurn (PadAndDisk W D work disk)) (k : ℕ) (ls : List (List LaneStep)) (es : List (LaneEnd W D work disk)) (p : Pending W D work disk) (ps : List (Pending W D work disk)) (e : LaneEnd W D work disk) → Joining pin_rules turn k ls es (p ∷ ps) → ((j : ℕ) (l : List LaneStep) → PendsAs pin_rules turn j l p → EndsAs pin_rules turn j l e) → Joining pin_rules turn k ls (es ++ e ∷ []) ps
  joining_more turn k [] [] p ps e so f = absurd so
  joining_more turn k (l ∷ ls) [] p ps e so f = (f k l so.0, so.1)
  joining_more turn k [] (d ∷ es) p ps e so f = absurd so
  joining_more turn k (l ∷ ls) (d ∷ es) p ps e so f = (so.0, joining_more turn (k + 1) ls es p ps e so.1 f)

  pub joining_all : (turn : DeskTurn (PadAndDisk W D work disk)) (k : ℕ) (ls : List (List LaneStep)) (es : List (LaneEnd W D work disk)) → Joining pin_rules turn k ls es [] → AllEnded pin_rules turn k ls es
  joining_all turn k [] [] so = tt
  joining_all turn k (l ∷ ls) [] so = absurd so
  joining_all turn k [] (e ∷ es) so = absurd so
  joining_all turn k (l ∷ ls) (e ∷ es) so = (so.0, joining_all turn (k + 1) ls es so.1)

  pub joining_next : (turn : DeskTurn (PadAndDisk W D work disk)) (ls : List (List LaneStep)) (es es' : List (LaneEnd W D work disk)) (ps ps' : List (Pending W D work disk)) (p : Pending W D work disk) (e : LaneEnd W D work disk) → Joining pin_rules turn 1 ls es ps → ps ≡ p ∷ ps' → es' ≡ es ++ e ∷ [] → ((j : ℕ) (l : List LaneStep) → PendsAs pin_rules turn j l p → EndsAs pin_rules turn j l e) → Joining pin_rules turn 1 ls es' ps'
  joining_next turn ls es es' ps ps' p e so cut grown f = subst (λ (x : List (LaneEnd W D work disk)). Joining pin_rules turn 1 ls x ps') (sym grown) (joining_more turn 1 ls es p ps' e (subst (Joining pin_rules turn 1 ls es) cut so) f)

  -- the passes of lanes are taken in

  end_knows : (turn : DeskTurn (PadAndDisk W D work disk)) (k : ℕ) (l : List LaneStep) (e : LaneEnd W D work disk) → EndsAs pin_rules turn k l e → LaneKnows pin_rules k (record { lines = l; stop = e.stop; view = view e.pass })
  end_knows turn k l e so = lane_knows pin_rules k l (record (first_view so.origin) { seated = k }) (seat_view so.origin k) (view e.pass) e.stop refl refl refl refl so.ran

  stop_of : (turn : DeskTurn (PadAndDisk W D work disk)) (k : ℕ) (l : List LaneStep) (e : LaneEnd W D work disk) → EndsAs pin_rules turn k l e → LaneFull e.stop (view e.pass)
  stop_of turn k l e so = go e.stop so.ran
    where
      go : (stop : Option Stop) → LaneRan pin_rules l (seat_view so.origin k) stop (view e.pass) → LaneFull stop (view e.pass)
      go None ran = tt
      go (Some s) ran = ran.1

  absorbing_more : (turn : DeskTurn (PadAndDisk W D work disk)) (k : ℕ) (ls : List (List LaneStep)) (ds : List Lane) (e : LaneEnd W D work disk) (es : List (LaneEnd W D work disk)) → Absorbing pin_rules turn k ls ds (e ∷ es)
      → (l : List LaneStep) × EndsAs pin_rules turn (k + length ds) l e × Absorbing pin_rules turn k ls (ds ++ record { lines = l; stop = e.stop; view = view e.pass } ∷ []) es
  absorbing_more turn k [] [] e es so = absurd so
  absorbing_more turn k (l ∷ ls) [] e es so = (l, subst (λ (n : ℕ). EndsAs pin_rules turn n l e) (omega arith) so.0, (refl, end_knows turn k l e so.0, so.1))
  absorbing_more turn k [] (d ∷ ds) e es so = absurd so
  absorbing_more turn k (l ∷ ls) (d ∷ ds) e es so = let more = absorbing_more turn (k + 1) ls ds e es so.2 in (more.0, subst (λ (n : ℕ). EndsAs pin_rules turn n more.0 e) (omega arith) more.1, (so.0, so.1, more.2))

  absorbing_all : (turn : DeskTurn (PadAndDisk W D work disk)) (k : ℕ) (ls : List (List LaneStep)) (ds : List Lane) → Absorbing pin_rules turn k ls ds [] → (map (λ (d : Lane). d.lines) ds ≡ ls) × LanesKnow pin_rules k ds
  absorbing_all turn k [] [] so = (refl, tt)
  absorbing_all turn k (l ∷ ls) [] so = absurd so
  absorbing_all turn k [] (d ∷ ds) so = absurd so
  absorbing_all turn k (l ∷ ls) (d ∷ ds) so = let more = absorbing_all turn (k + 1) ls ds so.2 in ((λ i. so.0 i ∷ more.0 i), (so.1, more.1))

  absorbs_more : (turn : DeskTurn (PadAndDisk W D work disk)) (ls : List (List LaneStep)) (v u w : DeskView) (e : LaneEnd W D work disk) (rest : List (LaneEnd W D work disk)) (stop stop' : Option Stop) → Absorbs pin_rules turn ls v (e ∷ rest) stop u → Settled (joined u (view e.pass)) w → stop' ≡ worse stop e.stop → Absorbs pin_rules turn ls v rest stop' w
  absorbs_more turn ls v u w e rest stop stop' so settled is =
      let more = absorbing_more turn 1 ls so.lanes e rest so.absorbing in
      let d : Lane = record { lines = more.0; stop = e.stop; view = view e.pass } in
      let le : length u.seen ≤ length w.seen = (let long = ap length settled.1.1 in omega (arith, long, length-append u.seen settled.1.0)) in
      let lf : length (view e.pass).seen ≤ length w.seen = (let long = ap length settled.2.1 in omega (arith, long, length-append (view e.pass).seen settled.2.0)) in record {
        lanes = so.lanes ++ d ∷ [];
        absorbing = more.2;
        joins = joins_more v u w so.lanes d so.joins (end_knows turn (1 + length so.lanes) more.0 e more.1).ended settled;
        stops = subst (λ (s : Option Stop). StopsFor s (so.lanes ++ d ∷ []) w) (sym is) (stops_more stop e.stop so.lanes d u w refl so.stops (stop_of turn (1 + length so.lanes) more.0 e more.1) le lf);
      }

  pub absorbs_none : (turn : DeskTurn (PadAndDisk W D work disk)) (ls : List (List LaneStep)) (v : DeskView) (es : List (LaneEnd W D work disk)) → AllEnded pin_rules turn 1 ls es → Absorbs pin_rules turn ls v es None v
  absorbs_none turn ls v es so = record { lanes = []; absorbing = so; joins = joins_none v; stops = stops_none v }

  pub absorbs_all : (turn : DeskTurn (PadAndDisk W D work disk)) (ls : List (List LaneStep)) (v w : DeskView) (rest : List (LaneEnd W D work disk)) (stop : Option Stop) → rest ≡ [] → Absorbs pin_rules turn ls v rest stop w → Absorbed pin_rules ls v stop w
  absorbs_all turn ls v w rest stop none so = let all = absorbing_all turn 1 ls so.lanes (subst (Absorbing pin_rules turn 1 ls so.lanes) none so.absorbing) in record { lanes = so.lanes; lines = all.0; know = all.1; joins = so.joins; stops = so.stops }

  pub end_pass : (turn : DeskTurn (PadAndDisk W D work disk)) (ls : List (List LaneStep)) (v u : DeskView) (e : LaneEnd W D work disk) (all rest : List (LaneEnd W D work disk)) (stop : Option Stop) → Absorbs pin_rules turn ls v all stop u → all ≡ e ∷ rest → IsPassOf turn e.pass
  end_pass turn ls v u e all rest stop so cut = (absorbing_more turn 1 ls so.lanes e rest (subst (Absorbing pin_rules turn 1 ls so.lanes) cut so.absorbing)).1.pass_of

  pub absorbs_next : (turn : DeskTurn (PadAndDisk W D work disk)) (ls : List (List LaneStep)) (v u w : DeskView) (e : LaneEnd W D work disk) (all rest : List (LaneEnd W D work disk)) (stop stop' : Option Stop) → Absorbs pin_rules turn ls v all stop u → all ≡ e ∷ rest → Settled (joined u (view e.pass)) w → stop' ≡ worse stop e.stop → Absorbs pin_rules turn ls v rest stop' w
  absorbs_next turn ls v u w e all rest stop stop' so cut settled is = absorbs_more turn ls v u w e rest stop stop' (subst (λ (x : List (LaneEnd W D work disk)). Absorbs pin_rules turn ls v x stop u) cut so) settled is

  pub worker_from : (turn turn' : DeskTurn (PadAndDisk W D work disk)) (p p' : DeskSeat (PadAndDisk W D work disk)) (e : WorkerEnd W D work disk) → turn' ≡ turn → p' ≡ p → WorkerRan pin_rules turn' (view p') e → WorkerRan pin_rules turn (view p) e
  worker_from turn turn' p p' e same_turn same_pass ran = subst (λ (x : DeskTurn (PadAndDisk W D work disk)). WorkerRan pin_rules x (view p) e) same_turn (subst (λ (x : DeskSeat (PadAndDisk W D work disk)). WorkerRan pin_rules turn' (view x) e) same_pass ran)
