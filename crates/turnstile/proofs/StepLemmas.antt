-- Each step keeps the rule of the turn.
use Rattle.std.proofs.Common.{◌≡◌, ℕ, ◌+◌, ◌-◌, ◌*◌, ◌%◌, ◌^◌, ◌<◌, ◌≤◌, Bool, true, false, List, [], ◌∷◌, ◌++◌, length, get_or, set, eqb, sym, refl, ap, ◌∙◌, subst, ⊎_elim, arith, length-append, length-set, get_or-set_same, get_or-set_other, mod-eq_of_lt}
use mathlib.Core.Logic.{dite}
use mathlib.Core.Path.{Path}
use mathlib.Core.Option.{none, some}
use native.Mathlib.Decide.{ℕ_discrete}
use prog.Atomic.{either}
use lib.ListN.{get_elem?}
use lib.Seq.{set-get_or}
use Rattle.std.proofs.lemmas.List.{map_push, append_cancel_left}
use Rattle.std.proofs.Math.Seq.{take-length}
use Rattle.std.specs.Prelude.{Option, Some}
use Rattle.atomic_table.specs.Table.{State, step, Act, keeps, takes, gives, Valid, carried_after, stepped, Allows, opening}
use Rattle.atomic_table.proofs.Lists.{exchanged, set_here}
use Rattle.turnstile.specs.declared.machine.Entry.{Entry}
use Rattle.turnstile.specs.declared.held.Held.{Held}
use Rattle.turnstile.specs.declared.view.MadeEntry.{MadeEntry}
use Rattle.turnstile.specs.declared.view.PassView.{PassView}
use Rattle.turnstile.specs.declared.view.Stage.TheVariants.{Idle, Waiting, Served}
use Rattle.turnstile.specs.Rules.{entry_in, entries_of, made_by, IsTrueNote, StageHolds, SeatHolds, StandsWith, TurnRule, SeatState, drew, looked, posted, advanced, glanced, first_view, known_self, known_passes, passes_known, longer, settled, KnowsOrigin}
use Rattle.turnstile.specs.Numbers.{Each, NumbersDiffer, TellsPasses, RanksCounted, PassHolds, places_from}
use Rattle.turnstile.proofs.ListLemmas.{each_append, at_end}
use Rattle.turnstile.proofs.NumberLemmas.{places_own, tells, known_other, apart_from}
use Rattle.turnstile.proofs.SeatLemmas.{put, put_here, put_else, seats, starts_more, longer_starts, starts_length, starts_same, notes_more, notes_below, knows_drawn, knows_apart, knows_advanced}

module _ {X O R : Type 0} (origin : List ℕ) (family : List ℕ → X → List (Entry O R) → Type 0) (status : List (Entry O R) → ℕ) (legal : List (Entry O R) → Type 0) where
  abbrev stands : X → List (Entry O R) → Type 0
  stands = family origin

  abbrev V : Type 0
  V = PassView O R

  abbrev S : Type 0
  S = Option (Held X O R)

  abbrev St : Type 0
  St = State S V

  abbrev Goes : St → ℕ → ℕ → SeatState X O R → (ℕ → SeatState X O R → Type 0) → ℕ → Type 0
  Goes s i id me then x = (w : V) × (a : Act S) × Valid s.homes me.1 a × TurnRule origin stands status legal (stepped s i x id me.1 w a) × then (get_or s.words i 0) (w, carried_after me.1 a)

  mine : (s : St) (r : TurnRule origin stands status legal s) (id : ℕ) (v : V) → get_elem? s.views id ≡ some v → SeatHolds origin status r.drawn r.turn r.out r.log r.owner r.keeper r.count id v
  mine s r id v at = r.each_seat id v at

  -- a step that changes no word and no slot
  still : (s : St) (r : TurnRule origin stands status legal s) (i id : ℕ) (cs : List (ℕ × S)) (w : V) → SeatHolds origin status r.drawn r.turn r.out r.log r.owner r.keeper r.count id w
      → TurnRule origin stands status legal (stepped s i (get_or s.words i 0) id cs w keeps)
  still s r i id cs w ok = subst (λ (ws : List ℕ). TurnRule origin stands status legal record { words = ws; homes = s.homes; views = set s.views id w }) (sym (set-get_or s.words i 0)) record {
    drawn = r.drawn;
    turn = r.turn;
    out = r.out;
    log = r.log;
    owner = r.owner;
    keeper = r.keeper;
    count = r.count;
    numbered = r.numbered;
    wide = r.wide;
    single = r.single;
    drawn_is = r.drawn_is;
    turn_is = r.turn_is;
    board_is = r.board_is;
    bounded = r.bounded;
    behind = r.behind;
    short = r.short;
    low = r.low;
    lawful = r.lawful;
    busy = r.busy;
    home = r.home;
    each_seat = seats (SeatHolds origin status r.drawn r.turn r.out r.log r.owner r.keeper r.count) (SeatHolds origin status r.drawn r.turn r.out r.log r.owner r.keeper r.count) s.views id w r.each_seat ok (λ j d ne k. k);
  }

  pub draws : (n id : ℕ) (me : SeatState X O R) (next : ℕ) → next < 2 ^ 64 - 1 → me.0.stage ≡ Idle
      → Allows (TurnRule origin stands status legal) n id me 0 (λ x. either (eqb x next) (next + 1) x) (drew (step n 0 next (next + 1) none) me)
  draws n id me next small idle s r wide at low = let x : ℕ = get_or s.words 0 0 in let told = drew {X = X} {O = O} {R = R} (step n 0 next (next + 1) none) me in
      exchanged x next (next + 1) (Goes s 0 id me told)
      (λ hit. let w : V = record me.0 { stage = Waiting x } in let is : r.drawn ≡ next = sym r.drawn_is ∙ hit in let ok = mine s r id me.0 at in
      let differ = subst (λ z. NumbersDiffer (known_passes z (known_self me.0) me.0.ended)) idle ok.differ in let knows = subst (λ z. Each (PassHolds r.keeper r.count r.log id) (known_passes z (known_self me.0) me.0.ended)) idle ok.known in
      let owner' : ℕ → ℕ = put r.owner next id in let old : (u : ℕ) → u < r.drawn → owner' u ≡ r.owner u = λ u l. put_else r.owner next id u (λ e. omega arith) in
      let d : ℕ = r.drawn in let t : ℕ = r.turn in let behind : t ≤ d = r.behind in let ws : ℕ = length s.words in let three : ws ≡ 3 = r.wide in (
        w,
        keeps,
        tt,
        record {
          drawn = d + 1;
          turn = r.turn;
          out = r.out;
          log = r.log;
          owner = owner';
          keeper = r.keeper;
          count = r.count;
          numbered = r.numbered;
          wide = length-set s.words 0 (next + 1) ∙ r.wide;
          single = r.single;
          drawn_is = get_or-set_same s.words 0 (next + 1) 0 (omega arith) ∙ ap (λ (z : ℕ). z + 1) (sym is);
          turn_is = get_or-set_other s.words 0 1 (next + 1) 0 (λ e. omega arith) ∙ r.turn_is;
          board_is = get_or-set_other s.words 0 2 (next + 1) 0 (λ e. omega arith) ∙ r.board_is;
          bounded = omega arith;
          behind = omega arith;
          short = r.short;
          low = r.low;
          lawful = r.lawful;
          busy = λ e. let l : t < d = r.busy e in omega arith;
          home = r.home;
          each_seat = seats (SeatHolds origin status d t r.out r.log r.owner r.keeper r.count) (SeatHolds origin status (d + 1) t r.out r.log owner' r.keeper r.count) s.views id w r.each_seat
              record {
                stage = (omega (arith, hit), omega (arith, hit), ap owner' hit ∙ put_here r.owner next id, λ e. fresh r.out (λ o. let l : t < d = r.busy o in omega (arith, hit, e)));
                seen = ok.seen;
                told = ok.told;
                notes = ok.notes;
                differ = differ;
                known = knows;
                origin_known = subst (λ z. KnowsOrigin origin z me.0.origin) idle ok.origin_known;
              }
              (λ j y ne k. record { stage = knows_drawn d t r.out r.log r.owner owner' j y.seen old y.stage k.stage; seen = k.seen; told = k.told; notes = k.notes; differ = k.differ; known = k.known; origin_known = k.origin_known });
        },
        ((λ _. refl), λ miss. absurd (miss hit)),
      ))
      (λ miss. (me.0, keeps, tt, still s r 0 id me.1 me.0 (mine s r id me.0 at), ((λ hit. absurd (miss hit)), λ _. refl)))
    where
      fresh : (b : Bool) → (b ≡ true → ⊥) → b ≡ false
      fresh true f = absurd (f refl)
      fresh false f = refl

  pub looks : (n id : ℕ) (me : SeatState X O R) (t : ℕ) → me.0.stage ≡ Waiting t → Allows (TurnRule origin stands status legal) n id me 1 (λ x. x) (looked family legal status (step n 1 0 0 none) me)
  looks n id me t st s r wide at low = let x : ℕ = get_or s.words 1 0 in let ok = mine s r id me.0 at in let seen = ok.seen in
      let k = subst (StageHolds r.drawn r.turn r.out r.log r.owner id me.0.seen) st ok.stage in
      let differ = subst (λ z. NumbersDiffer (known_passes z (known_self me.0) me.0.ended)) st ok.differ in let knows = subst (λ z. Each (PassHolds r.keeper r.count r.log id) (known_passes z (known_self me.0) me.0.ended)) st ok.known in
      let from : me.0.origin ≡ origin = subst (λ z. KnowsOrigin origin z me.0.origin) st ok.origin_known in
      dite (ℕ_discrete x t)
      (λ hit. let is : t ≡ r.turn = sym hit ∙ r.turn_is in let free : r.out ≡ false = k.3 is in let h = r.home free in
      let own : r.owner r.turn ≡ id = ap r.owner (sym is) ∙ k.2 in
      let w : V = record me.0 { stage = Served; seen = r.log } in let homes' = set s.homes 0 none in (
        w,
        takes 0 (Some h.0),
        h.1,
        subst (λ (ws : List ℕ). TurnRule origin stands status legal record { words = ws; homes = homes'; views = set s.views id w }) (sym (set-get_or s.words 1 0)) record {
          drawn = r.drawn;
          turn = r.turn;
          out = true;
          log = r.log;
          owner = r.owner;
          keeper = r.keeper;
          count = r.count;
          numbered = r.numbered;
          wide = r.wide;
          single = length-set s.homes 0 none ∙ r.single;
          drawn_is = r.drawn_is;
          turn_is = r.turn_is;
          board_is = r.board_is;
          bounded = r.bounded;
          behind = r.behind;
          short = r.short;
          low = r.low;
          lawful = r.lawful;
          busy = λ _. subst (λ (z : ℕ). z < r.drawn) is k.1;
          home = λ e. (cc);
          each_seat = seats (SeatHolds origin status r.drawn r.turn r.out r.log r.owner r.keeper r.count) (SeatHolds origin status r.drawn r.turn true r.log r.owner r.keeper r.count) s.views id w r.each_seat
              record { stage = (subst (λ (z : ℕ). z < r.drawn) is k.1, own, refl, refl); seen = starts_same r.log r.log refl; told = ok.told; notes = ok.notes; differ = differ; known = knows; origin_known = from }
              (λ j y ne q. record { stage = knows_apart r.drawn r.turn r.out true r.log r.log r.owner j id y.seen own ne y.stage q.stage; seen = q.seen; told = q.told; notes = q.notes; differ = q.differ; known = q.known; origin_known = q.origin_known });
        },
        ((λ _. record { held = h.0; slot = refl; fits = subst (λ o. StandsWith (family o) h.0 r.log) (sym from) h.2; served = refl; later = seen; short = r.short; lawful = r.lawful; notes = ok.notes; known = tells r.keeper r.count r.log id (passes_known me.0) r.numbered differ knows }), λ other. absurd (other (st ∙ ap Waiting (sym hit)))),
      ))
      (λ miss. (me.0, keeps, tt, still s r 1 id me.1 me.0 ok, ((λ e. let same : t ≡ x = cc (sym st ∙ e) in absurd (miss (sym same))), λ _. refl)))

  pub posts : (n id : ℕ) (me : SeatState X O R) (h : Held X O R) (e : Entry O R) (new : ℕ) → me.0.stage ≡ Served → me.1 ≡ (0, Some h) ∷ [] → h.history.items ≡ entries_of me.0.seen ++ e ∷ []
      → length me.0.seen < 1048576 → legal (entries_of me.0.seen ++ e ∷ []) → status (entries_of me.0.seen ++ e ∷ []) < 2 ^ 43 → new ≡ (length me.0.seen + 1) * 2 ^ 43 + status (entries_of me.0.seen ++ e ∷ [])
      → Allows (TurnRule origin stands status legal) n id me 2 (λ _. new) (λ _. posted (step n 2 new 0 none) me new)
  posts n id me h e new st has items room law small shows s r wide at low = let ok = mine s r id me.0 at in
      let k = subst (StageHolds r.drawn r.turn r.out r.log r.owner id me.0.seen) st ok.stage in let same : me.0.seen ≡ r.log = k.3 in
      let differ = subst (λ z. NumbersDiffer (known_passes z (known_self me.0) me.0.ended)) st ok.differ in let knows = subst (λ z. Each (PassHolds r.keeper r.count r.log id) (known_passes z (known_self me.0) me.0.ended)) st ok.known in
      let last : MadeEntry O R = made_by me.0.number e in let log' : List (MadeEntry O R) = r.log ++ last ∷ [] in
      let bare : entries_of log' ≡ entries_of me.0.seen ++ e ∷ [] = map_push entry_in r.log last ∙ ap (λ l. entries_of l ++ e ∷ []) (sym same) in
      let w : V = record me.0 { seen = me.0.seen ++ last ∷ []; mine = me.0.mine ++ length me.0.seen ∷ [] } in let ws : ℕ = length s.words in let three : ws ≡ 3 = r.wide in
      let long : length log' ≡ length me.0.seen + 1 = length-append r.log (last ∷ []) ∙ ap (λ l. length l + 1) (sym same) in
      let more : me.0.seen ++ last ∷ [] ≡ log' = ap (λ l. l ++ last ∷ []) same in
      let mine' : places_from 0 me.0.number log' ≡ me.0.mine ++ length me.0.seen ∷ [] = places_own me.0.number r.log last refl ∙ (λ i. knows.0.mine i ++ length (sym same i) ∷ []) in
      let knows' : Each (PassHolds r.keeper r.count log' id) (passes_known w) = (record { kept = knows.0.kept; seated = knows.0.seated; grows = knows.0.grows; mine = mine' }, known_other r.keeper r.count r.log last id me.0.ended differ.0 knows.1) in
      let numbered' : Each (λ (m : MadeEntry O R). RanksCounted r.count m.by) log' = each_append (λ (m : MadeEntry O R). RanksCounted r.count m.by) r.log (last ∷ []) r.numbered (knows.0.grows, tt) in (
        w,
        keeps,
        tt,
        record {
          drawn = r.drawn;
          turn = r.turn;
          out = r.out;
          log = log';
          owner = r.owner;
          keeper = r.keeper;
          count = r.count;
          wide = length-set s.words 2 new ∙ r.wide;
          single = r.single;
          drawn_is = get_or-set_other s.words 2 0 new 0 (λ e. omega arith) ∙ r.drawn_is;
          turn_is = get_or-set_other s.words 2 1 new 0 (λ e. omega arith) ∙ r.turn_is;
          board_is = get_or-set_same s.words 2 new 0 (omega arith) ∙ shows ∙ sym (λ i. long i * 2 ^ 43 + status (bare i));
          bounded = r.bounded;
          behind = r.behind;
          short = omega arith;
          low = subst (λ l. status l < 2 ^ 43) (sym bare) small;
          lawful = subst legal (sym bare) law;
          busy = r.busy;
          home = λ f. (cc (k.2));
          numbered = numbered';
          each_seat = seats (SeatHolds origin status r.drawn r.turn r.out r.log r.owner r.keeper r.count) (SeatHolds origin status r.drawn r.turn r.out log' r.owner r.keeper r.count) s.views id w r.each_seat
              record {
                stage = subst (StageHolds r.drawn r.turn r.out log' r.owner id w.seen) (sym st) (k.0, k.1, k.2, more);
                seen = starts_same log' w.seen more;
                told = starts_more r.log me.0.told (last ∷ []) ok.told;
                notes = notes_more status r.log (last ∷ []) me.0.notes ok.notes;
                differ = subst (λ z. NumbersDiffer (known_passes z (known_self w) w.ended)) (sym st) differ;
                known = subst (λ z. Each (PassHolds r.keeper r.count log' id) (known_passes z (known_self w) w.ended)) (sym st) knows';
                origin_known = ok.origin_known;
              }
              (λ j y ne q. record {
                stage = knows_apart r.drawn r.turn r.out r.out r.log log' r.owner j id y.seen k.1 ne y.stage q.stage;
                seen = starts_more r.log y.seen (last ∷ []) q.seen;
                told = starts_more r.log y.told (last ∷ []) q.told;
                notes = notes_more status r.log (last ∷ []) y.notes q.notes;
                differ = q.differ;
                known = let ps = known_passes y.stage (known_self y) y.ended in known_other r.keeper r.count r.log last j ps (apart_from r.keeper r.count r.log me.0.number j id ps knows.0.kept ne q.known) q.known;
                origin_known = q.origin_known;
              });
        },
        λ h' e' has' items'. let pair : Path (ℕ × S) (0, Some h) (0, Some h') = cc (sym has ∙ has') in let some_h : Path S (Some h) (Some h') = ap (λ (y : ℕ × S). y.1) pair in let one : h ≡ h' = cc in
            let two : e ≡ e' = cc (append_cancel_left (entries_of me.0.seen) (e ∷ []) (e' ∷ []) (sym items ∙ ap (λ (y : Held X O R). y.history.items) one ∙ items')) in (
              (λ i. (record me.0 { seen = me.0.seen ++ made_by me.0.number (two i) ∷ []; mine = me.0.mine ++ length me.0.seen ∷ [] }, me.1)),
              subst (λ l. TellsPasses l (passes_known w)) (sym more) (tells r.keeper r.count log' id (passes_known w) numbered' differ knows'),
            ),
      )

  pub advances : (n id : ℕ) (me : SeatState X O R) (h : Held X O R) → me.0.stage ≡ Served → me.1 ≡ (0, Some h) ∷ [] → StandsWith (family me.0.origin) h me.0.seen
      → Allows (TurnRule origin stands status legal) n id me 1 (λ x. (x + 1) % 2 ^ 64) (advanced (step n 1 1 0 none) me)
  advances n id me h st has fits s r wide at low = let ok = mine s r id me.0 at in let x : ℕ = get_or s.words 1 0 in
      let k = subst (StageHolds r.drawn r.turn r.out r.log r.owner id me.0.seen) st ok.stage in let same : me.0.seen ≡ r.log = k.3 in
      let differ = subst (λ z. NumbersDiffer (known_passes z (known_self me.0) me.0.ended)) st ok.differ in let knows = subst (λ z. Each (PassHolds r.keeper r.count r.log id) (known_passes z (known_self me.0) me.0.ended)) st ok.known in
      let from : me.0.origin ≡ origin = subst (λ z. KnowsOrigin origin z me.0.origin) st ok.origin_known in
      let w : V = record me.0 { stage = Idle } in let ws : ℕ = length s.words in let three : ws ≡ 3 = r.wide in
      let d : ℕ = r.drawn in let t : ℕ = r.turn in let behind : t < d = k.0 in let top : d < 2 ^ 64 = r.bounded in let is : x ≡ t = r.turn_is in
      let next : (x + 1) % 2 ^ 64 ≡ t + 1 = (let small : x + 1 < 2 ^ 64 = omega arith in mod-eq_of_lt small) ∙ ap (λ (z : ℕ). z + 1) is in
      let hs : ℕ = length s.homes in let one : hs ≡ 1 = r.single in
      subst (λ (c : List (ℕ × S)). (w' : V) × (a : Act S) × Valid s.homes c a × TurnRule origin stands status legal (stepped s 1 ((x + 1) % 2 ^ 64) id c w' a) × advanced (step n 1 1 0 none) me x (w', carried_after c a)) (sym has) (
        w,
        gives,
        tt,
        record {
          drawn = d;
          turn = t + 1;
          out = false;
          log = r.log;
          owner = r.owner;
          keeper = r.keeper;
          count = r.count;
          numbered = r.numbered;
          wide = length-set s.words 1 ((x + 1) % 2 ^ 64) ∙ r.wide;
          single = length-set s.homes 0 (some (Some h)) ∙ r.single;
          drawn_is = get_or-set_other s.words 1 0 ((x + 1) % 2 ^ 64) 0 (λ e. omega arith) ∙ r.drawn_is;
          turn_is = get_or-set_same s.words 1 ((x + 1) % 2 ^ 64) 0 (omega arith) ∙ next;
          board_is = get_or-set_other s.words 1 2 ((x + 1) % 2 ^ 64) 0 (λ e. omega arith) ∙ r.board_is;
          bounded = r.bounded;
          behind = omega arith;
          short = r.short;
          low = r.low;
          lawful = r.lawful;
          busy = λ e. (cc);
          home = λ _. (h, set_here s.homes 0 (some (Some h)) (omega arith), subst (StandsWith stands h) same (subst (λ o. StandsWith (family o) h me.0.seen) from fits));
          each_seat = seats (SeatHolds origin status d t r.out r.log r.owner r.keeper r.count) (SeatHolds origin status d (t + 1) false r.log r.owner r.keeper r.count) s.views id w r.each_seat
              record { stage = tt; seen = ok.seen; told = ok.told; notes = ok.notes; differ = differ; known = knows; origin_known = from }
              (λ j y ne q. record { stage = knows_advanced d t r.out r.log r.owner j id y.seen k.1 ne y.stage q.stage; seen = q.seen; told = q.told; notes = q.notes; differ = q.differ; known = q.known; origin_known = q.origin_known });
        },
        refl,
      )

  pub glances : (n id : ℕ) (me : SeatState X O R) → me.0.stage ≡ Idle → Allows (TurnRule origin stands status legal) n id me 2 (λ x. x) (glanced status (step n 2 0 0 none) me)
  glances n id me st s r wide at low = let ok = mine s r id me.0 at in let note : ℕ × ℕ = (length r.log, status (entries_of r.log)) in let w : V = record me.0 { notes = me.0.notes ++ note ∷ [] } in (
    w,
    keeps,
    tt,
    still s r 2 id me.1 w record { stage = ok.stage; seen = ok.seen; told = ok.told; notes = each_append (IsTrueNote status r.log) me.0.notes (note ∷ []) ok.notes ((omega arith, sym (ap (λ l. status (entries_of l)) (take-length r.log))), tt); differ = ok.differ; known = ok.known; origin_known = ok.origin_known },
    (length r.log, status (entries_of r.log), r.board_is, r.low, r.short, starts_length r.log me.0.seen ok.seen, notes_below status r.log me.0.notes ok.notes, refl),
  )

  pub settles : (n id : ℕ) (me : SeatState X O R) → me.0.stage ≡ Idle → Allows (TurnRule origin stands status legal) n id me 0 (λ x. x) (settled (step n 0 0 0 none) me)
  settles n id me idle s r wide at low = let ok = mine s r id me.0 at in let w : V = record me.0 { seen = longer me.0.seen me.0.told; told = [] } in let l = longer_starts r.log me.0.seen me.0.told ok.seen ok.told in (
    w,
    keeps,
    tt,
    still s r 0 id me.1 w record { stage = subst (StageHolds r.drawn r.turn r.out r.log r.owner id w.seen) (sym idle) tt; seen = l.0; told = (r.log, refl); notes = ok.notes; differ = ok.differ; known = ok.known; origin_known = ok.origin_known },
    (refl, (refl, l.1, l.2)),
  )

  pub opens : (h : Held X O R) (n : ℕ) → h.history.items ≡ [] → stands h.machine [] → legal [] → status [] < 2 ^ 43 → n ≡ status []
      → TurnRule origin stands status legal (opening (0 ∷ 0 ∷ n ∷ []) (Some h ∷ []) (first_view origin))
  opens h n empty st law small is = record {
    drawn = 0;
    turn = 0;
    out = false;
    log = [];
    owner = λ _. 0;
    keeper = λ _. 0;
    count = λ _. 0;
    numbered = tt;
    wide = refl;
    single = refl;
    drawn_is = refl;
    turn_is = refl;
    board_is = (let e : n ≡ 0 * 2 ^ 43 + status [] = omega arith in e);
    bounded = omega arith;
    behind = omega arith;
    short = omega arith;
    low = small;
    lawful = law;
    busy = λ e. (cc);
    home = λ _. (h, refl, (empty, st));
    each_seat = λ j d e. ⊎_elim (λ (x : get_elem? [] j ≡ some d). absurd (mathlib.Core.Option.some-ne-none d (sym x)))
        (λ (x : (j ≡ 0) × (first_view origin ≡ d)). subst (SeatHolds origin status 0 0 false [] (λ _. 0) (λ _. 0) (λ _. 0) j) x.1 record {
          stage = tt;
          seen = ([], refl);
          told = ([], refl);
          notes = tt;
          differ = (tt, tt);
          known = (record { kept = sym x.0; seated = refl; grows = λ front rank rest is. let long = ap length is in absurd (omega (arith, long, length-append front (rank ∷ rest))); mine = refl }, tt);
          origin_known = refl;
        }) (at_end [] (first_view origin) d j e);
  }
