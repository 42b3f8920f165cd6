-- A pass makes another, and takes in another.
use Rattle.std.proofs.Common.{◌≡◌, ◌≢◌, ℕ, cond, eqb, eq-eqb, ne_eqb, List, [], ◌∷◌, ◌++◌, length, set, sym, refl, ap, ◌∙◌, subst, ⊎_elim, length-set}
use mathlib.Core.Option.{some}
use lib.ListN.{get_elem?}
use Rattle.std.specs.Prelude.{Option, bytes_eq}
use Rattle.atomic_table.specs.Table.{State, Splits, Joins}
use Rattle.atomic_table.proofs.Lists.{set_else}
use Rattle.turnstile.specs.declared.machine.Entry.{Entry}
use Rattle.turnstile.specs.declared.held.Held.{Held}
use Rattle.turnstile.specs.declared.view.MadeEntry.{MadeEntry}
use Rattle.turnstile.specs.declared.view.KnownPass.{KnownPass}
use Rattle.turnstile.specs.declared.view.PassView.{PassView}
use Rattle.turnstile.specs.declared.view.Stage.TheVariants.{Idle}
use Rattle.turnstile.specs.Numbers.{Each, NumbersDiffer, RanksCounted, PassHolds}
use Rattle.turnstile.specs.Rules.{IsTrueNote, SeatHolds, TurnRule, known_self, known_passes, passes_known, with_new_seat, new_seat, joined, spent_view, KnowsOrigin}
use Rattle.turnstile.proofs.ListLemmas.{each_map, each_two, each_append, at_end, same_refl, not_same}
use Rattle.turnstile.proofs.NumberLemmas.{places_none, apart_from, born, counted, fresh, counted_born, counted_maker, counted_other, grows_more, grows_born}
use Rattle.turnstile.proofs.SeatLemmas.{seats}

differ_append : (ps qs : List KnownPass) → NumbersDiffer ps → NumbersDiffer qs → Each (λ (p : KnownPass). Each (λ (q : KnownPass). q.number ≢ p.number) qs) ps → NumbersDiffer (ps ++ qs)
differ_append [] qs a b c = b
differ_append (p ∷ ps) qs a b c = (each_append (λ (q : KnownPass). q.number ≢ p.number) ps qs a.0 c.0, differ_append ps qs a.1 b c.1)

module _ {X O R : Type 0} (origin : List ℕ) (stands : X → List (Entry O R) → Type 0) (status : List (Entry O R) → ℕ) (legal : List (Entry O R) → Type 0) where
  abbrev V : Type 0
  V = PassView O R

  abbrev St : Type 0
  St = State (Option (Held X O R)) V

  -- only the views change, and who keeps which number
  reviewed : (s : St) (r : TurnRule origin stands status legal s) (keeper count : List ℕ → ℕ) (views : List V) → Each (λ (m : MadeEntry O R). RanksCounted count m.by) r.log
      → ((j : ℕ) (d : V) → get_elem? views j ≡ some d → SeatHolds origin status r.drawn r.turn r.out r.log r.owner keeper count j d) → TurnRule origin stands status legal record { words = s.words; homes = s.homes; views = views }
  reviewed s r keeper count views numbered each = record {
    drawn = r.drawn;
    turn = r.turn;
    out = r.out;
    log = r.log;
    owner = r.owner;
    keeper = keeper;
    count = count;
    wide = r.wide;
    single = r.single;
    drawn_is = r.drawn_is;
    turn_is = r.turn_is;
    board_is = r.board_is;
    bounded = r.bounded;
    behind = r.behind;
    short = r.short;
    low = r.low;
    lawful = r.lawful;
    busy = r.busy;
    home = r.home;
    numbered = numbered;
    each_seat = each;
  }

  pub splits : (id : ℕ) (v : V) → v.stage ≡ Idle → Splits (TurnRule origin stands status legal) id v (with_new_seat v) (new_seat v)
  splits id v idle s r at =
      let ok = r.each_seat id v at in let differ = subst (λ z. NumbersDiffer (known_passes z (known_self v) v.ended)) idle ok.differ in let knows = subst (λ z. Each (PassHolds r.keeper r.count r.log id) (known_passes z (known_self v) v.ended)) idle ok.known in
      let n = v.number in let is : r.count n ≡ v.seated = knows.0.seated in let k : ℕ = length s.views in
      let keeper' : List ℕ → ℕ = λ x. cond (bytes_eq x (born r.count n v.seated is)) k (r.keeper x) in let count' : List ℕ → ℕ = counted r.count n v.seated is in
      let old : (x : List ℕ) → RanksCounted r.count x → keeper' x ≡ r.keeper x = λ x g. ap (λ b. cond b k (r.keeper x)) (not_same x (born r.count n v.seated is) (fresh r.count n v.seated is x g)) in
      let stays : (j : ℕ) (ps : List KnownPass) → Each (λ (p : KnownPass). p.number ≢ n) ps → Each (PassHolds r.keeper r.count r.log j) ps → Each (PassHolds keeper' count' r.log j) ps =
      (λ j ps apart known. each_two (λ (p : KnownPass). p.number ≢ n) (PassHolds r.keeper r.count r.log j) (PassHolds keeper' count' r.log j) ps
      (λ p ne q. record { kept = old p.number q.grows ∙ q.kept; seated = counted_other r.count n v.seated is p.number (fresh r.count n v.seated is p.number q.grows) ne ∙ q.seated; grows = grows_more r.count n v.seated is p.number q.grows; mine = q.mine }) apart known) in
      let w = with_new_seat v in let self = knows.0 in
      let knows' : Each (PassHolds keeper' count' r.log id) (passes_known w) = (record { kept = old n self.grows ∙ self.kept; seated = counted_maker r.count n v.seated is; grows = grows_more r.count n v.seated is n self.grows; mine = self.mine }, stays id v.ended differ.0 knows.1) in
      let before = seats (SeatHolds origin status r.drawn r.turn r.out r.log r.owner r.keeper r.count) (SeatHolds origin status r.drawn r.turn r.out r.log r.owner keeper' count') s.views id w r.each_seat
      record {
        stage = ok.stage;
        seen = ok.seen;
        told = ok.told;
        notes = ok.notes;
        differ = subst (λ z. NumbersDiffer (known_passes z (known_self w) w.ended)) (sym idle) differ;
        known = subst (λ z. Each (PassHolds keeper' count' r.log id) (known_passes z (known_self w) w.ended)) (sym idle) knows';
        origin_known = ok.origin_known;
      }
      (λ j y ne q. record {
        stage = q.stage;
        seen = q.seen;
        told = q.told;
        notes = q.notes;
        differ = q.differ;
        known = let ps = known_passes y.stage (known_self y) y.ended in stays j ps (apart_from r.keeper r.count r.log n j id ps self.kept ne q.known) q.known;
        origin_known = q.origin_known;
      }) in
      reviewed s r keeper' count' (set s.views id w ++ new_seat v ∷ []) (each_map (λ (m : MadeEntry O R). RanksCounted r.count m.by) (λ (m : MadeEntry O R). RanksCounted count' m.by) r.log (λ m g. grows_more r.count n v.seated is m.by g) r.numbered)
      (λ j d e. ⊎_elim (before j d)
      (λ (t : (j ≡ length (set s.views id w)) × (new_seat v ≡ d)). subst (SeatHolds origin status r.drawn r.turn r.out r.log r.owner keeper' count' j) t.1 record {
        stage = tt;
        seen = ok.seen;
        told = (r.log, refl);
        notes = tt;
        differ = (tt, tt);
        known = (
          record {
            kept = ap (λ b. cond b k (r.keeper (born r.count n v.seated is))) (same_refl (born r.count n v.seated is)) ∙ sym (t.0 ∙ length-set s.views id w);
            seated = counted_born r.count n v.seated is;
            grows = grows_born r.count n v.seated is self.grows;
            mine = places_none 0 (born r.count n v.seated is) r.log (each_map (λ (m : MadeEntry O R). RanksCounted r.count m.by) (λ (m : MadeEntry O R). m.by ≢ born r.count n v.seated is) r.log (λ m g. fresh r.count n v.seated is m.by g) r.numbered);
          },
          tt,
        );
        origin_known = subst (λ z. KnowsOrigin origin z v.origin) idle ok.origin_known;
      })
      (at_end (set s.views id w) (new_seat v) d j e))

  pub merges : (id : ℕ) (v : V) (other : ℕ) (w : V) → v.stage ≡ Idle → w.stage ≡ Idle → Joins (TurnRule origin stands status legal) id v other w (joined v w) spent_view
  merges id v other w idle idle' s r at two at' =
      let ok = r.each_seat id v at in let differ = subst (λ z. NumbersDiffer (known_passes z (known_self v) v.ended)) idle ok.differ in let knows = subst (λ z. Each (PassHolds r.keeper r.count r.log id) (known_passes z (known_self v) v.ended)) idle ok.known in
      let both = joined v w in let there : get_elem? s.views other ≡ some w = sym (set_else s.views id other both two) ∙ at' in
      let ok' = r.each_seat other w there in let differ' = subst (λ z. NumbersDiffer (known_passes z (known_self w) w.ended)) idle' ok'.differ in let knows' = subst (λ z. Each (PassHolds r.keeper r.count r.log other) (known_passes z (known_self w) w.ended)) idle' ok'.known in
      let keeper' : List ℕ → ℕ = λ x. cond (eqb (r.keeper x) other) id (r.keeper x) in
      let OK : ℕ → V → Type 0 = SeatHolds origin status r.drawn r.turn r.out r.log r.owner keeper' r.count in
      let stays : (j : ℕ) (ps : List KnownPass) → j ≢ other → Each (PassHolds r.keeper r.count r.log j) ps → Each (PassHolds keeper' r.count r.log j) ps =
      (λ j ps ne known. each_map (PassHolds r.keeper r.count r.log j) (PassHolds keeper' r.count r.log j) ps
      (λ p q. record { kept = ap (λ z. cond (eqb z other) id z) q.kept ∙ ap (λ b. cond b id j) (ne_eqb j other ne); seated = q.seated; grows = q.grows; mine = q.mine }) known) in
      let comes : (ps : List KnownPass) → Each (PassHolds r.keeper r.count r.log other) ps → Each (PassHolds keeper' r.count r.log id) ps =
      (λ ps known. each_map (PassHolds r.keeper r.count r.log other) (PassHolds keeper' r.count r.log id) ps
      (λ p q. record { kept = ap (λ z. cond (eqb z other) id z) q.kept ∙ ap (λ b. cond b id other) (eq-eqb other other refl); seated = q.seated; grows = q.grows; mine = q.mine }) known) in
      let known : Each (PassHolds keeper' r.count r.log id) (passes_known both) = each_append (PassHolds keeper' r.count r.log id) (passes_known v) (passes_known w) (stays id (passes_known v) (λ e. two (sym e)) knows) (comes (passes_known w) knows') in
      let apart : NumbersDiffer (passes_known both) = differ_append (passes_known v) (passes_known w) differ differ' (each_map (PassHolds r.keeper r.count r.log id) (λ (p : KnownPass). Each (λ (q : KnownPass). q.number ≢ p.number) (passes_known w)) (passes_known v)
      (λ p a. each_map (PassHolds r.keeper r.count r.log other) (λ (q : KnownPass). q.number ≢ p.number) (passes_known w) (λ q b e. two (sym b.kept ∙ ap r.keeper e ∙ a.kept)) knows') knows) in
      let first = seats (SeatHolds origin status r.drawn r.turn r.out r.log r.owner r.keeper r.count) (λ j d. j ≢ other → OK j d) s.views id both r.each_seat
      (λ _. record {
        stage = ok.stage;
        seen = ok.seen;
        told = ok'.seen;
        notes = each_append (IsTrueNote status r.log) v.notes w.notes ok.notes ok'.notes;
        differ = subst (λ z. NumbersDiffer (known_passes z (known_self both) both.ended)) (sym idle) apart;
        known = subst (λ z. Each (PassHolds keeper' r.count r.log id) (known_passes z (known_self both) both.ended)) (sym idle) known;
        origin_known = ok.origin_known;
      })
      (λ j y ne q not. record { stage = q.stage; seen = q.seen; told = q.told; notes = q.notes; differ = q.differ; known = stays j (known_passes y.stage (known_self y) y.ended) not q.known; origin_known = q.origin_known }) in
      reviewed s r keeper' r.count (set (set s.views id both) other spent_view) r.numbered
      (seats (λ j d. j ≢ other → OK j d) OK (set s.views id both) other spent_view first record { stage = tt; seen = (r.log, refl); told = (r.log, refl); notes = tt; differ = tt; known = tt; origin_known = tt } (λ j y ne q. q ne))
