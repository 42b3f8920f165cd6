-- What stays known of the passes when an entry comes, a pass is made, or one is joined into another.
use Rattle.std.proofs.Common.{◌≡◌, ◌≢◌, ℕ, zero, suc, ◌+◌, ◌<◌, Bool, true, false, cond, List, [], ◌∷◌, ◌++◌, length, sym, refl, ap, ◌∙◌, subst, ⊎_elim, arith, length-append, append_assoc, append-nil, add-zero}
use mathlib.Core.Logic.{dite}
use mathlib.Core.Option.{some, some-injective, some-ne-none}
use mathlib.Core.Path.{Path}
use native.Mathlib.Decide.{dec_le}
use lib.ListN.{get_elem?}
use Rattle.std.specs.Prelude.{bytes_eq}
use Rattle.turnstile.specs.declared.view.MadeEntry.{MadeEntry}
use Rattle.turnstile.specs.declared.view.KnownPass.{KnownPass}
use Rattle.turnstile.specs.Numbers.{places_from, Forbids, Each, NumbersDiffer, HasPlaces, TellsPasses, AreWhole, RanksCounted, PassHolds, IsPlaceOf}
use Rattle.turnstile.proofs.ListLemmas.{each_map, each_two, each_at, same_refl, not_same, by_same, snoc_split}

module _ {O R : Type 0} where
  pub places_snoc : (k : ℕ) (number : List ℕ) (log : List (MadeEntry O R)) (m : MadeEntry O R) → places_from k number (log ++ m ∷ []) ≡ places_from k number log ++ cond (bytes_eq m.by number) ((k + length log) ∷ []) []
  places_snoc k number [] m = ap (λ (z : ℕ). cond (bytes_eq m.by number) (z ∷ []) []) (sym (add-zero k))
  places_snoc k number (x ∷ xs) m = go (places_snoc (k + 1) number xs m ∙ ap (λ (z : ℕ). places_from (k + 1) number xs ++ cond (bytes_eq m.by number) (z ∷ []) []) up) (bytes_eq x.by number)
    where
      up : k + 1 + length xs ≡ k + suc (length xs)
      up = omega arith

      go : places_from (k + 1) number (xs ++ m ∷ []) ≡ places_from (k + 1) number xs ++ cond (bytes_eq m.by number) ((k + suc (length xs)) ∷ []) [] → (b : Bool) → Path (List ℕ) (cond b (k ∷ places_from (k + 1) number (xs ++ m ∷ [])) (places_from (k + 1) number (xs ++ m ∷ []))) (cond b (k ∷ places_from (k + 1) number xs) (places_from (k + 1) number xs) ++ cond (bytes_eq m.by number) ((k + suc (length xs)) ∷ []) [])
      go rest true = λ i. k ∷ rest i
      go rest false = rest

  pub places_other : (number : List ℕ) (log : List (MadeEntry O R)) (m : MadeEntry O R) → m.by ≢ number → places_from 0 number (log ++ m ∷ []) ≡ places_from 0 number log
  places_other number log m ne = places_snoc 0 number log m ∙ ap (λ b. places_from 0 number log ++ cond b ((0 + length log) ∷ []) []) (not_same m.by number ne) ∙ append-nil (places_from 0 number log)

  pub places_own : (number : List ℕ) (log : List (MadeEntry O R)) (m : MadeEntry O R) → m.by ≡ number → places_from 0 number (log ++ m ∷ []) ≡ places_from 0 number log ++ length log ∷ []
  places_own number log m e = let z : 0 + length log ≡ length log = omega arith in
      places_snoc 0 number log m ∙ (λ i. places_from 0 number log ++ cond ((ap (λ by. bytes_eq by number) e ∙ same_refl number) i) (z i ∷ []) [])

  pub places_none : (k : ℕ) (number : List ℕ) (log : List (MadeEntry O R)) → Each (λ (m : MadeEntry O R). m.by ≢ number) log → places_from k number log ≡ []
  places_none k number [] a = refl
  places_none k number (m ∷ ms) a = ap (λ b. cond b (k ∷ places_from (k + 1) number ms) (places_from (k + 1) number ms)) (not_same m.by number a.0) ∙ places_none (k + 1) number ms a.1

  module _ (keeper count : List ℕ → ℕ) where
    -- what the rule has of the passes says what is told of them
    pub tells : (log : List (MadeEntry O R)) (j : ℕ) (ps : List KnownPass) → Each (λ (m : MadeEntry O R). RanksCounted count m.by) log → NumbersDiffer ps → Each (PassHolds keeper count log j) ps → TellsPasses log ps
    tells log j ps grown differ known = record {
      differ = differ;
      each = each_map (PassHolds keeper count log j) (HasPlaces log) ps (λ p k. record {
        mine = k.mine;
        free = each_map (λ (m : MadeEntry O R). RanksCounted count m.by) (λ (m : MadeEntry O R). ¬ Forbids p m.by) log (λ m g f. let l : f.0 < count p.number = g p.number f.0 f.1 f.3 in let seated = k.seated in let above = f.2 in absurd (omega arith)) grown;
      }) known;
    }

    -- an entry of another's
    pub known_other : (log : List (MadeEntry O R)) (m : MadeEntry O R) (j : ℕ) (ps : List KnownPass) → Each (λ (p : KnownPass). p.number ≢ m.by) ps → Each (PassHolds keeper count log j) ps → Each (PassHolds keeper count (log ++ m ∷ []) j) ps
    known_other log m j ps apart known = each_two (λ (p : KnownPass). p.number ≢ m.by) (PassHolds keeper count log j) (PassHolds keeper count (log ++ m ∷ []) j) ps
        (λ p ne k. record { kept = k.kept; seated = k.seated; grows = k.grows; mine = places_other p.number log m (λ e. ne (sym e)) ∙ k.mine }) apart known

    -- the passes of another seat have other numbers
    pub apart_from : (log : List (MadeEntry O R)) (number : List ℕ) (j id : ℕ) (ps : List KnownPass) → keeper number ≡ id → j ≢ id → Each (PassHolds keeper count log j) ps → Each (λ (p : KnownPass). p.number ≢ number) ps
    apart_from log number j id ps own ne known = each_map (PassHolds keeper count log j) (λ (p : KnownPass). p.number ≢ number) ps (λ p k e. ne (sym k.kept ∙ ap keeper e ∙ own)) known

-- the places of a number are those at which its entries stand
module _ {O R : Type 0} where
  pub places_has : (k : ℕ) (number : List ℕ) (log : List (MadeEntry O R)) (i : ℕ) (m : MadeEntry O R) → get_elem? log i ≡ some m → m.by ≡ number → (j : ℕ) × (get_elem? (places_from k number log) j ≡ some (k + i))
  places_has k number [] i m at is = absurd (some-ne-none m (sym at))
  places_has k number (x ∷ xs) zero m at is = let e : x.by ≡ number = ap (λ (y : MadeEntry O R). y.by) (some-injective x m at) ∙ is in
      let here : bytes_eq x.by number ≡ true = ap (λ by. bytes_eq by number) e ∙ same_refl number in
      (0, ap (λ b. get_elem? (cond b (k ∷ places_from (k + 1) number xs) (places_from (k + 1) number xs)) 0) here ∙ ap some (sym (add-zero k)))
  places_has k number (x ∷ xs) (suc i) m at is = go (places_has (k + 1) number xs i m at is) (bytes_eq x.by number)
    where
      up : k + 1 + i ≡ k + suc i
      up = omega arith

      go : (j : ℕ) × (get_elem? (places_from (k + 1) number xs) j ≡ some (k + 1 + i)) → (b : Bool) → (j : ℕ) × (get_elem? (cond b (k ∷ places_from (k + 1) number xs) (places_from (k + 1) number xs)) j ≡ some (k + suc i))
      go h true = (suc h.0, h.1 ∙ ap some up)
      go h false = (h.0, h.1 ∙ ap some up)

  abbrev There : ℕ → List ℕ → List (MadeEntry O R) → ℕ → Type 0
  There k number log at = (i : ℕ) × (m : MadeEntry O R) × (at ≡ k + i) × (get_elem? log i ≡ some m) × (m.by ≡ number)

  pub places_only : (k : ℕ) (number : List ℕ) (log : List (MadeEntry O R)) (j at : ℕ) → get_elem? (places_from k number log) j ≡ some at → There k number log at
  places_only k number [] j at e = absurd (some-ne-none at (sym e))
  places_only k number (x ∷ xs) j at e = by_same x.by number (λ b. get_elem? (cond b (k ∷ places_from (k + 1) number xs) (places_from (k + 1) number xs)) j ≡ some at → There k number (x ∷ xs) at)
      (λ is. hit (λ j'. places_only (k + 1) number xs j' at) is j) (λ _ e'. later (places_only (k + 1) number xs j at e')) e
    where
      later : There (k + 1) number xs at → There k number (x ∷ xs) at
      later h = let far = h.2 in (suc h.0, h.1, omega arith, h.3, h.4)

      hit : ((j' : ℕ) → get_elem? (places_from (k + 1) number xs) j' ≡ some at → There (k + 1) number xs at) → x.by ≡ number → (j : ℕ) → get_elem? (k ∷ places_from (k + 1) number xs) j ≡ some at → There k number (x ∷ xs) at
      hit ih is zero e = (0, x, sym (some-injective k at e) ∙ sym (add-zero k), refl, is)
      hit ih is (suc j) e = later (ih j e)

element : {A : Type 0} (l : List A) (i : ℕ) → i < length l → (a : A) × (get_elem? l i ≡ some a)
element [] i h = absurd (omega arith)
element (x ∷ xs) zero h = (x, refl)
element (x ∷ xs) (suc i) h = element xs i (omega arith)

differ_index : (ps : List KnownPass) → NumbersDiffer ps → (i j : ℕ) (p q : KnownPass) → get_elem? ps i ≡ some p → get_elem? ps j ≡ some q → q.number ≡ p.number → j ≡ i
differ_index [] d i j p q a b e = absurd (some-ne-none p (sym a))
differ_index (x ∷ xs) d zero zero p q a b e = refl
differ_index (x ∷ xs) d zero (suc j) p q a b e = absurd (each_at (λ (y : KnownPass). y.number ≢ x.number) xs j q d.0 b (e ∙ sym (ap (λ (y : KnownPass). y.number) (some-injective x p a))))
differ_index (x ∷ xs) d (suc i) zero p q a b e = absurd (each_at (λ (y : KnownPass). y.number ≢ x.number) xs i p d.0 a (sym e ∙ sym (ap (λ (y : KnownPass). y.number) (some-injective x q b))))
differ_index (x ∷ xs) d (suc i) (suc j) p q a b e = ap suc (differ_index xs d.1 i j p q a b e)

-- one of the known passes has the number of each entry
module _ (ps : List KnownPass) (whole : AreWhole ps) where
  abbrev Has : List ℕ → Type 0
  Has number = (i : ℕ) × (p : KnownPass) × (get_elem? ps i ≡ some p) × (p.number ≡ number)

  reaches : (rest front : List ℕ) → Has front → ((p : KnownPass) (i : ℕ) → get_elem? ps i ≡ some p → ¬ Forbids p (front ++ rest)) → Has (front ++ rest)
  reaches [] front has free = subst Has (sym (append-nil front)) has
  reaches (r ∷ rest) front has free =
      let more : (front ++ r ∷ []) ++ rest ≡ front ++ r ∷ rest = append_assoc front (r ∷ []) rest in
      let p : KnownPass = has.1 in let e : p.number ≡ front = has.3 in
      let next : r < p.seated → Has (front ++ r ∷ []) = λ l. let q = whole.all has.0 p r has.2 l in (q.0, q.1, q.2, q.3 ∙ ap (λ x. x ++ r ∷ []) e) in
      dite (dec_le (suc r) p.seated)
      (λ l. subst Has more (reaches rest (front ++ r ∷ []) (next (omega arith)) (λ q i at. subst (λ x. ¬ Forbids q x) (sym more) (free q i at))))
      (λ not. absurd (free p has.0 has.2 (r, rest, (omega arith), ap (λ x. x ++ r ∷ rest) (sym e))))

  pub has_maker : {O R : Type 0} (log : List (MadeEntry O R)) (m : MadeEntry O R) (k : ℕ) → TellsPasses log ps → get_elem? log k ≡ some m → (i : ℕ) × (p : KnownPass) × (get_elem? ps i ≡ some p) × (p.number ≡ m.by)
  has_maker {O} {R} log m k told at = reaches m.by [] whole.first (λ p i here. each_at (λ (x : MadeEntry O R). ¬ Forbids p x.by) log k m (each_at (HasPlaces log) ps i p told.each here).free at)

  -- each place is that of exactly one of the known passes
  pub one_maker : {O R : Type 0} (log : List (MadeEntry O R)) → TellsPasses log ps → (k : ℕ) → k < length log → (i : ℕ) × IsPlaceOf ps k i × ((j : ℕ) → IsPlaceOf ps k j → j ≡ i)
  one_maker {O} {R} log told k near =
      let m = element log k near in let has = has_maker log m.0 k told m.1 in let p : KnownPass = has.1 in let mine = (each_at (HasPlaces log) ps has.0 p told.each has.2).mine in
      let own = places_has 0 p.number log k m.0 m.1 (sym has.3) in let z : 0 + k ≡ k = omega arith in (
        has.0,
        (p, has.2, (own.0, subst (λ l. get_elem? l own.0 ≡ some (0 + k)) mine own.1 ∙ ap some z)),
        λ j his. let q : KnownPass = his.0 in let his_mine = (each_at (HasPlaces log) ps j q told.each his.1).mine in
            let there = places_only 0 q.number log his.2.0 k (subst (λ l. get_elem? l his.2.0 ≡ some k) (sym his_mine) his.2.1) in
            let at : k ≡ there.0 = (let far = there.2 in omega arith) in
            let one : m.0 ≡ there.1 = some-injective m.0 there.1 (sym m.1 ∙ ap (get_elem? log) at ∙ there.3) in
            differ_index ps told.differ has.0 j p q has.2 his.1 (sym there.4 ∙ sym (ap (λ (y : MadeEntry O R). y.by) one) ∙ sym has.3),
      )

-- a pass counts one more
module _ (count : List ℕ → ℕ) (number : List ℕ) (seated : ℕ) (is : count number ≡ seated) where
  abbrev pub born : List ℕ
  born = number ++ seated ∷ []

  pub counted : List ℕ → ℕ
  counted n = cond (bytes_eq n born) 0 (cond (bytes_eq n number) (seated + 1) (count n))

  pub fresh : (x : List ℕ) → RanksCounted count x → x ≢ born
  fresh x g e = let l : seated < count number = g number seated [] e in absurd (omega arith)

  not_born : number ≢ born
  not_born e = let long = ap length e in absurd (omega (arith, long, length-append number (seated ∷ [])))

  pub counted_born : counted born ≡ 0
  unfolding counted
  counted_born = ap (λ b. cond b 0 (cond (bytes_eq born number) (seated + 1) (count born))) (same_refl born)

  pub counted_maker : counted number ≡ seated + 1
  unfolding counted
  counted_maker = (λ i. cond (not_same number born not_born i) 0 (cond (same_refl number i) (seated + 1) (count number)))

  pub counted_other : (x : List ℕ) → x ≢ born → x ≢ number → counted x ≡ count x
  unfolding counted
  counted_other x a b = (λ i. cond (not_same x born a i) 0 (cond (not_same x number b i) (seated + 1) (count x)))

  pub grows_more : (x : List ℕ) → RanksCounted count x → RanksCounted counted x
  unfolding counted
  grows_more x g front rank rest e =
      by_same front born (λ b. rank < cond b 0 (cond (bytes_eq front number) (seated + 1) (count front)))
      (λ hit. let l : seated < count number = g number seated (rank ∷ rest) (e ∙ ap (λ f. f ++ rank ∷ rest) hit ∙ append_assoc number (seated ∷ []) (rank ∷ rest)) in absurd (omega arith))
      (λ _. let old : rank < count front = g front rank rest e in by_same front number (λ b. rank < cond b (seated + 1) (count front)) (λ hit. let same_count = ap count hit in omega arith) (λ _. old))

  pub grows_born : RanksCounted count number → RanksCounted counted born
  grows_born g front rank rest e =
      ⊎_elim (λ (t : (front ≡ number) × (rank ≡ seated)). let r = t.1 in let c : counted front ≡ seated + 1 = ap counted t.0 ∙ counted_maker in omega arith)
      (λ (t : (rest' : List ℕ) × (number ≡ front ++ rank ∷ rest')). grows_more number g front rank t.0 t.1) (snoc_split number front rest seated rank e)
