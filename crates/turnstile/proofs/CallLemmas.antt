-- What the steps of one call tell together.
use Rattle.std.proofs.Common.{◌≡◌, ◌<◌, ℕ, List, [], ◌∷◌, ◌++◌, length, sym, ap, ◌∙◌, subst, arith, length-append}
use mathlib.Core.Path.{Path}
use Rattle.std.specs.Prelude.{Option, Some, Result, Ok, Err, IfOk, OnErr}
use Rattle.std.proofs.lemmas.List.{map_push}
use Rattle.turnstile.specs.declared.machine.Entry.{Entry}
use Rattle.turnstile.specs.declared.held.Held.{Held}
use Rattle.turnstile.specs.declared.view.MadeEntry.{MadeEntry}
use Rattle.turnstile.specs.declared.view.PassView.{PassView}
use Rattle.turnstile.specs.declared.view.Stage.TheVariants.{Idle, Waiting, Served}
use Rattle.turnstile.proofs.SeatLemmas.{notes_more}
use Rattle.turnstile.specs.Rules.{entry_in, entries_of, made_by, NotesTrue, SeatState, passes_known, grown, GotTurn, Begun, Carries}
use Rattle.turnstile.specs.Numbers.{TellsPasses}
use Rattle.turnstile.specs.Turns.{Enters}
use Rattle.turnstile.specs.Entries.{entry}

module _ {X O R : Type 0} where
  pub same_slot : (h h' : Held X O R) → Path (List (ℕ × Option (Held X O R))) ((0, Some h) ∷ []) ((0, Some h') ∷ []) → h ≡ h'
  same_slot h h' e = let pair : Path (ℕ × Option (Held X O R)) (0, Some h) (0, Some h') = cc e in let some_h : Path (Option (Held X O R)) (Some h) (Some h') = ap (λ (y : ℕ × Option (Held X O R)). y.1) pair in cc

  pub carries_grown : (family : List ℕ → X → List (Entry O R) → Type 0) (m m' : SeatState X O R) (e : Entry O R) → m' ≡ (grown m.0 e, m.1) → Carries (family m.0.origin) m (entries_of m.0.seen ++ e ∷ []) → Carries (family m'.0.origin) m' (entries_of m'.0.seen)
  carries_grown family m m' e at k = let bare : entries_of m.0.seen ++ e ∷ [] ≡ entries_of (m.0.seen ++ made_by m.0.number e ∷ []) = sym (map_push entry_in m.0.seen (made_by m.0.number e)) in
      subst (λ y. Carries (family y.0.origin) y (entries_of y.0.seen)) (sym at) (k.0, k.1, k.2 ∙ bare, subst (family m.0.origin k.0.machine) bare k.3)

  pub begins : (family : List ℕ → X → List (Entry O R) → Type 0) (status : List (Entry O R) → ℕ) (legal : List (Entry O R) → Type 0) (v : PassView O R) (t : ℕ) (m m2 : SeatState X O R) → m ≡ (record v { stage = Waiting t }, []) → GotTurn (family m.0.origin) legal status m m2 → Begun (family v.origin) legal status v m2
  begins family status legal v t m m2 at turned =
      let tu = subst (λ y. GotTurn (family y.0.origin) legal status y m2) at turned in record {
        held = tu.held;
        begun = λ i. (tu.served i, tu.slot i);
        fits = tu.fits;
        later = tu.later;
        short = tu.short;
        lawful = tu.lawful;
        notes = tu.notes;
        known = tu.known;
      }

  module _ (stands : X → List (Entry O R) → Type 0) (status : List (Entry O R) → ℕ) (legal : List (Entry O R) → Type 0) where
    pub enters : (v : PassView O R) (m : SeatState X O R) (u w2 w : PassView O R) (place : ℕ) (op : O) (outcome : R) → Begun stands legal status v m → v.stage ≡ Idle → u ≡ m.0 → w2 ≡ grown u (entry op outcome) → w ≡ record w2 { stage = Idle }
        → place ≡ length u.seen → place < 1048576 → legal (entries_of w2.seen) → TellsPasses w2.seen (passes_known w2) → Enters legal status v place op outcome w
    enters v m u w2 w place op outcome b idle same after last at room law known =
        let e : Entry O R = entry op outcome in let s : List (MadeEntry O R) = m.0.seen in
        let as_begun : u ≡ record v { stage = Served; seen = s } = same ∙ ap (λ y. y.0) b.begun in
        let two : w2 ≡ record v { stage = Served; seen = s ++ made_by v.number e ∷ []; mine = v.mine ++ length s ∷ [] } = after ∙ ap (λ (y : PassView O R). grown y e) as_begun in
        let here : place ≡ length s = at ∙ ap (λ (y : PassView O R). length y.seen) as_begun in
        let W : PassView O R = record v { seen = s ++ made_by v.number e ∷ []; mine = v.mine ++ length s ∷ [] } in
        let is : w ≡ W = last ∙ ap (λ (y : PassView O R). record y { stage = Idle }) two ∙ (λ i. record W { stage = sym idle i }) in
        subst (Enters legal status v place op outcome) (sym is) record {
          between = b.later.0;
          seen = ap (λ l. l ++ made_by v.number e ∷ []) b.later.1;
          lawful = subst (λ (y : PassView O R). legal (entries_of y.seen)) two law;
          at = omega (arith, here, length-append s (made_by v.number e ∷ []));
          room = room;
          kept = λ i. record v { seen = W.seen; mine = v.mine ++ sym here i ∷ [] };
          known = subst (λ (y : PassView O R). TellsPasses y.seen (passes_known y)) two known;
          notes_before = subst (λ l. NotesTrue status l v.notes) b.later.1 b.notes;
          notes = notes_more status s (made_by v.number e ∷ []) v.notes b.notes;
        }

pub err_map : {T E : Type 0} (P Q : Type 0) (r : Result T E) → (P → Q) → OnErr r P → OnErr r Q
err_map P Q (Ok x) f k = k
err_map P Q (Err e) f k = f k

pub ok_two : {T E : Type 0} (P B Q : T → Type 0) (r : Result T E) → ((x : T) → P x → B x → Q x) → IfOk r P → IfOk r B → IfOk r Q
ok_two P B Q (Ok x) f k b = f x k b
ok_two P B Q (Err e) f k b = k
