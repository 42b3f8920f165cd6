-- Where the images show the kept rows, or these with the slot in doubt replaced, no bad store comes after a loading, and no fate is other.
use Rattle.disk_core.specs.DiskStates.{DiskState, EachImage, IsDiskState}
use Rattle.flat_machine.proofs.ToldBytes.{told_three, told_to, with_told}
use Rattle.flat_machine.specs.Deeds.{IsCalm}
use Rattle.flat_machine.specs.DiskFacts.{TellsApart}
use Rattle.flat_machine.specs.DiskSteps.{Moved, OnDisk, ReadBy, ShowsDoubt, ShowsKeys}
use Rattle.flat_machine.specs.Power.{Loading, Nothing, Plan, Replacing, doubt_carried_out, fate_of}
use Rattle.flat_machine.specs.State.{Shared}
use Rattle.flat_machine.specs.StoreHistory.{Layout}
use Rattle.key_attributes.specs.declared.KeyRow.{KeyRow}
use Rattle.key_table.specs.Changes.{Change}
use Rattle.key_table.specs.KeyRows.{KeyRows, put_row, same_row, same_rows}
use Rattle.pad_steps.specs.declared.steps.DiskWord.TheVariants as word
use Rattle.pad_steps.specs.declared.steps.DiskWord.{DiskWord}
use Rattle.pad_steps.specs.declared.steps.Fate.TheVariants as fate
use Rattle.std.proofs.Common.{inl, inr, subst, sym, ⊎_elim, ◌∙◌}
use Rattle.std.proofs.lemmas.Bool.{and_from, eq-eqb}
use Rattle.std.proofs.lemmas.Slice.Eq.{bytes_eq-Decides}
use Rattle.std.specs.Prelude.{Bool, IfSome, List, None, Option, Some, [], bytes_eq, false, if◌then◌else◌, not, refl, true, ℕ, ◌&&◌, ◌==◌, ◌∷◌, ◌≡◌, ◌≢◌, ◌⊎◌}

-- rows are like themselves

bytes_same : (a : List ℕ) → bytes_eq a a ≡ true
bytes_same a = (bytes_eq-Decides a a).1 refl

same_row-self : (row : KeyRow) → same_row row row ≡ true
same_row-self row = and_from (bytes_eq row.name row.name && bytes_eq row.value row.value) (row.uses == row.uses) (and_from (bytes_eq row.name row.name) (bytes_eq row.value row.value) (bytes_same row.name) (bytes_same row.value)) (eq-eqb row.uses row.uses refl)

pub same_rows-self : (rows : KeyRows) → same_rows rows rows ≡ true
same_rows-self [] = refl
same_rows-self (r ∷ rows) = and_from ((r.0 == r.0) && same_row r.1 r.1) (same_rows rows rows) (and_from (r.0 == r.0) (same_row r.1 r.1) (eq-eqb r.0 r.0 refl) (same_row-self r.1)) (same_rows-self rows)

same_rows-is : (rows keys : KeyRows) → rows ≡ keys → same_rows rows keys ≡ true
same_rows-is rows keys is = subst (λ (k : KeyRows). same_rows rows k ≡ true) is (same_rows-self rows)

some_same : {X : Type 0} (o : Option X) (x y : X) → o ≡ Some x → o ≡ Some y → x ≡ y
some_same o x y a b = let e : Some x ≡ Some y = sym a ∙ b in cc

-- the fate of rows that are kept, or that are these with the doubt carried out

known_fate : (loaded same carried : Bool) → (loaded ≡ true → (same ≡ true) ⊎ (carried ≡ true)) → (if not loaded then fate.First else (if same then fate.Old else (if carried then fate.New else fate.Other))) ≢ fate.Other
known_fate false same carried h = λ e. cc
known_fate true true carried h = λ e. cc
known_fate true false true h = λ e. cc
known_fate true false false h = λ e. ⊎_elim (λ no. cc) (λ no. cc) (h refl)

module _ (layout : Layout) where
  rows_known : (doubt : Option Change) (keys rows : KeyRows) (bytes : List ℕ) → layout.rows_of bytes ≡ Some rows → ShowsDoubt layout doubt keys bytes → (same_rows rows keys ≡ true) ⊎ (doubt_carried_out doubt keys rows ≡ true)
  rows_known None keys rows bytes is shows = inl (same_rows-is rows keys (some_same (layout.rows_of bytes) rows keys is shows))
  rows_known (Some c) keys rows bytes is (inl old) = inl (same_rows-is rows keys (some_same (layout.rows_of bytes) rows keys is old))
  rows_known (Some c) keys rows bytes is (inr new) = inr (same_rows-is rows (put_row c.slot c.row keys) (some_same (layout.rows_of bytes) rows (put_row c.slot c.row keys) is new))

  calm_fate : (p : Shared) (rows : KeyRows) (bytes : List ℕ) → layout.rows_of bytes ≡ Some rows → ShowsKeys layout p bytes → fate_of p rows ≢ fate.Other
  calm_fate p rows bytes is shows = known_fate p.loaded (same_rows rows p.keys) (doubt_carried_out p.doubt p.keys rows) (λ e. rows_known p.doubt p.keys rows bytes is (shows e))

  moved_bad : (calls : Plan) (slot : ℕ) (from bytes : List ℕ) → Moved layout calls (word.Bad slot) from bytes → bytes ≡ from
  moved_bad Nothing slot from bytes moved = moved
  moved_bad Loading slot from bytes moved = moved
  moved_bad (Replacing todo) slot from bytes moved = moved

  -- a store never reads as bad, and shows rows
  module _ (apart : TellsApart layout) where
    doubt_not_bad : (doubt : Option Change) (keys : KeyRows) (bytes : List ℕ) (slot : ℕ) → ShowsDoubt layout doubt keys bytes → layout.bad_slot bytes ≡ Some slot → ⊥
    doubt_not_bad None keys bytes slot shows bad = apart bytes keys slot shows bad
    doubt_not_bad (Some c) keys bytes slot (inl old) bad = apart bytes keys slot old bad
    doubt_not_bad (Some c) keys bytes slot (inr new) bad = apart bytes (put_row c.slot c.row keys) slot new bad

    calm_word : (p : Shared) (calls : Plan) (w : DiskWord) (images : List ℕ → Type 0) (c : List ℕ) → (from : List ℕ) × images from × Moved layout calls w from c → ReadBy layout w c → ((b : List ℕ) → images b → ShowsKeys layout p b) → IsCalm p w
    calm_word p calls word.Quiet images c moved read shows = tt
    calm_word p calls word.Done images c moved read shows = tt
    calm_word p calls (word.Failed n) images c moved read shows = tt
    calm_word p calls (word.Cut n) images c moved read shows = tt
    calm_word p calls (word.Loaded rows) images c moved read shows = calm_fate p rows moved.0 (subst (λ (b : List ℕ). layout.rows_of b ≡ Some rows) moved.2.1 moved.2.2) (shows moved.0 moved.1)
    calm_word p calls (word.Bad slot) images c moved read shows = λ loaded. doubt_not_bad p.doubt p.keys moved.0 slot (shows moved.0 moved.1 loaded) (subst (λ (b : List ℕ). layout.bad_slot b ≡ Some slot) (moved_bad calls slot moved.0 c moved.2) read)

    pub calm_step : (before after : Shared) (switch : Bool → Bool) (calls : Plan) (w : DiskWord) (s t : DiskState) → OnDisk layout before after switch calls w s t → IsDiskState t → EachImage s (ShowsKeys layout before) → IfSome s.content (λ _. IsCalm before w)
    calm_step before after switch calls w s t on laws shows = told_to t.content s.content (IsCalm before w) (sym on.tells)
        (with_told t.content t.content (λ c. t.image c) _ (IsCalm before w) refl (λ c left both. calm_word before calls w s.image c (both.0 c left) (both.1.0 c left) both.1.1) laws.told
        (told_three t.content _ _ _ on.moved on.read (told_to s.content t.content _ on.tells shows)))
