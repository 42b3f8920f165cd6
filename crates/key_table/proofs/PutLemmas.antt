-- The slot of a name, and what a row that is put there changes.
use Rattle.key_attributes.specs.declared.KeyRow.{KeyRow}
use Rattle.key_table.proofs.TableLemmas.{Above, Fits, Free, OnlyAt, SlotRow, Table, differ, free-only_at, free_from, table-filter, table-with_row, table_from, table_to, unlike}
use Rattle.key_table.specs.KeyRows.{KeyRows, empty_slot, find_key, find_row, put_row, slot_for, slot_or_empty, slot_taken, with_row}
use Rattle.key_table.specs.Tables.{is_table}
use Rattle.std.proofs.Common.{ap, arith, subst, sym, ◌∙◌}
use Rattle.std.proofs.lemmas.Bool.{eqb-false, eqb-true, or_parts}
use Rattle.std.proofs.lemmas.Option.{none-some, same_Some}
use Rattle.std.proofs.lemmas.Slice.Eq.{bytes_eq-Decides}
use Rattle.std.specs.List.{list_any}
use Rattle.std.specs.Option.{option_map}
use Rattle.std.specs.Prelude.{Bool, IfSome, IsTrue, List, None, Option, Some, [], bytes_eq, false, if◌then◌else◌, nat_lt, not, refl, suc, true, zero, ℕ, ◌+◌, ◌<◌, ◌==◌, ◌∷◌, ◌≡◌, ◌≢◌}

-- where a name is found

free_if : (b : Bool) (r : SlotRow) (o : Option SlotRow) → (if b then Some r else o) ≡ None → (b ≡ false) × (o ≡ None)
free_if true r o e = absurd (none-some r (sym e))
free_if false r o e = (refl, e)

absent_free : (name : List ℕ) (rows : KeyRows) → find_key name rows ≡ None → list_any (λ (r : SlotRow). bytes_eq r.1.name name) rows ≡ false
absent_free name [] e = refl
absent_free name (r ∷ rows) e =
    let parts = free_if (bytes_eq r.1.name name) r (find_key name rows) e in
    rw parts.0 (absent_free name rows parts.1)

found_here : (slot : ℕ) (name : List ℕ) (rows : KeyRows) (r : SlotRow) → r.0 ≡ slot → r.1.name ≡ name → Fits r rows → OnlyAt slot name (r ∷ rows)
found_here slot name rows r at is fit = ((λ e. at), free-only_at slot name rows (subst (λ (n : List ℕ). Free n rows) is fit.free))

found_if : (b : Bool) (name : List ℕ) (rows : KeyRows) (r found : SlotRow) → bytes_eq r.1.name name ≡ b → (if b then Some r else find_key name rows) ≡ Some found → Fits r rows → (find_key name rows ≡ Some found → OnlyAt found.0 name rows) → OnlyAt found.0 name (r ∷ rows)
found_if true name rows r found e is fit later = found_here found.0 name rows r (ap (λ (q : SlotRow). q.0) (same_Some r found is)) ((bytes_eq-Decides r.1.name name).0 e) fit
found_if false name rows r found e is fit later = ((λ same. absurd (differ r.1.name name e same)), later is)

found_only : (name : List ℕ) (rows : KeyRows) (found : SlotRow) → find_key name rows ≡ Some found → Table rows → OnlyAt found.0 name rows
found_only name [] found e h = cc
found_only name (r ∷ rows) found e h = found_if (bytes_eq r.1.name name) name rows r found refl e h.0 (λ later. found_only name rows found later h.1)

found_below_if : (b : Bool) (r found : SlotRow) (o : Option SlotRow) → (if b then Some r else o) ≡ Some found → r.0 < 64 → (o ≡ Some found → found.0 < 64) → found.0 < 64
found_below_if true r found o e l later = subst (λ (q : SlotRow). q.0 < 64) (same_Some r found e) l
found_below_if false r found o e l later = later e

pub found_below : (name : List ℕ) (rows : KeyRows) (found : SlotRow) → find_key name rows ≡ Some found → Table rows → found.0 < 64
found_below name [] found e h = cc
found_below name (r ∷ rows) found e h = found_below_if (bytes_eq r.1.name name) r found (find_key name rows) e h.0.below (λ later. found_below name rows found later h.1)

-- each row in the slot has the name

abbrev pub Named : ℕ → List ℕ → KeyRows → Type 0
Named slot name [] = Unit {0}
Named slot name (r ∷ rows) = (r.0 ≡ slot → r.1.name ≡ name) × Named slot name rows

above_named : (slot : ℕ) (name : List ℕ) (rows : KeyRows) → Above slot rows → Named slot name rows
above_named slot name [] over = tt
above_named slot name (r ∷ rows) over = ((λ at. absurd (other slot r.0 over.0 at)), above_named slot name rows over.1)
  where
    other : (m n : ℕ) → m < n → n ≡ m → ⊥
    other m n l e = omega (arith, l, e)

taken_named : (slot : ℕ) (name : List ℕ) (rows : KeyRows) → slot_taken slot rows ≡ false → Named slot name rows
taken_named slot name [] e = tt
taken_named slot name (r ∷ rows) e =
    let parts = or_parts (r.0 == slot) (list_any (λ (q : SlotRow). q.0 == slot) rows) e in
    ((λ at. absurd (eqb-false r.0 slot parts.0 at)), taken_named slot name rows parts.1)

-- a row found, in whose slot no other stands
found_named_here : (slot : ℕ) (name : List ℕ) (rows : KeyRows) (r : SlotRow) → slot ≡ r.0 → r.1.name ≡ name → Above r.0 rows → Named slot name (r ∷ rows)
found_named_here slot name rows r at is over = ((λ e. is), above_named slot name rows (subst (λ (n : ℕ). Above n rows) (sym at) over))

found_over : (n : ℕ) (name : List ℕ) (rows : KeyRows) (found : SlotRow) → find_key name rows ≡ Some found → Above n rows → n < found.0
found_over n name [] found e over = cc
found_over n name (r ∷ rows) found e over = over_if (bytes_eq r.1.name name) e (λ later. found_over n name rows found later over.1)
  where
    over_if : (b : Bool) → (if b then Some r else find_key name rows) ≡ Some found → (find_key name rows ≡ Some found → n < found.0) → n < found.0
    over_if true is later = subst (λ (q : SlotRow). n < q.0) (same_Some r found is) over.0
    over_if false is later = later is

found_named : (name : List ℕ) (rows : KeyRows) (found : SlotRow) → find_key name rows ≡ Some found → Table rows → Named found.0 name rows
found_named name [] found e h = cc
found_named name (r ∷ rows) found e h = named_if (bytes_eq r.1.name name) refl e (λ later. found_named name rows found later h.1)
  where
    other : (m n : ℕ) → m < n → m ≡ n → ⊥
    other m n l is = omega (arith, l, is)

    named_if : (b : Bool) → bytes_eq r.1.name name ≡ b → (if b then Some r else find_key name rows) ≡ Some found → (find_key name rows ≡ Some found → Named found.0 name rows) → Named found.0 name (r ∷ rows)
    named_if true same is later = found_named_here found.0 name rows r (ap (λ (q : SlotRow). q.0) (sym (same_Some r found is))) ((bytes_eq-Decides r.1.name name).0 same) h.0.above
    named_if false same is later = ((λ at. absurd (other r.0 found.0 (found_over r.0 name rows found is h.0.above) at)), later is)

-- an empty slot

empty_if : (b : Bool) (i n slot : ℕ) (o : Option ℕ) → (if b then o else Some i) ≡ Some slot → (o ≡ Some slot → slot < i + 1 + n) → slot < i + suc n
empty_if true i n slot o e later = omega (arith, later e)
empty_if false i n slot o e later = omega (arith, same_Some i slot e)

empty_below : (i n : ℕ) (rows : KeyRows) (slot : ℕ) → empty_slot i n rows ≡ Some slot → slot < i + n
empty_below i zero rows slot e = cc
empty_below i (suc n) rows slot e = empty_if (slot_taken i rows) i n slot (empty_slot (i + 1) n rows) e (empty_below (i + 1) n rows slot)

empty_untaken : (i n : ℕ) (rows : KeyRows) (slot : ℕ) → empty_slot i n rows ≡ Some slot → slot_taken slot rows ≡ false
empty_untaken i zero rows slot e = cc
empty_untaken i (suc n) rows slot e = untaken_if (slot_taken i rows) refl e (empty_untaken (i + 1) n rows slot)
  where
    untaken_if : (b : Bool) → slot_taken i rows ≡ b → (if b then empty_slot (i + 1) n rows else Some i) ≡ Some slot → (empty_slot (i + 1) n rows ≡ Some slot → slot_taken slot rows ≡ false) → slot_taken slot rows ≡ false
    untaken_if true taken is later = later is
    untaken_if false taken is later = subst (λ (k : ℕ). slot_taken k rows ≡ false) (same_Some i slot is) taken

-- the slot of a name is below 64, the name stands in no other, and no other name stands there
pub record IsSlotOf (name : List ℕ) (rows : KeyRows) (slot : ℕ) : Type 0 where
  pub below : slot < 64
  pub only : OnlyAt slot name rows
  pub named : Named slot name rows

slot_or_empty-slot_of : (name : List ℕ) (rows : KeyRows) (found : Option SlotRow) (slot : ℕ) → Table rows → find_key name rows ≡ found → slot_or_empty rows found ≡ Some slot → IsSlotOf name rows slot
slot_or_empty-slot_of name rows None slot h absent e = record {
  below = empty_below 0 64 rows slot e;
  only = free-only_at slot name rows (free_from name rows (absent_free name rows absent));
  named = taken_named slot name rows (empty_untaken 0 64 rows slot e);
}
slot_or_empty-slot_of name rows (Some found) slot h present e = subst (λ (n : ℕ). IsSlotOf name rows n) (same_Some found.0 slot e) (record {
  below = found_below name rows found present h;
  only = found_only name rows found present h;
  named = found_named name rows found present h;
})

pub slot_for-slot_of : (name : List ℕ) (rows : KeyRows) (slot : ℕ) → Table rows → slot_for name rows ≡ Some slot → IsSlotOf name rows slot
slot_for-slot_of name rows slot h e = slot_or_empty-slot_of name rows (find_key name rows) slot h refl e

-- a row in the slot of its name

if_some : {X : Type 0} (o : Option X) (P : X → Type 0) → ((x : X) → o ≡ Some x → P x) → IfSome o P
if_some None P each = tt
if_some (Some x) P each = each x refl

pub is_table-put : (rows : KeyRows) (row : KeyRow) → IsTrue (is_table rows) → IfSome (slot_for row.name rows) (λ slot. IsTrue (is_table (with_row slot row rows)))
is_table-put rows row is = if_some (slot_for row.name rows) (λ slot. IsTrue (is_table (with_row slot row rows))) (λ slot e.
    let of = slot_for-slot_of row.name rows slot (table_from rows is) e in
    table_to (with_row slot row rows) (table-with_row slot row rows of.below of.only (table_from rows is)))

pub is_table-emptied : (rows : KeyRows) (slot : ℕ) → IsTrue (is_table rows) → IsTrue (is_table (put_row slot None rows))
is_table-emptied rows slot is = table_to (put_row slot None rows) (table-filter (λ (each : SlotRow). not (each.0 == slot)) rows (table_from rows is))

-- what a name finds after a row was put

same_name : (name : List ℕ) → bytes_eq name name ≡ true
same_name name = (bytes_eq-Decides name name).1 refl

find_key-with_row : (slot : ℕ) (row : KeyRow) (rows : KeyRows) → OnlyAt slot row.name rows → find_key row.name (with_row slot row rows) ≡ Some (slot, row)
find_key-with_row slot row [] only = rw (same_name row.name) refl
find_key-with_row slot row (r ∷ rows) only = put_if (nat_lt slot r.0) (slot == r.0) refl (find_key-with_row slot row rows only.1)
  where
    put_if : (b c : Bool) → (slot == r.0) ≡ c → find_key row.name (with_row slot row rows) ≡ Some (slot, row) → find_key row.name (if b then (slot, row) ∷ r ∷ rows else (if c then (slot, row) ∷ rows else r ∷ with_row slot row rows)) ≡ Some (slot, row)
    put_if true c e later = rw (same_name row.name) refl
    put_if false true e later = rw (same_name row.name) refl
    put_if false false e later = rw (unlike r.1.name row.name (λ same. eqb-false slot r.0 e (sym (only.0 same)))) later

find_key-other : (name : List ℕ) (slot : ℕ) (row : KeyRow) (rows : KeyRows) → name ≢ row.name → Named slot row.name rows → find_key name (with_row slot row rows) ≡ find_key name rows
find_key-other name slot row [] other named = rw (unlike row.name name (λ same. other (sym same))) refl
find_key-other name slot row (r ∷ rows) other named = put_if (nat_lt slot r.0) (slot == r.0) refl (find_key-other name slot row rows other named.1)
  where
    skipped : bytes_eq row.name name ≡ false
    skipped = unlike row.name name (λ same. other (sym same))

    put_if : (b c : Bool) → (slot == r.0) ≡ c → find_key name (with_row slot row rows) ≡ find_key name rows → find_key name (if b then (slot, row) ∷ r ∷ rows else (if c then (slot, row) ∷ rows else r ∷ with_row slot row rows)) ≡ find_key name (r ∷ rows)
    put_if true c e later = rw skipped refl
    put_if false true e later = rw (skipped, unlike r.1.name name (λ same. other (sym same ∙ named.0 (sym (eqb-true slot r.0 e))))) refl
    put_if false false e later = rw later refl

pub find_row-put : (rows : KeyRows) (row : KeyRow) → IsTrue (is_table rows) → IfSome (slot_for row.name rows) (λ slot. find_row row.name (with_row slot row rows) ≡ Some row)
find_row-put rows row is = if_some (slot_for row.name rows) (λ slot. find_row row.name (with_row slot row rows) ≡ Some row) (λ slot e.
    let of = slot_for-slot_of row.name rows slot (table_from rows is) e in
    ap (λ (o : Option SlotRow). option_map (λ found. found.1) o) (find_key-with_row slot row rows of.only))

pub find_row-other : (rows : KeyRows) (row : KeyRow) (name : List ℕ) → IsTrue (is_table rows) → name ≢ row.name → IfSome (slot_for row.name rows) (λ slot. find_row name (with_row slot row rows) ≡ find_row name rows)
find_row-other rows row name is other = if_some (slot_for row.name rows) (λ slot. find_row name (with_row slot row rows) ≡ find_row name rows) (λ slot e.
    let of = slot_for-slot_of row.name rows slot (table_from rows is) e in
    ap (λ (o : Option SlotRow). option_map (λ found. found.1) o) (find_key-other name slot row rows other of.named))

-- what a name finds after the slot of a name was emptied

find_key-gone : (name : List ℕ) (slot : ℕ) (rows : KeyRows) → OnlyAt slot name rows → find_key name (put_row slot None rows) ≡ None
find_key-gone name slot [] only = refl
find_key-gone name slot (r ∷ rows) only = gone_if (r.0 == slot) refl (find_key-gone name slot rows only.1)
  where
    gone_if : (b : Bool) → (r.0 == slot) ≡ b → find_key name (put_row slot None rows) ≡ None → find_key name (put_row slot None (r ∷ rows)) ≡ None
    gone_if true e later = rw e later
    gone_if false e later = rw (e, unlike r.1.name name (λ same. eqb-false r.0 slot e (only.0 same))) later

find_key-left : (name other : List ℕ) (slot : ℕ) (rows : KeyRows) → other ≢ name → Named slot name rows → find_key other (put_row slot None rows) ≡ find_key other rows
find_key-left name other slot [] apart named = refl
find_key-left name other slot (r ∷ rows) apart named = left_if (r.0 == slot) refl (find_key-left name other slot rows apart named.1)
  where
    left_if : (b : Bool) → (r.0 == slot) ≡ b → find_key other (put_row slot None rows) ≡ find_key other rows → find_key other (put_row slot None (r ∷ rows)) ≡ find_key other (r ∷ rows)
    left_if true e later = rw (e, unlike r.1.name other (λ same. apart (sym same ∙ named.0 (eqb-true r.0 slot e)))) later
    left_if false e later = rw (e, later) refl

pub find_row-gone : (rows : KeyRows) (name : List ℕ) → IsTrue (is_table rows) → IfSome (find_key name rows) (λ found. find_row name (put_row found.0 None rows) ≡ None)
find_row-gone rows name is = if_some (find_key name rows) (λ found. find_row name (put_row found.0 None rows) ≡ None) (λ found e.
    ap (λ (o : Option SlotRow). option_map (λ found. found.1) o) (find_key-gone name found.0 rows (found_only name rows found e (table_from rows is))))

pub find_row-left : (rows : KeyRows) (name other : List ℕ) → IsTrue (is_table rows) → other ≢ name → IfSome (find_key name rows) (λ found. find_row other (put_row found.0 None rows) ≡ find_row other rows)
find_row-left rows name other is apart = if_some (find_key name rows) (λ found. find_row other (put_row found.0 None rows) ≡ find_row other rows) (λ found e.
    ap (λ (o : Option SlotRow). option_map (λ found. found.1) o) (find_key-left name other found.0 rows apart (found_named name rows found e (table_from rows is))))
