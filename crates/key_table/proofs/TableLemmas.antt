-- A table stays one as slots are emptied and rows are put.
use Rattle.key_attributes.specs.declared.KeyRow.{KeyRow}
use Rattle.key_attributes.specs.SlotRows.{SlotsRise}
use Rattle.key_table.specs.KeyRows.{KeyRows, with_row}
use Rattle.key_table.specs.Tables.{above_slot, is_free, is_table}
use Rattle.std.proofs.Common.{arith, subst, sym}
use Rattle.std.proofs.lemmas.Bool.{and_from, and_parts, both_ways, eqb-false, eqb-true, false_from_ne_true, lt-ltb, ltb-false, ltb-true, not-true, not_from_false, or_parts}
use Rattle.std.proofs.lemmas.Slice.Eq.{bytes_eq-Decides}
use Rattle.std.specs.List.{list_any}
use Rattle.std.specs.Prelude.{Bool, IsTrue, List, [], bytes_eq, cond, false, filter, if◌then◌else◌, nat_lt, refl, suc, true, zero, ℕ, ◌&&◌, ◌+◌, ◌<◌, ◌==◌, ◌∷◌, ◌≡◌, ◌≤◌}

abbrev pub SlotRow : Type 0
SlotRow = ℕ × KeyRow

abbrev pub Above : ℕ → KeyRows → Type 0
Above n [] = Unit {0}
Above n (r ∷ rows) = (n < r.0) × Above n rows

-- each row has another name
abbrev pub Free : List ℕ → KeyRows → Type 0
Free name [] = Unit {0}
Free name (r ∷ rows) = (r.1.name ≡ name → ⊥) × Free name rows

pub record Fits (r : SlotRow) (rows : KeyRows) : Type 0 where
  pub below : r.0 < 64
  pub above : Above r.0 rows
  pub free : Free r.1.name rows

abbrev pub Table : KeyRows → Type 0
Table [] = Unit {0}
Table (r ∷ rows) = Fits r rows × Table rows

-- the test tells it

above_from : (n : ℕ) (rows : KeyRows) → above_slot n rows ≡ true → Above n rows
above_from n [] h = tt
above_from n (r ∷ rows) h = (ltb-true n r.0 (and_parts (nat_lt n r.0) (above_slot n rows) h).0, above_from n rows (and_parts (nat_lt n r.0) (above_slot n rows) h).1)

above_to : (n : ℕ) (rows : KeyRows) → Above n rows → above_slot n rows ≡ true
above_to n [] h = refl
above_to n (r ∷ rows) h = and_from (nat_lt n r.0) (above_slot n rows) (lt-ltb n r.0 h.0) (above_to n rows h.1)

pub unlike : (a b : List ℕ) → (a ≡ b → ⊥) → bytes_eq a b ≡ false
unlike a b never = false_from_ne_true (bytes_eq a b) (λ e. never ((bytes_eq-Decides a b).0 e))

pub differ : (a b : List ℕ) → bytes_eq a b ≡ false → a ≡ b → ⊥
differ a b e same = both_ways (bytes_eq a b) e ((bytes_eq-Decides a b).1 same)

pub free_from : (name : List ℕ) (rows : KeyRows) → list_any (λ (r : SlotRow). bytes_eq r.1.name name) rows ≡ false → Free name rows
free_from name [] h = tt
free_from name (r ∷ rows) h =
    let parts = or_parts (bytes_eq r.1.name name) (list_any (λ (q : SlotRow). bytes_eq q.1.name name) rows) h in
    (differ r.1.name name parts.0, free_from name rows parts.1)

free_to : (name : List ℕ) (rows : KeyRows) → Free name rows → list_any (λ (r : SlotRow). bytes_eq r.1.name name) rows ≡ false
free_to name [] h = refl
free_to name (r ∷ rows) h = rw (unlike r.1.name name h.0) (free_to name rows h.1)

pub table_from : (rows : KeyRows) → is_table rows ≡ true → Table rows
table_from [] h = tt
table_from (r ∷ rows) h =
    let one = and_parts (nat_lt r.0 64 && above_slot r.0 rows && is_free r.1.name rows) (is_table rows) h in
    let two = and_parts (nat_lt r.0 64 && above_slot r.0 rows) (is_free r.1.name rows) one.0 in
    let three = and_parts (nat_lt r.0 64) (above_slot r.0 rows) two.0 in
    (record { below = ltb-true r.0 64 three.0; above = above_from r.0 rows three.1; free = free_from r.1.name rows (not-true (list_any (λ (q : SlotRow). bytes_eq q.1.name r.1.name) rows) two.1) }, table_from rows one.1)

pub table_to : (rows : KeyRows) → Table rows → is_table rows ≡ true
table_to [] h = refl
table_to (r ∷ rows) h =
    let one = and_from (nat_lt r.0 64) (above_slot r.0 rows) (lt-ltb r.0 64 h.0.below) (above_to r.0 rows h.0.above) in
    let two = and_from (nat_lt r.0 64 && above_slot r.0 rows) (is_free r.1.name rows) one (not_from_false (list_any (λ (q : SlotRow). bytes_eq q.1.name r.1.name) rows) (free_to r.1.name rows h.0.free)) in
    and_from (nat_lt r.0 64 && above_slot r.0 rows && is_free r.1.name rows) (is_table rows) two (table_to rows h.1)

-- a slot is emptied

above_kept : (n : ℕ) (b : Bool) (r : SlotRow) (rows : KeyRows) → n < r.0 → Above n rows → Above n (cond b (r ∷ rows) rows)
above_kept n true r rows l h = (l, h)
above_kept n false r rows l h = h

above-filter : (n : ℕ) (test : SlotRow → Bool) (rows : KeyRows) → Above n rows → Above n (filter test rows)
above-filter n test [] h = tt
above-filter n test (r ∷ rows) h = above_kept n (test r) r (filter test rows) h.0 (above-filter n test rows h.1)

free_kept : (name : List ℕ) (b : Bool) (r : SlotRow) (rows : KeyRows) → (r.1.name ≡ name → ⊥) → Free name rows → Free name (cond b (r ∷ rows) rows)
free_kept name true r rows l h = (l, h)
free_kept name false r rows l h = h

free-filter : (name : List ℕ) (test : SlotRow → Bool) (rows : KeyRows) → Free name rows → Free name (filter test rows)
free-filter name test [] h = tt
free-filter name test (r ∷ rows) h = free_kept name (test r) r (filter test rows) h.0 (free-filter name test rows h.1)

table_kept : (b : Bool) (r : SlotRow) (rows : KeyRows) → Fits r rows → Table rows → Table (cond b (r ∷ rows) rows)
table_kept true r rows f h = (f, h)
table_kept false r rows f h = h

pub table-filter : (test : SlotRow → Bool) (rows : KeyRows) → Table rows → Table (filter test rows)
table-filter test [] h = tt
table-filter test (r ∷ rows) h = table_kept (test r) r (filter test rows) (record { below = h.0.below; above = above-filter r.0 test rows h.0.above; free = free-filter r.1.name test rows h.0.free }) (table-filter test rows h.1)

-- a row is put whose name stands in its own slot alone

abbrev pub OnlyAt : ℕ → List ℕ → KeyRows → Type 0
OnlyAt slot name [] = Unit {0}
OnlyAt slot name (r ∷ rows) = ((r.1.name ≡ name) → r.0 ≡ slot) × OnlyAt slot name rows

pub free-only_at : (slot : ℕ) (name : List ℕ) (rows : KeyRows) → Free name rows → OnlyAt slot name rows
free-only_at slot name [] h = tt
free-only_at slot name (r ∷ rows) h = ((λ e. absurd (h.0 e)), free-only_at slot name rows h.1)

pub above-lower : (m n : ℕ) (rows : KeyRows) → m < n → Above n rows → Above m rows
above-lower m n [] l h = tt
above-lower m n (r ∷ rows) l h = (omega (arith, l, h.0), above-lower m n rows l h.1)

only_above : (slot : ℕ) (name : List ℕ) (rows : KeyRows) → Above slot rows → OnlyAt slot name rows → Free name rows
only_above slot name [] a o = tt
only_above slot name (r ∷ rows) a o = ((λ e. no_slot slot r.0 a.0 (o.0 e)), only_above slot name rows a.1 o.1)
  where
    no_slot : (m n : ℕ) → m < n → n ≡ m → ⊥
    no_slot m n l e = omega (arith, l, e)

above_put_if : (n slot : ℕ) (b c : Bool) (row : KeyRow) (r : SlotRow) (rows others : KeyRows) → n < slot → n < r.0 → Above n rows → Above n others → Above n (if b then (slot, row) ∷ r ∷ rows else (if c then (slot, row) ∷ rows else r ∷ others))
above_put_if n slot true c row r rows others l k h g = (l, (k, h))
above_put_if n slot false true row r rows others l k h g = (l, h)
above_put_if n slot false false row r rows others l k h g = (k, g)

above-with_row : (n slot : ℕ) (row : KeyRow) (rows : KeyRows) → n < slot → Above n rows → Above n (with_row slot row rows)
above-with_row n slot row [] l h = (l, tt)
above-with_row n slot row (r ∷ rows) l h = above_put_if n slot (nat_lt slot r.0) (slot == r.0) row r rows (with_row slot row rows) l h.0 h.1 (above-with_row n slot row rows l h.1)

free_put_if : (name : List ℕ) (slot : ℕ) (b c : Bool) (row : KeyRow) (r : SlotRow) (rows others : KeyRows) → (row.name ≡ name → ⊥) → (r.1.name ≡ name → ⊥) → Free name rows → Free name others → Free name (if b then (slot, row) ∷ r ∷ rows else (if c then (slot, row) ∷ rows else r ∷ others))
free_put_if name slot true c row r rows others l k h g = (l, (k, h))
free_put_if name slot false true row r rows others l k h g = (l, h)
free_put_if name slot false false row r rows others l k h g = (k, g)

free-with_row : (name : List ℕ) (slot : ℕ) (row : KeyRow) (rows : KeyRows) → (row.name ≡ name → ⊥) → Free name rows → Free name (with_row slot row rows)
free-with_row name slot row [] l h = (l, tt)
free-with_row name slot row (r ∷ rows) l h = free_put_if name slot (nat_lt slot r.0) (slot == r.0) row r rows (with_row slot row rows) l h.0 h.1 (free-with_row name slot row rows l h.1)

above_it : (m n : ℕ) → n ≤ m → (m ≡ n → ⊥) → n < m
above_it m n least apart = omega (arith, least, apart)

table_put_if : (slot : ℕ) (b c : Bool) (row : KeyRow) (r : SlotRow) (rows : KeyRows) → nat_lt slot r.0 ≡ b → (slot == r.0) ≡ c → slot < 64 → Fits r rows → Table rows → (r.1.name ≡ row.name → r.0 ≡ slot) → OnlyAt slot row.name rows → Table (with_row slot row rows)
    → Table (if b then (slot, row) ∷ r ∷ rows else (if c then (slot, row) ∷ rows else r ∷ with_row slot row rows))
table_put_if slot true c row r rows e f l fit h only others put =
    let over : slot < r.0 = ltb-true slot r.0 e in
    (record { below = l; above = (over, above-lower slot r.0 rows over fit.above); free = only_above slot row.name (r ∷ rows) (over, above-lower slot r.0 rows over fit.above) (only, others) }, (fit, h))
table_put_if slot false true row r rows e f l fit h only others put =
    let at : slot ≡ r.0 = eqb-true slot r.0 f in
    let over : Above slot rows = subst (λ (n : ℕ). Above n rows) (sym at) fit.above in
    (record { below = l; above = over; free = only_above slot row.name rows over others }, h)
table_put_if slot false false row r rows e f l fit h only others put =
    let apart = eqb-false slot r.0 f in
    let over : r.0 < slot = above_it slot r.0 (ltb-false slot r.0 e) apart in
    (record { below = fit.below; above = above-with_row r.0 slot row rows over fit.above; free = free-with_row r.1.name slot row rows (λ same. apart (sym (only (sym same)))) fit.free }, put)

pub table-with_row : (slot : ℕ) (row : KeyRow) (rows : KeyRows) → slot < 64 → OnlyAt slot row.name rows → Table rows → Table (with_row slot row rows)
table-with_row slot row [] l only h = (record { below = l; above = tt; free = tt }, tt)
table-with_row slot row (r ∷ rows) l only h = table_put_if slot (nat_lt slot r.0) (slot == r.0) row r rows refl refl l h.0 h.1 only.0 only.1 (table-with_row slot row rows l only.1 h.1)

-- the slots of a table rise
rising_slots : (rows : KeyRows) → Table rows → SlotsRise rows
rising_slots [] h k below = absurd (none k below)
  where
    none : (k : ℕ) → k + 1 < 0 → ⊥
    none k below = omega (arith, below)
rising_slots (row ∷ []) h k below = absurd (none k below)
  where
    none : (k : ℕ) → k + 1 < 1 → ⊥
    none k below = omega (arith, below)
rising_slots (row ∷ next_row ∷ rows) h zero below = h.0.above.0
rising_slots (row ∷ next_row ∷ rows) h (suc k) below =
    let e : suc k + 1 ≡ suc (k + 1) = omega arith in
    rw e (rising_slots (next_row ∷ rows) h.1 k (omega (arith, below)))

pub table-rising : (rows : KeyRows) → IsTrue (is_table rows) → SlotsRise rows
table-rising rows is = rising_slots rows (table_from rows is)
