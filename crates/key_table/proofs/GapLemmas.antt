-- The first gap of a table's slots is its lowest empty slot.
use Rattle.key_attributes.specs.declared.KeyRow.{KeyRow}
use Rattle.key_table.proofs.TableLemmas.{Above, Table, table_from}
use Rattle.key_table.specs.KeyRows.{KeyRows, empty_slot, find_key, slot_for, slot_taken, with_row}
use Rattle.key_table.specs.Places.{first_gap}
use Rattle.key_table.specs.Tables.{is_table}
use Rattle.std.proofs.Common.{ap, arith, inl, inr, subst, sym}
use Rattle.std.proofs.lemmas.Bool.{both_ways, cases_eq, eqb-false, eqb-true, le-ltb, lt-ltb, ne_eqb}
use Rattle.std.specs.List.{insert}
use Rattle.std.specs.Prelude.{Bool, IsTrue, List, None, Some, [], false, if◌then◌else◌, length, refl, suc, true, zero, ℕ, ◌+◌, ◌<◌, ◌==◌, ◌∷◌, ◌≡◌, ◌≢◌, ◌≤◌, ◌⊎◌}

-- slots rise, from this one on, and are below 64
abbrev pub Rising : ℕ → KeyRows → Type 0
Rising slot [] = slot ≤ 64
Rising slot (r ∷ rows) = (slot ≤ r.0) × Rising (r.0 + 1) rows

rising_above : (n : ℕ) (rows : KeyRows) → n < 64 → Above n rows → Table rows → Rising (n + 1) rows
rising_above n [] below over h = omega (arith, below)
rising_above n (r ∷ rows) below over h =
    let first : n < r.0 = over.0 in
    (omega (arith, first), rising_above r.0 rows h.0.below h.0.above h.1)

pub rising_table : (rows : KeyRows) → Table rows → Rising 0 rows
rising_table [] h = omega arith
rising_table (r ∷ rows) h = (omega arith, rising_above r.0 rows h.0.below h.0.above h.1)

pub length-rising : (slot : ℕ) (rows : KeyRows) → Rising slot rows → slot + length rows ≤ 64
length-rising slot [] h = omega (arith, h)
length-rising slot (r ∷ rows) h =
    let rest : r.0 + 1 + length rows ≤ 64 = length-rising (r.0 + 1) rows h.1 in
    let first : slot ≤ r.0 = h.0 in
    omega (arith, rest, first)

pub length-table : (rows : KeyRows) → IsTrue (is_table rows) → length rows ≤ 64
length-table rows is = omega (arith, length-rising 0 rows (rising_table rows (table_from rows is)))

-- the gap is not below the first slot
gap_if : (b : Bool) (slot gap : ℕ) → slot + 1 ≤ gap → slot ≤ (if b then gap else slot)
gap_if true slot gap later = omega (arith, later)
gap_if false slot gap later = omega arith

gap_from : (slot : ℕ) (rows : KeyRows) → slot ≤ first_gap slot rows
gap_from slot [] = omega arith
gap_from slot (r ∷ rows) = gap_if (r.0 == slot) slot (first_gap (slot + 1) rows) (gap_from (slot + 1) rows)

-- the rows after one that stands in the slot
rising_after : (slot first : ℕ) (rows : KeyRows) → Rising (first + 1) rows → first ≡ slot → Rising (slot + 1) rows
rising_after slot first rows h same = subst (λ (n : ℕ). Rising (n + 1) rows) same h

-- where all slots are taken
pub first_gap-full : (slot : ℕ) (rows : KeyRows) → Rising slot rows → slot + length rows ≡ 64 → first_gap slot rows ≡ 64
first_gap-full slot [] h full = omega (arith, full)
first_gap-full slot (r ∷ rows) h full = full_if (r.0 == slot) refl (λ same. first_gap-full (slot + 1) rows (rising_after slot r.0 rows h.1 same) (omega (arith, full)))
  where
    rest : r.0 + 1 + length rows ≤ 64
    rest = length-rising (r.0 + 1) rows h.1

    least : slot ≤ r.0
    least = h.0

    full_if : (b : Bool) → (r.0 == slot) ≡ b → (r.0 ≡ slot → first_gap (slot + 1) rows ≡ 64) → (if b then first_gap (slot + 1) rows else slot) ≡ 64
    full_if true e later = later (eqb-true r.0 slot e)
    full_if false e later = absurd (eqb-false r.0 slot e (omega (arith, rest, least, full)))

-- every slot below the gap is taken
taken_below : (k slot : ℕ) (rows : KeyRows) → slot ≤ k → k < first_gap slot rows → slot_taken k rows ≡ true
taken_below k slot [] least less = absurd (omega (arith, least, less))
taken_below k slot (r ∷ rows) least less = taken_if (r.0 == slot) (r.0 == k) refl refl less (λ later. taken_below k (slot + 1) rows later)
  where
    taken_if : (b c : Bool) → (r.0 == slot) ≡ b → (r.0 == k) ≡ c → k < (if b then first_gap (slot + 1) rows else slot) → (slot + 1 ≤ k → k < first_gap (slot + 1) rows → slot_taken k rows ≡ true) → slot_taken k (r ∷ rows) ≡ true
    taken_if true true e f below later = rw f refl
    taken_if true false e f below later =
        let at : r.0 ≡ slot = eqb-true r.0 slot e in
        let apart : r.0 ≢ k = eqb-false r.0 k f in
        rw f (later (omega (arith, least, at, apart)) below)
    taken_if false c e f below later = absurd (omega (arith, least, below))

-- the gap is not taken
untaken_lower : (k slot : ℕ) (rows : KeyRows) → k < slot → Rising slot rows → slot_taken k rows ≡ false
untaken_lower k slot [] less h = refl
untaken_lower k slot (r ∷ rows) less h =
    let least : slot ≤ r.0 = h.0 in
    rw (ne_eqb r.0 k (λ same. omega (arith, less, least, same))) (untaken_lower k (r.0 + 1) rows (omega (arith, less, least)) h.1)

untaken_gap : (slot : ℕ) (rows : KeyRows) → Rising slot rows → slot_taken (first_gap slot rows) rows ≡ false
untaken_gap slot [] h = refl
untaken_gap slot (r ∷ rows) h = untaken_if (r.0 == slot) refl (λ same. untaken_gap (slot + 1) rows (rising_after slot r.0 rows h.1 same))
  where
    over : slot + 1 ≤ first_gap (slot + 1) rows
    over = gap_from (slot + 1) rows

    least : slot ≤ r.0
    least = h.0

    untaken_if : (b : Bool) → (r.0 == slot) ≡ b → (r.0 ≡ slot → slot_taken (first_gap (slot + 1) rows) rows ≡ false) → slot_taken (if b then first_gap (slot + 1) rows else slot) (r ∷ rows) ≡ false
    untaken_if true e later =
        let at : r.0 ≡ slot = eqb-true r.0 slot e in
        rw (ne_eqb r.0 (first_gap (slot + 1) rows) (λ same. omega (arith, over, at, same))) (later at)
    untaken_if false e later = rw e (untaken_lower slot (r.0 + 1) rows (omega (arith, least)) h.1)

-- the lowest empty slot, by what is taken
empty_slot-at : (gap slot count : ℕ) (rows : KeyRows) → slot ≤ gap → gap < slot + count → ((k : ℕ) → slot ≤ k → k < gap → slot_taken k rows ≡ true) → slot_taken gap rows ≡ false → empty_slot slot count rows ≡ Some gap
empty_slot-at gap slot zero rows least less below at = absurd (omega (arith, least, less))
empty_slot-at gap slot (suc count) rows least less below at = at_if (slot_taken slot rows) (cases_eq slot gap) refl
    (λ more. empty_slot-at gap (slot + 1) count rows more (omega (arith, less)) (λ k from. below k (omega (arith, from))) at)
  where
    at_if : (b : Bool) → (slot ≡ gap) ⊎ (slot ≡ gap → ⊥) → slot_taken slot rows ≡ b → (slot + 1 ≤ gap → empty_slot (slot + 1) count rows ≡ Some gap) → (if b then empty_slot (slot + 1) count rows else Some slot) ≡ Some gap
    at_if true (inl same) e later = absurd (both_ways (slot_taken slot rows) (rw same at) e)
    at_if false (inl same) e later = ap (λ (n : ℕ). Some n) same
    at_if true (inr apart) e later = later (omega (arith, least, apart))
    at_if false (inr apart) e later = absurd (both_ways (slot_taken slot rows) e (below slot (omega arith) (omega (arith, least, apart))))

empty_slot-full : (slot count : ℕ) (rows : KeyRows) → ((k : ℕ) → slot ≤ k → k < slot + count → slot_taken k rows ≡ true) → empty_slot slot count rows ≡ None
empty_slot-full slot zero rows all = refl
empty_slot-full slot (suc count) rows all = rw (all slot (omega arith) (omega arith)) (empty_slot-full (slot + 1) count rows (λ k from less. all k (omega (arith, from)) (omega (arith, less))))

-- the slot of an absent name
pub slot_for-gap : (name : List ℕ) (rows : KeyRows) (gap : ℕ) → Table rows → find_key name rows ≡ None → gap ≡ first_gap 0 rows → gap < 64 → slot_for name rows ≡ Some gap
slot_for-gap name rows gap h absent is less = rw (absent, is) (empty_slot-at (first_gap 0 rows) 0 64 rows (omega arith) (rw (sym is) less) (λ k. taken_below k 0 rows) (untaken_gap 0 rows (rising_table rows h)))

pub slot_for-full : (name : List ℕ) (rows : KeyRows) → Table rows → find_key name rows ≡ None → length rows ≡ 64 → slot_for name rows ≡ None
slot_for-full name rows h absent full =
    let gap : first_gap 0 rows ≡ 64 = first_gap-full 0 rows (rising_table rows h) (omega (arith, full)) in
    rw absent (empty_slot-full 0 64 rows (λ k from less. taken_below k 0 rows from (rw gap less)))

-- a row put into the gap stands at its place in the rising order
insert_gap : (slot gap place : ℕ) (new : KeyRow) (rows : KeyRows) → Rising slot rows → gap ≡ first_gap slot rows → place + slot ≡ gap → insert rows place (gap, new) ≡ with_row gap new rows
insert_gap slot gap zero new [] h is at = refl
insert_gap slot gap (suc place) new [] h is at = absurd (omega (arith, is, at))
insert_gap slot gap zero new (r ∷ rows) h is at = first_if (r.0 == slot) refl is
  where
    over : slot + 1 ≤ first_gap (slot + 1) rows
    over = gap_from (slot + 1) rows

    least : slot ≤ r.0
    least = h.0

    first_if : (b : Bool) → (r.0 == slot) ≡ b → gap ≡ (if b then first_gap (slot + 1) rows else slot) → (gap, new) ∷ r ∷ rows ≡ with_row gap new (r ∷ rows)
    first_if true e this = absurd (omega (arith, over, this, at))
    first_if false e this =
        let apart : r.0 ≢ slot = eqb-false r.0 slot e in
        rw (lt-ltb gap r.0 (omega (arith, this, least, apart))) refl
insert_gap slot gap (suc place) new (r ∷ rows) h is at = later_if (r.0 == slot) refl is
    (λ same later. insert_gap (slot + 1) gap place new rows (rising_after slot r.0 rows h.1 same) later (omega (arith, at)))
  where
    later_if : (b : Bool) → (r.0 == slot) ≡ b → gap ≡ (if b then first_gap (slot + 1) rows else slot) → (r.0 ≡ slot → gap ≡ first_gap (slot + 1) rows → insert rows place (gap, new) ≡ with_row gap new rows) → r ∷ insert rows place (gap, new) ≡ with_row gap new (r ∷ rows)
    later_if true e this later =
        let same : r.0 ≡ slot = eqb-true r.0 slot e in
        rw (le-ltb gap r.0 (omega (arith, at, same)), ne_eqb gap r.0 (λ one. omega (arith, at, same, one))) (ap (λ (rest : KeyRows). r ∷ rest) (later same this))
    later_if false e this later = absurd (omega (arith, at, this))

pub insert-with_row : (gap : ℕ) (new : KeyRow) (rows : KeyRows) → Table rows → gap ≡ first_gap 0 rows → insert rows gap (gap, new) ≡ with_row gap new rows
insert-with_row gap new rows h is = insert_gap 0 gap gap new rows (rising_table rows h) is (omega arith)
