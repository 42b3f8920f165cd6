-- The rows of bytes, slot by slot.
use Rattle.key_attributes.specs.declared.KeyRow.{KeyRow}
use Rattle.key_record.specs.Records.{record_of}
use Rattle.key_table.proofs.TableLemmas.{Above, Free, SlotRow, Table, table_from, table_to, unlike}
use Rattle.key_table.specs.KeyRows.{KeyRows, row_in}
use Rattle.key_table.specs.StoredRows.{BadAt, HasCells, Scanned, Shows, bad_in, bad_slot, rows_in, rows_of, scan, scan_slot}
use Rattle.key_table.specs.Tables.{is_free, is_table}
use Rattle.nv_store.specs.Cells.{cell_of}
use Rattle.std.proofs.Common.{ap, append-nil, append_assoc, arith, inl, inr, subst, sym, ◌∙◌, ◌⊎◌}
use Rattle.std.proofs.lemmas.Bool.{eq-eqb, eqb-false, eqb-true, false_from_ne_true}
use Rattle.std.proofs.lemmas.Slice.Eq.{bytes_eq-Decides}
use Rattle.std.specs.List.{list_any}
use Rattle.std.specs.Prelude.{Bool, IsTrue, List, None, Option, Some, [], bytes_eq, false, if◌then◌else◌, is_none, is_some, not, refl, suc, true, zero, ℕ, ◌++◌, ◌+◌, ◌<◌, ◌==◌, ◌||◌, ◌∷◌, ◌≡◌, ◌≢◌, ◌≤◌}

-- rows from a slot on

-- the slots rise from this one on, and are below 64
abbrev pub Ordered : ℕ → KeyRows → Type 0
Ordered i [] = Unit {0}
Ordered i (r ∷ rows) = (i ≤ r.0) × (r.0 < 64) × Ordered (r.0 + 1) rows

-- each row has a name that is free in those before it
abbrev pub FreeBehind : KeyRows → KeyRows → Type 0
FreeBehind pre [] = Unit {0}
FreeBehind pre (r ∷ rows) = IsTrue (is_free r.1.name pre) × FreeBehind (pre ++ r ∷ []) rows

-- each cell from this slot on is the record of the row that stands in its slot
abbrev pub Cells : List ℕ → ℕ → KeyRows → Type 0
Cells b i rows = (s : ℕ) → i ≤ s → s < 64 → record_of (cell_of b s) ≡ Some (row_in s rows)

ordered_from : (i k : ℕ) (rows : KeyRows) → i ≤ k → Ordered k rows → Ordered i rows
ordered_from i k [] le o = tt
ordered_from i k (r ∷ rows) le o = (omega (arith, le, o.0), o.1, o.2)

row_in_other : (s : ℕ) (r : SlotRow) (rows : KeyRows) → r.0 ≢ s → row_in s (r ∷ rows) ≡ row_in s rows
row_in_other s r rows other = ap (λ (b : Bool). if b then Some r.1 else row_in s rows) (false_from_ne_true (r.0 == s) (λ e. other (eqb-true r.0 s e)))

row_in_own : (s : ℕ) (r : SlotRow) (rows : KeyRows) → r.0 ≡ s → row_in s (r ∷ rows) ≡ Some r.1
row_in_own s r rows is = ap (λ (b : Bool). if b then Some r.1 else row_in s rows) (eq-eqb r.0 s is)

row_in_below : (s k : ℕ) (rows : KeyRows) → s < k → Ordered k rows → row_in s rows ≡ None
row_in_below s k [] lt o = refl
row_in_below s k (r ∷ rows) lt o = row_in_other s r rows (λ e. omega (arith, e, lt, o.0)) ∙ row_in_below s (r.0 + 1) rows (omega (arith, lt, o.0)) o.2

pub scan-zero : (b : List ℕ) (i : ℕ) (rows : KeyRows) → scan b i 0 rows ≡ Shows rows
unfolding scan
scan-zero b i rows = refl

pub scan-suc : (b : List ℕ) (i n : ℕ) (rows : KeyRows) → scan b i (suc n) rows ≡ scan_slot i (record_of (cell_of b i)) rows (scan b (i + 1) n)
unfolding scan
scan-suc b i n rows = refl

cases_at : (i s : ℕ) → i ≤ s → (s ≡ i) ⊎ (i + 1 ≤ s)
cases_at i s le = by (i == s) refl
  where
    by : (b : Bool) → (i == s) ≡ b → (s ≡ i) ⊎ (i + 1 ≤ s)
    by true e = inl (sym (eqb-true i s e))
    by false e = inr (omega (arith, le, eqb-false i s e))

-- what is so of rows that a scan found from a slot on, behind others
pub record Found (b : List ℕ) (i : ℕ) (pre out : KeyRows) : Type 0 where
  pub rows : KeyRows
  pub joined : out ≡ pre ++ rows
  pub ordered : Ordered i rows
  pub free : FreeBehind pre rows
  pub cells : Cells b i rows

found_none : (b : List ℕ) (i : ℕ) (pre out : KeyRows) → i < 64 → record_of (cell_of b i) ≡ Some None → Found b (i + 1) pre out → Found b i pre out
found_none b i pre out lt cell found = record {
  rows = found.rows;
  joined = found.joined;
  ordered = ordered_from i (i + 1) found.rows (omega arith) found.ordered;
  free = found.free;
  cells = λ s le below. at s below (cases_at i s le);
}
  where
    at : (s : ℕ) → s < 64 → (s ≡ i) ⊎ (i + 1 ≤ s) → record_of (cell_of b s) ≡ Some (row_in s found.rows)
    at s below (inl is) = ap (λ (k : ℕ). record_of (cell_of b k)) is ∙ cell ∙ ap (λ (o : Option KeyRow). Some o) (sym (row_in_below s (i + 1) found.rows (omega (arith, is)) found.ordered))
    at s below (inr later) = found.cells s later below

found_some : (b : List ℕ) (i : ℕ) (pre out : KeyRows) (row : KeyRow) → i < 64 → record_of (cell_of b i) ≡ Some (Some row) → is_free row.name pre ≡ true → Found b (i + 1) (pre ++ (i, row) ∷ []) out → Found b i pre out
found_some b i pre out row lt cell free found = record {
  rows = (i, row) ∷ found.rows;
  joined = found.joined ∙ append_assoc pre ((i, row) ∷ []) found.rows;
  ordered = (omega arith, lt, found.ordered);
  free = (free, found.free);
  cells = λ s le below. at s below (cases_at i s le);
}
  where
    at : (s : ℕ) → s < 64 → (s ≡ i) ⊎ (i + 1 ≤ s) → record_of (cell_of b s) ≡ Some (row_in s ((i, row) ∷ found.rows))
    at s below (inl is) = ap (λ (k : ℕ). record_of (cell_of b k)) is ∙ cell ∙ ap (λ (o : Option KeyRow). Some o) (sym (row_in_own s (i, row) found.rows (sym is)))
    at s below (inr later) = found.cells s later below ∙ ap (λ (o : Option KeyRow). Some o) (sym (row_in_other s (i, row) found.rows (λ e. omega (arith, e, later))))

pub scan_found : (b : List ℕ) (n i : ℕ) (pre out : KeyRows) → i + n ≡ 64 → scan b i n pre ≡ Shows out → Found b i pre out
scan_found b zero i pre out whole e = record {
  rows = [];
  joined = (let same : Shows pre ≡ Shows out = sym (scan-zero b i pre) ∙ e in let is : out ≡ pre = cc in is ∙ sym (append-nil pre));
  ordered = tt;
  free = tt;
  cells = λ s le below. absurd (omega (arith, whole, le, below));
}
scan_found b (suc n) i pre out whole e = by_cell (λ p is. scan_found b n (i + 1) p out (omega (arith, whole)) is) (record_of (cell_of b i)) refl (sym (scan-suc b i n pre) ∙ e)
  where
    by_free : ((p : KeyRows) → scan b (i + 1) n p ≡ Shows out → Found b (i + 1) p out) → (row : KeyRow) (f : Bool) → is_free row.name pre ≡ f → record_of (cell_of b i) ≡ Some (Some row) → (if f then scan b (i + 1) n (pre ++ (i, row) ∷ []) else BadAt i) ≡ Shows out → Found b i pre out
    by_free more row true free cell is = found_some b i pre out row (omega (arith, whole)) cell free (more (pre ++ (i, row) ∷ []) is)
    by_free more row false free cell is = cc

    by_cell : ((p : KeyRows) → scan b (i + 1) n p ≡ Shows out → Found b (i + 1) p out) → (o : Option (Option KeyRow)) → record_of (cell_of b i) ≡ o → scan_slot i o pre (scan b (i + 1) n) ≡ Shows out → Found b i pre out
    by_cell more None cell is = cc
    by_cell more (Some None) cell is = found_none b i pre out (omega (arith, whole)) cell (more pre is)
    by_cell more (Some (Some row)) cell is = by_free more row (is_free row.name pre) refl cell is

-- rows whose records stand in the cells are found
pub scan_shows : (b : List ℕ) (n i : ℕ) (pre rows : KeyRows) → i + n ≡ 64 → Ordered i rows → FreeBehind pre rows → Cells b i rows → scan b i n pre ≡ Shows (pre ++ rows)
scan_shows b zero i pre [] whole ordered free cells = scan-zero b i pre ∙ ap (λ (l : KeyRows). Shows l) (sym (append-nil pre))
scan_shows b zero i pre (r ∷ rows) whole ordered free cells = absurd (omega (arith, whole, ordered.0, ordered.1))
scan_shows b (suc n) i pre [] whole ordered free cells =
    scan-suc b i n pre
    ∙ ap (λ (o : Option (Option KeyRow)). scan_slot i o pre (scan b (i + 1) n)) (cells i (omega arith) (omega (arith, whole)))
    ∙ scan_shows b n (i + 1) pre [] (omega (arith, whole)) tt tt (λ s le below. cells s (omega (arith, le)) below)
scan_shows b (suc n) i pre (r ∷ rows) whole ordered free cells = by_slot (λ p l. scan_shows b n (i + 1) p l (omega (arith, whole))) (cases_at i r.0 ordered.0)
  where
    cell : record_of (cell_of b i) ≡ Some (row_in i (r ∷ rows))
    cell = cells i (omega arith) (omega (arith, whole))

    by_slot : ((p l : KeyRows) → Ordered (i + 1) l → FreeBehind p l → Cells b (i + 1) l → scan b (i + 1) n p ≡ Shows (p ++ l)) → (r.0 ≡ i) ⊎ (i + 1 ≤ r.0) → scan b i (suc n) pre ≡ Shows (pre ++ r ∷ rows)
    by_slot more (inr later) =
        scan-suc b i n pre
        ∙ ap (λ (o : Option (Option KeyRow)). scan_slot i o pre (scan b (i + 1) n)) (cell ∙ ap (λ (o : Option KeyRow). Some o) (row_in_below i (i + 1) (r ∷ rows) (omega arith) (later, ordered.1, ordered.2)))
        ∙ more pre (r ∷ rows) (later, ordered.1, ordered.2) free (λ s le below. cells s (omega (arith, le)) below)
    by_slot more (inl own) =
        let same : (i, r.1) ≡ r = ap (λ (k : ℕ). (k, r.1)) (sym own) in
        scan-suc b i n pre
        ∙ ap (λ (o : Option (Option KeyRow)). scan_slot i o pre (scan b (i + 1) n)) (cell ∙ ap (λ (o : Option KeyRow). Some o) (row_in_own i r rows own))
        ∙ ap (λ (f : Bool). if f then scan b (i + 1) n (pre ++ (i, r.1) ∷ []) else BadAt i) free.0
        ∙ ap (λ (q : SlotRow). scan b (i + 1) n (pre ++ q ∷ [])) same
        ∙ more (pre ++ r ∷ []) rows (ordered_from (i + 1) (r.0 + 1) rows (omega (arith, own)) ordered.2) free.1
        (λ s le below. cells s (omega (arith, le)) below ∙ ap (λ (o : Option KeyRow). Some o) (row_in_other s r rows (λ e. omega (arith, e, own, le))))
        ∙ ap (λ (l : KeyRows). Shows l) (append_assoc pre (r ∷ []) rows)

-- a table's rows are in order and free of one another

ordered_above : (n : ℕ) (rows : KeyRows) → Table rows → Above n rows → Ordered (n + 1) rows
ordered_above n [] table above = tt
ordered_above n (r ∷ rows) table above = (omega (arith, above.0), table.0.below, ordered_above r.0 rows table.1 table.0.above)

ordered_table : (rows : KeyRows) → Table rows → Ordered 0 rows
ordered_table [] table = tt
ordered_table (r ∷ rows) table = (omega arith, table.0.below, ordered_above r.0 rows table.1 table.0.above)

any-append : (name : List ℕ) (pre : KeyRows) (r : SlotRow) → list_any (λ (q : SlotRow). bytes_eq q.1.name name) (pre ++ r ∷ []) ≡ (list_any (λ (q : SlotRow). bytes_eq q.1.name name) pre || bytes_eq r.1.name name)
any-append name [] r = last (bytes_eq r.1.name name)
  where
    last : (b : Bool) → (b || false) ≡ b
    last true = refl
    last false = refl
any-append name (q ∷ pre) r = ap (λ (b : Bool). bytes_eq q.1.name name || b) (any-append name pre r) ∙ join (bytes_eq q.1.name name) _ _
  where
    join : (a b c : Bool) → (a || (b || c)) ≡ ((a || b) || c)
    join true b c = refl
    join false b c = refl

neither : (a b : Bool) → not a ≡ true → b ≡ false → not (a || b) ≡ true
neither true b h e = cc
neither false b h e = ap not e

-- the name of each row is free in others
abbrev EachFree : KeyRows → KeyRows → Type 0
EachFree pre [] = Unit {0}
EachFree pre (r ∷ rows) = IsTrue (is_free r.1.name pre) × EachFree pre rows

all_more : (pre : KeyRows) (r : SlotRow) (rows : KeyRows) → EachFree pre rows → Free r.1.name rows → EachFree (pre ++ r ∷ []) rows
all_more pre r [] all free = tt
all_more pre r (q ∷ rows) all free =
    (ap not (any-append q.1.name pre r) ∙ neither (list_any (λ (p : SlotRow). bytes_eq p.1.name q.1.name) pre) (bytes_eq r.1.name q.1.name) all.0 (unlike r.1.name q.1.name (λ e. free.0 (sym e))), all_more pre r rows all.1 free.1)

free_table : (pre rows : KeyRows) → Table rows → EachFree pre rows → FreeBehind pre rows
free_table pre [] table all = tt
free_table pre (r ∷ rows) table all = (all.0, free_table (pre ++ r ∷ []) rows table.1 (all_more pre r rows all.1 table.0.free))

all_of_none : (rows : KeyRows) → EachFree [] rows
all_of_none [] = tt
all_of_none (r ∷ rows) = (refl, all_of_none rows)

-- a table whose rows are in the cells is shown
pub rows_of-cells : (b : List ℕ) (rows : KeyRows) → IsTrue (is_table rows) → HasCells b rows → rows_of b ≡ Some rows
rows_of-cells b rows table cells =
    let t : Table rows = table_from rows table in
    ap rows_in (scan_shows b 64 0 [] rows refl (ordered_table rows t) (free_table [] rows t (all_of_none rows)) (λ s le below. cells s below))

shown : (x : Scanned) (rows : KeyRows) → rows_in x ≡ Some rows → x ≡ Shows rows
shown (Shows out) rows e = let same : Some out ≡ Some rows = e in let is : out ≡ rows = cc in ap (λ (l : KeyRows). Shows l) is
shown (BadAt slot) rows e = cc

found_all : (b : List ℕ) (rows : KeyRows) → rows_of b ≡ Some rows → Found b 0 [] rows
found_all b rows e = scan_found b 64 0 [] rows refl (shown (scan b 0 64 []) rows e)

-- rows that are shown are in the cells
pub cells-rows_of : (b : List ℕ) (rows : KeyRows) → rows_of b ≡ Some rows → HasCells b rows
cells-rows_of b rows e =
    let found = found_all b rows e in
    λ s below. found.cells s (omega arith) below ∙ ap (λ (l : KeyRows). Some (row_in s l)) (sym found.joined)

-- rows that were found are a table

above_ordered : (n i : ℕ) (rows : KeyRows) → n < i → Ordered i rows → Above n rows
above_ordered n i [] lt ordered = tt
above_ordered n i (r ∷ rows) lt ordered = (omega (arith, lt, ordered.0), above_ordered n (r.0 + 1) rows (omega (arith, lt, ordered.0)) ordered.2)

first_not : (a b : Bool) → not (a || b) ≡ true → not a ≡ true
first_not true b e = e
first_not false b e = refl

second_not : (a b : Bool) → b ≡ true → not (a || b) ≡ true → ⊥
second_not true b is e = cc
second_not false true is e = cc
second_not false false is e = cc

free_front : (name : List ℕ) (pre : KeyRows) (r : SlotRow) → IsTrue (is_free name (pre ++ r ∷ [])) → IsTrue (is_free name pre)
free_front name pre r free = first_not (list_any (λ (q : SlotRow). bytes_eq q.1.name name) pre) (bytes_eq r.1.name name) (sym (ap not (any-append name pre r)) ∙ free)

own_taken : (pre : KeyRows) (r : SlotRow) (name : List ℕ) → IsTrue (is_free name (pre ++ r ∷ [])) → r.1.name ≢ name
own_taken pre r name free is = second_not (list_any (λ (q : SlotRow). bytes_eq q.1.name name) pre) (bytes_eq r.1.name name) ((bytes_eq-Decides r.1.name name).1 is) (sym (ap not (any-append name pre r)) ∙ free)

free_later : (name : List ℕ) (pre rows : KeyRows) → ((other : List ℕ) → IsTrue (is_free other pre) → name ≢ other) → FreeBehind pre rows → Free name rows
free_later name pre [] taken free = tt
free_later name pre (q ∷ rows) taken free = ((λ e. taken q.1.name free.0 (sym e)), free_later name (pre ++ q ∷ []) rows (λ other later. taken other (free_front other pre q later)) free.1)

table_ordered : (i : ℕ) (pre rows : KeyRows) → Ordered i rows → FreeBehind pre rows → Table rows
table_ordered i pre [] ordered free = tt
table_ordered i pre (r ∷ rows) ordered free = (
  record { below = ordered.1; above = above_ordered r.0 (r.0 + 1) rows (omega arith) ordered.2; free = free_later r.1.name (pre ++ r ∷ []) rows (λ other later. own_taken pre r other later) free.1 },
  table_ordered (r.0 + 1) (pre ++ r ∷ []) rows ordered.2 free.1,
)

pub is_table-rows_of : (b : List ℕ) (rows : KeyRows) → rows_of b ≡ Some rows → IsTrue (is_table rows)
is_table-rows_of b rows e =
    let found = found_all b rows e in
    subst (λ (l : KeyRows). IsTrue (is_table l)) (sym found.joined) (table_to found.rows (table_ordered 0 [] found.rows found.ordered found.free))

-- bytes show rows, or have a bad slot

one_of_both : (x : Scanned) → is_some (rows_in x) ≡ is_none (bad_in x)
one_of_both (Shows rows) = refl
one_of_both (BadAt slot) = refl

pub is_some-rows_of : (b : List ℕ) → is_some (rows_of b) ≡ is_none (bad_slot b)
is_some-rows_of b = one_of_both (scan b 0 64 [])
