-- Searches by recursion are searches by a test, and find the row at the place that the test finds.
use Rattle.key_attributes.specs.declared.KeyRow.{KeyRow}
use Rattle.key_table.specs.Duplicates.{duplicate, is_duplicate}
use Rattle.key_table.specs.KeyRows.{KeyRows, find_key, row_in}
use Rattle.std.proofs.Common.{◌∙◌}
use Rattle.std.proofs.lemmas.Bool.{ltb-false, ltb-true}
use Rattle.std.proofs.lemmas.List.Folds.{find_at}
use Rattle.std.proofs.lemmas.Option.{cond_some, slice_get_past, slice_get_read}
use Rattle.std.specs.List.{find, position, position_or_len}
use Rattle.std.specs.Option.{option_map}
use Rattle.std.specs.Prelude.{Bool, List, None, Some, [], bytes_eq, cond, false, length, nat_lt, refl, slice_index_or, true, ℕ, ◌==◌, ◌∷◌, ◌≡◌}

-- the first that passes, and its place

none_if : (b : Bool) (n : ℕ) → cond b (Some n) None ≡ None → b ≡ false
none_if true n e = cc
none_if false n e = refl

pub find-None : {X : Type 0} (test : X → Bool) (xs : List X) → position test xs ≡ None → find test xs ≡ None
find-None test xs e =
    let past = ltb-false (position_or_len test xs) (length xs) (none_if (nat_lt (position_or_len test xs) (length xs)) (position_or_len test xs) e) in
    find_at test xs ∙ slice_get_past xs (position_or_len test xs) past

pub find-Some : {X : Type 0} (test : X → Bool) (xs : List X) (i : ℕ) (x : X) → position test xs ≡ Some i → x ≡ slice_index_or xs i x → find test xs ≡ Some x
find-Some test xs i x e at =
    let parts = cond_some (nat_lt (position_or_len test xs) (length xs)) (position_or_len test xs) i e in
    let within = ltb-true (position_or_len test xs) (length xs) parts.0 in
    find_at test xs ∙ slice_get_read xs (length xs) (position_or_len test xs) x refl within (rw parts.1 at)

-- the searches of the table

find_key-find : (name : List ℕ) (rows : KeyRows) → find_key name rows ≡ find (λ row. bytes_eq row.1.name name) rows
find_key-find name [] = refl
find_key-find name (row ∷ rows) = rw (find_key-find name rows) refl

pub find_key-absent : (name : List ℕ) (rows : KeyRows) → position (λ row. bytes_eq row.1.name name) rows ≡ None → find_key name rows ≡ None
find_key-absent name rows e = find_key-find name rows ∙ find-None (λ row. bytes_eq row.1.name name) rows e

pub find_key-present : (name : List ℕ) (rows : KeyRows) (i : ℕ) (row : ℕ × KeyRow) → position (λ row. bytes_eq row.1.name name) rows ≡ Some i → row ≡ slice_index_or rows i row → find_key name rows ≡ Some row
find_key-present name rows i row e at = find_key-find name rows ∙ find-Some (λ row. bytes_eq row.1.name name) rows i row e at

row_in-find : (slot : ℕ) (rows : KeyRows) → row_in slot rows ≡ option_map (λ row. row.1) (find (λ row. row.0 == slot) rows)
row_in-find slot [] = refl
row_in-find slot (row ∷ rows) = row_if (row.0 == slot) (row_in-find slot rows)
  where
    row_if : (b : Bool) → row_in slot rows ≡ option_map (λ row. row.1) (find (λ row. row.0 == slot) rows) → cond b (Some row.1) (row_in slot rows) ≡ option_map (λ row. row.1) (cond b (Some row) (find (λ row. row.0 == slot) rows))
    row_if true e = refl
    row_if false e = e

pub row_in-absent : (slot : ℕ) (rows : KeyRows) → position (λ row. row.0 == slot) rows ≡ None → row_in slot rows ≡ None
row_in-absent slot rows e = rw (row_in-find slot rows, find-None (λ row. row.0 == slot) rows e) refl

pub row_in-present : (slot : ℕ) (rows : KeyRows) (i : ℕ) (row : ℕ × KeyRow) → position (λ row. row.0 == slot) rows ≡ Some i → row ≡ slice_index_or rows i row → row_in slot rows ≡ Some row.1
row_in-present slot rows i row e at = rw (row_in-find slot rows, find-Some (λ row. row.0 == slot) rows i row e at) refl

duplicate-find : (new : KeyRow) (rows : KeyRows) → duplicate new rows ≡ option_map (λ row. row.1.name) (find (λ row. is_duplicate new row.1) rows)
duplicate-find new [] = refl
duplicate-find new (row ∷ rows) = name_if (is_duplicate new row.1) (duplicate-find new rows)
  where
    name_if : (b : Bool) → duplicate new rows ≡ option_map (λ row. row.1.name) (find (λ row. is_duplicate new row.1) rows) → cond b (Some row.1.name) (duplicate new rows) ≡ option_map (λ row. row.1.name) (cond b (Some row) (find (λ row. is_duplicate new row.1) rows))
    name_if true e = refl
    name_if false e = e

pub duplicate-absent : (new : KeyRow) (rows : KeyRows) → position (λ row. is_duplicate new row.1) rows ≡ None → duplicate new rows ≡ None
duplicate-absent new rows e = rw (duplicate-find new rows, find-None (λ row. is_duplicate new row.1) rows e) refl

pub duplicate-present : (new : KeyRow) (rows : KeyRows) (i : ℕ) (row : ℕ × KeyRow) → position (λ row. is_duplicate new row.1) rows ≡ Some i → row ≡ slice_index_or rows i row → duplicate new rows ≡ Some row.1.name
duplicate-present new rows i row e at = rw (duplicate-find new rows, find-Some (λ row. is_duplicate new row.1) rows i row e at) refl
