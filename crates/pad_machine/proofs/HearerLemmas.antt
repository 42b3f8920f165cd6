-- There are no more hearers than sessions.
use Rattle.pad_steps.specs.declared.steps.Class.{Class}
use Rattle.session_book.specs.Sessions.{has_class, hearers}
use Rattle.session_book.specs.declared.sessions.SessionRow.{SessionRow}
use Rattle.std.proofs.Common.{arith}
use Rattle.std.proofs.lemmas.List.{length-map}
use Rattle.std.specs.Prelude.{Bool, List, [], false, filter, if◌then◌else◌, length, suc, true, ◌∷◌, ◌≤◌}

one_more : (b : Bool) (row : SessionRow) (kept rows : List SessionRow) → length kept ≤ length rows → length (if b then row ∷ kept else kept) ≤ suc (length rows)
one_more true row kept rows few = omega (arith, few)
one_more false row kept rows few = omega (arith, few)

length-filter-le : (p : SessionRow → Bool) (rows : List SessionRow) → length (filter p rows) ≤ length rows
length-filter-le p [] = omega arith
length-filter-le p (row ∷ rows) = one_more (p row) row (filter p rows) rows (length-filter-le p rows)

pub length_hearers : (kind : Class) (rows : List SessionRow) → length (hearers kind rows) ≤ length rows
length_hearers kind rows = omega (arith, length-map (filter (λ row. has_class kind row.classes) rows) (λ row. row.session), length-filter-le (λ row. has_class kind row.classes) rows)
