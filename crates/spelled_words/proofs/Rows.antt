-- The row at a place of a table.
use Rattle.std.proofs.Common.{◌≡◌, ◌<◌, ℕ, ◌+◌, List, ◌∷◌, length, get_or, drop, Some, Bool, cond, sym, ap, ◌∙◌}
use Rattle.std.specs.Prelude.{bytes_eq}
use Rattle.std.proofs.lemmas.List.{drop_more}
use Rattle.spelled_words.specs.declared.Spelled.{Spelled}
use Rattle.spelled_words.specs.Tables.{value_of, rows}

pub value_of-row : {A : Type 0} (table : List (Spelled A)) (word : List ℕ) (i : ℕ) (row : Spelled A) (here : Bool) → i < length table → row ≡ get_or table i row → bytes_eq word row.1.now ≡ here
    → value_of (rows (drop i table)) word ≡ cond here (Some row.0) (value_of (rows (drop (i + 1) table)) word)
value_of-row {A} table word i row here lt is same =
    ap (λ (ss : List (Spelled A)). value_of (rows ss) word) (drop_more table i row lt ∙ ap (λ (s : Spelled A). s ∷ drop (i + 1) table) (sym is))
    ∙ ap (λ (b : Bool). cond b (Some row.0) (value_of (rows (drop (i + 1) table)) word)) same
