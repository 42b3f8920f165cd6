-- The key rows are a table in every run.
use Rattle.key_attributes.specs.declared.KeyRow.{KeyRow}
use Rattle.key_table.specs.Changes.{Change, changed, erasure, erasures}
use Rattle.key_table.specs.KeyRows.{KeyRows, put_row, slot_for, with_row}
use Rattle.key_table.specs.Tables.{is_table}
use Rattle.std.proofs.Common.{subst}
use Rattle.std.specs.Option.{IfSome}
use Rattle.std.specs.Prelude.{IsTrue, List, None, Option, Some, refl, suc, take, zero, ℕ, [], ◌∷◌, ◌≡◌}

-- the key rows are a table
abbrev pub Table : KeyRows → Type 0
Table rows = IsTrue (is_table rows)

-- a row put into the slot of its name keeps a table, and so does a slot that is emptied
pub record ChangesKeepATable : Type 0 where
  pub put : (rows : KeyRows) (row : KeyRow) → Table rows → IfSome (slot_for row.name rows) (λ slot. Table (with_row slot row rows))
  pub emptied : (rows : KeyRows) (slot : ℕ) → Table rows → Table (put_row slot None rows)

-- a row that is put into the slot of its name leaves a table one
pub row_keeps : (law : ChangesKeepATable) (rows : KeyRows) (slot : ℕ) (row : KeyRow) → Table rows → slot_for row.name rows ≡ Some slot → Table (with_row slot row rows)
row_keeps law rows slot row h is = subst (λ (o : Option ℕ). IfSome o (λ at. Table (with_row at row rows))) is (law.put rows row h)

-- changes that keep a table one

abbrev pub Keeps_table : KeyRows → List Change → Type 0
Keeps_table rows todo = Table (changed todo rows) × ((n : ℕ) → Table (changed (take n todo) rows))

take_none : (n : ℕ) (rows : KeyRows) → Table rows → Table (changed (take n []) rows)
take_none zero rows h = h
take_none (suc n) rows h = h

pub one_change : (rows : KeyRows) (c : Change) → Table rows → Table (put_row c.slot c.row rows) → Keeps_table rows (c ∷ [])
one_change rows c h put = (put, parts)
  where
    parts : (n : ℕ) → Table (changed (take n (c ∷ [])) rows)
    parts zero = h
    parts (suc n) = take_none n (put_row c.slot c.row rows) put

abbrev Erasing : List Change → Type 0
Erasing [] = Unit {0}
Erasing (c ∷ cs) = (c.row ≡ None) × Erasing cs

erasing-erasures : (rows : KeyRows) → Erasing (erasures rows)
erasing-erasures [] = tt
erasing-erasures (r ∷ rows) = (refl, erasing-erasures rows)

erasing-take : (n : ℕ) (cs : List Change) → Erasing cs → Erasing (take n cs)
erasing-take zero cs e = tt
erasing-take (suc n) [] e = tt
erasing-take (suc n) (c ∷ cs) e = (e.0, erasing-take n cs e.1)

module _ (law : ChangesKeepATable) where
  table-erased : (cs : List Change) (rows : KeyRows) → Erasing cs → Table rows → Table (changed cs rows)
  table-erased [] rows e h = h
  table-erased (c ∷ cs) rows e h = table-erased cs (put_row c.slot c.row rows) e.1 (emptied c.row e.0)
    where
      emptied : (o : Option KeyRow) → o ≡ None → Table (put_row c.slot o rows)
      emptied None i = law.emptied rows c.slot h
      emptied (Some row) i = cc

  pub erasures_keep : (rows : KeyRows) → Table rows → Keeps_table rows (erasures rows)
  erasures_keep rows h = (table-erased (erasures rows) rows (erasing-erasures rows) h, λ n. table-erased (take n (erasures rows)) rows (erasing-take n (erasures rows) (erasing-erasures rows)) h)

  pub erasure_keeps : (rows : KeyRows) (slot : ℕ) → Table rows → Keeps_table rows (erasure slot ∷ [])
  erasure_keeps rows slot h = one_change rows (erasure slot) h (law.emptied rows slot h)
