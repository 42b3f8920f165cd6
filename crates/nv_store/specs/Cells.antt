-- What the bytes of a store say. The layout is this project's own: 64 selectors, and then two halves of 96 bytes for each slot, of which the selector names one by its parity.
use Rattle.disk_core.specs.DiskStates.{TornWithin, splice}
use Rattle.std.specs.Prelude.{Bool, List, [], bytes_eq, slice_index, slice_range, ℕ, ◌%◌, ◌*◌, ◌+◌, ◌-◌, ◌<◌, ◌∷◌, ◌≡◌, ◌≢◌, ◌||◌, ◌⊎◌}

-- where a half of a slot begins
abbrev pub place_of : (slot half : ℕ) → ℕ
place_of slot half = 64 + (2 * slot + half) * 96

-- the half that counts: an even selector names half 0, an odd one half 1
abbrev pub selected : List ℕ → ℕ → ℕ
selected bytes slot = slice_index bytes slot % 2

-- the half that does not count
abbrev pub spare : List ℕ → ℕ → ℕ
spare bytes slot = 1 - selected bytes slot

-- the cell of a slot: the 96 bytes that count
abbrev pub cell_of : List ℕ → ℕ → List ℕ
cell_of bytes slot = slice_range bytes (place_of slot (selected bytes slot)) (place_of slot (selected bytes slot) + 96)

-- the bytes with this cell in the half that does not count
abbrev pub staged : List ℕ → ℕ → List ℕ → List ℕ
staged bytes slot cell = splice bytes (place_of slot (spare bytes slot)) cell

-- the bytes with this cell in the half that did not count, and a selector that names it: 1 less the parity of the old one
abbrev pub with_cell : List ℕ → ℕ → List ℕ → List ℕ
with_cell bytes slot cell = splice (staged bytes slot cell) slot (spare bytes slot ∷ [])

-- the bytes with any bytes in the half that does not count; or with this cell in it, and any selector
abbrev pub IsTorn : List ℕ → ℕ → List ℕ → List ℕ → Type 0
IsTorn bytes slot cell torn = TornWithin (place_of slot (spare bytes slot)) 96 bytes torn
    ⊎ ((selector : ℕ) × (torn ≡ splice (staged bytes slot cell) slot (selector ∷ [])))

-- the same of 12352 bytes, as a test: with what stands in the half that does not count they are the bytes; or with the selector that stands there, those with this cell
unfoldable pub is_torn : List ℕ → ℕ → List ℕ → List ℕ → Bool
is_torn bytes slot cell torn = bytes_eq torn (splice bytes (place_of slot (spare bytes slot)) (slice_range torn (place_of slot (spare bytes slot)) (place_of slot (spare bytes slot) + 96)))
    || bytes_eq torn (splice (staged bytes slot cell) slot (slice_range torn slot (slot + 1)))

-- each slot has the cell that it had, but for this one, which may have the new one
abbrev pub HasOldOrNew : List ℕ → ℕ → List ℕ → List ℕ → Type 0
HasOldOrNew bytes slot cell now = (other : ℕ) → other < 64 → (cell_of now other ≡ cell_of bytes other) ⊎ ((other ≡ slot) × (cell_of now other ≡ cell))

-- this slot has the new cell, and each other the one that it had
pub record HasNew (bytes : List ℕ) (slot : ℕ) (cell now : List ℕ) : Type 0 where
  pub changed : cell_of now slot ≡ cell
  pub others : (other : ℕ) → other < 64 → other ≢ slot → cell_of now other ≡ cell_of bytes other
