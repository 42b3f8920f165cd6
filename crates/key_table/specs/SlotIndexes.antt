-- Where the rows of a table are found by their names: chains of slots, and the places of the slots.
use Rattle.key_table.specs.KeyRows.{KeyRows}
use Rattle.key_table.specs.declared.slot_index.SlotIndex.{SlotIndex}
use Rattle.std.specs.List.{sum}
use Rattle.std.specs.Option.{option_or}
use Rattle.std.specs.Prelude.{List, None, Option, Some, [], if◌then◌else◌, slice_index, slice_set, suc, ℕ, ◌%◌, ◌<◌, ◌==◌, ◌∷◌, ◌≡◌}

-- the chain of a name, of 32
abbrev pub chain_of : List ℕ → ℕ
chain_of name = sum name % 32

-- the first slot whose row's name is of this chain; 64 where there is none
abbrev pub first_in : ℕ → KeyRows → ℕ
first_in chain [] = 64
first_in chain (first ∷ rows) = if chain_of first.1.name == chain then first.0 else first_in chain rows

-- the last slot whose row's name is of this chain
abbrev pub last_in : ℕ → KeyRows → Option ℕ
last_in chain [] = None
last_in chain (first ∷ rows) = option_or (last_in chain rows) (if chain_of first.1.name == chain then Some first.0 else None)

-- the slot of each row links to the next slot of its chain
abbrev pub LinksChains : List ℕ → KeyRows → Type 0
LinksChains next [] = Unit {0}
LinksChains next (first ∷ rows) = (slice_index next first.0 ≡ first_in (chain_of first.1.name) rows) × LinksChains next rows

-- the slot of each row has the row's place, from `place` on
abbrev pub HasPlaces : List ℕ → ℕ → KeyRows → Type 0
HasPlaces places place [] = Unit {0}
HasPlaces places place (first ∷ rows) = (slice_index places first.0 ≡ place) × HasPlaces places (suc place) rows

-- the index leads to each of these rows, whose places begin at `place`: each chain is that of the rising slots whose names are of it
pub record LeadsTo (index : SlotIndex) (place : ℕ) (rows : KeyRows) : Type 0 where
  pub first : (chain : ℕ) → chain < 32 → slice_index index.first chain ≡ first_in chain rows
  pub next : LinksChains index.next rows
  pub places : HasPlaces index.places place rows

-- where the chain leads from this slot, or from its beginning
abbrev pub link_after : SlotIndex → ℕ → Option ℕ → ℕ
link_after index chain None = slice_index index.first chain
link_after index chain (Some slot) = slice_index index.next slot

-- the chain leads to this slot from there
abbrev pub with_link : SlotIndex → ℕ → Option ℕ → ℕ → SlotIndex
with_link index chain None link = record { first = slice_set index.first chain link; next = index.next; places = index.places }
with_link index chain (Some slot) link = record { first = index.first; next = slice_set index.next slot link; places = index.places }
