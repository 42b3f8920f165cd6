-- Chains that are made from the last row on, and a walk along the chain of a name.
use Rattle.key_attributes.specs.declared.KeyRow.{KeyRow}
use Rattle.key_table.proofs.PlaceLemmas.{above_at}
use Rattle.key_table.proofs.TableLemmas.{Above, Free, SlotRow, Table, differ, table_from, table_to}
use Rattle.key_table.specs.KeyRows.{KeyRows}
use Rattle.key_table.specs.SlotIndexes.{HasPlaces, LeadsTo, LinksChains, chain_of, first_in, last_in}
use Rattle.key_table.specs.declared.slot_index.SlotIndex.{SlotIndex}
use Rattle.key_table.specs.Tables.{is_table}
use Rattle.std.proofs.Common.{add-one, ap, arith, drop-cons, get_or, set, subst, sym, ◌∙◌}
use Rattle.std.proofs.lemmas.Bool.{eqb-false, eqb-true, le-ltb, lt-ltb}
use Rattle.std.proofs.lemmas.Grind.{get_or-set_at}
use Rattle.std.proofs.lemmas.List.Sums.{position_or_len_is}
use Rattle.std.proofs.lemmas.List.{get_or-set_other, take_all}
use Rattle.std.proofs.lemmas.Slice.Eq.{bytes_eq-Decides}
use Rattle.std.specs.List.{position, position_or_len}
use Rattle.std.specs.Option.{option_or}
use Rattle.std.specs.Prelude.{Bool, IsTrue, List, None, Option, Some, [], bytes_eq, cond, drop, false, if◌then◌else◌, length, nat_lt, refl, slice_index, slice_index_or, suc, take, true, zero, ℕ, ◌+◌, ◌<◌, ◌==◌, ◌∷◌, ◌≡◌, ◌≢◌, ◌≤◌}

-- an index of no rows is one of the rows behind the last
pub leads_none : (index : SlotIndex) (rows : KeyRows) → LeadsTo index 0 [] → LeadsTo index (length rows) (drop (length rows) rows)
leads_none index rows leads = subst (λ (l : KeyRows). LeadsTo index (length rows) l) (sym (none_left rows)) (record { first = leads.first; next = tt; places = tt })
  where
    none_left : (rows : KeyRows) → drop (length rows) rows ≡ []
    none_left [] = refl
    none_left (r ∷ rows) = none_left rows

-- a row before those of an index

other_slot : (m n : ℕ) → m < n → n ≢ m
other_slot m n less same = omega (arith, less, same)

pub links-set : (slot link : ℕ) (next : List ℕ) (rows : KeyRows) → Above slot rows → LinksChains next rows → LinksChains (set next slot link) rows
links-set slot link next [] over links = tt
links-set slot link next (r ∷ rows) over links = (get_or-set_other next slot r.0 link 0 (other_slot slot r.0 over.0) ∙ links.0, links-set slot link next rows over.1 links.1)

places-set : (slot new place : ℕ) (places : List ℕ) (rows : KeyRows) → Above slot rows → HasPlaces places place rows → HasPlaces (set places slot new) place rows
places-set slot new place places [] over has = tt
places-set slot new place places (r ∷ rows) over has = (get_or-set_other places slot r.0 new 0 (other_slot slot r.0 over.0) ∙ has.0, places-set slot new (suc place) places rows over.1 has.1)

-- the arrays of an index have their lengths
pub record IsWhole (index : SlotIndex) : Type 0 where
  pub first : length index.first ≡ 32
  pub next : length index.next ≡ 64
  pub places : length index.places ≡ 64

-- the row was put before those of the index
pub record Enters (place : ℕ) (row : SlotRow) (old new : SlotIndex) : Type 0 where
  pub first : new.first ≡ set old.first (chain_of row.1.name) row.0
  pub next : new.next ≡ set old.next row.0 (slice_index old.first (chain_of row.1.name))
  pub places : new.places ≡ set old.places row.0 place

pub chain_below : (name : List ℕ) → chain_of name < 32
chain_below name = omega arith

pub leads_more : (place : ℕ) (r : SlotRow) (rows : KeyRows) (old new : SlotIndex) → Table (r ∷ rows) → IsWhole old → Enters place r old new → LeadsTo old (suc place) rows → LeadsTo new place (r ∷ rows)
leads_more place r rows old new table whole enters leads = record {
  first = λ chain below. ap (λ (l : List ℕ). slice_index l chain) enters.first ∙ by chain below (chain_of r.1.name == chain) refl;
  next = (
    ap (λ (l : List ℕ). slice_index l r.0) enters.next ∙ get_or-set_at old.next r.0 r.0 (slice_index old.first (chain_of r.1.name)) 0 refl (omega (arith, whole.next, under)) ∙ leads.first (chain_of r.1.name) (chain_below r.1.name),
    subst (λ (l : List ℕ). LinksChains l rows) (sym enters.next) (links-set r.0 (slice_index old.first (chain_of r.1.name)) old.next rows table.0.above leads.next),
  );
  places = (
    ap (λ (l : List ℕ). slice_index l r.0) enters.places ∙ get_or-set_at old.places r.0 r.0 place 0 refl (omega (arith, whole.places, under)),
    subst (λ (l : List ℕ). HasPlaces l (suc place) rows) (sym enters.places) (places-set r.0 place (suc place) old.places rows table.0.above leads.places),
  );
}
  where
    under : r.0 < 64
    under = table.0.below

    by : (chain : ℕ) → chain < 32 → (b : Bool) → (chain_of r.1.name == chain) ≡ b → slice_index (set old.first (chain_of r.1.name) r.0) chain ≡ (if b then r.0 else first_in chain rows)
    by chain below true e = get_or-set_at old.first (chain_of r.1.name) chain r.0 0 (sym (eqb-true (chain_of r.1.name) chain e)) (omega (arith, whole.first, chain_below r.1.name))
    by chain below false e = get_or-set_other old.first (chain_of r.1.name) chain r.0 0 (λ same. eqb-false (chain_of r.1.name) chain e (sym same)) ∙ leads.first chain below

table-drop : (n : ℕ) (rows : KeyRows) → Table rows → Table (drop n rows)
table-drop zero rows table = table
table-drop (suc n) [] table = tt
table-drop (suc n) (r ∷ rows) table = table-drop n rows table.1

-- the rows from a place on
pub rows_from : (place : ℕ) (rows : KeyRows) (row : SlotRow) → place < length rows → row ≡ slice_index_or rows place row → drop place rows ≡ row ∷ drop (suc place) rows
rows_from place rows row within here = drop-cons rows place row within ∙ ap (λ (first : SlotRow). first ∷ drop (suc place) rows) (sym here)

table_at : (place : ℕ) (rows : KeyRows) (row : SlotRow) → IsTrue (is_table rows) → place < length rows → row ≡ slice_index_or rows place row → Table (row ∷ drop (suc place) rows)
table_at place rows row table within here = subst (λ (l : KeyRows). Table l) (rows_from place rows row within here) (table-drop place rows (table_from rows table))

pub slot_below : (place : ℕ) (rows : KeyRows) (row : SlotRow) → IsTrue (is_table rows) → place < length rows → row ≡ slice_index_or rows place row → row.0 < 64
slot_below place rows row table within here = (table_at place rows row table within here).0.below

-- the rows from a place on are a table
pub is_table-from : (place : ℕ) (rows : KeyRows) (row : SlotRow) → IsTrue (is_table rows) → place < length rows → row ≡ slice_index_or rows place row → IsTrue (is_table (row ∷ drop (suc place) rows))
is_table-from place rows row table within here = table_to (row ∷ drop (suc place) rows) (table_at place rows row table within here)

pub leads_before : (place next : ℕ) (rows : KeyRows) (row : SlotRow) (new : SlotIndex) → next ≡ suc place → place < length rows → row ≡ slice_index_or rows place row → LeadsTo new place (row ∷ drop (suc place) rows) → LeadsTo new place (drop place rows)
leads_before place next rows row new next_is within here leads = subst (λ (l : KeyRows). LeadsTo new place l) (sym (rows_from place rows row within here)) leads

pub leads_next : (place next : ℕ) (rows : KeyRows) (old : SlotIndex) → next ≡ suc place → LeadsTo old next (drop next rows) → LeadsTo old (place + 1) (drop (suc place) rows)
leads_next place next rows old next_is leads = let same : next ≡ place + 1 = omega (arith, next_is) in subst (λ (n : ℕ). LeadsTo old n (drop (suc place) rows)) same (subst (λ (n : ℕ). LeadsTo old next (drop n rows)) next_is leads)

-- the places of the rows up to one more

places_more : (places : List ℕ) (place n at : ℕ) (rows : KeyRows) (row : SlotRow) → Table rows → length places ≡ 64 → n < length rows → row ≡ slice_index_or rows n row → place + n ≡ at → HasPlaces places place (take n rows) → HasPlaces (set places row.0 at) place (take (suc n) rows)
places_more places place n at [] row table whole within here is has = absurd (omega (arith, within))
places_more places place zero at (r ∷ rows) row table whole within here is has =
    let slot : r.0 ≡ row.0 = ap (λ (q : SlotRow). q.0) (sym here) in
    let under : r.0 < 64 = table.0.below in
    (get_or-set_at places row.0 r.0 at 0 slot (omega (arith, whole, slot, under)) ∙ omega (arith, is), tt)
places_more places place (suc n) at (r ∷ rows) row table whole within here is has =
    let over : r.0 < row.0 = above_at r.0 n rows row table.0.above (omega (arith, within)) here in
    (get_or-set_other places row.0 r.0 at 0 (λ same. omega (arith, over, same)) ∙ has.0, places_more places (suc place) n at rows row table.1 whole (omega (arith, within)) here (omega (arith, is)) has.1)

pub places_next : (places : List ℕ) (n : ℕ) (rows : KeyRows) (row : SlotRow) → IsTrue (is_table rows) → length places ≡ 64 → n < length rows → row ≡ slice_index_or rows n row → HasPlaces places 0 (take n rows) → HasPlaces (set places row.0 n) 0 (take (n + 1) rows)
places_next places n rows row table whole within here has = subst (λ (k : ℕ). HasPlaces (set places row.0 n) 0 (take k rows)) (sym (add-one n)) (places_more places 0 n n rows row (table_from rows table) whole within here (omega arith) has)

pub places_all : (places : List ℕ) (n : ℕ) (rows : KeyRows) → n ≡ length rows → HasPlaces places 0 (take n rows) → HasPlaces places 0 rows
places_all places n rows is has = subst (λ (l : KeyRows). HasPlaces places 0 l) (take_all n rows (omega (arith, is))) has

-- a walk along the chain of a name

-- the rows that were passed do not have the name, and the slot is the next one of its chain
pub record Walks (name : List ℕ) (rows : KeyRows) (slot : ℕ) : Type 0 where
  pub passed : ℕ
  pub within : passed ≤ length rows
  pub free : Free name (take passed rows)
  pub slot_is : slot ≡ first_in (chain_of name) (drop passed rows)

-- the row of a slot of the chain, behind the rows that were passed: its place and link, and that no row between is of the chain
pub record Stops (chain passed : ℕ) (index : SlotIndex) (place : ℕ) (rows : KeyRows) (slot : ℕ) : Type 0 where
  pub at : ℕ
  pub within : at < length rows
  pub place_is : slice_index index.places slot ≡ place + at
  pub next_is : slice_index index.next slot ≡ first_in chain (drop (suc at) rows)
  pub over : slot < slice_index index.next slot
  pub free : (name : List ℕ) → chain_of name ≡ chain → Free name (take passed rows) → Free name (take at rows)
  pub last : last_in chain (take (suc at) rows) ≡ Some slot
  pub same : (n : ℕ) → passed ≤ n → n ≤ at → last_in chain (take n rows) ≡ last_in chain (take passed rows)

first_above : (n chain : ℕ) (rows : KeyRows) → n < 64 → Above n rows → n < first_in chain rows
first_above n chain [] less over = less
first_above n chain (r ∷ rows) less over = by (chain_of r.1.name == chain) (first_above n chain rows less over.1)
  where
    by : (b : Bool) → n < first_in chain rows → n < (if b then r.0 else first_in chain rows)
    by true later = over.0
    by false later = later

stops_first : (chain : ℕ) (index : SlotIndex) (place : ℕ) (rows : KeyRows) → Table rows → LinksChains index.next rows → HasPlaces index.places place rows → first_in chain rows < 64 → Stops chain 0 index place rows (first_in chain rows)
stops_first chain index place [] table links has less = absurd (omega (arith, less))
stops_first chain index place (r ∷ rows) table links has less = by (chain_of r.1.name == chain) refl less (stops_first chain index (suc place) rows table.1 links.1 has.1)
  where
    by : (b : Bool) → (chain_of r.1.name == chain) ≡ b → (if b then r.0 else first_in chain rows) < 64 → (first_in chain rows < 64 → Stops chain 0 index (suc place) rows (first_in chain rows)) → Stops chain 0 index place (r ∷ rows) (if b then r.0 else first_in chain rows)
    by true e below more =
        let next_is : slice_index index.next r.0 ≡ first_in chain rows = links.0 ∙ ap (λ (n : ℕ). first_in n rows) (eqb-true (chain_of r.1.name) chain e) in
        record {
          at = 0;
          within = omega arith;
          place_is = has.0 ∙ omega arith;
          next_is = next_is;
          over = subst (λ (n : ℕ). r.0 < n) (sym next_is) (first_above r.0 chain rows below table.0.above);
          free = λ name is before. tt;
          last = ap (λ (b : Bool). if b then Some r.0 else None) e;
          same = λ n from until. (let none : n ≡ 0 = omega (arith, until) in ap (λ (k : ℕ). last_in chain (take k (r ∷ rows))) none);
        }
    by false e below more =
        let rest : Stops chain 0 index (suc place) rows (first_in chain rows) = more below in
        record {
          at = suc rest.at;
          within = omega (arith, rest.within);
          place_is = rest.place_is ∙ omega arith;
          next_is = rest.next_is;
          over = rest.over;
          free = λ name is before. ((λ same. eqb-false (chain_of r.1.name) chain e (ap chain_of same ∙ is)), rest.free name is tt);
          last = ap (λ (o : Option ℕ). option_or o (if chain_of r.1.name == chain then Some r.0 else None)) rest.last;
          same = λ n from until. none rest.at rest.same n until;
        }
      where
        none : (at : ℕ) → ((n : ℕ) → 0 ≤ n → n ≤ at → last_in chain (take n rows) ≡ None) → (n : ℕ) → n ≤ suc at → last_in chain (take n (r ∷ rows)) ≡ None
        none at later zero until = refl
        none at later (suc n) until = ap (λ (o : Option ℕ). option_or o (if chain_of r.1.name == chain then Some r.0 else None)) (later n (omega arith) (omega (arith, until))) ∙ ap (λ (b : Bool). if b then Some r.0 else None) e

stops_after : (chain : ℕ) (index : SlotIndex) (passed place : ℕ) (rows : KeyRows) → Table rows → LinksChains index.next rows → HasPlaces index.places place rows → first_in chain (drop passed rows) < 64 → Stops chain passed index place rows (first_in chain (drop passed rows))
stops_after chain index zero place rows table links has less = stops_first chain index place rows table links has less
stops_after chain index (suc passed) place [] table links has less = absurd (omega (arith, less))
stops_after chain index (suc passed) place (r ∷ rows) table links has less =
    let rest = stops_after chain index passed (suc place) rows table.1 links.1 has.1 less in
    record {
      at = suc rest.at;
      within = omega (arith, rest.within);
      place_is = rest.place_is ∙ omega arith;
      next_is = rest.next_is;
      over = rest.over;
      free = λ name is before. (before.0, rest.free name is before.1);
      last = ap (λ (o : Option ℕ). option_or o (if chain_of r.1.name == chain then Some r.0 else None)) rest.last;
      same = λ n from until. later rest.at rest.same n from until;
    }
  where
    later : (at : ℕ) → ((n : ℕ) → passed ≤ n → n ≤ at → last_in chain (take n rows) ≡ last_in chain (take passed rows)) → (n : ℕ) → suc passed ≤ n → n ≤ suc at → last_in chain (take n (r ∷ rows)) ≡ last_in chain (take (suc passed) (r ∷ rows))
    later at same zero from until = absurd (omega (arith, from))
    later at same (suc n) from until = ap (λ (o : Option ℕ). option_or o (if chain_of r.1.name == chain then Some r.0 else None)) (same n (omega (arith, from)) (omega (arith, until)))

stops_at : (chain passed : ℕ) (index : SlotIndex) (rows : KeyRows) (slot : ℕ) → IsTrue (is_table rows) → LeadsTo index 0 rows → slot ≡ first_in chain (drop passed rows) → slot < 64 → Stops chain passed index 0 rows slot
stops_at chain passed index rows slot table leads slot_is less = subst (λ (n : ℕ). Stops chain passed index 0 rows n) (sym slot_is)
    (stops_after chain index passed 0 rows (table_from rows table) leads.next leads.places (subst (λ (n : ℕ). n < 64) slot_is less))

-- what a look at the place of a slot of the chain may rest on
pub record Looks (name : List ℕ) (index : SlotIndex) (rows : KeyRows) (slot place : ℕ) : Type 0 where
  pub within : place < length rows
  pub over : slot < slice_index index.next slot
  pub next_is : slice_index index.next slot ≡ first_in (chain_of name) (drop (suc place) rows)
  pub free : Free name (take place rows)

pub walk_looks : (name : List ℕ) (index : SlotIndex) (rows : KeyRows) (slot at place : ℕ) → IsTrue (is_table rows) → LeadsTo index 0 rows → Walks name rows slot → slot < 64 → at ≡ slot → place ≡ slice_index index.places at → Looks name index rows slot place
walk_looks name index rows slot at place table leads walks less at_is place_is =
    let stops = stops_at (chain_of name) walks.passed index rows slot table leads walks.slot_is less in
    let here : stops.at ≡ place = sym (place_is ∙ ap (λ (n : ℕ). slice_index index.places n) at_is ∙ stops.place_is ∙ omega arith) in
    record {
      within = omega (arith, here, stops.within);
      over = stops.over;
      next_is = stops.next_is ∙ ap (λ (n : ℕ). first_in (chain_of name) (drop (suc n) rows)) here;
      free = subst (λ (n : ℕ). Free name (take n rows)) here (stops.free name refl walks.free);
    }

pub walk_begins : (name : List ℕ) (index : SlotIndex) (rows : KeyRows) → LeadsTo index 0 rows → Walks name rows (slice_index index.first (chain_of name))
walk_begins name index rows leads = record { passed = 0; within = omega arith; free = tt; slot_is = leads.first (chain_of name) (chain_below name) }

free-more : (name : List ℕ) (at : ℕ) (rows : KeyRows) (row : SlotRow) → Free name (take at rows) → at < length rows → row ≡ slice_index_or rows at row → (row.1.name ≡ name → ⊥) → Free name (take (suc at) rows)
free-more name at [] row free within here other = absurd (omega (arith, within))
free-more name zero (r ∷ rows) row free within here other = ((λ same. other (ap (λ (q : SlotRow). q.1.name) here ∙ same)), tt)
free-more name (suc at) (r ∷ rows) row free within here other = (free.0, free-more name at rows row free.1 (omega (arith, within)) here other)

-- the row that was looked at has another name
pub walk_goes_on : (name : List ℕ) (index : SlotIndex) (rows : KeyRows) (slot place : ℕ) (row : SlotRow) → Looks name index rows slot place → row ≡ slice_index_or rows place row → bytes_eq row.1.name name ≡ false → Walks name rows (slice_index index.next slot)
walk_goes_on name index rows slot place row looks here other = record {
  passed = suc place;
  within = omega (arith, looks.within);
  free = free-more name place rows row looks.free looks.within here (differ row.1.name name other);
  slot_is = looks.next_is;
}

-- rows without the name, by their places
free_at : (name : List ℕ) (n k : ℕ) (rows : KeyRows) (d : SlotRow) → Free name (take n rows) → k < n → k < length rows → bytes_eq (get_or rows k d).1.name name ≡ false
free_at name n k [] d free less within = absurd (omega (arith, within))
free_at name zero k (r ∷ rows) d free less within = absurd (omega (arith, less))
free_at name (suc n) zero (r ∷ rows) d free less within = unlike_if (bytes_eq r.1.name name) refl
  where
    unlike_if : (b : Bool) → bytes_eq r.1.name name ≡ b → b ≡ false
    unlike_if true e = absurd (free.0 ((bytes_eq-Decides r.1.name name).0 e))
    unlike_if false e = refl
free_at name (suc n) (suc k) (r ∷ rows) d free less within = free_at name n k rows d free.1 (omega (arith, less)) (omega (arith, within))

position-at : (test : SlotRow → Bool) (rows : KeyRows) (i : ℕ) → position_or_len test rows ≡ i → i < length rows → Some i ≡ position test rows
position-at test rows i is within = sym (ap (λ (n : ℕ). cond (nat_lt n (length rows)) (Some n) None) is ∙ ap (λ (b : Bool). cond b (Some i) None) (lt-ltb i (length rows) within))

position-none : (test : SlotRow → Bool) (rows : KeyRows) → position_or_len test rows ≡ length rows → None ≡ position test rows
position-none test rows is = sym (ap (λ (n : ℕ). cond (nat_lt n (length rows)) (Some n) None) is ∙ ap (λ (b : Bool). cond b (Some (length rows)) None) (le-ltb (length rows) (length rows) (omega arith)))

-- the row that was looked at has the name
pub walk_finds : (name : List ℕ) (index : SlotIndex) (rows : KeyRows) (slot place : ℕ) (row : SlotRow) → Looks name index rows slot place → row ≡ slice_index_or rows place row → bytes_eq row.1.name name ≡ true → Some place ≡ position (λ (each : SlotRow). bytes_eq each.1.name name) rows
walk_finds name index rows slot place row looks here same = position-at (λ (each : SlotRow). bytes_eq each.1.name name) rows place
    (position_or_len_is (λ (each : SlotRow). bytes_eq each.1.name name) rows place row (omega (arith, looks.within)) (λ k less. free_at name place k rows row looks.free less (omega (arith, less, looks.within))) (λ _. subst (λ (each : SlotRow). bytes_eq each.1.name name ≡ true) here same)) looks.within

free-append : (name : List ℕ) (n : ℕ) (rows : KeyRows) → Free name (take n rows) → Free name (drop n rows) → Free name rows
free-append name zero rows before behind = behind
free-append name (suc n) [] before behind = tt
free-append name (suc n) (r ∷ rows) before behind = (before.0, free-append name n rows before.1 behind)

chain_without : (name : List ℕ) (rows : KeyRows) → Table rows → 64 ≤ first_in (chain_of name) rows → Free name rows
chain_without name [] table end = tt
chain_without name (r ∷ rows) table end = by (chain_of r.1.name == chain_of name) refl end (chain_without name rows table.1)
  where
    under : r.0 < 64
    under = table.0.below

    by : (b : Bool) → (chain_of r.1.name == chain_of name) ≡ b → 64 ≤ (if b then r.0 else first_in (chain_of name) rows) → (64 ≤ first_in (chain_of name) rows → Free name rows) → Free name (r ∷ rows)
    by true e past rest = absurd (omega (arith, under, past))
    by false e past rest = ((λ same. eqb-false (chain_of r.1.name) (chain_of name) e (ap chain_of same)), rest past)

-- the chain has ended
pub walk_ends : (name : List ℕ) (rows : KeyRows) (slot : ℕ) → Table rows → Walks name rows slot → 64 ≤ slot → None ≡ position (λ (each : SlotRow). bytes_eq each.1.name name) rows
walk_ends name [] slot table walks end = position-none (λ (each : SlotRow). bytes_eq each.1.name name) [] refl
walk_ends name (r ∷ rows) slot table walks end =
    let behind : Free name (drop walks.passed (r ∷ rows)) = chain_without name (drop walks.passed (r ∷ rows)) (table-drop walks.passed (r ∷ rows) table) (omega (arith, walks.slot_is, end)) in
    let free : Free name (r ∷ rows) = free-append name walks.passed (r ∷ rows) walks.free behind in
    let whole : take (length (r ∷ rows)) (r ∷ rows) ≡ r ∷ rows = take_all (length (r ∷ rows)) (r ∷ rows) (omega arith) in
    position-none (λ (each : SlotRow). bytes_eq each.1.name name) (r ∷ rows)
    (position_or_len_is (λ (each : SlotRow). bytes_eq each.1.name name) (r ∷ rows) (length (r ∷ rows)) r (omega arith)
    (λ k less. free_at name (length (r ∷ rows)) k (r ∷ rows) r (subst (λ (l : KeyRows). Free name l) (sym whole) free) less less) (λ past. absurd (omega (arith, past))))

-- a walk along a chain to the slot before a place

-- the rows that were passed stand before the place; the slot before is their last one of the chain, and this slot the next one
pub record Nears (chain place : ℕ) (rows : KeyRows) (slot : ℕ) (before : Option ℕ) : Type 0 where
  pub passed : ℕ
  pub until : passed ≤ place
  pub slot_is : slot ≡ first_in chain (drop passed rows)
  pub before_is : before ≡ last_in chain (take passed rows)

pub nears_begins : (chain place : ℕ) (index : SlotIndex) (rows : KeyRows) → chain < 32 → LeadsTo index 0 rows → Nears chain place rows (slice_index index.first chain) None
nears_begins chain place index rows below leads = record { passed = 0; until = omega arith; slot_is = leads.first chain below; before_is = refl }

pub nears_over : (chain place : ℕ) (index : SlotIndex) (rows : KeyRows) (slot : ℕ) (before : Option ℕ) → IsTrue (is_table rows) → LeadsTo index 0 rows → Nears chain place rows slot before → slot < 64 → slot < slice_index index.next slot
nears_over chain place index rows slot before table leads nears less = (stops_at chain nears.passed index rows slot table leads nears.slot_is less).over

-- the slot's row stands before the place
pub nears_more : (chain place : ℕ) (index : SlotIndex) (rows : KeyRows) (slot : ℕ) (before : Option ℕ) → IsTrue (is_table rows) → LeadsTo index 0 rows → Nears chain place rows slot before → slot < 64 → slice_index index.places slot < place → Nears chain place rows (slice_index index.next slot) (Some slot)
nears_more chain place index rows slot before table leads nears less under =
    let stops = stops_at chain nears.passed index rows slot table leads nears.slot_is less in
    record { passed = suc stops.at; until = omega (arith, stops.place_is, under); slot_is = stops.next_is; before_is = sym stops.last }

-- the slot's row does not
pub nears_there : (chain place : ℕ) (index : SlotIndex) (rows : KeyRows) (slot : ℕ) (before : Option ℕ) → IsTrue (is_table rows) → LeadsTo index 0 rows → Nears chain place rows slot before → slot < 64 → place ≤ slice_index index.places slot → before ≡ last_in chain (take place rows)
nears_there chain place index rows slot before table leads nears less past =
    let stops = stops_at chain nears.passed index rows slot table leads nears.slot_is less in
    nears.before_is ∙ sym (stops.same place nears.until (omega (arith, stops.place_is, past)))

chain_ends : (chain n : ℕ) (rows : KeyRows) → Table rows → 64 ≤ first_in chain rows → last_in chain (take n rows) ≡ None
chain_ends chain zero rows table end = refl
chain_ends chain (suc n) [] table end = refl
chain_ends chain (suc n) (r ∷ rows) table end = by (chain_of r.1.name == chain) refl end (chain_ends chain n rows table.1)
  where
    under : r.0 < 64
    under = table.0.below

    by : (b : Bool) → (chain_of r.1.name == chain) ≡ b → 64 ≤ (if b then r.0 else first_in chain rows) → (64 ≤ first_in chain rows → last_in chain (take n rows) ≡ None) → option_or (last_in chain (take n rows)) (if chain_of r.1.name == chain then Some r.0 else None) ≡ None
    by true e past rest = absurd (omega (arith, under, past))
    by false e past rest = ap (λ (o : Option ℕ). option_or o (if chain_of r.1.name == chain then Some r.0 else None)) (rest past) ∙ ap (λ (b : Bool). if b then Some r.0 else None) e

chain_ends_after : (chain passed n : ℕ) (rows : KeyRows) → Table rows → 64 ≤ first_in chain (drop passed rows) → passed ≤ n → last_in chain (take n rows) ≡ last_in chain (take passed rows)
chain_ends_after chain zero n rows table end from = chain_ends chain n rows table end
chain_ends_after chain (suc passed) zero rows table end from = absurd (omega (arith, from))
chain_ends_after chain (suc passed) (suc n) [] table end from = refl
chain_ends_after chain (suc passed) (suc n) (r ∷ rows) table end from = ap (λ (o : Option ℕ). option_or o (if chain_of r.1.name == chain then Some r.0 else None)) (chain_ends_after chain passed n rows table.1 end (omega (arith, from)))

-- the chain has ended
pub nears_ends : (chain place : ℕ) (rows : KeyRows) (slot : ℕ) (before : Option ℕ) → IsTrue (is_table rows) → Nears chain place rows slot before → 64 ≤ slot → before ≡ last_in chain (take place rows)
nears_ends chain place rows slot before table nears end = nears.before_is ∙ sym (chain_ends_after chain nears.passed place rows (table_from rows table) (omega (arith, nears.slot_is, end)) nears.until)

-- a row in place of another one of its name

first_in-set : (chain i : ℕ) (rows : KeyRows) (found : SlotRow) (new : KeyRow) → i < length rows → found ≡ slice_index_or rows i found → new.name ≡ found.1.name → first_in chain (set rows i (found.0, new)) ≡ first_in chain rows
first_in-set chain i [] found new within here same = absurd (omega (arith, within))
first_in-set chain zero (r ∷ rows) found new within here same =
    let name : new.name ≡ r.1.name = same ∙ ap (λ (q : SlotRow). q.1.name) here in
    let slot : found.0 ≡ r.0 = ap (λ (q : SlotRow). q.0) here in
    ap (λ (n : List ℕ). if chain_of n == chain then found.0 else first_in chain rows) name ∙ ap (λ (n : ℕ). if chain_of r.1.name == chain then n else first_in chain rows) slot
first_in-set chain (suc i) (r ∷ rows) found new within here same = ap (λ (n : ℕ). if chain_of r.1.name == chain then r.0 else n) (first_in-set chain i rows found new (omega (arith, within)) here same)

links-over : (next : List ℕ) (i : ℕ) (rows : KeyRows) (found : SlotRow) (new : KeyRow) → i < length rows → found ≡ slice_index_or rows i found → new.name ≡ found.1.name → LinksChains next rows → LinksChains next (set rows i (found.0, new))
links-over next i [] found new within here same links = absurd (omega (arith, within))
links-over next zero (r ∷ rows) found new within here same links =
    let name : new.name ≡ r.1.name = same ∙ ap (λ (q : SlotRow). q.1.name) here in
    let slot : found.0 ≡ r.0 = ap (λ (q : SlotRow). q.0) here in
    (ap (λ (n : ℕ). slice_index next n) slot ∙ links.0 ∙ ap (λ (n : List ℕ). first_in (chain_of n) rows) (sym name), links.1)
links-over next (suc i) (r ∷ rows) found new within here same links =
    (links.0 ∙ sym (first_in-set (chain_of r.1.name) i rows found new (omega (arith, within)) here same), links-over next i rows found new (omega (arith, within)) here same links.1)

places-over : (places : List ℕ) (place i : ℕ) (rows : KeyRows) (found : SlotRow) (new : KeyRow) → i < length rows → found ≡ slice_index_or rows i found → HasPlaces places place rows → HasPlaces places place (set rows i (found.0, new))
places-over places place i [] found new within here has = absurd (omega (arith, within))
places-over places place zero (r ∷ rows) found new within here has = (ap (λ (q : SlotRow). slice_index places q.0) here ∙ has.0, has.1)
places-over places place (suc i) (r ∷ rows) found new within here has = (has.0, places-over places (suc place) i rows found new (omega (arith, within)) here has.1)

pub leads_over : (index : SlotIndex) (i : ℕ) (rows : KeyRows) (found : SlotRow) (new : KeyRow) → i < length rows → found ≡ slice_index_or rows i found → new.name ≡ found.1.name → LeadsTo index 0 rows → LeadsTo index 0 (set rows i (found.0, new))
leads_over index i rows found new within here same leads = record {
  first = λ chain below. leads.first chain below ∙ sym (first_in-set chain i rows found new within here same);
  next = links-over index.next i rows found new within here same leads.next;
  places = places-over index.places 0 i rows found new within here leads.places;
}
