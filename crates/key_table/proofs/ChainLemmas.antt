-- A slot that comes into its chain, or goes out of it.
use Rattle.key_table.proofs.PlaceLemmas.{remove-filter}
use Rattle.key_table.proofs.PutLemmas.{is_table-emptied}
use Rattle.key_table.proofs.SlotIndexLemmas.{IsWhole, chain_below, links-set, rows_from}
use Rattle.key_table.proofs.TableLemmas.{Above, Free, SlotRow, Table, above-lower, table_from}
use Rattle.key_table.specs.KeyRows.{KeyRows}
use Rattle.key_table.specs.SlotIndexes.{HasPlaces, LeadsTo, LinksChains, chain_of, first_in, last_in, link_after, with_link}
use Rattle.key_table.specs.declared.slot_index.SlotIndex.{SlotIndex}
use Rattle.key_table.specs.Tables.{is_table}
use Rattle.std.proofs.Common.{ap, arith, inl, inr, length-set, set, subst, sym, ⊎_elim, ◌∙◌, ◌⊎◌}
use Rattle.std.proofs.lemmas.Bool.{cases_eq, eq-eqb, eqb-false, eqb-true, ne_eqb}
use Rattle.std.proofs.lemmas.Grind.{get_or-set_at}
use Rattle.std.proofs.lemmas.List.{get_or-set_other, take-append-drop}
use Rattle.std.proofs.lemmas.Option.{same_Some}
use Rattle.std.specs.List.{insert, remove}
use Rattle.std.specs.Option.{option_or}
use Rattle.std.specs.Prelude.{Bool, IfSome, IsTrue, List, None, Option, Some, [], drop, false, if◌then◌else◌, length, refl, slice_index, slice_index_or, suc, take, true, zero, ℕ, ◌++◌, ◌<◌, ◌==◌, ◌∷◌, ◌≡◌, ◌≢◌}

-- the last slot of a chain

none_parts : (o : Option ℕ) (c : Bool) (n : ℕ) → option_or o (if c then Some n else None) ≡ None → (o ≡ None) × (c ≡ false)
none_parts (Some s) c n e = cc
none_parts None true n e = cc
none_parts None false n e = (refl, refl)

-- the slot that is the last one of its chain among rows stands behind the first row, or is that of the first row
some_parts : (o : Option ℕ) (c : Bool) (n s : ℕ) → option_or o (if c then Some n else None) ≡ Some s → (o ≡ Some s) ⊎ ((o ≡ None) × (c ≡ true) × (n ≡ s))
some_parts (Some t) c n s e = inl e
some_parts None true n s e = inr (refl, refl, same_Some n s e)
some_parts None false n s e = cc

-- every row stands in a slot below this one
abbrev Under : ℕ → KeyRows → Type 0
Under n [] = Unit {0}
Under n (r ∷ rows) = (r.0 < n) × Under n rows

last_above : (n chain s : ℕ) (rows : KeyRows) → Above n rows → last_in chain rows ≡ Some s → n < s
last_above n chain s [] over e = cc
last_above n chain s (r ∷ rows) over e = ⊎_elim (λ later. last_above n chain s rows over.1 later) (λ here. subst (λ (k : ℕ). n < k) here.2 over.0) (some_parts (last_in chain rows) (chain_of r.1.name == chain) r.0 s e)

last_under : (n chain s : ℕ) (rows : KeyRows) → Under n rows → last_in chain rows ≡ Some s → s < n
last_under n chain s [] under e = cc
last_under n chain s (r ∷ rows) under e = ⊎_elim (λ later. last_under n chain s rows under.1 later) (λ here. subst (λ (k : ℕ). k < n) here.2 under.0) (some_parts (last_in chain rows) (chain_of r.1.name == chain) r.0 s e)

under_all : (n : ℕ) (rows : KeyRows) → Table rows → Under 64 (take n rows)
under_all zero rows table = tt
under_all (suc n) [] table = tt
under_all (suc n) (r ∷ rows) table = (table.0.below, under_all n rows table.1)

pub last_below : (chain n : ℕ) (rows : KeyRows) → IsTrue (is_table rows) → IfSome (last_in chain (take n rows)) (λ last. last < 64)
last_below chain n rows table = by (last_in chain (take n rows)) refl
  where
    by : (o : Option ℕ) → last_in chain (take n rows) ≡ o → IfSome o (λ last. last < 64)
    by None e = tt
    by (Some s) e = last_under 64 chain s (take n rows) (under_all n rows (table_from rows table)) e

first_none : (chain : ℕ) (rows behind : KeyRows) → last_in chain rows ≡ None → first_in chain (rows ++ behind) ≡ first_in chain behind
first_none chain [] behind e = refl
first_none chain (r ∷ rows) behind e =
    let parts = none_parts (last_in chain rows) (chain_of r.1.name == chain) r.0 e in
    ap (λ (b : Bool). if b then r.0 else first_in chain (rows ++ behind)) parts.1 ∙ first_none chain rows behind parts.0

-- links of rows before others

abbrev LinksInto : List ℕ → KeyRows → KeyRows → Type 0
LinksInto next [] behind = Unit {0}
LinksInto next (r ∷ rows) behind = (slice_index next r.0 ≡ first_in (chain_of r.1.name) (rows ++ behind)) × LinksInto next rows behind

links_parts : (next : List ℕ) (rows behind : KeyRows) → LinksChains next (rows ++ behind) → LinksInto next rows behind × LinksChains next behind
links_parts next [] behind links = (tt, links)
links_parts next (r ∷ rows) behind links =
    let rest = links_parts next rows behind links.1 in
    ((links.0, rest.0), rest.1)

links_joined : (next : List ℕ) (rows behind : KeyRows) → LinksInto next rows behind → LinksChains next behind → LinksChains next (rows ++ behind)
links_joined next [] behind into links = links
links_joined next (r ∷ rows) behind into links = (into.0, links_joined next rows behind into.1 links)

apart_above : (m n : ℕ) → m < n → n ≢ m
apart_above m n less same = omega (arith, less, same)

apart_under : (m n : ℕ) → m < n → m ≢ n
apart_under m n less same = omega (arith, less, same)

into-set : (slot link : ℕ) (next : List ℕ) (rows behind : KeyRows) → Above slot rows → LinksInto next rows behind → LinksInto (set next slot link) rows behind
into-set slot link next [] behind over into = tt
into-set slot link next (r ∷ rows) behind over into = (get_or-set_other next slot r.0 link 0 (apart_above slot r.0 over.0) ∙ into.0, into-set slot link next rows behind over.1 into.1)

into-set_under : (slot link : ℕ) (next : List ℕ) (rows behind : KeyRows) → Under slot rows → LinksInto next rows behind → LinksInto (set next slot link) rows behind
into-set_under slot link next [] behind under into = tt
into-set_under slot link next (r ∷ rows) behind under into = (get_or-set_other next slot r.0 link 0 (apart_under r.0 slot under.0) ∙ into.0, into-set_under slot link next rows behind under.1 into.1)

after_last : (chain s : ℕ) (next : List ℕ) (rows behind : KeyRows) → last_in chain rows ≡ Some s → LinksInto next rows behind → slice_index next s ≡ first_in chain behind
after_last chain s next [] behind e into = cc
after_last chain s next (r ∷ rows) behind e into = ⊎_elim
    (λ later. after_last chain s next rows behind later into.1)
    (λ here. ap (λ (n : ℕ). slice_index next n) (sym here.2) ∙ into.0 ∙ ap (λ (n : ℕ). first_in n (rows ++ behind)) (eqb-true (chain_of r.1.name) chain here.1) ∙ first_none chain rows behind here.0)
    (some_parts (last_in chain rows) (chain_of r.1.name == chain) r.0 s e)

-- where the chain led from there
led : (index : SlotIndex) (chain : ℕ) (rows behind : KeyRows) (before : Option ℕ) → before ≡ last_in chain rows → slice_index index.first chain ≡ first_in chain (rows ++ behind) → LinksInto index.next rows behind → link_after index chain before ≡ first_in chain behind
led index chain rows behind None e first into = first ∙ first_none chain rows behind (sym e)
led index chain rows behind (Some s) e first into = after_last chain s index.next rows behind (sym e) into

-- other rows behind, of which only this chain begins elsewhere
module _ (chain : ℕ) (was now : KeyRows) (link : ℕ) (others : (d : ℕ) → d ≢ chain → first_in d was ≡ first_in d now) (leads : first_in chain now ≡ link) where
  other_first : (d : ℕ) (rows : KeyRows) → d ≢ chain → first_in d (rows ++ was) ≡ first_in d (rows ++ now)
  other_first d [] apart = others d apart
  other_first d (r ∷ rows) apart = ap (λ (n : ℕ). if chain_of r.1.name == d then r.0 else n) (other_first d rows apart)

  own_first : (s : ℕ) (rows : KeyRows) → last_in chain rows ≡ Some s → first_in chain (rows ++ was) ≡ first_in chain (rows ++ now)
  own_first s [] e = cc
  own_first s (r ∷ rows) e = ⊎_elim
      (λ later. ap (λ (n : ℕ). if chain_of r.1.name == chain then r.0 else n) (own_first s rows later))
      (λ here. ap (λ (b : Bool). if b then r.0 else first_in chain (rows ++ was)) here.1 ∙ sym (ap (λ (b : Bool). if b then r.0 else first_in chain (rows ++ now)) here.1))
      (some_parts (last_in chain rows) (chain_of r.1.name == chain) r.0 s e)

  same_first : (d s : ℕ) (rows : KeyRows) → last_in chain rows ≡ Some s → first_in d (rows ++ was) ≡ first_in d (rows ++ now)
  same_first d s rows e = ⊎_elim
      (λ same. ap (λ (n : ℕ). first_in n (rows ++ was)) same ∙ own_first s rows e ∙ ap (λ (n : ℕ). first_in n (rows ++ now)) (sym same))
      (λ apart. other_first d rows apart)
      (cases_eq d chain)

  into_none : (next : List ℕ) (rows : KeyRows) → last_in chain rows ≡ None → LinksInto next rows was → LinksInto next rows now
  into_none next [] e into = tt
  into_none next (r ∷ rows) e into =
      let parts = none_parts (last_in chain rows) (chain_of r.1.name == chain) r.0 e in
      (into.0 ∙ other_first (chain_of r.1.name) rows (eqb-false (chain_of r.1.name) chain parts.1), into_none next rows parts.0 into.1)

  into_some : (s : ℕ) (next : List ℕ) (rows : KeyRows) → Table rows → length next ≡ 64 → last_in chain rows ≡ Some s → LinksInto next rows was → LinksInto (set next s link) rows now
  into_some s next [] table whole e into = tt
  into_some s next (r ∷ rows) table whole e into = ⊎_elim
      (λ later. (
        get_or-set_other next s r.0 link 0 (apart_under r.0 s (last_above r.0 chain s rows table.0.above later)) ∙ into.0 ∙ same_first (chain_of r.1.name) s rows later,
        into_some s next rows table.1 whole later into.1,
      ))
      (λ here. (
        get_or-set_at next s r.0 link 0 here.2 (omega (arith, whole, here.2, under)) ∙ sym leads ∙ sym (first_none chain rows now here.0) ∙ ap (λ (n : ℕ). first_in n (rows ++ now)) (sym (eqb-true (chain_of r.1.name) chain here.1)),
        into-set s link next rows now (subst (λ (n : ℕ). Above n rows) here.2 table.0.above) (into_none next rows here.0 into.1),
      ))
      (some_parts (last_in chain rows) (chain_of r.1.name == chain) r.0 s e)
    where
      under : r.0 < 64
      under = table.0.below

  -- the chain leads to the link from there
  heads_relinked : (index : SlotIndex) (rows : KeyRows) (before : Option ℕ) → before ≡ last_in chain rows → chain < 32 → length index.first ≡ 32 → ((d : ℕ) → d < 32 → slice_index index.first d ≡ first_in d (rows ++ was))
      → (d : ℕ) → d < 32 → slice_index (with_link index chain before link).first d ≡ first_in d (rows ++ now)
  heads_relinked index rows (Some s) e below whole first d less = first d less ∙ same_first d s rows (sym e)
  heads_relinked index rows None e below whole first d less = ⊎_elim
      (λ same. get_or-set_at index.first chain d link 0 same (omega (arith, whole, below)) ∙ sym leads ∙ sym (first_none chain rows now (sym e)) ∙ ap (λ (n : ℕ). first_in n (rows ++ now)) (sym same))
      (λ apart. get_or-set_other index.first chain d link 0 apart ∙ first d less ∙ other_first d rows apart)
      (cases_eq d chain)

  links_relinked : (index : SlotIndex) (rows : KeyRows) (before : Option ℕ) → before ≡ last_in chain rows → Table rows → length index.next ≡ 64 → LinksInto index.next rows was → LinksInto (with_link index chain before link).next rows now
  links_relinked index rows (Some s) e table whole into = into_some s index.next rows table whole (sym e) into
  links_relinked index rows None e table whole into = into_none index.next rows (sym e) into

-- the parts of a table

above_parts : (n : ℕ) (rows behind : KeyRows) → Above n (rows ++ behind) → Above n rows × Above n behind
above_parts n [] behind over = (tt, over)
above_parts n (r ∷ rows) behind over =
    let rest = above_parts n rows behind over.1 in
    ((over.0, rest.0), rest.1)

free_front : (name : List ℕ) (rows behind : KeyRows) → Free name (rows ++ behind) → Free name rows
free_front name [] behind free = tt
free_front name (r ∷ rows) behind free = (free.0, free_front name rows behind free.1)

table_front : (rows behind : KeyRows) → Table (rows ++ behind) → Table rows
table_front [] behind table = tt
table_front (r ∷ rows) behind table = (record { below = table.0.below; above = (above_parts r.0 rows behind table.0.above).0; free = free_front r.1.name rows behind table.0.free }, table_front rows behind table.1)

table_behind : (rows behind : KeyRows) → Table (rows ++ behind) → Table behind
table_behind [] behind table = table
table_behind (r ∷ rows) behind table = table_behind rows behind table.1

under_next : (rows : KeyRows) (x : SlotRow) (behind : KeyRows) → Table (rows ++ x ∷ behind) → Under x.0 rows
under_next [] x behind table = tt
under_next (r ∷ rows) x behind table = ((above_parts r.0 rows (x ∷ behind) table.0.above).1.0, under_next rows x behind table.1)

-- the links of the rows behind stay
behind_kept : (index : SlotIndex) (chain link : ℕ) (rows : KeyRows) (x : SlotRow) (behind : KeyRows) (before : Option ℕ) → before ≡ last_in chain rows → Table (rows ++ x ∷ behind) → LinksChains index.next behind → LinksChains (with_link index chain before link).next behind
behind_kept index chain link rows x behind None e table links = links
behind_kept index chain link rows x behind (Some s) e table links =
    links-set s link index.next behind (above-lower s x.0 behind (last_under x.0 chain s rows (under_next rows x behind table) (sym e)) (table_behind rows (x ∷ behind) table).0.above) links

length_kept : (index : SlotIndex) (chain link : ℕ) (before : Option ℕ) → length index.next ≡ 64 → length (with_link index chain before link).next ≡ 64
length_kept index chain link None whole = whole
length_kept index chain link (Some s) whole = length-set index.next s link ∙ whole

-- a row of this chain before others
own_chain : (chain : ℕ) (x : SlotRow) (rows : KeyRows) → chain ≡ chain_of x.1.name → first_in chain (x ∷ rows) ≡ x.0
own_chain chain x rows is = rw (eq-eqb (chain_of x.1.name) chain (sym is)) refl

other_chain : (chain : ℕ) (x : SlotRow) (rows : KeyRows) → chain ≡ chain_of x.1.name → (d : ℕ) → d ≢ chain → first_in d rows ≡ first_in d (x ∷ rows)
other_chain chain x rows is d apart = sym (ap (λ (b : Bool). if b then x.0 else first_in d rows) (ne_eqb (chain_of x.1.name) d (λ same. apart (sym same ∙ sym is))))

-- the row x stands between
module _ (rows : KeyRows) (x : SlotRow) (behind : KeyRows) (table : Table (rows ++ x ∷ behind)) (index : SlotIndex) (whole : IsWhole index) (chain : ℕ) (chain_is : chain ≡ chain_of x.1.name) (before : Option ℕ) (before_is : before ≡ last_in chain rows) where
  below : chain < 32
  below = subst (λ (n : ℕ). n < 32) (sym chain_is) (chain_below x.1.name)

  pub leads_entered : (new : SlotIndex) → LeadsTo index 0 (rows ++ behind) → new.first ≡ (with_link index chain before x.0).first → new.next ≡ set (with_link index chain before x.0).next x.0 (link_after index chain before) → HasPlaces new.places 0 (rows ++ x ∷ behind) → LeadsTo new 0 (rows ++ x ∷ behind)
  leads_entered new leads first_is next_is places =
      let own = own_chain chain x behind chain_is in
      let other = other_chain chain x behind chain_is in
      let parts = links_parts index.next rows behind leads.next in
      let link = link_after index chain before in
      let linked = (with_link index chain before x.0).next in
      let into = links_relinked chain behind (x ∷ behind) x.0 other own index rows before before_is (table_front rows (x ∷ behind) table) whole.next parts.0 in
      let under : x.0 < 64 = (table_behind rows (x ∷ behind) table).0.below in
      let here : slice_index (set linked x.0 link) x.0 ≡ first_in (chain_of x.1.name) behind = get_or-set_at linked x.0 x.0 link 0 refl (omega (arith, length_kept index chain x.0 before whole.next, under)) ∙ led index chain rows behind before before_is (leads.first chain below) parts.0 ∙ ap (λ (n : ℕ). first_in n behind) chain_is in
      let rest = links-set x.0 link linked behind (table_behind rows (x ∷ behind) table).0.above (behind_kept index chain x.0 rows x behind before before_is table parts.1) in
      record {
        first = λ d less. ap (λ (l : List ℕ). slice_index l d) first_is ∙ heads_relinked chain behind (x ∷ behind) x.0 other own index rows before before_is below whole.first leads.first d less;
        next = subst (λ (l : List ℕ). LinksChains l (rows ++ x ∷ behind)) (sym next_is) (links_joined (set linked x.0 link) rows (x ∷ behind) (into-set_under x.0 link linked rows (x ∷ behind) (under_next rows x behind table) into) (here, rest));
        places = places;
      }

  pub leads_left : (new : SlotIndex) → LeadsTo index 0 (rows ++ x ∷ behind) → new.first ≡ (with_link index chain before (slice_index index.next x.0)).first → new.next ≡ (with_link index chain before (slice_index index.next x.0)).next → HasPlaces new.places 0 (rows ++ behind) → LeadsTo new 0 (rows ++ behind)
  leads_left new leads first_is next_is places =
      let parts = links_parts index.next rows (x ∷ behind) leads.next in
      let own : first_in chain behind ≡ slice_index index.next x.0 = ap (λ (n : ℕ). first_in n behind) chain_is ∙ sym parts.1.0 in
      let other = λ (d : ℕ) (apart : d ≢ chain). sym (other_chain chain x behind chain_is d apart) in
      record {
        first = λ d less. ap (λ (l : List ℕ). slice_index l d) first_is ∙ heads_relinked chain (x ∷ behind) behind (slice_index index.next x.0) other own index rows before before_is below whole.first leads.first d less;
        next = subst (λ (l : List ℕ). LinksChains l (rows ++ behind)) (sym next_is)
            (links_joined (with_link index chain before (slice_index index.next x.0)).next rows behind (links_relinked chain (x ∷ behind) behind (slice_index index.next x.0) other own index rows before before_is (table_front rows (x ∷ behind) table) whole.next parts.0)
            (behind_kept index chain (slice_index index.next x.0) rows x behind before before_is table parts.1.1));
        places = places;
      }

-- the row x is put in at a place
pub leads-insert : (rows : KeyRows) (place : ℕ) (x : SlotRow) → IsTrue (is_table (insert rows place x)) → (index : SlotIndex) → IsWhole index → (chain : ℕ) → chain ≡ chain_of x.1.name → (before : Option ℕ) → before ≡ last_in chain (take place rows)
    → (new : SlotIndex) → LeadsTo index 0 rows → new.first ≡ (with_link index chain before x.0).first → new.next ≡ set (with_link index chain before x.0).next x.0 (link_after index chain before) → HasPlaces new.places 0 (insert rows place x) → LeadsTo new 0 (insert rows place x)
leads-insert rows place x table index whole chain chain_is before before_is new leads first next places =
    leads_entered (take place rows) x (drop place rows) (table_from (insert rows place x) table) index whole chain chain_is before before_is new (subst (λ (l : KeyRows). LeadsTo index 0 l) (sym (take-append-drop place rows)) leads) first next places

-- the row x at a place is taken out
pub leads-remove : (rows : KeyRows) (place : ℕ) (x : SlotRow) → IsTrue (is_table rows) → place < length rows → x ≡ slice_index_or rows place x → (index : SlotIndex) → IsWhole index → (chain : ℕ) → chain ≡ chain_of x.1.name → (before : Option ℕ) → before ≡ last_in chain (take place rows)
    → (new : SlotIndex) → LeadsTo index 0 rows → new.first ≡ (with_link index chain before (slice_index index.next x.0)).first → new.next ≡ (with_link index chain before (slice_index index.next x.0)).next → HasPlaces new.places 0 (remove rows place) → LeadsTo new 0 (remove rows place)
leads-remove rows place x table within here index whole chain chain_is before before_is new leads first next places =
    let parts : rows ≡ take place rows ++ x ∷ drop (suc place) rows = sym (take-append-drop place rows) ∙ ap (λ (l : KeyRows). take place rows ++ l) (rows_from place rows x within here) in
    leads_left (take place rows) x (drop (suc place) rows) (subst (λ (l : KeyRows). Table l) parts (table_from rows table)) index whole chain chain_is before before_is new (subst (λ (l : KeyRows). LeadsTo index 0 l) parts leads) first next places

-- the row at a place is one
pub element_is : (rows : KeyRows) (place : ℕ) (x y : SlotRow) → place < length rows → x ≡ slice_index_or rows place x → y ≡ slice_index_or rows place y → x ≡ y
element_is [] place x y within x_is y_is = absurd (omega (arith, within))
element_is (r ∷ rows) zero x y within x_is y_is = x_is ∙ sym y_is
element_is (r ∷ rows) (suc place) x y within x_is y_is = element_is rows place x y (omega (arith, within)) x_is y_is

-- a row taken out
pub is_table-removed : (place : ℕ) (rows : KeyRows) (row : SlotRow) → IsTrue (is_table rows) → place < length rows → row ≡ slice_index_or rows place row → IsTrue (is_table (remove rows place))
is_table-removed place rows row table within here = subst (λ (l : KeyRows). IsTrue (is_table l)) (sym (remove-filter place rows row (table_from rows table) within here)) (is_table-emptied rows row.0 table)
