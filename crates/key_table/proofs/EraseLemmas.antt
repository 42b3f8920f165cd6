-- Changes one after another, and rows emptied one after another.
use Rattle.disk_core.specs.DiskStates.{DiskState, EachImage}
use Rattle.disk_core.specs.Disks.{DeviceCalls}
use Rattle.disk_core.specs.declared.disk.DiskError.{DiskError}
use Rattle.key_record.specs.Records.{spelled}
use Rattle.key_table.proofs.KeyStoreLemmas.{unstruck-calls}
use Rattle.key_table.proofs.TableLemmas.{Above, SlotRow, table_from}
use Rattle.key_table.specs.Changes.{Change, changed, erasure, erasures}
use Rattle.key_table.specs.KeyRows.{KeyRows, put_row}
use Rattle.key_table.specs.KeyStores.{IsTornBy, KeyStore, MakesChanges, ShowsInDoubt, changed_bytes, lowest_row}
use Rattle.key_table.specs.StoredRows.{put_bytes}
use Rattle.key_table.specs.Tables.{is_table}
use Rattle.nv_store.specs.Cells.{IsTorn}
use Rattle.nv_store.specs.Stores.{IsInStep}
use Rattle.std.proofs.Common.{add-one, ap, arith, subst, sym, ◌∙◌}
use Rattle.std.proofs.lemmas.Bool.{eq-eqb, eqb-true}
use Rattle.std.proofs.lemmas.List.{length-drop, length-take-le, take_all}
use Rattle.std.specs.Option.{option_map}
use Rattle.std.specs.Prelude.{Err, Ok, OnOk, Result, Bool, IfSome, IsTrue, List, None, Option, Some, [], cond, drop, false, length, not, refl, slice_get, suc, take, true, zero, ℕ, ◌*◌, ◌+◌, ◌<◌, ◌==◌, ◌∷◌, ◌≡◌, ◌≤◌}

-- one change more

changed-more : (n : ℕ) (todo : List Change) (c : Change) (rows : KeyRows) → slice_get todo n ≡ Some c → changed (take (suc n) todo) rows ≡ put_row c.slot c.row (changed (take n todo) rows)
changed-more n [] c rows e = cc
changed-more zero (x ∷ todo) c rows e = let same : x ≡ c = cc in ap (λ (y : Change). put_row y.slot y.row rows) same
changed-more (suc n) (x ∷ todo) c rows e = changed-more n todo c (put_row x.slot x.row rows) e

changed_bytes-more : (n : ℕ) (todo : List Change) (c : Change) (bytes : List ℕ) → slice_get todo n ≡ Some c → changed_bytes (take (suc n) todo) bytes ≡ put_bytes (changed_bytes (take n todo) bytes) c.slot c.row
changed_bytes-more n [] c bytes e = cc
changed_bytes-more zero (x ∷ todo) c bytes e = let same : x ≡ c = cc in ap (λ (y : Change). put_bytes bytes y.slot y.row) same
changed_bytes-more (suc n) (x ∷ todo) c bytes e = changed_bytes-more n todo c (put_bytes bytes x.slot x.row) e

get-within : {X : Type 0} (n : ℕ) (xs : List X) (x : X) → slice_get xs n ≡ Some x → n < length xs
get-within n [] x e = cc
get-within zero (y ∷ xs) x e = omega arith
get-within (suc n) (y ∷ xs) x e = omega (arith, get-within n xs x e)

none_some : {X : Type 0} (x : X) → ◌≡◌ {A = Option X} (Some x) None → ⊥
none_some x e = cc

no_fault : false ≡ true → ⊥
no_fault e = cc

-- no change
pub changes_none : (s : DiskState) (old : KeyStore) → DeviceCalls 0 s s None → IsInStep s old.bytes → MakesChanges [] 0 None old old s s
changes_none s old calls in_step = record {
  ends = refl;
  calls = calls;
  unstruck = unstruck-calls 0 s s calls;
  rows = refl;
  bytes = λ e. same old.bytes;
  in_step = λ e. in_step;
  unsettled = λ e. absurd (no_fault e);
  torn = λ e. absurd (no_fault e);
  shows = λ e. absurd (no_fault e);
}
  where
    same : (o : Option (List ℕ)) → o ≡ option_map (changed_bytes []) o
    same None = refl
    same (Some b) = refl

module _ (todo : List Change) (n : ℕ) (s m t : DiskState) (old mid new : KeyStore) (first : MakesChanges (take n todo) n None old mid s m) where
  mid_rows : n ≤ length todo → mid.rows ≡ changed (take n todo) old.rows
  mid_rows le = first.rows ∙ ap (λ (l : List Change). changed l old.rows) (take_all n (take n todo) (omega (arith, length-take-le n todo le)))

  module _ (c : Change) (at : slice_get todo n ≡ Some c) where
    within : n < length todo
    within = get-within n todo c at

    -- and this one
    pub changes_more : DeviceCalls (4 * n + 4) s t None → MakesChanges (c ∷ []) 1 None mid new m t → MakesChanges (take (n + 1) todo) (n + 1) None old new s t
    changes_more calls second = record {
      ends = sym (length-take-le (n + 1) todo (omega (arith, within)));
      calls = all;
      unstruck = unstruck-calls (4 * (n + 1)) s t all;
      rows = second.rows ∙ ap (λ (l : KeyRows). put_row c.slot c.row l) (mid_rows (omega (arith, within))) ∙ sym (changed-more n todo c old.rows at) ∙ ap (λ (k : ℕ). changed (take k todo) old.rows) (sym (add-one n))
          ∙ ap (λ (l : List Change). changed l old.rows) (sym (take_all (n + 1) (take (n + 1) todo) (omega (arith, length-take-le (n + 1) todo (omega (arith, within))))));
      bytes = λ e. second.bytes refl ∙ ap (option_map (λ (b : List ℕ). put_bytes b c.slot c.row)) (first.bytes refl) ∙ joined old.bytes ∙ ap (λ (k : ℕ). option_map (changed_bytes (take k todo)) old.bytes) (sym (add-one n));
      in_step = λ e. second.in_step refl;
      unsettled = λ e. absurd (no_fault e);
      torn = λ e. absurd (no_fault e);
      shows = λ e. absurd (no_fault e);
    }
      where
        all : DeviceCalls (4 * (n + 1)) s t None
        all = let same : 4 * n + 4 ≡ 4 * (n + 1) = omega arith in subst (λ (k : ℕ). DeviceCalls k s t None) same calls

        joined : (o : Option (List ℕ)) → option_map (λ (b : List ℕ). put_bytes b c.slot c.row) (option_map (changed_bytes (take n todo)) o) ≡ option_map (changed_bytes (take (suc n) todo)) o
        joined None = refl
        joined (Some b) = ap (λ (x : List ℕ). Some x) (sym (changed_bytes-more n todo c b at))

    -- and a fault of this one
    pub changes_struck : (fault : DiskError) → DeviceCalls (4 * n + 4) s t (Some fault) → MakesChanges (c ∷ []) 0 (Some fault) mid new m t → MakesChanges todo n (Some fault) old new s t
    changes_struck fault calls second = record {
      ends = within;
      calls = calls;
      unstruck = unstruck-calls (4 * n) s m first.calls;
      rows = second.rows ∙ mid_rows (omega (arith, within));
      bytes = λ e. absurd (none_some fault e);
      in_step = λ e. absurd (none_some fault e);
      unsettled = λ e. second.unsettled refl;
      torn = λ e. torn_old old.bytes (subst (λ (o : Option (List ℕ)). IfSome o (λ b. EachImage t (IsTorn b c.slot (spelled c.row)))) (first.bytes refl) (second.torn refl));
      shows = λ e. subst (λ (o : Option Change). EachImage t (ShowsInDoubt o new.rows)) (sym at) (second.shows refl);
    }
      where
        torn_old : (o : Option (List ℕ)) → IfSome (option_map (changed_bytes (take n todo)) o) (λ b. EachImage t (IsTorn b c.slot (spelled c.row))) → IfSome o (λ b. EachImage t (IsTornBy (slice_get todo n) (changed_bytes (take n todo) b)))
        torn_old None torn = tt
        torn_old (Some b) torn = subst (λ (x : Option Change). EachImage t (IsTornBy x (changed_bytes (take n todo) b))) (sym at) torn

-- all were done
pub changes_all : (todo : List Change) (n : ℕ) (s t : DiskState) (old new : KeyStore) → n ≡ length todo → MakesChanges (take n todo) n None old new s t → MakesChanges todo n None old new s t
changes_all todo n s t old new whole made = subst (λ (l : List Change). MakesChanges l n None old new s t) (take_all n todo (omega (arith, whole))) made

-- the first row is emptied

filter_above : (n : ℕ) (rows : KeyRows) → Above n rows → put_row n None rows ≡ rows
filter_above n [] above = refl
filter_above n (r ∷ rows) above = by (r.0 == n) refl (filter_above n rows above.1)
  where
    apart : (a b : ℕ) → b < a → a ≡ b → ⊥
    apart a b lt e = omega (arith, lt, e)

    by : (b : Bool) → (r.0 == n) ≡ b → put_row n None rows ≡ rows → cond (not b) (r ∷ put_row n None rows) (put_row n None rows) ≡ r ∷ rows
    by true e later = absurd (apart r.0 n above.0 (eqb-true r.0 n e))
    by false e later = ap (λ (l : KeyRows). r ∷ l) later

emptied_first : (r : SlotRow) (rows : KeyRows) → Above r.0 rows → put_row r.0 None (r ∷ rows) ≡ rows
emptied_first r rows above = ap (λ (b : Bool). cond (not b) (r ∷ put_row r.0 None rows) (put_row r.0 None rows)) (eq-eqb r.0 r.0 refl) ∙ filter_above r.0 rows above

pub put_row-first : (rows : KeyRows) (slot : ℕ) → IsTrue (is_table rows) → 0 < length rows → IfSome (lowest_row rows) (λ first. slot ≡ first.0) → put_row slot None rows ≡ drop 1 rows
put_row-first [] slot table some at = absurd (omega (arith, some))
put_row-first (r ∷ rows) slot table some at = ap (λ (n : ℕ). put_row n None (r ∷ rows)) at ∙ emptied_first r rows (table_from (r ∷ rows) table).0.above

-- what is so of the first row is so of its slot
pub at_first : (rows : KeyRows) (slot : ℕ) (P : ℕ → Type 0) → IfSome (lowest_row rows) (λ first. slot ≡ first.0) → P slot → IfSome (lowest_row rows) (λ first. P first.0)
at_first [] slot P at p = tt
at_first (r ∷ rows) slot P at p = subst P at p

-- the rows that are left

pub length-erasures : (rows : KeyRows) → length (erasures rows) ≡ length rows
length-erasures [] = refl
length-erasures (r ∷ rows) = ap suc (length-erasures rows)

erasure_at : (n : ℕ) (rows : KeyRows) (first : SlotRow) → slice_get (drop n rows) 0 ≡ Some first → slice_get (erasures rows) n ≡ Some (erasure first.0)
erasure_at zero [] first e = cc
erasure_at zero (r ∷ rows) first e = ap (λ (o : Option SlotRow). option_map (λ (q : SlotRow). erasure q.0) o) e
erasure_at (suc n) [] first e = cc
erasure_at (suc n) (r ∷ rows) first e = erasure_at n rows first e

-- the first row that is left is the next one of all
pub erasure_left : (n : ℕ) (old new : KeyRows) → new ≡ drop n old → slice_get (erasures old) n ≡ option_map (λ (row : SlotRow). erasure row.0) (lowest_row new)
erasure_left n old new is = at n old ∙ ap (λ (l : KeyRows). option_map (λ (row : SlotRow). erasure row.0) (lowest_row l)) (sym is)
  where
    at : (n : ℕ) (rows : KeyRows) → slice_get (erasures rows) n ≡ option_map (λ (row : SlotRow). erasure row.0) (lowest_row (drop n rows))
    at zero [] = refl
    at zero (r ∷ rows) = refl
    at (suc n) [] = refl
    at (suc n) (r ∷ rows) = at n rows

drop_one : (n : ℕ) (rows : KeyRows) → drop 1 (drop n rows) ≡ drop (suc n) rows
drop_one zero rows = refl
drop_one (suc n) [] = refl
drop_one (suc n) (r ∷ rows) = drop_one n rows

pub drop_next : (n : ℕ) (old mid new : KeyRows) → mid ≡ drop n old → new ≡ drop 1 mid → new ≡ drop (n + 1) old
drop_next n old mid new is new_is = new_is ∙ ap (λ (l : KeyRows). drop 1 l) is ∙ drop_one n old ∙ ap (λ (k : ℕ). drop k old) (sym (add-one n))

pub some_left : (n : ℕ) (old mid : KeyRows) → mid ≡ drop n old → n < length old → 0 < length mid
some_left n old mid is within = omega (arith, ap length is, length-drop n old, within)

-- the change of the first row that is left
pub with_first : (n : ℕ) (old mid : KeyRows) (P : Change → Type 0) (Q : Type 0) → mid ≡ drop n old → n < length old → ((c : Change) → slice_get (erasures old) n ≡ Some c → P c → Q) → IfSome (slice_get mid 0) (λ first. P (erasure first.0)) → Q
with_first n old [] P Q is within then given = absurd (omega (arith, ap length is, length-drop n old, within))
with_first n old (r ∷ rows) P Q is within then given = then (erasure r.0) (erasure_at n old r (ap (λ (l : KeyRows). slice_get l 0) (sym is))) given

-- where it is done, the rows are these, by another name
pub rows_as : {T E : Type 0} → (rows one other : KeyRows) (result : Result T E) → OnOk result (rows ≡ one) → one ≡ other → OnOk result (rows ≡ other)
rows_as rows one other (Ok x) is same = is ∙ same
rows_as rows one other (Err e) is same = tt
