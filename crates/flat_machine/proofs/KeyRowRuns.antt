-- What is so of the values of key rows in every run.
use Rattle.flat_machine.proofs.BoolLemmas.{and_of, both}
use Rattle.flat_machine.proofs.KeyMoves.{Erases, KeyMove, KeysErased, KeysLoaded, KeysPut, KeysStay, key_moves}
use Rattle.flat_machine.specs.Facts.{IsStart}
use Rattle.flat_machine.specs.KeyRowFacts.{has_no_duplicates, loads_no_duplicates}
use Rattle.flat_machine.specs.Machine.{Act, next, run_from}
use Rattle.flat_machine.specs.Settings.{Setting}
use Rattle.flat_machine.specs.State.{Flat, Shared}
use Rattle.key_attributes.specs.UseBits.{forbids_duplicates, under_construction}
use Rattle.key_attributes.specs.declared.KeyRow.{KeyRow}
use Rattle.key_table.specs.Changes.{Change, changed}
use Rattle.key_table.specs.Duplicates.{duplicate, is_duplicate}
use Rattle.key_table.specs.KeyRows.{KeyRows, put_row, with_row}
use Rattle.pad_steps.specs.declared.steps.DiskWord.{DiskWord}
use Rattle.pad_steps.specs.declared.steps.Step.{Step}
use Rattle.std.proofs.Common.{ap, inl, inr, subst, sym, ◌∙◌}
use Rattle.std.proofs.lemmas.Slice.Eq.{bytes_eq-Decides}
use Rattle.std.specs.List.{AllByRecursion, list_all}
use Rattle.std.specs.Prelude.{Bool, IsTrue, List, None, Option, Some, [], bytes_eq, cond, false, filter, if◌then◌else◌, nat_lt, not, refl, true, ℕ, ◌&&◌, ◌==◌, ◌||◌, ◌∷◌, ◌≡◌}

-- tests of all rows

pub all-with_row : (test : ℕ × KeyRow → Bool) (slot : ℕ) (row : KeyRow) (rows : KeyRows) → test (slot, row) ≡ true → list_all test rows ≡ true → list_all test (with_row slot row rows) ≡ true
all-with_row test slot row [] one h = and_of (test (slot, row)) true one refl
all-with_row test slot row (first ∷ rows) one h =
    let parts = both (test first) (list_all test rows) h in
    placed (nat_lt slot first.0) (slot == first.0) (and_of (test (slot, row)) _ one h) (and_of (test (slot, row)) _ one parts.1) (and_of (test first) _ parts.0 (all-with_row test slot row rows one parts.1))
  where
    placed : (b c : Bool) → list_all test ((slot, row) ∷ first ∷ rows) ≡ true → list_all test ((slot, row) ∷ rows) ≡ true → list_all test (first ∷ with_row slot row rows) ≡ true
        → list_all test (if b then (slot, row) ∷ first ∷ rows else (if c then (slot, row) ∷ rows else first ∷ with_row slot row rows)) ≡ true
    placed true c before here later = before
    placed false true before here later = here
    placed false false before here later = later

all-filter : (test keep : ℕ × KeyRow → Bool) (rows : KeyRows) → list_all test rows ≡ true → list_all test (filter keep rows) ≡ true
all-filter test keep [] h = refl
all-filter test keep (first ∷ rows) h =
    let parts = both (test first) (list_all test rows) h in
    kept (keep first) parts.0 (all-filter test keep rows parts.1)
  where
    kept : (b : Bool) → test first ≡ true → list_all test (filter keep rows) ≡ true → list_all test (cond b (first ∷ filter keep rows) (filter keep rows)) ≡ true
    kept true one rest = and_of (test first) _ one rest
    kept false one rest = rest

all-emptied : (test : ℕ × KeyRow → Bool) (slot : ℕ) (o : Option KeyRow) (rows : KeyRows) → o ≡ None → list_all test rows ≡ true → list_all test (put_row slot o rows) ≡ true
all-emptied test slot None rows e h = all-filter test (λ each. not (each.0 == slot)) rows h
all-emptied test slot (Some row) rows e h = cc

pub all-erased : (test : ℕ × KeyRow → Bool) (todo : List Change) (rows : KeyRows) → AllByRecursion Erases todo → list_all test rows ≡ true → list_all test (changed todo rows) ≡ true
all-erased test [] rows e h = h
all-erased test (c ∷ todo) rows e h = all-erased test todo (put_row c.slot c.row rows) e.1 (all-emptied test c.slot c.row rows e.0 h)

all_joined : (one other joint : ℕ × KeyRow → Bool) (rows : KeyRows) → ((x : ℕ × KeyRow) → one x ≡ true → other x ≡ true → joint x ≡ true) → list_all one rows ≡ true → list_all other rows ≡ true → list_all joint rows ≡ true
all_joined one other joint [] k h g = refl
all_joined one other joint (first ∷ rows) k h g =
    let here = both (one first) (list_all one rows) h in
    let there = both (other first) (list_all other rows) g in
    and_of (joint first) _ (k first here.0 there.0) (all_joined one other joint rows k here.1 there.1)

all_weaker : (one other : ℕ × KeyRow → Bool) (rows : KeyRows) → ((x : ℕ × KeyRow) → one x ≡ true → other x ≡ true) → list_all one rows ≡ true → list_all other rows ≡ true
all_weaker one other [] k h = refl
all_weaker one other (first ∷ rows) k h =
    let here = both (one first) (list_all one rows) h in
    and_of (other first) _ (k first here.0) (all_weaker one other rows k here.1)

-- duplicates

bytes_same : (xs : List ℕ) → bytes_eq xs xs ≡ true
bytes_same xs = (bytes_eq-Decides xs xs).1 refl

bytes_turned : (xs ys : List ℕ) → bytes_eq xs ys ≡ bytes_eq ys xs
bytes_turned xs ys = same_test (bytes_eq xs ys) (bytes_eq ys xs) (λ e. (bytes_eq-Decides ys xs).1 (sym ((bytes_eq-Decides xs ys).0 e))) (λ e. (bytes_eq-Decides xs ys).1 (sym ((bytes_eq-Decides ys xs).0 e)))
  where
    same_test : (a b : Bool) → (a ≡ true → b ≡ true) → (b ≡ true → a ≡ true) → a ≡ b
    same_test true b to from = sym (to refl)
    same_test false true to from = from refl
    same_test false false to from = refl

duplicate_turned : (a b : KeyRow) → is_duplicate a b ≡ is_duplicate b a
duplicate_turned a b =
    rw (bytes_turned b.name a.name, bytes_turned b.value a.value) (turned (under_construction a.uses) (under_construction b.uses) (bytes_eq a.name b.name) (bytes_eq a.value b.value) (forbids_duplicates a.uses) (forbids_duplicates b.uses))
  where
    turned : (c d n v f g : Bool) → (not c && not d && not n && v && (g || f)) ≡ (not d && not c && not n && v && (f || g))
    turned true true n v f g = refl
    turned true false n v f g = refl
    turned false true n v f g = refl
    turned false false n v true true = refl
    turned false false n v true false = refl
    turned false false n v false true = refl
    turned false false n v false false = refl

-- a row is no duplicate of itself: it has one name
not_of_itself : (row : KeyRow) → not (is_duplicate row row) ≡ true
not_of_itself row = rw (bytes_same row.name) (one_name (under_construction row.uses))
  where
    one_name : (c : Bool) → not (not c && not c && false && bytes_eq row.value row.value && (forbids_duplicates row.uses || forbids_duplicates row.uses)) ≡ true
    one_name true = refl
    one_name false = refl

none_duplicated : (row : KeyRow) (rows : KeyRows) → duplicate row rows ≡ None → list_all (λ (each : ℕ × KeyRow). not (is_duplicate row each.1)) rows ≡ true
none_duplicated row [] e = refl
none_duplicated row (first ∷ rows) e = no_first (is_duplicate row first.1) e (none_duplicated row rows)
  where
    no_first : (b : Bool) → (if b then Some first.1.name else duplicate row rows) ≡ None → (duplicate row rows ≡ None → list_all (λ (each : ℕ × KeyRow). not (is_duplicate row each.1)) rows ≡ true) → (not b && list_all (λ (each : ℕ × KeyRow). not (is_duplicate row each.1)) rows) ≡ true
    no_first true is rest = cc
    no_first false is rest = rest is

abbrev unlike_all : KeyRows → ℕ × KeyRow → Bool
unlike_all rows first = list_all (λ (second : ℕ × KeyRow). not (is_duplicate first.1 second.1)) rows

put_apart : (slot : ℕ) (row : KeyRow) (rows : KeyRows) → duplicate row rows ≡ None → has_no_duplicates rows ≡ true → has_no_duplicates (with_row slot row rows) ≡ true
put_apart slot row rows alone h =
    let new_ones = none_duplicated row rows alone in
    let old_ones = all_joined (unlike_all rows) (λ each. not (is_duplicate row each.1)) (unlike_all (with_row slot row rows)) rows
    (λ x one other. all-with_row (λ second. not (is_duplicate x.1 second.1)) slot row rows (ap not (duplicate_turned x.1 row) ∙ other) one) h new_ones in
    all-with_row (unlike_all (with_row slot row rows)) slot row rows (all-with_row (λ second. not (is_duplicate row second.1)) slot row rows (not_of_itself row) new_ones) old_ones

erased_apart : (todo : List Change) (rows : KeyRows) → AllByRecursion Erases todo → has_no_duplicates rows ≡ true → has_no_duplicates (changed todo rows) ≡ true
erased_apart todo rows e h = all_weaker (unlike_all rows) (unlike_all (changed todo rows)) (changed todo rows) (λ x one. all-erased (λ second. not (is_duplicate x.1 second.1)) todo rows e one) (all-erased (unlike_all rows) todo rows e h)

apart_move : (set : Setting) (p : Shared) (w : DiskWord) (after : KeyRows) → KeyMove set p w after → loads_no_duplicates w ≡ true → has_no_duplicates p.keys ≡ true → has_no_duplicates after ≡ true
apart_move set p w after (KeysStay e) loaded h = ap has_no_duplicates e ∙ h
apart_move set p w after (KeysLoaded rows at e) loaded h = ap has_no_duplicates e ∙ sym (ap loads_no_duplicates at) ∙ loaded
apart_move set p w after (KeysPut a r kek row slot in_work asked ready e) loaded h = ap has_no_duplicates e ∙ put_apart slot row p.keys ready.alone h
apart_move set p w after (KeysErased todo erases e) loaded h = ap has_no_duplicates e ∙ erased_apart todo p.keys erases h

pub apart_step : (set : Setting) (h : Flat) (s : Step) (w : DiskWord) → IsTrue (loads_no_duplicates w) → IsTrue (has_no_duplicates h.shared.keys) → IsTrue (has_no_duplicates (next set h s w).state.shared.keys)
apart_step set h s w = apart_move set h.shared w (next set h s w).state.shared.keys (key_moves set h s w)

apart_run : (set : Setting) (h : Flat) (acts : List Act) → list_all (λ (a : Act). loads_no_duplicates a.word) acts ≡ true → has_no_duplicates h.shared.keys ≡ true → has_no_duplicates (run_from set h acts).shared.keys ≡ true
apart_run set h [] e k = k
apart_run set h (a ∷ acts) e k =
    let parts = both (loads_no_duplicates a.word) (list_all (λ (b : Act). loads_no_duplicates b.word) acts) e in
    apart_run set (next set h a.step a.word).state acts parts.1 (apart_step set h a.step a.word parts.0 k)

pub apart_runs : (set : Setting) (start : Flat) (acts : List Act) → IsStart start → IsTrue (list_all (λ (a : Act). loads_no_duplicates a.word) acts) → IsTrue (has_no_duplicates (run_from set start acts).shared.keys)
apart_runs set start acts (inl e) loaded = apart_run set start acts loaded (subst (λ (h : Flat). has_no_duplicates h.shared.keys ≡ true) (sym e) refl)
apart_runs set start acts (inr e) loaded = apart_run set start acts loaded (subst (λ (h : Flat). has_no_duplicates h.shared.keys ≡ true) (sym e) refl)
