-- A store that reads as bad: the bytes that were read have a bad slot; and zero bytes have none.
use Rattle.disk_core.specs.DiskStates.{DiskState, EachImage, IsDiskState}
use Rattle.flat_machine.proofs.CalmWords.{calm_step}
use Rattle.flat_machine.proofs.ToldBytes.{both_told, told_three, told_to, with_told}
use Rattle.flat_machine.specs.Deeds.{IsCalm}
use Rattle.flat_machine.specs.DiskFacts.{TellsApart}
use Rattle.flat_machine.specs.DiskSteps.{Moved, OnDisk, ShowsKeys}
use Rattle.flat_machine.specs.Power.{Loading, Nothing, Plan, Replacing}
use Rattle.flat_machine.specs.State.{Shared}
use Rattle.flat_machine.specs.StoreHistory.{Layout}
use Rattle.key_record.specs.Records.{record_of, spelled}
use Rattle.key_table.specs.KeyRows.{KeyRows}
use Rattle.key_table.specs.StoredRows.{HasCells, bad_slot, rows_of}
use Rattle.nv_store.specs.Cells.{cell_of, place_of, selected}
use Rattle.pad_steps.specs.declared.steps.DiskWord.TheVariants as word
use Rattle.std.proofs.Common.{ap, arith, subst, sym, ◌∙◌}
use Rattle.std.proofs.lemmas.Bool.{false_from_ne_true}
use Rattle.std.proofs.lemmas.List.{drop-replicate, take-replicate}
use Rattle.std.specs.Prelude.{Bool, IfSome, List, None, Option, Some, [], false, is_none, is_some, refl, replicate, slice_range, take, true, ℕ, ◌+◌, ◌-◌, ◌<◌, ◌≡◌, ◌≤◌}

module _ (layout : Layout) where
  same_bytes : (calls : Plan) (slot : ℕ) (from bytes : List ℕ) → Moved layout calls (word.Bad slot) from bytes → bytes ≡ from
  same_bytes Nothing slot from bytes moved = moved
  same_bytes Loading slot from bytes moved = moved
  same_bytes (Replacing todo) slot from bytes moved = moved

  -- the store of some bytes of before has this bad slot
  abbrev pub ReadsBad : ℕ → DiskState → Type 0
  ReadsBad slot s = (bytes : List ℕ) × s.image bytes × (layout.bad_slot bytes ≡ Some slot)

  pub bad_bytes : (before after : Shared) (switch : Bool → Bool) (calls : Plan) (slot : ℕ) (s t : DiskState) → OnDisk layout before after switch calls (word.Bad slot) s t → IsDiskState t → IfSome s.content (λ _. ReadsBad slot s)
  bad_bytes before after switch calls slot s t on laws = told_to t.content s.content (ReadsBad slot s) (sym on.tells)
      (with_told t.content t.content (λ c. t.image c) _ (ReadsBad slot s) refl (λ c left both.
      let from = both.0 c left in
      (from.0, from.1, subst (λ (b : List ℕ). layout.bad_slot b ≡ Some slot) (same_bytes calls slot from.0 c from.2) (both.1.0 c left))) laws.told
      (told_three t.content _ _ _ on.moved on.read on.read))

pub bad_unloaded : (layout : Layout) (apart : TellsApart layout) (before after : Shared) (switch : Bool → Bool) (calls : Plan) (slot : ℕ) (s t : DiskState) → OnDisk layout before after switch calls (word.Bad slot) s t → IsDiskState t
    → EachImage s (ShowsKeys layout before) → IfSome s.content (λ _. before.loaded ≡ false)
bad_unloaded layout apart before after switch calls slot s t on laws shows = both_told s.content s.content (IsCalm before (word.Bad slot)) (IsCalm before (word.Bad slot)) (before.loaded ≡ false) refl
    (λ calm _. false_from_ne_true before.loaded calm) (calm_step layout apart before after switch calls (word.Bad slot) s t on laws shows) (calm_step layout apart before after switch calls (word.Bad slot) s t on laws shows)

-- zero bytes show no row

zero_range : (n a b : ℕ) → a ≤ b → b ≤ n → slice_range {X = ℕ} (replicate n 0) a b ≡ replicate (b - a) 0
zero_range n a b order fits = ap (λ (l : List ℕ). take (b - a) l) (drop-replicate a n 0) ∙ take-replicate (b - a) (n - a) 0 (omega arith)

zero_cell : (n slot : ℕ) → n ≡ 12352 → slot < 64 → cell_of (replicate n 0) slot ≡ replicate 96 0
zero_cell n slot size lt =
    let half : selected (replicate n 0) slot < 2 = omega arith in
    let at : ℕ = place_of slot (selected (replicate n 0) slot) in
    zero_range n at (at + 96) (omega arith) (omega arith) ∙ ap (λ (k : ℕ). replicate k 0) (let d : at + 96 - at ≡ 96 = omega arith in d)

none_bad : (o : Option ℕ) → true ≡ is_none o → o ≡ None
none_bad None e = refl
none_bad (Some slot) e = cc

module _ (reads : record_of (spelled None) ≡ Some None) (rows : (bytes : List ℕ) → HasCells bytes [] → rows_of bytes ≡ Some []) (bad : (bytes : List ℕ) → is_some (rows_of bytes) ≡ is_none (bad_slot bytes)) where
  pub zero_not_bad : (n : ℕ) → n ≡ 12352 → bad_slot (replicate n 0) ≡ None
  zero_not_bad n size = none_bad (bad_slot (replicate n 0))
      (sym (ap (λ (o : Option KeyRows). is_some o) (rows (replicate n 0) (λ slot lt. ap record_of (zero_cell n slot size lt) ∙ reads))) ∙ bad (replicate n 0))
