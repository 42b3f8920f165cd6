-- No word of a desk's history says that the store reads as bad.
use Rattle.std.proofs.Common.{ap, refl, subst, sym, ◌∙◌}
use Rattle.std.specs.Prelude.{Bool, IfSome, IsTrue, List, None, Option, Some, [], false, is_some, true, ℕ, ◌++◌, ◌∷◌, ◌≡◌, ◌≢◌}
use Rattle.disk_core.specs.DiskStates.{DiskState, EachImage}
use Rattle.flat_machine.specs.Deeds.{Deed, FitsDeeds, after_deeds, loads_rows}
use Rattle.flat_machine.specs.DiskSteps.{ShowsKeys, StepOnDisk}
use Rattle.flat_machine.specs.KeyLayout.{key_layout}
use Rattle.flat_machine.specs.Machine.{Act, run, run_from}
use Rattle.flat_machine.specs.Settings.{Setting}
use Rattle.flat_machine.specs.State.{Flat, Shared, opening}
use Rattle.pad_desk.proofs.DiskLemmas.{Unloaded, both_told, history-on_disk}
use Rattle.pad_desk.proofs.HistoryLemmas.{acts_in-deeds_of}
use Rattle.pad_desk.specs.Histories.{DeskEntry, acts_of}
use Rattle.pad_desk.specs.Machines.{HasNoBadWord, HistoryOnDisk, StandsIn, deeds_of, zero_bytes}
use Rattle.pad_machine.specs.Stands.{PadState, set_by}
use Rattle.pad_steps.specs.declared.steps.DiskWord.TheVariants as words
use Rattle.pad_steps.specs.declared.steps.DiskWord.{DiskWord}
use Rattle.pad_steps.specs.declared.steps.Step.{Step}
use Rattle.pin_blocks.specs.PinRules.{PinRules}

-- what is so of the store in steps and runs on a disk
pub record StoreFacts {D : Type 0} (disk_state : D → DiskState) (pin_rules : PinRules) : Type 0 where
  pub zero : key_layout.bad_slot zero_bytes ≡ None
  pub unloaded : Unloaded disk_state pin_rules
  pub loaded : (set : Setting) (state : Flat) (deeds : List Deed) → FitsDeeds set state deeds → IsTrue (loads_rows deeds) → (after_deeds set state deeds).shared.loaded ≡ true
  pub bad : (set : Setting) (before after : Shared) (step : Step) (slot : ℕ) (s t : D) → StepOnDisk key_layout set before after step (words.Bad slot) (disk_state s) (disk_state t)
      → IfSome (disk_state s).content (λ _. (bytes : List ℕ) × (disk_state s).image bytes × (key_layout.bad_slot bytes ≡ Some slot))
  pub bad_unloaded : (set : Setting) (before after : Shared) (step : Step) (slot : ℕ) (s t : D) → StepOnDisk key_layout set before after step (words.Bad slot) (disk_state s) (disk_state t)
      → EachImage (disk_state s) (ShowsKeys key_layout before) → IfSome (disk_state s).content (λ _. before.loaded ≡ false)

-- one entry more
good-append : (history : List DeskEntry) (entry : DeskEntry) → HasNoBadWord history → ((slot : ℕ) → entry.outcome.word ≢ words.Bad slot) → HasNoBadWord (history ++ entry ∷ [])
good-append [] entry good last = (last, tt)
good-append (first ∷ rest) entry good last = (good.0, good-append rest entry good.1 last)

-- what leads to nothing where the one is there is not so where the other is, which is where the one is
not_told : {A : Type 0} (o p : Option A) (word : DiskWord) → is_some o ≡ is_some p → ((slot : ℕ) → word ≡ words.Bad slot → IfSome p (λ _. ⊥)) → IfSome o (λ _. (slot : ℕ) → word ≢ words.Bad slot)
not_told None p word same none = tt
not_told (Some x) None word same none = absurd cc
not_told (Some x) (Some y) word same none = none

module _ {D : Type 0} (disk_state : D → DiskState) (pin_rules : PinRules) (facts : StoreFacts disk_state pin_rules) (seed : List ℕ) (pad : PadState) (disk after : D) (history : List DeskEntry) (old : StandsIn disk_state pin_rules seed pad disk history)
    (next_shared : Shared) (step : Step) where
  abbrev set : Setting
  set = set_by pin_rules seed

  abbrev state : Flat
  state = run set (acts_of history)

  abbrev s : DiskState
  s = disk_state disk

  abbrev StepsWith : DiskWord → Type 0
  StepsWith word = StepOnDisk key_layout set state.shared next_shared step word s (disk_state after)

  on_disk : HistoryOnDisk set history s
  on_disk = history-on_disk disk_state pin_rules facts.unloaded seed pad disk history old

  bad-never : (slot : ℕ) → StepsWith (words.Bad slot) → (loads : Bool) → loads_rows (deeds_of history) ≡ loads → IfSome s.content (λ _. ⊥)
  bad-never slot on true loads =
      let known : state.shared.loaded ≡ true = ap (λ (acts : List Act). (run_from set opening acts).shared.loaded) (sym (acts_in-deeds_of history)) ∙ facts.loaded set opening (deeds_of history) old.on_disk.fits loads in
      let unknown = facts.bad_unloaded set state.shared next_shared step slot disk after on on_disk.shows in
      both_told s.content s.content refl unknown unknown (λ unloaded _. let no : true ≡ false = sym known ∙ unloaded in cc)
  bad-never slot on false loads = both_told s.content s.content refl (facts.bad set state.shared next_shared step slot disk after on) (on_disk.unread loads)
      (λ found zero. let no : None ≡ Some slot = sym facts.zero ∙ ap key_layout.bad_slot (sym (zero found.0 found.1)) ∙ found.2 in cc)

  pub good-more : (entry : DeskEntry) → StepsWith entry.outcome.word → IfSome (disk_state after).content (λ _. HasNoBadWord (history ++ entry ∷ []))
  good-more entry on = both_told (disk_state after).content s.content on.tells
      (not_told (disk_state after).content s.content entry.outcome.word on.tells (λ slot bad. bad-never slot (subst StepsWith bad on) (loads_rows (deeds_of history)) refl))
      old.good (λ last good. good-append history entry good last)
