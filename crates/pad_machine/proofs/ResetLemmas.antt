-- RESET, whose loading was not cut.
use Rattle.disk_core.specs.DiskStates.{DiskState}
use Rattle.flat_machine.specs.DiskFacts.{KeepsStore, stays}
use Rattle.flat_machine.specs.DiskSteps.{load_word}
use Rattle.flat_machine.specs.FinishSteps.{device_reply, resets}
use Rattle.flat_machine.specs.Kept.{Kept, kept_said}
use Rattle.flat_machine.specs.Power.{Loading, word_fate}
use Rattle.flat_machine.specs.State.{Said, Shared, dropping_pin, replies}
use Rattle.flat_machine.specs.declared.types.Owner.{Owner}
use Rattle.key_table.specs.KeyStores.{LoadsStore}
use Rattle.key_table.specs.declared.LoadFault.{LoadFault}
use Rattle.pad_machine.specs.Does.{Becomes}
use Rattle.pad_machine.specs.Replacing.{LoadedBy, after_loading}
use Rattle.pad_machine.specs.Stands.{Whole, kept_by, shared_of}
use Rattle.pad_steps.specs.Lines.{OutList}
use Rattle.pad_steps.specs.declared.steps.DiskWord.TheVariants as words
use Rattle.pad_steps.specs.declared.steps.DiskWord.{DiskWord}
use Rattle.std.proofs.Common.{ap, subst, sym}
use Rattle.std.specs.Prelude.{List, Result, [], false, refl, true, ℕ, ◌≡◌}

abbrev pub NotCut : DiskWord → Type 0
NotCut word = (count : ℕ) → word ≡ words.Cut count → ⊥

-- the shared part as RESET loads the store
abbrev pub cleared : Shared → Shared
cleared shared = record shared { part = []; maintain = false }

resets_as : (shared : Shared) (owner : Owner) (word : DiskWord) → NotCut word
    → resets owner word shared ≡ dropping_pin true (replies (after_loading (cleared shared) word) owner (device_reply (after_loading (cleared shared) word).device))
resets_as shared owner words.Quiet uncut = refl
resets_as shared owner words.Done uncut = refl
resets_as shared owner (words.Failed count) uncut = refl
resets_as shared owner (words.Cut count) uncut = absurd (uncut count refl)
resets_as shared owner (words.Loaded rows) uncut = refl
resets_as shared owner (words.Bad slot) uncut = refl

pub reset_becomes : (old new : Whole) (after : Shared) (held : List ℕ) (before told : OutList) (owner : Owner) (word : DiskWord) → NotCut word → after ≡ after_loading (cleared (shared_of old.common)) word → held ≡ []
    → Becomes new before told (kept_said (record { seed = old.seed; shared = after; digits = old.digits; held = held }) (replies after owner (device_reply after.device)))
    → Becomes new before told (kept_said (kept_by old) (resets owner word (shared_of old.common)))
reset_becomes old new after held before told owner word uncut is none does =
    subst (λ (effect : Said). Becomes new before told (kept_said (kept_by old) effect)) (sym (resets_as (shared_of old.common) owner word uncut))
    (subst (λ (p : Shared). Becomes new before told (kept_said (record { seed = old.seed; shared = p; digits = old.digits; held = [] }) (replies p owner (device_reply p.device)))) is
    (subst (λ (l : List ℕ). Becomes new before told (kept_said (record { seed = old.seed; shared = after; digits = old.digits; held = l }) (replies after owner (device_reply after.device)))) none does))

pub reset_keeps : (old new : Whole) (before told : OutList) (owner : Owner) (word : DiskWord) (s t : DiskState)
    → ((result : Result (Unit {0}) LoadFault) → LoadsStore result old.common.store new.common.store s t
    → KeepsStore (shared_of old.common) (resets owner (load_word result new.common.store.rows) (shared_of old.common)).shared stays Loading (load_word result new.common.store.rows) new.common.store s t)
    → LoadedBy word old.common.store new.common.store s t → Becomes new before told (kept_said (kept_by old) (resets owner word (shared_of old.common)))
    → KeepsStore (shared_of old.common) (shared_of new.common) stays Loading word new.common.store s t
reset_keeps old new before told owner word s t law loaded becomes =
    let worded : KeepsStore (shared_of old.common) (resets owner word (shared_of old.common)).shared stays Loading word new.common.store s t =
    subst (λ (d : DiskWord). KeepsStore (shared_of old.common) (resets owner d (shared_of old.common)).shared stays Loading d new.common.store s t) (sym loaded.is) (law loaded.result loaded.loads) in
    subst (λ (p : Shared). KeepsStore (shared_of old.common) p stays Loading word new.common.store s t) (sym (ap (λ (k : Kept). k.shared) becomes.state)) worded

-- the fate of a loading does not depend on what RESET clears
pub fate_cleared : (shared : Shared) (word : DiskWord) → word_fate (cleared shared) word ≡ word_fate shared word
fate_cleared shared words.Quiet = refl
fate_cleared shared words.Done = refl
fate_cleared shared (words.Failed count) = refl
fate_cleared shared (words.Cut count) = refl
fate_cleared shared (words.Loaded rows) = refl
fate_cleared shared (words.Bad slot) = refl
