-- A step or a work without a device call leaves the disk, the rows and the device.
use Rattle.disk_core.specs.DiskStates.{Arming, DiskState, IsDiskState}
use Rattle.flat_machine.proofs.DeviceStays.{flat_with, leaves_kept_press, next_keeps}
use Rattle.flat_machine.proofs.ToldBytes.{each_where, told_always}
use Rattle.flat_machine.specs.DiskFacts.{IsKeptStore, KeepsDevice, KeepsStore, is_off_step, stays}
use Rattle.flat_machine.specs.DiskSteps.{DueTold, ReadBy, ShowsDoubt, ShowsKeys, armed_as}
use Rattle.flat_machine.specs.Kept.{Kept, kept_next}
use Rattle.flat_machine.specs.KeyLayout.{key_layout}
use Rattle.flat_machine.specs.Machine.{plan}
use Rattle.flat_machine.specs.Power.{Nothing}
use Rattle.flat_machine.specs.Settings.{Setting}
use Rattle.flat_machine.specs.State.{Shared, is_off, is_ready, running_entry}
use Rattle.flat_machine.specs.declared.types.Device.{Device}
use Rattle.key_table.specs.Changes.{Change}
use Rattle.key_table.specs.KeyRows.{KeyRows}
use Rattle.key_table.specs.KeyStores.{KeyStore}
use Rattle.key_table.specs.StoredRows.{rows_of}
use Rattle.pad_steps.specs.declared.steps.DiskWord.TheVariants as word
use Rattle.pad_steps.specs.declared.steps.Step.TheVariants as step
use Rattle.pad_steps.specs.declared.steps.Step.{Step}
use Rattle.std.proofs.Common.{ap, arith, subst, sym, ◌∙◌}
use Rattle.std.specs.Prelude.{IfSome, List, None, Option, Some, false, refl, true, ℕ, ◌-◌, ◌≡◌, ◌≤◌}

pub kept_keeps : (set : Setting) (kept : Kept) (s : Step) → plan set kept.shared s ≡ Nothing → (is_off_step s ≡ true → is_off kept.shared.device ≡ true) → KeepsDevice kept.shared (kept_next set kept s word.Quiet).state.shared
kept_keeps set kept (step.Open s) e off = next_keeps set (flat_with kept) (step.Open s) word.Quiet e off
kept_keeps set kept (step.Close s) e off = next_keeps set (flat_with kept) (step.Close s) word.Quiet e off
kept_keeps set kept (step.Listen s c) e off = next_keeps set (flat_with kept) (step.Listen s c) word.Quiet e off
kept_keeps set kept (step.Lock s) e off = next_keeps set (flat_with kept) (step.Lock s) word.Quiet e off
kept_keeps set kept (step.Unlock s) e off = next_keeps set (flat_with kept) (step.Unlock s) word.Quiet e off
kept_keeps set kept (step.Submit s limit c) e off = next_keeps set (flat_with kept) (step.Submit s limit c) word.Quiet e off
kept_keeps set kept (step.Cancel s id) e off = next_keeps set (flat_with kept) (step.Cancel s id) word.Quiet e off
kept_keeps set kept step.Begin e off = next_keeps set (flat_with kept) step.Begin word.Quiet e off
kept_keeps set kept step.Finish e off = next_keeps set (flat_with kept) step.Finish word.Quiet e off
kept_keeps set kept (step.Press k) e off = (leaves_kept_press set kept (running_entry kept.shared) k).device
kept_keeps set kept (step.Tick n) e off = next_keeps set (flat_with kept) (step.Tick n) word.Quiet e off
kept_keeps set kept (step.Ask s q) e off = next_keeps set (flat_with kept) (step.Ask s q) word.Quiet e off
kept_keeps set kept step.Off e off = next_keeps set (flat_with kept) step.Off word.Quiet e off
kept_keeps set kept step.Boot e off = next_keeps set (flat_with kept) step.Boot word.Quiet e off

-- what is armed is not struck where no call is made
pub due_quiet : (armed : Option (Option Arming)) → ((x : Arming) → armed ≡ Some (Some x) → 1 ≤ x.0) → DueTold Nothing armed word.Quiet armed
due_quiet None later = refl
due_quiet (Some None) later = (None, refl, (refl, refl))
due_quiet (Some (Some x)) later = (Some x, refl, record { beyond = omega (arith, later x refl); nearer = let none : x.0 ≡ x.0 - 0 = omega arith in ap (λ (k : ℕ). armed_as (Some (k, x.1))) none })

module _ (before after : Shared) (keeps : KeepsDevice before after) where
  pub shows_kept : (d : List ℕ) → ShowsKeys key_layout before d → ShowsKeys key_layout after d
  shows_kept d shows = λ loaded.
      subst (λ (o : Option Change). ShowsDoubt key_layout o after.keys d) (sym keeps.doubt) (subst (λ (l : KeyRows). ShowsDoubt key_layout before.doubt l d) (sym keeps.keys) (shows (sym keeps.loaded ∙ loaded)))

  ready_before : is_ready after.device ≡ true → is_ready before.device ≡ true
  ready_before ready = sym (ap (λ (d : Device). is_ready d) keeps.device) ∙ ready

  pub on_before : is_off after.device ≡ false → is_off before.device ≡ false
  on_before on = sym (ap (λ (d : Device). is_off d) keeps.device) ∙ on

  pub store_kept : (store : KeyStore) (d : DiskState) → IsKeptStore before store d → IsKeptStore after store d
  store_kept store d kept = record {
    keys = kept.keys ∙ sym keeps.keys;
    ready = record {
      loaded = λ ready. keeps.loaded ∙ kept.ready.loaded (ready_before ready);
      doubtless = λ ready. keeps.doubt ∙ kept.ready.doubtless (ready_before ready);
      settled = λ ready. kept.ready.settled (ready_before ready);
      shows = subst (λ (l : KeyRows). IfSome store.bytes (λ bytes. rows_of bytes ≡ Some l)) (sym keeps.keys) kept.ready.shows;
    };
    tied = record { on = λ on. kept.tied.on (on_before on); in_step = λ ready. kept.tied.in_step (ready_before ready) };
  }

  pub quiet_on_disk : (store : KeyStore) (d : DiskState) → IsDiskState d → IsKeptStore before store d → KeepsStore before after stays Nothing word.Quiet store d d
  quiet_on_disk store d laws kept = record {
    on_disk = record {
      fits = refl;
      faults = omega arith;
      cuts = omega arith;
      failed = λ e. absurd (let none : false ≡ true = e in cc);
      last = λ e. absurd (let none : false ≡ true = e in cc);
      cut = λ e. absurd (let none : false ≡ true = e in cc);
      off = refl;
      on = λ on. kept.tied.on (on_before on);
      tells = refl;
      due = due_quiet d.armed laws.armed;
      moved = told_always d.content _ (λ c left. (c, left, refl));
      read = told_always d.content ((c : List ℕ) → d.image c → ReadBy key_layout word.Quiet c) (λ c left. tt);
      stable = λ e. absurd (let none : false ≡ true = e in cc);
      shows = λ shows. each_where d.content (ShowsKeys key_layout before) (ShowsKeys key_layout after) d.image shows_kept shows;
    };
    kept = store_kept store d kept;
  }
