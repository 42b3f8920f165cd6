-- Once rows were loaded the machine knows it, in every state after.
use Rattle.flat_machine.proofs.DeviceStays.{is_still, leaves_next}
use Rattle.flat_machine.proofs.DeedLists.{or_cases}
use Rattle.flat_machine.proofs.LoadingSteps.{loaded_step}
use Rattle.flat_machine.specs.Commands.{work_of}
use Rattle.flat_machine.specs.Deeds.{Arms, Deed, FitsDeeds, Takes, after_deeds, loads_rows}
use Rattle.flat_machine.specs.DiskSteps.{is_loaded}
use Rattle.flat_machine.specs.FinishSteps.{deletes, finish_with, imports, inits, performs, resets}
use Rattle.flat_machine.specs.Machine.{fits, next}
use Rattle.flat_machine.specs.Power.{loads, powers_off, replaces}
use Rattle.flat_machine.specs.Settings.{Setting}
use Rattle.flat_machine.specs.State.{Flat, Said, Shared, is_off, owner_of, unchanged}
use Rattle.flat_machine.specs.declared.types.Owner.{Owner}
use Rattle.flat_machine.specs.declared.types.Work.TheVariants as work
use Rattle.flat_machine.specs.declared.types.Work.{Work}
use Rattle.key_table.specs.Changes.{Change, change_to, erasure, erasures}
use Rattle.key_table.specs.KeyRows.{KeyRows}
use Rattle.pad_steps.specs.declared.commands.Command.{Command}
use Rattle.pad_steps.specs.declared.steps.DiskWord.TheVariants as word
use Rattle.pad_steps.specs.declared.steps.DiskWord.{DiskWord}
use Rattle.pad_steps.specs.declared.steps.Step.TheVariants as step
use Rattle.pad_steps.specs.declared.steps.Step.{Step}
use Rattle.request_queue.specs.Requests.{request_in_work}
use Rattle.request_queue.specs.declared.requests.Request.{Request}
use Rattle.std.proofs.Common.{⊎_elim, ◌∙◌}
use Rattle.std.specs.Prelude.{Bool, IsTrue, List, None, Option, Some, [], cond, false, length, refl, true, ℕ, ◌∷◌, ◌≡◌}

-- rows were loaded
abbrev pub Known : Shared → Type 0
Known p = p.loaded ≡ true

-- a step leaves it so

module _ (p : Shared) (known : Known p) where
  known_if : (b : Bool) (x y : Said) → Known x.shared → Known y.shared → Known (cond b x y).shared
  known_if true x y one other = one
  known_if false x y one other = other

  known_loads : (w : DiskWord) → Known (loads p w).shared
  known_loads word.Quiet = known
  known_loads word.Done = known
  known_loads (word.Failed n) = known
  known_loads (word.Cut n) = known
  known_loads (word.Loaded rows) = refl
  known_loads (word.Bad slot) = known

  known_resets : (a : Owner) (w : DiskWord) → Known (resets a w p).shared
  known_resets a word.Quiet = known
  known_resets a word.Done = known
  known_resets a (word.Failed n) = known
  known_resets a (word.Cut n) = known
  known_resets a (word.Loaded rows) = refl
  known_resets a (word.Bad slot) = known

  known_replaces : (a : Owner) (todo : List Change) (done : Shared → Said) (w : DiskWord) → ((keys : KeyRows) → Known (done (record p { keys = keys })).shared) → Known (replaces p a todo done w).shared
  known_replaces a todo done word.Quiet d = d _
  known_replaces a todo done word.Done d = d _
  known_replaces a todo done (word.Failed n) d = known
  known_replaces a todo done (word.Cut n) d = known
  known_replaces a todo done (word.Loaded rows) d = d _
  known_replaces a todo done (word.Bad slot) d = d _

  known_performs : (set : Setting) (held : List ℕ) (a : Owner) (v : Work) (w : DiskWord) → Known (performs set p held a v w).shared
  known_performs set held a work.Waits w = known
  known_performs set held a (work.Refuse r accused) w = known
  known_performs set held a (work.Answer x) w = known
  known_performs set held a (work.Maintain on) w = known
  known_performs set held a (work.Keep slot row check from_part) w = known_replaces a (change_to (slot, row) ∷ []) (imports a check from_part) w (λ keys. known)
  known_performs set held a (work.Erase slot) w = known_replaces a (erasure slot ∷ []) (deletes a) w (λ keys. known)
  known_performs set held a work.EraseAll w = known_replaces a (erasures p.keys) (inits a) w (λ keys. known)
  known_performs set held a (work.Release r first second draws) w = known
  known_performs set held a work.Load w = known_resets a w

  known_finish : (set : Setting) (held : List ℕ) (o : Option (Request Command)) (w : DiskWord) → Known (finish_with set p held o w).shared
  known_finish set held None w = known
  known_finish set held (Some a) w = known_performs set held (owner_of a) (work_of set p (length held) a.command) w

known_still : (set : Setting) (h : Flat) (s : Step) (w : DiskWord) → Known h.shared → is_still s ≡ true → Known (next set h s w).state.shared
known_still set h s w known still = (leaves_next set h s w still).device.loaded ∙ known

known_next : (set : Setting) (h : Flat) (s : Step) (w : DiskWord) → Known h.shared → Known (next set h s w).state.shared
known_next set h (step.Open s) w known = known_still set h (step.Open s) w known refl
known_next set h (step.Close s) w known = known_still set h (step.Close s) w known refl
known_next set h (step.Listen s c) w known = known_still set h (step.Listen s c) w known refl
known_next set h (step.Lock s) w known = known_still set h (step.Lock s) w known refl
known_next set h (step.Unlock s) w known = known_still set h (step.Unlock s) w known refl
known_next set h (step.Submit s limit c) w known = known_still set h (step.Submit s limit c) w known refl
known_next set h (step.Cancel s id) w known = known_still set h (step.Cancel s id) w known refl
known_next set h step.Begin w known = known_still set h step.Begin w known refl
known_next set h step.Finish w known = known_finish h.shared known set h.held (request_in_work h.shared.requests) w
known_next set h (step.Press k) w known = known_still set h (step.Press k) w known refl
known_next set h (step.Tick n) w known = known_still set h (step.Tick n) w known refl
known_next set h (step.Ask s q) w known = known_still set h (step.Ask s q) w known refl
known_next set h step.Off w known = known_if h.shared known (is_off h.shared.device) (unchanged h.shared) (powers_off h.shared) known known
known_next set h step.Boot w known = known_if h.shared known (is_off h.shared.device) (loads h.shared w) (unchanged h.shared) (known_loads h.shared known w) known

-- a word that loads rows makes it so

loaded_word : (set : Setting) (h : Flat) (s : Step) (w : DiskWord) → IsTrue (fits set h.shared s w) → is_loaded w ≡ true → Known (next set h s w).state.shared
loaded_word set h s word.Quiet fit e = cc
loaded_word set h s word.Done fit e = cc
loaded_word set h s (word.Failed n) fit e = cc
loaded_word set h s (word.Cut n) fit e = cc
loaded_word set h s (word.Loaded rows) fit e = (loaded_step set h s rows fit).known
loaded_word set h s (word.Bad slot) fit e = cc

-- the same along a run

known_along : (set : Setting) (h : Flat) (deeds : List Deed) → Known h.shared → Known (after_deeds set h deeds).shared
known_along set h [] known = known
known_along set h (Takes a ∷ deeds) known = known_along set (next set h a.step a.word).state deeds (known_next set h a.step a.word known)
known_along set h (Arms c k ∷ deeds) known = known_along set h deeds known

pub loaded_along : (set : Setting) (h : Flat) (deeds : List Deed) → FitsDeeds set h deeds → IsTrue (loads_rows deeds) → Known (after_deeds set h deeds).shared
loaded_along set h [] fit loads = cc
loaded_along set h (Takes a ∷ deeds) fit loads = ⊎_elim
    (λ now. known_along set (next set h a.step a.word).state deeds (loaded_word set h a.step a.word fit.0 now))
    (λ later. loaded_along set (next set h a.step a.word).state deeds fit.1 later)
    (or_cases (is_loaded a.word) (loads_rows deeds) loads)
loaded_along set h (Arms c k ∷ deeds) fit loads = loaded_along set h deeds fit loads
