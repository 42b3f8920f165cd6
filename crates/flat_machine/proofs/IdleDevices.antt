-- A device that is not ready plans no replacement, and stays so until rows are loaded; and a replacement that is struck leaves it not ready.
use Rattle.flat_machine.proofs.DeviceStays.{is_still, leaves_next}
use Rattle.flat_machine.proofs.EntryCommands.{pass-request_in_work}
use Rattle.flat_machine.proofs.PowerLemmas.{plan_of_any_count}
use Rattle.flat_machine.specs.Arms.{is_struck}
use Rattle.flat_machine.specs.Commands.{erase, work_of}
use Rattle.flat_machine.specs.Decisions.{unless_refused}
use Rattle.flat_machine.specs.DiskFacts.{KeepsDevice}
use Rattle.flat_machine.specs.DiskRuns.{NonePendingOff}
use Rattle.flat_machine.specs.DiskSteps.{is_loaded, is_replacing}
use Rattle.flat_machine.specs.FinishSteps.{deletes, finish_with, imports, inits, performs, plan_finish, plan_of, resets}
use Rattle.flat_machine.specs.Crypts.{crypt_work}
use Rattle.flat_machine.specs.Imports.{import_work}
use Rattle.flat_machine.specs.PinCommands.{pin_work}
use Rattle.flat_machine.specs.Machine.{next, plan}
use Rattle.flat_machine.specs.Power.{Loading, Nothing, Plan, loads, powers_off, replaces}
use Rattle.flat_machine.specs.Settings.{Setting}
use Rattle.flat_machine.specs.Sound.{allowed}
use Rattle.flat_machine.specs.State.{Flat, Said, Shared, device_refusal, is_off, is_ready, owner_of, unchanged}
use Rattle.flat_machine.specs.declared.types.Device.TheVariants.{Bad, Off, Ready, Stopped}
use Rattle.flat_machine.specs.declared.types.Device.{Device}
use Rattle.flat_machine.specs.declared.types.Owner.{Owner}
use Rattle.flat_machine.specs.declared.types.Work.TheVariants as work
use Rattle.flat_machine.specs.declared.types.Work.{Work}
use Rattle.key_table.specs.Changes.{Change, change_to, erasure, erasures}
use Rattle.key_table.specs.KeyRows.{KeyRows, slot_of}
use Rattle.pad_steps.specs.declared.answers.Refusal.TheVariants as refusal
use Rattle.pad_steps.specs.declared.answers.Refusal.{Refusal}
use Rattle.pad_steps.specs.declared.commands.Command.TheVariants as command
use Rattle.pad_steps.specs.declared.commands.Command.{Command}
use Rattle.pad_steps.specs.declared.steps.DiskWord.TheVariants as word
use Rattle.pad_steps.specs.declared.steps.DiskWord.{DiskWord}
use Rattle.pad_steps.specs.declared.steps.Step.TheVariants as step
use Rattle.pad_steps.specs.declared.steps.Step.{Step}
use Rattle.request_queue.specs.Requests.{request_in_work}
use Rattle.request_queue.specs.declared.requests.Request.{Request}
use Rattle.std.proofs.Common.{ap, sym, ◌∙◌}
use Rattle.std.specs.Prelude.{Bool, List, None, Option, Some, [], cond, false, if◌then◌else◌, length, refl, true, ℕ, ◌∷◌, ◌≡◌}

-- the device is not ready
abbrev pub Idle : Shared → Type 0
Idle p = is_ready p.device ≡ false

idle_kept : (p x : Shared) → Idle p → KeepsDevice p x → Idle x
idle_kept p x idle keeps = ap (λ (d : Device). is_ready d) keeps.device ∙ idle

-- a step from a device that is not ready, whose word loads no rows

module _ (p : Shared) (idle : Idle p) where
  idle_if : (b : Bool) (x y : Said) → Idle x.shared → Idle y.shared → Idle (cond b x y).shared
  idle_if true x y one other = one
  idle_if false x y one other = other

  idle_loads : (w : DiskWord) → is_loaded w ≡ false → Idle (loads p w).shared
  idle_loads word.Quiet e = idle
  idle_loads word.Done e = idle
  idle_loads (word.Failed n) e = refl
  idle_loads (word.Cut n) e = refl
  idle_loads (word.Loaded rows) e = cc
  idle_loads (word.Bad slot) e = refl

  idle_resets : (a : Owner) (w : DiskWord) → is_loaded w ≡ false → Idle (resets a w p).shared
  idle_resets a word.Quiet e = idle
  idle_resets a word.Done e = idle
  idle_resets a (word.Failed n) e = refl
  idle_resets a (word.Cut n) e = refl
  idle_resets a (word.Loaded rows) e = cc
  idle_resets a (word.Bad slot) e = refl

  idle_replaces : (a : Owner) (todo : List Change) (done : Shared → Said) (w : DiskWord) → ((keys : KeyRows) → Idle (done (record p { keys = keys })).shared) → Idle (replaces p a todo done w).shared
  idle_replaces a todo done word.Quiet d = d _
  idle_replaces a todo done word.Done d = d _
  idle_replaces a todo done (word.Failed n) d = refl
  idle_replaces a todo done (word.Cut n) d = refl
  idle_replaces a todo done (word.Loaded rows) d = d _
  idle_replaces a todo done (word.Bad slot) d = d _

  idle_performs : (set : Setting) (held : List ℕ) (a : Owner) (v : Work) (w : DiskWord) → is_loaded w ≡ false → Idle (performs set p held a v w).shared
  idle_performs set held a work.Waits w e = idle
  idle_performs set held a (work.Refuse r accused) w e = idle
  idle_performs set held a (work.Answer x) w e = idle
  idle_performs set held a (work.Maintain on) w e = idle
  idle_performs set held a (work.Keep slot row check from_part) w e = idle_replaces a (change_to (slot, row) ∷ []) (imports a check from_part) w (λ keys. idle)
  idle_performs set held a (work.Erase slot) w e = idle_replaces a (erasure slot ∷ []) (deletes a) w (λ keys. idle)
  idle_performs set held a work.EraseAll w e = idle_replaces a (erasures p.keys) (inits a) w (λ keys. idle)
  idle_performs set held a (work.Release r first second draws) w e = idle
  idle_performs set held a work.Load w e = idle_resets a w e

  idle_finish : (set : Setting) (held : List ℕ) (o : Option (Request Command)) (w : DiskWord) → is_loaded w ≡ false → Idle (finish_with set p held o w).shared
  idle_finish set held None w e = idle
  idle_finish set held (Some a) w e = idle_performs set held (owner_of a) (work_of set p (length held) a.command) w e

idle_still : (set : Setting) (h : Flat) (s : Step) (w : DiskWord) → Idle h.shared → is_still s ≡ true → Idle (next set h s w).state.shared
idle_still set h s w idle still = idle_kept h.shared _ idle (leaves_next set h s w still).device

pub next_idle : (set : Setting) (h : Flat) (s : Step) (w : DiskWord) → Idle h.shared → is_loaded w ≡ false → Idle (next set h s w).state.shared
next_idle set h (step.Open s) w idle e = idle_still set h (step.Open s) w idle refl
next_idle set h (step.Close s) w idle e = idle_still set h (step.Close s) w idle refl
next_idle set h (step.Listen s c) w idle e = idle_still set h (step.Listen s c) w idle refl
next_idle set h (step.Lock s) w idle e = idle_still set h (step.Lock s) w idle refl
next_idle set h (step.Unlock s) w idle e = idle_still set h (step.Unlock s) w idle refl
next_idle set h (step.Submit s limit c) w idle e = idle_still set h (step.Submit s limit c) w idle refl
next_idle set h (step.Cancel s id) w idle e = idle_still set h (step.Cancel s id) w idle refl
next_idle set h step.Begin w idle e = idle_still set h step.Begin w idle refl
next_idle set h step.Finish w idle e = idle_finish h.shared idle set h.held (request_in_work h.shared.requests) w e
next_idle set h (step.Press k) w idle e = idle_still set h (step.Press k) w idle refl
next_idle set h (step.Tick n) w idle e = idle_still set h (step.Tick n) w idle refl
next_idle set h (step.Ask s q) w idle e = idle_still set h (step.Ask s q) w idle refl
next_idle set h step.Off w idle e = idle_if h.shared idle (is_off h.shared.device) (unchanged h.shared) (powers_off h.shared) idle refl
next_idle set h step.Boot w idle e = idle_if h.shared idle (is_off h.shared.device) (loads h.shared w) (unchanged h.shared) (idle_loads h.shared idle w e) idle

-- a step that replaces slots, and whose word is struck

struck_replaces : (p : Shared) (a : Owner) (todo : List Change) (done : Shared → Said) (w : DiskWord) → is_struck w ≡ true → Idle (replaces p a todo done w).shared
struck_replaces p a todo done word.Quiet e = cc
struck_replaces p a todo done word.Done e = cc
struck_replaces p a todo done (word.Failed n) e = refl
struck_replaces p a todo done (word.Cut n) e = refl
struck_replaces p a todo done (word.Loaded rows) e = cc
struck_replaces p a todo done (word.Bad slot) e = cc

struck_performs : (set : Setting) (p : Shared) (held : List ℕ) (a : Owner) (v : Work) (w : DiskWord) → is_replacing (plan_of p v) ≡ true → is_struck w ≡ true → Idle (performs set p held a v w).shared
struck_performs set p held a work.Waits w e struck = cc
struck_performs set p held a (work.Refuse r accused) w e struck = cc
struck_performs set p held a (work.Answer x) w e struck = cc
struck_performs set p held a (work.Maintain on) w e struck = cc
struck_performs set p held a (work.Keep slot row check from_part) w e struck = struck_replaces p a (change_to (slot, row) ∷ []) (imports a check from_part) w struck
struck_performs set p held a (work.Erase slot) w e struck = struck_replaces p a (erasure slot ∷ []) (deletes a) w struck
struck_performs set p held a work.EraseAll w e struck = struck_replaces p a (erasures p.keys) (inits a) w struck
struck_performs set p held a (work.Release r first second draws) w e struck = cc
struck_performs set p held a work.Load w e struck = cc

struck_finish : (set : Setting) (p : Shared) (held : List ℕ) (o : Option (Request Command)) (w : DiskWord) → is_replacing (plan_finish set p o) ≡ true → is_struck w ≡ true → Idle (finish_with set p held o w).shared
struck_finish set p held None w e struck = cc
struck_finish set p held (Some a) w e struck =
    struck_performs set p held (owner_of a) (work_of set p (length held) a.command) w (ap (λ (calls : Plan). is_replacing calls) (plan_of_any_count set p (length held) 0 a.command) ∙ e) struck

boot_plan : (b : Bool) → is_replacing (if b then Loading else Nothing) ≡ false
boot_plan true = refl
boot_plan false = refl

pub next_struck : (set : Setting) (h : Flat) (s : Step) (w : DiskWord) → is_replacing (plan set h.shared s) ≡ true → is_struck w ≡ true → Idle (next set h s w).state.shared
next_struck set h (step.Open s) w e struck = cc
next_struck set h (step.Close s) w e struck = cc
next_struck set h (step.Listen s c) w e struck = cc
next_struck set h (step.Lock s) w e struck = cc
next_struck set h (step.Unlock s) w e struck = cc
next_struck set h (step.Submit s limit c) w e struck = cc
next_struck set h (step.Cancel s id) w e struck = cc
next_struck set h step.Begin w e struck = cc
next_struck set h step.Finish w e struck = struck_finish set h.shared h.held (request_in_work h.shared.requests) w e struck
next_struck set h (step.Press k) w e struck = cc
next_struck set h (step.Tick n) w e struck = cc
next_struck set h (step.Ask s q) w e struck = cc
next_struck set h step.Off w e struck = cc
next_struck set h step.Boot w e struck = absurd (let none : false ≡ true = sym (boot_plan (is_off h.shared.device)) ∙ e in cc)

-- what a device that is not ready plans

refused_plan : (set : Setting) (p : Shared) (c : Command) (r : Refusal) → device_refusal p.device ≡ Some r → is_replacing (plan_of p (work_of set p 0 c)) ≡ false
refused_plan set p (command.GetPin rules) r e = refl
refused_plan set p (command.GetData rules) r e = refl
refused_plan set p (command.SecureKeyEntry rules) r e = refl
refused_plan set p (command.MaintainPin on) r e = ap (λ (o : Option Refusal). is_replacing (plan_of p (unless_refused o (work.Maintain on)))) e
refused_plan set p (command.Pin q) r e = ap (λ (o : Option Refusal). is_replacing (plan_of p (unless_refused o (pin_work set.pin_rules p.keys 0 q)))) e
refused_plan set p (command.Crypt q) r e = ap (λ (o : Option Refusal). is_replacing (plan_of p (unless_refused o (crypt_work set.cipher p.keys q)))) e
refused_plan set p (command.ImportKey q) r e = ap (λ (o : Option Refusal). is_replacing (plan_of p (unless_refused o (import_work set.cipher p.keys p.part q)))) e
refused_plan set p (command.DeleteKey name) r e = ap (λ (o : Option Refusal). is_replacing (plan_of p (unless_refused o (erase (slot_of name p.keys))))) e
refused_plan set p command.Init r e = ap (λ (o : Option Refusal). is_replacing (plan_of p (unless_refused o work.EraseAll))) e
refused_plan set p command.Reset r e = refl
refused_plan set p command.RsaImport r e = refl

refused_finish : (set : Setting) (p : Shared) (o : Option (Request Command)) (r : Refusal) → device_refusal p.device ≡ Some r → is_replacing (plan_finish set p o) ≡ false
refused_finish set p None r e = refl
refused_finish set p (Some a) r e = refused_plan set p a.command r e

off_finish : (set : Setting) (p : Shared) (o : Option (Request Command)) → NonePendingOff p → p.device ≡ Off → request_in_work p.requests ≡ o → is_replacing (plan_finish set p o) ≡ false
off_finish set p None sound off is = refl
off_finish set p (Some a) sound off is =
    let ok : allowed (λ (c : Command). true) p.device a.command ≡ true = pass-request_in_work (allowed (λ (c : Command). true) p.device) p.requests a sound is in
    absurd (let none : false ≡ true = sym (ap (λ (d : Device). allowed (λ (c : Command). true) d a.command) off) ∙ ok in cc)

idle_plan_finish : (set : Setting) (p : Shared) (d : Device) → p.device ≡ d → NonePendingOff p → Idle p → is_replacing (plan_finish set p (request_in_work p.requests)) ≡ false
idle_plan_finish set p Off is sound idle = off_finish set p (request_in_work p.requests) sound is refl
idle_plan_finish set p Ready is sound idle = absurd (let none : true ≡ false = sym (ap is_ready is) ∙ idle in cc)
idle_plan_finish set p Stopped is sound idle = refused_finish set p (request_in_work p.requests) refusal.HardwareError (ap device_refusal is)
idle_plan_finish set p (Bad slot) is sound idle = refused_finish set p (request_in_work p.requests) (refusal.BadStore slot) (ap device_refusal is)

pub idle_plan : (set : Setting) (p : Shared) (s : Step) → NonePendingOff p → Idle p → is_replacing (plan set p s) ≡ false
idle_plan set p (step.Open s) sound idle = refl
idle_plan set p (step.Close s) sound idle = refl
idle_plan set p (step.Listen s c) sound idle = refl
idle_plan set p (step.Lock s) sound idle = refl
idle_plan set p (step.Unlock s) sound idle = refl
idle_plan set p (step.Submit s limit c) sound idle = refl
idle_plan set p (step.Cancel s id) sound idle = refl
idle_plan set p step.Begin sound idle = refl
idle_plan set p step.Finish sound idle = idle_plan_finish set p p.device refl sound idle
idle_plan set p (step.Press k) sound idle = refl
idle_plan set p (step.Tick n) sound idle = refl
idle_plan set p (step.Ask s q) sound idle = refl
idle_plan set p step.Off sound idle = refl
idle_plan set p step.Boot sound idle = boot_plan (is_off p.device)
