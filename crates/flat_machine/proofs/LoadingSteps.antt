-- A word that loaded rows, where it fits, makes the device ready and the rows the machine's, which then knows that rows were loaded.
use Rattle.flat_machine.proofs.PowerLemmas.{plan_of_any_count}
use Rattle.flat_machine.specs.Commands.{work_of}
use Rattle.flat_machine.specs.FinishSteps.{finish_with, performs, plan_finish, plan_of}
use Rattle.flat_machine.specs.Machine.{fits, next}
use Rattle.flat_machine.specs.Power.{Loading, Nothing, Plan, fits_plan, loads}
use Rattle.flat_machine.specs.Settings.{Setting}
use Rattle.flat_machine.specs.State.{Flat, Shared, is_off, owner_of, unchanged}
use Rattle.flat_machine.specs.declared.types.Device.TheVariants.{Ready}
use Rattle.flat_machine.specs.declared.types.Work.TheVariants as work
use Rattle.flat_machine.specs.declared.types.Work.{Work}
use Rattle.key_table.specs.KeyRows.{KeyRows}
use Rattle.pad_steps.specs.declared.commands.Command.{Command}
use Rattle.pad_steps.specs.declared.steps.DiskWord.TheVariants as word
use Rattle.pad_steps.specs.declared.steps.Step.TheVariants as step
use Rattle.pad_steps.specs.declared.steps.Step.{Step}
use Rattle.request_queue.specs.Requests.{request_in_work}
use Rattle.request_queue.specs.declared.requests.Request.{Request}
use Rattle.std.proofs.Common.{ap, ◌∙◌}
use Rattle.std.specs.Prelude.{Bool, IsTrue, List, None, Option, Some, cond, false, length, refl, true, ℕ, ◌≡◌}

pub record LoadedIn (rows : KeyRows) (p : Shared) : Type 0 where
  pub ready : p.device ≡ Ready
  pub keys : p.keys ≡ rows
  pub known : p.loaded ≡ true

loaded_work : (set : Setting) (p : Shared) (held : List ℕ) (a : Request Command) (v : Work) (rows : KeyRows) → fits_plan (plan_of p v) (word.Loaded rows) ≡ true → LoadedIn rows (performs set p held (owner_of a) v (word.Loaded rows)).shared
loaded_work set p held a work.Waits rows f = cc
loaded_work set p held a (work.Refuse r accused) rows f = cc
loaded_work set p held a (work.Answer x) rows f = cc
loaded_work set p held a (work.Maintain on) rows f = cc
loaded_work set p held a (work.Keep slot row check from_part) rows f = cc
loaded_work set p held a (work.Erase slot) rows f = cc
loaded_work set p held a work.EraseAll rows f = cc
loaded_work set p held a (work.Release r first second draws) rows f = cc
loaded_work set p held a work.Load rows f = record { ready = refl; keys = refl; known = refl }

loaded_finish : (set : Setting) (p : Shared) (held : List ℕ) (o : Option (Request Command)) (rows : KeyRows) → fits_plan (plan_finish set p o) (word.Loaded rows) ≡ true → LoadedIn rows (finish_with set p held o (word.Loaded rows)).shared
loaded_finish set p held None rows f = cc
loaded_finish set p held (Some a) rows f = loaded_work set p held a (work_of set p (length held) a.command) rows (ap (λ (calls : Plan). fits_plan calls (word.Loaded rows)) (plan_of_any_count set p (length held) 0 a.command) ∙ f)

loaded_boot : (p : Shared) (rows : KeyRows) (b : Bool) → fits_plan (cond b Loading Nothing) (word.Loaded rows) ≡ true → LoadedIn rows (cond b (loads p (word.Loaded rows)) (unchanged p)).shared
loaded_boot p rows true f = record { ready = refl; keys = refl; known = refl }
loaded_boot p rows false f = cc

pub loaded_step : (set : Setting) (h : Flat) (s : Step) (rows : KeyRows) → IsTrue (fits set h.shared s (word.Loaded rows)) → LoadedIn rows (next set h s (word.Loaded rows)).state.shared
loaded_step set h (step.Open t) rows f = cc
loaded_step set h (step.Close t) rows f = cc
loaded_step set h (step.Listen t c) rows f = cc
loaded_step set h (step.Lock t) rows f = cc
loaded_step set h (step.Unlock t) rows f = cc
loaded_step set h (step.Submit t limit c) rows f = cc
loaded_step set h (step.Cancel t id) rows f = cc
loaded_step set h step.Begin rows f = cc
loaded_step set h step.Finish rows f = loaded_finish set h.shared h.held (request_in_work h.shared.requests) rows f
loaded_step set h (step.Press k) rows f = cc
loaded_step set h (step.Tick n) rows f = cc
loaded_step set h (step.Ask t q) rows f = cc
loaded_step set h step.Off rows f = cc
loaded_step set h step.Boot rows f = loaded_boot h.shared rows (is_off h.shared.device) f
