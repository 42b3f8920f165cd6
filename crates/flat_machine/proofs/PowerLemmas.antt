-- What Off and a cut leave.
use Rattle.flat_machine.specs.declared.types.Owner.{Owner}
use Rattle.flat_machine.specs.declared.types.Work.TheVariants as work
use Rattle.pad_steps.specs.declared.commands.PinRequest.{PinRequest}
use Rattle.flat_machine.proofs.WorkChains.{holds-unless_refused, pin-holds}
use Rattle.flat_machine.specs.declared.types.Work.{Work}
use Rattle.flat_machine.specs.Commands.{work_of}
use Rattle.flat_machine.specs.FinishSteps.{finish_with, performs, plan_finish, plan_of}
use Rattle.key_table.specs.Changes.{change_to, changed, erasure, erasures}
use Rattle.flat_machine.specs.Machine.{fits, next}
use Rattle.flat_machine.specs.PinFacts.{PoweredOff}
use Rattle.flat_machine.specs.Power.{Loading, Nothing, Plan, fits_plan, loads, powers_off}
use Rattle.request_queue.specs.Requests.{ended_where, pending_where, request_in_work}
use Rattle.flat_machine.specs.State.{Flat, Shared, Said, after_said, device_refusal, is_off, owner_of, unchanged}
use Rattle.flat_machine.specs.Settings.{Setting}
use Rattle.request_queue.specs.declared.requests.Request.{Request}
use Rattle.request_queue.specs.declared.requests.RequestRow.{RequestRow}
use Rattle.request_queue.specs.declared.requests.RequestRow.TheVariants.{Gone, InWork, Waiting}
use Rattle.pad_steps.specs.declared.answers.Refusal.{Refusal}
use Rattle.pad_steps.specs.declared.answers.Reply.{Reply}
use Rattle.pad_steps.specs.declared.commands.Command.{Command}
use Rattle.pad_steps.specs.declared.steps.DiskWord.{DiskWord}
use Rattle.pad_steps.specs.declared.steps.Step.{Step}
use Rattle.std.proofs.Common.{ap, arith, subst, sym, ◌∙◌}
use Rattle.std.proofs.lemmas.Bool.{ltb-true}
use Rattle.std.specs.Prelude.{Bool, IsTrue, List, None, Option, Some, cond, false, if◌then◌else◌, length, nat_lt, refl, slice_get, take, true, ℕ, [], ◌<◌, ◌∷◌, ◌≡◌}
use Rattle.pad_steps.specs.declared.answers.Refusal.TheVariants as refusal
use Rattle.pad_steps.specs.declared.answers.Reply.TheVariants as reply
use Rattle.pad_steps.specs.declared.commands.Command.TheVariants as command
use Rattle.pad_steps.specs.declared.steps.DiskWord.TheVariants as word
use Rattle.pad_steps.specs.declared.steps.Step.TheVariants as step

pending-all_ended : (r : Reply) (rows : List (RequestRow Command Reply)) → pending_where (λ (a : Request Command). true) (ended_where (λ (a : Request Command). true) r rows) ≡ []
pending-all_ended r [] = refl
pending-all_ended r (Waiting a ∷ rows) = pending-all_ended r rows
pending-all_ended r (InWork a ∷ rows) = pending-all_ended r rows
pending-all_ended r (Gone id s q ∷ rows) = pending-all_ended r rows

-- the effect is that of the power going
abbrev OffBy : Said → Type 0
OffBy x = (q : Shared) × (x ≡ powers_off q)

off_by : (h : Flat) (x : Said) → OffBy x → PoweredOff (after_said h x).state
off_by h x by = subst (λ (y : Said). PoweredOff (after_said h y).state) (sym by.1) (record { device = refl; pending = pending-all_ended (reply.No refusal.ConnectionLost) by.0.requests; held = refl; part = refl; maintain = refl })

none_below_zero : (n : ℕ) → nat_lt n 0 ≡ true → ⊥
none_below_zero n e = below n (ltb-true n 0 e)
  where
    below : (n : ℕ) → n < 0 → ⊥
    below n l = omega (arith, l)

-- a Finish that a cut strikes

cut_performs : (set : Setting) (p : Shared) (held : List ℕ) (a : Owner) (v : Work) (n : ℕ) → fits_plan (plan_of p v) (word.Cut n) ≡ true → OffBy (performs set p held a v (word.Cut n))
cut_performs set p held a work.Waits n e = absurd (none_below_zero n e)
cut_performs set p held a (work.Refuse r accused) n e = absurd (none_below_zero n e)
cut_performs set p held a (work.Answer x) n e = absurd (none_below_zero n e)
cut_performs set p held a (work.Maintain on) n e = absurd (none_below_zero n e)
cut_performs set p held a (work.Keep slot row x from_part) n e = (record p { keys = changed (take n (change_to (slot, row) ∷ [])) p.keys; doubt = slice_get (change_to (slot, row) ∷ []) n }, refl)
cut_performs set p held a (work.Erase slot) n e = (record p { keys = changed (take n (erasure slot ∷ [])) p.keys; doubt = slice_get (erasure slot ∷ []) n }, refl)
cut_performs set p held a work.EraseAll n e = (record p { keys = changed (take n (erasures p.keys)) p.keys; doubt = slice_get (erasures p.keys) n }, refl)
cut_performs set p held a (work.Release r first second draws) n e = absurd (none_below_zero n e)
cut_performs set p held a work.Load n e = (record p { part = []; maintain = false }, refl)

-- a PIN command calls no device, at whatever number of digits

plans_nothing : (set : Setting) (p : Shared) (n : ℕ) (r : PinRequest) → plan_of p (work_of set p n (command.Pin r)) ≡ Nothing
plans_nothing set p n r =
    let at : Work → Type 0 = λ v. plan_of p v ≡ Nothing in
    let refused : (why : Refusal) (accused : Option (List ℕ)) → at (work.Refuse why accused) = λ why accused. refl in
    holds-unless_refused at refused (device_refusal p.device) _ (pin-holds at refused set.pin_rules p.keys n r (λ first second draws keys is. refl))

pub plan_of_any_count : (set : Setting) (p : Shared) (n m : ℕ) (c : Command) → plan_of p (work_of set p n c) ≡ plan_of p (work_of set p m c)
plan_of_any_count set p n m (command.GetPin rules) = refl
plan_of_any_count set p n m (command.GetData rules) = refl
plan_of_any_count set p n m (command.SecureKeyEntry rules) = refl
plan_of_any_count set p n m (command.MaintainPin on) = refl
plan_of_any_count set p n m (command.Pin r) = plans_nothing set p n r ∙ sym (plans_nothing set p m r)
plan_of_any_count set p n m (command.Crypt r) = refl
plan_of_any_count set p n m (command.ImportKey r) = refl
plan_of_any_count set p n m (command.DeleteKey name) = refl
plan_of_any_count set p n m command.Init = refl
plan_of_any_count set p n m command.Reset = refl
plan_of_any_count set p n m command.RsaImport = refl

cut_finish : (set : Setting) (p : Shared) (held : List ℕ) (o : Option (Request Command)) (n : ℕ) → fits_plan (plan_finish set p o) (word.Cut n) ≡ true → OffBy (finish_with set p held o (word.Cut n))
cut_finish set p held None n e = absurd (none_below_zero n e)
cut_finish set p held (Some a) n e = cut_performs set p held (owner_of a) (work_of set p (length held) a.command) n (ap (λ (calls : Plan). fits_plan calls (word.Cut n)) (plan_of_any_count set p (length held) 0 a.command) ∙ e)

cut_boot : (b : Bool) (p : Shared) (n : ℕ) → fits_plan (if b then Loading else Nothing) (word.Cut n) ≡ true → OffBy (cond b (loads p (word.Cut n)) (unchanged p))
cut_boot true p n e = (p, refl)
cut_boot false p n e = absurd (none_below_zero n e)

pub cut_leaves : (set : Setting) (h : Flat) (s : Step) (n : ℕ) → IsTrue (fits set h.shared s (word.Cut n)) → PoweredOff (next set h s (word.Cut n)).state
cut_leaves set h (step.Open s) n e = absurd (none_below_zero n e)
cut_leaves set h (step.Close s) n e = absurd (none_below_zero n e)
cut_leaves set h (step.Listen s c) n e = absurd (none_below_zero n e)
cut_leaves set h (step.Lock s) n e = absurd (none_below_zero n e)
cut_leaves set h (step.Unlock s) n e = absurd (none_below_zero n e)
cut_leaves set h (step.Submit s limit c) n e = absurd (none_below_zero n e)
cut_leaves set h (step.Cancel s id) n e = absurd (none_below_zero n e)
cut_leaves set h step.Begin n e = absurd (none_below_zero n e)
cut_leaves set h step.Finish n e = off_by h _ (cut_finish set h.shared h.held (request_in_work h.shared.requests) n e)
cut_leaves set h (step.Press k) n e = absurd (none_below_zero n e)
cut_leaves set h (step.Tick m) n e = absurd (none_below_zero n e)
cut_leaves set h (step.Ask s q) n e = absurd (none_below_zero n e)
cut_leaves set h step.Off n e = absurd (none_below_zero n e)
cut_leaves set h step.Boot n e = off_by h _ (cut_boot (is_off h.shared.device) h.shared n e)

off_if : (b : Bool) (p : Shared) → b ≡ false → OffBy (cond b (unchanged p) (powers_off p))
off_if true p e = cc
off_if false p e = (p, refl)

pub off_leaves : (set : Setting) (h : Flat) (w : DiskWord) → is_off h.shared.device ≡ false → PoweredOff (next set h step.Off w).state
off_leaves set h w on = off_by h _ (off_if (is_off h.shared.device) h.shared on)
