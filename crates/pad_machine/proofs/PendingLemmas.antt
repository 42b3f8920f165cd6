-- No request is pending while the device is off.
use Rattle.flat_machine.specs.Machine.{due_in, next_work}
use Rattle.device_lock.specs.LockLine.{holder_of}
use Rattle.flat_machine.specs.Sound.{Sound, allowed, pending_pass}
use Rattle.flat_machine.specs.State.{Shared, is_off, owner_of}
use Rattle.flat_machine.specs.declared.types.Device.{Device}
use Rattle.flat_machine.specs.declared.types.Owner.{Owner}
use Rattle.pad_machine.proofs.AdmittedLemmas.{both_left, both_right}
use Rattle.pad_steps.specs.declared.answers.Reply.{Reply}
use Rattle.pad_steps.specs.declared.commands.Command.{Command}
use Rattle.pad_steps.specs.declared.steps.Step.{Step}
use Rattle.pad_words.specs.declared.numbers.Session.{Session}
use Rattle.request_queue.specs.Requests.{eligible, may_begin, request_in_work}
use Rattle.request_queue.specs.declared.requests.Request.{Request}
use Rattle.request_queue.specs.declared.requests.RequestRow.{RequestRow}
use Rattle.request_queue.specs.declared.requests.RequestRow.TheVariants.{Gone, InWork, Waiting}
use Rattle.std.proofs.Common.{ap, refl, sym, ◌∙◌}
use Rattle.std.proofs.lemmas.Option.{same_Some}
use Rattle.std.specs.Option.{option_map}
use Rattle.std.specs.Prelude.{Bool, IfSome, List, None, Option, Some, [], false, if◌then◌else◌, not, true, ◌∷◌, ◌≡◌}

module _ (passes : Command → Bool) where
  -- the request in work passes what all pending ones pass
  working_passes : (rows : List (RequestRow Command Reply)) (request : Request Command) → pending_pass passes rows ≡ true → request_in_work rows ≡ Some request → passes request.command ≡ true
  working_passes [] request sound is = cc
  working_passes (Waiting other ∷ rows) request sound is = working_passes rows request (both_right (passes other.command) (pending_pass passes rows) sound) is
  working_passes (InWork other ∷ rows) request sound is =
      ap (λ (r : Request Command). passes r.command) (sym (same_Some other request is)) ∙ both_left (passes other.command) (pending_pass passes rows) sound
  working_passes (Gone id session reply ∷ rows) request sound is = working_passes rows request sound is

  -- so does the one that comes into work next
  eligible_passes : (holder : Option Session) (rows : List (RequestRow Command Reply)) (request : Request Command) → pending_pass passes rows ≡ true → eligible holder rows ≡ Some request → passes request.command ≡ true
  eligible_passes holder [] request sound is = cc
  eligible_passes holder (Waiting other ∷ rows) request sound is =
      this_or_later (may_begin holder other) (eligible_passes holder rows request (both_right (passes other.command) (pending_pass passes rows) sound)) is
    where
      this_or_later : (b : Bool) → (eligible holder rows ≡ Some request → passes request.command ≡ true) → (if b then Some other else eligible holder rows) ≡ Some request → passes request.command ≡ true
      this_or_later true later this = ap (λ (r : Request Command). passes r.command) (sym (same_Some other request this)) ∙ both_left (passes other.command) (pending_pass passes rows) sound
      this_or_later false later this = later this
  eligible_passes holder (InWork other ∷ rows) request sound is = eligible_passes holder rows request (both_right (passes other.command) (pending_pass passes rows) sound) is
  eligible_passes holder (Gone id session reply ∷ rows) request sound is = eligible_passes holder rows request sound is

not_off : (passes : Command → Bool) (device : Device) (command : Command) → allowed passes device command ≡ true → is_off device ≡ false
not_off passes device command is = turned (is_off device) (both_right (passes command) (not (is_off device)) is)
  where
    turned : (b : Bool) → not b ≡ true → b ≡ false
    turned true e = cc
    turned false e = refl

with_owner : (found : Option (Request Command)) (owner : Owner) → Some owner ≡ option_map owner_of found → (request : Request Command) × (found ≡ Some request)
with_owner None owner is = cc
with_owner (Some request) owner is = (request, refl)

pub working_on : (passes : Command → Bool) (shared : Shared) (owner : Owner) → Sound passes shared → Some owner ≡ option_map owner_of (request_in_work shared.requests) → is_off shared.device ≡ false
working_on passes shared owner sound of =
    let found = with_owner (request_in_work shared.requests) owner of in
    not_off passes shared.device found.0.command (working_passes (allowed passes shared.device) shared.requests found.0 sound found.1)

-- nothing is due while the device is off
due_in_on : (off : Bool) (working next : Option (Request Command)) (step : Step) → ((request : Request Command) → working ≡ Some request → off ≡ false) → ((request : Request Command) → next ≡ Some request → off ≡ false)
    → Some step ≡ due_in working next → off ≡ false
due_in_on off (Some request) next step works waits due = works request refl
due_in_on off None (Some request) step works waits due = waits request refl
due_in_on off None None step works waits due = cc

due_on : (passes : Command → Bool) (shared : Shared) (step : Step) → Sound passes shared → Some step ≡ next_work shared → is_off shared.device ≡ false
due_on passes shared step sound due = due_in_on (is_off shared.device) (request_in_work shared.requests) (eligible (holder_of shared.line) shared.requests) step
    (λ request is. not_off passes shared.device request.command (working_passes (allowed passes shared.device) shared.requests request sound is))
    (λ request is. not_off passes shared.device request.command (eligible_passes (allowed passes shared.device) (holder_of shared.line) shared.requests request sound is)) due

pub if_due_on : (passes : Command → Bool) (shared : Shared) (due : Option Step) → Sound passes shared → due ≡ next_work shared → IfSome due (λ step. is_off shared.device ≡ false)
if_due_on passes shared None sound is = tt
if_due_on passes shared (Some step) sound is = due_on passes shared step sound is
