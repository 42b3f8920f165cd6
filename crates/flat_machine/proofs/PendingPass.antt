-- A pending request has a command that passes where all pending ones do.
use Rattle.flat_machine.proofs.EntryCommands.{pass-request_in_work, pass_first}
use Rattle.flat_machine.proofs.PassLemmas.{and_left, and_right}
use Rattle.flat_machine.specs.Sound.{Sound, allowed, pending_pass}
use Rattle.flat_machine.specs.State.{Shared, is_off}
use Rattle.pad_steps.specs.declared.answers.Reply.{Reply}
use Rattle.pad_steps.specs.declared.commands.Command.{Command}
use Rattle.request_queue.specs.Requests.{pending_by_id, request_in_work}
use Rattle.request_queue.specs.declared.requests.Request.{Request}
use Rattle.request_queue.specs.declared.requests.RequestRow.{RequestRow}
use Rattle.request_queue.specs.declared.requests.RequestRow.TheVariants.{Gone, InWork, Waiting}
use Rattle.std.specs.Prelude.{Bool, IsTrue, List, Option, Some, [], false, if◌then◌else◌, not, true, ℕ, ◌==◌, ◌∷◌, ◌≡◌}
use Rattle.std.proofs.Common.{ap, sym, ◌∙◌}

same_request : (a b : Request Command) → Some a ≡ Some b → a ≡ b
same_request a b e = cc

first_passes : (t : Command → Bool) (b : Bool) (a found : Request Command) (rest : Option (Request Command)) → t a.command ≡ true → (rest ≡ Some found → t found.command ≡ true) → (if b then Some a else rest) ≡ Some found → t found.command ≡ true
first_passes t true a found rest passes later is = ap (λ (x : Request Command). t x.command) (sym (same_request a found is)) ∙ passes
first_passes t false a found rest passes later is = later is

found_passes : (t : Command → Bool) (id : ℕ) (rows : List (RequestRow Command Reply)) (found : Request Command) → pending_pass t rows ≡ true → pending_by_id id rows ≡ Some found → t found.command ≡ true
found_passes t id [] found pass is = cc
found_passes t id (Waiting a ∷ rows) found pass is =
    first_passes t (a.id == id) a found (pending_by_id id rows) (and_left (t a.command) (pending_pass t rows) pass) (found_passes t id rows found (and_right (t a.command) (pending_pass t rows) pass)) is
found_passes t id (InWork a ∷ rows) found pass is =
    first_passes t (a.id == id) a found (pending_by_id id rows) (and_left (t a.command) (pending_pass t rows) pass) (found_passes t id rows found (and_right (t a.command) (pending_pass t rows) pass)) is
found_passes t id (Gone gone session reply ∷ rows) found pass is = found_passes t id rows found pass is

pub pending_passes : (passes : Command → Bool) (shared : Shared) (id : ℕ) (request : Request Command) → Sound passes shared → pending_by_id id shared.requests ≡ Some request → IsTrue (passes request.command)
pending_passes passes shared id request sound is =
    pass_first (passes request.command) (not (is_off shared.device)) (found_passes (allowed passes shared.device) id shared.requests request sound is)

-- and so has the request in work
pub working_passes : (passes : Command → Bool) (shared : Shared) (request : Request Command) → Sound passes shared → request_in_work shared.requests ≡ Some request → IsTrue (passes request.command)
working_passes passes shared request sound is =
    pass_first (passes request.command) (not (is_off shared.device)) (pass-request_in_work (allowed passes shared.device) shared.requests request sound is)
