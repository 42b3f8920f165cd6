use Rattle.device_lock.specs.LockLine.{holder_of}
use Rattle.flat_machine.specs.State.{is_off}
use Rattle.pad_machine.proofs.BeginLemmas.{begins_refused, begins_started}
use Rattle.pad_machine.specs.Stands.{shared_of}
use Rattle.pad_steps.specs.declared.commands.Command.{Command}
use Rattle.request_queue.specs.Requests.{eligible, request_command, request_in_work}
use Rattle.request_queue.specs.declared.requests.Request.{Request}
use Rattle.std.proofs.Common.{ap, ◌∙◌}
use Rattle.std.specs.Option.{option_map}
use Rattle.std.specs.Prelude.{Option}
use Rattle.pad_machine.proofs.shared_part.Shared.prepare_begin.Goals as goal

pub returns-in-Some-entry_refusal-clause-does : goal.returns-in-Some-entry_refusal-clause-does
returns-in-Some-entry_refusal-clause-does g c =
    let shared = shared_of c.args.self.now in
    λ held seed digits word few. begins_refused shared c.in-Some.owner c.in-Some-command_of.command.now c.in-Some-of.entry c.in-Some-entry_refusal.refusal
    (is_off shared.device) (request_in_work shared.requests) (eligible (holder_of shared.line) shared.requests)
    c.in-Some.ensures.owner
    (c.in-Some-command_of.ensures.command ∙ ap (λ (found : Option (Request Command)). option_map request_command found) c.in-Some.ensures.next.same)
    c.in-Some-of.ensures c.in-Some-entry_refusal.ensures

pub returns-in-None-clause-does : goal.returns-in-None-clause-does
returns-in-None-clause-does g c =
    let shared = shared_of c.args.self.now in
    λ held seed digits word few. begins_started shared c.in-Some.owner c.in-Some-command_of.command.now c.in-Some-of.entry c.kind.result
    (is_off shared.device) (request_in_work shared.requests) (eligible (holder_of shared.line) shared.requests)
    c.in-Some.ensures.owner
    (c.in-Some-command_of.ensures.command ∙ ap (λ (found : Option (Request Command)). option_map request_command found) c.in-Some.ensures.next.same)
    c.in-Some-of.ensures c.in-None.ensures c.kind.ensures
