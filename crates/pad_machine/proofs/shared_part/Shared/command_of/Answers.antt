use Rattle.std.proofs.Common.{ap, ◌∙◌}
use Rattle.std.specs.Option.{option_map}
use Rattle.pad_machine.proofs.AdmittedLemmas.{if_found-admitted}
use Rattle.pad_machine.specs.Stands.{Common, is_admitted, shared_of}
use Rattle.request_queue.specs.Requests.{pending_by_id, request_command}
use Rattle.pad_machine.proofs.shared_part.Shared.command_of.Goals as goal

pub returns-clause-command : goal.returns-clause-command
returns-clause-command g c = c.command.ensures ∙ ap (λ (common : Common). option_map request_command (pending_by_id c.args.id common.requests)) c.self.view_is

pub returns-clause-admitted : goal.returns-clause-admitted
returns-clause-admitted g c =
    if_found-admitted g.W.PinWork.rules (pending_by_id c.args.id c.args.self.now.requests) c.command.result
    (λ request. c.pending_commands_pass.ensures (is_admitted g.W.PinWork.rules) (shared_of c.args.self.now) c.args.id request c.requires.sound) (returns-clause-command g c)
