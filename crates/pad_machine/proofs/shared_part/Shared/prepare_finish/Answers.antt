use Rattle.pad_machine.proofs.FinishLemmas.{decided_finishes, not_reset}
use Rattle.pad_machine.proofs.PendingLemmas.{working_on}
use Rattle.pad_machine.specs.Stands.{Common, is_admitted, shared_of}
use Rattle.pad_steps.specs.declared.commands.Command.{Command}
use Rattle.request_queue.specs.Requests.{request_command, request_in_work}
use Rattle.request_queue.specs.declared.requests.Request.{Request}
use Rattle.std.proofs.Common.{ap, arith, refl, ◌∙◌}
use Rattle.std.specs.Option.{option_map}
use Rattle.std.specs.Prelude.{Option, length}
use Rattle.pad_machine.proofs.shared_part.Shared.prepare_finish.Goals.{in-Reset, in_default-matches}
use Rattle.pad_machine.proofs.shared_part.Shared.prepare_finish.Goals as goal

pub returns-then-matches-clause-ready : goal.returns-then-matches-clause-ready
returns-then-matches-clause-ready g c = record {
  state = refl;
  store = refl;
  items = c.in_ok-reserve.ensures.items;
  room = omega (arith, c.in_ok-reserve.ensures.room, c.max.ensures, c.pending_in_all.ensures, c.len.ensures.value, ap (λ (common : Common). length common.sessions) c.self.view_is);
  fits = record {
    at = c.in-Some.ensures.at;
    on = working_on (is_admitted g.W.PinWork.rules) (shared_of c.args.self.now) c.in-Some.owner c.requires.sound c.in-Some.ensures.owner;
    copy = c.in_ok-copy_of_rows.ensures;
  };
}

pub returns-clause-ready : goal.returns-clause-ready
returns-clause-ready g c = record {
  state = refl;
  store = refl;
  items = c.in_ok-reserve.ensures.items;
  room = omega (arith, c.in_ok-reserve.ensures.room, c.max.ensures, c.pending_in_all.ensures, c.len.ensures.value, ap (λ (common : Common). length common.sessions) c.self.view_is);
  fits = record {
    at = c.in-Some.ensures.at;
    on = working_on (is_admitted g.W.PinWork.rules) (shared_of c.args.self.now) c.in-Some.owner c.requires.sound c.in-Some.ensures.owner;
    command = c.in-Some-command_of.command.now;
    admitted = c.in-Some-command_of.ensures.admitted;
    reset = elim c.match-matches.branch [ in-Reset w ↦ (let yes = w.matches-is in let no = c.if-matches.false in cc) | in_default-matches w ↦ not_reset c.in-Some-command_of.command.now w.in_default-matches.not-Reset ];
    is = c.in_ok-work.ensures.work;
    same = c.in_ok-told.ensures.told;
  };
}

pub returns-clause-does : goal.returns-clause-does
returns-clause-does g c = λ seed digits word few. decided_finishes g.W.PinWork.rules seed (shared_of c.args.self.now) digits c.args.held c.in-Some.owner c.in-Some-command_of.command.now c.in_ok-work.work word
    (request_in_work c.args.self.now.requests) c.in-Some.ensures.owner
    (c.in-Some-command_of.ensures.command ∙ ap (λ (found : Option (Request Command)). option_map request_command found) c.in-Some.ensures.at.same)
    c.in_ok-work.ensures.work few
