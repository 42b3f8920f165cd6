use Rattle.std.proofs.Common.{ap, sym, ◌∙◌}
use Rattle.flat_machine.specs.State.{work_ends}
use Rattle.pad_machine.proofs.EndingLemmas.{no_work, work_over}
use Rattle.pad_machine.proofs.shared_part.Shared.end_requests.Goals.{else-had_work, then-had_work}
use Rattle.pad_machine.specs.Endings.{is_meant}
use Rattle.pad_machine.specs.Stands.{Common}
use Rattle.pad_steps.specs.declared.answers.Reply.TheVariants.{No}
use Rattle.pad_steps.specs.declared.answers.Reply.{Reply}
use Rattle.pad_steps.specs.declared.commands.Command.{Command}
use Rattle.request_queue.specs.Requests.{request_id, request_in_work}
use Rattle.request_queue.specs.declared.requests.RequestRow.{RequestRow}
use Rattle.std.specs.Option.{option_map}
use Rattle.std.specs.Prelude.{List}
use Rattle.pad_machine.proofs.shared_part.Shared.end_requests.Goals as goal

pub returns-clause-work : goal.returns-clause-work
returns-clause-work g c =
    let test = is_meant c.args.ending.now in
    elim c.if-had_work.branch [
      | then-had_work w ↦ w.result-is
          ∙ work_over test (No c.args.refusal.now) c.self.inside.requests.rows c.in_work.result c.in_work.ensures.request_in_work w.in_work-then-had_work.result w.is_none.result c.in_work.ensures.one
          (sym c.is_some-had_work.ensures ∙ w.if-had_work.true)
          (w.in_work-then-had_work.ensures.request_in_work ∙ ap (λ (rows : List (RequestRow Command Reply)). option_map request_id (request_in_work rows)) c.end_requests.ensures.requests)
          w.is_none.ensures
          ∙ ap (λ (common : Common). work_ends test (request_in_work common.requests)) c.self.view_is
      | else-had_work w ↦ w.result-is ∙ w.if-had_work.false
          ∙ no_work test (No c.args.refusal.now) c.self.inside.requests.rows c.in_work.result c.in_work.ensures.request_in_work (sym c.is_some-had_work.ensures ∙ w.if-had_work.false)
          ∙ ap (λ (common : Common). work_ends test (request_in_work common.requests)) c.self.view_is
    ]
