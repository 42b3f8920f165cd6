use Rattle.std.proofs.Common.{◌∙◌}
use Rattle.pad_desk.proofs.AnswerLemmas.{submit-told}
use Rattle.turnstile.specs.Turns.{view}
use Rattle.pad_desk.proofs.desk.Desk.submit.Goals as goal

pub submitted_in-requires : goal.submitted_in-requires
submitted_in-requires g c =
    let said = submit-told c.args.session g.W.PinWork.rules (view c.args.pass.now) (view c.call.new.pass) c.in-Ok.given.place c.args.limit c.args.command c.in-Ok.given.outcome c.in-Ok.ensures.entered in
    (said.0, c.items.ensures ∙ said.1)
