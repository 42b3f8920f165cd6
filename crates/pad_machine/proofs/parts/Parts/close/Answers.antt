use Rattle.std.proofs.Common.{ap, arith, ◌∙◌}
use Rattle.flat_machine.specs.State.{Shared}
use Rattle.pad_machine.specs.Endings.{meant_in}
use Rattle.pad_machine.specs.Stands.{Whole}
use Rattle.pad_machine.specs.declared.endings.Ending.TheVariants.{Of}
use Rattle.request_queue.specs.Requests.{pending_count}
use Rattle.std.specs.Prelude.{length, ◌≡◌}
use Rattle.pad_machine.proofs.parts.Parts.close.Goals as goal

pub say-requires : goal.say-requires
say-requires g c =
    let same : length (meant_in (Of c.args.session) c.close-next.new.self.requests) ≡ pending_count c.args.session c.args.self.now.common.requests =
    ap (λ (p : Shared). pending_count c.args.session p.requests) c.close-next.ensures.state ∙ ap (λ (whole : Whole). pending_count c.args.session whole.common.requests) c.self.view_is in
    omega (arith, same, c.end_requests.ensures.spare, c.requires.room)

pub grant-requires : goal.grant-requires
grant-requires g c =
    let same : length (meant_in (Of c.args.session) c.close-next.new.self.requests) ≡ pending_count c.args.session c.args.self.now.common.requests =
    ap (λ (p : Shared). pending_count c.args.session p.requests) c.close-next.ensures.state ∙ ap (λ (whole : Whole). pending_count c.args.session whole.common.requests) c.self.view_is in
    omega (arith, same, c.end_requests.ensures.spare, c.say.ensures.spare, c.requires.room)
