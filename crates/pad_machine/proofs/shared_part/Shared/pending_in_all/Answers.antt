use Rattle.std.proofs.Common.{ap, arith, ◌∙◌}
use Rattle.pad_machine.specs.Memory.{pending_in_all}
use Rattle.pad_machine.specs.Stands.{Common}
use Rattle.std.specs.Prelude.{◌-◌, ◌≡◌}
use Rattle.pad_machine.proofs.shared_part.Shared.pending_in_all.Goals as goal

pub overflow_sub-result : goal.overflow_sub-result
overflow_sub-result g c = omega (arith, c.pending_or_ended.ensures c.self.inside.requests.rows, c.last_id.ensures.last, c.ended.ensures)

pub returns : goal.returns
returns g c =
    let inside : c.last_id.result - c.ended.result ≡ pending_in_all c.self.inside.requests.rows = omega (arith, c.pending_or_ended.ensures c.self.inside.requests.rows, c.last_id.ensures.last, c.ended.ensures) in
    inside ∙ ap (λ (common : Common). pending_in_all common.requests) c.self.view_is
