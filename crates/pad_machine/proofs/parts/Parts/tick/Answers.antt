use Rattle.std.proofs.Common.{ap, arith, ◌∙◌}
use Rattle.flat_machine.specs.State.{Shared}
use Rattle.pad_machine.proofs.EndingLemmas.{fewer_pass}
use Rattle.pad_machine.specs.Endings.{is_meant}
use Rattle.pad_machine.specs.Memory.{pending_in_all}
use Rattle.pad_machine.specs.Stands.{Whole}
use Rattle.pad_machine.specs.declared.endings.Ending.TheVariants.{Due}
use Rattle.std.specs.Prelude.{◌≡◌}
use Rattle.pad_machine.proofs.parts.Parts.tick.Goals as goal

pub end_requests-requires : goal.end_requests-requires
end_requests-requires g c =
    let same : pending_in_all c.set_clock.new.self.requests ≡ pending_in_all c.args.self.now.common.requests =
    ap (λ (p : Shared). pending_in_all p.requests) c.set_clock.ensures.state ∙ ap (λ (whole : Whole). pending_in_all whole.common.requests) c.self.view_is in
    record { room = omega (arith, same, fewer_pass (is_meant (Due c.args.clock)) c.set_clock.new.self.requests, c.requires.room) }
