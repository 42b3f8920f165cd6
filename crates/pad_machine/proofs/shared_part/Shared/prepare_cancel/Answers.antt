use Rattle.std.proofs.Common.{ap, rules}
use Rattle.std.specs.Prelude.{length, ℕ, ◌≡◌}
use Rattle.flat_machine.specs.RequestSteps.{is_canceled}
use Rattle.pad_machine.specs.Endings.{meant_in}
use Rattle.pad_machine.specs.Stands.{shared_of}
use Rattle.pad_machine.specs.declared.endings.Ending.TheVariants.{Named}
use Rattle.request_queue.specs.Requests.{pending_where}
use Rattle.session_book.specs.Sessions.{floor_of}
use Rattle.pad_machine.proofs.shared_part.Shared.prepare_cancel.Goals as goal

pub returns-in_err-reserve-2-clause-memory : goal.returns-in_err-reserve-2-clause-memory
returns-in_err-reserve-2-clause-memory g c =
    let value : c.in-Some.floor ≡ floor_of c.args.session c.args.self.now.sessions = search rules in
    let same : length (meant_in (Named c.args.session c.in-Some.floor c.args.id) c.args.self.now.requests) ≡ length (pending_where (is_canceled (shared_of c.args.self.now) c.args.session c.args.id) c.args.self.now.requests) =
    ap (λ (floor : ℕ). length (meant_in (Named c.args.session floor c.args.id) c.args.self.now.requests)) value in
    search rules
