use Rattle.std.proofs.Common.{ap, arith, length, ◌≡◌}
use Rattle.cbc_mac.specs.Macs.{Fed}
use Rattle.cbc_mac.proofs.MacLemmas.{kept_count}
use Rattle.cbc_mac.proofs.mac.Mac.count_to_whole.Goals as goal

pub returns-then-self-eq0-clause-whole : goal.returns-then-self-eq0-clause-whole
returns-then-self-eq0-clause-whole c =
    λ some.
    let s = c.self.inside in
    let none = c.if-self-eq0.true in
    let message : length s.message.bytes ≡ length c.args.self.now.message = ap (λ (fed : Fed). length fed.message) c.self.view_is in
    let held = kept_count s.left s.chained s.held s.message.bytes s.held_count c.self.invariant in
    omega (arith, message, held, none)

pub returns-else-self-eq0-clause-whole : goal.returns-else-self-eq0-clause-whole
returns-else-self-eq0-clause-whole c =
    λ fewer.
    let s = c.self.inside in
    let message : length s.message.bytes ≡ length c.args.self.now.message = ap (λ (fed : Fed). length fed.message) c.self.view_is in
    let held = kept_count s.left s.chained s.held s.message.bytes s.held_count c.self.invariant in
    let short = c.self.invariant.short in
    let least = c.min.ensures in
    omega (arith, message, held, short, least, fewer)
