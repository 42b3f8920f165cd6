use Rattle.std.proofs.Common.{ap, length, rules, ◌%◌, ◌≡◌, ◌∙◌}
use Rattle.cbc_mac.specs.Macs.{Fed}
use Rattle.cbc_mac.proofs.MacLemmas.{block_fed}
use Rattle.cbc_mac.proofs.mac.Mac.feed_block.Goals as goal

pub invariant_of-self : goal.invariant_of-self
invariant_of-self c =
    let s = c.self.inside in
    let message : length s.message.bytes ≡ length c.args.self.now.message = ap (λ (fed : Fed). length fed.message) c.self.view_is in
    let whole : length s.message.bytes % 8 ≡ 0 = ap (λ n. n % 8) message ∙ c.requires in
    rw c.then_block-self-inside.ensures
    (block_fed s.left s.chained s.held s.message.bytes c.args.block.0 c.sealed-self-inside.result s.held_count whole (search rules)
    c.sealed-self-inside.ensures c.self.invariant)
