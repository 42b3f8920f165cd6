use Rattle.std.proofs.Common.{◌+◌, ap, rules, ◌∙◌}
use Rattle.cbc_mac.proofs.ModeLemmas.{replaced, three_replaced}
use Rattle.cbc_mac.proofs.blocks.put_three.Goals as goal

pub returns : goal.returns
returns c =
    let at = c.args.at in
    let blocks = c.args.blocks in
    let second = c.put_block-2.ensures ∙ ap (λ bytes. replaced bytes (at + 8) blocks.second.0 8) c.put_block.ensures in
    c.put_block-3.ensures ∙ (ap (λ bytes. replaced bytes (at + 16) blocks.third.0 8) second
    ∙ three_replaced c.args.bytes.now blocks.first.0 blocks.second.0 blocks.third.0 at c.requires (search rules) (search rules) (search rules))
