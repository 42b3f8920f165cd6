use Rattle.cbc_mac.proofs.MacLemmas.{more_bytes}
use Rattle.cbc_mac.proofs.mac.Mac.feed_blocks.Goals as goal

pub loop-i-preserved : goal.loop-i-preserved
loop-i-preserved c =
    rw (c.feed_block.ensures, c.loop-i.invariant, c.block_at.ensures)
    (more_bytes c.args.self.now.kind c.args.self.now.key c.args.self.now.message c.args.bytes.now c.loop-i.i)
