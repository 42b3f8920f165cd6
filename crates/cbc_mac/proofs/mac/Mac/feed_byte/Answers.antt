use Rattle.cbc_mac.proofs.MacLemmas.{byte_held, byte_completes}
use Rattle.cbc_mac.proofs.mac.Mac.feed_byte.Goals as goal
use Rattle.cbc_mac.proofs.mac.Mac.feed_byte.Goals.{then-self-eq8, else-self-eq8}

pub invariant_of-self : goal.invariant_of-self
invariant_of-self c =
    let s = c.self.inside in
    let byte = c.args.byte in
    elim c.if-self-eq8.branch [
      | then-self-eq8 w ↦
          rw (c.then-self-inside.ensures, w.self-inside-is)
          (byte_completes s.left s.chained s.held s.message.bytes w.sealed-self-inside.result s.held_count byte w.if-self-eq8.true
          w.sealed-self-inside.ensures c.self.invariant)
      | else-self-eq8 w ↦
          rw (c.then-self-inside.ensures, w.self-inside-is)
          (byte_held s.left s.chained s.held s.message.bytes s.held_count byte w.if-self-eq8.false c.self.invariant)
    ]
