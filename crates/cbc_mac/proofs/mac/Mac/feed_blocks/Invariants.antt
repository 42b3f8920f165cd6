use Rattle.std.proofs.Common.{take, ◌*◌, ◌++◌, ◌≡◌}
use Rattle.cbc_mac.proofs.mac.Mac.feed_blocks.Given as goal

abbrev pub invariant-loop-i : goal.invariant-loop-i
invariant-loop-i l = l.self ≡ record l.initial.self { message = l.initial.self.message ++ take (8 * l.i) l.bytes }
