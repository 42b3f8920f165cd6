use Rattle.std.proofs.Common.{take, ◌++◌, ◌≡◌}
use Rattle.cbc_mac.proofs.mac.Mac.feed_bytes.Given as goal

abbrev pub invariant-loop-byte : goal.invariant-loop-byte
invariant-loop-byte l = l.self ≡ record l.initial.self { message = l.initial.self.message ++ take l.byte-index l.bytes }
