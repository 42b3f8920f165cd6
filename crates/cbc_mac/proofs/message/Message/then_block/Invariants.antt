use Rattle.std.proofs.Common.{take, ◌++◌, ◌≡◌}
use Rattle.cbc_mac.proofs.message.Message.then_block.Given as goal

abbrev pub invariant-loop-i : goal.invariant-loop-i
invariant-loop-i l = l.message.bytes ≡ l.fn.self.bytes ++ take l.i l.fn.block.0
