use Rattle.std.proofs.Common.{◌≡◌, ◌≤◌, ◌++◌, ◌+◌, take}
use Rattle.pad_machine.proofs.copies.say_copies.Given as goal

abbrev pub invariant-loop-item : goal.invariant-loop-item
invariant-loop-item l = record {
  said : l.second.items ≡ l.fn.second.items ++ take l.item-index l.fn.said;
  spare : l.fn.second.spare ≤ l.second.spare + l.item-index;
}
