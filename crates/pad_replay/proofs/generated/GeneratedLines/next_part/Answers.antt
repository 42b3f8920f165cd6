use Rattle.std.proofs.Common.{arith, ◌<◌}
use Rattle.pad_replay.proofs.GeneratedLemmas.{next-none, next-round}
use Rattle.pad_replay.proofs.generated.GeneratedLines.next_part.Goals as goal

pub returns-clause-lines : goal.returns-clause-lines
returns-clause-lines c = let some : 0 < c.args.self.now.left = omega (arith, c.if-self-eq0.false) in next-round c.args.self.now c.requires.over c.if-is_before_cut.ensures.none some

pub returns-then-self-eq0-clause-over : goal.returns-then-self-eq0-clause-over
returns-then-self-eq0-clause-over c = λ none. next-none c.args.self.now c.requires.over c.if-is_before_cut.ensures.none c.if-self-eq0.true
