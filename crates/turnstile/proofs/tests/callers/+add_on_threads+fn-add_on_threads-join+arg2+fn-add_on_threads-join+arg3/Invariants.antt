use Rattle.std.proofs.Common.{◌+◌, ◌*◌}
use Rattle.turnstile.proofs.tests.callers.+add_on_threads+fn-add_on_threads-join+arg2+fn-add_on_threads-join+arg3.Given as goal

abbrev pub decreases-add_on_threads : goal.decreases-add_on_threads
decreases-add_on_threads g l = l.halvings * 2

abbrev pub decreases-join+arg2 : goal.decreases-join+arg2
decreases-join+arg2 g l = l.fewer * 2 + 1

abbrev pub decreases-join+arg3 : goal.decreases-join+arg3
decreases-join+arg3 g l = l.fewer * 2 + 1
