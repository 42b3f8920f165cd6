use Rattle.std.proofs.Common.{◌*◌, ◌+◌}
use Rattle.pad_desk.proofs.tests.visitors.+fn-visit_on_threads-join+arg2+fn-visit_on_threads-join+arg3+visit_on_threads.Given as goal

abbrev pub decreases-visit_on_threads : goal.decreases-visit_on_threads
decreases-visit_on_threads g l = l.count * 2

abbrev pub decreases-join+arg2 : goal.decreases-join+arg2
decreases-join+arg2 g l = l.half * 2 + 1

abbrev pub decreases-join+arg3 : goal.decreases-join+arg3
decreases-join+arg3 g l = l.rest * 2 + 1
