use Rattle.pad_live_core.proofs.BoundLemmas.{bounded}
use Rattle.pad_live_core.proofs.bounds.live_histories_are_bounded.Goals as goal

pub returns : goal.returns
returns c = bounded (record {
  less = c.due_work_runs_out.ensures.less;
  more = c.due_work_runs_out.ensures.more;
  ids = c.due_work_runs_out.ensures.ids;
  told = c.status_tells_the_step_due.ensures;
  ended = c.status_tells_the_requests_ended.ensures;
})
