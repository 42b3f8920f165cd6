use Rattle.pad_live_core.proofs.MoveLemmas.{went}
use Rattle.pad_live_core.proofs.asking.shows_entry.Goals as goal

pub returns-clause-went : goal.returns-clause-went
returns-clause-went g c = went g.W.PinWork.rules c.glance-glance.result.length c.glance-glance.result.status _ _ _ c.entry_runs_at.ensures c.glance-glance.ensures.note c.glance-glance.ensures.seen c.glance-glance.ensures.notes
