use Rattle.pad_live_core.proofs.StartLemmas.{some_popped}
use Rattle.pad_live_core.proofs.starts.pop_pass.Goals as goal

pub returns-clause-some : goal.returns-clause-some
returns-clause-some g c = some_popped c.args.desk.now.turn c.args.passes.now.items c.pop.new.self.items c.pop.result c.requires c.pop.ensures.items
