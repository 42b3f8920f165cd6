use Rattle.entry_core.proofs.EndLemmas.{press_ends}
use Rattle.entry_core.proofs.laws.ends_with_enough.Goals as goal

pub returns : goal.returns
returns c = press_ends
