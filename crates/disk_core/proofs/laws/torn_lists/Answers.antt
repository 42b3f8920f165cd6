use Rattle.disk_core.proofs.SpliceLemmas.{TornWithin-outside, TornWithin-same, length-TornWithin}
use Rattle.disk_core.proofs.laws.torn_lists.Goals as goal

pub returns-clause-same : goal.returns-clause-same
returns-clause-same c = TornWithin-same

pub returns-clause-outside : goal.returns-clause-outside
returns-clause-outside c = TornWithin-outside

pub returns-clause-length : goal.returns-clause-length
returns-clause-length c = length-TornWithin
