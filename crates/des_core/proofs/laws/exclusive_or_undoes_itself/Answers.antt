use Rattle.des_core.proofs.InverseLemmas.{exclusive_or-exclusive_or, length-exclusive_or}
use Rattle.des_core.proofs.laws.exclusive_or_undoes_itself.Goals as goal

pub returns-clause-long : goal.returns-clause-long
returns-clause-long c = length-exclusive_or

pub returns-clause-undone : goal.returns-clause-undone
returns-clause-undone c = exclusive_or-exclusive_or
