use Rattle.key_table.proofs.PutLemmas.{find_row-gone, find_row-left}
use Rattle.key_table.proofs.laws.removed_name_is_gone.Goals as goal

pub returns-clause-gone : goal.returns-clause-gone
returns-clause-gone c = find_row-gone

pub returns-clause-others : goal.returns-clause-others
returns-clause-others c = find_row-left
