use Rattle.key_table.proofs.PutLemmas.{find_row-other, find_row-put}
use Rattle.key_table.proofs.laws.put_row_is_found.Goals as goal

pub returns-clause-found : goal.returns-clause-found
returns-clause-found c = find_row-put

pub returns-clause-others : goal.returns-clause-others
returns-clause-others c = find_row-other
