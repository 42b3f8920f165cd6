use Rattle.key_table.proofs.PutLemmas.{is_table-emptied, is_table-put}
use Rattle.key_table.proofs.laws.changes_keep_a_table.Goals as goal

pub returns-clause-put : goal.returns-clause-put
returns-clause-put c = is_table-put

pub returns-clause-emptied : goal.returns-clause-emptied
returns-clause-emptied c = is_table-emptied
