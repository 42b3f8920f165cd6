use Rattle.key_record.proofs.RowLemmas.{spelled-injective}
use Rattle.key_record.proofs.laws.each_row_has_its_record.Goals as goal

pub returns : goal.returns
returns c = spelled-injective
