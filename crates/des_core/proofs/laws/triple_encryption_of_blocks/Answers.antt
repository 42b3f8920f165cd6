use Rattle.des_core.proofs.TripleLemmas.{IsBlock-tdea_bytes, block_back}
use Rattle.des_core.proofs.laws.triple_encryption_of_blocks.Goals as goal

pub returns-clause-gives_a_block : goal.returns-clause-gives_a_block
returns-clause-gives_a_block c = IsBlock-tdea_bytes

pub returns-clause-undone : goal.returns-clause-undone
returns-clause-undone c = block_back
