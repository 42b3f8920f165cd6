use Rattle.des_core.proofs.TripleLemmas.{tdea_bytes-injective}
use Rattle.des_core.proofs.laws.triple_encryption_tells_blocks_apart.Goals as goal

pub returns : goal.returns
returns c = tdea_bytes-injective
