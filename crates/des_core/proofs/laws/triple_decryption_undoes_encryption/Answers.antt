use Rattle.std.proofs.Common.{rules}
use Rattle.des_core.proofs.TripleLemmas.{tdea_back_bytes-tdea_bytes}
use Rattle.des_core.proofs.laws.triple_decryption_undoes_encryption.Goals as goal

pub returns : goal.returns
returns c = tdea_back_bytes-tdea_bytes c.args.key.now c.args.x.0 (search rules) (search rules)
