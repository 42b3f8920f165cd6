use Rattle.std.proofs.Common.{rules}
use Rattle.des_core.proofs.InverseLemmas.{des_back_bytes-des_bytes}
use Rattle.des_core.proofs.laws.decryption_undoes_encryption.Goals as goal

pub returns : goal.returns
returns c = des_back_bytes-des_bytes c.args.key.0 c.args.x.0 (search rules) (search rules)
