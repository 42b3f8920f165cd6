use Rattle.std.proofs.Common.{rules}
use Rattle.des_core.proofs.InverseLemmas.{des_bytes-des_back_bytes}
use Rattle.des_core.proofs.laws.encryption_undoes_decryption.Goals as goal

pub returns : goal.returns
returns c = des_bytes-des_back_bytes c.args.key.0 c.args.x.0 (search rules) (search rules)
