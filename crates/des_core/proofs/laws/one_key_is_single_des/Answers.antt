use Rattle.des_core.proofs.TripleLemmas.{length-des_back_bytes, length-des_bytes, tdea_back_bytes-one_key, tdea_bytes-one_key}
use Rattle.des_core.proofs.laws.one_key_is_single_des.Goals as goal

pub returns-clause-encrypted : goal.returns-clause-encrypted
returns-clause-encrypted c = tdea_bytes-one_key

pub returns-clause-decrypted : goal.returns-clause-decrypted
returns-clause-decrypted c = tdea_back_bytes-one_key

pub returns-clause-eight : goal.returns-clause-eight
returns-clause-eight c = length-des_bytes

pub returns-clause-eight_back : goal.returns-clause-eight_back
returns-clause-eight_back c = length-des_back_bytes
