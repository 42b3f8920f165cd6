use Rattle.std.proofs.Common.{rules}
use Rattle.des_core.proofs.ByteLemmas.{bits_of-from_be_bytes}
use Rattle.des_core.proofs.cipher.word_of.Goals as goal

pub returns : goal.returns
returns c = bits_of-from_be_bytes c.args.block.0 c.from_be_bytes.result (search rules) (search rules) c.from_be_bytes.ensures
