use Rattle.std.proofs.Common.{◌∙◌}
use Rattle.pad_words.specs.Bytes.{exclusive_or}
use Rattle.des_core.proofs.RoundLemmas.{same_two}
use Rattle.des_core.proofs.PermutedLemmas.{block_of_permuted-exclusive_or}
use Rattle.des_core.proofs.permuted.PermutedBlock.exclusive_or.Goals as goal

pub returns : goal.returns
returns c = block_of_permuted-exclusive_or _ _ ∙ same_two exclusive_or c.self.view_is c.other.view_is
