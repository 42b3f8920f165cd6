use Rattle.std.proofs.Common.{ap, refl, ◌∙◌}
use Rattle.des_core.specs.Bits.{bits_of}
use Rattle.pad_words.specs.Bytes.{exclusive_or}
use Rattle.des_core.proofs.BitLemmas.{bits_of-xor}
use Rattle.des_core.proofs.rounds.Halves.round.Goals as goal

pub returns : goal.returns
returns c =
    let left = c.args.self.left in
    record {
      left = refl;
      right = bits_of-xor 32 left c.cipher_function.result ∙ ap (exclusive_or (bits_of 32 left)) c.cipher_function.ensures;
    }
