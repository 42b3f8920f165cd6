use Rattle.std.proofs.Common.{ap, ◌∙◌, map, reverse}
use Rattle.des_core.specs.Bits.{bits_of}
use Rattle.des_core.specs.Des.{round_keys}
use Rattle.des_core.proofs.RoundLemmas.{map-reverse}
use Rattle.des_core.proofs.cipher.Des.new.Goals as goal

pub invariant_of-result : goal.invariant_of-result
invariant_of-result c =
    let keys = c.round_keys-keys.ensures ∙ ap round_keys c.word_of.ensures in
    record {
      forward_is = c.new.ensures ∙ keys;
      backward_is = c.new-2.ensures
          ∙ (ap (map (bits_of 48)) c.reverse.ensures.after ∙ (map-reverse (bits_of 48) c.round_keys-keys.result ∙ ap reverse keys));
    }
