use Rattle.std.proofs.Common.{◌≡◌, ◌*◌, map}
use Rattle.des_core.specs.Bits.{bits_of}
use Rattle.des_core.specs.Des.{preoutput}
use Rattle.des_core.specs.KeptKeys.{key_bits}
use Rattle.des_core.proofs.RoundLemmas.{rest_of_rounds}
use Rattle.des_core.proofs.rounds.preoutputs.Given as goal

abbrev pub invariant-loop-i : goal.invariant-loop-i
invariant-loop-i l =
    let keys = l.keys-inside.keys in
    record {
      first : rest_of_rounds keys (2 * l.i) l.halves.first ≡ preoutput (map key_bits keys) (bits_of 64 l.first);
      second : rest_of_rounds keys (2 * l.i) l.halves.second ≡ preoutput (map key_bits keys) (bits_of 64 l.second);
      third : rest_of_rounds keys (2 * l.i) l.halves.third ≡ preoutput (map key_bits keys) (bits_of 64 l.third);
    }
