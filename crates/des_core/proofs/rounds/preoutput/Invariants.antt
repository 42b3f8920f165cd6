use Rattle.std.proofs.Common.{◌≡◌, map}
use Rattle.des_core.specs.Bits.{bits_of}
use Rattle.des_core.specs.Des.{preoutput}
use Rattle.des_core.specs.KeptKeys.{key_bits}
use Rattle.des_core.proofs.RoundLemmas.{rest_of_rounds}
use Rattle.des_core.proofs.rounds.preoutput.Given as goal

abbrev pub invariant-loop-key : goal.invariant-loop-key
invariant-loop-key l = rest_of_rounds l.key-items l.key-index l.halves ≡ preoutput (map key_bits l.key-items) (bits_of 64 l.block)
