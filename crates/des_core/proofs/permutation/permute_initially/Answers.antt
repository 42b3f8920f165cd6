use Rattle.std.proofs.Common.{ap, arith, ◌∙◌}
use Rattle.des_core.specs.Bits.{bits_of}
use Rattle.des_core.specs.Exchanges.{exchanged}
use Rattle.des_core.proofs.ExchangeLemmas.{initial_by_exchanges}
use Rattle.des_core.proofs.permutation.permute_initially.Goals as goal

pub returns : goal.returns
returns c =
    let halves = c.exchange-halves.ensures ∙ ap (exchanged 48 0xffff) c.exchange-fours.ensures in
    let pairs = c.exchange-pairs.ensures ∙ ap (exchanged 30 0xcccccccc) halves in
    let bytes = c.exchange-bytes.ensures ∙ ap (exchanged 24 0xff00ff00) pairs in
    ap (bits_of 64) (c.exchange.ensures ∙ ap (exchanged 33 0x55555555) bytes) ∙ initial_by_exchanges c.args.word (omega arith)
