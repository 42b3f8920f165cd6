use Rattle.std.proofs.Common.{ap, arith, ◌∙◌}
use Rattle.des_core.specs.Bits.{bits_of}
use Rattle.des_core.specs.Exchanges.{exchanged}
use Rattle.des_core.proofs.ExchangeLemmas.{final_by_exchanges}
use Rattle.des_core.proofs.permutation.permute_finally.Goals as goal

pub returns : goal.returns
returns c =
    let bytes = c.exchange-bytes.ensures ∙ ap (exchanged 24 0xff00ff00) c.exchange-bits.ensures in
    let pairs = c.exchange-pairs.ensures ∙ ap (exchanged 30 0xcccccccc) bytes in
    let halves = c.exchange-halves.ensures ∙ ap (exchanged 48 0xffff) pairs in
    ap (bits_of 64) (c.exchange.ensures ∙ ap (exchanged 36 0x0f0f0f0f) halves) ∙ final_by_exchanges c.args.word (omega arith)
