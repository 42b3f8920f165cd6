use Rattle.std.proofs.Common.{ap, arith, ◌∙◌}
use Rattle.std.proofs.lemmas.List.Elements.{All-get_or}
use Rattle.des_core.specs.Bits.{bits_of}
use Rattle.des_core.specs.Des.{preoutput}
use Rattle.des_core.specs.KeptKeys.{IsKept}
use Rattle.des_core.proofs.RoundLemmas.{after_rounds_end, first_round, round_step}
use Rattle.des_core.proofs.rounds.preoutput.Goals as goal

pub loop-key-init : goal.loop-key-init
loop-key-init c = first_round c.keys.inside.keys c.of-halves.result c.args.block c.of-halves.ensures.left c.of-halves.ensures.right

pub round-halves-requires : goal.round-halves-requires
round-halves-requires c =
    let sixteen = c.keys.invariant.sixteen in
    All-get_or IsKept c.keys.inside.keys c.loop-key.key-index _ (omega (arith, sixteen)) c.keys.invariant.each

pub loop-key-preserved : goal.loop-key-preserved
loop-key-preserved c =
    let l = c.loop-key in
    let sixteen = c.keys.invariant.sixteen in
    round_step c.keys.inside.keys _ l.key-index l.halves c.round-halves.result (omega (arith, sixteen)) c.round-halves.ensures ∙ l.invariant

pub returns : goal.returns
returns c =
    let l = c.loop-key in
    let sixteen = c.keys.invariant.sixteen in
    c.exchanged.ensures
    ∙ (after_rounds_end c.keys.inside.keys l.key-index l.halves _ (omega (arith, sixteen)) l.invariant
    ∙ ap (λ keys. preoutput keys (bits_of 64 c.args.block)) c.keys.view_is)
