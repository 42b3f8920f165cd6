use Rattle.std.proofs.Common.{ap, arith, get_or, ◌*◌, ◌+◌, ◌∙◌}
use Rattle.std.proofs.lemmas.List.Elements.{All-get_or}
use Rattle.des_core.specs.Bits.{bits_of}
use Rattle.des_core.specs.Des.{preoutput}
use Rattle.des_core.specs.KeptKeys.{IsKept}
use Rattle.des_core.proofs.RoundLemmas.{after_rounds_end, first_round, two_rounds}
use Rattle.des_core.proofs.rounds.preoutputs.Goals as goal

pub loop-i-init : goal.loop-i-init
loop-i-init c =
    let keys = c.keys.inside.keys in
    record {
      first = first_round keys c.of.result _ c.of.ensures.left c.of.ensures.right;
      second = first_round keys c.of-2.result _ c.of-2.ensures.left c.of-2.ensures.right;
      third = first_round keys c.of-3.result _ c.of-3.ensures.left c.of-3.ensures.right;
    }

pub round-halves-requires : goal.round-halves-requires
round-halves-requires c =
    let sixteen = c.keys.invariant.sixteen in
    All-get_or IsKept c.keys.inside.keys (2 * c.loop-i.i) _ (omega (arith, sixteen)) c.keys.invariant.each

pub round-halves-requires-in-loop-i : goal.round-halves-requires-in-loop-i
round-halves-requires-in-loop-i c =
    let sixteen = c.keys.invariant.sixteen in
    All-get_or IsKept c.keys.inside.keys (2 * c.loop-i.i + 1) _ (omega (arith, sixteen)) c.keys.invariant.each

pub loop-i-preserved : goal.loop-i-preserved
loop-i-preserved c =
    let keys = c.keys.inside.keys in
    let sixteen = c.keys.invariant.sixteen in
    let l = c.loop-i in
    let one = c.round-halves in
    let two = c.round-halves-in-loop-i in
    record {
      first = two_rounds keys _ l.i l.halves.first one.result.first two.result.first (omega (arith, sixteen)) one.ensures.first two.ensures.first
          ∙ l.invariant.first;
      second = two_rounds keys _ l.i l.halves.second one.result.second two.result.second (omega (arith, sixteen)) one.ensures.second two.ensures.second
          ∙ l.invariant.second;
      third = two_rounds keys _ l.i l.halves.third one.result.third two.result.third (omega (arith, sixteen)) one.ensures.third two.ensures.third
          ∙ l.invariant.third;
    }

pub returns-clause-first : goal.returns-clause-first
returns-clause-first c =
    let l = c.loop-i in
    let sixteen = c.keys.invariant.sixteen in
    c.exchanged.ensures
    ∙ (after_rounds_end c.keys.inside.keys (2 * l.i) l.halves.first _ (omega (arith, sixteen)) l.invariant.first
    ∙ ap (λ keys. preoutput keys (bits_of 64 (get_or c.args.blocks 0 0))) c.keys.view_is)

pub returns-clause-second : goal.returns-clause-second
returns-clause-second c =
    let l = c.loop-i in
    let sixteen = c.keys.invariant.sixteen in
    c.exchanged-2.ensures
    ∙ (after_rounds_end c.keys.inside.keys (2 * l.i) l.halves.second _ (omega (arith, sixteen)) l.invariant.second
    ∙ ap (λ keys. preoutput keys (bits_of 64 (get_or c.args.blocks 1 0))) c.keys.view_is)

pub returns-clause-third : goal.returns-clause-third
returns-clause-third c =
    let l = c.loop-i in
    let sixteen = c.keys.invariant.sixteen in
    c.exchanged-3.ensures
    ∙ (after_rounds_end c.keys.inside.keys (2 * l.i) l.halves.third _ (omega (arith, sixteen)) l.invariant.third
    ∙ ap (λ keys. preoutput keys (bits_of 64 (get_or c.args.blocks 2 0))) c.keys.view_is)
