use Rattle.std.proofs.Common.{arith, sym, ◌∙◌, ◌<◌}
use Rattle.request_queue.proofs.NodeLemmas.{prev-written}
use Rattle.request_queue.proofs.links.set_prev.Goals as goal

pub returns-in-Some-clause-set : goal.returns-in-Some-clause-set
returns-in-Some-clause-set g c =
    let pos : 0 < c.args.at = omega arith in
    (prev-written c.args.nodes.now c.write_prev.new.nodes c.args.places.now c.args.tails.now c.args.chain c.args.at c.args.value c.in-Some.key pos c.requires.tied (c.requires.inside pos) (sym c.key_of.ensures ∙ c.in-Some.is) c.write_prev.ensures.here c.write_prev.ensures.others).0

pub returns-in-Some-clause-tied : goal.returns-in-Some-clause-tied
returns-in-Some-clause-tied g c =
    let pos : 0 < c.args.at = omega arith in
    (prev-written c.args.nodes.now c.write_prev.new.nodes c.args.places.now c.args.tails.now c.args.chain c.args.at c.args.value c.in-Some.key pos c.requires.tied (c.requires.inside pos) (sym c.key_of.ensures ∙ c.in-Some.is) c.write_prev.ensures.here c.write_prev.ensures.others).1
