use Rattle.std.proofs.Common.{arith, sym, ◌∙◌, ◌≤◌}
use Rattle.std.specs.Prelude.{length}
use Rattle.request_queue.proofs.WalkLemmas.{walk-first, walk-grows, walk-misses, walk-over}
use Rattle.request_queue.proofs.lookups.due_from.Goals as goal

pub loop-init : goal.loop-init
loop-init g c = record {
  inside = λ h. (c.requires.head.found h).0;
  grows = λ h. h;
  miss = λ k n e lt. walk-first c.args.nodes.now c.args.places.now c.args.now c.args.head k n c.requires.head e lt;
}

pub loop-preserved : goal.loop-preserved
loop-preserved g c = record {
  inside = λ h. ((c.requires.links c.loop.at c.in-Some.node.now (sym c.in-Some.ensures)).found h).0;
  grows = λ h. walk-grows c.args.nodes.now c.args.places.now c.loop.at c.in-Some.node.now.all.next c.loop.counter c.in-Some.node.now (sym c.in-Some.ensures) (c.requires.links c.loop.at c.in-Some.node.now (sym c.in-Some.ensures)) c.loop.invariant.grows h;
  miss = λ k n e lt. walk-misses c.args.nodes.now c.args.places.now c.args.now c.loop.at c.in-Some.node.now.all.next c.in-Some.node.now (sym c.in-Some.ensures) (sym c.is_due_at.ensures ∙ c.if-is_due_at.false) (c.requires.links c.loop.at c.in-Some.node.now (sym c.in-Some.ensures)) c.loop.invariant.miss k n e lt;
}

pub returns : goal.returns
returns g c =
    let over : length c.args.places.now ≤ c.loop.counter = omega arith in
    walk-over c.args.nodes.now c.args.places.now c.args.now c.loop.at c.loop.counter c.loop.invariant.inside c.loop.invariant.grows c.loop.invariant.miss over
