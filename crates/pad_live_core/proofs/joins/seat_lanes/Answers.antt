use Rattle.std.proofs.Common.{arith, sym, ◌∙◌}
use Rattle.pad_live_core.proofs.StartLemmas.{first_more, seats_next}
use Rattle.turnstile.specs.Turns.{view}
use Rattle.pad_live_core.proofs.joins.seat_lanes.Goals as goal

pub loop-i-preserved : goal.loop-i-preserved
loop-i-preserved g c = let was = c.loop-i.invariant in let old = c.loop-i.passes in let len = was.len in let room = was.room in let long = c.push_reserved.ensures.len in let cap = c.push_reserved.ensures.capacity in record {
  pass = c.seat.ensures.pass.0;
  first = first_more (view c.args.first.now).origin c.loop-i.i _ _ was.first c.seat.ensures.maker;
  seats = seats_next c.args.desk.now.turn (view c.args.first.now).origin c.loop-i.i old.items c.push_reserved.new.self.items c.seat.result _ was.seats c.seat.ensures.pass.1 was.first c.seat.ensures.made (sym old.ok.0 ∙ len) c.push_reserved.ensures.items;
  len = omega (arith, len, long);
  room = omega (arith, room, cap);
}
