use Rattle.std.proofs.Common.{Bool, subst}
use Rattle.turnstile.specs.Turns.{view}
use Rattle.pad_live_core.proofs.MoveLemmas.{rest_goes, rest_rests, saw_entry}
use Rattle.pad_live_core.specs.Stops.{Went}
use Rattle.pad_live_core.proofs.awaiting.await_entry.Goals as goal

pub returns-then-shows_entry-clause-went : goal.returns-then-shows_entry-clause-went
returns-then-shows_entry-clause-went g c = rest_goes g.W.PinWork.rules _ (view c.loop.pass) _ c.loop.invariant.1 (subst (λ (b : Bool). Went g.W.PinWork.rules b (view c.loop.pass) (view c.shows_entry.new.pass)) c.if-shows_entry.true c.shows_entry.ensures.went)

pub loop-preserved : goal.loop-preserved
loop-preserved g c = (c.shows_entry.ensures.pass, rest_rests g.W.PinWork.rules _ (view c.loop.pass) _ c.loop.invariant.1 (subst (λ (b : Bool). Went g.W.PinWork.rules b (view c.loop.pass) (view c.shows_entry.new.pass)) c.if-shows_entry.false c.shows_entry.ensures.went))

pub returns-then-shows_entry-clause-noted : goal.returns-then-shows_entry-clause-noted
returns-then-shows_entry-clause-noted g c = saw_entry (view c.loop.pass) _ _ c.if-shows_entry.true c.shows_entry.ensures.noted
