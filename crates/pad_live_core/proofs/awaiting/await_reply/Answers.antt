use Rattle.std.proofs.Common.{Bool, subst}
use Rattle.std.specs.Prelude.{Ok}
use Rattle.turnstile.specs.Turns.{view}
use Rattle.pad_live_core.proofs.MoveLemmas.{on_err, polls_again, polls_last, refused_poll, replies}
use Rattle.pad_live_core.specs.Stops.{Asked}
use Rattle.pad_live_core.proofs.awaiting.await_reply.Goals as goal

pub returns-in_err-ask_once-clause-broken : goal.returns-in_err-ask_once-clause-broken
returns-in_err-ask_once-clause-broken g c = on_err _ c.from_residual.result (refused_poll g.W.PinWork.rules c.args.session c.args.id c.args.last.now c.loop.last _ (view c.loop.pass) _ c.loop.invariant.1 c.in_err-ask_once.ensures.asked)

pub returns-then-branch-clause-replied : goal.returns-then-branch-clause-replied
returns-then-branch-clause-replied g c = replies g.W.PinWork.rules c.args.session c.args.id c.args.last.now c.loop.last _ (view c.loop.pass) _ c.loop.invariant.1
    (subst (λ (b : Bool). Asked g.W.PinWork.rules c.args.session c.args.id (Ok b) (view c.loop.pass) (view c.ask_once.new.pass)) c.if-branch.true c.in_ok-ask_once.ensures.asked)

pub loop-preserved : goal.loop-preserved
loop-preserved g c = (
  c.in_ok-await_more.ensures.pass,
  polls_again g.W.PinWork.rules c.args.session c.args.id c.args.last.now c.loop.last c.await_more.new.last _ (view c.loop.pass) _ _ c.loop.invariant.1
      (subst (λ (b : Bool). Asked g.W.PinWork.rules c.args.session c.args.id (Ok b) (view c.loop.pass) (view c.ask_once.new.pass)) c.if-branch.false c.in_ok-ask_once.ensures.asked) c.in_ok-await_more.ensures.more,
)

pub returns-in_err-await_more-clause-broken : goal.returns-in_err-await_more-clause-broken
returns-in_err-await_more-clause-broken g c = on_err _ c.from_residual-in_err-await_more.result (polls_last g.W.PinWork.rules c.args.session c.args.id c.args.last.now c.loop.last c.await_more.new.last _ (view c.loop.pass) _ _ c.loop.invariant.1
    (subst (λ (b : Bool). Asked g.W.PinWork.rules c.args.session c.args.id (Ok b) (view c.loop.pass) (view c.ask_once.new.pass)) c.if-branch.false c.in_ok-ask_once.ensures.asked) c.in_err-await_more.ensures.stopped)
