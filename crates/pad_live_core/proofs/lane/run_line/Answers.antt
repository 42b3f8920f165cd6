use Rattle.std.proofs.Common.{ap, subst, Bool, ◌∙◌}
use Rattle.turnstile.specs.Turns.{view}
use Rattle.pad_live_core.proofs.MoveLemmas.{ask_done, cancel_done, entry_done, err_map, ok_map, plain_done, reply_broken, reply_done, rest_broken}
use Rattle.pad_live_core.specs.LaneLines.{id_at, id_named}
use Rattle.pad_live_core.specs.Stops.{Went}
use Rattle.pad_live_core.proofs.lane.run_line.Goals as goal

pub returns-in-Plain-clause-done : goal.returns-in-Plain-clause-done
returns-in-Plain-clause-done g c = ok_map _ _ c.do_step.result (plain_done g.W.PinWork.rules c.args.ids.now.items c.args.last.now c.args.line.now c.in-Plain.step _ c.do_step.new.ids.items _ c.in-Plain.is) c.do_step.ensures.done

pub returns-in-Plain-clause-broken : goal.returns-in-Plain-clause-broken
returns-in-Plain-clause-broken g c = err_map _ _ c.do_step.result (rest_broken g.W.PinWork.rules c.args.ids.now.items c.args.last.now c.args.line.now _ _) c.do_step.ensures.rests

pub returns-in-Cancel-clause-done : goal.returns-in-Cancel-clause-done
returns-in-Cancel-clause-done g c = ok_map _ _ c.do_step-in-Cancel.result (cancel_done g.W.PinWork.rules c.args.ids.now.items c.args.last.now c.args.line.now c.in-Cancel.session c.in-Cancel.name c.id_named-id.result _ c.do_step-in-Cancel.new.ids.items _ c.in-Cancel.is (c.id_named-id.ensures ∙ ap (λ ids. id_named ids c.in-Cancel.name) c.as_slice.ensures.value)) c.do_step-in-Cancel.ensures.done

pub returns-in-Cancel-clause-broken : goal.returns-in-Cancel-clause-broken
returns-in-Cancel-clause-broken g c = err_map _ _ c.do_step-in-Cancel.result (rest_broken g.W.PinWork.rules c.args.ids.now.items c.args.last.now c.args.line.now _ _) c.do_step-in-Cancel.ensures.rests

pub returns-in-AskReply-clause-done : goal.returns-in-AskReply-clause-done
returns-in-AskReply-clause-done g c = ok_map _ _ c.do_step-in-AskReply.result (ask_done g.W.PinWork.rules c.args.ids.now.items c.args.last.now c.args.line.now c.in-AskReply.session c.in-AskReply.k c.id_at-id.result _ c.do_step-in-AskReply.new.ids.items _ c.in-AskReply.is (c.id_at-id.ensures ∙ ap (λ ids. id_at ids c.in-AskReply.k) c.as_slice-in-AskReply.ensures.value)) c.do_step-in-AskReply.ensures.done

pub returns-in-AskReply-clause-broken : goal.returns-in-AskReply-clause-broken
returns-in-AskReply-clause-broken g c = err_map _ _ c.do_step-in-AskReply.result (rest_broken g.W.PinWork.rules c.args.ids.now.items c.args.last.now c.args.line.now _ _) c.do_step-in-AskReply.ensures.rests

pub returns-then-await_entry-clause-done : goal.returns-then-await_entry-clause-done
returns-then-await_entry-clause-done g c = entry_done g.W.PinWork.rules c.args.ids.now.items c.args.last.now c.args.line.now _ _ c.in-AwaitEntry.is (subst (λ (b : Bool). Went g.W.PinWork.rules b (view c.args.pass.now) (view c.await_entry.new.pass)) c.if-await_entry.true c.await_entry.ensures.went)

pub returns-else-await_entry-clause-broken : goal.returns-else-await_entry-clause-broken
returns-else-await_entry-clause-broken g c = rest_broken g.W.PinWork.rules c.args.ids.now.items c.args.last.now c.args.line.now _ _ (subst (λ (b : Bool). Went g.W.PinWork.rules b (view c.args.pass.now) (view c.await_entry.new.pass)) c.if-await_entry.false c.await_entry.ensures.went)

pub returns-in-AwaitReply-clause-done : goal.returns-in-AwaitReply-clause-done
returns-in-AwaitReply-clause-done g c = ok_map _ _ c.await_reply.result (reply_done g.W.PinWork.rules c.args.ids.now.items c.args.last.now c.args.line.now c.in-AwaitReply.session c.in-AwaitReply.k c.id_at-id-in-AwaitReply.result _ c.await_reply.new.last _ c.in-AwaitReply.is (c.id_at-id-in-AwaitReply.ensures ∙ ap (λ ids. id_at ids c.in-AwaitReply.k) c.as_slice-in-AwaitReply.ensures.value)) c.await_reply.ensures.replied

pub returns-in-AwaitReply-clause-broken : goal.returns-in-AwaitReply-clause-broken
returns-in-AwaitReply-clause-broken g c = err_map _ _ c.await_reply.result (reply_broken g.W.PinWork.rules c.args.ids.now.items c.args.last.now c.args.line.now c.in-AwaitReply.session c.in-AwaitReply.k c.id_at-id-in-AwaitReply.result _ c.await_reply.new.last _ c.in-AwaitReply.is (c.id_at-id-in-AwaitReply.ensures ∙ ap (λ ids. id_at ids c.in-AwaitReply.k) c.as_slice-in-AwaitReply.ensures.value)) c.await_reply.ensures.broken
