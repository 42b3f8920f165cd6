use Rattle.std.proofs.Common.{ap, subst, sym, ◌∙◌}
use Rattle.std.specs.Prelude.{List, length, ◌*◌, ◌++◌, ◌+◌, ◌<◌, ◌≤◌, ℕ}
use Rattle.flat_machine.specs.Kept.{FitRunning, Kept, kept_next}
use Rattle.flat_machine.specs.KeyLayout.{key_layout}
use Rattle.flat_machine.specs.Machine.{next}
use Rattle.flat_machine.specs.Power.{word_fate}
use Rattle.flat_machine.specs.RequestFacts.{draws, work_left}
use Rattle.flat_machine.specs.State.{Flat}
use Rattle.pad_machine.proofs.StepLemmas.{kept_store, step-becomes, step-of_state, step-on_disk, step-planned, submits-admitted}
use Rattle.pad_machine.specs.Runs.{PadStepOnDisk}
use Rattle.pad_machine.specs.Stands.{IsPadState, IsSound, PadState, StandsFor, is_admitted, pad_state, set_by, set_of}
use Rattle.request_queue.specs.Requests.{gone_count}
use Rattle.pad_machine.proofs.pad.Pad.take_step.Goals as goal

pub perform-requires-clause-digits : goal.perform-requires-clause-digits
perform-requires-clause-digits g c = subst (λ (pad : PadState). FitRunning pad.kept) (sym c.in_ok-prepared.ensures.kept) c.self.invariant.digits

pub perform-requires-clause-drawn : goal.perform-requires-clause-drawn
perform-requires-clause-drawn g c = subst (λ (pad : PadState). pad.kept.shared.drawn ≤ 255 * gone_count pad.kept.shared.requests) (sym c.in_ok-prepared.ensures.kept) c.self.invariant.few

pub perform-requires-clause-kept : goal.perform-requires-clause-kept
perform-requires-clause-kept g c = kept_store c.prepare.new.self (pad_state c.self.inside.parts) (g.D.Disk.state c.args.disk.now) c.in_ok-prepared.ensures.kept c.self.invariant.ready (rw (sym c.self.view_is) at c.requires.tied)

pub invariant_of-self-2 : goal.invariant_of-self-2
invariant_of-self-2 g c =
    let old = c.args.self.now.kept in
    let set = set_of g.W.PinWork.rules old in
    let word = c.perform.result.word in
    let becomes = step-becomes g.W.PinWork.rules c.args.self.now.kept c.perform.new.self c.prepare.new.self c.args.out.now c.prepare.new.out c.perform.new.out c.in_ok-prepared.prepared
    c.args.step.now c.pressed_key.result c.perform.result.word c.without_key.result c.without_key.ensures.step c.in_ok-prepared.ensures.does c.pressed_key.ensures
    (ap (λ (pad : PadState). pad.kept) (c.in_ok-prepared.ensures.kept ∙ c.self.view_is)) c.in_ok-prepared.ensures.items c.perform.ensures.becomes in
    let holds = subst (IsPadState g.W.PinWork.rules) c.self.view_is c.self.invariant in
    record {
      digits = subst FitRunning (sym becomes.state) (c.digits_fit_their_entry.ensures set old c.args.step.now word holds.digits);
      sound = subst (λ (k : Kept). IsSound g.W.PinWork.rules k.shared) (sym becomes.state) (c.pending_stay_sound.ensures (is_admitted g.W.PinWork.rules) set old c.args.step.now word (submits-admitted g.W.PinWork.rules c.args.step.now c.requires.formed) holds.sound);
      ready = c.perform.ensures.device.kept.ready;
      few = subst (λ (k : Kept). k.shared.drawn ≤ 255 * gone_count k.shared.requests) (sym becomes.state) (c.few_words_are_drawn.ensures set old c.args.step.now word g.W.PinWork.few_words holds.few);
    }

pub returns-clause-step : goal.returns-clause-step
returns-clause-step g c =
    let rules = g.W.PinWork.rules in
    let old = c.args.self.now in
    let new = pad_state c.perform.new.self in
    let before = g.D.Disk.state c.args.disk.now in
    let after = g.D.Disk.state c.perform.new.disk in
    let word = c.perform.result.word in
    let becomes = step-becomes g.W.PinWork.rules c.args.self.now.kept c.perform.new.self c.prepare.new.self c.args.out.now c.prepare.new.out c.perform.new.out c.in_ok-prepared.prepared
    c.args.step.now c.pressed_key.result c.perform.result.word c.without_key.result c.without_key.ensures.step c.in_ok-prepared.ensures.does c.pressed_key.ensures
    (ap (λ (pad : PadState). pad.kept) (c.in_ok-prepared.ensures.kept ∙ c.self.view_is)) c.in_ok-prepared.ensures.items c.perform.ensures.becomes in
    let on_disk : PadStepOnDisk rules old new c.args.step.now word before after =
    step-on_disk rules old c.prepare.new.self c.perform.new.self c.in_ok-prepared.prepared c.args.step.now word before after
    (c.in_ok-prepared.ensures.kept ∙ c.self.view_is)
    (step-planned rules c.prepare.new.self c.in_ok-prepared.prepared c.args.step.now c.without_key.result c.without_key.ensures.step c.in_ok-prepared.ensures.planned)
    c.perform.ensures.device in
    let stood : (seed : List ℕ) (state : Flat) → StandsFor old seed state → StandsFor new seed (next (set_by rules seed) state c.args.step.now word).state =
    λ seed state stands. becomes.state
    ∙ ap (λ (k : Kept). (kept_next (set_of rules k) k c.args.step.now word).state) stands
    ∙ sym (c.kept_steps.ensures.state (set_by rules seed) seed state c.args.step.now word) in
    record {
      tied = c.perform.ensures.device.kept.tied;
      machine = λ seed state stands. record {
        stands = stood seed state stands;
        outs = becomes.outs
            ∙ ap (λ (k : Kept). c.args.out.now.items ++ (kept_next (set_of rules k) k c.args.step.now word).outs) stands
            ∙ ap (λ outs. c.args.out.now.items ++ outs) (sym (c.kept_steps.ensures.outs (set_by rules seed) seed state c.args.step.now word));
        fate = c.perform.ensures.fate
            ∙ ap (λ (pad : PadState). word_fate pad.kept.shared word) (c.in_ok-prepared.ensures.kept ∙ c.self.view_is)
            ∙ ap (λ (k : Kept). word_fate k.shared word) stands;
      };
      on_disk = on_disk;
      history = λ seed state stands acts first ran holds.
          let set = set_by rules seed in
          c.store_history_goes_on.ensures.step key_layout set state acts first (record { step = c.args.step.now; word = word }) c.args.disk.now c.perform.new.disk ran
          (step-of_state rules seed state (next set state c.args.step.now word).state old new c.args.step.now word before after stands (stood seed state stands) on_disk)
          holds;
      unwinding = λ seed state stands other twin alike twins same. c.unwinding.ensures (set_by rules seed) state other c.args.step.now twin word alike twins same;
      less = λ on due. subst (λ (k : Kept). work_left k.shared.requests < work_left old.kept.shared.requests) (sym becomes.state) (c.due_steps_come_to_an_end.ensures.less (set_of rules old.kept) old.kept c.args.step.now word on due);
      ids = subst (λ (k : Kept). length k.shared.requests ≤ length old.kept.shared.requests + draws c.args.step.now) (sym becomes.state) (c.due_steps_come_to_an_end.ensures.ids (set_of rules old.kept) old.kept c.args.step.now word);
    }

pub returns-clause-kept : goal.returns-clause-kept
returns-clause-kept g c =
    let becomes = step-becomes g.W.PinWork.rules c.args.self.now.kept c.perform.new.self c.prepare.new.self c.args.out.now c.prepare.new.out c.perform.new.out c.in_ok-prepared.prepared
    c.args.step.now c.pressed_key.result c.perform.result.word c.without_key.result c.without_key.ensures.step c.in_ok-prepared.ensures.does c.pressed_key.ensures
    (ap (λ (pad : PadState). pad.kept) (c.in_ok-prepared.ensures.kept ∙ c.self.view_is)) c.in_ok-prepared.ensures.items c.perform.ensures.becomes in
    record { state = becomes.state; outs = becomes.outs }
