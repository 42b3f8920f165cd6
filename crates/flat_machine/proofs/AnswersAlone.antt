-- Nothing in an out but a block or check that is answered depends on a held digit.
use Rattle.device_lock.specs.LockLine.{holds}
use Rattle.flat_machine.proofs.TwinRuns.{twin_next}
use Rattle.flat_machine.proofs.Unwinding.{masked_press}
use Rattle.flat_machine.specs.Commands.{work_of}
use Rattle.flat_machine.specs.Disclosure.{SayAlike, apart_from_answers, without_pin_answer}
use Rattle.flat_machine.specs.FinishSteps.{finish_with, performs}
use Rattle.flat_machine.specs.Machine.{is_masked, next, release}
use Rattle.flat_machine.specs.PinCommands.{pin_reply}
use Rattle.flat_machine.specs.Settings.{Setting}
use Rattle.flat_machine.specs.State.{Flat, Shared, owner_of}
use Rattle.flat_machine.specs.Twins.{Alike, TwinSteps}
use Rattle.flat_machine.specs.declared.types.Work.{Work}
use Rattle.flat_machine.specs.declared.types.Work.TheVariants as work
use Rattle.key_source.specs.declared.Key.{Key}
use Rattle.pad_steps.specs.declared.answers.Answer.TheVariants as answer
use Rattle.pad_steps.specs.declared.answers.Out.TheVariants as out
use Rattle.pad_steps.specs.declared.answers.Reply.{Reply}
use Rattle.pad_steps.specs.declared.answers.Reply.TheVariants as reply
use Rattle.pad_steps.specs.declared.commands.Command.{Command}
use Rattle.pad_steps.specs.declared.steps.DiskWord.{DiskWord}
use Rattle.pad_steps.specs.declared.steps.Step.{Step}
use Rattle.pad_steps.specs.declared.steps.Step.TheVariants as step
use Rattle.pin_blocks.specs.declared.work.PinAnswer.{PinAnswer}
use Rattle.pin_blocks.specs.declared.work.PinAnswer.TheVariants as pin_answers_of
use Rattle.request_queue.specs.Requests.{request_in_work}
use Rattle.request_queue.specs.declared.requests.Request.{Request}
use Rattle.std.proofs.Common.{ap, inl, inr, subst, sym, ◌∙◌}
use Rattle.std.specs.Prelude.{IsTrue, List, None, Option, Some, [], length, refl, ℕ, ◌∷◌, ◌≡◌, ◌⊎◌}

-- two states that are alike say the same, apart from the blocks and checks that are answered

hidden_pin_reply : (x : PinAnswer) → without_pin_answer (reply.Ok (pin_reply x)) ≡ reply.Ok answer.Done
hidden_pin_reply (pin_answers_of.Block block) = refl
hidden_pin_reply (pin_answers_of.Wide left right) = refl
hidden_pin_reply (pin_answers_of.Checked holds) = refl

module _ (set : Setting) (p : Shared) (hd gd : List ℕ) where
  hidden_performs : (a : Request Command) (v : Work) (w : DiskWord) → apart_from_answers (performs set p gd (owner_of a) v w).outs ≡ apart_from_answers (performs set p hd (owner_of a) v w).outs
  hidden_performs a work.Waits w = refl
  hidden_performs a (work.Refuse r accused) w = refl
  hidden_performs a (work.Answer x) w = refl
  hidden_performs a (work.Maintain on) w = refl
  hidden_performs a (work.Keep slot row x from_part) w = refl
  hidden_performs a (work.Erase slot) w = refl
  hidden_performs a work.EraseAll w = refl
  hidden_performs a (work.Release r first second draws) w = ap (λ (q : Reply). out.Ended a.session a.id q ∷ []) (hidden_pin_reply _ ∙ sym (hidden_pin_reply _))
  hidden_performs a work.Load w = refl

  hidden_finish : (o : Option (Request Command)) (w : DiskWord) → length gd ≡ length hd → apart_from_answers (finish_with set p gd o w).outs ≡ apart_from_answers (finish_with set p hd o w).outs
  hidden_finish None w few = refl
  hidden_finish (Some a) w few = ap (λ (n : ℕ). apart_from_answers (performs set p gd (owner_of a) (work_of set p n a.command) w).outs) few ∙ hidden_performs a (work_of set p (length hd) a.command) w

-- Finish alone may release
releases_alike : (set : Setting) (h g : Flat) (s : Step) → (s ≡ step.Finish) ⊎ (release set g s ≡ release set h s)
releases_alike set h g (step.Open s) = inr refl
releases_alike set h g (step.Close s) = inr refl
releases_alike set h g (step.Listen s c) = inr refl
releases_alike set h g (step.Lock s) = inr refl
releases_alike set h g (step.Unlock s) = inr refl
releases_alike set h g (step.Submit s limit c) = inr refl
releases_alike set h g (step.Cancel s id) = inr refl
releases_alike set h g step.Begin = inr refl
releases_alike set h g step.Finish = inl refl
releases_alike set h g (step.Press k) = inr refl
releases_alike set h g (step.Tick n) = inr refl
releases_alike set h g (step.Ask s q) = inr refl
releases_alike set h g step.Off = inr refl
releases_alike set h g step.Boot = inr refl

module _ (set : Setting) (h g : Flat) (w : DiskWord) (alike : Alike h g) where
  finishes_alike : apart_from_answers (next set g step.Finish w).outs ≡ apart_from_answers (next set h step.Finish w).outs
  finishes_alike = ap (λ (p : Shared). apart_from_answers (finish_with set p g.held (request_in_work p.requests) w).outs) alike.shared ∙ hidden_finish set h.shared h.held g.held (request_in_work h.shared.requests) w alike.held

  same_says : (s : Step) → (s ≡ step.Finish) ⊎ (release set g s ≡ release set h s) → SayAlike set h g s s w
  same_says s (inl finish) = subst (λ (u : Step). SayAlike set h g u u w) (sym finish) finishes_alike
  same_says s (inr same) = ap apart_from_answers (twin_next set h g s s w alike (inl refl) same).outs

  presses_say : (s t : Step) → IsTrue (is_masked h.shared s) → IsTrue (is_masked h.shared t) → (k : Key) × (s ≡ step.Press k) → (k : Key) × (t ≡ step.Press k) → SayAlike set h g s t w
  presses_say s t ms mt a b = ap apart_from_answers (twin_next set h g s t w alike (inr (ms, mt)) (ap (release set g) b.1 ∙ sym (ap (release set h) a.1))).outs

  pub twins_say : (s t : Step) → TwinSteps h.shared s t → SayAlike set h g s t w
  twins_say s t (inl same) = subst (λ (u : Step). SayAlike set h g s u w) same (same_says s (releases_alike set h g s))
  twins_say s t (inr both) = presses_say s t both.0 both.1 (masked_press h.shared s both.0) (masked_press h.shared t both.1)

pub say_alike : (set : Setting) (h g : Flat) (s t : Step) (w : DiskWord) → Alike h g → TwinSteps h.shared s t → SayAlike set h g s t w
say_alike set h g s t w alike twin = twins_say set h g w alike s t twin
