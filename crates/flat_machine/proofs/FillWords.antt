-- Each step uses the fill words that it draws, and no others.
use Rattle.flat_machine.proofs.RequestRuns.{run_keeps}
use Rattle.flat_machine.proofs.SteadyWalk.{steady}
use Rattle.flat_machine.specs.Commands.{work_of}
use Rattle.flat_machine.specs.FinishSteps.{finish_with, performs, releases}
use Rattle.flat_machine.specs.Machine.{Act, next, run_from}
use Rattle.flat_machine.specs.PinCommands.{pin_reply}
use Rattle.flat_machine.specs.Settings.{Setting}
use Rattle.flat_machine.specs.State.{Flat, Shared, after_said, owner_of}
use Rattle.flat_machine.specs.declared.types.Owner.{Owner}
use Rattle.flat_machine.specs.declared.types.Work.{Work}
use Rattle.flat_machine.specs.declared.types.Work.TheVariants as work
use Rattle.request_queue.specs.Requests.{request_in_work}
use Rattle.request_queue.specs.declared.requests.Request.{Request}
use Rattle.pad_steps.specs.declared.commands.Command.{Command}
use Rattle.pad_steps.specs.declared.commands.Command.TheVariants as command
use Rattle.pad_steps.specs.declared.steps.DiskWord.{DiskWord}
use Rattle.pad_steps.specs.declared.steps.Step.{Step}
use Rattle.pad_steps.specs.declared.steps.Step.TheVariants as step
use Rattle.std.proofs.Common.{ap, arith, ◌∙◌}
use Rattle.std.specs.List.{range_with_len}
use Rattle.std.specs.Prelude.{List, None, Option, Some, length, map, refl, suc, zero, ℕ, ◌+◌, ◌<◌, ◌∷◌, ◌≡◌, ◌≤◌}

pub drawn_rises : (set : Setting) (h : Flat) (acts : List Act) → h.shared.drawn ≤ (run_from set h acts).shared.drawn
drawn_rises set h acts = run_keeps set (λ (g : Flat). h.shared.drawn ≤ g.shared.drawn) (λ g s w less. omega (arith, less, (steady set g s w).drawn)) h acts (omega arith)

same_words : (f g : ℕ → ℕ) (from count : ℕ) → ((n : ℕ) → from ≤ n → n < from + count → f n ≡ g n) → map f (range_with_len from count) ≡ map g (range_with_len from count)
same_words f g from zero agree = refl
same_words f g from (suc count) agree = two_words (f from) (g from) _ _ (agree from (omega arith) (omega arith)) (same_words f g (from + 1) count (λ n l u. agree n (omega (arith, l)) (omega (arith, u))))
  where
    two_words : (x y : ℕ) (xs ys : List ℕ) → x ≡ y → xs ≡ ys → x ∷ xs ≡ y ∷ ys
    two_words x y xs ys e f = rw (e, f) refl

module _ (set : Setting) (other : ℕ → ℕ) where
  abbrev changed_words : Setting
  changed_words = record set { fill_word = other }

  -- the two agree on the words that are drawn between these numbers
  abbrev Agree : ℕ → ℕ → Type 0
  Agree from end = (n : ℕ) → from ≤ n → n < end → other n ≡ set.fill_word n

  work_same : (p : Shared) (n : ℕ) (c : Command) → work_of changed_words p n c ≡ work_of set p n c
  work_same p n (command.GetPin rules) = refl
  work_same p n (command.GetData rules) = refl
  work_same p n (command.SecureKeyEntry rules) = refl
  work_same p n (command.MaintainPin on) = refl
  work_same p n (command.Pin r) = refl
  work_same p n (command.Crypt r) = refl
  work_same p n (command.ImportKey r) = refl
  work_same p n (command.DeleteKey name) = refl
  work_same p n command.Init = refl
  work_same p n command.Reset = refl
  work_same p n command.RsaImport = refl

  performs_same : (p : Shared) (held : List ℕ) (a : Owner) (v : Work) (w : DiskWord) → Agree p.drawn (performs set p held a v w).shared.drawn → performs changed_words p held a v w ≡ performs set p held a v w
  performs_same p held a work.Waits w agree = refl
  performs_same p held a (work.Refuse r accused) w agree = refl
  performs_same p held a (work.Answer x) w agree = refl
  performs_same p held a (work.Maintain on) w agree = refl
  performs_same p held a (work.Keep slot row x from_part) w agree = refl
  performs_same p held a (work.Erase slot) w agree = refl
  performs_same p held a work.EraseAll w agree = refl
  performs_same p held a (work.Release r first second draws) w agree = ap (λ (words : List ℕ). releases a draws (pin_reply (set.pin_rules.result r held first second words)) p) (same_words other set.fill_word p.drawn draws agree)
  performs_same p held a work.Load w agree = refl

  finish_same : (p : Shared) (held : List ℕ) (o : Option (Request Command)) (w : DiskWord) → Agree p.drawn (finish_with set p held o w).shared.drawn → finish_with changed_words p held o w ≡ finish_with set p held o w
  finish_same p held None w agree = refl
  finish_same p held (Some a) w agree =
      ap (λ (v : Work). performs changed_words p held (owner_of a) v w) (work_same p (length held) a.command) ∙ performs_same p held (owner_of a) (work_of set p (length held) a.command) w agree

pub own_words : (set : Setting) (other : ℕ → ℕ) (h : Flat) (s : Step) (w : DiskWord) → ((n : ℕ) → h.shared.drawn ≤ n → n < (next set h s w).state.shared.drawn → other n ≡ set.fill_word n) → next (record set { fill_word = other }) h s w ≡ next set h s w
own_words set other h (step.Open s) w agree = refl
own_words set other h (step.Close s) w agree = refl
own_words set other h (step.Listen s c) w agree = refl
own_words set other h (step.Lock s) w agree = refl
own_words set other h (step.Unlock s) w agree = refl
own_words set other h (step.Submit s limit c) w agree = refl
own_words set other h (step.Cancel s id) w agree = refl
own_words set other h step.Begin w agree = refl
own_words set other h step.Finish w agree = ap (after_said h) (finish_same set other h.shared h.held (request_in_work h.shared.requests) w agree)
own_words set other h (step.Press k) w agree = refl
own_words set other h (step.Tick n) w agree = refl
own_words set other h (step.Ask s q) w agree = refl
own_words set other h step.Off w agree = refl
own_words set other h step.Boot w agree = refl
