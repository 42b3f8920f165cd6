-- A Finish says the same in two states that are alike.
use Rattle.flat_machine.specs.declared.types.Owner.{Owner}
use Rattle.flat_machine.specs.Commands.{work_of}
use Rattle.flat_machine.specs.FinishSteps.{finish_with, performs, release_with, released, releases}
use Rattle.flat_machine.specs.State.{Shared, owner_of}
use Rattle.flat_machine.specs.Settings.{Setting}
use Rattle.request_queue.specs.declared.requests.Request.{Request}
use Rattle.flat_machine.specs.declared.types.Work.{Work}
use Rattle.flat_machine.specs.declared.types.Work.TheVariants as work
use Rattle.pad_steps.specs.declared.answers.Answer.{Answer}
use Rattle.pad_steps.specs.declared.commands.Command.{Command}
use Rattle.pad_steps.specs.declared.steps.DiskWord.{DiskWord}
use Rattle.std.proofs.Common.{ap, sym, ◌∙◌}
use Rattle.std.specs.Prelude.{List, None, Option, Some, is_some, length, refl, ℕ, ◌≡◌}

pub some_one : (x z : Answer) → Some x ≡ Some z → x ≡ z
some_one x z e = cc

module _ (set : Setting) (p : Shared) (hd gd : List ℕ) where
  -- a work does the same where the released values are equal
  same_performs : (a : Owner) (w : Work) (d : DiskWord) → released set p gd w ≡ released set p hd w → performs set p gd a w d ≡ performs set p hd a w d
  same_performs a work.Waits d e = refl
  same_performs a (work.Refuse r accused) d e = refl
  same_performs a (work.Answer x) d e = refl
  same_performs a (work.Maintain on) d e = refl
  same_performs a (work.Keep slot row x from_part) d e = refl
  same_performs a (work.Erase slot) d e = refl
  same_performs a work.EraseAll d e = refl
  same_performs a (work.Release r first second draws) d e = ap (λ (x : Answer). releases a draws x p) (some_one _ _ e)
  same_performs a work.Load d e = refl

  -- both worlds release, or both do not: a work sees no digit
  same_shape : (w : Work) → is_some (released set p gd w) ≡ is_some (released set p hd w)
  same_shape work.Waits = refl
  same_shape (work.Refuse r accused) = refl
  same_shape (work.Answer x) = refl
  same_shape (work.Maintain on) = refl
  same_shape (work.Keep slot row x from_part) = refl
  same_shape (work.Erase slot) = refl
  same_shape work.EraseAll = refl
  same_shape (work.Release r first second draws) = refl
  same_shape work.Load = refl

-- a command comes to the same where as many digits are held

module _ (set : Setting) (p : Shared) (hd gd : List ℕ) (few : length gd ≡ length hd) where
  same_work : (c : Command) → work_of set p (length gd) c ≡ work_of set p (length hd) c
  same_work c = ap (λ (n : ℕ). work_of set p n c) few

  pub same_finish : (o : Option (Request Command)) (d : DiskWord) → release_with set p gd o ≡ release_with set p hd o → finish_with set p gd o d ≡ finish_with set p hd o d
  same_finish None d e = refl
  same_finish (Some a) d e =
      let same = same_work a.command in
      ap (λ (w : Work). performs set p gd (owner_of a) w d) same ∙ same_performs set p hd gd (owner_of a) (work_of set p (length hd) a.command) d (sym (ap (released set p gd) same) ∙ e)

  pub shape_with : (o : Option (Request Command)) → is_some (release_with set p gd o) ≡ is_some (release_with set p hd o)
  shape_with None = refl
  shape_with (Some a) = ap (λ (w : Work). is_some (released set p gd w)) (same_work a.command) ∙ same_shape set p hd gd (work_of set p (length hd) a.command)
