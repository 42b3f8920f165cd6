-- A command in work that is decided.
use Rattle.flat_machine.specs.Commands.{work_of}
use Rattle.flat_machine.specs.FinishSteps.{finish_with, performs}
use Rattle.flat_machine.specs.Settings.{Setting}
use Rattle.flat_machine.specs.State.{Shared, owner_of}
use Rattle.flat_machine.specs.WorkFacts.{is_reset}
use Rattle.flat_machine.specs.declared.types.Owner.{Owner}
use Rattle.flat_machine.specs.declared.types.Work.{Work}
use Rattle.pad_machine.specs.Prepares.{deciding}
use Rattle.pad_machine.specs.Stands.{set_by}
use Rattle.pad_steps.specs.declared.commands.Command.TheVariants as commands
use Rattle.pad_steps.specs.declared.commands.Command.{Command}
use Rattle.pad_steps.specs.declared.steps.DiskWord.{DiskWord}
use Rattle.pin_blocks.specs.PinRules.{PinRules}
use Rattle.request_queue.specs.Requests.{request_command}
use Rattle.request_queue.specs.declared.requests.Request.{Request}
use Rattle.std.proofs.Common.{ap, refl, sym, ◌∙◌}
use Rattle.std.proofs.lemmas.Option.{same_Some}
use Rattle.std.specs.Option.{option_map}
use Rattle.std.specs.Prelude.{List, None, Option, Some, false, length, ℕ, ◌≡◌}

-- the seed changes nothing of what a command comes to
pub same_work : (pin_rules : PinRules) (seed : List ℕ) (shared : Shared) (count : ℕ) (command : Command) → work_of (deciding pin_rules) shared count command ≡ work_of (set_by pin_rules seed) shared count command
same_work pin_rules seed shared count (commands.GetPin rules) = refl
same_work pin_rules seed shared count (commands.GetData rules) = refl
same_work pin_rules seed shared count (commands.SecureKeyEntry rules) = refl
same_work pin_rules seed shared count (commands.MaintainPin on) = refl
same_work pin_rules seed shared count (commands.Pin request) = refl
same_work pin_rules seed shared count (commands.Crypt request) = refl
same_work pin_rules seed shared count (commands.ImportKey request) = refl
same_work pin_rules seed shared count (commands.DeleteKey name) = refl
same_work pin_rules seed shared count commands.Init = refl
same_work pin_rules seed shared count commands.Reset = refl
same_work pin_rules seed shared count commands.RsaImport = refl

finishes : (set : Setting) (shared : Shared) (digits : List ℕ) (owner : Owner) (command : Command) (word : DiskWord) (found : Option (Request Command))
    → Some owner ≡ option_map owner_of found → Some command ≡ option_map request_command found
    → performs set shared digits owner (work_of set shared (length digits) command) word ≡ finish_with set shared digits found word
finishes set shared digits owner command word None of is = cc
finishes set shared digits owner command word (Some request) of is =
    ap (λ (o : Owner). performs set shared digits o (work_of set shared (length digits) command) word) (same_Some owner (owner_of request) of)
    ∙ ap (λ (c : Command). performs set shared digits (owner_of request) (work_of set shared (length digits) c) word) (same_Some command request.command is)

-- what was decided is what Finish does
pub decided_finishes : (pin_rules : PinRules) (seed : List ℕ) (shared : Shared) (digits : List ℕ) (count : ℕ) (owner : Owner) (command : Command) (work : Work) (word : DiskWord) (found : Option (Request Command))
    → Some owner ≡ option_map owner_of found → Some command ≡ option_map request_command found
    → work ≡ work_of (deciding pin_rules) shared count command → length digits ≡ count
    → performs (set_by pin_rules seed) shared digits owner work word ≡ finish_with (set_by pin_rules seed) shared digits found word
decided_finishes pin_rules seed shared digits count owner command work word found of is decided few =
    ap (λ (w : Work). performs (set_by pin_rules seed) shared digits owner w word)
    (decided ∙ same_work pin_rules seed shared count command ∙ ap (λ (n : ℕ). work_of (set_by pin_rules seed) shared n command) (sym few))
    ∙ finishes (set_by pin_rules seed) shared digits owner command word found of is

pub not_reset : (command : Command) → (command ≡ commands.Reset → ⊥) → is_reset command ≡ false
not_reset (commands.GetPin rules) other = refl
not_reset (commands.GetData rules) other = refl
not_reset (commands.SecureKeyEntry rules) other = refl
not_reset (commands.MaintainPin on) other = refl
not_reset (commands.Pin request) other = refl
not_reset (commands.Crypt request) other = refl
not_reset (commands.ImportKey request) other = refl
not_reset (commands.DeleteKey name) other = refl
not_reset commands.Init other = refl
not_reset commands.Reset other = absurd (other refl)
not_reset commands.RsaImport other = refl
