-- What a command in work comes to: one line a command. This is the table of the machine's rules; FinishSteps says what is then done.
use Rattle.flat_machine.specs.Crypts.{crypt_work}
use Rattle.flat_machine.specs.Decisions.{unless_refused}
use Rattle.flat_machine.specs.Imports.{import_work}
use Rattle.flat_machine.specs.State.{Shared, device_refusal}
use Rattle.flat_machine.specs.Settings.{Setting}
use Rattle.flat_machine.specs.PinCommands.{pin_work}
use Rattle.flat_machine.specs.declared.types.Work.{Work}
use Rattle.flat_machine.specs.declared.types.Work.TheVariants as work
use Rattle.key_table.specs.KeyRows.{slot_of}
use Rattle.pad_steps.specs.declared.answers.Refusal.TheVariants as refusals
use Rattle.pad_steps.specs.declared.commands.Command.{Command}
use Rattle.pad_steps.specs.declared.commands.Command.TheVariants as commands
use Rattle.std.specs.Prelude.{None, Option, Some, ℕ}

-- the slot of the name is emptied; KEYNOTFOUND, which accuses no key here, where it is absent
abbrev pub erase : Option ℕ → Work
erase None = work.Refuse refusals.KeyNotFound None
erase (Some slot) = work.Erase slot

-- the device refuses first: HARDWAREERROR, or BADSTORE
abbrev pub on_device : Shared → Work → Work
on_device shared rest = unless_refused (device_refusal shared.device) rest

module _ (set : Setting) where
  -- what a command comes to now, by the number of digits held and by no digit. An entry ends by a key. The RSA import is refused as it is submitted, and would be here
  abbrev pub work_of : Shared → ℕ → Command → Work
  work_of shared count (commands.GetPin rules) = work.Waits
  work_of shared count (commands.GetData rules) = work.Waits
  work_of shared count (commands.SecureKeyEntry rules) = work.Waits
  work_of shared count (commands.MaintainPin on) = on_device shared (work.Maintain on)
  work_of shared count (commands.Pin request) = on_device shared (pin_work set.pin_rules shared.keys count request)
  work_of shared count (commands.Crypt request) = on_device shared (crypt_work set.cipher shared.keys request)
  work_of shared count (commands.ImportKey request) = on_device shared (import_work set.cipher shared.keys shared.part request)
  work_of shared count (commands.DeleteKey name) = on_device shared (erase (slot_of name shared.keys))
  work_of shared count commands.Init = on_device shared work.EraseAll
  work_of shared count commands.Reset = work.Load
  work_of shared count commands.RsaImport = work.Refuse refusals.UnsuppCommand None
