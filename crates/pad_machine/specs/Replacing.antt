-- What a work that replaces slots leaves, before its request ends.
use Rattle.disk_core.specs.DiskStates.{DiskState}
use Rattle.disk_core.specs.declared.disk.DiskError.{DiskError}
use Rattle.disk_core.specs.declared.disk.DiskError.TheVariants as fault
use Rattle.flat_machine.specs.DiskSteps.{done_word, load_word, word_of}
use Rattle.flat_machine.specs.Power.{powers_off}
use Rattle.flat_machine.specs.State.{Said, Shared, replies, unchanged}
use Rattle.flat_machine.specs.declared.types.Device.TheVariants.{Bad, Ready, Stopped}
use Rattle.flat_machine.specs.declared.types.Owner.{Owner}
use Rattle.key_table.specs.Changes.{Change, changed}
use Rattle.key_table.specs.KeyStores.{KeyStore, LoadsStore, MakesChanges}
use Rattle.key_table.specs.declared.LoadFault.{LoadFault}
use Rattle.key_table.specs.StoredRows.{rows_of}
use Rattle.pad_steps.specs.declared.answers.Refusal.TheVariants as refusals
use Rattle.pad_steps.specs.declared.answers.Reply.TheVariants as replied
use Rattle.pad_steps.specs.declared.steps.DiskWord.TheVariants as words
use Rattle.pad_steps.specs.declared.steps.DiskWord.{DiskWord}
use Rattle.std.specs.Prelude.{IfSome, List, None, Option, Result, Some, slice_get, take, true, ℕ, ◌≡◌}

-- the slots that were replaced, and the one in doubt after a fault or a cut; a fault stops the device
abbrev pub after_replacing : Shared → List Change → DiskWord → Shared
after_replacing shared todo (words.Failed count) = record shared { device = Stopped; keys = changed (take count todo) shared.keys; doubt = slice_get todo count }
after_replacing shared todo (words.Cut count) = record shared { keys = changed (take count todo) shared.keys; doubt = slice_get todo count }
after_replacing shared todo other = record shared { keys = changed todo shared.keys }

-- a fault that is no cut stops the device
abbrev pub stopped_by : DiskError → Shared → Shared
stopped_by fault.Failed shared = record shared { device = Stopped }
stopped_by fault.Off shared = shared

-- what a loading leaves, but for what ends where the power was cut
abbrev pub after_loading : Shared → DiskWord → Shared
after_loading shared (words.Failed count) = record shared { device = Stopped }
after_loading shared (words.Loaded rows) = record shared { device = Ready; keys = rows; doubt = None; loaded = true }
after_loading shared (words.Bad slot) = record shared { device = Bad slot }
after_loading shared other = shared

-- a fault ends the request in work HARDWAREERROR, and a cut ends all requests
abbrev pub ends_struck : Owner → DiskWord → Shared → Said
ends_struck owner (words.Failed count) shared = replies shared owner (replied.No refusals.HardwareError)
ends_struck owner (words.Cut count) shared = powers_off shared
ends_struck owner other shared = unchanged shared

-- changes of a table over its store, and their word
pub record MadeChanges (todo : List Change) (word : DiskWord) (old new : KeyStore) (s t : DiskState) : Type 0 where
  pub count : ℕ
  pub fault : Option DiskError
  pub is : word ≡ word_of count (done_word todo) fault
  pub made : MakesChanges todo count fault old new s t
  pub shows : IfSome new.bytes (λ bytes. rows_of bytes ≡ Some new.rows)

-- a loading of a table over its store, and its word
pub record LoadedBy (word : DiskWord) (old new : KeyStore) (s t : DiskState) : Type 0 where
  pub result : Result (Unit {0}) LoadFault
  pub is : word ≡ load_word result new.rows
  pub loads : LoadsStore result old new s t
