-- Runs that come near to breaking what is said of how long a PIN and a key part are kept, computed by the definitions alone.
use Rattle.flat_machine.proofs.RunCommands.{begun_entry, digit, ending_keys, entered_1234, entry_keys, get_pin, import_clear, local_check, pin_block, pin_key, press_cancel, with_pin_key}
use Rattle.flat_machine.proofs.RunWords.{counting_key, done_on_disk, done_quietly, quiet, setting}
use Rattle.flat_machine.specs.Machine.{Act, run}
use Rattle.pad_steps.specs.declared.commands.Command.{Command}
use Rattle.std.specs.Prelude.{List, None, [], codes, false, refl, replicate, suc, true, zero, ℕ, ◌++◌, ◌∷◌, ◌≡◌}
use Rattle.pad_steps.specs.declared.commands.Command.TheVariants as command
use Rattle.pad_steps.specs.declared.commands.Form.TheVariants as form
use Rattle.pad_steps.specs.declared.commands.ImportSource.TheVariants as origin
use Rattle.pad_steps.specs.declared.commands.Verify.TheVariants as verify
use Rattle.pad_steps.specs.declared.steps.DiskWord.TheVariants as word
use Rattle.pad_steps.specs.declared.steps.Step.TheVariants as step

-- the digits held, and the part buffer, after a run from the opening
abbrev held_by : List Act → List ℕ
held_by acts = (run setting acts).held

abbrev part_by : List Act → List ℕ
part_by acts = (run setting acts).shared.part

abbrev pin_1234 : List ℕ
pin_1234 = 1 ∷ 2 ∷ 3 ∷ 4 ∷ []

-- the PIN 1234 is held, and the key of PIN commands is there
abbrev pin_entered : List Act
pin_entered = with_pin_key ++ entered_1234

abbrev get_data : Command
get_data = command.GetData (record { min = 0; max = 3; auto_end = false; active = entry_keys; terminate = ending_keys })

-- a PIN is held while data is entered, though an entry runs
held_through_data : held_by (pin_entered ++ begun_entry get_data ++ digit 7 refl ∷ []) ≡ pin_1234
held_through_data = refl

-- a PIN entry that is refused as it begins starts nothing, and the held PIN stays; one that starts clears it, though no key is pressed
held_through_refused_entry : held_by (pin_entered ++ begun_entry (get_pin 5 4 false)) ≡ pin_1234
held_through_refused_entry = refl

cleared_by_started_entry : held_by (pin_entered ++ begun_entry (get_pin 4 4 false)) ≡ []
cleared_by_started_entry = refl

-- a block under an absent key is refused, and the PIN stays; a check that is answered uses it up, unless it is maintained
held_through_refused_block : held_by (pin_entered ++ done_quietly (pin_block form.Ibm3624 (codes "GONE") None None [] 0)) ≡ pin_1234
held_through_refused_block = refl

used_by_a_check : held_by (pin_entered ++ done_quietly (local_check [])) ≡ []
used_by_a_check = refl

held_through_a_check : held_by (pin_entered ++ done_quietly (command.MaintainPin true) ++ done_quietly (local_check [])) ≡ pin_1234
held_through_a_check = refl

-- MAINTAIN_PIN off clears the PIN; of a device that a fault stopped it is refused, and the PIN stays
cleared_by_maintain_off : held_by (pin_entered ++ done_quietly (command.MaintainPin false)) ≡ []
cleared_by_maintain_off = refl

held_through_refused_maintain_off : held_by (pin_entered ++ done_on_disk (command.DeleteKey pin_key) (word.Failed 0) ++ done_quietly (command.MaintainPin false)) ≡ pin_1234
held_through_refused_maintain_off = refl

-- INITIALIZATION that the disk failed leaves the PIN, one that is answered clears it; RESET clears it, also where the disk failed it
held_through_failed_initialization : held_by (pin_entered ++ done_on_disk command.Init (word.Failed 0)) ≡ pin_1234
held_through_failed_initialization = refl

cleared_by_initialization : held_by (pin_entered ++ done_on_disk command.Init word.Done) ≡ []
cleared_by_initialization = refl

cleared_by_failed_reset : held_by (pin_entered ++ done_on_disk command.Reset (word.Failed 0)) ≡ []
cleared_by_failed_reset = refl

-- the power goes while a PIN is held and maintained: neither is left, though the session stays open
cleared_by_off : held_by (pin_entered ++ done_quietly (command.MaintainPin true) ++ quiet step.Off ∷ []) ≡ []
cleared_by_off = refl

unmaintained_after_off : (run setting (pin_entered ++ done_quietly (command.MaintainPin true) ++ quiet step.Off ∷ [])).shared.maintain ≡ false
unmaintained_after_off = refl

cleared_by_a_cut : held_by (pin_entered ++ done_on_disk (command.DeleteKey pin_key) (word.Cut 0)) ≡ []
cleared_by_a_cut = refl

-- key parts

abbrev key_part_entry : List Act
key_part_entry = begun_entry (command.SecureKeyEntry (record { count = 16; auto_end = true; active = record { keys = 0x0002FFFF; fdks = 0 }; terminate = record { keys = 0x00020000; fdks = 0 }; verify = verify.Zero }))

abbrev threes : ℕ → List Act
threes zero = []
threes (suc count) = digit 3 refl ∷ threes count

abbrev sixteen_threes : List ℕ
sixteen_threes = replicate 16 3

abbrev part_entered : List Act
part_entered = with_pin_key ++ key_part_entry ++ threes 16

abbrev import_part : Command
import_part = command.ImportKey (record { name = codes "MEK"; source = origin.Part; uses = 0x84; verify = verify.Nothing })

-- a key part stays through a PIN entry, through an import that the disk failed, and through one of another value; it goes with the import that takes it
part_through_a_pin_entry : part_by (part_entered ++ entered_1234) ≡ sixteen_threes
part_through_a_pin_entry = refl

part_through_a_refused_import : part_by (part_entered ++ done_on_disk import_part (word.Failed 0)) ≡ sixteen_threes
part_through_a_refused_import = refl

part_through_another_import : part_by (part_entered ++ done_on_disk (import_clear (codes "B") counting_key 4 verify.Nothing) word.Done) ≡ sixteen_threes
part_through_another_import = refl

part_taken_by_an_import : part_by (part_entered ++ done_on_disk import_part word.Done) ≡ []
part_taken_by_an_import = refl

-- a second key part entry that CANCEL ends has cleared the first part, and leaves none of its own
part_cleared_by_a_canceled_entry : part_by (part_entered ++ key_part_entry ++ digit 1 refl ∷ press_cancel ∷ []) ≡ []
part_cleared_by_a_canceled_entry = refl
