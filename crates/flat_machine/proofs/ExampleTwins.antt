-- Two runs that are twins, and two that are none.
use Rattle.pad_words.specs.Bytes.{exclusive_or}
use Rattle.flat_machine.proofs.RunCommands.{begun_entry, digit, entered_0000, entered_1234, get_pin, iso0_block, local_check, press_enter, with_pin_key}
use Rattle.flat_machine.proofs.RunWords.{done_quietly, setting}
use Rattle.flat_machine.proofs.TwinRuns.{twins_print_alike}
use Rattle.flat_machine.specs.Machine.{Act, lines_from, releases_from}
use Rattle.flat_machine.specs.State.{opening}
use Rattle.flat_machine.specs.Twins.{Twins}
use Rattle.std.proofs.Common.{inl, inr}
use Rattle.std.specs.Prelude.{List, [], false, refl, ◌++◌, ◌∷◌, ◌≡◌}
use Rattle.pad_steps.specs.declared.answers.Answer.TheVariants as answer

abbrev entered_9876 : List Act
entered_9876 = begun_entry (get_pin 4 16 false) ++ digit 9 refl ∷ digit 8 refl ∷ digit 7 refl ∷ digit 6 refl ∷ press_enter ∷ []

-- a PIN is entered and checked, and the check says no
abbrev checked_1234 : List Act
checked_1234 = with_pin_key ++ entered_1234 ++ done_quietly (local_check [])

abbrev checked_9876 : List Act
checked_9876 = with_pin_key ++ entered_9876 ++ done_quietly (local_check [])

-- the two differ in four masked presses, and release the same answer
they_are_twins : Twins setting opening checked_1234 checked_9876
they_are_twins = ((refl, inl refl, (refl, inl refl, (refl, inl refl, (refl, inl refl, (refl, inl refl, (refl, inl refl, (refl, inl refl, (refl, inr (refl, refl), (refl, inr (refl, refl), (refl, inr (refl, refl), (refl, inr (refl, refl), (refl, inl refl, (refl, inl refl, (refl, inl refl, (refl, inl refl, tt))))))))))))))), refl)

-- so they print alike, by the law
they_print_alike : lines_from setting opening checked_9876 ≡ lines_from setting opening checked_1234
they_print_alike = twins_print_alike setting opening checked_1234 checked_9876 they_are_twins

-- a block tells two PINs apart: these runs release other values, so they are no twins
block_of_1234 : releases_from setting opening (with_pin_key ++ entered_1234 ++ done_quietly iso0_block) ≡ answer.Block (record { 0 = 0x04 ∷ 0x12 ∷ 0x15 ∷ 0xFE ∷ 0xDC ∷ 0xBA ∷ 0x98 ∷ 0x76 ∷ [] }) ∷ []
unfolding exclusive_or
block_of_1234 = refl

block_of_0000 : releases_from setting opening (with_pin_key ++ entered_0000 ++ done_quietly iso0_block) ≡ answer.Block (record { 0 = 0x04 ∷ 0x00 ∷ 0x21 ∷ 0xFE ∷ 0xDC ∷ 0xBA ∷ 0x98 ∷ 0x76 ∷ [] }) ∷ []
unfolding exclusive_or
block_of_0000 = refl
