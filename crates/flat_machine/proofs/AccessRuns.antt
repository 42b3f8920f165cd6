-- Runs that come near to breaking the laws of keys, computed by the definitions alone.
use Rattle.cbc_mac.specs.Modes.{blocks, cbc, last_or, padded}
use Rattle.flat_machine.proofs.RunCommands.{done, entered_1234, import_clear, mac_under, pin_block, pin_key, refused, unchecked, with_pin_key}
use Rattle.flat_machine.proofs.RunWords.{beginning, done_on_disk, done_quietly, quiet, replies_by, session_1, setting, with_word}
use Rattle.flat_machine.specs.KeyRowFacts.{has_no_duplicates}
use Rattle.flat_machine.specs.Machine.{Act, run}
use Rattle.pad_words.specs.Bytes.{exclusive_or, zero_block}
use Rattle.pad_steps.specs.declared.answers.Refusal.TheVariants as refusal
use Rattle.pad_steps.specs.declared.commands.Command.TheVariants as command
use Rattle.pad_steps.specs.declared.commands.Form.TheVariants as form
use Rattle.pad_steps.specs.declared.commands.Verify.TheVariants as verify
use Rattle.pad_steps.specs.declared.steps.DiskWord.TheVariants as word
use Rattle.pad_steps.specs.declared.steps.Step.TheVariants as step
use Rattle.std.specs.Prelude.{List, None, [], codes, refl, true, ℕ, ◌++◌, ◌∷◌, ◌≡◌}

-- two keys of one value, of which neither forbids it
abbrev two_keys_of_one_value : List Act
two_keys_of_one_value = beginning ++ done_on_disk (import_clear (codes "A") zero_block 4 verify.Nothing) word.Done ++ done_on_disk (import_clear (codes "B") zero_block 4 verify.Nothing) word.Done

they_may : has_no_duplicates (run setting two_keys_of_one_value).shared.keys ≡ true
they_may = refl

-- a third that forbids it is refused; so it is where the value is only joined from parts, as the last part comes: until then it stands under construction, with the same value
abbrev third_key_forbids : List Act
third_key_forbids = two_keys_of_one_value ++ done_quietly (import_clear (codes "C") zero_block 20 verify.Nothing) ++ done_on_disk (import_clear (codes "C") zero_block 84 verify.Nothing) word.Done ++ done_quietly (import_clear (codes "C") zero_block 20 verify.Nothing)

it_is_refused : replies_by third_key_forbids ≡ unchecked ∷ unchecked ∷ refused (refusal.DuplicateKey (codes "A")) ∷ unchecked ∷ refused (refusal.DuplicateKey (codes "A")) ∷ []
unfolding exclusive_or blocks
it_is_refused = refl

all_stay_apart : has_no_duplicates (run setting third_key_forbids).shared.keys ≡ true
unfolding exclusive_or blocks
all_stay_apart = refl

-- a key that is there as its use is submitted, and deleted before its use is finished, is not used
abbrev deleted_before_its_use : List Act
deleted_before_its_use = beginning ++ done_on_disk (import_clear (codes "A") zero_block 4 verify.Nothing) word.Done ++ quiet (step.Submit session_1 0 (command.DeleteKey (codes "A"))) ∷ quiet (step.Submit session_1 0 (mac_under (codes "A")))
    ∷ quiet step.Begin ∷ with_word step.Finish word.Done ∷ quiet step.Begin ∷ quiet step.Finish ∷ []

it_is_not_used : replies_by deleted_before_its_use ≡ unchecked ∷ done ∷ refused refusal.KeyNotFound ∷ []
unfolding exclusive_or blocks cbc last_or padded
it_is_not_used = refl

-- a format 3 block that is refused draws no fill word, and each that is answered draws its own ten
abbrev iso3_under : List ℕ → List Act
iso3_under name = done_quietly (pin_block form.Iso3 name None None (5 ∷ 4 ∷ 3 ∷ 2 ∷ 1 ∷ 0 ∷ 1 ∷ 2 ∷ 3 ∷ 4 ∷ 5 ∷ 6 ∷ 7 ∷ 8 ∷ 9 ∷ []) 0)

refused_block_draws_none : (run setting (with_pin_key ++ entered_1234 ++ iso3_under (codes "GONE"))).shared.drawn ≡ 0
refused_block_draws_none = refl

two_blocks_draw_twenty : (run setting (with_pin_key ++ done_quietly (command.MaintainPin true) ++ entered_1234 ++ iso3_under pin_key ++ iso3_under (codes "GONE") ++ iso3_under pin_key)).shared.drawn ≡ 20
two_blocks_draw_twenty = refl
