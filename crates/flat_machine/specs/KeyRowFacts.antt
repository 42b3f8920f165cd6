-- Words for what is so of the values, names and uses of key rows in every run.
use Rattle.flat_machine.specs.Ciphers.{Ciphers}
use Rattle.key_attributes.specs.UseBits.{uses_valid}
use Rattle.key_attributes.specs.declared.KeyRow.{KeyRow}
use Rattle.key_table.specs.Duplicates.{is_duplicate}
use Rattle.key_table.specs.KeyRows.{KeyRows}
use Rattle.pad_steps.specs.declared.commands.Command.{Command}
use Rattle.pad_steps.specs.declared.commands.Command.TheVariants as commands
use Rattle.pad_steps.specs.declared.steps.DiskWord.{DiskWord}
use Rattle.pad_steps.specs.declared.steps.DiskWord.TheVariants as words
use Rattle.pad_steps.specs.declared.steps.Step.{Step}
use Rattle.pad_steps.specs.declared.steps.Step.TheVariants as steps
use Rattle.pad_words.specs.KeyLengths.{is_key_length}
use Rattle.pad_words.specs.Names.{is_key_name}
use Rattle.std.specs.List.{list_all}
use Rattle.std.specs.Prelude.{Bool, List, length, not, true, ℕ, ◌&&◌, ◌≡◌}

-- two complete keys of different names have the same value only where neither forbids it
abbrev pub has_no_duplicates : KeyRows → Bool
has_no_duplicates rows = list_all (λ first. list_all (λ second. not (is_duplicate first.1 second.1)) rows) rows

-- so it is of the rows that the word loaded, if it loaded any
abbrev pub loads_no_duplicates : DiskWord → Bool
loads_no_duplicates (words.Loaded rows) = has_no_duplicates rows
loads_no_duplicates other = true

-- the row has a key's name, a value of 8, 16 or 24 bytes, and valid uses
abbrev pub is_valid_row : KeyRow → Bool
is_valid_row row = is_key_name row.name && is_key_length (length row.value) && uses_valid row.uses

-- every row is valid
abbrev pub are_valid : KeyRows → Bool
are_valid rows = list_all (λ each. is_valid_row each.1) rows

-- so are the rows that the word loaded, if it loaded any
abbrev pub loads_valid : DiskWord → Bool
loads_valid (words.Loaded rows) = are_valid rows
loads_valid other = true

-- the name that an import asks for is a key's
abbrev pub imports_name : Command → Bool
imports_name (commands.ImportKey request) = is_key_name request.name
imports_name other = true

-- the name that the step submits an import for, if it does, is a key's
abbrev pub submits_name : Step → Bool
submits_name (steps.Submit session limit command) = imports_name command
submits_name other = true

-- the cipher deciphers eight bytes to eight bytes
abbrev pub KeepsBlocks : Ciphers → Type 0
KeepsBlocks cipher = (key block : List ℕ) → length block ≡ 8 → length (cipher.tdea_back key block) ≡ 8
