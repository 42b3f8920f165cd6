-- Words for what is so of the key rows of every run.
use Rattle.key_table.specs.Tables.{is_table}
use Rattle.pad_steps.specs.declared.steps.DiskWord.{DiskWord}
use Rattle.std.specs.Prelude.{Bool, true}
use Rattle.pad_steps.specs.declared.steps.DiskWord.TheVariants as words

-- the rows that the word loaded, if it loaded any, are those of a key table: slots rise and are below 64, and no name stands twice
abbrev pub loads_table : DiskWord → Bool
loads_table (words.Loaded rows) = is_table rows
loads_table other = true
