-- What the disk did in a step, behind the step on its line.
use Rattle.std.specs.Prelude.{List, None, Option, Some, [], codes, length, ℕ, ◌++◌}
use Rattle.std.specs.Fmt.{decimal}
use Rattle.pad_steps.specs.declared.steps.DiskWord.{DiskWord}
use Rattle.pad_steps.specs.declared.steps.DiskWord.TheVariants as word
use Rattle.pad_steps.specs.declared.steps.Fate.{Fate}
use Rattle.pad_steps.specs.declared.steps.Fate.TheVariants as fate

-- what became of the slot in doubt
unfoldable pub fate_text : Fate → List ℕ
fate_text fate.First = codes "first"
fate_text fate.Old = codes "old"
fate_text fate.New = codes "new"
fate_text fate.Other = codes "other"

-- the number of rows that were loaded and their fate, which a loading always has
unfoldable pub loaded_text : ℕ → Option Fate → List ℕ
loaded_text count None = []
loaded_text count (Some fate) = codes " / loaded " ++ decimal count ++ codes " " ++ fate_text fate

-- the word behind a slash, or nothing where no device call was made
unfoldable pub disk_word_text : DiskWord → Option Fate → List ℕ
disk_word_text word.Quiet fate = []
disk_word_text word.Done fate = codes " / done"
disk_word_text (word.Failed n) fate = codes " / failed " ++ decimal n
disk_word_text (word.Cut n) fate = codes " / cut " ++ decimal n
disk_word_text (word.Loaded rows) fate = loaded_text (length rows) fate
disk_word_text (word.Bad slot) fate = codes " / bad " ++ decimal slot
