-- The lines of a script.
use Rattle.std.specs.Prelude.{List, Option, Some, [], if◌then◌else◌, suc, ℕ, ◌++◌, ◌==◌, ◌∷◌, ◌≡◌}
use Rattle.script_lang.specs.Reading.{line_of}
use Rattle.script_lang.specs.Scripts as scripts
use Rattle.script_lang.specs.Scripts.{Script}
use Rattle.script_lang.specs.declared.kinds.Line.{Line}

-- the lines before the first bad one, and the number of that one, if there is one
abbrev pub ScriptLines : Type 0
ScriptLines = Script Line

-- the lines of the rest of a script, of which so many lines were cut before
abbrev pub lines_behind : ℕ → List ℕ → ScriptLines
lines_behind = scripts.lines_behind line_of

-- the lines of a script
abbrev pub lines_of : List ℕ → ScriptLines
lines_of script = lines_behind 0 script

-- how many line feeds are among the bytes
abbrev pub feeds_in : List ℕ → ℕ
feeds_in [] = 0
feeds_in (byte ∷ bytes) = if byte == 10 then suc (feeds_in bytes) else feeds_in bytes

-- these bytes were taken from a source that had a script, and so many lines are whole among them
pub record IsTaken (script : List ℕ) (left : Option (List ℕ)) (count : ℕ) : Type 0 where
  pub taken : List ℕ
  pub rest : List ℕ
  pub told : left ≡ Some rest
  pub parts : script ≡ taken ++ rest
  pub feeds : feeds_in taken ≡ count
