-- What is so of every run, in the subject's own words. The laws say that it is.
use Rattle.flat_machine.specs.State.{Flat, opening, ready_opening}
use Rattle.pad_steps.specs.Lines.{Line}
use Rattle.pad_steps.specs.declared.answers.Out.{Out}
use Rattle.std.specs.Prelude.{List, [], ◌++◌, ◌∷◌, ◌≡◌, ◌⊎◌}

-- the two states in which a run begins
abbrev pub IsStart : Flat → Type 0
IsStart state = (state ≡ opening) ⊎ (state ≡ ready_opening)

-- all that the lines say, in order
abbrev pub outs_of : List Line → List Out
outs_of [] = []
outs_of (line ∷ lines) = line.outs ++ outs_of lines
