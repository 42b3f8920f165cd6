-- The words of the command line of a live run.
use Rattle.command_words.specs.CommandWords.{is_word, seed_of, zero_seed}
use Rattle.std.specs.Prelude.{Bool, List, None, Option, Some, [], codes, if◌then◌else◌, is_some, string_bytes, ℕ, ◌&&◌, ◌∷◌}
use Rattle.std.specs.Global.{Global}
use Rattle.std.specs.declared.string.String.{String}

-- the seed that the words give: `live` and `live seed H` are the forms
abbrev pub live_seed : List (String Global) → Option (List ℕ)
live_seed [] = None
live_seed (live ∷ []) = if is_word live (codes "live") then Some zero_seed else None
live_seed (live ∷ word ∷ []) = None
live_seed (live ∷ word ∷ seed ∷ []) =
    if is_word live (codes "live") && is_word word (codes "seed") then seed_of (string_bytes seed) else None
live_seed (live ∷ word ∷ seed ∷ more ∷ words) = None

-- the words are one of the forms
abbrev pub is_live_form : List (String Global) → Bool
is_live_form words = is_some (live_seed words)

-- the seed; 32 zero bytes where the words are no form
abbrev pub seed_given : Option (List ℕ) → List ℕ
seed_given None = zero_seed
seed_given (Some seed) = seed

abbrev pub seed_in : List (String Global) → List ℕ
seed_in words = seed_given (live_seed words)

-- the script that a source tells, where the words ask for its run
abbrev pub script_asked : Option (List ℕ) → Option (List ℕ) → Option (List ℕ)
script_asked None left = None
script_asked (Some seed) left = left

abbrev pub live_script : List (String Global) → Option (List ℕ) → Option (List ℕ)
live_script words left = script_asked (live_seed words) left
