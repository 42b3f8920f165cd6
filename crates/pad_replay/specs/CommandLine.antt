-- The words of the command line.
use Rattle.std.specs.Prelude.{Bool, List, None, Option, Some, [], codes, if◌then◌else◌, is_some, length, option_map, string_bytes, ℕ, ◌&&◌, ◌==◌, ◌∷◌}
pub use Rattle.command_words.specs.CommandWords.{is_word, seed_of, zero_seed}
use Rattle.script_lang.specs.Reading.{read_number}
use Rattle.std.specs.Global.{Global}
use Rattle.std.specs.declared.string.String.{String}

-- what the words ask for: the replay of a script, with the path of the store's file, if there is one, and the seed of the fill words; or the replay of the generated script of so many rounds
pub data Asked : Type 0 where
  Replays : Option (List ℕ) → List ℕ → Asked
  Generates : ℕ → Asked

-- a path, where it is not empty
abbrev pub path_of : List ℕ → Option (List ℕ)
path_of text = if length text == 0 then None else Some text

-- a store, and a seed
abbrev pub with_path : List ℕ → Option (List ℕ) → Option Asked
with_path seed None = None
with_path seed (Some path) = Some (Replays (Some path) seed)

abbrev pub with_path_and_seed : Option (List ℕ) → Option (List ℕ) → Option Asked
with_path_and_seed path None = None
with_path_and_seed path (Some seed) = with_path seed path

-- one word and its value behind `replay`
abbrev pub asked_by_one : String Global → List ℕ → Option Asked
asked_by_one word value = if is_word word (codes "store") then with_path zero_seed (path_of value)
    else if is_word word (codes "seed") then option_map (Replays None) (seed_of value)
    else None

-- two words and their values behind `replay`
abbrev pub asked_by_two : String Global → List ℕ → String Global → List ℕ → Option Asked
asked_by_two first path second seed = if is_word first (codes "store") && is_word second (codes "seed") then with_path_and_seed (path_of path) (seed_of seed) else None

-- the words behind `replay`
abbrev pub asked_behind : List (String Global) → Option Asked
asked_behind [] = Some (Replays None zero_seed)
asked_behind (word ∷ []) = None
asked_behind (word ∷ value ∷ []) = asked_by_one word (string_bytes value)
asked_behind (first ∷ path ∷ second ∷ []) = None
asked_behind (first ∷ path ∷ second ∷ seed ∷ []) = asked_by_two first (string_bytes path) second (string_bytes seed)
asked_behind (first ∷ path ∷ second ∷ seed ∷ more ∷ words) = None

-- a number of rounds: 1 to 5,000, without a leading zero
abbrev pub rounds_of : List ℕ → Option ℕ
rounds_of text = read_number 1 5000 text

-- the words behind `gen`
abbrev pub generated_behind : List (String Global) → Option Asked
generated_behind [] = None
generated_behind (rounds ∷ []) = option_map Generates (rounds_of (string_bytes rounds))
generated_behind (rounds ∷ more ∷ words) = None

-- what the words ask for: `replay`, `replay seed H`, `replay store P`, `replay store P seed H` and `gen N` are the forms
abbrev pub asked_by : List (String Global) → Option Asked
asked_by [] = None
asked_by (word ∷ words) = if is_word word (codes "replay") then asked_behind words
    else if is_word word (codes "gen") then generated_behind words
    else None

-- the words are one of the forms
abbrev pub is_form : List (String Global) → Bool
is_form words = is_some (asked_by words)

-- the path that is asked for
abbrev pub path_asked : Option Asked → Option (List ℕ)
path_asked (Some (Replays path seed)) = path
path_asked other = None

-- the seed that is asked for
abbrev pub seed_asked : Option Asked → List ℕ
seed_asked (Some (Replays path seed)) = seed
seed_asked other = zero_seed

-- the script, where its replay is asked for
abbrev pub script_asked : Option Asked → Option (List ℕ) → Option (List ℕ)
script_asked (Some (Replays path seed)) script = script
script_asked other script = None

-- how many rounds are asked for
abbrev pub rounds_asked : Option Asked → Option ℕ
rounds_asked (Some (Generates rounds)) = Some rounds
rounds_asked other = None

-- the path that the words name
abbrev pub path_in : List (String Global) → Option (List ℕ)
path_in words = path_asked (asked_by words)

-- the seed that the words give, 32 zero bytes where they give none
abbrev pub seed_in : List (String Global) → List ℕ
seed_in words = seed_asked (asked_by words)

-- the script that a source tells, where the words ask for its replay
abbrev pub script_in : List (String Global) → Option (List ℕ) → Option (List ℕ)
script_in words script = script_asked (asked_by words) script

-- the number of rounds of the words `gen N`
abbrev pub rounds_in : List (String Global) → Option ℕ
rounds_in words = rounds_asked (asked_by words)
