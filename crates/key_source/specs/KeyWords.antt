-- The words of keys: two tables over the places of keys, what a word is read as, and what is written of a key.
use Rattle.std.specs.Prelude.{List, None, Option, Some, [], codes, if◌then◌else◌, nat_lt, ℕ, ◌+◌, ◌==◌, ◌∷◌}
use Rattle.std.specs.Option.{option_map}
use Rattle.pad_words.specs.Numbers.{digit_of}
use Rattle.pad_words.specs.declared.numbers.Digit.{Digit}
use Rattle.spelled_words.specs.Tables.{value_of, word_of}
use Rattle.key_source.specs.Keys.{fdk_bit, key_bit}
use Rattle.key_source.specs.declared.Key.{Key}
use Rattle.key_source.specs.declared.Key.TheVariants as keypad

-- the words of keys, each beside the place of its key among the key bits
abbrev pub key_words : List (ℕ × List ℕ)
key_words =
    (0, codes "0") ∷
    (1, codes "1") ∷
    (2, codes "2") ∷
    (3, codes "3") ∷
    (4, codes "4") ∷
    (5, codes "5") ∷
    (6, codes "6") ∷
    (7, codes "7") ∷
    (8, codes "8") ∷
    (9, codes "9") ∷
    (10, codes "A") ∷
    (11, codes "B") ∷
    (12, codes "C") ∷
    (13, codes "D") ∷
    (14, codes "E") ∷
    (15, codes "F") ∷
    (16, codes "enter") ∷
    (17, codes "cancel") ∷
    (18, codes "clear") ∷
    (19, codes "back") ∷
    (20, codes "help") ∷ []

-- the words of function descriptor keys, each beside the place of its key among their bits
abbrev pub fdk_words : List (ℕ × List ℕ)
fdk_words =
    (0, codes "fdk1") ∷
    (1, codes "fdk2") ∷
    (2, codes "fdk3") ∷
    (3, codes "fdk4") ∷
    (4, codes "fdk5") ∷
    (5, codes "fdk6") ∷
    (6, codes "fdk7") ∷
    (7, codes "fdk8") ∷
    (8, codes "fdk9") ∷
    (9, codes "fdk10") ∷
    (10, codes "fdk11") ∷
    (11, codes "fdk12") ∷
    (12, codes "fdk13") ∷
    (13, codes "fdk14") ∷
    (14, codes "fdk15") ∷
    (15, codes "fdk16") ∷
    (16, codes "fdk17") ∷
    (17, codes "fdk18") ∷
    (18, codes "fdk19") ∷
    (19, codes "fdk20") ∷
    (20, codes "fdk21") ∷
    (21, codes "fdk22") ∷
    (22, codes "fdk23") ∷
    (23, codes "fdk24") ∷
    (24, codes "fdk25") ∷
    (25, codes "fdk26") ∷
    (26, codes "fdk27") ∷
    (27, codes "fdk28") ∷
    (28, codes "fdk29") ∷
    (29, codes "fdk30") ∷
    (30, codes "fdk31") ∷
    (31, codes "fdk32") ∷ []

-- the key whose place among the key bits this is
abbrev pub key_at : ℕ → Option Key
key_at place = if nat_lt place 10 then option_map (λ (digit : Digit). keypad.Digit digit) (digit_of place)
    else if nat_lt place 16 then Some (keypad.Hex place)
    else if place == 16 then Some keypad.Enter
    else if place == 17 then Some keypad.Cancel
    else if place == 18 then Some keypad.Clear
    else if place == 19 then Some keypad.Backspace
    else if place == 20 then Some keypad.Help
    else None

-- the function descriptor key whose place among their bits this is
abbrev pub fdk_at : ℕ → Option Key
fdk_at place = if nat_lt place 32 then Some (keypad.Fdk (place + 1)) else None

-- the key at the place that was found among the key bits, or else at that among the bits of function descriptor keys
abbrev pub key_found : Option ℕ → Option ℕ → Option Key
key_found (Some place) fdk = key_at place
key_found None (Some place) = fdk_at place
key_found None None = None

-- the key that this word spells
unfoldable pub read_key : List ℕ → Option Key
read_key word = key_found (value_of key_words word) (value_of fdk_words word)

-- the word at the place among the key bits, or else among the bits of function descriptor keys
abbrev pub word_at : Option ℕ → Option ℕ → List ℕ
word_at (Some place) fdk = word_of (λ (a b : ℕ). a == b) key_words place
word_at None (Some place) = word_of (λ (a b : ℕ). a == b) fdk_words place
word_at None None = []

-- the word of a key; a number that no key has is spelled by nothing
unfoldable pub key_text : Key → List ℕ
key_text key = word_at (key_bit key) (fdk_bit key)
