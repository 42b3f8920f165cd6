-- The words of a line, and the tables of those that spell one of few values.
use Rattle.std.specs.Prelude.{Bool, IsTrue, List, None, Option, Some, [], codes, false, not, true, if◌then◌else◌, map, nat_le, nat_lt, ℕ, ◌&&◌, ◌++◌, ◌+◌, ◌-◌, ◌==◌, ◌≡◌, ◌∷◌}
use Rattle.std.specs.List.{list_all}
use denote.Enum.Bare.{sameb}
use mathlib.Core.Bool.{beq}
use Rattle.pad_words.specs.contracts.Direction.{the_type as direction_type}
use Rattle.pad_words.specs.declared.Direction.{Direction}
use Rattle.pad_words.specs.declared.Direction.TheVariants as direction
use Rattle.pad_steps.specs.contracts.commands.Algorithm.{the_type as algorithm_type}
use Rattle.pad_steps.specs.contracts.commands.Form.{the_type as form_type}
use Rattle.pad_steps.specs.contracts.commands.Verify.{the_type as verify_type}
use Rattle.pad_steps.specs.declared.commands.Algorithm.{Algorithm}
use Rattle.pad_steps.specs.declared.commands.Algorithm.TheVariants as algorithm
use Rattle.pad_steps.specs.declared.commands.Form.{Form}
use Rattle.pad_steps.specs.declared.commands.Form.TheVariants as forms
use Rattle.pad_steps.specs.declared.commands.Verify.{Verify}
use Rattle.pad_steps.specs.declared.commands.Verify.TheVariants as verify
use Rattle.pad_steps.specs.declared.steps.Classes.{Classes}
use Rattle.script_lang.specs.contracts.kinds.CommandVerb.{the_type as command_verb_type}
use Rattle.script_lang.specs.contracts.kinds.KeepVerb.{the_type as keep_verb_type}
use Rattle.script_lang.specs.contracts.kinds.LineVerb.{the_type as line_verb_type}
use Rattle.script_lang.specs.contracts.kinds.QuestionVerb.{the_type as question_verb_type}
use Rattle.script_lang.specs.contracts.kinds.SourceKind.{the_type as source_kind_type}
use Rattle.script_lang.specs.declared.kinds.CommandVerb.{CommandVerb}
use Rattle.script_lang.specs.declared.kinds.CommandVerb.TheVariants as command_verb
use Rattle.script_lang.specs.declared.kinds.KeepVerb.{KeepVerb}
use Rattle.script_lang.specs.declared.kinds.KeepVerb.TheVariants as keep_verb
use Rattle.script_lang.specs.declared.kinds.LineVerb.{LineVerb}
use Rattle.script_lang.specs.declared.kinds.LineVerb.TheVariants as line_verb
use Rattle.script_lang.specs.declared.kinds.QuestionVerb.{QuestionVerb}
use Rattle.script_lang.specs.declared.kinds.QuestionVerb.TheVariants as question_verb
use Rattle.script_lang.specs.declared.kinds.SourceKind.{SourceKind}
use Rattle.script_lang.specs.declared.kinds.SourceKind.TheVariants as source_kind
use Rattle.spelled_words.specs.Tables.{word_of}

-- a word: these bytes as they stand, or hexadecimal digits of these values, or bytes, a colon and digits
pub data Word : Type 0 where
  Exact : List ℕ → Word
  Digits : List ℕ → Word
  Tagged : List ℕ → List ℕ → Word

-- the value of a hexadecimal digit, a letter in either case
abbrev pub hex_value : ℕ → Option ℕ
hex_value c = if nat_le 48 c && nat_le c 57 then Some (c - 48)
    else if nat_le 65 c && nat_le c 70 then Some (c - 55)
    else if nat_le 97 c && nat_le c 102 then Some (c - 87)
    else None

-- a value in front of others, where all are there
abbrev pub with_value : Option ℕ → Option (List ℕ) → Option (List ℕ)
with_value None vs = None
with_value (Some v) None = None
with_value (Some v) (Some vs) = Some (v ∷ vs)

-- the values of hexadecimal digits
unfoldable pub hex_values : List ℕ → Option (List ℕ)
hex_values [] = Some []
hex_values (c ∷ cs) = with_value (hex_value c) (hex_values cs)

-- the hexadecimal digit of a value below 16; a letter is printed in upper case
abbrev pub hex_digit : ℕ → ℕ
hex_digit v = if nat_lt v 10 then 48 + v else 55 + v

-- the text spells this word
abbrev pub IsWord : List ℕ → Word → Type 0
IsWord text (Exact word) = text ≡ word
IsWord text (Digits vs) = hex_values text ≡ Some vs
IsWord text (Tagged tag vs) = (digits : List ℕ) × (text ≡ tag ++ 58 ∷ digits) × (hex_values digits ≡ Some vs)

-- the word as it is printed
abbrev pub word_text : Word → List ℕ
word_text (Exact word) = word
word_text (Digits vs) = map hex_digit vs
word_text (Tagged tag vs) = tag ++ 58 ∷ map hex_digit vs

abbrev pub is_no_space : ℕ → Bool
is_no_space c = not (c == 32)

-- the bytes are one space, this word and the rest
pub record FirstWord (bytes : List ℕ) (word : Word) (rest : List ℕ) : Type 0 where
  pub text : List ℕ
  pub parts : bytes ≡ 32 ∷ (text ++ rest)
  pub spaceless : IsTrue (list_all is_no_space text)
  pub spelled : IsWord text word

-- the bytes are these words and no more, each behind one space
abbrev pub Says : List ℕ → List Word → Type 0
Says bytes [] = bytes ≡ []
Says bytes (w ∷ ws) = (rest : List ℕ) × FirstWord bytes w rest × Says rest ws

-- the printed words, each behind one space
abbrev pub spaced : List Word → List ℕ
spaced [] = []
spaced (w ∷ ws) = 32 ∷ (word_text w ++ spaced ws)

-- the printed words with one space between two
abbrev pub joined : List Word → List ℕ
joined [] = []
joined (w ∷ ws) = word_text w ++ spaced ws

-- ---- tables of words

-- the first words of lines
abbrev pub line_verbs : List (LineVerb × List ℕ)
line_verbs =
    (line_verb.Auto, codes "auto") ∷
    (line_verb.Open, codes "open") ∷
    (line_verb.Close, codes "close") ∷
    (line_verb.Listen, codes "listen") ∷
    (line_verb.Lock, codes "lock") ∷
    (line_verb.Unlock, codes "unlock") ∷
    (line_verb.Submit, codes "submit") ∷
    (line_verb.Cancel, codes "cancel") ∷
    (line_verb.Begin, codes "begin") ∷
    (line_verb.Finish, codes "finish") ∷
    (line_verb.Press, codes "press") ∷
    (line_verb.Tick, codes "tick") ∷
    (line_verb.Ask, codes "ask") ∷
    (line_verb.Off, codes "off") ∷
    (line_verb.Boot, codes "boot") ∷
    (line_verb.Cut, codes "cut") ∷
    (line_verb.Fail, codes "fail") ∷ []

unfoldable pub line_verb_text : LineVerb → List ℕ
line_verb_text = word_of (sameb line_verb_type) line_verbs

-- the first words of commands
abbrev pub command_verbs : List (CommandVerb × List ℕ)
command_verbs =
    (command_verb.GetPin, codes "getpin") ∷
    (command_verb.GetData, codes "getdata") ∷
    (command_verb.KeyEntry, codes "keyentry") ∷
    (command_verb.Maintain, codes "maintain") ∷
    (command_verb.PinBlock, codes "pinblock") ∷
    (command_verb.Import, codes "import") ∷
    (command_verb.Delete, codes "delete") ∷
    (command_verb.Init, codes "init") ∷
    (command_verb.Reset, codes "reset") ∷
    (command_verb.Rsa, codes "rsa") ∷
    (command_verb.Crypt, codes "crypt") ∷
    (command_verb.LocalDes, codes "localdes") ∷
    (command_verb.Extra, codes "extra") ∷ []

unfoldable pub command_verb_text : CommandVerb → List ℕ
command_verb_text = word_of (sameb command_verb_type) command_verbs

-- the first words of questions
abbrev pub question_verbs : List (QuestionVerb × List ℕ)
question_verbs =
    (question_verb.Status, codes "status") ∷
    (question_verb.Key, codes "key") ∷
    (question_verb.Names, codes "names") ∷
    (question_verb.Reply, codes "reply") ∷ []

unfoldable pub question_verb_text : QuestionVerb → List ℕ
question_verb_text = word_of (sameb question_verb_type) question_verbs

-- the first words of what a power cut makes of bytes that were not synced
abbrev pub keep_verbs : List (KeepVerb × List ℕ)
keep_verbs =
    (keep_verb.Old, codes "old") ∷
    (keep_verb.New, codes "new") ∷
    (keep_verb.Fill, codes "fill") ∷ []

unfoldable pub keep_verb_text : KeepVerb → List ℕ
keep_verb_text = word_of (sameb keep_verb_type) keep_verbs

-- the first words of the sources of imports
abbrev pub source_kinds : List (SourceKind × List ℕ)
source_kinds =
    (source_kind.Clear, codes "clear") ∷
    (source_kind.Sealed, codes "sealed") ∷
    (source_kind.Part, codes "part") ∷ []

unfoldable pub source_kind_text : SourceKind → List ℕ
source_kind_text = word_of (sameb source_kind_type) source_kinds

-- the equality of classes
abbrev pub same_classes : Classes → Classes → Bool
same_classes first second = beq first.service second.service && beq first.execute second.execute

-- the words of the classes of events that a session hears
abbrev pub classes_words : List (Classes × List ℕ)
classes_words =
    (record { service = false; execute = false }, codes "none") ∷
    (record { service = true; execute = false }, codes "service") ∷
    (record { service = false; execute = true }, codes "execute") ∷
    (record { service = true; execute = true }, codes "both") ∷ []

unfoldable pub classes_text : Classes → List ℕ
classes_text = word_of same_classes classes_words

-- the words of whether an entry ends by itself at its greatest length
abbrev pub end_words : List (Bool × List ℕ)
end_words =
    (true, codes "auto") ∷
    (false, codes "hold") ∷ []

unfoldable pub end_text : Bool → List ℕ
end_text = word_of beq end_words

-- the words of whether the PIN is kept
abbrev pub switch_words : List (Bool × List ℕ)
switch_words =
    (true, codes "on") ∷
    (false, codes "off") ∷ []

unfoldable pub switch_text : Bool → List ℕ
switch_text = word_of beq switch_words

-- the words of whether a first zero is replaced
abbrev pub zero_words : List (Bool × List ℕ)
zero_words =
    (false, codes "lead") ∷
    (true, codes "nolead") ∷ []

unfoldable pub zero_text : Bool → List ℕ
zero_text = word_of beq zero_words

-- the words of check modes
abbrev pub verify_words : List (Verify × List ℕ)
verify_words =
    (verify.Nothing, codes "none") ∷
    (verify.Own, codes "self") ∷
    (verify.Zero, codes "zero") ∷ []

unfoldable pub verify_text : Verify → List ℕ
verify_text = word_of (sameb verify_type) verify_words

-- the words of the forms of a PIN block
abbrev pub form_words : List (Form × List ℕ)
form_words =
    (forms.Iso0, codes "iso0") ∷
    (forms.Iso1, codes "iso1") ∷
    (forms.Iso2, codes "iso2") ∷
    (forms.Iso3, codes "iso3") ∷
    (forms.Iso4, codes "iso4") ∷
    (forms.Ibm3624, codes "ibm3624") ∷
    (forms.Diebold, codes "diebold") ∷
    (forms.DieboldCo, codes "dieboldco") ∷ []

unfoldable pub form_text : Form → List ℕ
form_text = word_of (sameb form_type) form_words

-- the words of algorithms
abbrev pub algorithm_words : List (Algorithm × List ℕ)
algorithm_words =
    (algorithm.Ecb, codes "ecb") ∷
    (algorithm.Cbc, codes "cbc") ∷
    (algorithm.Cfb, codes "cfb") ∷
    (algorithm.Mac, codes "mac") ∷
    (algorithm.Retail, codes "retail") ∷ []

unfoldable pub algorithm_text : Algorithm → List ℕ
algorithm_text = word_of (sameb algorithm_type) algorithm_words

-- the words of directions
abbrev pub direction_words : List (Direction × List ℕ)
direction_words =
    (direction.Encrypt, codes "encrypt") ∷
    (direction.Decrypt, codes "decrypt") ∷ []

unfoldable pub direction_text : Direction → List ℕ
direction_text = word_of (sameb direction_type) direction_words
