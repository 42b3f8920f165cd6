-- The words of each line, and the text that is printed of a step.
use Rattle.std.specs.Prelude.{Bool, IsTrue, List, None, Option, Some, [], codes, if◌then◌else◌, length, nat_le, nat_lt, true, ℕ, ◌%◌, ◌&&◌, ◌++◌, ◌/◌, ◌==◌, ◌∷◌}
use Rattle.std.specs.Fmt.{decimal}
use Rattle.disk_core.specs.declared.disk.Keep.{Keep}
use Rattle.disk_core.specs.declared.disk.Keep.TheVariants as kept
use Rattle.disk_core.specs.declared.disk.Strike.{Strike}
use Rattle.disk_core.specs.declared.disk.Strike.TheVariants as struck
use Rattle.pad_words.specs.declared.numbers.Session.{Session}
use Rattle.key_source.specs.KeyWords.{key_text}
use Rattle.key_source.specs.declared.Key.{Key}
use Rattle.key_source.specs.declared.Mask.{Mask}
use Rattle.pad_words.specs.Bytes.{unpacked}
use Rattle.pad_words.specs.declared.Direction.{Direction}
use Rattle.pad_words.specs.declared.bytes.Block.{Block}
use Rattle.pad_steps.specs.declared.commands.Algorithm.{Algorithm}
use Rattle.pad_steps.specs.declared.commands.BlockRequest.{BlockRequest}
use Rattle.pad_steps.specs.declared.commands.Command.{Command}
use Rattle.pad_steps.specs.declared.commands.Command.TheVariants as command
use Rattle.pad_steps.specs.declared.commands.CheckRequest.{CheckRequest}
use Rattle.pad_steps.specs.declared.commands.CryptRequest.{CryptRequest}
use Rattle.pad_steps.specs.declared.commands.EntryRules.{EntryRules}
use Rattle.pad_steps.specs.declared.commands.ExtraRequest.{ExtraRequest}
use Rattle.pad_steps.specs.declared.commands.Form.{Form}
use Rattle.pad_steps.specs.declared.commands.ImportRequest.{ImportRequest}
use Rattle.pad_steps.specs.declared.commands.ImportSource.{ImportSource}
use Rattle.pad_steps.specs.declared.commands.ImportSource.TheVariants as origin
use Rattle.pad_steps.specs.declared.commands.PartRules.{PartRules}
use Rattle.pad_steps.specs.declared.commands.PinRequest.{PinRequest}
use Rattle.pad_steps.specs.declared.commands.PinRequest.TheVariants as pin
use Rattle.pad_steps.specs.declared.commands.Start.{Start}
use Rattle.pad_steps.specs.declared.commands.Start.TheVariants as started
use Rattle.pad_steps.specs.declared.commands.Verify.{Verify}
use Rattle.pad_steps.specs.declared.steps.Classes.{Classes}
use Rattle.pad_steps.specs.declared.steps.Question.{Question}
use Rattle.pad_steps.specs.declared.steps.Question.TheVariants as question
use Rattle.pad_steps.specs.declared.steps.Step.{Step}
use Rattle.pad_steps.specs.declared.steps.Step.TheVariants as step
use Rattle.pad_steps.specs.Formed.{is_well_formed}
use Rattle.script_lang.specs.declared.kinds.Line.{Line}
use Rattle.script_lang.specs.declared.kinds.Line.TheVariants as line
use Rattle.script_lang.specs.declared.kinds.CommandVerb.{CommandVerb}
use Rattle.script_lang.specs.declared.kinds.CommandVerb.TheVariants as command_verb
use Rattle.script_lang.specs.declared.kinds.KeepVerb.{KeepVerb}
use Rattle.script_lang.specs.declared.kinds.KeepVerb.TheVariants as keep_verb
use Rattle.script_lang.specs.declared.kinds.LineVerb.{LineVerb}
use Rattle.script_lang.specs.declared.kinds.LineVerb.TheVariants as line_verb
use Rattle.script_lang.specs.declared.kinds.QuestionVerb.{QuestionVerb}
use Rattle.script_lang.specs.declared.kinds.QuestionVerb.TheVariants as question_verb
use Rattle.script_lang.specs.declared.kinds.SourceKind.{SourceKind}
use Rattle.script_lang.specs.declared.kinds.SourceKind.TheVariants as source_kind
use Rattle.script_lang.specs.Words.{Digits, Exact, Says, Tagged, Word, algorithm_text, classes_text, command_verb_text, direction_text, end_text, form_text, joined, keep_verb_text, line_verb_text, question_verb_text, source_kind_text, switch_text, verify_text, zero_text}

-- ---- fields

-- decimal digits, without a leading zero
abbrev pub number_word : ℕ → Word
number_word n = Exact (decimal n)

abbrev pub session_word : Session → Word
session_word s = number_word s.number

-- the four half bytes of a number of 16 bits, the most significant first
abbrev pub four_values : ℕ → List ℕ
four_values n = n / 4096 ∷ (n / 256) % 16 ∷ (n / 16) % 16 ∷ n % 16 ∷ []

-- the eight half bytes of a number of 32 bits, the most significant first
abbrev pub eight_values : ℕ → List ℕ
eight_values n = four_values (n / 65536) ++ four_values (n % 65536)

-- the sixteen half bytes of a mask: the key bits, and then the bits of the function keys
unfoldable pub mask_values : Mask → List ℕ
mask_values m = eight_values m.keys ++ eight_values m.fdks

-- sixteen hexadecimal digits
abbrev pub mask_word : Mask → Word
mask_word m = Digits (mask_values m)

abbrev pub key_word : Key → Word
key_word k = Exact (key_text k)

-- words of few values
abbrev pub classes_word : Classes → Word
classes_word classes = Exact (classes_text classes)

abbrev pub end_word : Bool → Word
end_word auto_end = Exact (end_text auto_end)

abbrev pub switch_word : Bool → Word
switch_word on = Exact (switch_text on)

abbrev pub zero_word : Bool → Word
zero_word no_zero = Exact (zero_text no_zero)

abbrev pub verify_word : Verify → Word
verify_word mode = Exact (verify_text mode)

abbrev pub form_word : Form → Word
form_word form = Exact (form_text form)

abbrev pub algorithm_word : Algorithm → Word
algorithm_word a = Exact (algorithm_text a)

abbrev pub direction_word : Direction → Word
direction_word d = Exact (direction_text d)

-- the first word of a line, of what a cut makes of bytes, of a command, of a question and of the source of an import
abbrev pub line_verb_word : LineVerb → Word
line_verb_word verb = Exact (line_verb_text verb)

abbrev pub keep_verb_word : KeepVerb → Word
keep_verb_word verb = Exact (keep_verb_text verb)

abbrev pub command_verb_word : CommandVerb → Word
command_verb_word verb = Exact (command_verb_text verb)

abbrev pub question_verb_word : QuestionVerb → Word
question_verb_word verb = Exact (question_verb_text verb)

abbrev pub source_kind_word : SourceKind → Word
source_kind_word kind = Exact (source_kind_text kind)

-- a key's name, as it stands
abbrev pub name_word : List ℕ → Word
name_word name = Exact name

-- the word of a value, or `-` where there is none
abbrev pub optional_word : {A : Type 0} → (A → Word) → Option A → Word
optional_word word None = Exact (codes "-")
optional_word word (Some x) = word x

-- two hexadecimal digits for each byte
abbrev pub bytes_word : List ℕ → Word
bytes_word bytes = Digits (unpacked bytes)

abbrev pub block_word : Block → Word
block_word block = bytes_word block.0

-- one hexadecimal digit
abbrev pub nibble_word : ℕ → Word
nibble_word value = Digits (value ∷ [])

-- a hexadecimal digit for each half byte, or `-` where there is none
abbrev pub nibbles_word : List ℕ → Word
nibbles_word [] = Exact (codes "-")
nibbles_word (value ∷ values) = Digits (value ∷ values)

-- four hexadecimal digits
abbrev pub uses_word : ℕ → Word
uses_word uses = Digits (four_values uses)

-- a start value: `-` for zeros, a block, or a key's name, a colon and the block sealed under that key
abbrev pub start_word : Start → Word
start_word started.Zero = Exact (codes "-")
start_word (started.Clear block) = block_word block
start_word (started.Sealed name block) = Tagged name (unpacked block.0)

-- two hexadecimal digits
abbrev pub byte_word : ℕ → Word
byte_word byte = bytes_word (byte ∷ [])

-- two hexadecimal digits for each byte, or `-` where there is none
abbrev pub body_word : List ℕ → Word
body_word [] = Exact (codes "-")
body_word (byte ∷ bytes) = bytes_word (byte ∷ bytes)

-- ---- commands

-- least and greatest length, the end, the active and the terminating keys
abbrev pub rules_words : EntryRules → List Word
rules_words r = number_word r.min ∷ number_word r.max ∷ end_word r.auto_end ∷ mask_word r.active ∷ mask_word r.terminate ∷ []

-- count of digits, the end, the active and the terminating keys, the check mode
abbrev pub part_words : PartRules → List Word
part_words r = number_word r.count ∷ end_word r.auto_end ∷ mask_word r.active ∷ mask_word r.terminate ∷ verify_word r.verify ∷ []

-- the form, the key, the second key, what is XORed, the customer data, the padding digit
abbrev pub block_words : BlockRequest → List Word
block_words r = form_word r.form ∷ name_word r.key ∷ optional_word name_word r.second ∷ optional_word block_word r.xor ∷ nibbles_word r.customer ∷ nibble_word r.pad ∷ []

-- where a key's value comes from
abbrev pub source_words : ImportSource → List Word
source_words (origin.Clear value) = source_kind_word source_kind.Clear ∷ bytes_word value ∷ []
source_words (origin.Sealed name value) = source_kind_word source_kind.Sealed ∷ name_word name ∷ bytes_word value ∷ []
source_words origin.Part = source_kind_word source_kind.Part ∷ []

-- the source, the uses, the check mode
abbrev pub sourced_words : ImportRequest → List Word
sourced_words r = source_words r.source ++ uses_word r.uses ∷ verify_word r.verify ∷ []

-- the name, and what is behind it
abbrev pub import_words : ImportRequest → List Word
import_words r = name_word r.name ∷ sourced_words r

-- the algorithm, the direction, the key, the start value, the padding byte, the bytes
abbrev pub crypt_words : CryptRequest → List Word
crypt_words r = algorithm_word r.algorithm ∷ direction_word r.direction ∷ name_word r.key ∷ start_word r.start ∷ byte_word r.pad ∷ body_word r.body ∷ []

-- the key, the validation data, the padding digit, the offset, the count of digits, whether a first zero is replaced, the table
abbrev pub check_words : CheckRequest → List Word
check_words r = name_word r.key ∷ Digits r.validation ∷ nibble_word r.pad ∷ nibbles_word r.offset ∷ number_word r.count ∷ zero_word r.no_zero ∷ Digits r.table ∷ []

-- the kind, the key, the bytes
abbrev pub extra_words : ExtraRequest → List Word
extra_words r = number_word r.kind ∷ name_word r.key ∷ body_word r.body ∷ []

abbrev pub pin_words : PinRequest → List Word
pin_words (pin.Block request) = command_verb_word command_verb.PinBlock ∷ block_words request
pin_words (pin.Check request) = command_verb_word command_verb.LocalDes ∷ check_words request
pin_words (pin.Extra request) = command_verb_word command_verb.Extra ∷ extra_words request

abbrev pub command_words : Command → List Word
command_words (command.GetPin rules) = command_verb_word command_verb.GetPin ∷ rules_words rules
command_words (command.GetData rules) = command_verb_word command_verb.GetData ∷ rules_words rules
command_words (command.SecureKeyEntry rules) = command_verb_word command_verb.KeyEntry ∷ part_words rules
command_words (command.MaintainPin on) = command_verb_word command_verb.Maintain ∷ switch_word on ∷ []
command_words (command.Pin request) = pin_words request
command_words (command.ImportKey request) = command_verb_word command_verb.Import ∷ import_words request
command_words (command.DeleteKey name) = command_verb_word command_verb.Delete ∷ name_word name ∷ []
command_words command.Init = command_verb_word command_verb.Init ∷ []
command_words command.Reset = command_verb_word command_verb.Reset ∷ []
command_words command.RsaImport = command_verb_word command_verb.Rsa ∷ []
command_words (command.Crypt request) = command_verb_word command_verb.Crypt ∷ crypt_words request

-- ---- steps

abbrev pub question_words : Question → List Word
question_words question.Status = question_verb_word question_verb.Status ∷ []
question_words (question.Key name) = question_verb_word question_verb.Key ∷ name_word name ∷ []
question_words question.Names = question_verb_word question_verb.Names ∷ []
question_words (question.Reply id) = question_verb_word question_verb.Reply ∷ number_word id ∷ []

abbrev pub step_words : Step → List Word
step_words (step.Open s) = line_verb_word line_verb.Open ∷ session_word s ∷ []
step_words (step.Close s) = line_verb_word line_verb.Close ∷ session_word s ∷ []
step_words (step.Listen s classes) = line_verb_word line_verb.Listen ∷ session_word s ∷ classes_word classes ∷ []
step_words (step.Lock s) = line_verb_word line_verb.Lock ∷ session_word s ∷ []
step_words (step.Unlock s) = line_verb_word line_verb.Unlock ∷ session_word s ∷ []
step_words (step.Submit s limit c) = line_verb_word line_verb.Submit ∷ session_word s ∷ number_word limit ∷ command_words c
step_words (step.Cancel s id) = line_verb_word line_verb.Cancel ∷ session_word s ∷ number_word id ∷ []
step_words step.Begin = line_verb_word line_verb.Begin ∷ []
step_words step.Finish = line_verb_word line_verb.Finish ∷ []
step_words (step.Press key) = line_verb_word line_verb.Press ∷ key_word key ∷ []
step_words (step.Tick n) = line_verb_word line_verb.Tick ∷ number_word n ∷ []
step_words (step.Ask s asked) = line_verb_word line_verb.Ask ∷ session_word s ∷ question_words asked
step_words step.Off = line_verb_word line_verb.Off ∷ []
step_words step.Boot = line_verb_word line_verb.Boot ∷ []

-- ---- lines

-- what a cut makes of bytes that were not synced
abbrev pub keep_words : Keep → List Word
keep_words kept.Old = keep_verb_word keep_verb.Old ∷ []
keep_words kept.New = keep_verb_word keep_verb.New ∷ []
keep_words (kept.Fill byte) = keep_verb_word keep_verb.Fill ∷ byte_word byte ∷ []

-- the number of the call that is struck, and how
abbrev pub arming_words : ℕ → Strike → List Word
arming_words call struck.Fail = line_verb_word line_verb.Fail ∷ number_word call ∷ []
arming_words call (struck.Cut keep) = line_verb_word line_verb.Cut ∷ number_word call ∷ keep_words keep

abbrev pub line_words : Line → List Word
line_words line.Blank = []
line_words line.Auto = line_verb_word line_verb.Auto ∷ []
line_words (line.Do s) = step_words s
line_words (line.Arm call strike) = arming_words call strike

-- what fills is a byte
abbrev pub is_keep : Keep → Bool
is_keep (kept.Fill byte) = nat_lt byte 256
is_keep other = true

abbrev pub is_strike : Strike → Bool
is_strike struck.Fail = true
is_strike (struck.Cut keep) = is_keep keep

-- nothing, `auto`, a step that lines spell, or one of the next thousand calls and its strike
abbrev pub is_spelled : Line → Bool
is_spelled line.Blank = true
is_spelled line.Auto = true
is_spelled (line.Do s) = is_well_formed s
is_spelled (line.Arm call strike) = nat_le 1 call && nat_le call 1000 && is_strike strike

-- no byte, or a comment, which begins with `#` and has at most 4,096 bytes; lines of other kinds are shorter
abbrev pub is_blank : List ℕ → Bool
is_blank [] = true
is_blank (c ∷ cs) = (c == 35) && nat_lt (length cs) 4096

-- the bytes are the line's words with one space between two, and nothing else; any comment is a blank line
abbrev pub LineSays : List ℕ → Line → Type 0
LineSays bytes line.Blank = IsTrue (is_blank bytes)
LineSays bytes other = Says (32 ∷ bytes) (line_words other)

-- the bytes, without their line feed, spell this line
abbrev pub Spells : List ℕ → Line → Type 0
Spells bytes l = IsTrue (is_spelled l) × LineSays bytes l

-- ---- printed text

-- a step as it is printed
unfoldable pub step_text : Step → List ℕ
step_text s = joined (step_words s)

-- the step, or nothing where it is a press whose key must not be told
abbrev pub unless_masked : Bool → Step → Option Step
unless_masked masked s = if masked then None else Some s

-- a step as a line shows it, or a press whose key is masked
unfoldable pub shown_text : Option Step → List ℕ
shown_text None = line_verb_text line_verb.Press ++ codes " *"
shown_text (Some s) = step_text s
