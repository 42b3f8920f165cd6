-- A line read from left to right, word by word.
use Rattle.std.specs.Prelude.{Bool, List, None, Ok, Err, Option, Result, Some, [], bytes_eq, codes, drop, false, if◌then◌else◌, length, nat_le, not, slice_index, take, true, ℕ, ◌%◌, ◌&&◌, ◌*◌, ◌+◌, ◌-◌, ◌/◌, ◌==◌, ◌≡◌, ◌∷◌}
use Rattle.std.specs.Option.{option_map}
use Rattle.std.specs.List.{prefix_len}
use denote.Ref.{Bor}
use Rattle.disk_core.specs.declared.disk.Keep.{Keep}
use Rattle.disk_core.specs.declared.disk.Keep.TheVariants as kept
use Rattle.disk_core.specs.declared.disk.Strike.TheVariants as struck
use Rattle.pad_words.specs.declared.Direction.{Direction}
use Rattle.pad_words.specs.declared.numbers.Session.{Session}
use Rattle.pad_words.specs.Bytes.{packed}
use Rattle.pad_words.specs.Names.{is_key_name}
use Rattle.pad_words.specs.Numbers.{session_of}
use Rattle.pad_words.specs.declared.bytes.Block.{Block}
use Rattle.key_source.specs.KeyWords.{read_key}
use Rattle.key_source.specs.declared.Mask.{Mask}
use Rattle.pad_steps.specs.declared.commands.Algorithm.{Algorithm}
use Rattle.pad_steps.specs.declared.commands.BlockRequest.{BlockRequest}
use Rattle.pad_steps.specs.declared.commands.Command.{Command}
use Rattle.pad_steps.specs.declared.commands.Command.TheVariants as command
use Rattle.pad_steps.specs.Accounts.{all_decimal}
use Rattle.pad_steps.specs.declared.commands.CheckRequest.{CheckRequest}
use Rattle.pad_steps.specs.declared.commands.CryptRequest.{CryptRequest}
use Rattle.pad_steps.specs.declared.commands.EntryRules.{EntryRules}
use Rattle.pad_steps.specs.declared.commands.ExtraRequest.{ExtraRequest}
use Rattle.pad_steps.specs.declared.commands.Form.{Form}
use Rattle.pad_steps.specs.declared.commands.ImportRequest.{ImportRequest}
use Rattle.pad_steps.specs.declared.commands.ImportSource.{ImportSource}
use Rattle.pad_steps.specs.declared.commands.ImportSource.TheVariants as origin
use Rattle.pad_steps.specs.declared.commands.PartRules.{PartRules}
use Rattle.pad_steps.specs.declared.commands.PinRequest.TheVariants as pin
use Rattle.pad_steps.specs.declared.commands.Start.{Start}
use Rattle.pad_steps.specs.declared.commands.Start.TheVariants as started
use Rattle.pad_steps.specs.declared.commands.Verify.{Verify}
use Rattle.pad_steps.specs.declared.steps.Classes.{Classes}
use Rattle.pad_steps.specs.declared.steps.Question.{Question}
use Rattle.pad_steps.specs.declared.steps.Question.TheVariants as question
use Rattle.pad_steps.specs.declared.steps.Step.{Step}
use Rattle.pad_steps.specs.declared.steps.Step.TheVariants as step
use Rattle.script_lang.specs.declared.kinds.Line.{Line}
use Rattle.script_lang.specs.declared.kinds.Line.TheVariants as line
use Rattle.script_lang.specs.declared.kinds.LineFault.{LineFault}
use Rattle.script_lang.specs.declared.kinds.LineFault.TheVariants as fault
use Rattle.script_lang.specs.declared.kinds.CommandVerb.{CommandVerb}
use Rattle.script_lang.specs.declared.kinds.CommandVerb.TheVariants as command_verb
use Rattle.script_lang.specs.declared.kinds.KeepVerb.{KeepVerb}
use Rattle.script_lang.specs.declared.kinds.KeepVerb.TheVariants as keep_verb
use Rattle.script_lang.specs.declared.kinds.LineVerb.{LineVerb}
use Rattle.script_lang.specs.declared.kinds.LineVerb.TheVariants as line_verb
use Rattle.script_lang.specs.declared.kinds.QuestionVerb.{QuestionVerb}
use Rattle.script_lang.specs.declared.kinds.QuestionVerb.TheVariants as question_verb
use Rattle.script_lang.specs.declared.kinds.SourceKind.{SourceKind}
use Rattle.script_lang.specs.declared.kinds.SourceKind.TheVariants as source_kind
use Rattle.script_lang.specs.Words.{algorithm_words, classes_words, command_verbs, direction_words, end_words, form_words, hex_value, hex_values, is_no_space, keep_verbs, line_verbs, question_verbs, source_kinds, switch_words, verify_words, zero_words}
use Rattle.script_lang.specs.Spelling.{is_blank, is_spelled}
use Rattle.spelled_words.specs.Tables.{value_of}

infixl 10 ◌>>=◌
abbrev pub ◌>>=◌ : {A B : Type 0} → Option A → (A → Option B) → Option B
(Some x) >>= f = f x
None >>= f = None

-- ---- words

-- how many bytes stand before the first space
abbrev pub word_len : List ℕ → ℕ
word_len text = prefix_len is_no_space text

-- the word behind a space, and the bytes after it
unfoldable pub next_word : List ℕ → Option (List ℕ × List ℕ)
next_word [] = None
next_word (b ∷ bs) = if b == 32 then Some (take (word_len bs) bs, drop (word_len bs) bs) else None

-- the next word as a field, and what is read after it
abbrev pub with_field : {A B : Type 0} → (List ℕ → Option A) → (A → List ℕ → Option B) → List ℕ → Option B
with_field field after bytes = next_word bytes >>= λ w. field w.0 >>= λ x. after x w.1

-- the value, where no byte is left
abbrev pub ended : {A : Type 0} → A → List ℕ → Option A
ended x bytes = if length bytes == 0 then Some x else None

-- one field, to the line's end
abbrev pub alone : {A : Type 0} → (List ℕ → Option A) → List ℕ → Option A
alone field = with_field field ended

-- ---- fields

-- the value of a decimal digit
abbrev pub decimal_value : ℕ → Option ℕ
decimal_value c = if nat_le 48 c && nat_le c 57 then Some (c - 48) else None

-- the number of digits to this base that stand behind the digits of n
unfoldable pub digits_onto : ℕ → (ℕ → Option ℕ) → ℕ → List ℕ → Option ℕ
digits_onto base value n [] = Some n
digits_onto base value n (c ∷ cs) = value c >>= λ v. digits_onto base value (base * n + v) cs

-- the number of decimal digits
abbrev pub decimal_number : List ℕ → Option ℕ
decimal_number = digits_onto 10 decimal_value 0

-- the number of hexadecimal digits
abbrev pub hex_number : List ℕ → Option ℕ
hex_number = digits_onto 16 hex_value 0

-- there is a first digit, and it is no leading zero
unfoldable pub has_plain_front : List ℕ → Bool
has_plain_front [] = false
has_plain_front (c ∷ []) = true
has_plain_front (c ∷ d ∷ cs) = not (c == 48)

abbrev pub within : ℕ → ℕ → ℕ → Option ℕ
within low high n = if nat_le low n && nat_le n high then Some n else None

-- a number from low to high
unfoldable pub read_number : ℕ → ℕ → List ℕ → Option ℕ
read_number low high word = if has_plain_front word && nat_le (length word) 10 then decimal_number word >>= within low high else None

-- a session's number, 1 to 16
unfoldable pub read_session : List ℕ → Option Session
read_session word = read_number 1 16 word >>= session_of

-- sixteen hexadecimal digits
unfoldable pub read_mask : List ℕ → Option Mask
read_mask word = if length word == 16 then (hex_number (take 8 word) >>= λ k. hex_number (drop 8 word) >>= λ f. Some (record { keys = k; fdks = f })) else None

-- four hexadecimal digits
unfoldable pub read_uses : List ℕ → Option ℕ
read_uses word = if length word == 4 then hex_number word else None

-- one hexadecimal digit
unfoldable pub read_nibble : List ℕ → Option ℕ
read_nibble word = if length word == 1 then hex_value (slice_index word 0) else None

-- from low to high hexadecimal digits
unfoldable pub read_nibbles : ℕ → ℕ → List ℕ → Option (List ℕ)
read_nibbles low high word = if nat_le low (length word) && nat_le (length word) high then hex_values word else None

-- at most so many hexadecimal digits, or `-` for none
unfoldable pub read_nibbles_or_dash : ℕ → List ℕ → Option (List ℕ)
read_nibbles_or_dash high word = if bytes_eq word (codes "-") then Some [] else read_nibbles 1 high word

-- the values, where all are decimal digits
abbrev pub where_decimal : List ℕ → Option (List ℕ)
where_decimal values = if all_decimal values then Some values else None

-- sixteen decimal digits
unfoldable pub read_table : List ℕ → Option (List ℕ)
read_table word = read_nibbles 16 16 word >>= where_decimal

-- at most sixteen decimal digits, or `-` for none
unfoldable pub read_offset : List ℕ → Option (List ℕ)
read_offset word = read_nibbles_or_dash 16 word >>= where_decimal

-- bytes of two hexadecimal digits each
unfoldable pub hex_bytes : List ℕ → Option (List ℕ)
hex_bytes word = option_map packed (hex_values word)

-- from low to high bytes
unfoldable pub read_bytes : ℕ → ℕ → List ℕ → Option (List ℕ)
read_bytes low high word = if (length word % 2 == 0) && nat_le low (length word / 2) && nat_le (length word / 2) high then hex_bytes word else None

-- eight bytes
unfoldable pub read_block : List ℕ → Option Block
read_block word = if length word == 16 then option_map (λ (bytes : List ℕ). record { 0 = bytes }) (hex_bytes word) else None

-- one byte
unfoldable pub read_byte : List ℕ → Option ℕ
read_byte word = if length word == 2 then hex_number word else None

-- at most 1,024 bytes, or `-` for none
unfoldable pub read_body : List ℕ → Option (List ℕ)
read_body word = if bytes_eq word (codes "-") then Some [] else read_bytes 1 1024 word

-- a key's name
unfoldable pub read_name : List ℕ → Option (List ℕ)
read_name word = if is_key_name word then Some word else None

-- what this reader reads, or `-` for none
abbrev pub read_optional : {A : Type 0} → (List ℕ → Option A) → List ℕ → Option (Option A)
read_optional read word = if bytes_eq word (codes "-") then Some None else option_map (λ x. Some x) (read word)

abbrev pub is_no_colon : ℕ → Bool
is_no_colon c = not (c == 58)

-- how many bytes stand before the first colon
abbrev pub tag_len : List ℕ → ℕ
tag_len word = prefix_len is_no_colon word

-- a block, or a block sealed under the key whose name stands before a colon
unfoldable pub read_start_block : List ℕ → List ℕ → Option Start
read_start_block front [] = option_map (λ (block : Block). started.Clear block) (read_block front)
read_start_block front (colon ∷ digits) = read_name front >>= λ name. option_map (λ (block : Block). started.Sealed name block) (read_block digits)

-- a start value, or `-` for zeros
unfoldable pub read_start : List ℕ → Option Start
read_start word = if bytes_eq word (codes "-") then Some started.Zero else read_start_block (take (tag_len word) word) (drop (tag_len word) word)

unfoldable pub read_end : List ℕ → Option Bool
read_end = value_of end_words

unfoldable pub read_switch : List ℕ → Option Bool
read_switch = value_of switch_words

unfoldable pub read_zero : List ℕ → Option Bool
read_zero = value_of zero_words

unfoldable pub read_classes : List ℕ → Option Classes
read_classes = value_of classes_words

unfoldable pub read_verify : List ℕ → Option Verify
read_verify = value_of verify_words

unfoldable pub read_form : List ℕ → Option Form
read_form = value_of form_words

unfoldable pub read_algorithm : List ℕ → Option Algorithm
read_algorithm = value_of algorithm_words

unfoldable pub read_direction : List ℕ → Option Direction
read_direction = value_of direction_words

-- the first word of a line, of what a cut makes of bytes, of a command, of a question and of the source of an import
unfoldable pub read_line_verb : List ℕ → Option LineVerb
read_line_verb = value_of line_verbs

unfoldable pub read_keep_verb : List ℕ → Option KeepVerb
read_keep_verb = value_of keep_verbs

unfoldable pub read_command_verb : List ℕ → Option CommandVerb
read_command_verb = value_of command_verbs

unfoldable pub read_question_verb : List ℕ → Option QuestionVerb
read_question_verb = value_of question_verbs

unfoldable pub read_source_kind : List ℕ → Option SourceKind
read_source_kind = value_of source_kinds

-- ---- rows

unfoldable pub read_only_session : List ℕ → Option Session
read_only_session = alone read_session

unfoldable pub read_only_name : List ℕ → Option (List ℕ)
read_only_name = alone read_name

unfoldable pub read_only_switch : List ℕ → Option Bool
read_only_switch = alone read_switch

unfoldable pub read_rules : List ℕ → Option EntryRules
read_rules = with_field (read_number 0 255) (λ min. with_field (read_number 0 255) (λ max. with_field read_end (λ e. with_field read_mask (λ a. with_field read_mask (λ t.
    ended (record { min = min; max = max; auto_end = e; active = a; terminate = t }))))))

unfoldable pub read_part : List ℕ → Option PartRules
read_part = with_field (read_number 0 255) (λ count. with_field read_end (λ e. with_field read_mask (λ a. with_field read_mask (λ t. with_field read_verify (λ v.
    ended (record { count = count; auto_end = e; active = a; terminate = t; verify = v }))))))

unfoldable pub read_pinblock : List ℕ → Option BlockRequest
read_pinblock = with_field read_form (λ form. with_field read_name (λ key. with_field (read_optional read_name) (λ second. with_field (read_optional read_block) (λ xor. with_field (read_nibbles_or_dash 24) (λ customer. with_field read_nibble (λ pad.
    ended (record { form = form; key = key; second = second; xor = xor; customer = customer; pad = pad })))))))

unfoldable pub read_check : List ℕ → Option CheckRequest
read_check = with_field read_name (λ key. with_field (read_nibbles 1 16) (λ digits. with_field read_nibble (λ pad. with_field read_offset (λ offset. with_field (read_number 0 255) (λ count. with_field read_zero (λ no_zero. with_field read_table (λ table.
    ended (record { key = key; validation = digits; pad = pad; offset = offset; count = count; no_zero = no_zero; table = table }))))))))

unfoldable pub read_extra : List ℕ → Option ExtraRequest
read_extra = with_field (read_number 0 255) (λ kind. with_field read_name (λ key. with_field read_body (λ body. ended (record { kind = kind; key = key; body = body }))))

unfoldable pub read_crypt : List ℕ → Option CryptRequest
read_crypt = with_field read_algorithm (λ a. with_field read_direction (λ d. with_field read_name (λ key. with_field read_start (λ start. with_field read_byte (λ pad. with_field read_body (λ body.
    ended (record { algorithm = a; direction = d; key = key; start = start; pad = pad; body = body })))))))

-- the uses and the check mode behind a source
unfoldable pub read_sourced : List ℕ → ImportSource → List ℕ → Option ImportRequest
read_sourced name source = with_field read_uses (λ uses. with_field read_verify (λ v. ended (record { name = name; source = source; uses = uses; verify = v })))

-- the uses and the check mode, to the line's end
unfoldable pub read_usage : List ℕ → Option (ℕ × Verify)
read_usage = with_field read_uses (λ uses. with_field read_verify (λ v. ended (uses, v)))

-- the import of this name from this source, with its uses and its check mode
abbrev pub import_of : List ℕ → ImportSource → (ℕ × Verify) → ImportRequest
import_of name source usage = record { name = name; source = source; uses = usage.0; verify = usage.1 }

-- an import of this name, behind the first word of its source
abbrev pub source_after : List ℕ → SourceKind → List ℕ → Option ImportRequest
source_after name source_kind.Clear = with_field (read_bytes 1 64) (λ value. read_sourced name (origin.Clear value))
source_after name source_kind.Sealed = with_field read_name (λ key. with_field (read_bytes 1 64) (λ value. read_sourced name (origin.Sealed key value)))
source_after name source_kind.Part = read_sourced name origin.Part

unfoldable pub read_import : List ℕ → Option ImportRequest
read_import = with_field read_name (λ name. with_field read_source_kind (source_after name))

-- a command, behind its first word
abbrev pub command_after : CommandVerb → List ℕ → Option Command
command_after command_verb.GetPin = λ bytes. option_map (λ (rules : EntryRules). command.GetPin rules) (read_rules bytes)
command_after command_verb.GetData = λ bytes. option_map (λ (rules : EntryRules). command.GetData rules) (read_rules bytes)
command_after command_verb.KeyEntry = λ bytes. option_map (λ (rules : PartRules). command.SecureKeyEntry rules) (read_part bytes)
command_after command_verb.Maintain = λ bytes. option_map (λ (on : Bool). command.MaintainPin on) (read_only_switch bytes)
command_after command_verb.PinBlock = λ bytes. option_map (λ (request : BlockRequest). command.Pin (pin.Block request)) (read_pinblock bytes)
command_after command_verb.LocalDes = λ bytes. option_map (λ (request : CheckRequest). command.Pin (pin.Check request)) (read_check bytes)
command_after command_verb.Extra = λ bytes. option_map (λ (request : ExtraRequest). command.Pin (pin.Extra request)) (read_extra bytes)
command_after command_verb.Import = λ bytes. option_map (λ (request : ImportRequest). command.ImportKey request) (read_import bytes)
command_after command_verb.Crypt = λ bytes. option_map (λ (request : CryptRequest). command.Crypt request) (read_crypt bytes)
command_after command_verb.Delete = λ bytes. option_map (λ (name : List ℕ). command.DeleteKey name) (read_only_name bytes)
command_after command_verb.Init = ended command.Init
command_after command_verb.Reset = ended command.Reset
command_after command_verb.Rsa = ended command.RsaImport

unfoldable pub read_command : List ℕ → Option Command
read_command = with_field read_command_verb command_after

-- a question, behind its first word
abbrev pub question_after : QuestionVerb → List ℕ → Option Question
question_after question_verb.Status = ended question.Status
question_after question_verb.Key = with_field read_name (λ name. ended (question.Key name))
question_after question_verb.Names = ended question.Names
question_after question_verb.Reply = with_field (read_number 0 4294967295) (λ id. ended (question.Reply id))

unfoldable pub read_question : List ℕ → Option Question
read_question = with_field read_question_verb question_after

-- what a cut makes of bytes that were not synced, behind its first word
abbrev pub keep_after : KeepVerb → List ℕ → Option Keep
keep_after keep_verb.Old = ended kept.Old
keep_after keep_verb.New = ended kept.New
keep_after keep_verb.Fill = with_field read_byte (λ byte. ended (kept.Fill byte))

unfoldable pub read_keep : List ℕ → Option Keep
read_keep = with_field read_keep_verb keep_after

unfoldable pub read_listen : List ℕ → Option Line
read_listen = with_field read_session (λ s. with_field read_classes (λ c. ended (line.Do (step.Listen s c))))

unfoldable pub read_submit : List ℕ → Option Line
read_submit = with_field read_session (λ s. with_field (read_number 0 1000000) (λ limit bytes. option_map (λ (c : Command). line.Do (step.Submit s limit c)) (read_command bytes)))

unfoldable pub read_cancel : List ℕ → Option Line
read_cancel = with_field read_session (λ s. with_field (read_number 0 4294967295) (λ id. ended (line.Do (step.Cancel s id))))

unfoldable pub read_press : List ℕ → Option Line
read_press = with_field read_key (λ k. ended (line.Do (step.Press k)))

unfoldable pub read_tick : List ℕ → Option Line
read_tick = with_field (read_number 1 1000000) (λ n. ended (line.Do (step.Tick n)))

unfoldable pub read_ask : List ℕ → Option Line
read_ask = with_field read_session (λ s bytes. option_map (λ (asked : Question). line.Do (step.Ask s asked)) (read_question bytes))

unfoldable pub read_cut : List ℕ → Option Line
read_cut = with_field (read_number 1 1000) (λ call bytes. option_map (λ (keep : Keep). line.Arm call (struck.Cut keep)) (read_keep bytes))

unfoldable pub read_fail : List ℕ → Option Line
read_fail = with_field (read_number 1 1000) (λ call. ended (line.Arm call struck.Fail))

-- the line of a step of one session and no more
abbrev pub of_session : (Session → Step) → List ℕ → Option Line
of_session make bytes = option_map (λ (s : Session). line.Do (make s)) (read_only_session bytes)

-- a line, behind its first word
abbrev pub line_after : LineVerb → List ℕ → Option Line
line_after line_verb.Auto = ended line.Auto
line_after line_verb.Open = of_session (λ s. step.Open s)
line_after line_verb.Close = of_session (λ s. step.Close s)
line_after line_verb.Listen = read_listen
line_after line_verb.Lock = of_session (λ s. step.Lock s)
line_after line_verb.Unlock = of_session (λ s. step.Unlock s)
line_after line_verb.Submit = read_submit
line_after line_verb.Cancel = read_cancel
line_after line_verb.Begin = ended (line.Do step.Begin)
line_after line_verb.Finish = ended (line.Do step.Finish)
line_after line_verb.Press = read_press
line_after line_verb.Tick = read_tick
line_after line_verb.Ask = read_ask
line_after line_verb.Off = ended (line.Do step.Off)
line_after line_verb.Boot = ended (line.Do step.Boot)
line_after line_verb.Cut = read_cut
line_after line_verb.Fail = read_fail

-- the line, if its step is one that lines spell
abbrev pub where_spelled : Line → Option Line
where_spelled l = if is_spelled l then Some l else None

-- the line that these bytes spell, if there is one
unfoldable pub line_of : List ℕ → Option Line
line_of bytes = if is_blank bytes then Some line.Blank
    else (read_line_verb (take (word_len bytes) bytes) >>= λ verb. line_after verb (drop (word_len bytes) bytes)) >>= where_spelled

-- a word and the rest that were found, without where they lie
abbrev pub IsNextWord : Option (Bor (List ℕ) × Bor (List ℕ)) → Option (List ℕ × List ℕ) → Type 0
IsNextWord None read = read ≡ None
IsNextWord (Some x) read = read ≡ Some (x.0.now, x.1.now)

-- Outside is that there is no reading; want of memory says nothing
abbrev pub Refuses : {X : Type 0} → LineFault → Option X → Type 0
Refuses fault.Outside read = read ≡ None
Refuses fault.NoMemory read = Unit {0}

-- a value that was read is the reading, and a refusal is as its fault says
abbrev pub Gives : {X : Type 0} → Result X LineFault → Option X → Type 0
Gives (Ok x) read = read ≡ Some x
Gives (Err e) read = Refuses e read
