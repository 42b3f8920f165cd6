-- What form a step has: the ranges of its numbers and the lengths of its lists. A line of the script spells just the steps that have it.
use Rattle.key_source.specs.Keys.{is_key}
use Rattle.key_source.specs.declared.Mask.{Mask}
use Rattle.pad_steps.specs.Accounts.{all_decimal}
use Rattle.pad_steps.specs.declared.commands.BlockRequest.{BlockRequest}
use Rattle.pad_steps.specs.declared.commands.CheckRequest.{CheckRequest}
use Rattle.pad_steps.specs.declared.commands.Command.{Command}
use Rattle.pad_steps.specs.declared.commands.Command.TheVariants as command
use Rattle.pad_steps.specs.declared.commands.CryptRequest.{CryptRequest}
use Rattle.pad_steps.specs.declared.commands.EntryRules.{EntryRules}
use Rattle.pad_steps.specs.declared.commands.ExtraRequest.{ExtraRequest}
use Rattle.pad_steps.specs.declared.commands.ImportRequest.{ImportRequest}
use Rattle.pad_steps.specs.declared.commands.ImportSource.{ImportSource}
use Rattle.pad_steps.specs.declared.commands.ImportSource.TheVariants as origin
use Rattle.pad_steps.specs.declared.commands.PartRules.{PartRules}
use Rattle.pad_steps.specs.declared.commands.PinRequest.{PinRequest}
use Rattle.pad_steps.specs.declared.commands.PinRequest.TheVariants as pin
use Rattle.pad_steps.specs.declared.commands.Start.{Start}
use Rattle.pad_steps.specs.declared.commands.Start.TheVariants as started
use Rattle.pad_steps.specs.declared.steps.Question.{Question}
use Rattle.pad_steps.specs.declared.steps.Question.TheVariants as question
use Rattle.pad_steps.specs.declared.steps.Step.{Step}
use Rattle.pad_steps.specs.declared.steps.Step.TheVariants as step
use Rattle.pad_words.specs.Names.{is_key_name}
use Rattle.pad_words.specs.declared.bytes.Block.{Block}
use Rattle.pad_words.specs.declared.numbers.Session.{Session}
use Rattle.std.specs.List.{list_all}
use Rattle.std.specs.Prelude.{Bool, List, None, Option, Some, false, length, nat_le, nat_lt, true, ℕ, ◌&&◌, ◌==◌, ◌≡◌}

-- each is a byte
abbrev pub all_bytes : List ℕ → Bool
all_bytes values = list_all (λ value. nat_lt value 256) values

-- each is a nibble
abbrev pub all_nibbles : List ℕ → Bool
all_nibbles values = list_all (λ value. nat_lt value 16) values

-- a number of 32 bits
abbrev pub is_word : ℕ → Bool
is_word number = nat_lt number 4294967296

-- two numbers of 32 bits
abbrev pub is_mask : Mask → Bool
is_mask mask = is_word mask.keys && is_word mask.fdks

-- the rules of the entry of a PIN or of data: lengths of 0 to 255
abbrev pub is_entry : EntryRules → Bool
is_entry rules = nat_lt rules.min 256 && nat_lt rules.max 256 && is_mask rules.active && is_mask rules.terminate

-- the rules of the entry of a key part: a length of 0 to 255
abbrev pub is_part_entry : PartRules → Bool
is_part_entry rules = nat_lt rules.count 256 && is_mask rules.active && is_mask rules.terminate

-- eight bytes
abbrev pub is_block : Block → Bool
is_block block = (length block.0 == 8) && all_bytes block.0

-- eight bytes, or none
abbrev pub is_optional_block : Option Block → Bool
is_optional_block None = true
is_optional_block (Some block) = is_block block

-- a name, or none
abbrev pub is_optional_name : Option (List ℕ) → Bool
is_optional_name None = true
is_optional_name (Some name) = is_key_name name

-- a PIN block under one key or two, with any customer data of at most 24 nibbles
abbrev pub is_block_request : BlockRequest → Bool
is_block_request request = is_key_name request.key && is_optional_name request.second && is_optional_block request.xor
    && nat_le (length request.customer) 24 && all_nibbles request.customer && nat_le request.pad 15

-- a check: 1 to 16 nibbles of validation data, an offset of at most 16 digits, and a table of 16 digits
abbrev pub is_check_request : CheckRequest → Bool
is_check_request request = is_key_name request.key && nat_le 1 (length request.validation) && nat_le (length request.validation) 16 && all_nibbles request.validation
    && nat_le request.pad 15 && nat_le (length request.offset) 16 && all_decimal request.offset && nat_lt request.count 256
    && (length request.table == 16) && all_decimal request.table

-- at most 1,024 bytes
abbrev pub is_body : List ℕ → Bool
is_body values = nat_le (length values) 1024 && all_bytes values

-- a PIN command that is neither a block nor a check: its kind, and its body
abbrev pub is_extra_request : ExtraRequest → Bool
is_extra_request request = nat_lt request.kind 256 && is_key_name request.key && is_body request.body

-- a PIN command
abbrev pub is_pin_request : PinRequest → Bool
is_pin_request (pin.Block request) = is_block_request request
is_pin_request (pin.Check request) = is_check_request request
is_pin_request (pin.Extra request) = is_extra_request request

-- the command is neither a block nor a check
abbrev pub is_extra : PinRequest → Bool
is_extra (pin.Extra request) = true
is_extra other = false

-- no start value, or eight bytes, in clear or sealed under a key
abbrev pub is_start : Start → Bool
is_start started.Zero = true
is_start (started.Clear block) = is_block block
is_start (started.Sealed name block) = is_key_name name && is_block block

-- CRYPT: any algorithm, start value and padding byte, and at most 1,024 bytes
abbrev pub is_crypt_request : CryptRequest → Bool
is_crypt_request request = is_key_name request.key && is_start request.start && nat_lt request.pad 256 && is_body request.body

-- 1 to 64 bytes, whether or not a key may be so long
abbrev pub is_value : List ℕ → Bool
is_value value = nat_le 1 (length value) && nat_le (length value) 64 && all_bytes value

-- a value in clear, one that is sealed under a key, or the part buffer
abbrev pub is_source : ImportSource → Bool
is_source (origin.Clear value) = is_value value
is_source (origin.Sealed name value) = is_key_name name && is_value value
is_source origin.Part = true

-- an import, with any word of uses
abbrev pub is_import_request : ImportRequest → Bool
is_import_request request = is_key_name request.name && is_source request.source && nat_lt request.uses 65536

-- the form of a command
abbrev pub is_well_formed_command : Command → Bool
is_well_formed_command (command.GetPin rules) = is_entry rules
is_well_formed_command (command.GetData rules) = is_entry rules
is_well_formed_command (command.SecureKeyEntry rules) = is_part_entry rules
is_well_formed_command (command.Pin request) = is_pin_request request
is_well_formed_command (command.Crypt request) = is_crypt_request request
is_well_formed_command (command.ImportKey request) = is_import_request request
is_well_formed_command (command.DeleteKey name) = is_key_name name
is_well_formed_command other = true

-- the form of a question
abbrev pub is_question : Question → Bool
is_question (question.Key name) = is_key_name name
is_question (question.Reply id) = is_word id
is_question other = true

-- the form of a step: a limit of at most 1,000,000 ticks, a tick of 1 to 1,000,000, and the forms of commands, keys and questions
abbrev pub is_well_formed : Step → Bool
is_well_formed (step.Submit session limit command) = nat_le limit 1000000 && is_well_formed_command command
is_well_formed (step.Cancel session id) = is_word id
is_well_formed (step.Press key) = is_key key
is_well_formed (step.Tick ticks) = nat_le 1 ticks && nat_le ticks 1000000
is_well_formed (step.Ask session question) = is_question question
is_well_formed other = true

-- ---- laws

last_holds : (a b : Bool) → (a && b) ≡ true → b ≡ true
last_holds true b e = e
last_holds false b e = absurd cc

-- a Submit that is well formed has a command that is
pub is_well_formed_command-submit : (session : Session) (limit : ℕ) (command : Command) → is_well_formed (step.Submit session limit command) ≡ true → is_well_formed_command command ≡ true
is_well_formed_command-submit session limit command formed = last_holds (nat_le limit 1000000) (is_well_formed_command command) formed
