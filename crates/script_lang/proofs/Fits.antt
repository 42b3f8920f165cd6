-- The values that the readers give, and that a line that is spelled has such values.
use Rattle.std.proofs.Common.{◌≡◌, ◌≤◌, ◌<◌, ℕ, List, [], ◌∷◌, length, Option, Some, None, true, eqb, arith, ◌^◌, rules}
use Rattle.std.specs.Prelude.{◌&&◌, IsTrue, nat_le, nat_lt}
use Rattle.std.specs.List.{AllByRecursion}
use Rattle.std.proofs.lemmas.Bool.{eqb-true, ltb-true}
use Rattle.std.proofs.lemmas.Bool.Decides.{nat_tests}
use Rattle.disk_core.specs.declared.disk.Keep.{Keep}
use Rattle.disk_core.specs.declared.disk.Keep.TheVariants as kept
use Rattle.disk_core.specs.declared.disk.Strike.{Strike}
use Rattle.disk_core.specs.declared.disk.Strike.TheVariants as struck
use Rattle.pad_words.specs.Names.{is_key_name}
use Rattle.pad_words.specs.declared.bytes.Block.{Block}
use Rattle.key_source.specs.Keys.{is_key}
use Rattle.key_source.specs.declared.Key.{Key}
use Rattle.key_source.specs.declared.Mask.{Mask}
use Rattle.script_lang.specs.Spelling.{is_spelled, is_strike}
use Rattle.pad_steps.specs.declared.commands.BlockRequest.{BlockRequest}
use Rattle.pad_steps.specs.declared.commands.CheckRequest.{CheckRequest}
use Rattle.pad_steps.specs.declared.commands.CryptRequest.{CryptRequest}
use Rattle.pad_steps.specs.declared.commands.EntryRules.{EntryRules}
use Rattle.pad_steps.specs.declared.commands.ExtraRequest.{ExtraRequest}
use Rattle.pad_steps.specs.declared.commands.ImportRequest.{ImportRequest}
use Rattle.pad_steps.specs.declared.commands.ImportSource.{ImportSource}
use Rattle.pad_steps.specs.declared.commands.ImportSource.TheVariants as origin
use Rattle.pad_steps.specs.declared.commands.PartRules.{PartRules}
use Rattle.pad_steps.specs.declared.commands.PinRequest.{PinRequest}
use Rattle.pad_steps.specs.declared.commands.PinRequest.TheVariants as pin
use Rattle.pad_steps.specs.declared.commands.Start.{Start}
use Rattle.pad_steps.specs.declared.commands.Start.TheVariants as started
use Rattle.pad_steps.specs.declared.commands.Command.{Command}
use Rattle.pad_steps.specs.declared.steps.Question.{Question}
use Rattle.pad_steps.specs.declared.steps.Question.TheVariants as question
use Rattle.pad_steps.specs.declared.steps.Step.{Step}
use Rattle.pad_steps.specs.Accounts.{all_decimal}
use Rattle.pad_steps.specs.Formed.{all_bytes, all_nibbles, is_block, is_block_request, is_body, is_check_request, is_crypt_request, is_entry, is_extra_request, is_import_request, is_mask, is_optional_block, is_optional_name, is_part_entry, is_pin_request, is_question, is_source, is_start, is_value, is_well_formed, is_well_formed_command, is_word}
use Rattle.script_lang.specs.declared.kinds.Line.{Line}
use Rattle.pad_steps.specs.declared.commands.Command.TheVariants as command
use Rattle.pad_steps.specs.declared.steps.Step.TheVariants as step
use Rattle.script_lang.specs.declared.kinds.Line.TheVariants as line
use Rattle.script_lang.proofs.Options.{both_true}

abbrev pub MaskFits : Mask → Type 0
MaskFits m = (m.keys < 2 ^ 32) × (m.fdks < 2 ^ 32)

abbrev pub KeyFits : Key → Type 0
KeyFits key = IsTrue (is_key key)

abbrev pub RulesFit : EntryRules → Type 0
RulesFit r = (r.min < 256) × (r.max < 256) × MaskFits r.active × MaskFits r.terminate

abbrev pub PartFits : PartRules → Type 0
PartFits r = (r.count < 256) × MaskFits r.active × MaskFits r.terminate

abbrev pub IsNibble : ℕ → Type 0
IsNibble value = value < 16

abbrev pub IsByte : ℕ → Type 0
IsByte value = value < 256

abbrev pub NameFits : List ℕ → Type 0
NameFits name = IsTrue (is_key_name name)

-- from low to high half bytes
abbrev pub NibblesFit : ℕ → ℕ → List ℕ → Type 0
NibblesFit low high values = (low ≤ length values) × (length values ≤ high) × AllByRecursion IsNibble values

-- from low to high decimal digits
abbrev pub DecimalsFit : ℕ → ℕ → List ℕ → Type 0
DecimalsFit low high values = NibblesFit low high values × IsTrue (all_decimal values)

-- from low to high bytes
abbrev pub BytesFit : ℕ → ℕ → List ℕ → Type 0
BytesFit low high bytes = (low ≤ length bytes) × (length bytes ≤ high) × AllByRecursion IsByte bytes

abbrev pub BlockFits : Block → Type 0
BlockFits block = (length block.0 ≡ 8) × AllByRecursion IsByte block.0

abbrev pub UsesFit : ℕ → Type 0
UsesFit uses = uses < 65536

-- none, or one that fits
abbrev pub OptionFits : {A : Type 0} → (A → Type 0) → Option A → Type 0
OptionFits Fits None = Unit {0}
OptionFits Fits (Some x) = Fits x

abbrev pub RequestFits : BlockRequest → Type 0
RequestFits r = NameFits r.key × OptionFits NameFits r.second × OptionFits BlockFits r.xor × NibblesFit 0 24 r.customer × IsNibble r.pad

abbrev pub SourceFits : ImportSource → Type 0
SourceFits (origin.Clear value) = BytesFit 1 64 value
SourceFits (origin.Sealed name value) = NameFits name × BytesFit 1 64 value
SourceFits origin.Part = Unit {0}

abbrev pub ImportFits : ImportRequest → Type 0
ImportFits r = NameFits r.name × SourceFits r.source × UsesFit r.uses

abbrev pub StartFits : Start → Type 0
StartFits started.Zero = Unit {0}
StartFits (started.Clear block) = BlockFits block
StartFits (started.Sealed name block) = NameFits name × BlockFits block

abbrev pub CryptFits : CryptRequest → Type 0
CryptFits r = NameFits r.key × StartFits r.start × IsByte r.pad × BytesFit 0 1024 r.body

abbrev pub CheckFits : CheckRequest → Type 0
CheckFits r = NameFits r.key × NibblesFit 1 16 r.validation × IsNibble r.pad × DecimalsFit 0 16 r.offset × IsByte r.count × DecimalsFit 16 16 r.table

abbrev pub ExtraFits : ExtraRequest → Type 0
ExtraFits r = IsByte r.kind × NameFits r.key × BytesFit 0 1024 r.body

abbrev pub PinFits : PinRequest → Type 0
PinFits (pin.Block request) = RequestFits request
PinFits (pin.Check request) = CheckFits request
PinFits (pin.Extra request) = ExtraFits request

abbrev pub CommandFits : Command → Type 0
CommandFits (command.GetPin rules) = RulesFit rules
CommandFits (command.GetData rules) = RulesFit rules
CommandFits (command.SecureKeyEntry rules) = PartFits rules
CommandFits (command.Pin request) = PinFits request
CommandFits (command.Crypt request) = CryptFits request
CommandFits (command.ImportKey request) = ImportFits request
CommandFits (command.DeleteKey name) = NameFits name
CommandFits other = Unit {0}

abbrev pub IdFits : ℕ → Type 0
IdFits id = id ≤ 4294967295

abbrev pub QuestionFits : Question → Type 0
QuestionFits (question.Key name) = NameFits name
QuestionFits (question.Reply id) = IdFits id
QuestionFits other = Unit {0}

abbrev pub StepFits : Step → Type 0
StepFits (step.Submit s limit c) = (limit ≤ 1000000) × CommandFits c
StepFits (step.Cancel s id) = IdFits id
StepFits (step.Press key) = KeyFits key
StepFits (step.Tick n) = (1 ≤ n) × (n ≤ 1000000)
StepFits (step.Ask s asked) = QuestionFits asked
StepFits other = Unit {0}

abbrev pub KeepFits : Keep → Type 0
KeepFits (kept.Fill byte) = IsByte byte
KeepFits other = Unit {0}

abbrev pub StrikeFits : Strike → Type 0
StrikeFits struck.Fail = Unit {0}
StrikeFits (struck.Cut keep) = KeepFits keep

abbrev pub LineFits : Line → Type 0
LineFits line.Blank = ⊥
LineFits line.Auto = Unit {0}
LineFits (line.Do s) = StepFits s
LineFits (line.Arm call strike) = (1 ≤ call) × (call ≤ 1000) × StrikeFits strike

-- ---- what is spelled

MaskFits-from_mask : (m : Mask) → is_mask m ≡ true → MaskFits m
MaskFits-from_mask m e =
    let both = both_true (is_word m.keys) (is_word m.fdks) e in
    (omega (arith, ltb-true m.keys 4294967296 both.0), omega (arith, ltb-true m.fdks 4294967296 both.1))

RulesFit-from_entry : (r : EntryRules) → is_entry r ≡ true → RulesFit r
RulesFit-from_entry r e =
    let terminate = both_true (nat_lt r.min 256 && nat_lt r.max 256 && is_mask r.active) (is_mask r.terminate) e in
    let active = both_true (nat_lt r.min 256 && nat_lt r.max 256) (is_mask r.active) terminate.0 in
    let lengths = both_true (nat_lt r.min 256) (nat_lt r.max 256) active.0 in
    (ltb-true r.min 256 lengths.0, ltb-true r.max 256 lengths.1, MaskFits-from_mask r.active active.1, MaskFits-from_mask r.terminate terminate.1)

PartFits-from_part : (r : PartRules) → is_part_entry r ≡ true → PartFits r
PartFits-from_part r e =
    let terminate = both_true (nat_lt r.count 256 && is_mask r.active) (is_mask r.terminate) e in
    let active = both_true (nat_lt r.count 256) (is_mask r.active) terminate.0 in
    (ltb-true r.count 256 active.0, MaskFits-from_mask r.active active.1, MaskFits-from_mask r.terminate terminate.1)

nibbles-from_all : (values : List ℕ) → all_nibbles values ≡ true → AllByRecursion IsNibble values
nibbles-from_all [] e = tt
nibbles-from_all (v ∷ vs) e = let both = both_true (nat_lt v 16) (all_nibbles vs) e in (ltb-true v 16 both.0, nibbles-from_all vs both.1)

nibbles-from_decimal : (values : List ℕ) → all_decimal values ≡ true → AllByRecursion IsNibble values
nibbles-from_decimal [] e = tt
nibbles-from_decimal (v ∷ vs) e = let both = both_true (nat_lt v 10) (all_decimal vs) e in (omega (arith, ltb-true v 10 both.0), nibbles-from_decimal vs both.1)

bytes-from_all : (values : List ℕ) → all_bytes values ≡ true → AllByRecursion IsByte values
bytes-from_all [] e = tt
bytes-from_all (v ∷ vs) e = let both = both_true (nat_lt v 256) (all_bytes vs) e in (ltb-true v 256 both.0, bytes-from_all vs both.1)

BlockFits-from_block : (block : Block) → is_block block ≡ true → BlockFits block
BlockFits-from_block block e =
    let both = both_true (eqb (length block.0) 8) (all_bytes block.0) e in
    (eqb-true (length block.0) 8 both.0, bytes-from_all block.0 both.1)

NameFits-from_optional : (name : Option (List ℕ)) → is_optional_name name ≡ true → OptionFits NameFits name
NameFits-from_optional None e = tt
NameFits-from_optional (Some name) e = e

BlockFits-from_optional : (block : Option Block) → is_optional_block block ≡ true → OptionFits BlockFits block
BlockFits-from_optional None e = tt
BlockFits-from_optional (Some block) e = BlockFits-from_block block e

RequestFits-from_request : (r : BlockRequest) → is_block_request r ≡ true → RequestFits r
RequestFits-from_request r e =
    let pad = both_true (is_key_name r.key && is_optional_name r.second && is_optional_block r.xor && nat_le (length r.customer) 24 && all_nibbles r.customer) (nat_le r.pad 15) e in
    let nibbles = both_true (is_key_name r.key && is_optional_name r.second && is_optional_block r.xor && nat_le (length r.customer) 24) (all_nibbles r.customer) pad.0 in
    let size = both_true (is_key_name r.key && is_optional_name r.second && is_optional_block r.xor) (nat_le (length r.customer) 24) nibbles.0 in
    let xor = both_true (is_key_name r.key && is_optional_name r.second) (is_optional_block r.xor) size.0 in
    let names = both_true (is_key_name r.key) (is_optional_name r.second) xor.0 in
    let low : r.pad ≤ 15 = grind (arith, nat_tests, pad.1) in
    let most : length r.customer ≤ 24 = grind (arith, nat_tests, size.1) in
    (names.0, NameFits-from_optional r.second names.1, BlockFits-from_optional r.xor xor.1, (omega arith, most, nibbles-from_all r.customer nibbles.1), omega (arith, low))

CheckFits-from_request : (r : CheckRequest) → is_check_request r ≡ true → CheckFits r
CheckFits-from_request r e =
    let table = both_true _ (all_decimal r.table) e in
    let size = both_true _ (eqb (length r.table) 16) table.0 in
    let count = both_true _ (nat_lt r.count 256) size.0 in
    let offset = both_true _ (all_decimal r.offset) count.0 in
    let short = both_true _ (nat_le (length r.offset) 16) offset.0 in
    let pad = both_true _ (nat_le r.pad 15) short.0 in
    let digits = both_true _ (all_nibbles r.validation) pad.0 in
    let most = both_true _ (nat_le (length r.validation) 16) digits.0 in
    let least = both_true (is_key_name r.key) (nat_le 1 (length r.validation)) most.0 in
    let low : r.pad ≤ 15 = grind (arith, nat_tests, pad.1) in
    let sixteen : length r.table ≡ 16 = eqb-true (length r.table) 16 size.1 in (
      least.0,
      (grind (arith, nat_tests, least.1), grind (arith, nat_tests, most.1), nibbles-from_all r.validation digits.1),
      omega (arith, low),
      ((omega arith, grind (arith, nat_tests, short.1), nibbles-from_decimal r.offset offset.1), offset.1),
      ltb-true r.count 256 count.1,
      ((omega (arith, sixteen), omega (arith, sixteen), nibbles-from_decimal r.table table.1), table.1),
    )

BytesFit-from_body : (body : List ℕ) → is_body body ≡ true → BytesFit 0 1024 body
BytesFit-from_body body e =
    let both = both_true (nat_le (length body) 1024) (all_bytes body) e in
    (omega arith, grind (arith, nat_tests, both.0), bytes-from_all body both.1)

ExtraFits-from_request : (r : ExtraRequest) → is_extra_request r ≡ true → ExtraFits r
ExtraFits-from_request r e =
    let body = both_true (nat_lt r.kind 256 && is_key_name r.key) (is_body r.body) e in
    let key = both_true (nat_lt r.kind 256) (is_key_name r.key) body.0 in
    (ltb-true r.kind 256 key.0, key.1, BytesFit-from_body r.body body.1)

PinFits-from_request : (request : PinRequest) → is_pin_request request ≡ true → PinFits request
PinFits-from_request (pin.Block request) e = RequestFits-from_request request e
PinFits-from_request (pin.Check request) e = CheckFits-from_request request e
PinFits-from_request (pin.Extra request) e = ExtraFits-from_request request e

BytesFit-from_spelled : (value : List ℕ) → is_value value ≡ true → BytesFit 1 64 value
BytesFit-from_spelled value e =
    let bytes = both_true (nat_le 1 (length value) && nat_le (length value) 64) (all_bytes value) e in
    let sizes = both_true (nat_le 1 (length value)) (nat_le (length value) 64) bytes.0 in
    (grind (arith, nat_tests, sizes.0), grind (arith, nat_tests, sizes.1), bytes-from_all value bytes.1)

SourceFits-from_source : (source : ImportSource) → is_source source ≡ true → SourceFits source
SourceFits-from_source (origin.Clear value) e = BytesFit-from_spelled value e
SourceFits-from_source (origin.Sealed name value) e =
    let both = both_true (is_key_name name) (is_value value) e in
    (both.0, BytesFit-from_spelled value both.1)
SourceFits-from_source origin.Part e = tt

ImportFits-from_request : (r : ImportRequest) → is_import_request r ≡ true → ImportFits r
ImportFits-from_request r e =
    let uses = both_true (is_key_name r.name && is_source r.source) (nat_lt r.uses 65536) e in
    let source = both_true (is_key_name r.name) (is_source r.source) uses.0 in
    (source.0, SourceFits-from_source r.source source.1, ltb-true r.uses 65536 uses.1)

StartFits-from_spelled : (start : Start) → is_start start ≡ true → StartFits start
StartFits-from_spelled started.Zero e = tt
StartFits-from_spelled (started.Clear block) e = BlockFits-from_block block e
StartFits-from_spelled (started.Sealed name block) e =
    let both = both_true (is_key_name name) (is_block block) e in
    (both.0, BlockFits-from_block block both.1)

CryptFits-from_spelled : (r : CryptRequest) → is_crypt_request r ≡ true → CryptFits r
CryptFits-from_spelled r e =
    let body = both_true ((is_key_name r.key && is_start r.start) && nat_lt r.pad 256) (is_body r.body) e in
    let pad = both_true (is_key_name r.key && is_start r.start) (nat_lt r.pad 256) body.0 in
    let start = both_true (is_key_name r.key) (is_start r.start) pad.0 in
    (start.0, StartFits-from_spelled r.start start.1, ltb-true r.pad 256 pad.1, BytesFit-from_body r.body body.1)

CommandFits-from_command : (c : Command) → is_well_formed_command c ≡ true → CommandFits c
CommandFits-from_command (command.GetPin rules) e = RulesFit-from_entry rules e
CommandFits-from_command (command.GetData rules) e = RulesFit-from_entry rules e
CommandFits-from_command (command.SecureKeyEntry rules) e = PartFits-from_part rules e
CommandFits-from_command (command.Pin request) e = PinFits-from_request request e
CommandFits-from_command (command.Crypt request) e = CryptFits-from_spelled request e
CommandFits-from_command (command.ImportKey request) e = ImportFits-from_request request e
CommandFits-from_command (command.DeleteKey name) e = e
CommandFits-from_command other e = tt

IdFits-from_word : (id : ℕ) → is_word id ≡ true → IdFits id
IdFits-from_word id e = omega (arith, ltb-true id 4294967296 e)

QuestionFits-from_question : (asked : Question) → is_question asked ≡ true → QuestionFits asked
QuestionFits-from_question (question.Key name) e = e
QuestionFits-from_question (question.Reply id) e = IdFits-from_word id e
QuestionFits-from_question other e = tt

pub StepFits-from_line : (s : Step) → is_well_formed s ≡ true → StepFits s
StepFits-from_line (step.Submit s limit c) e =
    let both = both_true (nat_le limit 1000000) (is_well_formed_command c) e in
    (grind (arith, nat_tests, both.0), CommandFits-from_command c both.1)
StepFits-from_line (step.Cancel s id) e = IdFits-from_word id e
StepFits-from_line (step.Press key) e = e
StepFits-from_line (step.Tick n) e =
    let both = both_true (nat_le 1 n) (nat_le n 1000000) e in
    (grind (arith, nat_tests, both.0), grind (arith, nat_tests, both.1))
StepFits-from_line (step.Ask s asked) e = QuestionFits-from_question asked e
StepFits-from_line other e = tt

StrikeFits-from_spelled : (strike : Strike) → is_strike strike ≡ true → StrikeFits strike
StrikeFits-from_spelled struck.Fail e = tt
StrikeFits-from_spelled (struck.Cut kept.Old) e = tt
StrikeFits-from_spelled (struck.Cut kept.New) e = tt
StrikeFits-from_spelled (struck.Cut (kept.Fill byte)) e = ltb-true byte 256 e

pub LineFits-from_arm : (call : ℕ) (strike : Strike) → is_spelled (line.Arm call strike) ≡ true → LineFits (line.Arm call strike)
LineFits-from_arm call strike e =
    let both = both_true (nat_le 1 call && nat_le call 1000) (is_strike strike) e in
    let calls = both_true (nat_le 1 call) (nat_le call 1000) both.0 in
    (grind (arith, nat_tests, calls.0), grind (arith, nat_tests, calls.1), StrikeFits-from_spelled strike both.1)
