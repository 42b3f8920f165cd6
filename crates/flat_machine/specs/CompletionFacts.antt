-- Words for when a command is answered OK.
use Rattle.check_values.specs.CheckValues.{check_value}
use Rattle.flat_machine.specs.AccessFacts.{CryptIsReady, ImportIsReady, PinIsReady}
use Rattle.flat_machine.specs.Arms.{is_struck}
use Rattle.flat_machine.specs.Crypts.{crypt_answer}
use Rattle.flat_machine.specs.EndingFacts.{one_end}
use Rattle.flat_machine.specs.Machine.{next}
use Rattle.flat_machine.specs.PinCommands.{pin_answer}
use Rattle.flat_machine.specs.Settings.{Setting}
use Rattle.flat_machine.specs.RequestFacts.{endings}
use Rattle.flat_machine.specs.State.{After, Flat, Shared, is_off}
use Rattle.device_lock.specs.LockLine.{holder_of}
use Rattle.request_queue.specs.Requests.{eligible, request_in_work}
use Rattle.request_queue.specs.declared.requests.Request.{Request}
use Rattle.key_attributes.specs.declared.KeyRow.{KeyRow}
use Rattle.pad_steps.specs.declared.answers.Answer.{Answer}
use Rattle.pad_steps.specs.declared.answers.Answer.TheVariants as answers
use Rattle.pad_steps.specs.declared.commands.Command.TheVariants as commands
use Rattle.pad_steps.specs.declared.commands.CryptRequest.{CryptRequest}
use Rattle.pad_steps.specs.declared.commands.ImportRequest.{ImportRequest}
use Rattle.pad_steps.specs.declared.commands.PinRequest.{PinRequest}
use Rattle.pad_steps.specs.declared.steps.Step.TheVariants as steps
use Rattle.pad_steps.specs.declared.answers.Out.{Out}
use Rattle.pad_steps.specs.declared.answers.Reply.TheVariants as replied
use Rattle.pad_steps.specs.declared.commands.Command.{Command}
use Rattle.pad_steps.specs.declared.steps.DiskWord.{DiskWord}
use Rattle.pad_steps.specs.declared.steps.DiskWord.TheVariants as words
use Rattle.std.specs.Prelude.{Bool, List, None, Option, Some, false, length, true, ℕ, ◌≡◌}

-- no device call failed or was cut, and no bad slot was read
abbrev pub goes_well : DiskWord → Bool
goes_well (words.Failed count) = false
goes_well (words.Cut count) = false
goes_well (words.Bad slot) = false
goes_well other = true

-- the request is in work, and asks for this command
pub record IsInWorkFor (shared : Shared) (request : Request Command) (command : Command) : Type 0 where
  pub works : request_in_work shared.requests ≡ Some request
  pub asks : request.command ≡ command

-- the request is the one that Begin takes: the device is on, nothing is in work, and it is eligible
pub record IsNext (shared : Shared) (request : Request Command) : Type 0 where
  pub on : is_off shared.device ≡ false
  pub idle : request_in_work shared.requests ≡ None
  pub first : eligible (holder_of shared.line) shared.requests ≡ Some request

-- the one end that is told is an OK of this request, with this answer
abbrev pub Answers : Request Command → Answer → After → Type 0
Answers request answer after = endings after.outs ≡ one_end request (replied.Ok answer)

-- the one end that is told is an OK of this request
pub record IsAnsweredOk (request : Request Command) (after : After) : Type 0 where
  pub answer : Answer
  pub told : Answers request answer after

-- the request is in work, and this alone is said
pub record IsInWork (request : Request Command) (outs : List Out) (after : After) : Type 0 where
  pub works : request_in_work after.state.shared.requests ≡ Some request
  pub said : after.outs ≡ outs

-- a PIN command in work that meets none of its refusals is answered with what the PIN work gives of the held digits
abbrev pub AnswersPin : Setting → Flat → DiskWord → Type 0
AnswersPin set state word = (request : Request Command) (asked : PinRequest) (first : List ℕ) (second : Option (List ℕ)) (draws : ℕ)
    → IsInWorkFor state.shared request (commands.Pin asked) → PinIsReady set state.shared (length state.held) asked first second draws
    → Answers request (pin_answer set state.shared.drawn state.held asked first second draws) (next set state steps.Finish word)

-- a CRYPT in work that meets none of its refusals is answered with its bytes or its code
abbrev pub AnswersCrypt : Setting → Flat → DiskWord → Type 0
AnswersCrypt set state word = (request : Request Command) (asked : CryptRequest) (key : List ℕ) (sealing : Option (List ℕ))
    → IsInWorkFor state.shared request (commands.Crypt asked) → CryptIsReady state.shared asked key sealing
    → Answers request (crypt_answer set.cipher asked key sealing) (next set state steps.Finish word)

-- an import in work that meets none of its refusals, and whose device calls were not struck, is answered with the check value that it asked for
abbrev pub AnswersImport : Setting → Flat → DiskWord → Type 0
AnswersImport set state word = (request : Request Command) (asked : ImportRequest) (kek : Option (List ℕ)) (row : KeyRow) (slot : ℕ)
    → IsInWorkFor state.shared request (commands.ImportKey asked) → ImportIsReady set state.shared asked kek row slot → is_struck word ≡ false
    → Answers request (answers.Key (check_value set.cipher.tdea asked.verify row.value)) (next set state steps.Finish word)
