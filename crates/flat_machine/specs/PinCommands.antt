-- What a PIN command comes to (GET_PINBLOCK, LOCAL_DES): which keys it wants, when it is ready, and its answer.
use Rattle.flat_machine.specs.Decisions.{or_refused, unless, with_key, with_key_if}
use Rattle.flat_machine.specs.Settings.{Setting}
use Rattle.flat_machine.specs.declared.types.Work.{Work}
use Rattle.flat_machine.specs.declared.types.Work.TheVariants as work
use Rattle.key_table.specs.KeyRows.{KeyRows}
use Rattle.pad_steps.specs.declared.answers.Answer.{Answer}
use Rattle.pad_steps.specs.declared.answers.Answer.TheVariants as answers
use Rattle.pad_steps.specs.declared.answers.Refusal.{Refusal}
use Rattle.pad_steps.specs.declared.answers.Refusal.TheVariants as refusals
use Rattle.pad_steps.specs.declared.commands.PinRequest.{PinRequest}
use Rattle.pin_blocks.specs.PinRules.{PinRules}
use Rattle.pin_blocks.specs.declared.work.AdmitFault.{AdmitFault}
use Rattle.pin_blocks.specs.declared.work.AdmitFault.TheVariants as unfit
use Rattle.pin_blocks.specs.declared.work.PinAnswer.{PinAnswer}
use Rattle.pin_blocks.specs.declared.work.PinAnswer.TheVariants as pin_answers
use Rattle.pin_blocks.specs.declared.work.PinFault.{PinFault}
use Rattle.pin_blocks.specs.declared.work.PinFault.TheVariants as unready
use Rattle.std.specs.List.{range_with_len}
use Rattle.std.specs.Prelude.{List, Option, length, map, option_map, ℕ, ◌==◌}

-- the refusal of a request that the PIN work does not admit
abbrev pub admit_refusal : AdmitFault → Refusal
admit_refusal unfit.UnsuppCommand = refusals.UnsuppCommand
admit_refusal unfit.FormatNotSupported = refusals.FormatNotSupported
admit_refusal unfit.InvalidData = refusals.InvalidData

-- the refusal of one that is not ready at these lengths
abbrev pub ready_refusal : PinFault → Refusal
ready_refusal unready.LengthError = refusals.LengthError
ready_refusal unready.InvalidKeyLength = refusals.InvalidKeyLength

-- the answer of a PIN work, as a command's
abbrev pub pin_reply : PinAnswer → Answer
pin_reply (pin_answers.Block block) = answers.Block block
pin_reply (pin_answers.Wide left right) = answers.Wide left right
pin_reply (pin_answers.Checked holds) = answers.Checked holds

-- a PIN command releases an answer, unless it is refused: of the first key; of the second key; NOPIN; of the PIN work by lengths. No digit is among the arguments
abbrev pub pin_work : PinRules → KeyRows → ℕ → PinRequest → Work
pin_work pin_rules rows count request =
    with_key rows (pin_rules.wants request).first (pin_rules.wants request).wanted (λ first.
    with_key_if rows (pin_rules.wants request).second (pin_rules.wants request).wanted (λ second.
    unless (count == 0) refusals.NoPin
    (or_refused ready_refusal (pin_rules.ready request count (length first) (option_map length second)) (λ draws.
    work.Release request first second draws))))

-- the answer of a PIN command from the digits, with the next fill words of the run
abbrev pub pin_answer : Setting → ℕ → List ℕ → PinRequest → List ℕ → Option (List ℕ) → ℕ → Answer
pin_answer set drawn digits request first second draws = pin_reply (set.pin_rules.result request digits first second (map set.fill_word (range_with_len drawn draws)))
