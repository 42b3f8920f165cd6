-- The standard PIN work: PIN blocks and the local check.
use Rattle.key_attributes.specs.declared.Use.TheVariants as purpose
use Rattle.local_check.specs.Checks.{admit_check, checks, ready_check}
use Rattle.pad_steps.specs.declared.commands.PinRequest.{PinRequest}
use Rattle.pad_steps.specs.declared.commands.PinRequest.TheVariants as pin
use Rattle.pin_blocks.specs.BlockWork.{admit_block, block_bytes, ready_block}
use Rattle.pin_blocks.specs.PinRules.{PinRules}
use Rattle.pin_blocks.specs.declared.work.AdmitFault.{AdmitFault}
use Rattle.pin_blocks.specs.declared.work.AdmitFault.TheVariants as unfit
use Rattle.pin_blocks.specs.declared.work.PinAnswer.{PinAnswer}
use Rattle.pin_blocks.specs.declared.work.PinAnswer.TheVariants as answer
use Rattle.pin_blocks.specs.declared.work.PinFault.{PinFault}
use Rattle.pin_blocks.specs.declared.work.PinFault.TheVariants as fault
use Rattle.pin_blocks.specs.declared.work.Wants.{Wants}
use Rattle.std.specs.Prelude.{Err, List, None, Option, Result, Some, false, ℕ}

-- why a request is refused as it is submitted; an extra command is UNSUPPCOMMAND
abbrev pub standard_admit : PinRequest → Option AdmitFault
standard_admit (pin.Block block) = admit_block block
standard_admit (pin.Check check) = admit_check check
standard_admit (pin.Extra extra) = Some unfit.UnsuppCommand

-- one or two keys for PINREMOTE, since a block leaves the device; one for PINLOCAL, since a check does not
abbrev pub standard_wants : PinRequest → Wants
standard_wants (pin.Block block) = record { first = block.key; second = block.second; wanted = purpose.PinRemote }
standard_wants (pin.Check check) = record { first = check.key; second = None; wanted = purpose.PinLocal }
standard_wants (pin.Extra extra) = record { first = extra.key; second = None; wanted = purpose.PinLocal }

-- the number of fill words, or LENGTHERROR. Key lengths refuse nothing
abbrev pub standard_ready : PinRequest → ℕ → ℕ → Option ℕ → Result ℕ PinFault
standard_ready (pin.Block block) size first second = ready_block block.form size
standard_ready (pin.Check check) size first second = ready_check check size
standard_ready (pin.Extra extra) size first second = Err fault.LengthError

-- the cipher of a block of eight bytes under a key
module _ (cipher : List ℕ → List ℕ → List ℕ) where
  -- a block's bytes, or whether a check holds
  abbrev pub standard_result : PinRequest → List ℕ → List ℕ → Option (List ℕ) → List ℕ → PinAnswer
  standard_result (pin.Block block) digits first second fill = answer.Block (record { 0 = block_bytes cipher block digits first second fill })
  standard_result (pin.Check check) digits first second fill = answer.Checked (checks cipher check digits first)
  standard_result (pin.Extra extra) digits first second fill = answer.Checked false

  -- the standard PIN work
  abbrev pub standard_rules : PinRules
  standard_rules = record { admit = standard_admit; wants = standard_wants; ready = standard_ready; result = standard_result }
