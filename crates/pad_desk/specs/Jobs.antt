-- The command CRYPT that is in work after a history.
use Rattle.crypt_commands.specs.Jobs.{CryptInputs}
use Rattle.pad_desk.specs.Histories.{DeskEntry, state_after}
use Rattle.pad_machine.specs.Jobs.{job_of}
use Rattle.pin_blocks.specs.PinRules.{PinRules}
use Rattle.std.specs.Prelude.{List, Option}

-- the job of the state after the history
abbrev pub job_after : PinRules → List DeskEntry → Option CryptInputs
job_after pin_rules history = job_of (state_after pin_rules history).shared
