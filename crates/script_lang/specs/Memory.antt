-- Which lines hold bytes, which are all that takes memory.
use Rattle.std.specs.Prelude.{Bool, IsSomeAnd, IsTrue, List, Option, false, length, nat_le, ℕ}
use Rattle.pad_steps.specs.declared.commands.Command.{Command}
use Rattle.pad_steps.specs.declared.commands.Command.TheVariants as command
use Rattle.pad_steps.specs.declared.commands.CryptRequest.{CryptRequest}
use Rattle.pad_steps.specs.declared.commands.ExtraRequest.{ExtraRequest}
use Rattle.pad_steps.specs.declared.commands.ImportRequest.{ImportRequest}
use Rattle.pad_steps.specs.declared.commands.ImportSource.{ImportSource}
use Rattle.pad_steps.specs.declared.commands.ImportSource.TheVariants as origin
use Rattle.pad_steps.specs.declared.commands.PinRequest.{PinRequest}
use Rattle.pad_steps.specs.declared.commands.PinRequest.TheVariants as pin
use Rattle.pad_steps.specs.declared.steps.Step.{Step}
use Rattle.pad_steps.specs.declared.steps.Step.TheVariants as step
use Rattle.script_lang.specs.declared.kinds.Line.{Line}
use Rattle.script_lang.specs.declared.kinds.Line.TheVariants as line

-- there is a byte
abbrev pub has_bytes : List ℕ → Bool
has_bytes bytes = nat_le 1 (length bytes)

-- a value in clear or sealed, and not the part buffer
abbrev pub source_holds_bytes : ImportSource → Bool
source_holds_bytes (origin.Clear value) = has_bytes value
source_holds_bytes (origin.Sealed name value) = has_bytes value
source_holds_bytes origin.Part = false

-- the import of a value
abbrev pub import_holds_bytes : ImportRequest → Bool
import_holds_bytes request = source_holds_bytes request.source

-- bytes are encrypted, decrypted or authenticated
abbrev pub crypt_holds_bytes : CryptRequest → Bool
crypt_holds_bytes request = has_bytes request.body

-- another PIN command has bytes
abbrev pub extra_holds_bytes : ExtraRequest → Bool
extra_holds_bytes request = has_bytes request.body

-- neither a block nor a check holds bytes
abbrev pub pin_holds_bytes : PinRequest → Bool
pin_holds_bytes (pin.Extra request) = extra_holds_bytes request
pin_holds_bytes other = false

-- the command holds bytes
abbrev pub command_holds_bytes : Command → Bool
command_holds_bytes (command.Pin request) = pin_holds_bytes request
command_holds_bytes (command.ImportKey request) = import_holds_bytes request
command_holds_bytes (command.Crypt request) = crypt_holds_bytes request
command_holds_bytes other = false

-- the step submits a command that holds bytes
abbrev pub step_holds_bytes : Step → Bool
step_holds_bytes (step.Submit session limit command) = command_holds_bytes command
step_holds_bytes other = false

-- the line holds bytes, which take memory
abbrev pub holds_bytes : Line → Bool
holds_bytes (line.Do s) = step_holds_bytes s
holds_bytes other = false

-- there is a reading, and it holds bytes
abbrev pub ReadsBytes : {X : Type 0} → (X → Bool) → Option X → Type 0
ReadsBytes holds read = IsSomeAnd read (λ x. IsTrue (holds x))

-- want of memory is answered for a line that holds bytes, and for no bad line
abbrev pub WantsMemory : Option Line → Type 0
WantsMemory read = ReadsBytes holds_bytes read
