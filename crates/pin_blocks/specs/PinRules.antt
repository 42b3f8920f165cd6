-- What a PIN work does, as functions. A digit stands among the arguments of one of them alone, `result`.
use Rattle.pad_steps.specs.declared.commands.PinRequest.{PinRequest}
use Rattle.pin_blocks.specs.declared.work.AdmitFault.{AdmitFault}
use Rattle.pin_blocks.specs.declared.work.PinAnswer.{PinAnswer}
use Rattle.pin_blocks.specs.declared.work.PinFault.{PinFault}
use Rattle.pin_blocks.specs.declared.work.Wants.{Wants}
use Rattle.std.specs.Prelude.{Err, List, None, Ok, Option, Result, Some, ℕ, ◌≡◌, ◌≤◌}

-- `admit`: why a request is refused as it is submitted. `wants`: its keys and their use. `ready`: at this PIN length and these key lengths the number of fill words that it draws, or why it is refused. `result`: the answer for the digits, the key values and the fill words
pub record PinRules : Type 0 where
  pub admit : PinRequest → Option AdmitFault
  pub wants : PinRequest → Wants
  pub ready : PinRequest → ℕ → ℕ → Option ℕ → Result ℕ PinFault
  pub result : PinRequest → List ℕ → List ℕ → Option (List ℕ) → List ℕ → PinAnswer

-- why it was refused, if it was
abbrev pub fault_in : {A Fault : Type 0} → Result A Fault → Option Fault
fault_in (Ok value) = None
fault_in (Err why) = Some why

-- no request draws more than 255 fill words
abbrev pub DrawsFewWords : PinRules → Type 0
DrawsFewWords rules = (request : PinRequest) (size first : ℕ) (second : Option ℕ) (draws : ℕ) → rules.ready request size first second ≡ Ok draws → draws ≤ 255
