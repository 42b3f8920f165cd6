-- A law that the PIN work of this pad gives to its trait.
use Rattle.des_core.specs.TripleDes.{tdea_bytes}
use Rattle.local_check.specs.StandardWork.{standard_rules}
use Rattle.pad_steps.specs.declared.commands.Form.{Form}
use Rattle.pad_steps.specs.declared.commands.Form.TheVariants as forms
use Rattle.pad_steps.specs.declared.commands.PinRequest.TheVariants as pin
use Rattle.pin_blocks.specs.BlockWork.{fill_count}
use Rattle.pin_blocks.specs.Blocks.{longest}
use Rattle.pin_blocks.specs.PinRules.{DrawsFewWords}
use Rattle.pin_blocks.specs.declared.work.PinFault.{PinFault}
use Rattle.pin_blocks.specs.declared.work.PinFault.TheVariants as fault
use Rattle.std.proofs.Common.{arith}
use Rattle.std.specs.Prelude.{Bool, Err, Ok, Result, false, if◌then◌else◌, nat_lt, true, ℕ, ◌||◌, ◌≡◌, ◌≤◌}

few_filled : (form : Form) (size : ℕ) → fill_count form size ≤ 255
few_filled forms.Iso0 size = omega arith
few_filled forms.Iso1 size = omega arith
few_filled forms.Iso2 size = omega arith
few_filled forms.Iso3 size = omega arith
few_filled forms.Iso4 size = omega arith
few_filled forms.Ibm3624 size = omega arith
few_filled forms.Diebold size = omega arith
few_filled forms.DieboldCo size = omega arith

abbrev refused_or : Bool → ℕ → Result ℕ PinFault
refused_or refused count = if refused then Err fault.LengthError else Ok count

few_if : (refused : Bool) (count draws : ℕ) → count ≤ 255 → refused_or refused count ≡ Ok draws → draws ≤ 255
few_if true count draws few is = absurd cc
few_if false count draws few is = let same : count ≡ draws = cc in omega (arith, same, few)

-- no request of the pad draws more than 255 fill words
pub standard_few : DrawsFewWords (standard_rules tdea_bytes)
standard_few (pin.Block block) size first second draws is = few_if (nat_lt size 4 || nat_lt (longest block.form) size) (fill_count block.form size) draws (few_filled block.form size) is
standard_few (pin.Check check) size first second draws is = few_if (nat_lt size check.count) 0 draws (omega arith) is
standard_few (pin.Extra extra) size first second draws is = absurd cc
