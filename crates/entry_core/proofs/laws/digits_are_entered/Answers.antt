use Rattle.entry_core.proofs.PressLemmas.{after_presses-active}
use Rattle.entry_core.proofs.laws.digits_are_entered.Goals as goal

pub returns : goal.returns
returns c = after_presses-active
