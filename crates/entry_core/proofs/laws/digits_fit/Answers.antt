use Rattle.entry_core.proofs.FitLemmas.{after_press-fits, no_digits-fit}
use Rattle.entry_core.proofs.laws.digits_fit.Goals as goal

pub returns-clause-none : goal.returns-clause-none
returns-clause-none c = no_digits-fit

pub returns-clause-press : goal.returns-clause-press
returns-clause-press c = after_press-fits
