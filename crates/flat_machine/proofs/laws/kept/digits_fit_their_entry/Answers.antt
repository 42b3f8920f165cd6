use Rattle.flat_machine.proofs.FitLemmas.{next-fits}
use Rattle.flat_machine.proofs.laws.kept.digits_fit_their_entry.Goals as goal

pub returns : goal.returns
returns c = next-fits c.digits_fit.ensures.none c.digits_fit.ensures.press
