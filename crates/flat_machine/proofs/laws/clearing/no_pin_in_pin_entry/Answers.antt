use Rattle.flat_machine.proofs.ClearingEntries as lemma
use Rattle.flat_machine.proofs.laws.clearing.no_pin_in_pin_entry.Goals as goal

pub returns : goal.returns
returns c = lemma.no_pin_in_entry
