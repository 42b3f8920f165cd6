use Rattle.flat_machine.proofs.PartShown as lemma
use Rattle.flat_machine.proofs.laws.disclosure.key_part_entry_hides.Goals as goal

pub returns-clause-outs : goal.returns-clause-outs
returns-clause-outs c = lemma.part_entry_hides

pub returns-clause-told : goal.returns-clause-told
returns-clause-told c = lemma.part_end_told

pub returns-clause-alike : goal.returns-clause-alike
returns-clause-alike c = lemma.parts_say_alike
