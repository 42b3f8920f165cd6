use Rattle.flat_machine.proofs.RefusalLemmas as lemma
use Rattle.flat_machine.proofs.laws.refusals.refusals_change_nothing.Goals as goal

pub returns-clause-submit : goal.returns-clause-submit
returns-clause-submit c = lemma.refused_submit

pub returns-clause-entry : goal.returns-clause-entry
returns-clause-entry c = λ set state refusal word is. lemma.refused_entry set state is.request is.entry refusal word is.on is.idle is.next is.asked is.why

pub returns-clause-finish : goal.returns-clause-finish
returns-clause-finish c = λ set state refusal word is. lemma.refused_finish set state is.request refusal word is.in_work is.why
