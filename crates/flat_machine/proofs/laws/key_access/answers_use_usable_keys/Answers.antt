use Rattle.flat_machine.proofs.UsedKeys as lemma
use Rattle.flat_machine.proofs.laws.key_access.answers_use_usable_keys.Goals as goal

pub returns : goal.returns
returns c = lemma.used_keys
