use Rattle.flat_machine.proofs.FloorLemmas as lemma
use Rattle.flat_machine.proofs.laws.requests.floor_hides.Goals as goal

pub returns-clause-cancel : goal.returns-clause-cancel
returns-clause-cancel c = λ set state session id word above floor. lemma.floor_cancel set state session id word floor.session_open above floor.below

pub returns-clause-ask : goal.returns-clause-ask
returns-clause-ask c = λ set state session id word floor. lemma.floor_ask set state session id word floor.session_open floor.below
