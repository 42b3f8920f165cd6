use Rattle.pad_desk.proofs.PendingLemmas.{ask-pending}
use Rattle.pad_desk.proofs.laws.pending_is_told_while_it_is_so.Goals as goal

pub returns : goal.returns
returns c = λ set state session id word. ask-pending session id set state word
