use Rattle.key_table.proofs.KeyStoreLemmas.{slot_of-below}
use Rattle.key_table.proofs.laws.names_stand_in_slots.Goals as goal

pub returns : goal.returns
returns c = λ rows name slot table at. slot_of-below rows name slot table at
