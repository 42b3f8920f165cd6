use Rattle.flat_machine.proofs.KeptSound.{next-kept_sound}
use Rattle.flat_machine.proofs.laws.kept.pending_stay_sound.Goals as goal

pub returns : goal.returns
returns c = next-kept_sound
