use Rattle.turnstile.proofs.JoiningLemmas.{joined_all-joined, joined_all-none, joined_all-whole}
use Rattle.turnstile.proofs.laws.joined_passes_are_whole.Goals as goal

pub returns-clause-none : goal.returns-clause-none
returns-clause-none g c = joined_all-none

pub returns-clause-joined : goal.returns-clause-joined
returns-clause-joined g c = joined_all-joined

pub returns-clause-whole : goal.returns-clause-whole
returns-clause-whole g c = joined_all-whole
