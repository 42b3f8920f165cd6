use Rattle.des_core.proofs.JoinedLemmas.{entry_is}
use Rattle.des_core.proofs.joined_tables.joined.Goals as goal

pub returns : goal.returns
returns c = entry_is c.args.number c.args.six c.requires.first c.requires.last c.requires.six_bits
