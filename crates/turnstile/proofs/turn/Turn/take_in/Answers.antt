use Rattle.std.proofs.Common.{rules}
use Rattle.turnstile.proofs.SeatingLemmas.{merges}
use Rattle.turnstile.proofs.turn.Turn.take_in.Goals as goal

pub join_seat-requires : goal.join_seat-requires
join_seat-requires g c = (search rules, search rules, search rules, search rules, merges _ _ _ _ _ c.args.pass.now.me.0 _ c.args.other.me.0 c.requires.pass.2 c.requires.other.2)
