use Rattle.std.proofs.Common.{rules}
use Rattle.turnstile.proofs.SeatingLemmas.{splits}
use Rattle.turnstile.proofs.turn.Turn.seat.Goals as goal

pub split_seat-requires : goal.split_seat-requires
split_seat-requires g c = (search rules, search rules, splits _ _ _ _ _ c.args.pass.now.me.0 c.requires.2)
