use Rattle.std.proofs.Common.{ap, arith}
use Rattle.std.specs.Prelude.{length}
use Rattle.pad_machine.proofs.HearerLemmas.{length_hearers}
use Rattle.pad_steps.specs.declared.steps.Class.TheVariants.{Service}
use Rattle.pad_machine.proofs.saying.announce.Goals as goal

pub announce_to-requires : goal.announce_to-requires
announce_to-requires c = omega (arith, length_hearers Service c.args.book.now, ap length c.items.ensures.items, ap length c.hearers-hearers.ensures.sessions, c.requires)
