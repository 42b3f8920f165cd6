use Rattle.std.proofs.Common.{sym, ◌∙◌}
use Rattle.pad_desk.proofs.answers.collected_in.Goals as goal

pub of-requires : goal.of-requires
of-requires c = let told = c.in-None.ensures.reply in (c.args._session, c.args._id, (told.0, sym c.items.ensures ∙ told.1))
