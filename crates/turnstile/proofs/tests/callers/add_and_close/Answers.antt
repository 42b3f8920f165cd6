use Rattle.turnstile.specs.Rules.{passes_known}
use Rattle.turnstile.proofs.tests.callers.add_and_close.Goals as goal

pub returns : goal.returns
returns g c =
    let whole = c.joined_passes_are_whole.ensures.whole c.requires.1 _ _ c.requires.2 c.add_on_threads-pass.ensures.joined in
    let closes = c.close.ensures.whole in
    (passes_known c.add_on_threads-pass.result.me.0, closes.log, closes.bare, whole, closes.makers whole)
