use Rattle.std.proofs.Common.{ap, arith, sym, ◌∙◌}
use Rattle.std.specs.List.{list_any}
use Rattle.pad_words.specs.Numbers.{same_session}
use Rattle.pad_words.specs.declared.numbers.Session.{Session}
use Rattle.device_lock.proofs.LineLemmas.{IsDistinct-push, room}
use Rattle.device_lock.proofs.lock.Lock.ask.Goals as goal

pub push-requires : goal.push-requires
push-requires c = (
  omega arith,
  room c.args.session c.self.inside.line.items
      (ap (list_any (λ (other : Session). same_session other c.args.session)) c.self.view_is ∙ sym c.has.ensures ∙ c.if-not-has.true)
      c.self.invariant,
)

pub invariant_of-self : goal.invariant_of-self
invariant_of-self c =
    rw c.push.ensures.items (IsDistinct-push c.args.session c.self.inside.line.items
    (ap (list_any (λ (other : Session). same_session other c.args.session)) c.self.view_is ∙ sym c.has.ensures ∙ c.if-not-has.true)
    c.self.invariant)
