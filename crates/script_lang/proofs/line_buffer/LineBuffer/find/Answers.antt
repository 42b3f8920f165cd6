use Rattle.std.proofs.Common.{ap, arith, inl, inr, length, ◌<◌, ◌≡◌, ◌∙◌}
use Rattle.std.proofs.lemmas.Bool.Decides.{nat_tests}
use Rattle.script_lang.proofs.LineLemmas.{found_bad, found_end, nothing}
use Rattle.script_lang.specs.Lines.{feed_at}
use Rattle.script_lang.proofs.line_buffer.LineBuffer.find.Goals as goal

pub returns-then-is_empty-clause-found : goal.returns-then-is_empty-clause-found
returns-then-is_empty-clause-found g c =
    let size : length c.items-bytes.result.now ≡ 0 = grind (arith, nat_tests) in
    let none : length c.gather.new.self ≡ 0 = omega (arith, ap length c.items-bytes.ensures, size) in
    (found_end _ _ c.gather.new.self c.in-Ok.ensures.stops none, nothing c.gather.new.self none)

pub returns-then-not-is_line-clause-found : goal.returns-then-not-is_line-clause-found
returns-then-not-is_line-clause-found g c =
    let kept = c.gather.new.self in
    let size : length c.items-bytes.result.now ≡ length c.gather.new.self = ap length c.items-bytes.ensures in
    let feed : c.feed_place-feed.result ≡ feed_at c.gather.new.self = c.feed_place-feed.ensures.exact ∙ ap feed_at c.items-bytes.ensures in
    let some : 0 < length c.gather.new.self = grind (arith, nat_tests) in
    found_bad c.args.lines _ _ kept c.gather.ensures.text c.in-Ok.ensures.stops some (elim (c.is_line.ensures.refused c.if-not-is_line.true) [
      | inl late ↦ inl late
      | inr (inl open_end) ↦ inr (inl (omega (arith, open_end, size, feed)))
      | inr (inr long) ↦ inr (inr (omega (arith, long, feed)))
    ])
