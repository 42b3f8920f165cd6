use Rattle.script_lang.proofs.FeedLemmas.{feed_at-end, feed_at-here, feed_at-more}
use Rattle.script_lang.proofs.line_buffer.feed_place.Goals as goal

pub returns-then-byte-eq10-clause-exact : goal.returns-then-byte-eq10-clause-exact
returns-then-byte-eq10-clause-exact c = feed_at-here c.args.bytes.now c.loop-place.place _ c.loop-place-test.true c.if-byte-eq10.true c.loop-place.invariant

pub loop-place-preserved : goal.loop-place-preserved
loop-place-preserved c = feed_at-more c.args.bytes.now c.loop-place.place _ c.loop-place-test.true c.if-byte-eq10.false c.loop-place.invariant

pub returns-clause-exact : goal.returns-clause-exact
returns-clause-exact c = feed_at-end c.args.bytes.now c.loop-place.place _ c.loop-place-test.false c.loop-place.auto.place-end c.loop-place.invariant
