use Rattle.std.proofs.Common.{ap, arith, refl, subst, sym, ◌∙◌}
use Rattle.std.specs.Prelude.{Err, [], length, ℕ, ◌+◌}
use Rattle.lane_scripts.proofs.LaneLemmas.{formed-line, formed-none, lanes_of-none, length-line}
use Rattle.lane_scripts.proofs.ReadLemmas.{bad-fact, handed-fault, if_some-some, if_some-then, next-fact, read-bad, read-line, read-none}
use Rattle.lane_scripts.specs.NextLines.{AreFormed, GoesOn, IsEnd, IsFirstLine}
use Rattle.lane_scripts.specs.declared.reading.ScriptFault.{ScriptFault}
use Rattle.lane_scripts.specs.declared.reading.ScriptFault.TheVariants.{BadLine}
use Rattle.script_lang.specs.Lines.{still}
use Rattle.lane_scripts.proofs.reading.read_lanes.Goals as goal

pub loop-lanes-init : goal.loop-lanes-init
loop-lanes-init g c = rw c.in_ok-reader.ensures (record {
  read = if_some-some (g.S.Source.left c.args.source.now) (λ script is. read-none script _ _ (ap (still []) is) c.in_ok-lanes.ensures);
  sixteen = ap length (c.in_ok-lanes.ensures ∙ lanes_of-none);
  formed = subst AreFormed (sym (c.in_ok-lanes.ensures ∙ lanes_of-none)) formed-none;
  few = omega arith;
  lines = refl;
  most = omega arith;
  later = omega arith;
})

pub loop-lanes-preserved : goal.loop-lanes-preserved
loop-lanes-preserved g c =
    let after = still c.next_line.new.reader.kept (g.S.Source.left c.next_line.new.source) in
    let goes : GoesOn c.loop-lanes.reader c.next_line.new.reader c.in-Some.line = rw c.in-Some.is at c.in_ok-line.ensures.goes_on in
    record {
      read = if_some-then (g.S.Source.left c.args.source.now) (λ script read.
          let first : IsFirstLine c.loop-lanes.count read.rest after c.in-Some.line = rw c.in-Some.is at (next-fact (still c.loop-lanes.reader.kept (g.S.Source.left c.loop-lanes.source)) after read.rest c.loop-lanes.reader.lines c.loop-lanes.count c.in_ok-line.field-0 read.told c.loop-lanes.invariant.lines c.in_ok-line.ensures.next) in
          read-line script c.loop-lanes.count _ after c.loop-lanes.lanes c.add_line.new.self c.in-Some.line read first goes.lane c.in_ok-add_line.ensures) c.loop-lanes.invariant.read;
      sixteen = ap length c.in_ok-add_line.ensures ∙ length-line c.loop-lanes.lanes c.in-Some.line ∙ c.loop-lanes.invariant.sixteen;
      formed = subst AreFormed (sym c.in_ok-add_line.ensures) (formed-line c.loop-lanes.lanes c.in-Some.line c.loop-lanes.invariant.sixteen goes.lane goes.formed c.loop-lanes.invariant.formed);
      few = goes.kept;
      lines = goes.lines ∙ ap (λ (n : ℕ). n + 1) c.loop-lanes.invariant.lines;
      most = omega (arith, goes.before, c.loop-lanes.invariant.lines);
      later = omega (arith, c.loop-lanes.invariant.later, c.in_ok-line.ensures.later);
    }

pub returns-clause-read : goal.returns-clause-read
returns-clause-read g c =
    let after = still c.next_line.new.reader.kept (g.S.Source.left c.next_line.new.source) in
    if_some-then (g.S.Source.left c.args.source.now) (λ script read.
    let end : IsEnd c.loop-lanes.count read.rest after = rw c.in_default.is at (next-fact (still c.loop-lanes.reader.kept (g.S.Source.left c.loop-lanes.source)) after read.rest c.loop-lanes.reader.lines c.loop-lanes.count c.in_ok-line.field-0 read.told c.loop-lanes.invariant.lines c.in_ok-line.ensures.next) in
    c.texts_end_once.ensures.left c.next_line.new.reader.kept _ end.left) c.loop-lanes.invariant.read

pub returns-in_err-line-clause-bad_line : goal.returns-in_err-line-clause-bad_line
returns-in_err-line-clause-bad_line g c = λ n is.
    let told = c.next_line.ensures.bad_line n (c.in_err-line.was ∙ ap (λ (fault : ScriptFault). Err fault) (handed-fault c.from_residual-in_err-line.result c.in_err-line.field-0.0 (BadLine n) c.from_residual-in_err-line.ensures.1 is)) in
    if_some-then (g.S.Source.left c.args.source.now) (λ script read.
    let bad = bad-fact (still c.loop-lanes.reader.kept (g.S.Source.left c.loop-lanes.source)) read.rest c.loop-lanes.reader.lines c.loop-lanes.count n read.told c.loop-lanes.invariant.lines told in
    read-bad script c.loop-lanes.count n _ c.loop-lanes.lanes read bad.0 bad.1) c.loop-lanes.invariant.read
