use Rattle.std.proofs.Common.{◌∙◌, ℕ, List, ap, sym, true, false}
use Rattle.std.specs.Prelude.{bytes_eq}
use Rattle.spelled_words.proofs.Rows.{value_of-row}
use Rattle.spelled_words.proofs.value_of.Goals as goal

pub returns-then-eq : goal.returns-then-eq
returns-then-eq g c =
    let same = ap (λ (w : List ℕ). bytes_eq c.args.word.now w) (sym c.as_bytes.ensures.value) ∙ sym c.eq.ensures ∙ c.if-eq.true in
    sym (c.loop-row.invariant ∙ value_of-row c.args.table.now c.args.word.now c.loop-row.row-index c.row-item.result true c.loop-row-test.true c.row-item.is same)

pub loop-row-preserved : goal.loop-row-preserved
loop-row-preserved g c =
    let same = ap (λ (w : List ℕ). bytes_eq c.args.word.now w) (sym c.as_bytes.ensures.value) ∙ sym c.eq.ensures ∙ c.if-eq.false in
    c.loop-row.invariant ∙ value_of-row c.args.table.now c.args.word.now c.loop-row.row-index c.row-item.result false c.loop-row-test.true c.row-item.is same
