use Rattle.std.proofs.Common.{ap, subst, sym, ◌∙◌}
use Rattle.std.specs.Prelude.{Err, None, Some}
use Rattle.lane_scripts.proofs.LineLemmas.{bad-found, next-found, same-fault, same-number}
use Rattle.lane_scripts.specs.declared.reading.ScriptFault.{ScriptFault}
use Rattle.lane_scripts.specs.declared.reading.ScriptFault.TheVariants.{BadLine}
use Rattle.script_lang.specs.LaneReading.{lane_line_of}
use Rattle.script_lang.specs.Lines.{Leaves, still}
use Rattle.lane_scripts.proofs.reading.next_line.Goals as goal

pub returns-in-Ok-clause-next : goal.returns-in-Ok-clause-next
returns-in-Ok-clause-next g c = next-found c.texts_end_once.ensures.cut (c.scripts_are_read_line_by_line.ensures lane_line_of)
    (still c.args.reader.now.kept (g.S.Source.left c.args.source.now)) (still c.next.follows.lender-at-none.kept (g.S.Source.left c.next.new.source)) c.args.reader.now c.next.follows.lender-at-none c.in-Ok-Line.field-0 (Some c.in-Ok.line) c.in-Ok-Line.ensures.shows
    (subst (λ r. Leaves (g.S.Source.left c.args.source.now) (g.S.Source.left c.next.new.source) r c.args.reader.now c.next.follows.lender-at-none) c.in-Ok-Line.is c.next.follows.holds-at-none) (rw c.in-Ok-Line.field-0-is c.in-Ok.ensures.line)

pub returns-in-Err-numbered_line-clause-bad_line : goal.returns-in-Err-numbered_line-clause-bad_line
returns-in-Err-numbered_line-clause-bad_line g c = λ n is.
    let told = c.numbered_line.ensures.bad_line n (c.in-Err-numbered_line.is ∙ ap (λ (fault : ScriptFault). Err fault) (same-fault c.in-Err-numbered_line.fault (BadLine n) is)) in
    bad-found (c.scripts_are_read_line_by_line.ensures lane_line_of)
    (still c.args.reader.now.kept (g.S.Source.left c.args.source.now)) c.args.reader.now c.in-Ok-Line.field-0 c.args.number n c.requires.number told.0 c.in-Ok-Line.ensures.shows (rw c.in-Ok-Line.field-0-is told.1)

pub returns-in-Ok-End-clause-next : goal.returns-in-Ok-End-clause-next
returns-in-Ok-End-clause-next g c = next-found c.texts_end_once.ensures.cut (c.scripts_are_read_line_by_line.ensures lane_line_of)
    (still c.args.reader.now.kept (g.S.Source.left c.args.source.now)) (still c.next.follows.lender-at-none.kept (g.S.Source.left c.next.new.source)) c.args.reader.now c.next.follows.lender-at-none c.in-Ok-End.field-0 None c.in-Ok-End.ensures.shows
    (subst (λ r. Leaves (g.S.Source.left c.args.source.now) (g.S.Source.left c.next.new.source) r c.args.reader.now c.next.follows.lender-at-none) c.in-Ok-End.is c.next.follows.holds-at-none) (rw c.in-Ok-End.field-0-is tt)

pub returns-in-Ok-Bad-clause-bad_line : goal.returns-in-Ok-Bad-clause-bad_line
returns-in-Ok-Bad-clause-bad_line g c = λ n is. bad-found (c.scripts_are_read_line_by_line.ensures lane_line_of)
    (still c.args.reader.now.kept (g.S.Source.left c.args.source.now)) c.args.reader.now c.in-Ok-Bad.field-0 c.args.number n c.requires.number (sym (same-number c.args.number n is)) c.in-Ok-Bad.ensures.shows (rw c.in-Ok-Bad.field-0-is tt)
