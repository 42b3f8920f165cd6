use Rattle.std.proofs.Common.{subst}
use Rattle.pad_replay.proofs.ScriptLemmas.{next-found}
use Rattle.pad_replay.specs.declared.script_reader.Next.TheVariants as next
use Rattle.script_lang.specs.Lines.{Leaves, still}
use Rattle.script_lang.specs.Reading.{line_of}
use Rattle.pad_replay.proofs.script_reader.next_line.Goals as goal

pub returns-in-Ok-clause-next : goal.returns-in-Ok-clause-next
returns-in-Ok-clause-next g c = next-found c.texts_end_once.ensures.cut (c.scripts_are_read_line_by_line.ensures line_of)
    (still c.args.reader.now.kept (g.S.Source.left c.args.source.now)) (still c.next.follows.lender-at-none.kept (g.S.Source.left c.next.new.source)) c.args.reader.now c.next.follows.lender-at-none c.in-Ok-Line.field-0 (next.Line c.in-Ok.line) c.in-Ok-Line.ensures.shows
    (subst (λ r. Leaves (g.S.Source.left c.args.source.now) (g.S.Source.left c.next.new.source) r c.args.reader.now c.next.follows.lender-at-none) c.in-Ok-Line.is c.next.follows.holds-at-none) (rw c.in-Ok-Line.field-0-is c.in-Ok.ensures.exact)

pub returns-in-Err-Outside-clause-next : goal.returns-in-Err-Outside-clause-next
returns-in-Err-Outside-clause-next g c = next-found c.texts_end_once.ensures.cut (c.scripts_are_read_line_by_line.ensures line_of)
    (still c.args.reader.now.kept (g.S.Source.left c.args.source.now)) (still c.next.follows.lender-at-none.kept (g.S.Source.left c.next.new.source)) c.args.reader.now c.next.follows.lender-at-none c.in-Ok-Line.field-0 next.BadLine c.in-Ok-Line.ensures.shows
    (subst (λ r. Leaves (g.S.Source.left c.args.source.now) (g.S.Source.left c.next.new.source) r c.args.reader.now c.next.follows.lender-at-none) c.in-Ok-Line.is c.next.follows.holds-at-none) (rw c.in-Ok-Line.field-0-is (rw c.in-Err-Outside.field-0-is at c.in-Err-Outside.ensures.exact))

pub returns-in-Ok-End-clause-next : goal.returns-in-Ok-End-clause-next
returns-in-Ok-End-clause-next g c = next-found c.texts_end_once.ensures.cut (c.scripts_are_read_line_by_line.ensures line_of)
    (still c.args.reader.now.kept (g.S.Source.left c.args.source.now)) (still c.next.follows.lender-at-none.kept (g.S.Source.left c.next.new.source)) c.args.reader.now c.next.follows.lender-at-none c.in-Ok-End.field-0 next.End c.in-Ok-End.ensures.shows
    (subst (λ r. Leaves (g.S.Source.left c.args.source.now) (g.S.Source.left c.next.new.source) r c.args.reader.now c.next.follows.lender-at-none) c.in-Ok-End.is c.next.follows.holds-at-none) (rw c.in-Ok-End.field-0-is tt)

pub returns-in-Ok-Bad-clause-next : goal.returns-in-Ok-Bad-clause-next
returns-in-Ok-Bad-clause-next g c = next-found c.texts_end_once.ensures.cut (c.scripts_are_read_line_by_line.ensures line_of)
    (still c.args.reader.now.kept (g.S.Source.left c.args.source.now)) (still c.next.follows.lender-at-none.kept (g.S.Source.left c.next.new.source)) c.args.reader.now c.next.follows.lender-at-none c.in-Ok-Bad.field-0 next.BadLine c.in-Ok-Bad.ensures.shows
    (subst (λ r. Leaves (g.S.Source.left c.args.source.now) (g.S.Source.left c.next.new.source) r c.args.reader.now c.next.follows.lender-at-none) c.in-Ok-Bad.is c.next.follows.holds-at-none) (rw c.in-Ok-Bad.field-0-is tt)
