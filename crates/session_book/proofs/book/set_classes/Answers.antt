use Rattle.std.proofs.Common.{arith, ap, sym, ◌∙◌, set}
use Rattle.session_book.specs.Sessions.{listening}
use Rattle.session_book.specs.declared.sessions.SessionRow.{SessionRow}
use Rattle.std.proofs.lemmas.List.Edits.{map_over_more}
use Rattle.session_book.proofs.book.set_classes.Goals as goal

pub loop-row-preserved : goal.loop-row-preserved
loop-row-preserved c =
    ap (λ (x : SessionRow). set c.loop-row.rows c.loop-row.row-index x) (c.listening.ensures ∙ ap (listening c.args.session c.args.classes) (sym c.row-item.is))
    ∙ map_over_more (listening c.args.session c.args.classes) c.args.rows.now c.loop-row.rows c.loop-row.row-index c.row-item.result (omega arith) c.loop-row.invariant c.row-item.is
