use Rattle.std.proofs.Common.{ap, drop, subst, sym, ◌+◌, ◌++◌, ◌∙◌, ◌≡◌}
use Rattle.std.specs.Prelude.{flat_map, take}
use Rattle.pad_live_core.proofs.TextLemmas.{front-between, texts-at}
use Rattle.pad_live_core.specs.HistoryTexts.{entry_text, history_text}
use Rattle.pad_live_core.proofs.printing.print_history.Goals as goal

pub returns-in-Err-clause-front : goal.returns-in-Err-clause-front
returns-in-Err-clause-front g c = let i = c.loop-entry.entry-index in let h = c.args.history.now in
    front-between _ _ _ (flat_map entry_text (take i h)) (entry_text c.entry-item.result) (flat_map entry_text (drop (i + 1) h)) (history_text h)
    c.loop-entry.invariant.0 c.in-Err.ensures.err
    (texts-at entry_text h i _ c.loop-entry-test.true ∙ ap (λ e. (flat_map entry_text (take i h) ++ entry_text e) ++ flat_map entry_text (drop (i + 1) h)) (sym c.entry-item.is))
