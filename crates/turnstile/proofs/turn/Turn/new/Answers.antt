use Rattle.std.proofs.Common.{sym, subst, ap, ◌∙◌, [], ◌∷◌, ◌<◌, ◌^◌, ◌*◌, ◌+◌, length, zero-add}
use Rattle.turnstile.specs.Rules.{StandsFrom, TurnRule, first_view}
use Rattle.atomic_table.specs.Table.{opening}
use Rattle.turnstile.proofs.StepLemmas.{opens}
use Rattle.turnstile.proofs.turn.Turn.new.Goals as goal

pub new-requires-2 : goal.new-requires-2
new-requires-2 g c = let M = g.M.Machine in let empty = c.new.ensures.items in let o = M.origin c.of-made.result.value in
    subst (λ xs. TurnRule o (StandsFrom M.stands M.origin o) M.status_after M.legal (opening (0 ∷ 0 ∷ c.board-board.result ∷ []) xs (first_view o))) (sym c.in-Ok.ensures)
    (opens o (StandsFrom M.stands M.origin) M.status_after M.legal _ _ empty (c.requires, ap M.origin (sym c.of-made.ensures)) (g.met.M.Machine.legal_if c.args.machine [] c.requires)
    (subst (λ l. M.status_after l < 2 ^ 43) empty c.board-board.ensures.below) (c.board-board.ensures.value ∙ ap (λ l. length l * 2 ^ 43 + M.status_after l) empty ∙ zero-add (M.status_after [])))
