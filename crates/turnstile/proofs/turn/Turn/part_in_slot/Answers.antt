use Rattle.std.proofs.Common.{sym, subst, ap, ◌∙◌, ◌∷◌, ◌≡◌, Some}
use Rattle.std.proofs.lemmas.Result.{IfOk-weaker}
use Rattle.atomic_table.specs.Table.{rest}
use Rattle.turnstile.specs.Rules.{entries_of}
use Rattle.turnstile.proofs.CallLemmas.{same_slot}
use Rattle.turnstile.proofs.turn.Turn.part_in_slot.Goals as goal

pub slot_mut-requires : goal.slot_mut-requires
slot_mut-requires g c = let has = c.requires.held in (c.requires.pass, (Some has.0, has.1 ∙ (λ i. (0, Some has.0) ∷ sym (ap rest has.1) i)))

pub returns-clause-fits : goal.returns-clause-fits
returns-clause-fits g c = let has = c.requires.held in let history = entries_of c.args.pass.now.me.0.seen in
    let here = c.slot_mut.ensures.value ∙ (λ i. (0, c.in-Some.is i) ∷ ap rest has.1 i) in
    let same = same_slot c.in-Some.held has.0 (sym here ∙ has.1) in
    IfOk-weaker c.part.result _ _ (λ part fits. fits history (subst (λ h. g.M.Machine.stands h.machine history) (sym same) has.3.0)) c.part.ensures

pub returns-clause-held : goal.returns-clause-held
returns-clause-held g c = let has = c.requires.held in
    let here = c.slot_mut.ensures.value ∙ (λ i. (0, c.in-Some.is i) ∷ ap rest has.1 i) in
    let same = same_slot c.in-Some.held has.0 (sym here ∙ has.1) in
    (c.in-Some.held, ap (λ l. (0, Some c.in-Some.held) ∷ rest l) has.1, ap (λ h. h.history.items) same ∙ has.2, subst (λ h. g.M.Machine.stands h.machine (entries_of c.args.pass.now.me.0.seen) × (g.M.Machine.origin h.machine ≡ c.args.pass.now.me.0.origin)) (sym same) has.3)
