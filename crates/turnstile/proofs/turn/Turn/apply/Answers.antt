use Rattle.std.proofs.Common.{sym, ap, subst, ◌∙◌, ◌∷◌, ◌++◌, ◌+◌, ◌*◌, ◌^◌, ◌<◌, ◌≡◌, [], length, Some}
use lib.ListN.{length-map}
use Rattle.atomic_table.specs.Table.{rest}
use Rattle.turnstile.specs.Rules.{entries_of, entry_in}
use Rattle.turnstile.specs.Entries.{entry}
use Rattle.turnstile.proofs.CallLemmas.{same_slot, ok_two, err_map}
use Rattle.turnstile.proofs.turn.Turn.apply.Goals as goal

pub slot_mut-requires : goal.slot_mut-requires
slot_mut-requires g c = let has = c.requires.held in (c.requires.pass, (Some has.0, has.1 ∙ (λ i. (0, Some has.0) ∷ sym (ap rest has.1) i)))

pub returns-clause-ok : goal.returns-clause-ok
returns-clause-ok g c = let has = c.requires.held in let held = c.in-Some.held in let x = c.apply.new.self in let v = c.args.pass.now.me.0 in let M = g.M.Machine in
    let here = c.slot_mut.ensures.value ∙ (λ i. (0, c.in-Some.is i) ∷ ap rest has.1 i) in
    let same = same_slot held has.0 (sym here ∙ has.1) in
    let bare : held.history.items ≡ entries_of v.seen = ap (λ h. h.history.items) same ∙ has.2 in
    let from : M.origin x.machine ≡ v.origin = c.apply.ensures.origin ∙ ap (λ h. M.origin h.machine) same ∙ has.3.1 in
    ok_two _ _ _ c.apply.result
    (λ r k b. let after = entries_of v.seen ++ entry c.args.op r.outcome ∷ [] in let now : x.history.items ≡ after = k.2 ∙ ap (λ l. l ++ entry c.args.op r.outcome ∷ []) bare in (
      (x, ap (λ l. (0, Some x) ∷ rest l) has.1, now, (subst (M.stands x.machine) now c.apply.ensures.stands, from)),
      subst (λ l. r.board ≡ length l * 2 ^ 43 + M.status_after l) now b.0,
      subst (λ l. M.status_after l < 2 ^ 43) now b.1,
      k.0 ∙ ap length bare ∙ length-map v.seen entry_in,
      k.1,
    )) c.apply.ensures.ok c.apply.ensures.board

pub returns-clause-err : goal.returns-clause-err
returns-clause-err g c = let has = c.requires.held in let held = c.in-Some.held in let x = c.apply.new.self in let v = c.args.pass.now.me.0 in let M = g.M.Machine in
    let here = c.slot_mut.ensures.value ∙ (λ i. (0, c.in-Some.is i) ∷ ap rest has.1 i) in
    let same = same_slot held has.0 (sym here ∙ has.1) in
    let bare : held.history.items ≡ entries_of v.seen = ap (λ h. h.history.items) same ∙ has.2 in
    let from : M.origin x.machine ≡ v.origin = c.apply.ensures.origin ∙ ap (λ h. M.origin h.machine) same ∙ has.3.1 in
    err_map _ _ c.apply.result (λ k. let now : x.history.items ≡ entries_of v.seen = k ∙ bare in (x, ap (λ l. (0, Some x) ∷ rest l) has.1, now, (subst (M.stands x.machine) now c.apply.ensures.stands, from))) c.apply.ensures.err
