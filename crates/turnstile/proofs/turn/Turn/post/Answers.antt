use Rattle.std.proofs.Common.{rules, ap, ◌∙◌, ◌∷◌, ◌++◌, ◌+◌, ◌*◌, ◌^◌, ◌≡◌, ℕ, [], length, length-append}
use lib.ListN.{length-map}
use Rattle.turnstile.specs.Rules.{StandsFrom, entries_of, entry_in}
use Rattle.turnstile.proofs.StepLemmas.{posts}
use Rattle.turnstile.proofs.turn.Turn.post.Goals as goal

pub store-requires : goal.store-requires
store-requires g c = let M = g.M.Machine in let v = c.args.pass.now.me.0 in let e = c.requires.entry in let h = e.1.0 in
    let long : length (entries_of v.seen ++ e.0 ∷ []) ≡ length v.seen + 1 = length-append (entries_of v.seen) (e.0 ∷ []) ∙ ap (λ (z : ℕ). z + 1) (length-map v.seen entry_in) in (
      search rules,
      search rules,
      posts _ (StandsFrom M.stands M.origin) M.status_after M.legal _ _ _ h.0 e.0 _ c.requires.pass.1 h.1 h.2 c.requires.short (g.met.M.Machine.legal_if h.0.machine _ h.3.0) e.1.2
          (e.1.1 ∙ ap (λ (z : ℕ). z * 2 ^ 43 + M.status_after (entries_of v.seen ++ e.0 ∷ [])) long),
    )

pub returns-clause-posted : goal.returns-clause-posted
returns-clause-posted g c = λ e k. (c.store.ensures.2 k.0 e k.1 k.2).0

pub returns-clause-known : goal.returns-clause-known
returns-clause-known g c = let e = c.requires.entry in let h = e.1.0 in (c.store.ensures.2 h.0 e.0 h.1 h.2).1
