-- Histories that are one entry longer.
use Rattle.std.proofs.Common.{ap, refl, ◌∙◌}
use Rattle.std.proofs.lemmas.List.{map-append}
use Rattle.std.specs.Prelude.{List, [], ℕ, ◌++◌, ◌∷◌, ◌≡◌}
use Rattle.flat_machine.specs.Deeds.{acts_in}
use Rattle.flat_machine.specs.Machine.{Act, next, run, run_from}
use Rattle.flat_machine.specs.Settings.{Setting}
use Rattle.flat_machine.specs.State.{Flat, opening}
use Rattle.pad_desk.specs.Histories.{DeskEntry, HasSeed, IsEntryAt, LegalFrom, act_of, acts_of}
use Rattle.pad_desk.specs.Machines.{deeds_of}

run_from-append : (set : Setting) (state : Flat) (xs ys : List Act) → run_from set state (xs ++ ys) ≡ run_from set (run_from set state xs) ys
run_from-append set state [] ys = refl
run_from-append set state (act ∷ acts) ys = run_from-append set (next set state act.step act.word).state acts ys

-- the steps of the deeds are those of the history
pub acts_in-deeds_of : (history : List DeskEntry) → acts_in (deeds_of history) ≡ acts_of history
acts_in-deeds_of [] = refl
acts_in-deeds_of (entry ∷ rest) = ap (λ (acts : List Act). act_of entry ∷ acts) (acts_in-deeds_of rest)

-- the state after one entry more
pub run-more : (set : Setting) (history : List DeskEntry) (entry : DeskEntry) → run set (acts_of (history ++ entry ∷ [])) ≡ (next set (run set (acts_of history)) entry.op entry.outcome.word).state
run-more set history entry = ap (run set) (map-append act_of history (entry ∷ [])) ∙ run_from-append set opening (acts_of history) (act_of entry ∷ [])

-- a legal history, and an entry of the machine after it
pub legal-more : (set : Setting) (state : Flat) (history : List DeskEntry) (entry : DeskEntry) → LegalFrom set state history → IsEntryAt set (run_from set state (acts_of history)) entry → LegalFrom set state (history ++ entry ∷ [])
legal-more set state [] entry legal is = (is, tt)
legal-more set state (first ∷ rest) entry legal is = (legal.0, legal-more set (next set state first.op first.outcome.word).state rest entry legal.1 is)

-- the entries of a seed, and one more
pub seed-more : (seed : List ℕ) (history : List DeskEntry) (entry : DeskEntry) → HasSeed seed history → entry.outcome.outs.seed ≡ seed → HasSeed seed (history ++ entry ∷ [])
seed-more seed [] entry seeds is = (is, tt)
seed-more seed (first ∷ rest) entry seeds is = (seeds.0, seed-more seed rest entry seeds.1 is)
