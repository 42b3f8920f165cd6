-- Lists of deeds one after another.
use Rattle.flat_machine.specs.Deeds.{Arms, Deed, Takes, acts_in, cut_words, failed_words, loads_rows}
use Rattle.flat_machine.specs.DiskRuns.{RoseBy}
use Rattle.flat_machine.specs.DiskSteps.{is_loaded}
use Rattle.flat_machine.specs.Machine.{Act}
use Rattle.std.proofs.Common.{ap, arith, inl, inr, sym, ◌∙◌}
use Rattle.std.specs.Prelude.{Bool, List, [], false, refl, true, ℕ, ◌++◌, ◌+◌, ◌||◌, ◌∷◌, ◌≡◌, ◌⊎◌}

pub acts_in-append : (xs ys : List Deed) → acts_in (xs ++ ys) ≡ acts_in xs ++ acts_in ys
acts_in-append [] ys = refl
acts_in-append (Takes a ∷ xs) ys = ap (λ (l : List Act). a ∷ l) (acts_in-append xs ys)
acts_in-append (Arms c k ∷ xs) ys = acts_in-append xs ys

pub failed_words-append : (xs ys : List Deed) → failed_words (xs ++ ys) ≡ failed_words xs + failed_words ys
failed_words-append [] ys = omega arith
failed_words-append (Takes a ∷ xs) ys = omega (arith, failed_words-append xs ys)
failed_words-append (Arms c k ∷ xs) ys = failed_words-append xs ys

pub cut_words-append : (xs ys : List Deed) → cut_words (xs ++ ys) ≡ cut_words xs + cut_words ys
cut_words-append [] ys = omega arith
cut_words-append (Takes a ∷ xs) ys = omega (arith, cut_words-append xs ys)
cut_words-append (Arms c k ∷ xs) ys = cut_words-append xs ys

either : (a b c : Bool) → ((a || b) || c) ≡ (a || (b || c))
either true b c = refl
either false b c = refl

pub loads_rows-append : (xs ys : List Deed) → loads_rows (xs ++ ys) ≡ (loads_rows xs || loads_rows ys)
loads_rows-append [] ys = refl
loads_rows-append (Takes a ∷ xs) ys = ap (λ (b : Bool). is_loaded a.word || b) (loads_rows-append xs ys) ∙ sym (either (is_loaded a.word) (loads_rows xs) (loads_rows ys))
loads_rows-append (Arms c k ∷ xs) ys = loads_rows-append xs ys

pub or_cases : (a b : Bool) → (a || b) ≡ true → (a ≡ true) ⊎ (b ≡ true)
or_cases true b e = inl refl
or_cases false b e = inr e

pub rose_then : (m n k s t u : ℕ) → k ≡ m + n → RoseBy m s t → RoseBy n t u → RoseBy k s u
rose_then m n k s t u e first second = omega (arith, e, first, second)
