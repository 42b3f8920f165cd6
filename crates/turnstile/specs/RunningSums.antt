-- Histories of a machine that adds: it begins at 0, and each outcome is the sum up to it, in 64 bits.
use Rattle.std.specs.Prelude.{◌≡◌, ℕ, ◌+◌, ◌%◌, ◌^◌, List, [], ◌∷◌, ◌++◌, refl}
use Rattle.turnstile.specs.declared.machine.Entry.{Entry}
use Rattle.turnstile.specs.Entries.{entry}

-- each outcome is the one before it, or this sum at first, and its operation added
abbrev pub AreRunningSums : ℕ → List (Entry ℕ ℕ) → Type 0
AreRunningSums sum [] = Unit {0}
AreRunningSums sum (first ∷ rest) = (first.outcome ≡ (sum + first.op) % 2 ^ 64) × AreRunningSums first.outcome rest

-- the last outcome, or this sum where there is none
abbrev pub last_sum : ℕ → List (Entry ℕ ℕ) → ℕ
last_sum sum [] = sum
last_sum sum (first ∷ rest) = last_sum first.outcome rest

-- one more entry
pub running_sums-more : (sum : ℕ) (history : List (Entry ℕ ℕ)) (op outcome : ℕ) → AreRunningSums sum history → outcome ≡ (last_sum sum history + op) % 2 ^ 64
    → AreRunningSums sum (history ++ entry op outcome ∷ []) × (outcome ≡ last_sum sum (history ++ entry op outcome ∷ []))
running_sums-more sum [] op outcome are is = ((is, tt), refl)
running_sums-more sum (first ∷ rest) op outcome are is = let more = running_sums-more first.outcome rest op outcome are.1 is in ((are.0, more.0), more.1)
