-- Pieces put one behind another.
use Rattle.std.proofs.Common.{◌≡◌, ℕ, List, ◌++◌, ap, ◌∙◌, append_assoc}

pub then_put : (old mid new a b : List ℕ) → mid ≡ old ++ a → new ≡ mid ++ b → new ≡ old ++ (a ++ b)
then_put old mid new a b e f = f ∙ ap (λ (t : List ℕ). t ++ b) e ∙ append_assoc old a b
