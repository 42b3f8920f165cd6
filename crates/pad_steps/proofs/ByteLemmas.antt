-- Values that fit a byte.
use Rattle.std.proofs.Common.{List, [], arith, get_or, refl, rules, suc, true, ℕ, ◌<◌, ◌∷◌, ◌≡◌}
use Rattle.std.specs.Prelude.{nat_lt}
use Rattle.pad_steps.specs.Formed.{all_bytes}

below : (value : ℕ) → value < 256 → nat_lt value 256 ≡ true
below value small = search (rules, arith)

pub all_bytes-true : (values : List ℕ) → ((i : ℕ) → get_or values i 0 < 256) → all_bytes values ≡ true
all_bytes-true [] small = refl
all_bytes-true (value ∷ values) small = rw (below value (small 0)) (all_bytes-true values (λ i. small (suc i)))
