-- Where the first space stands.
use Rattle.std.proofs.Common.{◌≡◌, ◌≤◌, ℕ, Option, Some, None, Bool, true, false, cond, ltb, refl, arith}
use Rattle.std.specs.Prelude.{unwrap_or}
use Rattle.std.proofs.lemmas.Bool.Decides.{nat_tests}

-- the place that was found, or the length where none was
pub place_or_length : (n len : ℕ) (found : Option ℕ) → n ≤ len → found ≡ cond (ltb n len) (Some n) None → unwrap_or found len ≡ n
place_or_length n len found le is = by_test (ltb n len) refl is
  where
    by_test : (b : Bool) → ltb n len ≡ b → found ≡ cond b (Some n) None → unwrap_or found len ≡ n
    by_test true e is = rw is refl
    by_test false e is = rw is (grind (arith, nat_tests))
