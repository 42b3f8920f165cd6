-- One more digit of a number.
use Rattle.std.proofs.Common.{◌≡◌, ◌≤◌, ◌<◌, ℕ, ◌+◌, ◌*◌, ◌^◌, List, ◌∷◌, length, get_or, drop, Option, Some, None, sym, ◌∙◌, ap, arith}
use Rattle.std.proofs.lemmas.List.{drop_more, drop_all}
use Rattle.std.proofs.Math.Nat.{pow-succ', pow-le-pow_right}
use Rattle.std.proofs.Math.Numerals.{add-one}
use Rattle.script_lang.specs.Reading.{digits_onto, ◌>>=◌}

module _ (base : ℕ) (value : ℕ → Option ℕ) where
  digit_first : (n c : ℕ) (cs : List ℕ) (found : Option ℕ) → value c ≡ found → digits_onto base value n (c ∷ cs) ≡ (found >>= λ v. digits_onto base value (base * n + v) cs)
  unfolding digits_onto
  digit_first n c cs found e = ap (λ (o : Option ℕ). o >>= λ v. digits_onto base value (base * n + v) cs) e

  digit_at : (word : List ℕ) (n i : ℕ) (found : Option ℕ) → i < length word → found ≡ value (get_or word i 0) → digits_onto base value n (drop i word) ≡ (found >>= λ v. digits_onto base value (base * n + v) (drop (i + 1) word))
  digit_at word n i found lt e = ap (digits_onto base value n) (drop_more word i 0 lt) ∙ digit_first n (get_or word i 0) (drop (i + 1) word) found (sym e)

  -- the digit at this place is taken
  pub digits_onto-more : (word : List ℕ) (n i v : ℕ) (all : Option ℕ) → i < length word → Some v ≡ value (get_or word i 0) → all ≡ digits_onto base value n (drop i word) → all ≡ digits_onto base value (base * n + v) (drop (i + 1) word)
  digits_onto-more word n i v all lt e so_far = so_far ∙ digit_at word n i (Some v) lt e

  -- there is no digit at this place
  pub digits_onto-stop : (word : List ℕ) (n i : ℕ) (all : Option ℕ) → i < length word → None ≡ value (get_or word i 0) → all ≡ digits_onto base value n (drop i word) → None ≡ all
  digits_onto-stop word n i all lt e so_far = sym (so_far ∙ digit_at word n i None lt e)

  -- no digit is left
  pub digits_onto-end : (word : List ℕ) (n i : ℕ) (all : Option ℕ) → length word ≤ i → all ≡ digits_onto base value n (drop i word) → Some n ≡ all
  unfolding digits_onto
  digits_onto-end word n i all le so_far = sym (so_far ∙ ap (digits_onto base value n) (drop_all i word le))

-- a number of i digits, one more
pub pow_more : (b i n v : ℕ) → n < b ^ i → v < b → b * n + v < b ^ (i + 1)
pow_more b i n v small less = let e = pow-succ' b i in rw add-one (rw e (grind (arith)))

-- a number of few digits
pub small_pow : (b i k n : ℕ) → 0 < b → i ≤ k → n < b ^ i → n < b ^ k
small_pow b i k n pos le small = let e = pow-le-pow_right pos le in omega (arith, e)
