-- The first sixteen of a list, as they are put.
use Rattle.std.proofs.Common.{◌≡◌, ℕ, suc, zero, ◌+◌, ◌<◌, ◌≤◌, List, [], ◌∷◌, ◌++◌, append_assoc, ap, arith, get_or, length, refl, sym, take, ◌∙◌}
use Rattle.std.proofs.lemmas.List.{append-nil, take-append-le, take_all, take_more}
use Rattle.pin_blocks.specs.Blocks.{sixteen}

-- what is cut off before is cut off again
pub take-again : (n : ℕ) (xs ys : List ℕ) → take n (take n xs ++ ys) ≡ take n (xs ++ ys)
take-again zero xs ys = refl
take-again (suc n) [] ys = refl
take-again (suc n) (x ∷ xs) ys = ap (λ rest. x ∷ rest) (take-again n xs ys)

-- nothing is put where sixteen are there
pub sixteen-full : (xs ys : List ℕ) → length xs ≡ 16 → xs ≡ sixteen (xs ++ ys)
sixteen-full xs ys full = sym (take-append-le 16 xs ys (omega arith) ∙ take_all 16 xs (omega arith))

-- before the first is put
pub sixteen-start : (xs : List ℕ) → length xs ≤ 16 → xs ≡ sixteen (xs ++ [])
sixteen-start xs few = sym (ap (take 16) (append-nil xs) ∙ take_all 16 xs few)

-- after one more is put
pub sixteen-more : (old xs so_far : List ℕ) (i x : ℕ) → i < length xs → x ≡ get_or xs i 0 → so_far ≡ sixteen (old ++ take i xs)
    → sixteen (so_far ++ x ∷ []) ≡ sixteen (old ++ take (i + 1) xs)
sixteen-more old xs so_far i x within is so =
    ap (λ before. sixteen (before ++ x ∷ [])) so
    ∙ (take-again 16 (old ++ take i xs) (x ∷ [])
    ∙ ap (take 16) (append_assoc old (take i xs) (x ∷ []) ∙ ap (λ values. old ++ values)
    (ap (λ last. take i xs ++ last ∷ []) is ∙ sym (take_more xs i 0 within))))
