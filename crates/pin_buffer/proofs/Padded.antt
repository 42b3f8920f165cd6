-- Digits with zeros after them, put place by place.
use Rattle.std.proofs.Common.{◌≡◌, ℕ, ◌+◌, ◌<◌, ◌≤◌, List, [], ◌∷◌, ◌++◌, length, take, get_or, set, replicate, refl, suc, zero, sym, ap, ◌∙◌, arith}
use Rattle.std.proofs.lemmas.List.{take_all, take_more, take_more_set, length-append, length-replicate, length-map, map-set}
use Rattle.pad_words.specs.declared.numbers.Digit.{Digit}
use Rattle.pin_buffer.specs.PinMemory.{padded, values_of, zeros_after}

get_or-zeros : (n i : ℕ) → ◌≡◌ {A = ℕ} (get_or (replicate n 0) i 0) 0
get_or-zeros zero i = refl
get_or-zeros (suc n) zero = refl
get_or-zeros (suc n) (suc i) = get_or-zeros n i

get_or-with_zeros : (digits : List ℕ) (n i : ℕ) → get_or {A = ℕ} (digits ++ replicate n 0) i 0 ≡ get_or digits i 0
get_or-with_zeros [] n i = get_or-zeros n i
get_or-with_zeros (digit ∷ digits) n zero = refl
get_or-with_zeros (digit ∷ digits) n (suc i) = get_or-with_zeros digits n i

length-padded : (digits : List ℕ) → length digits ≤ 16 → length (padded digits) ≡ 16
length-padded digits few = omega (arith, length-append digits (zeros_after digits), length-replicate {A = ℕ})

-- one place more
pub padded_step : (digits : List ℕ) (places : List Digit) (i : ℕ) (digit : Digit) → length digits ≤ 16 → i < 16 → length places ≡ 16
    → digit.value ≡ get_or digits i 0 → take i (values_of places) ≡ take i (padded digits)
    → take (i + 1) (values_of (set places i digit)) ≡ take (i + 1) (padded digits)
padded_step digits places i digit few within long is before =
    ap (λ (xs : List ℕ). take (i + 1) xs) (map-set (λ (d : Digit). d.value) places i digit)
    ∙ take_more_set (values_of places) i digit.value (omega (arith, length-map places (λ (d : Digit). d.value)))
    ∙ ap (λ (xs : List ℕ). xs ++ digit.value ∷ []) before
    ∙ ap (λ (v : ℕ). take i (padded digits) ++ v ∷ []) (is ∙ sym (get_or-with_zeros digits _ i))
    ∙ sym (take_more (padded digits) i 0 (omega (arith, length-padded digits few)))

-- all places
pub padded_all : (digits : List ℕ) (places : List Digit) (i : ℕ) → length digits ≤ 16 → 16 ≤ i → length places ≡ 16
    → take i (values_of places) ≡ take i (padded digits) → values_of places ≡ padded digits
padded_all digits places i few all long before =
    sym (take_all i (values_of places) (omega (arith, length-map places (λ (d : Digit). d.value))))
    ∙ before
    ∙ take_all i (padded digits) (omega (arith, length-padded digits few))
