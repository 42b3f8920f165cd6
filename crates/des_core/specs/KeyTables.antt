-- The tables of FIPS 46-3 by which round keys are made of a key.
--
-- A table gives, for each bit of its result in order, the place of the bit that it takes. Places count from 1, the most
-- significant bit of the first byte. A line here is a line of the standard's print.
use Rattle.std.specs.Prelude.{ℕ, List, [], ◌∷◌}

-- PC-1, permuted choice 1: four lines for the half C, four for the half D (FIPS 46-3, Appendix 1)
abbrev pub permuted_choice_1 : List ℕ
permuted_choice_1 =
    57 ∷ 49 ∷ 41 ∷ 33 ∷ 25 ∷ 17 ∷ 9 ∷
    1 ∷ 58 ∷ 50 ∷ 42 ∷ 34 ∷ 26 ∷ 18 ∷
    10 ∷ 2 ∷ 59 ∷ 51 ∷ 43 ∷ 35 ∷ 27 ∷
    19 ∷ 11 ∷ 3 ∷ 60 ∷ 52 ∷ 44 ∷ 36 ∷
    63 ∷ 55 ∷ 47 ∷ 39 ∷ 31 ∷ 23 ∷ 15 ∷
    7 ∷ 62 ∷ 54 ∷ 46 ∷ 38 ∷ 30 ∷ 22 ∷
    14 ∷ 6 ∷ 61 ∷ 53 ∷ 45 ∷ 37 ∷ 29 ∷
    21 ∷ 13 ∷ 5 ∷ 28 ∷ 20 ∷ 12 ∷ 4 ∷ []

-- PC-2, permuted choice 2 (FIPS 46-3, Appendix 1)
abbrev pub permuted_choice_2 : List ℕ
permuted_choice_2 =
    14 ∷ 17 ∷ 11 ∷ 24 ∷ 1 ∷ 5 ∷
    3 ∷ 28 ∷ 15 ∷ 6 ∷ 21 ∷ 10 ∷
    23 ∷ 19 ∷ 12 ∷ 4 ∷ 26 ∷ 8 ∷
    16 ∷ 7 ∷ 27 ∷ 20 ∷ 13 ∷ 2 ∷
    41 ∷ 52 ∷ 31 ∷ 37 ∷ 47 ∷ 55 ∷
    30 ∷ 40 ∷ 51 ∷ 45 ∷ 33 ∷ 48 ∷
    44 ∷ 49 ∷ 39 ∷ 56 ∷ 34 ∷ 53 ∷
    46 ∷ 42 ∷ 50 ∷ 36 ∷ 29 ∷ 32 ∷ []

-- the number of left shifts in iterations 1 to 16, printed in a column (FIPS 46-3, Appendix 1)
abbrev pub left_shifts : List ℕ
left_shifts =
    1 ∷ 1 ∷ 2 ∷ 2 ∷ 2 ∷ 2 ∷ 2 ∷ 2 ∷ 1 ∷ 2 ∷ 2 ∷ 2 ∷ 2 ∷ 2 ∷ 2 ∷ 1 ∷ []
