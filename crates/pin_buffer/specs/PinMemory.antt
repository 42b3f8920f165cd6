-- The memory of a held PIN: sixteen places for digits, of which the first ones are used.
use Rattle.pad_words.specs.declared.numbers.Digit.{Digit}
use Rattle.std.specs.Prelude.{List, drop, length, map, replicate, take, ℕ, ◌++◌, ◌-◌}

-- the digits of the PIN, and what stands in the places after them
pub record PinMemory : Type 0 where
  pub digits : List ℕ
  pub rest : List ℕ

-- the numbers in the places
abbrev pub values_of : List Digit → List ℕ
values_of places = map (λ digit. digit.value) places

-- the memory of these places, of which so many are used
abbrev pub memory_of : ℕ → List Digit → PinMemory
memory_of count places = record { digits = take count (values_of places); rest = drop count (values_of places) }

-- a zero in each place after the digits
abbrev pub zeros_after : List ℕ → List ℕ
zeros_after digits = replicate (16 - length digits) 0

-- the digits in the first places, and zero in the others
abbrev pub padded : List ℕ → List ℕ
padded digits = digits ++ zeros_after digits
