-- The bits that a table takes.
use Rattle.std.proofs.Common.{◌≡◌, ℕ, ◌+◌, ◌-◌, ◌*◌, ◌/◌, ◌%◌, ◌^◌, ◌<◌, ◌≤◌, List, [], ◌∷◌, ◌++◌, length, get_or, take, refl, sym, ap, ◌∙◌, arith, IsTrue, Bool, nat_le, ◌&&◌}
use Rattle.std.specs.List.{list_all, range_with_len}
use Rattle.std.specs.Int.{bit_at}
use Rattle.std.specs.Int.RustNames.{bit_or, bit_and}
use Rattle.std.proofs.lemmas.Grind.{common_steps}
use Rattle.std.proofs.lemmas.List.{map_more, length-map, get_or-map, ext_get_or}
use Rattle.std.proofs.lemmas.List.FromFn.{get_or-range_with_len, length-range_with_len}
use Rattle.std.proofs.lemmas.Nat.Bits.{bit_at-lt, shr_and_one}
use Rattle.des_core.specs.Bits.{bits_of}
use Rattle.des_core.specs.Des.{bits_by_table}
use Rattle.des_core.proofs.BitLemmas.{bits_of-or, or-below, bits_of-one, get_or-bits_of}

-- every place of the table is within `width` bits
abbrev pub are_places : ℕ → List ℕ → Bool
are_places width table = list_all (λ place. nat_le 1 place && nat_le place width) table

place_at : (width : ℕ) (table : List ℕ) (i : ℕ) → IsTrue (are_places width table) → i < length table
    → (1 ≤ get_or table i 0) × (get_or table i 0 ≤ width)
place_at width table i all within = grind (arith, common_steps)

bits_by_table-take : (table bits : List ℕ) (i : ℕ) → i < length table
    → bits_by_table (take (i + 1) table) bits ≡ bits_by_table (take i table) bits ++ get_or bits (get_or table i 0 - 1) 0 ∷ []
unfolding bits_by_table
bits_by_table-take table bits i within = map_more _ table i 0 within

-- one place of a table more
pub permute_step : (width word : ℕ) (table : List ℕ) (i out : ℕ) → IsTrue (are_places width table)
    → i < length table → length table ≤ 64 → bits_of i out ≡ bits_by_table (take i table) (bits_of width word)
    → out < 2 ^ i
    → let next = bit_or (out * 2 ^ 1 % 2 ^ 64) (bit_and (word / 2 ^ (width - get_or table i 0)) 1) in
    (bits_of (i + 1) next ≡ bits_by_table (take (i + 1) table) (bits_of width word)) × (next < 2 ^ (i + 1))
permute_step width word table i out all within few bits bound =
    let place = get_or table i 0 in
    let bit = bit_and (word / 2 ^ (width - place)) 1 in
    let bit_is : bit ≡ bit_at word (width - place) = shr_and_one word (width - place) in
    let small : bit < 2 = rw bit_is (bit_at-lt word (width - place)) in
    let placed = place_at width table i all within in
    let read : bit ≡ get_or (bits_of width word) (place - 1) 0 =
    bit_is ∙ sym (get_or-bits_of width word (place - 1) (omega (arith, placed)) ∙ ap (bit_at word) (omega (arith, placed))) in
    let before = bits_by_table (take i table) (bits_of width word) in (
      bits_of-or i 1 64 out bit (omega arith) bound small
          ∙ (rw (bits, bits_of-one bit small) (ap (λ b. before ++ b ∷ []) read)
          ∙ sym (bits_by_table-take table (bits_of width word) i within)),
      or-below i 1 64 out bit (omega arith) bound small,
    )

pub length-bits_by_table : (table bits : List ℕ) → length (bits_by_table table bits) ≡ length table
unfolding bits_by_table
length-bits_by_table table bits = length-map table _

pub bits_by_table-bits_by_table : (outer inner bits : List ℕ) → IsTrue (are_places (length inner) outer)
    → bits_by_table outer (bits_by_table inner bits) ≡ bits_by_table (bits_by_table outer inner) bits
unfolding bits_by_table
bits_by_table-bits_by_table [] inner bits all = refl
bits_by_table-bits_by_table (place ∷ places) inner bits all =
    let within : place - 1 < length inner = grind (arith, common_steps) in
    let rest : IsTrue (are_places (length inner) places) = grind (arith, common_steps) in
    rw (get_or-map (λ q. get_or bits (q - 1) 0) inner (place - 1) 0 0 within, bits_by_table-bits_by_table places inner bits rest) refl

-- the table 1, 2, 3, .. takes each bit once, in order
pub bits_by_table-in_order : (bits : List ℕ) (n : ℕ) → length bits ≡ n
    → bits_by_table (range_with_len 1 n) bits ≡ bits
unfolding bits_by_table
bits_by_table-in_order bits n long =
    let taken : length (bits_by_table (range_with_len 1 n) bits) ≡ n = length-map (range_with_len 1 n) _ ∙ length-range_with_len 1 n in
    ext_get_or 0 _ _ (taken ∙ sym long) (λ i lt.
    let below : i < length (range_with_len 1 n) = omega (arith, length-range_with_len 1 n) in
    let at : get_or (range_with_len 1 n) i 0 ≡ 1 + i = get_or-range_with_len 1 n i 0 (omega arith) in
    get_or-map (λ p. get_or bits (p - 1) 0) (range_with_len 1 n) i 0 0 below ∙ ap (λ k. get_or bits k 0) (omega (arith, at)))
