-- The initial and the final permutation by exchanges of bits. A map of words that keeps exclusive ors is known by what it
-- makes of each single bit, so that 64 tests tell that it permutes by a table, whatever its steps are.
use Rattle.std.proofs.Common.{◌≡◌, ℕ, zero, suc, ◌+◌, ◌-◌, ◌*◌, ◌/◌, ◌%◌, ◌^◌, ◌<◌, ◌≤◌, List, Bool, min, refl, sym, ap, ◌∙◌, subst, arith, add-zero, inl, inr, IsTrue}
use Rattle.std.specs.List.{list_all, range_with_len}
use Rattle.std.specs.Int.{bit_at}
use Rattle.std.specs.Int.RustNames.{bit_and, bit_xor}
use Rattle.std.specs.Int.Bits.{xor_assoc, xor_shifted}
use Rattle.std.proofs.lemmas.Bool.{cases_lt}
use Rattle.std.proofs.lemmas.Nat.{xor_shr, xor_mod, xor_block, xor_comm, pow_pos}
use Rattle.std.proofs.lemmas.Nat.Bits.{same_from_bits, bit_at_and, bit_at_xor, bit_at-lt}
use Rattle.std.proofs.Math.Nat.{pow-suc}
use Rattle.des_core.specs.Bits.{bits_of}
use Rattle.des_core.specs.Des.{bits_by_table}
use Rattle.des_core.specs.Exchanges.{exchanged}
use Rattle.des_core.specs.Permutations.{initial_permutation, final_permutation}
use Rattle.des_core.proofs.BitLemmas.{length-bits_of}
use Rattle.des_core.proofs.JoinedLemmas.{each_below, are_equal, eq-are_equal}
use Rattle.des_core.proofs.RoundLemmas.{same_two}
use Rattle.des_core.proofs.ZippedLemmas.{zipped, bits_of-xor_zipped, bits_by_table-zipped}

-- the map takes the exclusive or of two words to that of their images
abbrev KeepsXor : (ℕ → ℕ) → Type 0
KeepsXor f = (a b : ℕ) → f (bit_xor a b) ≡ bit_xor (f a) (f b)

min_of_bits : (x y z : ℕ) → x < 2 → y < 2 → z < 2 → min ((x + y) % 2) z ≡ (min x z + min y z) % 2
min_of_bits x y z x_bit y_bit z_bit = omega arith

and_xor : (a b mask : ℕ) → bit_and (bit_xor a b) mask ≡ bit_xor (bit_and a mask) (bit_and b mask)
and_xor a b mask =
    same_from_bits _ _ (λ i. rw (bit_at_and (bit_xor a b) mask i, bit_at_xor a b i, bit_at_xor (bit_and a mask) (bit_and b mask) i, bit_at_and a mask i, bit_at_and b mask i)
    (min_of_bits (bit_at a i) (bit_at b i) (bit_at mask i) (bit_at-lt a i) (bit_at-lt b i) (bit_at-lt mask i)))

xor_four : (a b c d : ℕ) → bit_xor (bit_xor a b) (bit_xor c d) ≡ bit_xor (bit_xor a c) (bit_xor b d)
xor_four a b c d =
    let middle : bit_xor b (bit_xor c d) ≡ bit_xor c (bit_xor b d) =
    sym (xor_assoc b c d) ∙ (ap (λ x. bit_xor x d) (xor_comm b c) ∙ xor_assoc c b d) in
    xor_assoc a b (bit_xor c d) ∙ (ap (bit_xor a) middle ∙ sym (xor_assoc a c (bit_xor b d)))

shl_xor : (a b k : ℕ) → bit_xor a b * 2 ^ k % 2 ^ 64 ≡ bit_xor (a * 2 ^ k % 2 ^ 64) (b * 2 ^ k % 2 ^ 64)
shl_xor a b k =
    let block : bit_xor (a * 2 ^ k) (b * 2 ^ k) ≡ bit_xor a b * 2 ^ k =
    rw (add-zero (a * 2 ^ k), add-zero (b * 2 ^ k), add-zero (bit_xor a b * 2 ^ k)) at (xor_block k a b 0 0 (pow_pos k) (pow_pos k)) in
    ap (λ n. n % 2 ^ 64) (sym block) ∙ xor_mod (a * 2 ^ k) (b * 2 ^ k) 64

exchanged-keeps : (shift mask : ℕ) → KeepsXor (exchanged shift mask)
unfolding exchanged
exchanged-keeps shift mask a b =
    let of_a = bit_and (bit_xor a (a / 2 ^ shift)) mask in
    let of_b = bit_and (bit_xor b (b / 2 ^ shift)) mask in
    let both : bit_and (bit_xor (bit_xor a b) (bit_xor a b / 2 ^ shift)) mask ≡ bit_xor of_a of_b =
    ap (λ x. bit_and (bit_xor (bit_xor a b) x) mask) (xor_shr a b shift)
    ∙ (ap (λ x. bit_and x mask) (xor_four a b (a / 2 ^ shift) (b / 2 ^ shift)) ∙ and_xor _ _ mask) in
    rw (both, shl_xor of_a of_b shift, xor_four a b of_a of_b)
    (xor_four (bit_xor a of_a) (bit_xor b of_b) (of_a * 2 ^ shift % 2 ^ 64) (of_b * 2 ^ shift % 2 ^ 64))

-- the map permutes this word by the table
abbrev Permutes : (ℕ → ℕ) → List ℕ → ℕ → ℕ → Type 0
Permutes f table width word = bits_of width (f word) ≡ bits_by_table table (bits_of width word)

-- the test of a single bit
abbrev bit_test : (ℕ → ℕ) → List ℕ → ℕ → ℕ → Bool
bit_test f table width k = are_equal (bits_of width (f (2 ^ k))) (bits_by_table table (bits_of width (2 ^ k)))

with_top_bit : (f : ℕ → ℕ) (table : List ℕ) (width k word : ℕ) → KeepsXor f → Permutes f table width (2 ^ k)
    → ((rest : ℕ) → rest < 2 ^ k → Permutes f table width rest) → 2 ^ k ≤ word → word < 2 ^ suc k → Permutes f table width word
with_top_bit f table width k word keeps bit below top small =
    let rest = word - 2 ^ k in
    let power : 2 ^ (suc k) ≡ 2 ^ k * 2 = pow-suc 2 k in
    let rest_small : rest < 2 ^ k = omega arith in
    let one : 1 * 2 ^ k ≡ 2 ^ k = omega arith in
    let split : bit_xor (2 ^ k) rest ≡ word =
    ap (λ n. bit_xor n rest) (sym one) ∙ (xor_shifted 1 k rest rest_small ∙ omega arith) in
    let long = length-bits_of width (2 ^ k) ∙ sym (length-bits_of width rest) in
    let P : ℕ → Type 0 = λ n. Permutes f table width n in
    subst P split
    (ap (bits_of width) (keeps (2 ^ k) rest) ∙ (bits_of-xor_zipped width (f (2 ^ k)) (f rest)
    ∙ (same_two (zipped bit_xor) bit (below rest rest_small)
    ∙ (sym (bits_by_table-zipped bit_xor table (bits_of width (2 ^ k)) (bits_of width rest) refl long)
    ∙ ap (bits_by_table table) (sym (bits_of-xor_zipped width (2 ^ k) rest))))))

permutes_below : (f : ℕ → ℕ) (table : List ℕ) (width : ℕ) → KeepsXor f → Permutes f table width 0
    → ((k : ℕ) → k < width → Permutes f table width (2 ^ k)) → (k word : ℕ) → k ≤ width → word < 2 ^ k → Permutes f table width word
permutes_below f table width keeps at_zero bits zero word within small =
    let none : 0 ≡ word = omega arith in
    let P : ℕ → Type 0 = λ n. Permutes f table width n in
    subst P none at_zero
permutes_below f table width keeps at_zero bits (suc k) word within small =
    elim (cases_lt word (2 ^ k)) [
      | inl less ↦ permutes_below f table width keeps at_zero bits k word (omega arith) less
      | inr top ↦
          with_top_bit f table width k word keeps (bits k (omega arith))
          (λ rest less. permutes_below f table width keeps at_zero bits k rest (omega arith) less) top small
    ]

-- a map that keeps exclusive ors, and permutes each single bit by the table, does so with every word
permutes : (f : ℕ → ℕ) (table : List ℕ) (width word : ℕ) → KeepsXor f → Permutes f table width 0
    → IsTrue (list_all (bit_test f table width) (range_with_len 0 width)) → word < 2 ^ width → Permutes f table width word
permutes f table width word keeps at_zero tested small =
    permutes_below f table width keeps at_zero (λ k within. eq-are_equal _ _ (each_below (bit_test f table width) width k tested within))
    width word (omega arith) small

-- the exchanges of the initial permutation, and those of the final one
abbrev pub initial_exchanges : ℕ → ℕ
initial_exchanges word =
    exchanged 33 0x55555555 (exchanged 24 0xff00ff00 (exchanged 30 0xcccccccc (exchanged 48 0xffff (exchanged 36 0x0f0f0f0f word))))

abbrev pub final_exchanges : ℕ → ℕ
final_exchanges word =
    exchanged 36 0x0f0f0f0f (exchanged 48 0xffff (exchanged 30 0xcccccccc (exchanged 24 0xff00ff00 (exchanged 33 0x55555555 word))))

initial_keeps : KeepsXor initial_exchanges
initial_keeps a b = simp exchanged-keeps refl

final_keeps : KeepsXor final_exchanges
final_keeps a b = simp exchanged-keeps refl

initial_tested : IsTrue (list_all (bit_test initial_exchanges initial_permutation 64) (range_with_len 0 64))
unfolding bits_of bits_by_table exchanged
initial_tested = refl

final_tested : IsTrue (list_all (bit_test final_exchanges final_permutation 64) (range_with_len 0 64))
unfolding bits_of bits_by_table exchanged
final_tested = refl

initial_of_zero : Permutes initial_exchanges initial_permutation 64 0
unfolding bits_of bits_by_table exchanged
initial_of_zero = refl

final_of_zero : Permutes final_exchanges final_permutation 64 0
unfolding bits_of bits_by_table exchanged
final_of_zero = refl

pub initial_by_exchanges : (word : ℕ) → word < 2 ^ 64
    → bits_of 64 (initial_exchanges word) ≡ bits_by_table initial_permutation (bits_of 64 word)
initial_by_exchanges word small = permutes initial_exchanges initial_permutation 64 word initial_keeps initial_of_zero initial_tested small

pub final_by_exchanges : (word : ℕ) → word < 2 ^ 64
    → bits_of 64 (final_exchanges word) ≡ bits_by_table final_permutation (bits_of 64 word)
final_by_exchanges word small = permutes final_exchanges final_permutation 64 word final_keeps final_of_zero final_tested small
