-- Codes by two ciphers that agree on blocks of eight bytes.
use Rattle.std.proofs.Common.{ap, arith, sym, ◌∙◌}
use Rattle.std.proofs.lemmas.List.{length-drop, length-take-le}
use Rattle.std.specs.Prelude.{List, drop, length, refl, suc, take, zero, ℕ, ◌*◌, ◌/◌, ◌∷◌, ◌≡◌, ◌≤◌}
use Rattle.cbc_mac.specs.Modes.{blocks, cbc, chain, last_or}
use Rattle.pad_words.specs.Bytes.{zero_block, exclusive_or}

module _ (one two : List ℕ → List ℕ) (same : (block : List ℕ) → length block ≡ 8 → one block ≡ two block) (eight : (block : List ℕ) → length (two block) ≡ 8)
    (long : (xs ys : List ℕ) → length xs ≡ length ys → length (exclusive_or xs ys) ≡ length xs) where
  -- the same chaining over blocks of eight bytes
  cbc-same : (count : ℕ) (bytes start : List ℕ) → 8 * count ≤ length bytes → length start ≡ 8 → cbc one start (blocks count bytes) ≡ cbc two start (blocks count bytes)
  unfolding cbc blocks
  cbc-same zero bytes start enough starts = refl
  cbc-same (suc count) bytes start enough starts =
      let block : length (take 8 bytes) ≡ 8 = length-take-le 8 bytes (omega (arith, enough)) in
      let mixed : length (exclusive_or (take 8 bytes) start) ≡ 8 = long (take 8 bytes) start (block ∙ sym starts) ∙ block in
      let sealed = two (exclusive_or (take 8 bytes) start) in
      rw (same (exclusive_or (take 8 bytes) start) mixed) (ap (λ (rest : List (List ℕ)). sealed ∷ rest) (cbc-same count (drop 8 bytes) sealed (omega (arith, enough, length-drop 8 bytes)) (eight _)))

  pub chain-same : (bytes : List ℕ) → chain one (blocks (length bytes / 8) bytes) ≡ chain two (blocks (length bytes / 8) bytes)
  chain-same bytes = ap (last_or zero_block) (cbc-same (length bytes / 8) bytes zero_block (omega arith) refl)

  -- a chain gives eight bytes
  length-last : (none : List ℕ) (count : ℕ) (bytes start : List ℕ) → length none ≡ 8 → length (last_or none (cbc two start (blocks count bytes))) ≡ 8
  unfolding cbc blocks last_or
  length-last none zero bytes start is = is
  length-last none (suc count) bytes start is = length-last (two (exclusive_or (take 8 bytes) start)) count (drop 8 bytes) (two (exclusive_or (take 8 bytes) start)) (eight _)

  pub length-chain : (bytes : List ℕ) → length (chain two (blocks (length bytes / 8) bytes)) ≡ 8
  length-chain bytes = length-last zero_block (length bytes / 8) bytes zero_block refl
