-- Decryption in a mode undoes encryption, for a cipher of blocks that its inverse undoes.
use Rattle.std.proofs.Common.{◌≡◌, ℕ, suc, ◌<◌, List, [], ◌∷◌, length, refl, ap, ◌∙◌, arith}
use Rattle.std.specs.List.{All}
use Rattle.std.specs.Int.RustNames.{bit_xor}
use Rattle.std.proofs.lemmas.List.Elements.{All-nil, All-cons, All-head, All-tail}
use Rattle.std.proofs.lemmas.Nat.{xor_lt}
use Rattle.des_core.specs.Bits.{IsBlock}
use Rattle.pad_words.specs.Bytes.{exclusive_or}
use Rattle.cbc_mac.specs.Modes.{ecb, cbc, cbc_back}

-- a cipher gives blocks, and its inverse undoes it
pub record IsUndone (encrypt decrypt : List ℕ → List ℕ) : Type 0 where
  pub gives_a_block : (block : List ℕ) → IsBlock (encrypt block)
  pub undone : (block : List ℕ) → IsBlock block → decrypt (encrypt block) ≡ block

length-exclusive_or : (xs ys : List ℕ) → length xs ≡ length ys → length (exclusive_or xs ys) ≡ length xs
unfolding exclusive_or
length-exclusive_or [] ys long = refl
length-exclusive_or (x ∷ xs) [] long = absurd (omega arith)
length-exclusive_or (x ∷ xs) (y ∷ ys) long = ap suc (length-exclusive_or xs ys (omega arith))

exclusive_or-lt : (xs ys : List ℕ) → All (λ byte. byte < 256) xs → All (λ byte. byte < 256) ys
    → All (λ byte. byte < 256) (exclusive_or xs ys)
unfolding exclusive_or
exclusive_or-lt [] ys small others = All-nil (λ byte. byte < 256)
exclusive_or-lt (x ∷ xs) [] small others = All-nil (λ byte. byte < 256)
exclusive_or-lt (x ∷ xs) (y ∷ ys) small others =
    let P : ℕ → Type 0 = λ byte. byte < 256 in
    All-cons P (bit_xor x y) (exclusive_or xs ys) (xor_lt 8 x y (All-head P x xs small) (All-head P y ys others))
    (exclusive_or-lt xs ys (All-tail P x xs small) (All-tail P y ys others))

IsBlock-exclusive_or : (xs ys : List ℕ) → IsBlock xs → IsBlock ys → IsBlock (exclusive_or xs ys)
IsBlock-exclusive_or xs ys is other =
    (length-exclusive_or xs ys (omega (arith, is.0, other.0)) ∙ is.0, exclusive_or-lt xs ys is.1 other.1)

pub ecb-undone : (encrypt decrypt : List ℕ → List ℕ) → IsUndone encrypt decrypt → (blocks : List (List ℕ))
    → All IsBlock blocks → ecb decrypt (ecb encrypt blocks) ≡ blocks
ecb-undone encrypt decrypt law [] are = refl
ecb-undone encrypt decrypt law (block ∷ rest) are =
    rw (law.undone block (All-head IsBlock block rest are), ecb-undone encrypt decrypt law rest (All-tail IsBlock block rest are)) refl

pub cbc-undone : (encrypt decrypt : List ℕ → List ℕ) → IsUndone encrypt decrypt
    → ((xs ys : List ℕ) → length xs ≡ length ys → exclusive_or (exclusive_or xs ys) ys ≡ xs) → (start : List ℕ)
    → (blocks : List (List ℕ)) → IsBlock start → All IsBlock blocks
    → cbc_back decrypt start (cbc encrypt start blocks) ≡ blocks
unfolding cbc cbc_back
cbc-undone encrypt decrypt law twice start [] is are = refl
cbc-undone encrypt decrypt law twice start (block ∷ rest) is are =
    let first = All-head IsBlock block rest are in
    let joined = exclusive_or block start in
    let sealed = encrypt joined in
    let back : exclusive_or (decrypt sealed) start ≡ block =
    ap (λ b. exclusive_or b start) (law.undone joined (IsBlock-exclusive_or block start first is))
    ∙ twice block start (omega (arith, first.0, is.0)) in
    let others = cbc-undone encrypt decrypt law twice sealed rest (law.gives_a_block joined) (All-tail IsBlock block rest are) in
    rw (back, others) refl
