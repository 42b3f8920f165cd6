-- A list of bytes that is changed in place, some blocks at a time.
use Rattle.std.proofs.Common.{◌≡◌, ℕ, zero, suc, ◌+◌, ◌-◌, ◌*◌, ◌/◌, ◌%◌, ◌<◌, ◌≤◌, List, [], ◌∷◌, ◌++◌, length, take, drop, refl, sym, ap, ◌∙◌, arith}
use Rattle.std.specs.List.{concat}
use Rattle.std.proofs.lemmas.List.{take_at, drop_at, append_assoc, append-nil, length-take-le, length-append, length-drop, drop-drop, take_all}
use Rattle.pad_words.specs.Bytes.{exclusive_or}
use Rattle.pad_words.specs.declared.Direction.{Direction}
use Rattle.pad_words.specs.declared.Direction.TheVariants as way
use Rattle.cbc_mac.specs.Modes.{blocks, blocks_of, cbc, cbc_back, ecb, tdea_block, tdea_ecb}

-- a list with some bytes replaced
abbrev pub replaced : List ℕ → ℕ → List ℕ → ℕ → List ℕ
replaced buf at out count = take at buf ++ out ++ drop (at + count) buf

pub length-replaced : (buf out : List ℕ) (at count : ℕ) → at + count ≤ length buf → length out ≡ count
    → length (replaced buf at out count) ≡ length buf
length-replaced buf out at count within long =
    omega (
      arith,
      length-append (take at buf ++ out) (drop (at + count) buf),
      length-append (take at buf) out,
      length-take-le at buf (omega arith),
      length-drop (at + count) buf,
    )

length-front : (buf out : List ℕ) (at count : ℕ) → at + count ≤ length buf → length out ≡ count
    → length (take at buf ++ out) ≡ at + count
length-front buf out at count within long = omega (arith, length-append (take at buf) out, length-take-le at buf (omega arith))

take-replaced : (buf out : List ℕ) (at count : ℕ) → at + count ≤ length buf → length out ≡ count
    → take (at + count) (replaced buf at out count) ≡ take at buf ++ out
take-replaced buf out at count within long =
    take_at (take at buf ++ out) (drop (at + count) buf) (at + count) (length-front buf out at count within long)

drop-replaced : (buf out : List ℕ) (at count : ℕ) → at + count ≤ length buf → length out ≡ count
    → drop (at + count) (replaced buf at out count) ≡ drop (at + count) buf
drop-replaced buf out at count within long =
    drop_at (take at buf ++ out) (drop (at + count) buf) (at + count) (length-front buf out at count within long)

-- what is behind bytes that are replaced
behind-replaced : (buf out : List ℕ) (at count more : ℕ) → at + count ≤ length buf → length out ≡ count
    → drop (at + count + more) (replaced buf at out count) ≡ drop (at + count + more) buf
behind-replaced buf out at count more within long =
    let same : more + (at + count) ≡ at + count + more = omega arith in
    let of_new : drop more (drop (at + count) (replaced buf at out count)) ≡ drop (at + count + more) (replaced buf at out count) =
    drop-drop more (at + count) (replaced buf at out count) ∙ ap (λ n. drop n (replaced buf at out count)) (omega arith) in
    let of_old : drop more (drop (at + count) buf) ≡ drop (at + count + more) buf =
    drop-drop more (at + count) buf ∙ ap (λ n. drop n buf) (omega arith) in
    sym of_new ∙ (ap (drop more) (drop-replaced buf out at count within long) ∙ of_old)

-- bytes replaced, and then those behind them
twice-replaced : (buf out more : List ℕ) (at count others : ℕ) → at + count + others ≤ length buf → length out ≡ count
    → length more ≡ others
    → replaced (replaced buf at out count) (at + count) more others ≡ replaced buf at (out ++ more) (count + others)
twice-replaced buf out more at count others within long more_long =
    let all : at + count + others ≡ at + (count + others) = omega arith in
    rw (take-replaced buf out at count (omega arith) long, behind-replaced buf out at count others (omega arith) long, all)
    (ap (λ front. front ++ drop (at + (count + others)) buf) (append_assoc (take at buf) out more))

pub three_replaced : (buf a b c : List ℕ) (at : ℕ) → at + 24 ≤ length buf → length a ≡ 8 → length b ≡ 8 → length c ≡ 8
    → replaced (replaced (replaced buf at a 8) (at + 8) b 8) (at + 16) c 8 ≡ replaced buf at (a ++ b ++ c) 24
three_replaced buf a b c at within a_long b_long c_long =
    let both : length (a ++ b) ≡ 16 = length-append a b ∙ omega arith in
    ap (λ bytes. replaced bytes (at + 16) c 8) (twice-replaced buf a b at 8 8 (omega arith) a_long b_long)
    ∙ twice-replaced buf (a ++ b) c at 16 8 (omega arith) both c_long

-- the first blocks, and the others
blocks-add : (k m : ℕ) (bytes : List ℕ) → blocks (k + m) bytes ≡ blocks k bytes ++ blocks m (drop (8 * k) bytes)
unfolding blocks
blocks-add zero m bytes = ap (λ n. blocks n bytes) (omega arith)
blocks-add (suc k) m bytes =
    let count : suc k + m ≡ suc (k + m) = omega arith in
    let behind : 8 * k + 8 ≡ 8 * suc k = omega arith in
    let rest : drop (8 * k) (drop 8 bytes) ≡ drop (8 * suc k) bytes =
    drop-drop (8 * k) 8 bytes ∙ ap (λ n. drop n bytes) (omega arith) in
    ap (λ n. blocks n bytes) count
    ∙ ap (λ bs. take 8 bytes ∷ bs) (blocks-add k m (drop 8 bytes) ∙ ap (λ xs. blocks k (drop 8 bytes) ++ blocks m xs) rest)

-- `i` of `n` blocks are changed, and with what `whole` makes of the others the bytes will be `all`
pub record IsChanged (buf : List ℕ) (n i : ℕ) (whole : List (List ℕ) → List ℕ) (all : List ℕ) : Type 0 where
  pub joined : take (8 * i) buf ++ whole (blocks (n - i) (drop (8 * i) buf)) ≡ all
  pub long : length buf ≡ 8 * n

pub none_changed : (buf : List ℕ) (whole : List (List ℕ) → List ℕ) → length buf % 8 ≡ 0
    → IsChanged buf (length buf / 8) 0 whole (whole (blocks_of buf))
none_changed buf whole multiple =
    let all : length buf / 8 - 0 ≡ length buf / 8 = omega arith in
    record { joined = ap (λ m. whole (blocks m buf)) all; long = omega arith }

-- some blocks more, where `whole` of the blocks left is the bytes of the first and then `rest` of the others
pub more_changed : (buf out : List ℕ) (n i k : ℕ) (whole rest : List (List ℕ) → List ℕ) (all : List ℕ) → i + k ≤ n
    → length out ≡ 8 * k → ((others : List (List ℕ)) → whole (blocks k (drop (8 * i) buf) ++ others) ≡ out ++ rest others)
    → IsChanged buf n i whole all → IsChanged (replaced buf (8 * i) out (8 * k)) n (i + k) rest all
more_changed buf out n i k whole rest all within more step before =
    let long = before.long in
    let next : 8 * (i + k) ≡ 8 * i + 8 * k = omega arith in
    let left : n - i ≡ k + (n - (i + k)) = omega arith in
    let room : 8 * i + 8 * k ≤ length buf = omega arith in
    let tail : drop (8 * k) (drop (8 * i) buf) ≡ drop (8 * i + 8 * k) buf =
    drop-drop (8 * k) (8 * i) buf ∙ ap (λ m. drop m buf) (omega arith) in
    let parts : blocks (n - i) (drop (8 * i) buf) ≡ blocks k (drop (8 * i) buf) ++ blocks (n - (i + k)) (drop (8 * i + 8 * k) buf) =
    ap (λ m. blocks m (drop (8 * i) buf)) left
    ∙ (blocks-add k (n - (i + k)) (drop (8 * i) buf) ∙ ap (λ xs. blocks k (drop (8 * i) buf) ++ blocks (n - (i + k)) xs) tail) in
    let joined : take (8 * i + 8 * k) (replaced buf (8 * i) out (8 * k))
    ++ rest (blocks (n - (i + k)) (drop (8 * i + 8 * k) (replaced buf (8 * i) out (8 * k)))) ≡ all =
    rw (take-replaced buf out (8 * i) (8 * k) room more, drop-replaced buf out (8 * i) (8 * k) room more)
    (append_assoc (take (8 * i) buf) out _
    ∙ (ap (λ x. take (8 * i) buf ++ x) (sym (step _)) ∙ (ap (λ x. take (8 * i) buf ++ whole x) (sym parts) ∙ before.joined))) in
    record { joined = rw next joined; long = length-replaced buf out (8 * i) (8 * k) room more ∙ long }

pub all_changed : (buf : List ℕ) (n i : ℕ) (whole : List (List ℕ) → List ℕ) (all : List ℕ) → n ≤ i → whole [] ≡ []
    → IsChanged buf n i whole all → buf ≡ all
unfolding blocks
all_changed buf n i whole all past none before =
    let long = before.long in
    let left : n - i ≡ 0 = omega arith in
    let done : take (8 * i) buf ≡ buf = take_all (8 * i) buf (omega arith) in
    sym (append-nil buf) ∙ (ap (λ x. buf ++ x) (sym none) ∙ rw (done, left) at before.joined)

-- one block and three, as lists of blocks
one_block : (bytes : List ℕ) → blocks 1 bytes ≡ take 8 bytes ∷ []
unfolding blocks
one_block bytes = refl

three_blocks : (buf : List ℕ) (at : ℕ) → blocks 3 (drop at buf) ≡ take 8 (drop at buf) ∷ take 8 (drop (at + 8) buf) ∷ take 8 (drop (at + 16) buf) ∷ []
unfolding blocks
three_blocks buf at =
    let second : drop 8 (drop at buf) ≡ drop (at + 8) buf = drop-drop 8 at buf ∙ ap (λ n. drop n buf) (omega arith) in
    let third : drop 8 (drop 8 (drop at buf)) ≡ drop (at + 16) buf =
    ap (drop 8) second ∙ (drop-drop 8 (at + 8) buf ∙ ap (λ n. drop n buf) (omega arith)) in
    rw (third, second) refl

-- one block more, and three
pub block_changed : (buf out : List ℕ) (n i : ℕ) (whole rest : List (List ℕ) → List ℕ) (all : List ℕ) → i < n → length out ≡ 8
    → ((others : List (List ℕ)) → whole (take 8 (drop (8 * i) buf) ∷ others) ≡ out ++ rest others)
    → IsChanged buf n i whole all → IsChanged (replaced buf (8 * i) out 8) n (i + 1) rest all
block_changed buf out n i whole rest all within more step before =
    more_changed buf out n i 1 whole rest all (omega arith) more
    (λ others. ap (λ bs. whole (bs ++ others)) (one_block (drop (8 * i) buf)) ∙ step others) before

pub three_changed : (buf a b c : List ℕ) (n i : ℕ) (whole after_one after_two rest : List (List ℕ) → List ℕ) (all : List ℕ)
    → 3 * (i + 1) ≤ n → length a ≡ 8 → length b ≡ 8 → length c ≡ 8
    → ((others : List (List ℕ)) → whole (take 8 (drop (24 * i) buf) ∷ others) ≡ a ++ after_one others)
    → ((others : List (List ℕ)) → after_one (take 8 (drop (24 * i + 8) buf) ∷ others) ≡ b ++ after_two others)
    → ((others : List (List ℕ)) → after_two (take 8 (drop (24 * i + 16) buf) ∷ others) ≡ c ++ rest others)
    → IsChanged buf n (3 * i) whole all → IsChanged (replaced buf (24 * i) (a ++ b ++ c) 24) n (3 * (i + 1)) rest all
three_changed buf a b c n i whole after_one after_two rest all within a_long b_long c_long one two three before =
    let at : 24 * i ≡ 8 * (3 * i) = omega arith in
    let next : 3 * (i + 1) ≡ 3 * i + 3 = omega arith in
    let out = a ++ b ++ c in
    let long : length out ≡ 24 = length-append (a ++ b) c ∙ omega (arith, length-append a b) in
    let step : (others : List (List ℕ)) → whole (blocks 3 (drop (8 * (3 * i)) buf) ++ others) ≡ out ++ rest others =
    λ others. ap (λ m. whole (blocks 3 (drop m buf) ++ others)) (sym at)
    ∙ (ap (λ bs. whole (bs ++ others)) (three_blocks buf (24 * i))
    ∙ (one _ ∙ (ap (λ x. a ++ x) (two _ ∙ ap (λ x. b ++ x) (three others))
    ∙ (ap (λ x. a ++ x) (sym (append_assoc b c (rest others))) ∙ (sym (append_assoc a (b ++ c) (rest others))
    ∙ ap (λ x. x ++ rest others) (sym (append_assoc a b c))))))) in
    rw (at, next) (more_changed buf out n (3 * i) 3 whole rest all (omega arith) long step before)

-- electronic codebook in a direction
pub tdea_ecb_is : (direction : Direction) (key : List ℕ) (bs : List (List ℕ)) → ecb (tdea_block direction key) bs ≡ tdea_ecb direction key bs
tdea_ecb_is way.Encrypt key bs = refl
tdea_ecb_is way.Decrypt key bs = refl

-- the bytes of a codebook with one block more
pub concat-ecb : (f : List ℕ → List ℕ) (block turned : List ℕ) (others : List (List ℕ)) → turned ≡ f block
    → concat (ecb f (block ∷ others)) ≡ turned ++ concat (ecb f others)
concat-ecb f block turned others is = ap (λ t. t ++ concat (ecb f others)) (sym is)

-- the bytes of a chain with one block more
pub concat-cbc : (f : List ℕ → List ℕ) (before block sealed : List ℕ) (others : List (List ℕ))
    → sealed ≡ f (exclusive_or block before) → concat (cbc f before (block ∷ others)) ≡ sealed ++ concat (cbc f sealed others)
unfolding cbc
concat-cbc f before block sealed others is = ap (λ s. s ++ concat (cbc f s others)) (sym is)

concat-cbc_back : (f : List ℕ → List ℕ) (before block plain : List ℕ) (others : List (List ℕ))
    → plain ≡ exclusive_or (f block) before
    → concat (cbc_back f before (block ∷ others)) ≡ plain ++ concat (cbc_back f block others)
unfolding cbc_back
concat-cbc_back f before block plain others is = ap (λ p. p ++ concat (cbc_back f block others)) (sym is)

-- the same of a block that was read
pub same_chain : (f : List ℕ → List ℕ) (before read plain block : List ℕ) → read ≡ block → plain ≡ exclusive_or (f read) before
    → (others : List (List ℕ)) → concat (cbc_back f before (block ∷ others)) ≡ plain ++ concat (cbc_back f read others)
same_chain f before read plain block read_is is others =
    ap (λ b. concat (cbc_back f before (b ∷ others))) (sym read_is) ∙ concat-cbc_back f before read plain others is

pub concat-cbc-none : (f : List ℕ → List ℕ) (before : List ℕ) → concat (cbc f before []) ≡ []
unfolding cbc
concat-cbc-none f before = refl

pub concat-cbc_back-none : (f : List ℕ → List ℕ) (before : List ℕ) → concat (cbc_back f before []) ≡ []
unfolding cbc_back
concat-cbc_back-none f before = refl
