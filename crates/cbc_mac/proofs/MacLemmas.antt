-- A code in the making.
use Rattle.std.proofs.Common.{take-add, ◌≡◌, None, Option, Some, ℕ, zero, suc, ◌+◌, ◌-◌, ◌*◌, ◌/◌, ◌%◌, ◌<◌, ◌≤◌, List, [], ◌∷◌, ◌++◌, length, take, drop, replicate, set, refl, sym, subst, ap, ◌∙◌, arith}
use Rattle.std.proofs.lemmas.List.{append_assoc, append-nil, length-append, length-drop, drop-drop, drop_all, drop-append-le, length-set, length-replicate, length-take-le, take_more_set, take-append-le, take_all, take_at, take-append-drop, drop_at}
use Rattle.pad_words.specs.Bytes.{exclusive_or, zero_block}
use Rattle.des_core.specs.Des.{des_bytes, des_back_bytes}
use Rattle.cbc_mac.specs.Modes.{blocks, blocks_of, cbc, chain, last_or, padded}
use Rattle.cbc_mac.specs.Macs.{Fed, HasRead, IsKept, code_of, key_of, kind_of, mac}
use Rattle.cbc_mac.specs.declared.mac.MacKind.{MacKind}
use Rattle.cbc_mac.specs.declared.mac.MacKind.TheVariants.{Single, Retail}

-- bytes behind whole blocks change none of them
blocks-append : (n : ℕ) (bytes rest : List ℕ) → 8 * n ≤ length bytes → blocks n (bytes ++ rest) ≡ blocks n bytes
unfolding blocks
blocks-append zero bytes rest within = refl
blocks-append (suc n) bytes rest within =
    let front : take 8 (bytes ++ rest) ≡ take 8 bytes = take-append-le 8 bytes rest (omega arith) in
    let back : drop 8 (bytes ++ rest) ≡ drop 8 bytes ++ rest = drop-append-le 8 bytes rest (omega arith) in
    let others = blocks-append n (drop 8 bytes) rest (omega (arith, length-drop 8 bytes)) in
    rw (front, back, others) refl

-- the bytes that complete a block
blocks-push : (n : ℕ) (bytes rest : List ℕ) → 8 * n ≤ length bytes → length (drop (8 * n) bytes ++ rest) ≡ 8
    → blocks (suc n) (bytes ++ rest) ≡ blocks n bytes ++ (drop (8 * n) bytes ++ rest) ∷ []
unfolding blocks
blocks-push zero bytes rest within eight = ap (λ block. block ∷ []) (take_all 8 (bytes ++ rest) (omega arith))
blocks-push (suc n) bytes rest within eight =
    let front : take 8 (bytes ++ rest) ≡ take 8 bytes = take-append-le 8 bytes rest (omega arith) in
    let back : drop 8 (bytes ++ rest) ≡ drop 8 bytes ++ rest = drop-append-le 8 bytes rest (omega arith) in
    let count : 8 + 8 * n ≡ 8 * suc n = omega arith in
    let behind : drop (8 * n) (drop 8 bytes) ≡ drop (8 * suc n) bytes =
    drop-drop (8 * n) 8 bytes ∙ ap (λ k. drop k bytes) count in
    let others =
    blocks-push n (drop 8 bytes) rest (omega (arith, length-drop 8 bytes)) (ap (λ xs. length (xs ++ rest)) behind ∙ eight) in
    ap (λ xs. take 8 (bytes ++ rest) ∷ blocks (suc n) xs) back
    ∙ (ap (λ xs. take 8 (bytes ++ rest) ∷ xs) (others ∙ ap (λ xs. blocks n (drop 8 bytes) ++ (xs ++ rest) ∷ []) behind)
    ∙ ap (λ block. block ∷ (blocks n (drop 8 bytes) ++ (drop (8 * suc n) bytes ++ rest) ∷ [])) front)

-- a chain with one block more
last-push : (f : List ℕ → List ℕ) (start : List ℕ) (blocks : List (List ℕ)) (block : List ℕ)
    → last_or start (cbc f start (blocks ++ block ∷ [])) ≡ f (exclusive_or block (last_or start (cbc f start blocks)))
unfolding last_or cbc
last-push f start [] block = refl
last-push f start (first ∷ others) block = last-push f (f (exclusive_or first start)) others block

-- nothing is fed
read_none : (key message : List ℕ) → message ≡ [] → HasRead key zero_block [] message
unfolding blocks cbc last_or
read_none key message none = rw none record { chained_is = refl; held_is = refl }

pub kept_none : (left block message : List ℕ) → length left ≡ 8 → length block ≡ 8 → message ≡ []
    → IsKept left zero_block block 0 message
kept_none left block message left_length block_length none = record {
  left_length = left_length;
  block_length = block_length;
  short = omega arith;
  read = read_none left message none;
}

-- bytes that complete no block
read_more : (key chained held message rest : List ℕ) → HasRead key chained held message → length (held ++ rest) < 8
    → HasRead key chained (held ++ rest) (message ++ rest)
read_more key chained held message rest read short =
    let n = length message / 8 in
    let left : length held ≡ length message - 8 * n = ap length read.held_is ∙ length-drop (8 * n) message in
    let count : length (message ++ rest) / 8 ≡ n = omega (arith, length-append message rest, length-append held rest) in
    let same = blocks-append n message rest (omega arith) in record {
      chained_is = read.chained_is ∙ ap (chain (des_bytes key)) (sym (ap (λ k. blocks k (message ++ rest)) count ∙ same));
      held_is = ap (λ xs. xs ++ rest) read.held_is
          ∙ sym (ap (λ k. drop (8 * k) (message ++ rest)) count ∙ drop-append-le (8 * n) message rest (omega arith));
    }

-- bytes that complete a block
read_block : (key chained held message rest sealed : List ℕ) → HasRead key chained held message
    → length (held ++ rest) ≡ 8 → sealed ≡ des_bytes key (exclusive_or (held ++ rest) chained)
    → HasRead key sealed [] (message ++ rest)
read_block key chained held message rest sealed read eight is =
    let n = length message / 8 in
    let left : length held ≡ length message - 8 * n = ap length read.held_is ∙ length-drop (8 * n) message in
    let whole : length (message ++ rest) ≡ 8 * (n + 1) = omega (arith, length-append message rest, length-append held rest) in
    let count : length (message ++ rest) / 8 ≡ suc n = omega (arith, whole) in
    let block : drop (8 * n) message ++ rest ≡ held ++ rest = ap (λ xs. xs ++ rest) (sym read.held_is) in
    let more = blocks-push n message rest (omega arith) (ap length block ∙ eight) in
    let step : chain (des_bytes key) (blocks n message ++ (held ++ rest) ∷ []) ≡ des_bytes key (exclusive_or (held ++ rest) (chain (des_bytes key) (blocks n message))) =
    last-push (des_bytes key) zero_block (blocks n message) (held ++ rest) in
    let all : blocks_of (message ++ rest) ≡ blocks n message ++ (held ++ rest) ∷ [] =
    ap (λ k. blocks k (message ++ rest)) count ∙ (more ∙ ap (λ b. blocks n message ++ b ∷ []) block) in
    record {
      chained_is = is ∙ (ap (λ c. des_bytes key (exclusive_or (held ++ rest) c)) read.chained_is ∙ (sym step ∙ ap (chain (des_bytes key)) (sym all)));
      held_is = sym (ap (λ k. drop (8 * k) (message ++ rest)) count ∙ drop_all (8 * suc n) (message ++ rest) (omega (arith, whole)));
    }

-- how many bytes are held
held-length : (key chained held message : List ℕ) → HasRead key chained held message → length held ≡ length message % 8
held-length key chained held message read =
    ap length read.held_is ∙ (length-drop (8 * (length message / 8)) message ∙ omega arith)

-- how many bytes a code in the making holds
pub kept_count : (left chained block message : List ℕ) (count : ℕ) → IsKept left chained block count message
    → count ≡ length message % 8
kept_count left chained block message count kept =
    let eight = kept.block_length in
    let below = kept.short in
    sym (length-take-le count block (omega arith)) ∙ held-length left chained (take count block) message kept.read

-- a whole block more, where none is begun
pub block_fed : (left chained block message fed sealed : List ℕ) (count : ℕ) → length message % 8 ≡ 0 → length fed ≡ 8
    → sealed ≡ des_bytes left (exclusive_or fed chained) → IsKept left chained block count message
    → IsKept left sealed block count (message ++ fed)
block_fed left chained block message fed sealed count whole eight is kept =
    let none : count ≡ 0 = kept_count left chained block message count kept ∙ whole in
    let P : ℕ → Type 0 = λ n. IsKept left chained block n message in
    let Q : ℕ → Type 0 = λ n. IsKept left sealed block n (message ++ fed) in
    let empty = subst P none kept in
    let now : IsKept left sealed block 0 (message ++ fed) = record {
      left_length = kept.left_length;
      block_length = kept.block_length;
      short = omega arith;
      read = read_block left chained [] message fed sealed empty.read eight is;
    } in
    subst Q (sym none) now

-- a block behind the first blocks of some bytes
more_of-blocks : (bytes : List ℕ) (i : ℕ) → take (8 * i) bytes ++ take 8 (drop (8 * i) bytes) ≡ take (8 * (i + 1)) bytes
more_of-blocks bytes i =
    let count : 8 * i + 8 ≡ 8 * (i + 1) = omega arith in
    sym (take-add (8 * i) 8 bytes) ∙ ap (λ n. take n bytes) count

-- what is seen is the same where each part is
same_fed : (a b : Fed) → a.kind ≡ b.kind → a.key ≡ b.key → a.message ≡ b.message → a ≡ b
same_fed a b kind key message = λ i. record { kind = kind i; key = key i; message = message i }

-- what is seen of a code to which a block more is fed
pub more_bytes : (kind : MacKind) (key message bytes : List ℕ) (i : ℕ)
    → let before : Fed = record { kind = kind; key = key; message = (message ++ take (8 * i) bytes) ++ take 8 (drop (8 * i) bytes) } in
    let after : Fed = record { kind = kind; key = key; message = message ++ take (8 * (i + 1)) bytes } in before ≡ after
more_bytes kind key message bytes i =
    same_fed _ _ refl refl
    (append_assoc message (take (8 * i) bytes) (take 8 (drop (8 * i) bytes)) ∙ ap (λ xs. message ++ xs) (more_of-blocks bytes i))

-- what is seen of the fields
abbrev pub IsFed : Fed → List ℕ → Option (List ℕ) → List ℕ → Type 0
IsFed fed left right message =
    let seen : Fed = record { kind = kind_of right; key = key_of left right; message = message } in seen ≡ fed

-- what is seen of a code to which nothing was fed
pub fed_single : (kind : MacKind) (left key message : List ℕ) (right : Option (List ℕ)) → kind ≡ Single → right ≡ None
    → length key ≡ 8 → left ≡ take 8 key → message ≡ [] → IsFed (record { kind = kind; key = key; message = [] }) left right message
fed_single kind left key message right single none eight left_is empty =
    same_fed _ _ (ap kind_of none ∙ sym single) (ap (key_of left) none ∙ (left_is ∙ take_all 8 key (omega arith))) empty

pub fed_retail : (kind : MacKind) (left key message half : List ℕ) (right : Option (List ℕ)) → kind ≡ Retail → right ≡ Some half
    → length key ≡ 16 → left ≡ take 8 key → half ≡ take 8 (drop 8 key) → message ≡ []
    → IsFed (record { kind = kind; key = key; message = [] }) left right message
fed_retail kind left key message half right retail some sixteen left_is half_is empty =
    let whole : left ++ half ≡ key =
    rw (left_is, half_is, take_all 8 (drop 8 key) (omega (arith, length-drop 8 key))) (take-append-drop 8 key) in
    same_fed _ _ (ap kind_of some ∙ sym retail) (ap (key_of left) some ∙ whole) empty

-- a byte more, by which the block becomes whole or not
pub byte_held : (left chained block message : List ℕ) (count byte : ℕ) → (count + 1 ≡ 8 → ⊥)
    → IsKept left chained block count message → IsKept left chained (set block count byte) (count + 1) (message ++ byte ∷ [])
byte_held left chained block message count byte not_whole kept =
    let eight = kept.block_length in
    let below = kept.short in
    let room : count + 1 < 8 = omega (arith, not_whole) in
    let held = take count block in
    let long : length (held ++ byte ∷ []) ≡ count + 1 =
    length-append held (byte ∷ []) ∙ omega (arith, length-take-le count block (omega arith)) in
    record {
      left_length = kept.left_length;
      block_length = length-set block count byte ∙ eight;
      short = room;
      read = rw (take_more_set block count byte (omega arith))
          (read_more left chained held message (byte ∷ []) kept.read (omega (arith, long)));
    }

pub byte_completes : (left chained block message sealed : List ℕ) (count byte : ℕ) → count + 1 ≡ 8
    → sealed ≡ des_bytes left (exclusive_or (set block count byte) chained) → IsKept left chained block count message
    → IsKept left sealed (set block count byte) 0 (message ++ byte ∷ [])
byte_completes left chained block message sealed count byte whole is kept =
    let eight = kept.block_length in
    let held = take count block in
    let all : set block count byte ≡ held ++ byte ∷ [] =
    sym (take_all (count + 1) (set block count byte) (omega (arith, length-set block count byte)))
    ∙ take_more_set block count byte (omega arith) in
    let long : length (held ++ byte ∷ []) ≡ 8 = ap length (sym all) ∙ (length-set block count byte ∙ eight) in
    let sealed_is = is ∙ ap (λ b. des_bytes left (exclusive_or b chained)) all in
    record {
      left_length = kept.left_length;
      block_length = length-set block count byte ∙ eight;
      short = omega arith;
      read = read_block left chained held message (byte ∷ []) sealed kept.read long sealed_is;
    }

-- the chain of a message whose last block is filled
mac_is : (key chained held message : List ℕ) (pad fill : ℕ) → HasRead key chained held (message ++ replicate fill pad)
    → fill ≡ (8 - length message % 8) % 8 → chained ≡ mac des_bytes key message pad
unfolding padded
mac_is key chained held message pad fill read is =
    read.chained_is ∙ ap (λ k. chain (des_bytes key) (blocks_of (message ++ replicate k pad))) is

-- the left half of a key
pub left_of : (left : List ℕ) (right : Option (List ℕ)) → length left ≡ 8 → take 8 (key_of left right) ≡ left
left_of left None eight = take_all 8 left (omega arith)
left_of left (Some right) eight = take_at left right 8 eight

-- the last cipher block, where no byte is held and where some are
pub last_whole : (left chained block message : List ℕ) (count pad : ℕ) → IsKept left chained block count message → count ≡ 0
    → chained ≡ mac des_bytes left message pad
last_whole left chained block message count pad kept none =
    let held = take count block in
    let empty : length held ≡ 0 = length-take-le count block (omega arith) ∙ none in
    let left_over = held-length left chained held message kept.read in
    let fill : 0 ≡ (8 - length message % 8) % 8 = rw (← left_over, empty) refl in
    let P : List ℕ → Type 0 = λ m. HasRead left chained held m in
    mac_is left chained held message pad 0 (subst P (sym (append-nil message)) kept.read) fill

pub last_filled : (left chained block message sealed : List ℕ) (count pad : ℕ) → IsKept left chained block count message
    → (count ≡ 0 → ⊥) → sealed ≡ des_bytes left (exclusive_or (take count block ++ replicate (8 - count) pad) chained)
    → sealed ≡ mac des_bytes left message pad
last_filled left chained block message sealed count pad kept some is =
    let eight = kept.block_length in
    let below = kept.short in
    let held = take count block in
    let rest = replicate (8 - count) pad in
    let held_count : length held ≡ count = length-take-le count block (omega arith) in
    let left_over = held-length left chained held message kept.read in
    let fill : 8 - count ≡ (8 - length message % 8) % 8 = rw (← left_over, held_count) (omega (arith, some)) in
    let whole : length (held ++ rest) ≡ 8 = length-append held rest ∙ omega (arith, held_count, length-replicate (8 - count) pad) in
    mac_is left sealed [] message pad (8 - count) (read_block left chained held message rest sealed kept.read whole is) fill

-- the code of each kind, by the last cipher block
pub code_single : (left message last out : List ℕ) (right : Option (List ℕ)) (pad : ℕ) → length left ≡ 8 → right ≡ None
    → last ≡ mac des_bytes (take 8 (key_of left right)) message pad → out ≡ last
    → out ≡ code_of (kind_of right) (key_of left right) message pad
code_single left message last out right pad eight none last_is out_is =
    rw none (out_is ∙ (last_is ∙ ap (λ key. mac des_bytes key message pad) (left_of left right eight)))

pub code_retail : (left half message last out : List ℕ) (right : Option (List ℕ)) (pad : ℕ) → length left ≡ 8 → right ≡ Some half
    → last ≡ mac des_bytes (take 8 (key_of left right)) message pad → out ≡ des_bytes left (des_back_bytes half last)
    → out ≡ code_of (kind_of right) (key_of left right) message pad
code_retail left half message last out right pad eight some last_is out_is =
    let chained : last ≡ mac des_bytes left message pad = last_is ∙ ap (λ key. mac des_bytes key message pad) (left_of left right eight) in
    rw (some, take_at left half 8 eight, drop_at left half 8 eight) (out_is ∙ ap (λ c. des_bytes left (des_back_bytes half c)) chained)
