-- One more hexadecimal digit of a word.
use Rattle.std.proofs.Common.{◌≡◌, ◌≤◌, ◌<◌, ℕ, ◌+◌, ◌*◌, ◌/◌, ◌%◌, List, [], ◌∷◌, ◌++◌, length, get_or, take, drop, Option, Some, None, Bool, true, false, refl, sym, ap, ◌∙◌, arith, append_assoc, map}
use Rattle.std.specs.Option.{option_map}
use Rattle.std.specs.Prelude.{IsTrue, slice_set}
use Rattle.std.specs.Bool.{OnTrue}
use Rattle.std.proofs.lemmas.List.{drop_all, drop_more, take_more, take_more_set, map-append, append-nil}
use Rattle.pad_words.specs.Bytes.{packed, unpacked}
use Rattle.script_lang.specs.Words.{hex_digit, hex_value, hex_values, with_value}
use Rattle.script_lang.specs.Reading.{hex_bytes}
use Rattle.script_lang.proofs.ByteLaws.{packed-unpacked}

-- what holds on true
pub if_true : (b : Bool) (P : Type 0) → OnTrue b P → IsTrue b → P
if_true true P holds e = holds
if_true false P holds e = absurd cc

-- these values in front of others, where those are there
abbrev pub values_before : List ℕ → Option (List ℕ) → Option (List ℕ)
values_before vs more = option_map (λ (rest : List ℕ). vs ++ rest) more

digit_at : (word : List ℕ) (i : ℕ) → i < length word → hex_values (drop i word) ≡ with_value (hex_value (get_or word i 0)) (hex_values (drop (i + 1) word))
unfolding hex_values
digit_at word i lt = ap hex_values (drop_more word i 0 lt)

one_before : (vs : List ℕ) (v : ℕ) (more : Option (List ℕ)) → values_before vs (with_value (Some v) more) ≡ values_before (vs ++ v ∷ []) more
one_before vs v None = refl
one_before vs v (Some rest) = ap (λ (ds : List ℕ). Some ds) (sym (append_assoc vs (v ∷ []) rest))

-- the digit at this place is taken
pub values_more : (word vs : List ℕ) (i v : ℕ) → i < length word → Some v ≡ hex_value (get_or word i 0) → hex_values word ≡ values_before vs (hex_values (drop i word)) → hex_values word ≡ values_before (vs ++ v ∷ []) (hex_values (drop (i + 1) word))
values_more word vs i v lt e so_far =
    so_far ∙ ap (values_before vs) (digit_at word i lt) ∙ ap (λ (o : Option ℕ). values_before vs (with_value o (hex_values (drop (i + 1) word)))) (sym e) ∙ one_before vs v (hex_values (drop (i + 1) word))

-- there is no digit at this place
pub values_stop : (word vs : List ℕ) (i : ℕ) → i < length word → None ≡ hex_value (get_or word i 0) → hex_values word ≡ values_before vs (hex_values (drop i word)) → None ≡ hex_values word
values_stop word vs i lt e so_far =
    sym (so_far ∙ ap (values_before vs) (digit_at word i lt) ∙ ap (λ (o : Option ℕ). values_before vs (with_value o (hex_values (drop (i + 1) word)))) (sym e))

-- no digit is left
pub values_end : (word vs : List ℕ) (i : ℕ) → length word ≤ i → hex_values word ≡ values_before vs (hex_values (drop i word)) → Some vs ≡ hex_values word
unfolding hex_values
values_end word vs i le so_far = sym (so_far ∙ ap (λ (rest : List ℕ). values_before vs (hex_values rest)) (drop_all i word le) ∙ ap (λ (ds : List ℕ). Some ds) (append-nil vs))

unpacked-append : (bytes : List ℕ) (b : ℕ) → unpacked (bytes ++ b ∷ []) ≡ unpacked bytes ++ (b / 16 ∷ b % 16 ∷ [])
unpacked-append [] b = refl
unpacked-append (c ∷ bytes) b = ap (λ (ds : List ℕ). c / 16 ∷ c % 16 ∷ ds) (unpacked-append bytes b)

-- the byte of two digits is set
pub unpacked_set : (bytes : List ℕ) (i left right : ℕ) → i < length bytes → left < 16 → right < 16 → (unpacked (take i bytes) ++ left ∷ []) ++ right ∷ [] ≡ unpacked (take (i + 1) (slice_set bytes i (16 * left + right)))
unpacked_set bytes i left right lt l r =
    let high : (16 * left + right) / 16 ≡ left = omega (arith, l, r) in
    let low : (16 * left + right) % 16 ≡ right = omega (arith, l, r) in
    append_assoc (unpacked (take i bytes)) (left ∷ []) (right ∷ [])
    ∙ ap (λ (h : ℕ). unpacked (take i bytes) ++ h ∷ right ∷ []) (sym high)
    ∙ ap (λ (d : ℕ). unpacked (take i bytes) ++ (16 * left + right) / 16 ∷ d ∷ []) (sym low)
    ∙ sym (ap unpacked (take_more_set bytes i (16 * left + right) lt) ∙ unpacked-append (take i bytes) (16 * left + right))

-- no byte is left
pub bytes_end : (word bytes : List ℕ) → Some (unpacked bytes) ≡ hex_values word → Some bytes ≡ hex_bytes word
unfolding hex_bytes
bytes_end word bytes e = ap (λ (bs : List ℕ). Some bs) (sym (packed-unpacked bytes)) ∙ ap (option_map packed) e

-- there is no digit
pub bytes_stop : (word : List ℕ) → None ≡ hex_values word → None ≡ hex_bytes word
unfolding hex_bytes
bytes_stop word e = ap (option_map packed) e

pub none_mapped : {A B : Type 0} (f : A → B) (o : Option A) (p : Option B) → o ≡ None → None ≡ p → option_map f o ≡ p
none_mapped f o p none is = ap (option_map f) none ∙ is

-- the two digits of a byte are put
pub digits_put : (old now mid new bytes : List ℕ) (i : ℕ) → i < length bytes → now ≡ old ++ map hex_digit (unpacked (take i bytes)) → mid ≡ now ++ hex_digit (get_or bytes i 0 / 16) ∷ [] → new ≡ mid ++ hex_digit (get_or bytes i 0 % 16) ∷ []
    → new ≡ old ++ map hex_digit (unpacked (take (i + 1) bytes))
digits_put old now mid new bytes i lt so_far left right =
    let b = get_or bytes i 0 in
    let front : List ℕ = map hex_digit (unpacked (take i bytes)) in
    let pair : List ℕ = hex_digit (b / 16) ∷ hex_digit (b % 16) ∷ [] in
    let whole : map hex_digit (unpacked (take (i + 1) bytes)) ≡ front ++ pair =
    ap (λ (bs : List ℕ). map hex_digit (unpacked bs)) (take_more bytes i 0 lt) ∙ ap (map hex_digit) (unpacked-append (take i bytes) b) ∙ map-append hex_digit (unpacked (take i bytes)) (b / 16 ∷ b % 16 ∷ []) in
    right ∙ ap (λ (t : List ℕ). t ++ hex_digit (b % 16) ∷ []) (left ∙ ap (λ (t : List ℕ). t ++ hex_digit (b / 16) ∷ []) so_far)
    ∙ append_assoc (old ++ front) (hex_digit (b / 16) ∷ []) (hex_digit (b % 16) ∷ []) ∙ append_assoc old front pair ∙ ap (λ (t : List ℕ). old ++ t) (sym whole)
