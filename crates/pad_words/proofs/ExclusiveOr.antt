-- A list whose bytes become an exclusive or, one after the other.
use Rattle.std.proofs.Common.{◌≡◌, ℕ, ◌+◌, ◌<◌, ◌≤◌, List, [], ◌∷◌, ◌++◌, length, take, drop, get_or, set, sym, ◌∙◌, arith}
use Rattle.std.specs.Int.RustNames.{bit_xor}
use Rattle.std.proofs.lemmas.List.{append_assoc, append-nil, take_all, drop_all, drop_more, take_more_set, drop-set-lt}
use Rattle.pad_words.specs.Bytes.{exclusive_or}

-- one byte more of an exclusive or, and all
pub exclusive_or_step : (out other : List ℕ) (i v : ℕ) (all : List ℕ) → i < length out → i < length other
    → v ≡ bit_xor (get_or out i 0) (get_or other i 0) → take i out ++ exclusive_or (drop i out) (drop i other) ≡ all
    → take (i + 1) (set out i v) ++ exclusive_or (drop (i + 1) (set out i v)) (drop (i + 1) other) ≡ all
unfolding exclusive_or
exclusive_or_step out other i v all within other_within is before =
    let front : take (i + 1) (set out i v) ≡ take i out ++ v ∷ [] = take_more_set out i v within in
    let back : drop (i + 1) (set out i v) ≡ drop (i + 1) out = drop-set-lt (i + 1) out i v (omega arith) in
    rw (front, back, is)
    (append_assoc (take i out) (bit_xor (get_or out i 0) (get_or other i 0) ∷ []) _
    ∙ rw (drop_more out i 0 within, drop_more other i 0 other_within) at before)

pub exclusive_or_end : (out other : List ℕ) (i : ℕ) (all : List ℕ) → length out ≤ i
    → take i out ++ exclusive_or (drop i out) (drop i other) ≡ all → out ≡ all
unfolding exclusive_or
exclusive_or_end out other i all past before =
    sym (append-nil out) ∙ rw (drop_all i out past, take_all i out past) at before
