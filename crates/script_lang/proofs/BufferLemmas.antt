-- The bytes between two places of a vector, after a step of the first and after a piece behind them.
use Rattle.std.proofs.Common.{ap, append_assoc, arith, drop, length, length-drop, refl, slice_range, sym, take, List, None, Option, Some, ℕ, ◌+◌, ◌++◌, ◌-◌, ◌≡◌, ◌≤◌, ◌∙◌}
use Rattle.std.proofs.lemmas.List.{append-nil, drop-drop, drop-take, drop_at, length-take-le, take-append-drop, take-append-le, take_at}
use Rattle.std.specs.Prelude.{IfSome}
use Rattle.disk_core.specs.Streams.{Took}
use Rattle.script_lang.specs.Gathering.{Grows}
use Rattle.script_lang.specs.Lines.{Stays, still}
use borrow.Rule.Slice.PartMut.{post_of, put_mid}
use lib.Seq.{take-add}

-- the first bytes forgotten
pub skipped : (xs now : List ℕ) (start end count : ℕ) → slice_range xs start end ≡ now → start ≤ end → end ≤ length xs → count ≤ length now
    → slice_range xs (start + count) end ≡ drop count now
skipped xs now start end count is ordered within inside =
    let size : length (slice_range xs start end) ≡ end - start = length-take-le (end - start) (drop start xs) (omega (arith, within, length-drop start xs)) in
    let bound : start + count ≤ end = omega (arith, size, ap length is, inside, ordered) in
    let parts : end - start ≡ count + (end - (start + count)) = omega (arith, bound) in
    sym (ap (drop count) (sym is) ∙ ap (λ (j : ℕ). drop count (take j (drop start xs))) parts ∙ drop-take count (end - (start + count)) (drop start xs)
    ∙ ap (take (end - (start + count))) (drop-drop count start xs))

-- a piece written behind the first bytes
pub with_piece : (xs piece : List ℕ) (kept room n : ℕ) → kept ≤ length xs → n ≤ length piece
    → take (kept + n) (put_mid kept room xs piece) ≡ take kept xs ++ take n piece
with_piece xs piece kept room n within fits =
    let front = length-take-le kept xs within in
    let behind = piece ++ post_of kept room xs in
    take-add kept n (take kept xs ++ behind)
    ∙ (rw (take_at (take kept xs) behind kept front, drop_at (take kept xs) behind kept front, take-append-le n piece (post_of kept room xs) fits) refl)

-- the same is still to be cut where bytes went from a source behind those kept
moved : (left rest : Option (List ℕ)) (old piece : List ℕ) (n : ℕ) → IfSome left (λ s. (n ≤ length s) × (take n piece ≡ take n s) × (rest ≡ Some (drop n s)))
    → Stays (still old left) (still (old ++ take n piece) rest)
moved None rest old piece n took = tt
moved (Some s) rest old piece n took =
    ap (still (old ++ take n piece)) took.2
    ∙ ap (λ (text : List ℕ). Some text) (append_assoc old (take n piece) (drop n s)
    ∙ ap (λ (text : List ℕ). old ++ text) (ap (λ (front : List ℕ). front ++ drop n s) took.1 ∙ take-append-drop n s))

-- the room for a piece behind the bytes kept
pub room_size : (xs : List ℕ) (kept size : ℕ) → kept + size ≤ length xs → length (take (kept + size - kept) (drop kept xs)) ≡ size
room_size xs kept size fits =
    let n : kept + size - kept ≡ size = omega arith in
    ap (λ (j : ℕ). length (take j (drop kept xs))) n ∙ length-take-le size (drop kept xs) (omega (arith, fits, length-drop kept xs))

-- a piece taken from a source behind the bytes kept
pub grown : (left rest : Option (List ℕ)) (now xs room_old piece : List ℕ) (kept room n : ℕ) → take kept xs ≡ now → kept ≤ length xs → length room_old ≡ 4096
    → Took left rest room_old piece n → Grows left rest now (slice_range (put_mid kept room xs piece) 0 (kept + n))
grown left rest now xs room_old piece kept room n is within size took =
    let fits : n ≤ length piece = omega (arith, took.few, took.same_len) in
    let end : kept + n - 0 ≡ kept + n = omega arith in
    let whole : slice_range (put_mid kept room xs piece) 0 (kept + n) ≡ now ++ take n piece =
    ap (λ (j : ℕ). take j (put_mid kept room xs piece)) end ∙ with_piece xs piece kept room n within fits ∙ ap (λ (front : List ℕ). front ++ take n piece) is in
    record {
      piece = take n piece;
      kept = whole;
      few = omega (arith, length-take-le n piece fits, took.few, size);
      text = rw whole (moved left rest now piece n took.bytes);
    }

-- no byte taken
pub not_grown : (now xs piece : List ℕ) (kept room : ℕ) → take kept xs ≡ now → kept ≤ length xs → slice_range (put_mid kept room xs piece) 0 kept ≡ now
not_grown now xs piece kept room is within =
    let none : kept - 0 ≡ kept + 0 = omega arith in
    ap (λ (j : ℕ). take j (put_mid kept room xs piece)) none ∙ with_piece xs piece kept room 0 within (omega arith) ∙ append-nil (take kept xs) ∙ is
