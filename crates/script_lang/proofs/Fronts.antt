-- The word at the front of a text, and what is left after it.
use Rattle.std.proofs.Common.{◌≡◌, ℕ, suc, ◌+◌, List, [], ◌∷◌, ◌++◌, length, take, drop, Some, Bool, true, false, cond, eqb, refl, subst, arith}
use Rattle.std.specs.Prelude.{IsTrue, ◌&&◌}
use Rattle.std.specs.List.{list_all, prefix_len}
use Rattle.std.proofs.lemmas.List.{take_at, drop_at, take-append-drop}
use Rattle.std.proofs.lemmas.Bool.{eqb-true}
use Rattle.script_lang.specs.Words.{is_no_space}
use Rattle.script_lang.specs.Reading.{word_len, next_word}
use Rattle.script_lang.proofs.Options.{chosen_some}

-- nothing, or a space
abbrev pub IsEnd : List ℕ → Type 0
IsEnd [] = Unit {0}
IsEnd (b ∷ bs) = b ≡ 32

-- the bytes before the first space hold none
pub word_len-spaceless : (bs : List ℕ) → IsTrue (list_all is_no_space (take (word_len bs) bs))
word_len-spaceless [] = refl
word_len-spaceless (b ∷ bs) = spaceless_more b bs (word_len bs) (is_no_space b) refl (word_len-spaceless bs)
  where
    spaceless_more : (b : ℕ) (bs : List ℕ) (n : ℕ) (t : Bool) → is_no_space b ≡ t → IsTrue (list_all is_no_space (take n bs)) → IsTrue (list_all is_no_space (take (cond t (1 + n) 0) (b ∷ bs)))
    spaceless_more b bs n true e all = let one : 1 + n ≡ suc n = omega arith in rw (one, e) all
    spaceless_more b bs n false e all = refl

-- nothing, or a byte that fails the test
abbrev pub Stops : (ℕ → Bool) → List ℕ → Type 0
Stops test [] = Unit {0}
Stops test (b ∷ bs) = test b ≡ false

-- bytes that pass the test are counted whole
pub prefix_len-at : (test : ℕ → Bool) (text rest : List ℕ) → IsTrue (list_all test text) → Stops test rest → prefix_len test (text ++ rest) ≡ length text
prefix_len-at test [] [] all stop = refl
prefix_len-at test [] (b ∷ bs) all stop = rw stop refl
prefix_len-at test (c ∷ cs) rest all stop = len_more (test c) (list_all test cs) (prefix_len test (cs ++ rest)) (length cs) all (λ tail. prefix_len-at test cs rest tail stop)
  where
    len_more : (t rest : Bool) (n m : ℕ) → IsTrue (t && rest) → (IsTrue rest → n ≡ m) → cond t (1 + n) 0 ≡ suc m
    len_more true rest n m all same = omega (arith, same all)
    len_more false rest n m all same = absurd cc

-- what is left after them begins with a byte that fails it
pub prefix_len-stops : (test : ℕ → Bool) (text : List ℕ) → Stops test (drop (prefix_len test text) text)
prefix_len-stops test [] = tt
prefix_len-stops test (c ∷ cs) = stops_more c cs (prefix_len test cs) (test c) refl (prefix_len-stops test cs)
  where
    stops_more : (c : ℕ) (cs : List ℕ) (n : ℕ) (t : Bool) → test c ≡ t → Stops test (drop n cs) → Stops test (drop (cond t (1 + n) 0) (c ∷ cs))
    stops_more c cs n true e stop = let one : 1 + n ≡ suc n = omega arith in rw one stop
    stops_more c cs n false e stop = e

end_stops : (rest : List ℕ) → IsEnd rest → Stops is_no_space rest
end_stops [] end = tt
end_stops (b ∷ bs) end = rw end refl

-- the first word of a text is the whole of its bytes before an end
pub word_len-at : (text rest : List ℕ) → IsTrue (list_all is_no_space text) → IsEnd rest → word_len (text ++ rest) ≡ length text
word_len-at text rest all end = prefix_len-at is_no_space text rest all (end_stops rest end)

-- the word that is cut off holds no space, and no byte is lost
pub next_word-takes : (bytes : List ℕ) (w : List ℕ × List ℕ) → next_word bytes ≡ Some w → (bytes ≡ 32 ∷ (w.0 ++ w.1)) × IsTrue (list_all is_no_space w.0)
unfolding next_word
next_word-takes [] w e = absurd cc
next_word-takes (b ∷ bs) w e =
    let n = word_len bs in
    let g = chosen_some (eqb b 32) (take n bs, drop n bs) w e in
    subst (λ (w : List ℕ × List ℕ). (b ∷ bs ≡ 32 ∷ (w.0 ++ w.1)) × IsTrue (list_all is_no_space w.0)) g.1 (rw (eqb-true b 32 g.0, take-append-drop n bs) refl, word_len-spaceless bs)

-- a word without a space is cut off whole
pub next_word-again : (text rest : List ℕ) → IsTrue (list_all is_no_space text) → IsEnd rest → next_word (32 ∷ (text ++ rest)) ≡ Some (text, rest)
unfolding next_word
next_word-again text rest all end =
    let n = word_len-at text rest all end in
    rw (n, take_at text rest (length text) refl, drop_at text rest (length text) refl) refl
