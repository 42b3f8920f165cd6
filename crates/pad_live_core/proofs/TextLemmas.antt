-- Fronts of the text of a history.
use Rattle.std.proofs.Common.{ap, append_assoc, arith, drop, length, length-append, refl, sym, take, take-append-drop, ◌+◌, ◌∙◌}
use Rattle.std.proofs.lemmas.Grind.{flat_map-append}
use Rattle.std.proofs.lemmas.List.{drop_more, take-append-le}
use Rattle.std.proofs.Math.Seq.{take-append-add}
use Rattle.std.specs.Prelude.{List, None, Option, Some, [], flat_map, get_or, ℕ, ◌++◌, ◌<◌, ◌∷◌, ◌≡◌}
use Rattle.disk_core.specs.Streams.{GivesFront, with_more}

-- what was given, twice, is given at once
pub with_more-with_more : (given : Option (List ℕ)) (first second : List ℕ) → with_more (with_more given first) second ≡ with_more given (first ++ second)
with_more-with_more None first second = refl
with_more-with_more (Some bytes) first second = ap (λ (all : List ℕ). Some all) (append_assoc bytes first second)

-- a front of a text behind another one, with more behind
pub front-between : (given between now : Option (List ℕ)) (done text rest all : List ℕ) → between ≡ with_more given done → GivesFront between now text
    → all ≡ (done ++ text) ++ rest → GivesFront given now all
front-between given between now done text rest all printed front is = (
  length done + front.0,
  omega (arith, front.1, ap length is, length-append done text, length-append (done ++ text) rest),
  front.2 ∙ ap (λ (g : Option (List ℕ)). with_more g (take front.0 text)) printed ∙ with_more-with_more given done (take front.0 text)
      ∙ ap (with_more given) (sym (ap (take (length done + front.0)) is ∙ take-append-le (length done + front.0) (done ++ text) rest (omega (arith, front.1, length-append done text)) ∙ take-append-add done text front.0)),
)

-- the texts of a list, at one of its items
pub texts-at : {A : Type 0} (text : A → List ℕ) (xs : List A) (i : ℕ) (d : A) → i < length xs
    → flat_map text xs ≡ (flat_map text (take i xs) ++ text (get_or xs i d)) ++ flat_map text (drop (i + 1) xs)
texts-at text xs i d lt = ap (flat_map text) (sym (take-append-drop i xs)) ∙ flat_map-append text (take i xs) (drop i xs)
    ∙ ap (λ l. flat_map text (take i xs) ++ flat_map text l) (drop_more xs i d lt)
    ∙ sym (append_assoc (flat_map text (take i xs)) (text (get_or xs i d)) (flat_map text (drop (i + 1) xs)))
