-- Lists that were shuffled into one.
use Rattle.std.specs.Prelude.{List, [], ◌∷◌, ◌≡◌, ◌⊎◌}
use Rattle.turnstile.specs.Numbers.{Each}

module _ {A : Type 0} where
  -- the first of the lists was taken from, if x is its front entry
  pub record TakesFirst (x : A) (list : List A) (lists after : List (List A)) : Type 0 where
    pub rest : List A
    pub front : list ≡ x ∷ rest
    pub left : after ≡ rest ∷ lists

  -- x is the front entry of one of the lists, and these are the lists after it was taken
  abbrev pub Takes : A → List (List A) → List (List A) → Type 0
  Takes x [] after = ⊥
  Takes x (list ∷ lists) after = TakesFirst x list lists after
      ⊎ ((others : List (List A)) × Takes x lists others × (after ≡ list ∷ others))

  -- the list is made by taking, at each place, the front entry of one of the lists until all are empty
  abbrev pub Shuffle : List A → List (List A) → Type 0
  Shuffle [] lists = Each (λ (list : List A). list ≡ []) lists
  Shuffle (x ∷ xs) lists = (after : List (List A)) × Takes x lists after × Shuffle xs after
