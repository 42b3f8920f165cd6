-- What stays known of the other seats when one seat's view changes.
use Rattle.std.proofs.Common.{◌≡◌, ◌≢◌, ℕ, ◌+◌, ◌<◌, ◌≤◌, Bool, true, false, List, [], ◌∷◌, ◌++◌, length, set, cond, nat_lt, eqb, eq-eqb, ne_eqb, sym, refl, ap, ◌∙◌, subst, ⊎_elim, arith, append_assoc, append-nil, length-append}
use mathlib.Core.Option.{some}
use lib.ListN.{get_elem?}
use Rattle.std.proofs.lemmas.List.{take-append-le}
use Rattle.std.proofs.lemmas.Bool.Decides.{nat_tests}
use Rattle.turnstile.specs.declared.machine.Entry.{Entry}
use Rattle.turnstile.specs.declared.view.MadeEntry.{MadeEntry}
use Rattle.turnstile.specs.declared.view.Stage.{Stage}
use Rattle.turnstile.specs.declared.view.Stage.TheVariants.{Idle, Waiting, Served, Spent}
use Rattle.turnstile.proofs.ListLemmas.{each_map}
use Rattle.turnstile.specs.Rules.{entries_of, StartsWith, IsTrueNote, NotesTrue, NotesWithin, StageHolds, longer}
use Rattle.atomic_table.proofs.Lists.{at_set}

abbrev pub put : (ℕ → ℕ) → ℕ → ℕ → ℕ → ℕ
put owner t id u = cond (eqb u t) id (owner u)

pub put_here : (owner : ℕ → ℕ) (t id : ℕ) → put owner t id t ≡ id
put_here owner t id = ap (λ b. cond b id (owner t)) (eq-eqb t t refl)

pub put_else : (owner : ℕ → ℕ) (t id u : ℕ) → u ≢ t → put owner t id u ≡ owner u
put_else owner t id u ne = ap (λ b. cond b id (owner u)) (ne_eqb u t ne)

-- one seat's view changes
pub seats : {V : Type 0} (P Q : ℕ → V → Type 0) (views : List V) (id : ℕ) (w : V) → ((j : ℕ) (d : V) → get_elem? views j ≡ some d → P j d) → Q id w → ((j : ℕ) (d : V) → j ≢ id → P j d → Q j d)
    → (j : ℕ) (d : V) → get_elem? (set views id w) j ≡ some d → Q j d
seats {V} P Q views id w old mine others j d e =
    ⊎_elim (λ (t : (j ≡ id) × (w ≡ d)). subst (λ (y : ℕ × V). Q y.0 y.1) (λ k. (sym t.0 k, t.1 k)) mine)
    (λ (t : (j ≢ id) × (get_elem? views j ≡ some d)). others j d t.0 (old j d t.1)) (at_set views id j w d e)

module _ {O R : Type 0} where
  pub starts_more : (log seen more : List (MadeEntry O R)) → StartsWith log seen → StartsWith (log ++ more) seen
  starts_more log seen more s = (s.0 ++ more, ap (λ l. l ++ more) s.1 ∙ append_assoc seen s.0 more)

  pub starts_length : (log seen : List (MadeEntry O R)) → StartsWith log seen → length seen ≤ length log
  starts_length log seen s = let e = ap length s.1 in omega (arith, e, length-append seen s.0)

  pub starts_same : (log seen : List (MadeEntry O R)) → seen ≡ log → StartsWith log seen
  starts_same log seen e = ([], sym e ∙ sym (append-nil seen))

  -- of two beginnings of one list the shorter begins the longer
  pub begins_longer : (log xs ys : List (MadeEntry O R)) → StartsWith log xs → StartsWith log ys → length xs ≤ length ys → StartsWith ys xs
  begins_longer log [] ys a b le = (ys, refl)
  begins_longer log (x ∷ xs) [] a b le = absurd (omega arith)
  begins_longer [] (x ∷ xs) (y ∷ ys) a b le = let e : [] ≡ x ∷ (xs ++ a.0) = a.1 in (cc)
  begins_longer (l ∷ log) (x ∷ xs) (y ∷ ys) a b le =
      let e : l ∷ log ≡ x ∷ (xs ++ a.0) = a.1 in let f : l ∷ log ≡ y ∷ (ys ++ b.0) = b.1 in let same : y ≡ x = cc (e, f) in
      let rest = begins_longer log xs ys (a.0, (cc e)) (b.0, (cc f)) (omega arith) in (rest.0, λ i. same i ∷ rest.1 i)

  pub longer_starts : (log xs ys : List (MadeEntry O R)) → StartsWith log xs → StartsWith log ys → StartsWith log (longer xs ys) × StartsWith (longer xs ys) xs × StartsWith (longer xs ys) ys
  longer_starts log xs ys a b = go (nat_lt (length xs) (length ys)) refl
    where
      go : (c : Bool) → nat_lt (length xs) (length ys) ≡ c → StartsWith log (cond c ys xs) × StartsWith (cond c ys xs) xs × StartsWith (cond c ys xs) ys
      go true is = let l : length xs < length ys = grind (arith, nat_tests) in (b, begins_longer log xs ys a b (omega arith), ([], sym (append-nil ys)))
      go false is = let l : length ys ≤ length xs = grind (arith, nat_tests) in (a, ([], sym (append-nil xs)), begins_longer log ys xs b a l)

  module _ (status : List (Entry O R) → ℕ) where
    -- a note is true of every longer history
    pub notes_more : (log more : List (MadeEntry O R)) (notes : List (ℕ × ℕ)) → NotesTrue status log notes → NotesTrue status (log ++ more) notes
    notes_more log more notes = each_map (IsTrueNote status log) (IsTrueNote status (log ++ more)) notes (λ note is. let below : note.0 ≤ length log = is.0 in
        (omega (arith, length-append log more), is.1 ∙ sym (ap (λ l. status (entries_of l)) (take-append-le note.0 log more below))))

    -- a true note is of a length that the history has
    pub notes_below : (log : List (MadeEntry O R)) (notes : List (ℕ × ℕ)) → NotesTrue status log notes → NotesWithin (length log) notes
    notes_below log notes = each_map (IsTrueNote status log) (λ note. note.0 ≤ length log) notes (λ note is. is.0)

  -- the tickets from `drawn` on are given out, or the slot goes out, or the history grows, or a turn ends; the seat j has no part in it
  pub knows_drawn : (drawn turn : ℕ) (out : Bool) (log : List (MadeEntry O R)) (owner owner' : ℕ → ℕ) (j : ℕ) (seen : List (MadeEntry O R)) → ((u : ℕ) → u < drawn → owner' u ≡ owner u)
      → (st : Stage) → StageHolds drawn turn out log owner j seen st → StageHolds (drawn + 1) turn out log owner' j seen st
  knows_drawn drawn turn out log owner owner' j seen same Idle k = tt
  knows_drawn drawn turn out log owner owner' j seen same (Waiting t) k = let l : t < drawn = k.1 in (k.0, omega arith, same t k.1 ∙ k.2, k.3)
  knows_drawn drawn turn out log owner owner' j seen same Spent k = tt
  knows_drawn drawn turn out log owner owner' j seen same Served k = let l : turn < drawn = k.0 in (omega arith, same turn k.0 ∙ k.1, k.2, k.3)

  pub knows_apart : (drawn turn : ℕ) (out out' : Bool) (log log' : List (MadeEntry O R)) (owner : ℕ → ℕ) (j id : ℕ) (seen : List (MadeEntry O R)) → owner turn ≡ id → j ≢ id
      → (st : Stage) → StageHolds drawn turn out log owner j seen st → StageHolds drawn turn out' log' owner j seen st
  knows_apart drawn turn out out' log log' owner j id seen own ne Idle k = tt
  knows_apart drawn turn out out' log log' owner j id seen own ne (Waiting t) k = (k.0, k.1, k.2, λ e. absurd (ne (sym k.2 ∙ ap owner e ∙ own)))
  knows_apart drawn turn out out' log log' owner j id seen own ne Spent k = tt
  knows_apart drawn turn out out' log log' owner j id seen own ne Served k = absurd (ne (sym k.1 ∙ own))

  pub knows_advanced : (drawn turn : ℕ) (out : Bool) (log : List (MadeEntry O R)) (owner : ℕ → ℕ) (j id : ℕ) (seen : List (MadeEntry O R)) → owner turn ≡ id → j ≢ id
      → (st : Stage) → StageHolds drawn turn out log owner j seen st → StageHolds drawn (turn + 1) false log owner j seen st
  knows_advanced drawn turn out log owner j id seen own ne Idle k = tt
  knows_advanced drawn turn out log owner j id seen own ne (Waiting t) k = let le : turn ≤ t = k.0 in let other : t ≢ turn = λ e. ne (sym k.2 ∙ ap owner e ∙ own) in (omega arith, k.1, k.2, λ _. refl)
  knows_advanced drawn turn out log owner j id seen own ne Spent k = tt
  knows_advanced drawn turn out log owner j id seen own ne Served k = absurd (ne (sym k.1 ∙ own))
