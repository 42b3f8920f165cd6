-- What a strike that is armed makes of the words.
use Rattle.flat_machine.specs.ArmFacts.{IsAhead, IsOnlyDue}
use Rattle.flat_machine.specs.Arms.{Armed, Cuts, Due, Fails, IsSpared, IsStruck, Struck, is_struck, replaced_before}
use Rattle.flat_machine.specs.Power.{Loading, Nothing, Plan, Replacing, fits_plan, planned_calls}
use Rattle.key_table.specs.Changes.{Change}
use Rattle.pad_steps.specs.declared.steps.DiskWord.{DiskWord}
use Rattle.pad_steps.specs.declared.steps.DiskWord.TheVariants as word
use Rattle.std.proofs.Common.{ap, arith, subst, sym, ◌∙◌}
use Rattle.std.proofs.lemmas.Bool.{eq-eqb, lt-ltb}
use Rattle.std.specs.Prelude.{IsTrue, None, Some, [], false, length, not, refl, true, ℕ, ◌*◌, ◌-◌, ◌/◌, ◌<◌, ◌∷◌, ◌≡◌, ◌≤◌}

-- a struck word fits

too_many : (n : ℕ) → 0 < n → n ≤ 0 → ⊥
too_many n l u = omega (arith, l, u)

before_end : (n slots count : ℕ) → 0 < n → n ≤ 4 * slots → count ≡ (n - 1) / 4 → count < slots
before_end n slots count l u e = omega (arith, l, u, e)

struck_failed : (calls : Plan) (armed : ℕ × Struck) (kind : Struck) (count : ℕ) (after : Armed) → 0 < armed.0 → IsStruck calls armed kind count after → fits_plan calls (word.Failed count) ≡ true
struck_failed Nothing armed kind count after l s = absurd (too_many armed.0 l s.within)
struck_failed Loading armed kind count after l s = eq-eqb count 0 s.slots
struck_failed (Replacing todo) armed kind count after l s = lt-ltb count (length todo) (before_end armed.0 (length todo) count l s.within s.slots)

struck_cut : (calls : Plan) (armed : ℕ × Struck) (kind : Struck) (count : ℕ) (after : Armed) → 0 < armed.0 → IsStruck calls armed kind count after → fits_plan calls (word.Cut count) ≡ true
struck_cut Nothing armed kind count after l s = absurd (too_many armed.0 l s.within)
struck_cut Loading armed kind count after l s = eq-eqb count 0 s.slots
struck_cut (Replacing todo) armed kind count after l s = lt-ltb count (length todo) (before_end armed.0 (length todo) count l s.within s.slots)

pub struck_fits : (calls : Plan) (armed : ℕ × Struck) (w : DiskWord) (after : Armed) → 0 < armed.0 → Due calls (Some armed) w after → IsTrue (is_struck w) → IsTrue (fits_plan calls w)
struck_fits calls armed word.Quiet after l due e = cc
struck_fits calls armed word.Done after l due e = cc
struck_fits calls armed (word.Failed n) after l due e = struck_failed calls armed Fails n after l due
struck_fits calls armed (word.Cut n) after l due e = struck_cut calls armed Cuts n after l due
struck_fits calls armed (word.Loaded rows) after l due e = cc
struck_fits calls armed (word.Bad slot) after l due e = cc

-- a call within the step is struck, and a word that is struck has such a call

beyond_not : {A : Type 0} → (m n : ℕ) → m < n → n ≤ m → A
beyond_not m n l u = absurd (both m n l u)
  where
    both : (m n : ℕ) → m < n → n ≤ m → ⊥
    both m n l u = omega (arith, l, u)

pub within_struck : (calls : Plan) (armed : ℕ × Struck) (w : DiskWord) (after : Armed) → armed.0 ≤ planned_calls calls → Due calls (Some armed) w after → IsTrue (is_struck w)
within_struck calls armed word.Quiet after u due = beyond_not (planned_calls calls) armed.0 due.beyond u
within_struck calls armed word.Done after u due = beyond_not (planned_calls calls) armed.0 due.beyond u
within_struck calls armed (word.Failed n) after u due = refl
within_struck calls armed (word.Cut n) after u due = refl
within_struck calls armed (word.Loaded rows) after u due = beyond_not (planned_calls calls) armed.0 due.beyond u
within_struck calls armed (word.Bad slot) after u due = beyond_not (planned_calls calls) armed.0 due.beyond u

pub struck_within : (calls : Plan) (armed : ℕ × Struck) (w : DiskWord) (after : Armed) → IsTrue (is_struck w) → Due calls (Some armed) w after → armed.0 ≤ planned_calls calls
struck_within calls armed word.Quiet after e due = cc
struck_within calls armed word.Done after e due = cc
struck_within calls armed (word.Failed n) after e due = due.within
struck_within calls armed (word.Cut n) after e due = due.within
struck_within calls armed (word.Loaded rows) after e due = cc
struck_within calls armed (word.Bad slot) after e due = cc

-- one word alone is due at a call that is struck

fails_not_cuts : {A : Type 0} → (kind : Struck) → kind ≡ Fails → kind ≡ Cuts → A
fails_not_cuts kind e f = absurd (never (sym e ∙ f))
  where
    never : Fails ≡ Cuts → ⊥
    never e = cc

only_failed : (calls : Plan) (n : ℕ) (other : DiskWord) (later : Armed) → (armed : ℕ × Struck) → armed.1 ≡ Fails → armed.0 ≤ planned_calls calls → n ≡ replaced_before calls armed.0 → Due calls (Some armed) other later → (other ≡ word.Failed n) × (later ≡ None)
only_failed calls n word.Quiet later armed k u s due = beyond_not (planned_calls calls) armed.0 due.beyond u
only_failed calls n word.Done later armed k u s due = beyond_not (planned_calls calls) armed.0 due.beyond u
only_failed calls n (word.Failed m) later armed k u s due = (ap (λ (x : ℕ). word.Failed x) (due.slots ∙ sym s), due.spent)
only_failed calls n (word.Cut m) later armed k u s due = fails_not_cuts armed.1 k due.as_armed
only_failed calls n (word.Loaded rows) later armed k u s due = beyond_not (planned_calls calls) armed.0 due.beyond u
only_failed calls n (word.Bad slot) later armed k u s due = beyond_not (planned_calls calls) armed.0 due.beyond u

only_cut : (calls : Plan) (n : ℕ) (other : DiskWord) (later : Armed) → (armed : ℕ × Struck) → armed.1 ≡ Cuts → armed.0 ≤ planned_calls calls → n ≡ replaced_before calls armed.0 → Due calls (Some armed) other later → (other ≡ word.Cut n) × (later ≡ None)
only_cut calls n word.Quiet later armed k u s due = beyond_not (planned_calls calls) armed.0 due.beyond u
only_cut calls n word.Done later armed k u s due = beyond_not (planned_calls calls) armed.0 due.beyond u
only_cut calls n (word.Failed m) later armed k u s due = fails_not_cuts armed.1 due.as_armed k
only_cut calls n (word.Cut m) later armed k u s due = (ap (λ (x : ℕ). word.Cut x) (due.slots ∙ sym s), due.spent)
only_cut calls n (word.Loaded rows) later armed k u s due = beyond_not (planned_calls calls) armed.0 due.beyond u
only_cut calls n (word.Bad slot) later armed k u s due = beyond_not (planned_calls calls) armed.0 due.beyond u

-- the word of a call that is struck
abbrev pub struck_word : Struck → ℕ → DiskWord
struck_word Fails n = word.Failed n
struck_word Cuts n = word.Cut n

only_of : (calls : Plan) (at : ℕ) (kind : Struck) → at ≤ planned_calls calls → IsOnlyDue calls (Some (at, kind)) (struck_word kind (replaced_before calls at)) None
only_of calls at Fails u = record { due = record { as_armed = refl; within = u; slots = refl; spent = refl }; only = λ other later due. only_failed calls (replaced_before calls at) other later (at, Fails) refl u refl due }
only_of calls at Cuts u = record { due = record { as_armed = refl; within = u; slots = refl; spent = refl }; only = λ other later due. only_cut calls (replaced_before calls at) other later (at, Cuts) refl u refl due }

pub one_word_is_due : (calls : Plan) (armed : ℕ × Struck) → armed.0 ≤ planned_calls calls → (w : DiskWord) × IsOnlyDue calls (Some armed) w None
one_word_is_due calls armed u = (struck_word armed.1 (replaced_before calls armed.0), only_of calls armed.0 armed.1 u)

-- with nothing armed no word is struck
pub unarmed_unstruck : (calls : Plan) (w : DiskWord) (after : Armed) → Due calls None w after → IsTrue (not (is_struck w))
unarmed_unstruck calls w after due = due.0

-- what is armed stays ahead

nearer_ahead : (calls : Plan) (armed : ℕ × Struck) (w : DiskWord) (after : Armed) → IsSpared calls armed w after → IsAhead after
nearer_ahead calls armed w after s = subst IsAhead (sym s.nearer) (ahead (planned_calls calls) armed.0 s.beyond)
  where
    ahead : (m n : ℕ) → m < n → 0 < n - m
    ahead m n l = omega (arith, l)

spent_ahead : (calls : Plan) (armed : ℕ × Struck) (kind : Struck) (n : ℕ) (after : Armed) → IsStruck calls armed kind n after → IsAhead after
spent_ahead calls armed kind n after s = subst IsAhead (sym s.spent) tt

pub stays_ahead : (calls : Plan) (armed : Armed) (w : DiskWord) (after : Armed) → Due calls armed w after → IsAhead after
stays_ahead calls None w after due = subst IsAhead (sym due.1) tt
stays_ahead calls (Some armed) word.Quiet after due = nearer_ahead calls armed word.Quiet after due
stays_ahead calls (Some armed) word.Done after due = nearer_ahead calls armed word.Done after due
stays_ahead calls (Some armed) (word.Failed n) after due = spent_ahead calls armed Fails n after due
stays_ahead calls (Some armed) (word.Cut n) after due = spent_ahead calls armed Cuts n after due
stays_ahead calls (Some armed) (word.Loaded rows) after due = nearer_ahead calls armed (word.Loaded rows) after due
stays_ahead calls (Some armed) (word.Bad slot) after due = nearer_ahead calls armed (word.Bad slot) after due

-- words that come near to breaking these

-- call 4 of a replacement of two slots is the last of its first slot, which is not wholly replaced; call 5 strikes with one slot replaced
fourth_call : (first second : Change) → replaced_before (Replacing (first ∷ second ∷ [])) 4 ≡ 0
fourth_call first second = refl

fifth_call : (first second : Change) → replaced_before (Replacing (first ∷ second ∷ [])) 5 ≡ 1
fifth_call first second = refl

-- a word of a call that does not exist: were calls counted from 0, a step that makes none could be struck, by a word that does not fit
no_call_is_struck : Due Nothing (Some (0, Fails)) (word.Failed 0) None
no_call_is_struck = record { as_armed = refl; within = omega arith; slots = refl; spent = refl }

it_does_not_fit : fits_plan Nothing (word.Failed 0) ≡ false
it_does_not_fit = refl
