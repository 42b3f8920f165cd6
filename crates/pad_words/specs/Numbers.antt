-- Small numbers as values of their types.
use Rattle.std.specs.Prelude.{◌≡◌, ℕ, ◌<◌, ◌≤◌, Bool, true, false, nat_lt, nat_le, ◌&&◌, ◌==◌, Option, Some, None, refl}
use mathlib.Core.HLevel.{is_prop→PathP}
use Rattle.pad_words.specs.declared.numbers.Digit.{Digit}
use Rattle.pad_words.specs.declared.numbers.Session.{Session}
use Rattle.std.proofs.Math.Bridge.{le_prop}
use Rattle.std.proofs.lemmas.Bool.{ltb-true}
use Rattle.std.proofs.lemmas.Bool.Decides.{nat_tests}
use Rattle.std.proofs.Common.{arith, ap}

-- the two are one session
abbrev pub same_session : Session → Session → Bool
same_session first second = first.number == second.number

-- digits and sessions with one number are one
pub digit_eq : (a b : Digit) → a.value ≡ b.value → a ≡ b
digit_eq a b e = λ i. record { value = e i; small = is_prop→PathP (λ j. e j < 10) (λ j. hlevel le_prop) a.small b.small i }

pub session_eq : (a b : Session) → a.number ≡ b.number → a ≡ b
session_eq a b e = λ i. record { number = e i; valid = is_prop→PathP (λ j. (0 < e j) × (e j ≤ 16)) (λ j. hlevel le_prop) a.valid b.valid i }

pub below_ten : (v : ℕ) → nat_lt v 10 ≡ true → v < 10
below_ten v e = ltb-true v 10 e

pub is_session : (v : ℕ) → (nat_lt 0 v && nat_le v 16) ≡ true → (0 < v) × (v ≤ 16)
is_session v e = grind (arith, nat_tests)

abbrev pub digit_if : (v : ℕ) (b : Bool) → nat_lt v 10 ≡ b → Option Digit
digit_if v true e = Some (record { value = v; small = below_ten v e })
digit_if v false e = None

-- the digit with this value
abbrev pub digit_of : ℕ → Option Digit
digit_of v = digit_if v (nat_lt v 10) refl

abbrev pub session_if : (v : ℕ) (b : Bool) → (nat_lt 0 v && nat_le v 16) ≡ b → Option Session
session_if v true e = Some (record { number = v; valid = is_session v e })
session_if v false e = None

-- the session with this number
abbrev pub session_of : ℕ → Option Session
session_of v = session_if v (nat_lt 0 v && nat_le v 16) refl

below_from : (v n : ℕ) → n < 10 → n ≡ v → nat_lt v 10 ≡ false → ⊥
below_from v n lt is e = grind (arith, nat_tests)

session_from : (v n : ℕ) → (0 < n) × (n ≤ 16) → n ≡ v → (nat_lt 0 v && nat_le v 16) ≡ false → ⊥
session_from v n ok is e = grind (arith, nat_tests)

digit_found : (v : ℕ) (d : Digit) (b : Bool) (e : nat_lt v 10 ≡ b) → d.value ≡ v → Some d ≡ digit_if v b e
digit_found v d true e is = ap (λ (x : Digit). Some x) (digit_eq d (record { value = v; small = below_ten v e }) is)
digit_found v d false e is = absurd (below_from v d.value d.small is e)

session_found : (v : ℕ) (s : Session) (b : Bool) (e : (nat_lt 0 v && nat_le v 16) ≡ b) → s.number ≡ v → Some s ≡ session_if v b e
session_found v s true e is = ap (λ (x : Session). Some x) (session_eq s (record { number = v; valid = is_session v e }) is)
session_found v s false e is = absurd (session_from v s.number s.valid is e)

-- a digit is the one of its value
pub digit_some : (d : Digit) → Some d ≡ digit_of d.value
digit_some d = digit_found d.value d (nat_lt d.value 10) refl refl

pub session_some : (s : Session) → Some s ≡ session_of s.number
session_some s = session_found s.number s (nat_lt 0 s.number && nat_le s.number 16) refl refl
