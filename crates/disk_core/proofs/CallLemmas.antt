-- Calls one after another.
use Rattle.std.proofs.Common.{◌≡◌, ◌≤◌, ℕ, ◌+◌, ◌-◌, Bool, true, false, if◌then◌else◌, Option, Some, None, refl, suc, sym, zero, ◌∙◌, ap, subst, arith}
use Rattle.std.specs.Prelude.{nat_le}
use Rattle.std.proofs.lemmas.Bool.Decides.{nat_tests}
use Rattle.disk_core.specs.declared.disk.DiskError.{DiskError}
use Rattle.disk_core.specs.declared.disk.DiskError.TheVariants.{Failed, Off}
use Rattle.disk_core.specs.DiskStates.{Arming, DiskState, IsDiskState}
use Rattle.disk_core.specs.Disks.{DeviceCalls, ObeysArming, armed_after, failed_after, strike_fault, struck_within}

-- the test of a sum
le_sum : (c n m : ℕ) → nat_le c n ≡ false → nat_le (c - n) m ≡ nat_le c (n + m)
le_sum c n m above = grind (arith, nat_tests)

struck_then : (n m : ℕ) (a : Option Arming) → None ≡ struck_within n a → struck_within m (armed_after n a) ≡ struck_within (n + m) a
struck_then n m None none = refl
struck_then n m (Some a) none = by_test (nat_le a.0 n) refl
  where
    by_test : (b : Bool) → nat_le a.0 n ≡ b → struck_within m (armed_after n (Some a)) ≡ struck_within (n + m) (Some a)
    by_test true is = absurd (let e : None ≡ Some (strike_fault a.1) = none ∙ ap (λ (b : Bool). if b then Some (strike_fault a.1) else None) is in cc)
    by_test false is =
        ap (λ (b : Bool). struck_within m (if b then None else Some (a.0 - n, a.1))) is
        ∙ ap (λ (b : Bool). if b then Some (strike_fault a.1) else None) (le_sum a.0 n m is)

after_then : (n m : ℕ) (a : Option Arming) → None ≡ struck_within n a → armed_after m (armed_after n a) ≡ armed_after (n + m) a
after_then n m None none = refl
after_then n m (Some a) none = by_test (nat_le a.0 n) refl
  where
    by_test : (b : Bool) → nat_le a.0 n ≡ b → armed_after m (armed_after n (Some a)) ≡ armed_after (n + m) (Some a)
    by_test true is = absurd (let e : None ≡ Some (strike_fault a.1) = none ∙ ap (λ (b : Bool). if b then Some (strike_fault a.1) else None) is in cc)
    by_test false is =
        let less : a.0 - n - m ≡ a.0 - (n + m) = omega arith in
        let first : armed_after m (armed_after n (Some a)) ≡ armed_after m (Some (a.0 - n, a.1)) = ap (λ (b : Bool). armed_after m (if b then None else Some (a.0 - n, a.1))) is in
        let second : armed_after m (Some (a.0 - n, a.1)) ≡ (if nat_le a.0 (n + m) then None else Some (a.0 - n - m, a.1)) = ap (λ (b : Bool). if b then None else Some (a.0 - n - m, a.1)) (le_sum a.0 n m is) in
        first ∙ second ∙ ap (λ (k : ℕ). if nat_le a.0 (n + m) then None else Some (k, a.1)) less

obeys_then : (n m : ℕ) (a b c : Option (Option Arming)) (fault : Option DiskError) → ObeysArming n a b None → ObeysArming m b c fault → ObeysArming (n + m) a c fault
obeys_then n m None b c fault first second = let P : Option (Option Arming) → Type 0 = λ o. ObeysArming m o c fault in subst P first second
obeys_then n m (Some a) b c fault first second =
    let P : Option (Option Arming) → Type 0 = λ o. ObeysArming m o c fault in
    let now : (c ≡ Some (armed_after m (armed_after n a))) × (fault ≡ struck_within m (armed_after n a)) = subst P first.0 second in
    (now.0 ∙ ap (λ (o : Option Arming). Some o) (after_then n m a first.1), now.1 ∙ struck_then n m a first.1)

failed_then : (n m : ℕ) (a b c : Bool) (fault : Option DiskError) → b ≡ failed_after n a None → c ≡ failed_after m b fault → c ≡ failed_after (n + m) a fault
failed_then n m a b c (Some Failed) first second = second
failed_then n m a b c (Some Off) first second = second
failed_then n m a b c None first second = second ∙ ap (λ (before : Bool). failed_after m before None) first ∙ none_failed n m a
  where
    none_failed : (n m : ℕ) (a : Bool) → failed_after m (failed_after n a None) None ≡ failed_after (n + m) a None
    none_failed zero m a = let same : 0 + m ≡ m = omega arith in ap (λ (k : ℕ). failed_after k a None) (sym same)
    none_failed (suc n) zero a = let same : suc n + 0 ≡ suc n = omega arith in ap (λ (k : ℕ). failed_after k a None) (sym same)
    none_failed (suc n) (suc m) a = let same : suc n + suc m ≡ suc (n + suc m) = omega arith in ap (λ (k : ℕ). failed_after k a None) (sym same)

failed_more : (n m : ℕ) (before : Bool) (e : DiskError) → failed_after n before (Some e) ≡ failed_after (n + m) before (Some e)
failed_more n m before Failed = refl
failed_more n m before Off = refl

-- a run of calls with no fault, and then another run
pub calls_then : (n m : ℕ) (s t u : DiskState) (fault : Option DiskError) → DeviceCalls n s t None → DeviceCalls m t u fault → DeviceCalls (n + m) s u fault
calls_then n m s t u fault first second = record {
  faults = omega (arith, first.faults, second.faults);
  cuts = omega (arith, first.cuts, second.cuts);
  failed = λ e. omega (arith, first.faults, second.failed e);
  cut = λ on e. omega (arith, first.cuts, second.cut first.now_off e);
  done = λ e. let before = first.done refl in let after = second.done e in record { faults = after.faults ∙ before.faults; cuts = after.cuts ∙ before.cuts };
  was_off = λ off. absurd (let e : None ≡ Some Off = first.was_off off in cc);
  now_off = second.now_off;
  tells = second.tells ∙ first.tells;
  armed = λ on. obeys_then n m s.armed t.armed u.armed fault (first.armed on) (second.armed first.now_off);
  armed_off = λ off. absurd (let e : None ≡ Some Off = first.was_off off in cc);
  last = λ on. failed_then n m s.failed t.failed u.failed fault (first.last on) (second.last first.now_off);
  last_off = λ off. absurd (let e : None ≡ Some Off = first.was_off off in cc);
}

obeys_more : (n m : ℕ) (a b : Option (Option Arming)) (e : DiskError) → ObeysArming n a b (Some e) → ObeysArming (n + m) a b (Some e)
obeys_more n m None b e first = first
obeys_more n m (Some None) b e first = absurd (let no : Some e ≡ None = first.1 in cc)
obeys_more n m (Some (Some a)) b e first = by_test (nat_le a.0 n) refl
  where
    by_test : (t : Bool) → nat_le a.0 n ≡ t → (b ≡ Some (armed_after (n + m) (Some a))) × (Some e ≡ struck_within (n + m) (Some a))
    by_test false is = absurd (let no : Some e ≡ None = first.1 ∙ ap (λ (t : Bool). if t then Some (strike_fault a.1) else None) is in cc)
    by_test true is =
        let more : nat_le a.0 n ≡ nat_le a.0 (n + m) = is ∙ sym (grown is) in (
          first.0 ∙ ap (λ (t : Bool). Some (if t then None else Some (a.0 - n, a.1))) is ∙ sym (ap (λ (t : Bool). Some (if t then None else Some (a.0 - (n + m), a.1))) (grown is)),
          first.1 ∙ ap (λ (t : Bool). if t then Some (strike_fault a.1) else None) more,
        )
      where
        grown : nat_le a.0 n ≡ true → nat_le a.0 (n + m) ≡ true
        grown h = grind (arith, nat_tests)

-- a run of calls of which the last had a fault is at most a longer run
pub calls_more : (n m : ℕ) (s t : DiskState) (e : DiskError) → DeviceCalls n s t (Some e) → DeviceCalls (n + m) s t (Some e)
calls_more n m s t e first = record {
  faults = first.faults;
  cuts = first.cuts;
  failed = first.failed;
  cut = first.cut;
  done = first.done;
  was_off = first.was_off;
  now_off = first.now_off;
  tells = first.tells;
  armed = λ on. obeys_more n m s.armed t.armed e (first.armed on);
  armed_off = first.armed_off;
  last = λ on. first.last on ∙ failed_more n m s.failed e;
  last_off = first.last_off;
}

obeys_none : (told : Option (Option Arming)) → ((a : Arming) → told ≡ Some (Some a) → 1 ≤ a.0) → ObeysArming 0 told told None
obeys_none None later = refl
obeys_none (Some None) later = (refl, refl)
obeys_none (Some (Some a)) later = search (nat_tests, arith, later a refl)

-- no call at all
pub calls_none : (s : DiskState) → IsDiskState s → s.off ≡ false → DeviceCalls 0 s s None
calls_none s laws on = record {
  faults = omega arith;
  cuts = omega arith;
  failed = λ e. absurd (cc);
  cut = λ _ e. absurd (cc);
  done = λ _. record { faults = refl; cuts = refl };
  was_off = λ off. absurd (let e : true ≡ false = sym off ∙ on in cc);
  now_off = on;
  tells = refl;
  armed = λ _. obeys_none s.armed laws.armed;
  armed_off = λ _. refl;
  last = λ _. refl;
  last_off = λ _. refl;
}
