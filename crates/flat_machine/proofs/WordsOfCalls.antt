-- The word of device calls, by their fault.
use Rattle.disk_core.specs.DiskStates.{Arming}
use Rattle.disk_core.specs.Disks.{ObeysArming, is_cut as cuts_power, strike_fault}
use Rattle.disk_core.specs.declared.disk.DiskError.TheVariants as fault
use Rattle.disk_core.specs.declared.disk.DiskError.{DiskError}
use Rattle.disk_core.specs.declared.disk.Strike.TheVariants as strike
use Rattle.disk_core.specs.declared.disk.Strike.{Strike}
use Rattle.flat_machine.specs.Arms.{Armed, Due, DueArmed, IsSpared, Struck, calls_made, is_struck, most_calls, replaced_before}
use Rattle.flat_machine.specs.DiskSteps.{DueTold, armed_as, is_cut, is_failed, is_loaded, struck_by, word_of}
use Rattle.flat_machine.specs.Power.{Plan}
use Rattle.pad_steps.specs.declared.steps.DiskWord.{DiskWord}
use Rattle.std.proofs.Common.{ap, arith, subst, sym, ◌∙◌}
use Rattle.std.proofs.lemmas.Bool.Decides.{nat_tests}
use Rattle.std.specs.Prelude.{Bool, IsTrue, None, Option, Some, false, if◌then◌else◌, nat_le, not, refl, true, ℕ, ◌-◌, ◌<◌, ◌≡◌, ◌≤◌}

pub word_failed : (count : ℕ) (whole : DiskWord) (o : Option DiskError) → is_failed whole ≡ false → is_failed (word_of count whole o) ≡ true → o ≡ Some fault.Failed
word_failed count whole None e f = absurd (let none : false ≡ true = sym e ∙ f in cc)
word_failed count whole (Some fault.Failed) e f = refl
word_failed count whole (Some fault.Off) e f = cc

pub word_cut : (count : ℕ) (whole : DiskWord) (o : Option DiskError) → is_cut whole ≡ false → is_cut (word_of count whole o) ≡ true → o ≡ Some fault.Off
word_cut count whole None e f = absurd (let none : false ≡ true = sym e ∙ f in cc)
word_cut count whole (Some fault.Failed) e f = cc
word_cut count whole (Some fault.Off) e f = refl

pub word_off : (count : ℕ) (whole : DiskWord) (o : Option DiskError) → is_cut whole ≡ false → cuts_power o ≡ is_cut (word_of count whole o)
word_off count whole None e = sym e
word_off count whole (Some fault.Failed) e = refl
word_off count whole (Some fault.Off) e = refl

pub word_loaded : (count : ℕ) (whole : DiskWord) (o : Option DiskError) → is_loaded whole ≡ false → is_loaded (word_of count whole o) ≡ true → ⊥
word_loaded count whole None e f = let none : false ≡ true = sym e ∙ f in cc
word_loaded count whole (Some fault.Failed) e f = cc
word_loaded count whole (Some fault.Off) e f = cc

-- where n calls obeyed what is armed, their word is due
module _ (calls : Plan) (n count : ℕ) (whole : DiskWord) (spared : (armed : ℕ × Struck) (after : Armed) → IsSpared calls armed whole after → DueArmed calls armed whole after) (unstruck : IsTrue (not (is_struck whole))) where
  struck_due : (call : ℕ) (strike : Strike) → call ≤ most_calls calls → count ≡ replaced_before calls call → Due calls (armed_as (Some (call, strike))) (word_of count whole (Some (strike_fault strike))) None
  struck_due call strike.Fail within slots = record { as_armed = refl; within = within; slots = slots; spent = refl }
  struck_due call (strike.Cut keep) within slots = record { as_armed = refl; within = within; slots = slots; spent = refl }

  pub due_told : (o : Option DiskError) (a b : Option (Option Arming)) → ObeysArming n a b o → (o ≡ None → calls_made calls whole ≡ n)
      → ((x : Arming) → a ≡ Some (Some x) → o ≡ Some (strike_fault x.1) → x.0 ≤ n → (x.0 ≤ most_calls calls) × (count ≡ replaced_before calls x.0)) → DueTold calls a (word_of count whole o) b
  due_told o None b obeys made hit = obeys
  due_told o (Some None) b obeys made hit = (None, obeys.0, subst (λ (f : Option DiskError). Due calls None (word_of count whole f) None) (sym obeys.1) (unstruck, refl))
  due_told o (Some (Some x)) b obeys made hit = by_test (nat_le x.0 n) refl
    where
      by_test : (t : Bool) → nat_le x.0 n ≡ t → DueTold calls (Some (Some x)) (word_of count whole o) b
      by_test true is =
          let f : o ≡ Some (strike_fault x.1) = obeys.1 ∙ ap (λ (t : Bool). if t then Some (strike_fault x.1) else None) is in
          let le : x.0 ≤ n = grind (arith, nat_tests) in
          let at = hit x refl f le in (
            None,
            obeys.0 ∙ ap (λ (t : Bool). Some (if t then None else Some (x.0 - n, x.1))) is,
            subst (λ (g : Option DiskError). Due calls (armed_as (Some x)) (word_of count whole g) None) (sym f) (struck_due x.0 x.1 at.0 at.1),
          )
      by_test false is =
          let f : o ≡ None = obeys.1 ∙ ap (λ (t : Bool). if t then Some (strike_fault x.1) else None) is in
          let above : n < x.0 = grind (arith, nat_tests) in
          let same = made f in (
            Some (x.0 - n, x.1),
            obeys.0 ∙ ap (λ (t : Bool). Some (if t then None else Some (x.0 - n, x.1))) is,
            subst (λ (g : Option DiskError). Due calls (armed_as (Some x)) (word_of count whole g) (Some (x.0 - n, struck_by x.1))) (sym f)
                (spared (x.0, struck_by x.1) (Some (x.0 - n, struck_by x.1)) (record { beyond = omega (arith, same, above); nearer = ap (λ (k : ℕ). Some (x.0 - k, struck_by x.1)) (sym same) })),
          )
