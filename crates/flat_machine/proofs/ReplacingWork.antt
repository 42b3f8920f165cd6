-- Replacements of slots, as device work.
use Rattle.disk_core.specs.DiskStates.{Arming, DiskState, EachImage, IsDiskState, IsOnlyImage}
use Rattle.disk_core.specs.Disks.{failed_after, strike_fault, struck_within}
use Rattle.disk_core.specs.declared.disk.DiskError.TheVariants as fault
use Rattle.disk_core.specs.declared.disk.DiskError.{DiskError}
use Rattle.flat_machine.proofs.ToldBytes.{told_always, told_both, with_told}
use Rattle.flat_machine.proofs.TornBytes.{Range, changed_no_shorter, torn_told}
use Rattle.flat_machine.proofs.WordsOfCalls.{due_told, word_cut, word_failed, word_loaded, word_off}
use Rattle.flat_machine.specs.Arms.{Armed, DueArmed, IsSpared, Struck, is_struck}
use Rattle.flat_machine.specs.DiskSteps.{DeviceWork, DueTold, Moved, ReadBy, done_word, is_cut, is_failed, is_loaded, word_of}
use Rattle.flat_machine.specs.KeyLayout.{key_layout}
use Rattle.flat_machine.specs.Power.{Plan, Replacing, fits_plan}
use Rattle.flat_machine.specs.StoreHistory.{CanBe, put_all, struck_at}
use Rattle.key_record.specs.Records.{spelled}
use Rattle.key_table.specs.Changes.{Change}
use Rattle.key_table.specs.KeyStores.{EndsAt, IsTornBy, KeyStore, MakesChanges, calls_of, changed_bytes}
use Rattle.key_table.specs.StoredRows.{put_bytes}
use Rattle.nv_store.specs.Stores.{HasStable, IsInStep}
use Rattle.pad_steps.specs.declared.steps.DiskWord.TheVariants as word
use Rattle.pad_steps.specs.declared.steps.DiskWord.{DiskWord}
use Rattle.std.proofs.Common.{ap, arith, subst, sym, ◌∙◌}
use Rattle.std.proofs.lemmas.Bool.Decides.{nat_tests}
use Rattle.std.proofs.lemmas.Bool.{lt-ltb}
use Rattle.std.specs.Option.{option_map}
use Rattle.std.specs.Prelude.{Bool, IfSome, IsTrue, List, None, Option, Some, [], false, if◌then◌else◌, is_some, length, nat_le, not, refl, slice_get, take, true, ℕ, ◌*◌, ◌+◌, ◌-◌, ◌/◌, ◌<◌, ◌∷◌, ◌≡◌, ◌≤◌}

-- the word of changes that were all done

done_spared : (todo : List Change) (calls : Plan) (armed : ℕ × Struck) (after : Armed) → IsSpared calls armed (done_word todo) after → DueArmed calls armed (done_word todo) after
done_spared [] calls armed after spared = spared
done_spared (c ∷ todo) calls armed after spared = spared

done_not_failed : (todo : List Change) → is_failed (done_word todo) ≡ false
done_not_failed [] = refl
done_not_failed (c ∷ todo) = refl

pub done_not_cut : (todo : List Change) → is_cut (done_word todo) ≡ false
done_not_cut [] = refl
done_not_cut (c ∷ todo) = refl

done_unstruck : (todo : List Change) → IsTrue (not (is_struck (done_word todo)))
done_unstruck [] = refl
done_unstruck (c ∷ todo) = refl

done_not_loaded : (todo : List Change) → is_loaded (done_word todo) ≡ false
done_not_loaded [] = refl
done_not_loaded (c ∷ todo) = refl

done_fits : (todo : List Change) → IsTrue (fits_plan (Replacing todo) (done_word todo))
done_fits [] = refl
done_fits (c ∷ todo) = lt-ltb 0 (length (c ∷ todo)) (omega arith)

done_moved : (todo : List Change) (b d : List ℕ) → d ≡ put_all key_layout b todo → Moved key_layout (Replacing todo) (done_word todo) b d
done_moved [] b d is = is
done_moved (c ∷ todo) b d is = is

done_read : (todo : List Change) (d : List ℕ) → ReadBy key_layout (done_word todo) d
done_read [] d = tt
done_read (c ∷ todo) d = tt

-- the bytes after changes are those of the layout
pub put_all-changed : (todo : List Change) (b : List ℕ) → changed_bytes todo b ≡ put_all key_layout b todo
put_all-changed [] b = refl
put_all-changed (c ∷ todo) b = put_all-changed todo (put_bytes b c.slot c.row)

-- the count, by the fault

ends_all : (o : Option DiskError) (all count : ℕ) → EndsAt all count o → o ≡ None → count ≡ all
ends_all None all count ends e = ends
ends_all (Some f) all count ends e = cc

ends_below : (o : Option DiskError) (all count : ℕ) → EndsAt all count o → is_some o ≡ true → count < all
ends_below None all count ends e = cc
ends_below (Some f) all count ends e = ends

calls_all : (o : Option DiskError) (count : ℕ) → o ≡ None → calls_of count o ≡ 4 * count
calls_all None count e = refl
calls_all (Some f) count e = cc

calls_most : (o : Option DiskError) (count : ℕ) → calls_of count o ≤ 4 * count + 4
calls_most None count = omega arith
calls_most (Some f) count = omega arith

struck_call : (all count call : ℕ) → 4 * count < call → call ≤ 4 * count + 4 → count < all → (call ≤ 4 * all) × (count ≡ (call - 1) / 4)
struck_call all count call above below lt = (omega (arith, below, lt), omega (arith, above, below))

-- a struck call lies behind those of the changes that were done
behind_done : (count : ℕ) (armed : Option (Option Arming)) (x : Arming) → armed ≡ Some (Some x) → IfSome armed (λ a. struck_within (4 * count) a ≡ None) → 4 * count < x.0
behind_done count None x is none = cc
behind_done count (Some None) x is none = cc
behind_done count (Some (Some y)) x is none = let same : y ≡ x = cc in subst (λ (z : Arming). 4 * count < z.0) same (by_test (nat_le y.0 (4 * count)) refl none)
  where
    by_test : (c : Bool) → nat_le y.0 (4 * count) ≡ c → struck_within (4 * count) (Some y) ≡ None → 4 * count < y.0
    by_test true is e = absurd (let bad : Some (strike_fault y.1) ≡ None = sym (ap (λ (c : Bool). if c then Some (strike_fault y.1) else None) is) ∙ e in cc)
    by_test false is e = grind (arith, nat_tests)

-- a torn change can be
torn_can : (range : Range) (b d : List ℕ) (o : Option Change) → 12352 ≤ length b → length d ≡ 12352 → IsTornBy o b d → CanBe key_layout (struck_at key_layout b o) d
torn_can range b d None long size torn = torn
torn_can range b d (Some c) long size torn = torn_told range b c.slot (spelled c.row) d long size torn

module _ (range : Range) (todo : List Change) (count : ℕ) (o : Option DiskError) (old new : KeyStore) (s t : DiskState) (laws_s : IsDiskState s) (laws_t : IsDiskState t) (on : s.off ≡ false) (made : MakesChanges todo count o old new s t) where
  abbrev told_word : DiskWord
  told_word = word_of count (done_word todo) o

  work_fits : (f : Option DiskError) → EndsAt (length todo) count f → IsTrue (fits_plan (Replacing todo) (word_of count (done_word todo) f))
  work_fits None ends = done_fits todo
  work_fits (Some fault.Failed) ends = lt-ltb count (length todo) ends
  work_fits (Some fault.Off) ends = lt-ltb count (length todo) ends

  work_due : DueTold (Replacing todo) s.armed told_word t.armed
  work_due = due_told (Replacing todo) (calls_of count o) count (done_word todo) (done_spared todo (Replacing todo)) (done_unstruck todo) o s.armed t.armed (made.calls.armed on)
      (λ e. omega (arith, calls_all o count e, ends_all o (length todo) count made.ends e))
      (λ x is f le. struck_call (length todo) count x.0 (behind_done count s.armed x is made.unstruck) (omega (arith, le, calls_most o count))
      (ends_below o (length todo) count made.ends (ap (λ (g : Option DiskError). is_some g) f)))

  work_read : (f : Option DiskError) (d : List ℕ) → ReadBy key_layout (word_of count (done_word todo) f) d
  work_read None d = done_read todo d
  work_read (Some fault.Failed) d = tt
  work_read (Some fault.Off) d = tt

  abbrev Origin : DiskWord → List ℕ → Type 0
  Origin w d = (from : List ℕ) × s.image from × Moved key_layout (Replacing todo) w from d

  -- the bytes of before are an image
  from_store : (b : List ℕ) (w : DiskWord) (P : List ℕ → Type 0) → HasStable s b → ((d : List ℕ) → t.image d → length b ≡ 12352 → P d → Moved key_layout (Replacing todo) w b d) → EachImage t P → EachImage t (Origin w)
  from_store b w P stable f each = with_told s.content t.content (λ c. s.image c × ((c ≡ b) × IsOnlyImage b s)) ((d : List ℕ) → t.image d → P d) ((d : List ℕ) → t.image d → Origin w d) made.calls.tells
      (λ c at each d left. let is_image : s.image b = subst s.image at.1.0 at.0 in (b, is_image, f d left (laws_s.sized b is_image) (each d left)))
      (told_both s.content (λ c. s.image c) (λ c. (c ≡ b) × IsOnlyImage b s) laws_s.told stable) each

  all_put : (b : List ℕ) → HasStable t b → EachImage t (λ d. d ≡ b)
  all_put b stable = with_told t.content t.content (λ c. (c ≡ b) × IsOnlyImage b t) (Unit {0}) ((d : List ℕ) → t.image d → d ≡ b) refl (λ c at _ d left. at.1 d left) stable (told_always t.content (Unit {0}) tt)

  torn_moved : (b : List ℕ) (w : DiskWord) → ((d : List ℕ) → CanBe key_layout (struck_at key_layout (put_all key_layout b (take count todo)) (slice_get todo count)) d → Moved key_layout (Replacing todo) w b d)
      → HasStable s b → EachImage t (IsTornBy (slice_get todo count) (changed_bytes (take count todo) b)) → EachImage t (Origin w)
  torn_moved b w f stable torn = from_store b w (IsTornBy (slice_get todo count) (changed_bytes (take count todo) b)) stable
      (λ d left size is. f d (subst (λ (l : List ℕ). CanBe key_layout (struck_at key_layout l (slice_get todo count)) d) (put_all-changed (take count todo) b)
      (torn_can range (changed_bytes (take count todo) b) d (slice_get todo count) (omega (arith, size, changed_no_shorter (take count todo) b)) (laws_t.sized d left) is))) torn

  moved_by : (stored : Option (List ℕ)) (f : Option DiskError) → o ≡ f → old.bytes ≡ stored → IsInStep s stored → EachImage t (Origin (word_of count (done_word todo) f))
  moved_by None f is stored in_step = absurd in_step
  moved_by (Some b) None is stored in_step =
      let bytes : new.bytes ≡ Some (put_all key_layout b todo) = made.bytes is ∙ ap (λ (x : Option (List ℕ)). option_map (changed_bytes todo) x) stored ∙ ap (λ (l : List ℕ). Some l) (put_all-changed todo b) in
      let stable : HasStable t (put_all key_layout b todo) = subst (IsInStep t) bytes (made.in_step is) in
      from_store b (done_word todo) (λ d. d ≡ put_all key_layout b todo) in_step (λ d left size is. done_moved todo b d is) (all_put (put_all key_layout b todo) stable)
  moved_by (Some b) (Some fault.Failed) is stored in_step =
      torn_moved b (word.Failed count) (λ d can. can) in_step (subst (λ (x : Option (List ℕ)). IfSome x (λ bytes. EachImage t (IsTornBy (slice_get todo count) (changed_bytes (take count todo) bytes)))) stored (made.torn (ap (λ (g : Option DiskError). is_some g) is)))
  moved_by (Some b) (Some fault.Off) is stored in_step =
      torn_moved b (word.Cut count) (λ d can. can) in_step (subst (λ (x : Option (List ℕ)). IfSome x (λ bytes. EachImage t (IsTornBy (slice_get todo count) (changed_bytes (take count todo) bytes)))) stored (made.torn (ap (λ (g : Option DiskError). is_some g) is)))

  pub changes_work : IsInStep s old.bytes → DeviceWork key_layout (Replacing todo) told_word s t
  changes_work in_step = record {
    fits = work_fits o made.ends;
    faults = made.calls.faults;
    cuts = made.calls.cuts;
    failed = λ e. made.calls.failed (word_failed count (done_word todo) o (done_not_failed todo) e);
    cut = λ e. made.calls.cut on (word_cut count (done_word todo) o (done_not_cut todo) e);
    last = λ e. made.calls.last on ∙ ap (λ (x : Option DiskError). failed_after (calls_of count o) s.failed x) (word_failed count (done_word todo) o (done_not_failed todo) e);
    off = made.calls.now_off ∙ word_off count (done_word todo) o (done_not_cut todo);
    tells = made.calls.tells;
    due = work_due;
    moved = moved_by old.bytes o refl refl in_step;
    read = told_always t.content ((d : List ℕ) → t.image d → ReadBy key_layout told_word d) (λ d left. work_read o d);
    stable = λ loaded. absurd (word_loaded count (done_word todo) o (done_not_loaded todo) loaded);
  }
