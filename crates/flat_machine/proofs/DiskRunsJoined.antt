-- The record of a run, of nothing, of an arming, of a step, and of one run after another.
use Rattle.disk_core.specs.Causes.{Rose}
use Rattle.disk_core.specs.DiskStates.{Arming, DiskState, EachImage, IsDiskState, IsOnlyImage}
use Rattle.disk_core.specs.Disks.{ArmsDisk}
use Rattle.disk_core.specs.declared.disk.Strike.{Strike}
use Rattle.flat_machine.proofs.CalmWords.{calm_step}
use Rattle.flat_machine.proofs.DeedLists.{acts_in-append, cut_words-append, failed_words-append, loads_rows-append, or_cases, rose_then}
use Rattle.flat_machine.proofs.HistoriesJoined.{holds_then, sound_next}
use Rattle.flat_machine.proofs.HistoryLemmas.{run_from-append}
use Rattle.flat_machine.proofs.ToldBytes.{both_told, told_always, told_both, told_to, with_told}
use Rattle.flat_machine.specs.Deeds.{Arms, CalmFrom, Deed, DueAlong, DueFrom, FitsDeeds, IsCalm, Takes, acts_in, after_deeds, cut_words, failed_words, loads_rows, off_along}
use Rattle.flat_machine.specs.DiskFacts.{TellsApart}
use Rattle.flat_machine.specs.DiskRuns.{ComeFromOne, ComesFrom, NonePendingOff, RoseBy, RunOnDisk}
use Rattle.flat_machine.specs.DiskSteps.{DueTold, Moved, ShowsKeys, StepOnDisk, is_cut, is_failed, is_loaded, switched}
use Rattle.flat_machine.specs.Machine.{Act, next, plan, run_from}
use Rattle.flat_machine.specs.Power.{Plan}
use Rattle.flat_machine.specs.Settings.{Setting}
use Rattle.flat_machine.specs.State.{Flat, is_off}
use Rattle.flat_machine.specs.StoreHistory.{HoldsFrom, Layout, These}
use Rattle.pad_steps.specs.declared.steps.DiskWord.{DiskWord}
use Rattle.std.proofs.Common.{⊎_elim, ap, arith, subst, sym, ◌∙◌}
use Rattle.std.specs.Prelude.{Bool, IfSome, List, None, Option, Some, [], false, if◌then◌else◌, is_some, refl, true, ℕ, ◌++◌, ◌+◌, ◌||◌, ◌∷◌, ◌≡◌, ◌≤◌}

module _ (layout : Layout) (set : Setting) where
  fits_then : (h : Flat) (xs ys : List Deed) → FitsDeeds set h xs → FitsDeeds set (after_deeds set h xs) ys → FitsDeeds set h (xs ++ ys)
  fits_then h [] ys first second = second
  fits_then h (Takes a ∷ xs) ys first second = (first.0, fits_then (next set h a.step a.word).state xs ys first.1 second)
  fits_then h (Arms c k ∷ xs) ys first second = fits_then h xs ys first second

  calm_then : (h : Flat) (xs ys : List Deed) → CalmFrom set h xs → CalmFrom set (after_deeds set h xs) ys → CalmFrom set h (xs ++ ys)
  calm_then h [] ys first second = second
  calm_then h (Takes a ∷ xs) ys first second = (first.0, calm_then (next set h a.step a.word).state xs ys first.1 second)
  calm_then h (Arms c k ∷ xs) ys first second = calm_then h xs ys first second

  off_then : (h : Flat) (xs ys : List Deed) (was : Bool) → off_along set h (xs ++ ys) was ≡ off_along set (after_deeds set h xs) ys (off_along set h xs was)
  off_then h [] ys was = refl
  off_then h (Takes a ∷ xs) ys was = off_then (next set h a.step a.word).state xs ys (if is_cut a.word then true else switched h.shared a.step was)
  off_then h (Arms c k ∷ xs) ys was = off_then h xs ys was

  due_along-then : (h : Flat) (xs ys : List Deed) (a b c : Option Arming) → DueAlong set h xs a b → DueAlong set (after_deeds set h xs) ys b c → DueAlong set h (xs ++ ys) a c
  due_along-then h [] ys a b c first second = subst (λ (x : Option Arming). DueAlong set h ys x c) first second
  due_along-then h (Takes act ∷ xs) ys a b c first second = (first.0, first.1, due_along-then (next set h act.step act.word).state xs ys first.0 b c first.2 second)
  due_along-then h (Arms n k ∷ xs) ys a b c first second = due_along-then h xs ys (Some (n, k)) b c first second

  due_then : (h : Flat) (xs ys : List Deed) (a b c : Option (Option Arming)) → DueFrom set h xs a b → DueFrom set (after_deeds set h xs) ys b c → DueFrom set h (xs ++ ys) a c
  due_then h xs ys None b c first second = subst (λ (o : Option (Option Arming)). DueFrom set (after_deeds set h xs) ys o c) first second
  due_then h xs ys (Some a) b c first second =
      let two : DueFrom set (after_deeds set h xs) ys (Some first.0) c = subst (λ (o : Option (Option Arming)). DueFrom set (after_deeds set h xs) ys o c) first.1 second in
      (two.0, two.1, due_along-then h xs ys a first.0 two.0 first.2 two.2)

  after_then : (h : Flat) (xs ys : List Deed) → after_deeds set h (xs ++ ys) ≡ after_deeds set (after_deeds set h xs) ys
  after_then h xs ys = ap (run_from set h) (acts_in-append xs ys) ∙ run_from-append set h (acts_in xs) (acts_in ys)

  -- one history after another
  holds_both : (h : Flat) (xs ys : List Deed) (b e d : List ℕ) → NonePendingOff h.shared → HoldsFrom layout set h (These b) (acts_in xs) e → HoldsFrom layout set (after_deeds set h xs) (These e) (acts_in ys) d → HoldsFrom layout set h (These b) (acts_in (xs ++ ys)) d
  holds_both h xs ys b e d sound first second = subst (λ (acts : List Act). HoldsFrom layout set h (These b) acts d) (sym (acts_in-append xs ys)) (holds_then layout set h (These b) (acts_in xs) (acts_in ys) e d sound tt first second)

  pub runs_then : (h : Flat) (xs ys : List Deed) (s t u : DiskState) → RunOnDisk layout set h xs s t → RunOnDisk layout set (after_deeds set h xs) ys t u → RunOnDisk layout set h (xs ++ ys) s u
  runs_then h xs ys s t u first second = record {
    fits = fits_then h xs ys first.fits second.fits;
    faults = rose_then (failed_words xs) (failed_words ys) (failed_words (xs ++ ys)) s.faults t.faults u.faults (failed_words-append xs ys) first.faults second.faults;
    cuts = rose_then (cut_words xs) (cut_words ys) (cut_words (xs ++ ys)) s.cuts t.cuts u.cuts (cut_words-append xs ys) first.cuts second.cuts;
    off = second.off ∙ ap (off_along set (after_deeds set h xs) ys) first.off ∙ sym (off_then h xs ys s.off);
    on = λ start ready. second.on (first.on start) (subst (λ (f : Flat). is_off f.shared.device ≡ false) (after_then h xs ys) ready);
    tells = second.tells ∙ first.tells;
    due = due_then h xs ys s.armed t.armed u.armed first.due second.due;
    none_pending = λ sound. subst (λ (f : Flat). NonePendingOff f.shared) (sym (after_then h xs ys)) (second.none_pending (first.none_pending sound));
    moved = λ sound. both_told t.content u.content ((c : List ℕ) → t.image c → ComesFrom layout set h xs s c) ((d : List ℕ) → u.image d → ComesFrom layout set (after_deeds set h xs) ys t d) ((d : List ℕ) → u.image d → ComesFrom layout set h (xs ++ ys) s d) second.tells
        (λ one two d left.
        let late = two d left in
        let early = one late.0 late.1 in
        (early.0, early.1, holds_both h xs ys early.0 late.0 d sound early.2 late.2))
        (first.moved sound) (second.moved (first.none_pending sound));
    begun = λ sound loads. ⊎_elim
        (λ in_first. both_told u.content s.content ((d : List ℕ) → u.image d → ComesFrom layout set (after_deeds set h xs) ys t d) (ComeFromOne layout set h xs s t) (ComeFromOne layout set h (xs ++ ys) s u) (sym (second.tells ∙ first.tells))
        (λ two one. record { first = one.first; was = one.was; holds = λ d left. let late = two d left in holds_both h xs ys one.first late.0 d sound (one.holds late.0 late.1) late.2 })
        (second.moved (first.none_pending sound)) (first.begun sound in_first))
        (λ in_second. told_to t.content s.content (ComeFromOne layout set h (xs ++ ys) s u) (sym first.tells)
        (both_told t.content t.content ((c : List ℕ) → t.image c → ComesFrom layout set h xs s c) (ComeFromOne layout set (after_deeds set h xs) ys t u) (ComeFromOne layout set h (xs ++ ys) s u) refl
        (λ one two. let early = one two.first two.was in record { first = early.0; was = early.1; holds = λ d left. holds_both h xs ys early.0 two.first d sound early.2 (two.holds d left) })
        (first.moved sound) (second.begun (first.none_pending sound) in_second)))
        (or_cases (loads_rows xs) (loads_rows ys) (sym (loads_rows-append xs ys) ∙ loads));
    shows = λ shows. subst (λ (f : Flat). EachImage u (ShowsKeys layout f.shared)) (sym (after_then h xs ys)) (second.shows (first.shows shows));
    calm = λ shows. both_told t.content s.content (CalmFrom set (after_deeds set h xs) ys) (CalmFrom set h xs) (CalmFrom set h (xs ++ ys)) (sym first.tells) (λ two one. calm_then h xs ys one two) (second.calm (first.shows shows)) (first.calm shows);
  }

  -- nothing was done
  due_none : (h : Flat) (a : Option (Option Arming)) → DueFrom set h [] a a
  due_none h None = refl
  due_none h (Some a) = (a, refl, refl)

  pub runs_none : (h : Flat) (s : DiskState) → RunOnDisk layout set h [] s s
  runs_none h s = record {
    fits = tt;
    faults = omega arith;
    cuts = omega arith;
    off = refl;
    on = λ start ready. start ready;
    tells = refl;
    due = due_none h s.armed;
    none_pending = λ sound. sound;
    moved = λ sound. told_always s.content _ (λ d left. (d, left, refl));
    begun = λ sound loads. absurd (let no : false ≡ true = loads in cc);
    shows = λ shows. shows;
    calm = λ shows. told_always s.content (Unit {0}) tt;
  }

  -- a call was armed
  due_arm : (h : Flat) (call : ℕ) (strike : Strike) (a b : Option (Option Arming)) → IfSome a (λ _. b ≡ Some (Some (call, strike))) → (a ≡ None → b ≡ None) → DueFrom set h (Arms call strike ∷ []) a b
  due_arm h call strike None b told untold = untold refl
  due_arm h call strike (Some a) b told untold = (Some (call, strike), told, refl)

  pub runs_arm : (h : Flat) (call : ℕ) (strike : Strike) (s t : DiskState) → ArmsDisk call strike s t → RunOnDisk layout set h (Arms call strike ∷ []) s t
  runs_arm h call strike s t arms = record {
    fits = tt;
    faults = omega (arith, arms.counts.faults);
    cuts = omega (arith, arms.counts.cuts);
    off = arms.off;
    on = λ start ready. arms.off ∙ start ready;
    tells = ap (λ (o : Option (List ℕ)). is_some o) arms.content;
    due = due_arm h call strike s.armed t.armed arms.armed arms.armed_untold;
    none_pending = λ sound. sound;
    moved = λ sound. told_always t.content _ (λ d left. (d, arms.image d left, refl));
    begun = λ sound loads. absurd (let no : false ≡ true = loads in cc);
    shows = λ shows. both_told s.content t.content ((c : List ℕ) → s.image c → ShowsKeys layout h.shared c) (Unit {0}) ((c : List ℕ) → t.image c → ShowsKeys layout h.shared c) (ap (λ (o : Option (List ℕ)). is_some o) arms.content)
        (λ each _ d left. each d (arms.image d left)) shows (told_always t.content (Unit {0}) tt);
    calm = λ shows. told_always s.content (Unit {0}) tt;
  }

  -- a step was taken
  one_word : (b : Bool) (s t : ℕ) → s ≤ t → (b ≡ true → Rose s t) → RoseBy ((if b then 1 else 0) + 0) s t
  one_word true s t later rose = omega (arith, rose refl)
  one_word false s t later rose = omega (arith, later)

  due_step : (h : Flat) (a : Act) (old new : Option (Option Arming)) → DueTold (plan set h.shared a.step) old a.word new → DueFrom set h (Takes a ∷ []) old new
  due_step h a None new due = due
  due_step h a (Some old) new due = (due.0, due.1, (due.0, due.2, refl))

  loaded_all : (calls : Plan) (w : DiskWord) (from bytes other : List ℕ) → Moved layout calls w from bytes → other ≡ bytes → Moved layout calls w from other
  loaded_all calls w from bytes other moved same = subst (λ (x : List ℕ). Moved layout calls w from x) (sym same) moved

  or_false : (b : Bool) → (b || false) ≡ true → b ≡ true
  or_false true e = refl
  or_false false e = e

  module _ (apart : TellsApart layout) where
    pub runs_step : (h : Flat) (a : Act) (s t : DiskState) → IsDiskState t → StepOnDisk layout set h.shared (next set h a.step a.word).state.shared a.step a.word s t → RunOnDisk layout set h (Takes a ∷ []) s t
    runs_step h a s t laws on = record {
      fits = (on.fits, tt);
      faults = one_word (is_failed a.word) s.faults t.faults on.faults on.failed;
      cuts = one_word (is_cut a.word) s.cuts t.cuts on.cuts on.cut;
      off = on.off;
      on = λ start ready. on.on ready;
      tells = on.tells;
      due = due_step h a s.armed t.armed on.due;
      none_pending = sound_next set h a.step a.word;
      moved = λ sound. on.moved;
      begun = λ sound loads. told_to t.content s.content (ComeFromOne layout set h (Takes a ∷ []) s t) (sym on.tells)
          (with_told t.content t.content (λ c. t.image c × IsOnlyImage c t) ((c : List ℕ) → t.image c → ComesFrom layout set h (Takes a ∷ []) s c) (ComeFromOne layout set h (Takes a ∷ []) s t) refl
          (λ c read each.
          let from = each c read.0 in
          record { first = from.0; was = from.1; holds = λ d left. loaded_all (plan set h.shared a.step) a.word from.0 c d from.2 (read.1 d left) })
          (told_both t.content (λ c. t.image c) (λ c. IsOnlyImage c t) laws.told (on.stable (or_false (is_loaded a.word) loads))) on.moved);
      shows = on.shows;
      calm = λ shows. both_told s.content s.content (IsCalm h.shared a.word) (IsCalm h.shared a.word) (CalmFrom set h (Takes a ∷ [])) refl (λ one _. (one, tt)) (calm_step layout apart h.shared (next set h a.step a.word).state.shared (switched h.shared a.step) (plan set h.shared a.step) a.word s t on laws shows) (calm_step layout apart h.shared (next set h a.step a.word).state.shared (switched h.shared a.step) (plan set h.shared a.step) a.word s t on laws shows);
    }
