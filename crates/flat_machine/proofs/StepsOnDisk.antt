-- Device work as a step on the disk: after it the table is kept, and tied to its disk, again.
use Rattle.disk_core.specs.DiskStates.{Arming, DiskState, EachImage, IsDiskState, IsOnlyImage}
use Rattle.disk_core.specs.Disks.{StartsDisk, StopsDisk}
use Rattle.disk_core.specs.declared.disk.DiskError.TheVariants as fault
use Rattle.disk_core.specs.declared.disk.DiskError.{DiskError}
use Rattle.flat_machine.proofs.LoadingWork.{loading_work, started_work}
use Rattle.flat_machine.proofs.QuietWorks.{due_quiet, on_before, shows_kept, store_kept}
use Rattle.flat_machine.proofs.ReplacingWork.{changes_work, done_not_cut}
use Rattle.flat_machine.proofs.ToldBytes.{both_told, each_where, told_always, with_told}
use Rattle.flat_machine.proofs.TornBytes.{Range}
use Rattle.flat_machine.specs.DiskFacts.{IsKeptStore, KeepsDevice, KeepsStore, ReplacesSlots, starts, stays, stops}
use Rattle.flat_machine.specs.DiskSteps.{DeviceWork, DueTold, Moved, OnDisk, ReadBy, ShowsDoubt, ShowsKeys, done_word, is_cut, load_word, word_of}
use Rattle.flat_machine.specs.FinishSteps.{deletes, imports, inits, performs, resets}
use Rattle.flat_machine.specs.KeyLayout.{key_layout}
use Rattle.flat_machine.specs.Machine.{next_off}
use Rattle.flat_machine.specs.Power.{Loading, Nothing, Plan, Replacing, loads, powers_off, replaces}
use Rattle.flat_machine.specs.Settings.{Setting}
use Rattle.flat_machine.specs.State.{Said, Shared, is_off, is_ready, unchanged}
use Rattle.flat_machine.specs.declared.types.Device.{Device}
use Rattle.flat_machine.specs.declared.types.Device.TheVariants.{Bad, Off, Ready, Stopped}
use Rattle.flat_machine.specs.declared.types.Owner.{Owner}
use Rattle.flat_machine.specs.declared.types.Work.TheVariants as work
use Rattle.flat_machine.specs.declared.types.Work.{Work}
use Rattle.key_table.specs.Changes.{Change, change_to, changed, erasure, erasures}
use Rattle.key_table.specs.KeyRows.{KeyRows}
use Rattle.key_table.specs.KeyStores.{KeyStore, LoadsStore, MakesChanges, ShowsInDoubt}
use Rattle.key_table.specs.StoredRows.{rows_of}
use Rattle.key_table.specs.declared.LoadFault.TheVariants as load
use Rattle.key_table.specs.declared.LoadFault.{LoadFault}
use Rattle.nv_store.specs.Stores.{IsInStep}
use Rattle.pad_steps.specs.declared.steps.DiskWord.TheVariants as word
use Rattle.pad_steps.specs.declared.steps.DiskWord.{DiskWord}
use Rattle.std.proofs.Common.{ap, arith, subst, sym, ◌∙◌}
use Rattle.std.proofs.lemmas.List.{take_all}
use Rattle.std.specs.Prelude.{Bool, Err, IfSome, IsSome, List, None, Ok, Option, Result, Some, [], cond, false, if◌then◌else◌, is_some, length, refl, slice_get, take, true, ℕ, ◌∷◌, ◌≡◌}

on_if : (b : Bool) → (if b then true else false) ≡ b
on_if true = refl
on_if false = refl

-- device work is what the step does to the disk
work_on_disk : (before after : Shared) (switch : Bool → Bool) (calls : Plan) (w : DiskWord) (s t : DiskState) → DeviceWork key_layout calls w s t → switch s.off ≡ false → (is_off after.device ≡ false → is_cut w ≡ false) → (EachImage s (ShowsKeys key_layout before) → EachImage t (ShowsKeys key_layout after))
    → OnDisk key_layout before after switch calls w s t
work_on_disk before after switch calls w s t work runs power shows = record {
  fits = work.fits;
  faults = work.faults;
  cuts = work.cuts;
  failed = work.failed;
  cut = work.cut;
  last = work.last;
  off = work.off ∙ sym (on_if (is_cut w)) ∙ sym (ap (λ (was : Bool). if is_cut w then true else was) runs);
  on = λ ready. work.off ∙ power ready;
  tells = work.tells;
  due = work.due;
  moved = work.moved;
  read = work.read;
  stable = work.stable;
  shows = shows;
}

-- what each image shows, from what the image shows that it came from
each_shows : (before after : Shared) (s t : DiskState) (Q : List ℕ → List ℕ → Type 0) → is_some t.content ≡ is_some s.content → EachImage t (λ d. (from : List ℕ) × s.image from × Q from d)
    → ((from d : List ℕ) → ShowsKeys key_layout before from → Q from d → ShowsKeys key_layout after d) → EachImage s (ShowsKeys key_layout before) → EachImage t (ShowsKeys key_layout after)
each_shows before after s t Q tells moved f shows = both_told s.content t.content ((d : List ℕ) → s.image d → ShowsKeys key_layout before d) ((d : List ℕ) → t.image d → (from : List ℕ) × s.image from × Q from d) ((d : List ℕ) → t.image d → ShowsKeys key_layout after d) tells
    (λ old new d left. let from = new d left in f from.0 d (old from.0 from.1) from.2) shows moved

-- a device that is not ready keeps a table whose store is not settled
not_ready : (shared : Shared) (store : KeyStore) (disk : DiskState) → is_ready shared.device ≡ false → store.rows ≡ shared.keys → IfSome store.bytes (λ bytes. rows_of bytes ≡ Some shared.keys) → (is_off shared.device ≡ false → disk.off ≡ false) → IsKeptStore shared store disk
not_ready shared store disk idle keys shows on = record {
  keys = keys;
  ready = record { loaded = λ e. absurd (never e); doubtless = λ e. absurd (never e); settled = λ e. absurd (never e); shows = shows };
  tied = record { on = on; in_step = λ e. absurd (never e) };
}
  where
    never : is_ready shared.device ≡ true → ⊥
    never e = let none : false ≡ true = sym idle ∙ e in cc

none_shown : (stored : Option (List ℕ)) (P : List ℕ → Type 0) → stored ≡ None → IfSome stored P
none_shown stored P e = subst (λ (o : Option (List ℕ)). IfSome o P) (sym e) tt

some_in_step : (disk : DiskState) (stored : Option (List ℕ)) → IsInStep disk stored → IsSome stored
some_in_step disk None in_step = absurd in_step
some_in_step disk (Some b) in_step = refl

-- all images show the rows that the store's bytes show
stable_shows : (after : Shared) (disk : DiskState) (stored : Option (List ℕ)) → after.doubt ≡ None → IsInStep disk stored → IfSome stored (λ bytes. rows_of bytes ≡ Some after.keys) → EachImage disk (ShowsKeys key_layout after)
stable_shows after disk None sure in_step shows = absurd in_step
stable_shows after disk (Some b) sure in_step shows = with_told disk.content disk.content (λ c. (c ≡ b) × IsOnlyImage b disk) (Unit {0}) ((d : List ℕ) → disk.image d → ShowsKeys key_layout after d) refl
    (λ c at _ d left. λ loaded. subst (λ (o : Option Change). ShowsDoubt key_layout o after.keys d) (sym sure) (ap rows_of (at.1 d left) ∙ shows)) in_step (told_always disk.content (Unit {0}) tt)

-- what a step leaves, where it leaves no more than another one of rows and device
keeps_then : (before x after : Shared) (switch : Bool → Bool) (calls : Plan) (w : DiskWord) (new : KeyStore) (s t : DiskState) → KeepsDevice x after → KeepsStore before x switch calls w new s t → KeepsStore before after switch calls w new s t
keeps_then before x after switch calls w new s t keeps first = record {
  on_disk = record {
    fits = first.on_disk.fits;
    faults = first.on_disk.faults;
    cuts = first.on_disk.cuts;
    failed = first.on_disk.failed;
    cut = first.on_disk.cut;
    last = first.on_disk.last;
    off = first.on_disk.off;
    on = λ on. first.on_disk.on (on_before x after keeps on);
    tells = first.on_disk.tells;
    due = first.on_disk.due;
    moved = first.on_disk.moved;
    read = first.on_disk.read;
    stable = first.on_disk.stable;
    shows = λ shows. each_where t.content (ShowsKeys key_layout x) (ShowsKeys key_layout after) t.image (shows_kept x after keeps) (first.on_disk.shows shows);
  };
  kept = store_kept x after keeps new t first.kept;
}

-- a loading, by RESET or by Boot

load_keeps : {T : Type 0} → (switch : Bool → Bool) (p : Shared) (result : Result T LoadFault) (old new : KeyStore) (s m t : DiskState) → old.rows ≡ p.keys → switch s.off ≡ false → LoadsStore result old new m t → DeviceWork key_layout Loading (load_word result new.rows) s t
    → KeepsStore p (loads p (load_word result new.rows)).shared switch Loading (load_word result new.rows) new s t
load_keeps switch p (Ok x) old new s m t keys runs read work = record {
  on_disk = work_on_disk p (loads p (word.Loaded new.rows)).shared switch Loading (word.Loaded new.rows) s t work runs (λ on. refl) (λ shows. stable_shows (loads p (word.Loaded new.rows)).shared t new.bytes refl read.in_step read.shows);
  kept = record {
    keys = refl;
    ready = record { loaded = λ ready. refl; doubtless = λ ready. refl; settled = λ ready. some_in_step t new.bytes read.in_step; shows = read.shows };
    tied = record { on = λ on. work.off; in_step = λ ready. read.in_step };
  };
}
load_keeps switch p (Err (load.Disk fault.Failed)) old new s m t keys runs read work = record {
  on_disk = work_on_disk p (loads p (word.Failed 0)).shared switch Loading (word.Failed 0) s t work runs (λ on. refl)
      (each_shows p (loads p (word.Failed 0)).shared s t (λ from d. d ≡ from) work.tells work.moved (λ from d shows moved. subst (λ (x : List ℕ). ShowsKeys key_layout p x) (sym moved) shows));
  kept = not_ready (loads p (word.Failed 0)).shared new t refl (read.kept ∙ keys) (none_shown new.bytes _ read.unsettled) (λ on. work.off);
}
load_keeps switch p (Err (load.Disk fault.Off)) old new s m t keys runs read work = record {
  on_disk = work_on_disk p (loads p (word.Cut 0)).shared switch Loading (word.Cut 0) s t work runs (λ on. absurd (let none : true ≡ false = on in cc))
      (each_shows p (loads p (word.Cut 0)).shared s t (λ from d. d ≡ from) work.tells work.moved (λ from d shows moved. subst (λ (x : List ℕ). ShowsKeys key_layout p x) (sym moved) shows));
  kept = not_ready (loads p (word.Cut 0)).shared new t refl (read.kept ∙ keys) (none_shown new.bytes _ read.unsettled) (λ on. absurd (let none : true ≡ false = on in cc));
}
load_keeps switch p (Err (load.BadStore slot)) old new s m t keys runs read work = record {
  on_disk = work_on_disk p (loads p (word.Bad slot)).shared switch Loading (word.Bad slot) s t work runs (λ on. refl)
      (each_shows p (loads p (word.Bad slot)).shared s t (λ from d. d ≡ from) work.tells work.moved (λ from d shows moved. subst (λ (x : List ℕ). ShowsKeys key_layout p x) (sym moved) shows));
  kept = not_ready (loads p (word.Bad slot)).shared new t refl (read.kept ∙ keys) (none_shown new.bytes _ read.unsettled) (λ on. work.off);
}

reset_loads : (p : Shared) (a : Owner) (w : DiskWord) → KeepsDevice (loads p w).shared (resets a w p).shared
reset_loads p a word.Quiet = record { keys = refl; doubt = refl; loaded = refl; device = refl }
reset_loads p a word.Done = record { keys = refl; doubt = refl; loaded = refl; device = refl }
reset_loads p a (word.Failed n) = record { keys = refl; doubt = refl; loaded = refl; device = refl }
reset_loads p a (word.Cut n) = record { keys = refl; doubt = refl; loaded = refl; device = refl }
reset_loads p a (word.Loaded rows) = record { keys = refl; doubt = refl; loaded = refl; device = refl }
reset_loads p a (word.Bad slot) = record { keys = refl; doubt = refl; loaded = refl; device = refl }

pub reset_keeps : {T : Type 0} → (set : Setting) (p : Shared) (held : List ℕ) (a : Owner) (result : Result T LoadFault) (old new : KeyStore) (s t : DiskState) → is_off p.device ≡ false → IsKeptStore p old s → LoadsStore result old new s t
    → KeepsStore p (performs set p held a work.Load (load_word result new.rows)).shared stays Loading (load_word result new.rows) new s t
reset_keeps set p held a result old new s t on kept loaded =
    let w = load_word result new.rows in
    keeps_then p (loads p w).shared (resets a w p).shared stays Loading w new s t (reset_loads p a w)
    (load_keeps stays p result old new s s t kept.keys (kept.tied.on on) loaded (loading_work result old new s t (kept.tied.on on) loaded))

pub boot_keeps : {T : Type 0} → (p : Shared) (result : Result T LoadFault) (old new : KeyStore) (s m t : DiskState) → IsKeptStore p old s → StartsDisk s m → LoadsStore result old new m t
    → KeepsStore p (loads p (load_word result new.rows)).shared starts Loading (load_word result new.rows) new s t
boot_keeps p result old new s m t kept started loaded =
    load_keeps starts p result old new s m t kept.keys refl loaded (started_work Loading (load_word result new.rows) s m t started (loading_work result old new m t started.off loaded))

-- Off

off_next : (b : Bool) (p : Shared) → b ≡ false → KeepsDevice (record p { device = Off }) (cond b (unchanged p) (powers_off p)).shared
off_next true p e = cc
off_next false p e = record { keys = refl; doubt = refl; loaded = refl; device = refl }

pub off_keeps : (p : Shared) (store : KeyStore) (s t : DiskState) → is_off p.device ≡ false → IsDiskState s → IsKeptStore p store s → StopsDisk s t → KeepsStore p (next_off p).shared stops Nothing word.Quiet store s t
off_keeps p store s t on laws kept stopped = keeps_then p (record p { device = Off }) (next_off p).shared stops Nothing word.Quiet store s t (off_next (is_off p.device) p on) (record {
  on_disk = record {
    fits = refl;
    faults = omega (arith, stopped.counts.faults);
    cuts = omega (arith, stopped.counts.cuts);
    failed = λ e. absurd (let none : false ≡ true = e in cc);
    last = λ e. absurd (let none : false ≡ true = e in cc);
    cut = λ e. absurd (let none : false ≡ true = e in cc);
    off = stopped.off;
    on = λ ready. absurd (let none : true ≡ false = ready in cc);
    tells = stopped.tells;
    due = subst (λ (x : Option (Option Arming)). DueTold Nothing s.armed word.Quiet x) (sym stopped.armed) (due_quiet s.armed laws.armed);
    moved = told_always t.content ((d : List ℕ) → t.image d → (from : List ℕ) × s.image from × Moved key_layout Nothing word.Quiet from d) (λ d left. (d, stopped.image d left, refl));
    read = told_always t.content ((d : List ℕ) → t.image d → ReadBy key_layout word.Quiet d) (λ d left. tt);
    stable = λ e. absurd (let none : false ≡ true = e in cc);
    shows = each_shows p (record p { device = Off }) s t (λ from d. d ≡ from) stopped.tells (told_always t.content ((d : List ℕ) → t.image d → (from : List ℕ) × s.image from × (d ≡ from)) (λ d left. (d, stopped.image d left, refl)))
        (λ from d shows same. subst (λ (x : List ℕ). ShowsKeys key_layout p x) (sym same) shows);
  };
  kept = not_ready (record p { device = Off }) store t refl kept.keys kept.ready.shows (λ ready. absurd (let none : true ≡ false = ready in cc));
})

-- replacements

shows_doubt : (o : Option Change) (rows keys : KeyRows) (d : List ℕ) → rows ≡ keys → ShowsInDoubt o rows d → ShowsDoubt key_layout o keys d
shows_doubt None rows keys d is shows = shows ∙ ap (λ (l : KeyRows). Some l) is
shows_doubt (Some c) rows keys d is shows = subst (λ (l : KeyRows). ShowsDoubt key_layout (Some c) l d) is shows

all_taken : (todo : List Change) (count : ℕ) → count ≡ length todo → take count todo ≡ todo
all_taken todo count is = take_all count todo (omega (arith, is))

module _ (p : Shared) (todo : List Change) (count : ℕ) (old new : KeyStore) (s t : DiskState) (ready : is_ready p.device ≡ true) (on : s.off ≡ false) (kept : IsKeptStore p old s) where
  -- the rows and the doubt after a fault or a cut
  abbrev in_doubt : Device → Shared
  in_doubt device = record p { device = device; keys = changed (take count todo) p.keys; doubt = slice_get todo count }

  new_keys : (f : Option DiskError) → MakesChanges todo count f old new s t → new.rows ≡ changed (take count todo) p.keys
  new_keys f made = made.rows ∙ ap (changed (take count todo)) kept.keys

  doubt_shows : (device : Device) (f : Option DiskError) → MakesChanges todo count f old new s t → is_some f ≡ true → EachImage t (ShowsKeys key_layout (in_doubt device))
  doubt_shows device f made struck = each_where t.content (ShowsInDoubt (slice_get todo count) new.rows) (ShowsKeys key_layout (in_doubt device)) t.image
      (λ d shows loaded. shows_doubt (slice_get todo count) new.rows (changed (take count todo) p.keys) d (new_keys f made) shows) (made.shows struck)

  failed_keeps : MakesChanges todo count (Some fault.Failed) old new s t → DeviceWork key_layout (Replacing todo) (word.Failed count) s t → KeepsStore p (in_doubt Stopped) stays (Replacing todo) (word.Failed count) new s t
  failed_keeps made work = record {
    on_disk = work_on_disk p (in_doubt Stopped) stays (Replacing todo) (word.Failed count) s t work on (λ e. refl) (λ shows. doubt_shows Stopped (Some fault.Failed) made refl);
    kept = not_ready (in_doubt Stopped) new t refl (new_keys (Some fault.Failed) made) (none_shown new.bytes _ (made.unsettled refl)) (λ e. work.off);
  }

  cut_keeps : MakesChanges todo count (Some fault.Off) old new s t → DeviceWork key_layout (Replacing todo) (word.Cut count) s t → KeepsStore p (in_doubt Off) stays (Replacing todo) (word.Cut count) new s t
  cut_keeps made work = record {
    on_disk = work_on_disk p (in_doubt Off) stays (Replacing todo) (word.Cut count) s t work on (λ e. absurd (let none : true ≡ false = e in cc)) (λ shows. doubt_shows Off (Some fault.Off) made refl);
    kept = not_ready (in_doubt Off) new t refl (new_keys (Some fault.Off) made) (none_shown new.bytes _ (made.unsettled refl)) (λ e. absurd (let none : true ≡ false = e in cc));
  }

  done_keeps : MakesChanges todo count None old new s t → IfSome new.bytes (λ bytes. rows_of bytes ≡ Some new.rows) → DeviceWork key_layout (Replacing todo) (done_word todo) s t
      → KeepsStore p (record p { keys = changed todo p.keys }) stays (Replacing todo) (done_word todo) new s t
  done_keeps made shown work =
      let keys : new.rows ≡ changed todo p.keys = new_keys None made ∙ ap (λ (l : List Change). changed l p.keys) (all_taken todo count made.ends) in
      let shows : IfSome new.bytes (λ bytes. rows_of bytes ≡ Some (changed todo p.keys)) = subst (λ (l : KeyRows). IfSome new.bytes (λ bytes. rows_of bytes ≡ Some l)) keys shown in
      record {
        on_disk = work_on_disk p (record p { keys = changed todo p.keys }) stays (Replacing todo) (done_word todo) s t work on (λ e. done_not_cut todo) (λ _. stable_shows (record p { keys = changed todo p.keys }) t new.bytes (kept.ready.doubtless ready) (made.in_step refl) shows);
        kept = record {
          keys = keys;
          ready = record { loaded = kept.ready.loaded; doubtless = kept.ready.doubtless; settled = λ e. some_in_step t new.bytes (made.in_step refl); shows = shows };
          tied = record { on = λ e. work.off ∙ done_not_cut todo; in_step = λ e. made.in_step refl };
        };
      }

  done_next : (a : Owner) (done_by : Shared → Said) (changes : List Change) → ((q : Shared) → KeepsDevice q (done_by q).shared) → KeepsDevice (record p { keys = changed changes p.keys }) (replaces p a changes done_by (done_word changes)).shared
  done_next a done_by [] keeps = keeps (record p { keys = p.keys })
  done_next a done_by (c ∷ changes) keeps = keeps (record p { keys = changed (c ∷ changes) p.keys })

  replaced_by : (a : Owner) (done_by : Shared → Said) → ((q : Shared) → KeepsDevice q (done_by q).shared) → (f : Option DiskError) → MakesChanges todo count f old new s t → (f ≡ None → IfSome new.bytes (λ bytes. rows_of bytes ≡ Some new.rows))
      → DeviceWork key_layout (Replacing todo) (word_of count (done_word todo) f) s t → KeepsStore p (replaces p a todo done_by (word_of count (done_word todo) f)).shared stays (Replacing todo) (word_of count (done_word todo) f) new s t
  replaced_by a done_by keeps None made shown work = keeps_then p (record p { keys = changed todo p.keys }) _ stays (Replacing todo) (done_word todo) new s t (done_next a done_by todo keeps) (done_keeps made (shown refl) work)
  replaced_by a done_by keeps (Some fault.Failed) made shown work = keeps_then p (in_doubt Stopped) _ stays (Replacing todo) (word.Failed count) new s t (record { keys = refl; doubt = refl; loaded = refl; device = refl }) (failed_keeps made work)
  replaced_by a done_by keeps (Some fault.Off) made shown work = keeps_then p (in_doubt Off) _ stays (Replacing todo) (word.Cut count) new s t (record { keys = refl; doubt = refl; loaded = refl; device = refl }) (cut_keeps made work)

module _ (range : Range) (set : Setting) (p : Shared) (held : List ℕ) (a : Owner) (todo : List Change) (count : ℕ) (o : Option DiskError) (old new : KeyStore) (s t : DiskState) (laws_s : IsDiskState s) (laws_t : IsDiskState t) where
  abbrev told_word : DiskWord
  told_word = word_of count (done_word todo) o

  on_while_ready : (device : Device) → is_ready device ≡ true → is_off device ≡ false
  on_while_ready Off e = cc
  on_while_ready Ready e = refl
  on_while_ready Stopped e = refl
  on_while_ready (Bad slot) e = refl

  by_plan : (changes : List Change) (done_by : Shared → Said) → ((q : Shared) → KeepsDevice q (done_by q).shared) → Replacing changes ≡ Replacing todo → is_ready p.device ≡ true → IsKeptStore p old s → MakesChanges todo count o old new s t
      → (o ≡ None → IfSome new.bytes (λ bytes. rows_of bytes ≡ Some new.rows)) → KeepsStore p (replaces p a changes done_by told_word).shared stays (Replacing todo) told_word new s t
  by_plan changes done_by keeps planned ready kept made shown =
      let same : changes ≡ todo = cc in
      let on : s.off ≡ false = kept.tied.on (on_while_ready p.device ready) in
      subst (λ (l : List Change). KeepsStore p (replaces p a l done_by told_word).shared stays (Replacing todo) told_word new s t) (sym same)
      (replaced_by p todo count old new s t ready on kept a done_by keeps o made shown (changes_work range todo count o old new s t laws_s laws_t on made (kept.tied.in_step ready)))

  pub replaced_keeps : (v : Work) → ReplacesSlots p v todo count o old new s t → KeepsStore p (performs set p held a v told_word).shared stays (Replacing todo) told_word new s t
  replaced_keeps work.Waits r = absurd (let e : Nothing ≡ Replacing todo = r.planned in cc)
  replaced_keeps (work.Refuse why accused) r = absurd (let e : Nothing ≡ Replacing todo = r.planned in cc)
  replaced_keeps (work.Answer x) r = absurd (let e : Nothing ≡ Replacing todo = r.planned in cc)
  replaced_keeps (work.Maintain on) r = absurd (let e : Nothing ≡ Replacing todo = r.planned in cc)
  replaced_keeps (work.Keep slot row check from_part) r = by_plan (change_to (slot, row) ∷ []) (imports a check from_part) (λ q. record { keys = refl; doubt = refl; loaded = refl; device = refl }) r.planned r.ready r.kept r.made r.settled
  replaced_keeps (work.Erase slot) r = by_plan (erasure slot ∷ []) (deletes a) (λ q. record { keys = refl; doubt = refl; loaded = refl; device = refl }) r.planned r.ready r.kept r.made r.settled
  replaced_keeps work.EraseAll r = by_plan (erasures p.keys) (inits a) (λ q. record { keys = refl; doubt = refl; loaded = refl; device = refl }) r.planned r.ready r.kept r.made r.settled
  replaced_keeps (work.Release wanted first second draws) r = absurd (let e : Nothing ≡ Replacing todo = r.planned in cc)
  replaced_keeps work.Load r = absurd (let e : Loading ≡ Replacing todo = r.planned in cc)
