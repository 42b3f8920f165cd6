-- What a method of the pad did to the disk, from what the machine's laws say of its work.
use Rattle.disk_core.specs.DiskStates.{DiskState}
use Rattle.disk_core.specs.declared.disk.DiskError.TheVariants as fault
use Rattle.disk_core.specs.declared.disk.DiskError.{DiskError}
use Rattle.flat_machine.specs.Commands.{work_of}
use Rattle.flat_machine.specs.DiskFacts.{IsKeptStore, KeepsDevice, KeepsStore, ReplacesSlots, stays}
use Rattle.flat_machine.specs.DiskSteps.{done_word, is_replacing, word_of}
use Rattle.flat_machine.specs.FinishSteps.{performs, plan_of}
use Rattle.flat_machine.specs.Kept.{Kept, kept_next, kept_press_in, kept_said}
use Rattle.flat_machine.specs.Power.{Nothing, Plan, Replacing, word_fate}
use Rattle.flat_machine.specs.Settings.{Setting}
use Rattle.flat_machine.specs.State.{Running, Shared, is_off, is_ready, running_entry}
use Rattle.flat_machine.specs.declared.types.Owner.{Owner}
use Rattle.flat_machine.specs.declared.types.Work.{Work}
use Rattle.key_table.specs.Changes.{Change}
use Rattle.key_table.specs.KeyStores.{KeyStore}
use Rattle.pad_machine.specs.Does.{Becomes}
use Rattle.pad_machine.specs.Prepares.{calls_of, is_plain, said_of, switch_of}
use Rattle.pad_machine.specs.Replacing.{MadeChanges}
use Rattle.pad_machine.specs.Stands.{Whole, kept_by, running_of, shared_of}
use Rattle.pad_machine.specs.declared.prepared.Prepared.TheVariants as prepared
use Rattle.pad_machine.specs.declared.prepared.Prepared.{Prepared}
use Rattle.pad_machine.specs.declared.running_entry.RunningEntry.{RunningEntry}
use Rattle.pad_steps.specs.Lines.{OutList}
use Rattle.pad_steps.specs.declared.commands.Command.{Command}
use Rattle.pad_steps.specs.declared.steps.DiskWord.TheVariants.{Quiet}
use Rattle.pad_steps.specs.declared.steps.DiskWord.{DiskWord}
use Rattle.pad_steps.specs.declared.steps.Step.TheVariants as steps
use Rattle.key_source.specs.declared.Key.{Key}
use Rattle.std.proofs.Common.{ap, subst, sym, ◌∙◌}
use Rattle.std.specs.Prelude.{List, None, Option, Some, [], false, refl, true, ℕ, ◌∷◌, ◌≡◌}

-- the device is ready where the work that a command came to replaces slots
pub ready_for : (set : Setting) (shared : Shared) (count : ℕ) (command : Command) (w : Work) → ((set : Setting) (shared : Shared) (count : ℕ) (command : Command) → is_off shared.device ≡ false → is_replacing (plan_of shared (work_of set shared count command)) ≡ true → is_ready shared.device ≡ true)
    → w ≡ work_of set shared count command → is_off shared.device ≡ false → is_replacing (plan_of shared w) ≡ true → is_ready shared.device ≡ true
ready_for set shared count command w law is on replaces = law set shared count command on (sym (ap (λ (v : Work). is_replacing (plan_of shared v)) is) ∙ replaces)

-- a Finish that replaced slots
pub replaced_keeps : (set : Setting) (old new : Whole) (before after : OutList) (owner : Owner) (w : Work) (todo : List Change) (word : DiskWord) (s t : DiskState)
    → ((count : ℕ) (fault : Option DiskError) → ReplacesSlots (shared_of old.common) w todo count fault old.common.store new.common.store s t
    → KeepsStore (shared_of old.common) (performs set (shared_of old.common) old.held owner w (word_of count (done_word todo) fault)).shared stays (Replacing todo) (word_of count (done_word todo) fault) new.common.store s t)
    → is_ready old.common.device ≡ true → plan_of (shared_of old.common) w ≡ Replacing todo → IsKeptStore (shared_of old.common) old.common.store s → MadeChanges todo word old.common.store new.common.store s t
    → Becomes new before after (kept_said (kept_by old) (performs set (shared_of old.common) old.held owner w word))
    → KeepsStore (shared_of old.common) (shared_of new.common) stays (plan_of (shared_of old.common) w) word new.common.store s t
replaced_keeps set old new before after owner w todo word s t law ready planned kept made becomes =
    let at = law made.count made.fault (record { ready = ready; planned = planned; kept = kept; made = made.made; settled = λ none. made.shows }) in
    let worded : KeepsStore (shared_of old.common) (performs set (shared_of old.common) old.held owner w word).shared stays (Replacing todo) word new.common.store s t =
    subst (λ (d : DiskWord). KeepsStore (shared_of old.common) (performs set (shared_of old.common) old.held owner w d).shared stays (Replacing todo) d new.common.store s t) (sym made.is) at in
    let done : KeepsStore (shared_of old.common) (shared_of new.common) stays (Replacing todo) word new.common.store s t =
    subst (λ (p : Shared). KeepsStore (shared_of old.common) p stays (Replacing todo) word new.common.store s t) (sym (ap (λ (k : Kept). k.shared) becomes.state)) worded in
    subst (λ (calls : Plan). KeepsStore (shared_of old.common) (shared_of new.common) stays calls word new.common.store s t) (sym planned) done

-- a method that called no disk
pub quiet_keeps : (old new : Whole) (after : Shared) (calls : Plan) (s t : DiskState) → ((after : Shared) → KeepsDevice (shared_of old.common) after → KeepsStore (shared_of old.common) after stays Nothing Quiet old.common.store s t)
    → KeepsDevice (shared_of old.common) after → shared_of new.common ≡ after → new.common.store ≡ old.common.store → calls ≡ Nothing
    → KeepsStore (shared_of old.common) (shared_of new.common) stays calls Quiet new.common.store s t
quiet_keeps old new after calls s t law keeps is store planned =
    subst (λ (c : Plan). KeepsStore (shared_of old.common) (shared_of new.common) stays c Quiet new.common.store s t) (sym planned)
    (subst (λ (k : KeyStore). KeepsStore (shared_of old.common) (shared_of new.common) stays Nothing Quiet k s t) (sym store)
    (subst (λ (p : Shared). KeepsStore (shared_of old.common) p stays Nothing Quiet old.common.store s t) (sym is) (law after keeps)))

-- the same effect by another name of its work and its word
pub does_as : (set : Setting) (old new : Whole) (before after : OutList) (owner : Owner) (one other : Work) (word : DiskWord) → other ≡ one → word ≡ Quiet
    → Becomes new before after (kept_said (kept_by old) (performs set (shared_of old.common) old.held owner one Quiet)) → Becomes new before after (kept_said (kept_by old) (performs set (shared_of old.common) old.held owner other word))
does_as set old new before after owner one other word work_is word_is does =
    subst (λ (v : Work). Becomes new before after (kept_said (kept_by old) (performs set (shared_of old.common) old.held owner v word))) (sym work_is)
    (subst (λ (d : DiskWord). Becomes new before after (kept_said (kept_by old) (performs set (shared_of old.common) old.held owner one d))) (sym word_is) does)

-- changes load nothing, so they have no fate
pub unloaded_fate : (shared : Shared) (todo : List Change) (count : ℕ) (found : Option DiskError) (word : DiskWord) → word ≡ word_of count (done_word todo) found → word_fate shared word ≡ None
unloaded_fate shared [] count None word is = ap (λ (d : DiskWord). word_fate shared d) is
unloaded_fate shared (change ∷ todo) count None word is = ap (λ (d : DiskWord). word_fate shared d) is
unloaded_fate shared todo count (Some fault.Failed) word is = ap (λ (d : DiskWord). word_fate shared d) is
unloaded_fate shared todo count (Some fault.Off) word is = ap (λ (d : DiskWord). word_fate shared d) is

never : false ≡ true → ⊥
never e = cc

-- a prepared step that makes no device call, and is no press
pub plain_keeps : (set : Setting) (old new : Whole) (prepared : Prepared) (s : DiskState) → ((after : Shared) → KeepsDevice (shared_of old.common) after → KeepsStore (shared_of old.common) after stays Nothing Quiet old.common.store s s)
    → is_plain prepared ≡ true → shared_of new.common ≡ (said_of set prepared (shared_of old.common) old.held Quiet).shared → new.common.store ≡ old.common.store
    → KeepsStore (shared_of old.common) (shared_of new.common) (switch_of prepared) (calls_of (shared_of old.common) prepared) Quiet new.common.store s s
plain_keeps set old new prepared.Nothing s law plain is store = quiet_keeps old new _ Nothing s s law (record { keys = refl; doubt = refl; loaded = refl; device = refl }) is store refl
plain_keeps set old new (prepared.Say only) s law plain is store = quiet_keeps old new _ Nothing s s law (record { keys = refl; doubt = refl; loaded = refl; device = refl }) is store refl
plain_keeps set old new (prepared.Open session) s law plain is store = quiet_keeps old new _ Nothing s s law (record { keys = refl; doubt = refl; loaded = refl; device = refl }) is store refl
plain_keeps set old new (prepared.Close session) s law plain is store = quiet_keeps old new _ Nothing s s law (record { keys = refl; doubt = refl; loaded = refl; device = refl }) is store refl
plain_keeps set old new (prepared.Lock session) s law plain is store = quiet_keeps old new _ Nothing s s law (record { keys = refl; doubt = refl; loaded = refl; device = refl }) is store refl
plain_keeps set old new (prepared.Unlock session) s law plain is store = quiet_keeps old new _ Nothing s s law (record { keys = refl; doubt = refl; loaded = refl; device = refl }) is store refl
plain_keeps set old new (prepared.Cancel session floor id count) s law plain is store = quiet_keeps old new _ Nothing s s law (record { keys = refl; doubt = refl; loaded = refl; device = refl }) is store refl
plain_keeps set old new (prepared.Tick clock) s law plain is store = quiet_keeps old new _ Nothing s s law (record { keys = refl; doubt = refl; loaded = refl; device = refl }) is store refl
plain_keeps set old new (prepared.Submit session limit command) s law plain is store = quiet_keeps old new _ Nothing s s law (record { keys = refl; doubt = refl; loaded = refl; device = refl }) is store refl
plain_keeps set old new (prepared.Listen session classes) s law plain is store = quiet_keeps old new _ Nothing s s law (record { keys = refl; doubt = refl; loaded = refl; device = refl }) is store refl
plain_keeps set old new (prepared.Begin id) s law plain is store = quiet_keeps old new _ Nothing s s law (record { keys = refl; doubt = refl; loaded = refl; device = refl }) is store refl
plain_keeps set old new (prepared.RefuseEntry owner refusal) s law plain is store = quiet_keeps old new _ Nothing s s law (record { keys = refl; doubt = refl; loaded = refl; device = refl }) is store refl
plain_keeps set old new (prepared.StartEntry owner kind) s law plain is store = quiet_keeps old new _ Nothing s s law (record { keys = refl; doubt = refl; loaded = refl; device = refl }) is store refl
plain_keeps set old new (prepared.Finish owner work told) s law plain is store = absurd (never plain)
plain_keeps set old new (prepared.Reset owner kept) s law plain is store = absurd (never plain)
plain_keeps set old new (prepared.Press current) s law plain is store = quiet_keeps old new _ Nothing s s law (record { keys = refl; doubt = refl; loaded = refl; device = refl }) is store refl
plain_keeps set old new prepared.Off s law plain is store = absurd (never plain)
plain_keeps set old new (prepared.Boot kept) s law plain is store = absurd (never plain)

-- a press
pub press_keeps : (set : Setting) (old new : Whole) (before after : OutList) (current : RunningEntry) (key : Key) (s : DiskState) → ((after : Shared) → KeepsDevice (shared_of old.common) after → KeepsStore (shared_of old.common) after stays Nothing Quiet old.common.store s s)
    → KeepsDevice (shared_of old.common) (kept_next set (kept_by old) (steps.Press key) Quiet).state.shared → running_entry (shared_of old.common) ≡ Some (running_of current)
    → Becomes new before after (kept_press_in set (kept_by old) (Some (running_of current)) key) → new.common.store ≡ old.common.store
    → KeepsStore (shared_of old.common) (shared_of new.common) stays Nothing Quiet new.common.store s s
press_keeps set old new before after current key s law keeps runs becomes store =
    quiet_keeps old new (kept_press_in set (kept_by old) (Some (running_of current)) key).state.shared Nothing s s law
    (subst (λ (o : Option Running). KeepsDevice (shared_of old.common) (kept_press_in set (kept_by old) o key).state.shared) runs keeps)
    (ap (λ (k : Kept). k.shared) becomes.state) store refl
