-- Why each request ends that a step ends.
use Rattle.entry_core.specs.Entries.{Entry, entry_refusal, has_unsupported_keys}
use Rattle.flat_machine.proofs.BoolLemmas.{both, or_left, or_right, true_is_not_false}
use Rattle.flat_machine.proofs.DecisionChains.{decides, is_own, own_passes}
use Rattle.flat_machine.proofs.EndingLemmas.{endings-accuses, endings-append}
use Rattle.flat_machine.proofs.LineMoves.{same_turned}
use Rattle.flat_machine.proofs.StepCauses.{Began, ByAnswer, ByBadStore, ByCancel, ByClose, ByCut, ByDevice, ByFault, ByOff, ByPress, ByRefusal, ByTick, Caused, EndedMany, EndedOne, EndsMany, EndsOne, Nothing, RefusedEntry, Submitted, ended_by, next_caused, notable_in, notables}
use Rattle.flat_machine.specs.Commands.{work_of}
use Rattle.flat_machine.specs.Decisions.{denial}
use Rattle.flat_machine.specs.DiskFacts.{is_off_step}
use Rattle.flat_machine.specs.DiskSteps.{is_cut, is_failed}
use Rattle.flat_machine.specs.EndingFacts.{HasReachedLimit, cancels_of}
use Rattle.flat_machine.specs.EntrySteps.{first_of}
use Rattle.flat_machine.specs.FinishSteps.{device_reply}
use Rattle.flat_machine.specs.Machine.{next}
use Rattle.flat_machine.specs.RefusalFacts.{refusal_in}
use Rattle.flat_machine.specs.RequestFacts.{Ending, ending_in, endings}
use Rattle.flat_machine.specs.RequestSteps.{is_canceled}
use Rattle.flat_machine.specs.Settings.{Setting}
use Rattle.flat_machine.specs.State.{Flat, Shared, device_refusal}
use Rattle.flat_machine.specs.declared.types.Device.{Device}
use Rattle.flat_machine.specs.declared.types.Device.TheVariants.{Bad, Off, Ready, Stopped}
use Rattle.flat_machine.specs.declared.types.Work.{Work}
use Rattle.flat_machine.specs.declared.types.Work.TheVariants as work
use Rattle.key_source.specs.Keys.{is_empty_mask}
use Rattle.key_table.specs.declared.Denied.{Denied}
use Rattle.key_table.specs.declared.Denied.TheVariants as denied
use Rattle.request_queue.specs.Requests.{pending_where}
use Rattle.request_queue.specs.declared.requests.Request.{Request}
use Rattle.request_queue.specs.declared.requests.RequestRow.TheVariants.{Gone, InWork, Waiting}
use Rattle.flat_machine.proofs.RequestMoves.{Rows, ending_of}
use Rattle.pad_steps.specs.declared.answers.Answer.{Answer}
use Rattle.pad_steps.specs.declared.answers.Out.{Out}
use Rattle.pad_steps.specs.declared.answers.Refusal.{Refusal}
use Rattle.pad_steps.specs.declared.answers.Reply.{Reply}
use Rattle.pad_steps.specs.declared.commands.Command.{Command}
use Rattle.pad_steps.specs.declared.steps.DiskWord.{DiskWord}
use Rattle.pad_steps.specs.declared.steps.Step.{Step}
use Rattle.pad_words.specs.Numbers.{same_session}
use Rattle.std.proofs.Common.{ap, arith, inl, inr, subst, sym, ◌∙◌}
use Rattle.std.proofs.lemmas.Bool.{eq-eqb}
use Rattle.std.specs.List.{AllByRecursion, slice_index_or}
use Rattle.std.specs.Prelude.{Bool, Contains, IsTrue, List, None, Option, Some, [], false, if◌then◌else◌, length, map, nat_lt, refl, suc, true, zero, ℕ, ◌++◌, ◌<◌, ◌==◌, ◌||◌, ◌∷◌, ◌≡◌, ◌⊎◌}
use Rattle.pad_steps.specs.declared.answers.Answer.TheVariants as answer
use Rattle.pad_steps.specs.declared.answers.Event.TheVariants as event
use Rattle.pad_steps.specs.declared.answers.Out.TheVariants as out
use Rattle.pad_steps.specs.declared.answers.Refusal.TheVariants as refusal
use Rattle.pad_steps.specs.declared.answers.Reply.TheVariants as reply

-- what a list contains, is one of its elements

pub contains_all : {A : Type 0} → (P : A → Type 0) (xs : List A) (x : A) → AllByRecursion P xs → Contains xs x → P x
contains_all {A = A} P xs x all found = subst P found.2 (at_place xs found.0 x all found.1)
  where
    at_place : (ys : List A) (k : ℕ) (d : A) → AllByRecursion P ys → k < length ys → P (slice_index_or ys k d)
    at_place [] k d h l = absurd (none k l)
      where
        none : (k : ℕ) → k < 0 → ⊥
        none k l = omega (arith, l)
    at_place (y ∷ ys) zero d h l = h.0
    at_place (y ∷ ys) (suc k) d h l = at_place ys k d h.1 (omega (arith, l))

pub contains_more : {A : Type 0} → (y : A) (xs : List A) (x : A) → Contains xs x → Contains (y ∷ xs) x
contains_more y xs x found = (suc found.0, omega (arith, found.1), found.2)

pub contains_first : {A : Type 0} → (x : A) (xs : List A) → Contains (x ∷ xs) x
contains_first x xs = (0, omega arith, refl)

-- endings are told by what outs say of requests

ending_notable : (o : Out) → endings (notable_in o) ≡ ending_in o
ending_notable (out.Request s id) = refl
ending_notable (out.Refused s r) = refl
ending_notable (out.Ended s id r) = refl
ending_notable (out.Told s t) = refl
ending_notable (out.Event s event.EnterData) = refl
ending_notable (out.Event s (event.Key shown)) = refl
ending_notable (out.Event s event.Initialized) = refl
ending_notable (out.Event s (event.IllegalKeyAccess name r)) = refl

pub endings-notables : (outs : List Out) → endings (notables outs) ≡ endings outs
endings-notables [] = refl
endings-notables (o ∷ outs) = endings-append (notable_in o) (notables outs) ∙ ap (λ (es : List Ending). es ++ endings (notables outs)) (ending_notable o) ∙ ap (λ (es : List Ending). ending_in o ++ es) (endings-notables outs)

-- refusals that are neither of the device nor of time, power or the session
abbrev pub is_plain : Refusal → Bool
is_plain refusal.Timeout = false
is_plain refusal.Canceled = false
is_plain refusal.ConnectionLost = false
is_plain refusal.HardwareError = false
is_plain (refusal.BadStore slot) = false
is_plain other = true

-- the device refuses, or the refusal is plain
abbrev pub Plainly : Device → Refusal → Type 0
Plainly device r = (device_refusal device ≡ Some r) ⊎ (is_plain r ≡ true)

plain_own : (r : Refusal) → is_own r ≡ true → is_plain r ≡ true
plain_own = own_passes (λ (r : Refusal). is_plain r ≡ true) refl refl refl refl (λ name. refl) refl refl

plain_denial : (why : Denied) → is_plain (denial why) ≡ true
plain_denial denied.KeyNotFound = refl
plain_denial denied.KeyNoValue = refl
plain_denial denied.UseViolation = refl

same_why : (r why : Refusal) (accused other : Option (List ℕ)) → work.Refuse r accused ≡ work.Refuse why other → r ≡ why
same_why r why accused other e = cc

-- why a command is refused as it is finished
refused_plainly : (set : Setting) (p : Shared) (n : ℕ) (c : Command) (why : Refusal) (accused : Option (List ℕ)) → work_of set p n c ≡ work.Refuse why accused → Plainly p.device why
refused_plainly set p n c why accused = decides set p n Fits c (record {
  waits = λ none e. absurd (waits_not why accused e);
  device = λ r is e. inl (is ∙ ap (λ (x : Refusal). Some x) (same_why r why None accused e));
  denied = λ need d needed found e. inr (subst (λ (x : Refusal). is_plain x ≡ true) (same_why (denial d) why (Some need.name) accused e) (plain_denial d));
  own = λ r is e. inr (subst (λ (x : Refusal). is_plain x ≡ true) (same_why r why None accused e) (plain_own r is));
  absent = λ name is none e. inr (subst (λ (x : Refusal). is_plain x ≡ true) (same_why refusal.KeyNotFound why None accused e) refl);
  maintained = λ on is e. absurd (works_not (work.Maintain on) why accused refl e);
  released = λ r first second draws is ready e. absurd (works_not (work.Release r first second draws) why accused refl e);
  answered = λ r key sealing is ready e. absurd (works_not _ why accused refl e);
  kept = λ r kek row slot is ready e. absurd (works_not _ why accused refl e);
  erased = λ name slot is found e. absurd (works_not (work.Erase slot) why accused refl e);
  erased_all = λ is e. absurd (works_not work.EraseAll why accused refl e);
  loaded = λ is e. absurd (works_not work.Load why accused refl e);
})
  where
    Fits : Work → Type 0
    Fits v = v ≡ work.Refuse why accused → Plainly p.device why

    works_not : (v : Work) (why : Refusal) (accused : Option (List ℕ)) → refusal_in v ≡ None → v ≡ work.Refuse why accused → ⊥
    works_not v why accused none e = no_refusal why (sym (ap refusal_in e) ∙ none)
      where
        no_refusal : (why : Refusal) → Some why ≡ None → ⊥
        no_refusal why e = cc

    waits_not : (why : Refusal) (accused : Option (List ℕ)) → work.Waits ≡ work.Refuse why accused → ⊥
    waits_not why accused e = works_not work.Waits why accused refl e

-- why an entry is refused as it begins
entry_plainly : (device : Device) (e : Entry) (why : Refusal) → first_of (device_refusal device) (entry_refusal e) ≡ Some why → Plainly device why
entry_plainly device e why is = by_device (device_refusal device) refl is
  where
    same_refusal : (a b : Refusal) → Some a ≡ Some b → a ≡ b
    same_refusal a b e = cc

    plain_if : (b : Bool) (r : Refusal) (rest : Option Refusal) → is_plain r ≡ true → (rest ≡ Some why → is_plain why ≡ true) → (if b then Some r else rest) ≡ Some why → is_plain why ≡ true
    plain_if true r rest plain later e = subst (λ (x : Refusal). is_plain x ≡ true) (same_refusal r why e) plain
    plain_if false r rest plain later e = later e

    none_refused : None ≡ Some why → is_plain why ≡ true
    none_refused e = cc

    by_device : (o : Option Refusal) → device_refusal device ≡ o → first_of o (entry_refusal e) ≡ Some why → Plainly device why
    by_device (Some r) at e = inl (at ∙ e)
    by_device None at is = inr (plain_if (nat_lt e.greatest e.least) refusal.MinimumLength _ refl (plain_if (is_empty_mask e.active) refusal.NoActiveKeys _ refl (plain_if (has_unsupported_keys e) refusal.KeyNotSupported None refl none_refused)) is)

-- why a request ends
pub data Why (h : Flat) (s : Step) (w : DiskWord) (e : Ending) : Type 0 where
  TimedOut : HasReachedLimit h s e → e.reply ≡ reply.No refusal.Timeout → Why h s w e
  WasCanceled : cancels_of e.session s ≡ true → e.reply ≡ reply.No refusal.Canceled → Why h s w e
  LostPower : (is_off_step s ≡ true) ⊎ (is_cut w ≡ true) → e.reply ≡ reply.No refusal.ConnectionLost → Why h s w e
  WasAnswered : (x : Answer) → e.reply ≡ reply.Ok x → Why h s w e
  ByTheDevice : (r : Refusal) → device_refusal h.shared.device ≡ Some r → e.reply ≡ reply.No r → Why h s w e
  ByAFault : is_failed w ≡ true → e.reply ≡ reply.No refusal.HardwareError → Why h s w e
  ByABadStore : (slot : ℕ) → e.reply ≡ reply.No (refusal.BadStore slot) → Why h s w e
  ByItself : (r : Refusal) → is_plain r ≡ true → e.reply ≡ reply.No r → Why h s w e

plain_why : (h : Flat) (s : Step) (w : DiskWord) (a : Request Command) (r : Refusal) → Plainly h.shared.device r → Why h s w (ending_of a (reply.No r))
plain_why h s w a r (inl e) = ByTheDevice r e refl
plain_why h s w a r (inr e) = ByItself r e refl

-- one end

why_device : (h : Flat) (s : Step) (w : DiskWord) (a : Request Command) (d : Device) → h.shared.device ≡ d → Why h s w (ending_of a (device_reply d))
why_device h s w a Off e = WasAnswered answer.Done refl
why_device h s w a Ready e = WasAnswered answer.Done refl
why_device h s w a Stopped e = ByTheDevice refusal.HardwareError (ap device_refusal e) refl
why_device h s w a (Bad slot) e = ByTheDevice (refusal.BadStore slot) (ap device_refusal e) refl

why_one : (set : Setting) (h : Flat) (s : Step) (w : DiskWord) (a : Request Command) (r : Reply) (heard : List Out) → EndsOne set h s w a r heard → Why h s w (ending_of a r)
why_one set h s w a r heard (ByPress k x at e o) = subst (λ (q : Reply). Why h s w (ending_of a q)) (sym e) (WasAnswered x refl)
why_one set h s w a r heard (ByRefusal why accused at v e o) = subst (λ (q : Reply). Why h s w (ending_of a q)) (sym e) (plain_why h s w a why (refused_plainly set h.shared (length h.held) a.command why accused v))
why_one set h s w a r heard (ByAnswer x at v e o) = subst (λ (q : Reply). Why h s w (ending_of a q)) (sym e) (WasAnswered x refl)
why_one set h s w a r heard (ByFault n at c e o) = subst (λ (q : Reply). Why h s w (ending_of a q)) (sym e) (ByAFault (ap is_failed c) refl)
why_one set h s w a r heard (ByBadStore slot at v c e o) = subst (λ (q : Reply). Why h s w (ending_of a q)) (sym e) (ByABadStore slot refl)
why_one set h s w a r heard (ByDevice at v e o) = subst (λ (q : Reply). Why h s w (ending_of a q)) (sym e) (why_device h s w a h.shared.device refl)

-- ends of all that pass a test

all_mapped : (P : Ending → Type 0) (r : Reply) (xs : List (Request Command)) → ((a : Request Command) → Contains xs a → P (ending_of a r)) → AllByRecursion P (endings (map (ended_by r) xs))
all_mapped P r [] k = tt
all_mapped P r (a ∷ xs) k = (k a (contains_first a xs), all_mapped P r xs (λ b found. k b (contains_more a xs b found)))

-- a request that is found passed the test
passed : (test : Request Command → Bool) (rows : Rows) → AllByRecursion (λ (a : Request Command). test a ≡ true) (pending_where test rows)
passed test [] = tt
passed test (Waiting a ∷ rows) = kept (test a) refl (passed test rows)
  where
    kept : (b : Bool) → test a ≡ b → AllByRecursion (λ (a : Request Command). test a ≡ true) (pending_where test rows) → AllByRecursion (λ (a : Request Command). test a ≡ true) (if b then a ∷ pending_where test rows else pending_where test rows)
    kept true e rest = (e, rest)
    kept false e rest = rest
passed test (InWork a ∷ rows) = kept (test a) refl (passed test rows)
  where
    kept : (b : Bool) → test a ≡ b → AllByRecursion (λ (a : Request Command). test a ≡ true) (pending_where test rows) → AllByRecursion (λ (a : Request Command). test a ≡ true) (if b then a ∷ pending_where test rows else pending_where test rows)
    kept true e rest = (e, rest)
    kept false e rest = rest
passed test (Gone id s q ∷ rows) = passed test rows

why_many : (h : Flat) (s : Step) (w : DiskWord) (test : Request Command → Bool) (r : Refusal) → EndsMany h s w test r → (a : Request Command) → Contains (pending_where test h.shared.requests) a → Why h s w (ending_of a (reply.No r))
why_many h s w test r (ByTick n at t e) a found =
    let due = subst (λ (u : Request Command → Bool). Contains (pending_where u h.shared.requests) a) t found in
    TimedOut (record { ticks = n; tick = at; request = a; due = due; id = refl; session = refl }) (ap (λ (x : Refusal). reply.No x) e)
why_many h s w test r (ByCancel t id at u e) a found =
    let passes : is_canceled h.shared t id a ≡ true = ap (λ (f : Request Command → Bool). f a) (sym u) ∙ contains_all (λ (x : Request Command). test x ≡ true) (pending_where test h.shared.requests) a (passed test h.shared.requests) found in
    WasCanceled (ap (cancels_of a.session) at ∙ same_turned a.session t (both (same_session a.session t) _ passes).0) (ap (λ (x : Refusal). reply.No x) e)
why_many h s w test r (ByClose t at u e) a found =
    let passes : same_session a.session t ≡ true = ap (λ (f : Request Command → Bool). f a) (sym u) ∙ contains_all (λ (x : Request Command). test x ≡ true) (pending_where test h.shared.requests) a (passed test h.shared.requests) found in
    WasCanceled (ap (cancels_of a.session) at ∙ same_turned a.session t passes) (ap (λ (x : Refusal). reply.No x) e)
why_many h s w test r (ByOff at t e) a found = LostPower (inl (ap is_off_step at)) (ap (λ (x : Refusal). reply.No x) e)
why_many h s w test r (ByCut n c at t e) a found = LostPower (inr (ap is_cut c)) (ap (λ (x : Refusal). reply.No x) e)

why_caused : (set : Setting) (h : Flat) (s : Step) (w : DiskWord) (after : Rows) (outs : List Out) → Caused set h s w after outs → AllByRecursion (Why h s w) (endings (notables outs))
why_caused set h s w after outs (Nothing e o) = subst (λ (os : List Out). AllByRecursion (Why h s w) (endings os)) (sym o) tt
why_caused set h s w after outs (Submitted t limit c at ok e o) = subst (λ (os : List Out). AllByRecursion (Why h s w) (endings os)) (sym o) tt
why_caused set h s w after outs (EndedMany test r why e o) = subst (λ (os : List Out). AllByRecursion (Why h s w) (endings os)) (sym o) (all_mapped (Why h s w) (reply.No r) (pending_where test h.shared.requests) (why_many h s w test r why))
why_caused set h s w after outs (Began a at none some e o) = subst (λ (os : List Out). AllByRecursion (Why h s w) (endings os)) (sym o) tt
why_caused set h s w after outs (RefusedEntry a entry r at none some is e o) = subst (λ (os : List Out). AllByRecursion (Why h s w) (endings os)) (sym o) (plain_why h s w a r (entry_plainly h.shared.device entry r is), tt)
why_caused set h s w after outs (EndedOne a r heard in_work why e o) = subst (λ (os : List Out). AllByRecursion (Why h s w) (endings os)) (sym o) (why_one set h s w a r heard why, subst (AllByRecursion (Why h s w)) (sym (heard_ends why)) tt)
  where
    heard_ends : EndsOne set h s w a r heard → endings heard ≡ []
    heard_ends (ByPress k x at e o) = ap endings o
    heard_ends (ByRefusal why accused at v e o) = ap endings o ∙ endings-accuses h.shared accused why
    heard_ends (ByAnswer x at v e o) = ap endings o
    heard_ends (ByFault n at c e o) = ap endings o
    heard_ends (ByBadStore slot at v c e o) = ap endings o
    heard_ends (ByDevice at v e o) = ap endings o

pub why_ended : (set : Setting) (h : Flat) (s : Step) (w : DiskWord) (e : Ending) → Contains (endings (next set h s w).outs) e → Why h s w e
why_ended set h s w e found =
    let outs = (next set h s w).outs in
    contains_all (Why h s w) (endings outs) e (subst (AllByRecursion (Why h s w)) (endings-notables outs) (why_caused set h s w (next set h s w).state.shared.requests outs (next_caused set h s w))) found

-- what each refusal tells

-- the refusals that tell why, as numbers
abbrev kind_of : Refusal → ℕ
kind_of refusal.Timeout = 1
kind_of refusal.Canceled = 2
kind_of refusal.ConnectionLost = 3
kind_of refusal.HardwareError = 4
kind_of (refusal.BadStore slot) = 5
kind_of other = 0

abbrev kind_in : Reply → ℕ
kind_in (reply.Ok x) = 6
kind_in (reply.No r) = kind_of r

abbrev plain_in : Reply → Bool
plain_in (reply.Ok x) = true
plain_in (reply.No r) = is_plain r

clash : {A : Type 0} → (m n : ℕ) → m ≡ n → (m == n) ≡ false → A
clash m n e f = absurd (true_is_not_false (m == n) (eq-eqb m n e) f)

unplain : {A : Type 0} → (b : Bool) → b ≡ true → b ≡ false → A
unplain b e f = absurd (true_is_not_false b e f)

device_kind : (d : Device) (r : Refusal) → device_refusal d ≡ Some r → ((d ≡ Stopped) × (kind_of r ≡ 4)) ⊎ (kind_of r ≡ 5)
device_kind Off r e = cc
device_kind Ready r e = cc
device_kind Stopped r e = inl (refl, sym (ap kind_of (same_refusal r e)))
  where
    same_refusal : (r : Refusal) → Some refusal.HardwareError ≡ Some r → refusal.HardwareError ≡ r
    same_refusal r e = cc
device_kind (Bad slot) r e = inr (sym (ap kind_of (same_refusal slot r e)))
  where
    same_refusal : (slot : ℕ) (r : Refusal) → Some (refusal.BadStore slot) ≡ Some r → refusal.BadStore slot ≡ r
    same_refusal slot r e = cc

module _ (h : Flat) (s : Step) (w : DiskWord) (e : Ending) where
  kind_at : (q : Reply) → e.reply ≡ q → kind_in e.reply ≡ kind_in q
  kind_at q is = ap kind_in is

  from_device : {A : Type 0} → (r q : Refusal) → device_refusal h.shared.device ≡ Some r → e.reply ≡ reply.No r → e.reply ≡ reply.No q → (kind_of q == 4) ≡ false → (kind_of q == 5) ≡ false → A
  from_device {A = A} r q at is told four five = by_kind (device_kind h.shared.device r at)
    where
      same_kind : kind_of r ≡ kind_of q
      same_kind = sym (ap kind_in is) ∙ ap kind_in told

      by_kind : ((h.shared.device ≡ Stopped) × (kind_of r ≡ 4)) ⊎ (kind_of r ≡ 5) → A
      by_kind (inl k) = clash (kind_of q) 4 (sym same_kind ∙ k.1) four
      by_kind (inr k) = clash (kind_of q) 5 (sym same_kind ∙ k) five

  timed_out : Why h s w e → e.reply ≡ reply.No refusal.Timeout → HasReachedLimit h s e
  timed_out (TimedOut limit q) told = limit
  timed_out (WasCanceled by q) told = clash 2 1 (sym (ap kind_in q) ∙ ap kind_in told) refl
  timed_out (LostPower by q) told = clash 3 1 (sym (ap kind_in q) ∙ ap kind_in told) refl
  timed_out (WasAnswered x q) told = clash 6 1 (sym (ap kind_in q) ∙ ap kind_in told) refl
  timed_out (ByTheDevice r at q) told = from_device r refusal.Timeout at q told refl refl
  timed_out (ByAFault by q) told = clash 4 1 (sym (ap kind_in q) ∙ ap kind_in told) refl
  timed_out (ByABadStore slot q) told = clash 5 1 (sym (ap kind_in q) ∙ ap kind_in told) refl
  timed_out (ByItself r plain q) told = unplain (is_plain r) plain (sym (ap plain_in q) ∙ ap plain_in told)

  was_canceled : Why h s w e → e.reply ≡ reply.No refusal.Canceled → cancels_of e.session s ≡ true
  was_canceled (TimedOut limit q) told = clash 1 2 (sym (ap kind_in q) ∙ ap kind_in told) refl
  was_canceled (WasCanceled by q) told = by
  was_canceled (LostPower by q) told = clash 3 2 (sym (ap kind_in q) ∙ ap kind_in told) refl
  was_canceled (WasAnswered x q) told = clash 6 2 (sym (ap kind_in q) ∙ ap kind_in told) refl
  was_canceled (ByTheDevice r at q) told = from_device r refusal.Canceled at q told refl refl
  was_canceled (ByAFault by q) told = clash 4 2 (sym (ap kind_in q) ∙ ap kind_in told) refl
  was_canceled (ByABadStore slot q) told = clash 5 2 (sym (ap kind_in q) ∙ ap kind_in told) refl
  was_canceled (ByItself r plain q) told = unplain (is_plain r) plain (sym (ap plain_in q) ∙ ap plain_in told)

  lost_power : Why h s w e → e.reply ≡ reply.No refusal.ConnectionLost → (is_off_step s ≡ true) ⊎ (is_cut w ≡ true)
  lost_power (TimedOut limit q) told = clash 1 3 (sym (ap kind_in q) ∙ ap kind_in told) refl
  lost_power (WasCanceled by q) told = clash 2 3 (sym (ap kind_in q) ∙ ap kind_in told) refl
  lost_power (LostPower by q) told = by
  lost_power (WasAnswered x q) told = clash 6 3 (sym (ap kind_in q) ∙ ap kind_in told) refl
  lost_power (ByTheDevice r at q) told = from_device r refusal.ConnectionLost at q told refl refl
  lost_power (ByAFault by q) told = clash 4 3 (sym (ap kind_in q) ∙ ap kind_in told) refl
  lost_power (ByABadStore slot q) told = clash 5 3 (sym (ap kind_in q) ∙ ap kind_in told) refl
  lost_power (ByItself r plain q) told = unplain (is_plain r) plain (sym (ap plain_in q) ∙ ap plain_in told)

  hardware_failed : Why h s w e → e.reply ≡ reply.No refusal.HardwareError → (h.shared.device ≡ Stopped) ⊎ (is_failed w ≡ true)
  hardware_failed (TimedOut limit q) told = clash 1 4 (sym (ap kind_in q) ∙ ap kind_in told) refl
  hardware_failed (WasCanceled by q) told = clash 2 4 (sym (ap kind_in q) ∙ ap kind_in told) refl
  hardware_failed (LostPower by q) told = clash 3 4 (sym (ap kind_in q) ∙ ap kind_in told) refl
  hardware_failed (WasAnswered x q) told = clash 6 4 (sym (ap kind_in q) ∙ ap kind_in told) refl
  hardware_failed (ByTheDevice r at q) told = by_kind (device_kind h.shared.device r at)
    where
      by_kind : ((h.shared.device ≡ Stopped) × (kind_of r ≡ 4)) ⊎ (kind_of r ≡ 5) → (h.shared.device ≡ Stopped) ⊎ (is_failed w ≡ true)
      by_kind (inl k) = inl k.0
      by_kind (inr k) = clash 5 4 (sym k ∙ sym (ap kind_in q) ∙ ap kind_in told) refl
  hardware_failed (ByAFault by q) told = inr by
  hardware_failed (ByABadStore slot q) told = clash 5 4 (sym (ap kind_in q) ∙ ap kind_in told) refl
  hardware_failed (ByItself r plain q) told = unplain (is_plain r) plain (sym (ap plain_in q) ∙ ap plain_in told)

pub timeout_why : (set : Setting) (h : Flat) (s : Step) (w : DiskWord) (e : Ending) → Contains (endings (next set h s w).outs) e → e.reply ≡ reply.No refusal.Timeout → HasReachedLimit h s e
timeout_why set h s w e found = timed_out h s w e (why_ended set h s w e found)

pub canceled_why : (set : Setting) (h : Flat) (s : Step) (w : DiskWord) (e : Ending) → Contains (endings (next set h s w).outs) e → e.reply ≡ reply.No refusal.Canceled → IsTrue (cancels_of e.session s)
canceled_why set h s w e found = was_canceled h s w e (why_ended set h s w e found)

pub connection_why : (set : Setting) (h : Flat) (s : Step) (w : DiskWord) (e : Ending) → Contains (endings (next set h s w).outs) e → e.reply ≡ reply.No refusal.ConnectionLost → IsTrue (is_off_step s || is_cut w)
connection_why set h s w e found told = either (lost_power h s w e (why_ended set h s w e found) told)
  where
    either : (is_off_step s ≡ true) ⊎ (is_cut w ≡ true) → (is_off_step s || is_cut w) ≡ true
    either (inl off) = or_left (is_off_step s) (is_cut w) off
    either (inr cut) = or_right (is_off_step s) (is_cut w) cut

pub hardware_why : (set : Setting) (h : Flat) (s : Step) (w : DiskWord) (e : Ending) → Contains (endings (next set h s w).outs) e → e.reply ≡ reply.No refusal.HardwareError → (h.shared.device ≡ Stopped) ⊎ IsTrue (is_failed w)
hardware_why set h s w e found = hardware_failed h s w e (why_ended set h s w e found)
