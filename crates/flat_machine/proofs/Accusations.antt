-- Which keys are accused, and what a refused command tells.
use Rattle.entry_core.specs.Entries.{Entry, entry_of, entry_refusal}
use Rattle.device_lock.specs.LockLine.{holder_of}
use Rattle.flat_machine.proofs.BoolLemmas.{true_is_not_false}
use Rattle.flat_machine.proofs.Completeness.{begin_with_is}
use Rattle.flat_machine.proofs.DecisionChains.{decides, is_own, own_passes}
use Rattle.flat_machine.proofs.EndCauses.{endings-notables}
use Rattle.flat_machine.proofs.EndingLemmas.{endings-accuses}
use Rattle.flat_machine.proofs.QueueMoves.{same_request, working_row}
use Rattle.flat_machine.proofs.RequestMoves.{Rows, ending_of}
use Rattle.flat_machine.proofs.StepCauses.{Began, ByAnswer, ByBadStore, ByDevice, ByFault, ByPress, ByRefusal, Caused, EndedMany, EndedOne, EndsOne, Nothing, RefusedEntry, Submitted, ended_by, next_caused, notable_in, notables, notables-accuses}
use Rattle.flat_machine.specs.Commands.{work_of}
use Rattle.flat_machine.specs.Decisions.{denial}
use Rattle.flat_machine.specs.EndingFacts.{Accusation, Accuses, EndsItsRow, IsAccused, IsDenied, IsRefusedAlone, NoneIsAccused, SomeIsAccused, accusation_in, accusations, is_deletion, is_denial}
use Rattle.flat_machine.specs.EntrySteps.{begin_as, begin_entry, first_of}
use Rattle.flat_machine.specs.FinishSteps.{finish_with, performs}
use Rattle.flat_machine.specs.Machine.{next}
use Rattle.flat_machine.specs.RefusalFacts.{refusal_in}
use Rattle.flat_machine.specs.RequestFacts.{Ending, endings}
use Rattle.flat_machine.specs.Settings.{Setting}
use Rattle.flat_machine.specs.State.{Flat, Said, Shared, accuses, after_said, device_refusal, is_off, owner_of, refuses}
use Rattle.flat_machine.specs.declared.types.Device.{Device}
use Rattle.flat_machine.specs.declared.types.Device.TheVariants.{Bad, Off, Ready, Stopped}
use Rattle.flat_machine.specs.declared.types.Work.{Work}
use Rattle.flat_machine.specs.declared.types.Work.TheVariants as work
use Rattle.request_queue.specs.Requests.{eligible, finished, pending_where, request_in_work}
use Rattle.request_queue.specs.declared.requests.Request.{Request}
use Rattle.request_queue.specs.declared.requests.RequestRow.{RequestRow}
use Rattle.request_queue.specs.declared.requests.RequestRow.TheVariants.{Gone, InWork, Waiting}
use Rattle.session_book.specs.Sessions.{hearers}
use Rattle.pad_steps.specs.declared.answers.Out.{Out}
use Rattle.pad_steps.specs.declared.answers.Refusal.{Refusal}
use Rattle.pad_steps.specs.declared.answers.Reply.{Reply}
use Rattle.pad_steps.specs.declared.commands.Command.{Command}
use Rattle.pad_steps.specs.declared.steps.DiskWord.{DiskWord}
use Rattle.pad_steps.specs.declared.steps.Step.{Step}
use Rattle.pad_words.specs.declared.numbers.Session.{Session}
use Rattle.std.proofs.Common.{ap, append_assoc, subst, sym, ◌∙◌}
use Rattle.std.specs.List.{slice_get}
use Rattle.std.specs.Prelude.{List, None, Option, Some, [], false, length, map, refl, suc, true, zero, ℕ, ◌++◌, ◌∷◌, ◌≡◌}
use Rattle.pad_steps.specs.declared.answers.Event.TheVariants as event
use Rattle.pad_steps.specs.declared.answers.Out.TheVariants as out
use Rattle.pad_steps.specs.declared.answers.Refusal.TheVariants as refusal
use Rattle.pad_steps.specs.declared.answers.Reply.TheVariants as reply
use Rattle.pad_steps.specs.declared.steps.Class.TheVariants as class
use Rattle.pad_steps.specs.declared.steps.Step.TheVariants as step

abbrev gone_row : Request Command → Reply → RequestRow Command Reply
gone_row a r = Gone a.id a.session r

-- accusations are told by what outs say of requests

accusations-append : (xs ys : List Out) → accusations (xs ++ ys) ≡ accusations xs ++ accusations ys
accusations-append [] ys = refl
accusations-append (o ∷ xs) ys = ap (λ (as_told : List Accusation). accusation_in o ++ as_told) (accusations-append xs ys) ∙ sym (append_assoc (accusation_in o) (accusations xs) (accusations ys))

accusation_notable : (o : Out) → accusations (notable_in o) ≡ accusation_in o
accusation_notable (out.Request s id) = refl
accusation_notable (out.Refused s r) = refl
accusation_notable (out.Ended s id r) = refl
accusation_notable (out.Told s t) = refl
accusation_notable (out.Event s event.EnterData) = refl
accusation_notable (out.Event s (event.Key shown)) = refl
accusation_notable (out.Event s event.Initialized) = refl
accusation_notable (out.Event s (event.IllegalKeyAccess name r)) = refl

accusations-notables : (outs : List Out) → accusations (notables outs) ≡ accusations outs
accusations-notables [] = refl
accusations-notables (o ∷ outs) = accusations-append (notable_in o) (notables outs) ∙ ap (λ (xs : List Accusation). xs ++ accusations (notables outs)) (accusation_notable o) ∙ ap (λ (xs : List Accusation). accusation_in o ++ xs) (accusations-notables outs)

accusations-ended : (r : Reply) (xs : List (Request Command)) → accusations (map (ended_by r) xs) ≡ []
accusations-ended r [] = refl
accusations-ended r (a ∷ xs) = accusations-ended r xs

accusations-heard : (sessions : List Session) (name : List ℕ) (r : Refusal) → accusations (map (λ (s : Session). out.Event s (event.IllegalKeyAccess name r)) sessions) ≡ map (λ (s : Session). record { session = s; name = name; why = r }) sessions
accusations-heard [] name r = refl
accusations-heard (s ∷ sessions) name r = ap (λ (xs : List Accusation). record { session = s; name = name; why = r } ∷ xs) (accusations-heard sessions name r)

-- a work that accuses a key is of a command that is denied it

same_why : (r why : Refusal) (a b : Option (List ℕ)) → work.Refuse r a ≡ work.Refuse why b → r ≡ why
same_why r why a b e = cc

same_accused : (r why : Refusal) (a b : Option (List ℕ)) → work.Refuse r a ≡ work.Refuse why b → a ≡ b
same_accused r why a b e = cc

abbrev accused_in : Work → Option (List ℕ)
accused_in (work.Refuse r accused) = accused
accused_in other = None

no_name : {A : Type 0} → (name : List ℕ) → None ≡ Some name → A
no_name name e = absurd (never name e)
  where
    never : (name : List ℕ) → None ≡ Some name → ⊥
    never name e = cc

accused_denied : (set : Setting) (p : Shared) (n : ℕ) (c : Command) (why : Refusal) (name : List ℕ) → work_of set p n c ≡ work.Refuse why (Some name) → IsDenied set.pin_rules p c name why
accused_denied set p n c why name = decides set p n (λ v. v ≡ work.Refuse why (Some name) → IsDenied set.pin_rules p c name why) c (record {
  waits = λ none e. no_name name (ap accused_in e);
  device = λ r is e. no_name name (ap accused_in e);
  denied = λ need d needed found e. record { wanted = need; needed = needed; named = same_name need.name (same_accused (denial d) why (Some need.name) (Some name) e); denied = d; found = found; reason = same_why (denial d) why (Some need.name) (Some name) e };
  own = λ r is e. no_name name (ap accused_in e);
  absent = λ gone is none e. no_name name (ap accused_in e);
  maintained = λ on is e. no_name name (ap accused_in e);
  released = λ r first second draws is ready e. no_name name (ap accused_in e);
  answered = λ r key sealing is ready e. no_name name (ap accused_in e);
  kept = λ r kek row slot is ready e. no_name name (ap accused_in e);
  erased = λ gone slot is found e. no_name name (ap accused_in e);
  erased_all = λ is e. no_name name (ap accused_in e);
  loaded = λ is e. no_name name (ap accused_in e);
})
  where
    same_name : (other : List ℕ) → Some other ≡ Some name → other ≡ name
    same_name other e = cc

-- refusals that are none of the three

unplain_own : (r : Refusal) → is_own r ≡ true → is_denial r ≡ false
unplain_own = own_passes (λ (r : Refusal). is_denial r ≡ false) refl refl refl refl (λ name. refl) refl refl

undenied_device : (d : Device) (r : Refusal) → device_refusal d ≡ Some r → is_denial r ≡ false
undenied_device Off r e = cc
undenied_device Ready r e = cc
undenied_device Stopped r e = sym (ap is_denial (same_refusal r e))
  where
    same_refusal : (r : Refusal) → Some refusal.HardwareError ≡ Some r → refusal.HardwareError ≡ r
    same_refusal r e = cc
undenied_device (Bad slot) r e = sym (ap is_denial (same_refusal slot r e))
  where
    same_refusal : (slot : ℕ) (r : Refusal) → Some (refusal.BadStore slot) ≡ Some r → refusal.BadStore slot ≡ r
    same_refusal slot r e = cc

-- a refusal by one of the three, of a command that is no deletion, accuses a key
abbrev AccusesSome : Option (List ℕ) → Type 0
AccusesSome accused = (name : List ℕ) × (accused ≡ Some name)

module _ (set : Setting) (p : Shared) (n : ℕ) (c : Command) (why : Refusal) (accused : Option (List ℕ)) (denies : is_denial why ≡ true) (kept : is_deletion c ≡ false) where
  undenied : (r : Refusal) (other : Option (List ℕ)) → is_denial r ≡ false → work.Refuse r other ≡ work.Refuse why accused → AccusesSome accused
  undenied r other no_denial e = absurd (true_is_not_false (is_denial why) denies (sym (ap is_denial (same_why r why other accused e)) ∙ no_denial))

  unrefused : (v : Work) → refusal_in v ≡ None → v ≡ work.Refuse why accused → AccusesSome accused
  unrefused v none e = absurd (no_refusal why (sym none ∙ ap refusal_in e))
    where
      no_refusal : (why : Refusal) → None ≡ Some why → ⊥
      no_refusal why e = cc

  denial_accuses : work_of set p n c ≡ work.Refuse why accused → AccusesSome accused
  denial_accuses = decides set p n (λ v. v ≡ work.Refuse why accused → AccusesSome accused) c (record {
    waits = λ none. unrefused work.Waits refl;
    device = λ r is. undenied r None (undenied_device p.device r is);
    denied = λ need d needed found e. (need.name, sym (same_accused (denial d) why (Some need.name) accused e));
    own = λ r is. undenied r None (unplain_own r is);
    absent = λ name is none e. absurd (true_is_not_false (is_deletion c) (ap is_deletion is) kept);
    maintained = λ on is. unrefused (work.Maintain on) refl;
    released = λ r first second draws is ready. unrefused (work.Release r first second draws) refl;
    answered = λ r key sealing is ready. unrefused (work.Answer _) refl;
    kept = λ r kek row slot is ready. unrefused (work.Keep slot row _ _) refl;
    erased = λ name slot is found. unrefused (work.Erase slot) refl;
    erased_all = λ is. unrefused work.EraseAll refl;
    loaded = λ is. unrefused work.Load refl;
  })

-- what a step accuses

accused_here : (set : Setting) (h : Flat) (s : Step) (a : Request Command) (why : Refusal) (name : List ℕ) (outs : List Out) → s ≡ step.Finish → request_in_work h.shared.requests ≡ Some a → work_of set h.shared (length h.held) a.command ≡ work.Refuse why (Some name)
    → notables outs ≡ ended_by (reply.No why) a ∷ accuses h.shared (Some name) why → IsAccused set.pin_rules h s outs
accused_here set h s a why name outs at in_work v o = record {
  finish = at;
  request = a;
  works = in_work;
  name = name;
  why = why;
  denied = accused_denied set h.shared (length h.held) a.command why name v;
  told = sym (endings-notables outs) ∙ ap endings o ∙ ap (λ (es : List Ending). ending_of a (reply.No why) ∷ es) (endings-accuses h.shared (Some name) why);
  heard = sym (accusations-notables outs) ∙ ap accusations o ∙ accusations-heard (hearers class.Service h.shared.sessions) name why;
}

none_here : (set : Setting) (h : Flat) (s : Step) (outs told : List Out) → notables outs ≡ told → accusations told ≡ [] → Accuses set.pin_rules h s outs
none_here set h s outs told o e = NoneIsAccused (sym (accusations-notables outs) ∙ ap accusations o ∙ e)

accuses_one : (set : Setting) (h : Flat) (s : Step) (w : DiskWord) (a : Request Command) (r : Reply) (heard outs : List Out) → request_in_work h.shared.requests ≡ Some a → notables outs ≡ ended_by r a ∷ heard → EndsOne set h s w a r heard → Accuses set.pin_rules h s outs
accuses_one set h s w a r heard outs in_work o (ByPress k x at e q) = none_here set h s outs (ended_by r a ∷ heard) o (ap accusations q)
accuses_one set h s w a r heard outs in_work o (ByRefusal why None at v e q) = none_here set h s outs (ended_by r a ∷ heard) o (ap accusations q)
accuses_one set h s w a r heard outs in_work o (ByRefusal why (Some name) at v e q) = SomeIsAccused (accused_here set h s a why name outs at in_work v (o ∙ ap (λ (x : Reply). ended_by x a ∷ heard) e ∙ ap (λ (xs : List Out). ended_by (reply.No why) a ∷ xs) q))
accuses_one set h s w a r heard outs in_work o (ByAnswer x at v e q) = none_here set h s outs (ended_by r a ∷ heard) o (ap accusations q)
accuses_one set h s w a r heard outs in_work o (ByFault n at c e q) = none_here set h s outs (ended_by r a ∷ heard) o (ap accusations q)
accuses_one set h s w a r heard outs in_work o (ByBadStore slot at v c e q) = none_here set h s outs (ended_by r a ∷ heard) o (ap accusations q)
accuses_one set h s w a r heard outs in_work o (ByDevice at v e q) = none_here set h s outs (ended_by r a ∷ heard) o (ap accusations q)

accuses_caused : (set : Setting) (h : Flat) (s : Step) (w : DiskWord) (after : Rows) (outs : List Out) → Caused set h s w after outs → Accuses set.pin_rules h s outs
accuses_caused set h s w after outs (Nothing e o) = none_here set h s outs [] o refl
accuses_caused set h s w after outs (Submitted t limit c at ok e o) = none_here set h s outs _ o refl
accuses_caused set h s w after outs (EndedMany test r why e o) = none_here set h s outs (map (ended_by (reply.No r)) (pending_where test h.shared.requests)) o (accusations-ended (reply.No r) (pending_where test h.shared.requests))
accuses_caused set h s w after outs (Began a at none some e o) = none_here set h s outs [] o refl
accuses_caused set h s w after outs (RefusedEntry a entry r at none some is e o) = none_here set h s outs (ended_by (reply.No r) a ∷ []) o refl
accuses_caused set h s w after outs (EndedOne a r heard in_work why e o) = accuses_one set h s w a r heard outs in_work o why

pub accusations_are_denials : (set : Setting) (h : Flat) (s : Step) (w : DiskWord) → Accuses set.pin_rules h s (next set h s w).outs
accusations_are_denials set h s w = accuses_caused set h s w (next set h s w).state.shared.requests (next set h s w).outs (next_caused set h s w)

-- a refused command alone

ends_its_row : (rows : Rows) (a : Request Command) (r : Reply) → request_in_work rows ≡ Some a → EndsItsRow rows (finished r rows) a r
ends_its_row [] a r e = absurd (none_some a e)
  where
    none_some : (a : Request Command) → None ≡ Some a → ⊥
    none_some a e = cc
ends_its_row (Waiting b ∷ rows) a r e = behind (ends_its_row rows a r e)
  where
    others_behind : (rest : EndsItsRow rows (finished r rows) a r) (other : ℕ) → (other ≡ suc rest.place → ⊥) → slice_get (Waiting b ∷ finished r rows) other ≡ slice_get (Waiting b ∷ rows) other
    others_behind rest zero apart = refl
    others_behind rest (suc other) apart = rest.others other (λ e. apart (ap (λ (n : ℕ). suc n) e))

    behind : EndsItsRow rows (finished r rows) a r → EndsItsRow (Waiting b ∷ rows) (Waiting b ∷ finished r rows) a r
    behind rest = record { place = suc rest.place; worked = rest.worked; ended = rest.ended; others = others_behind rest }
ends_its_row (InWork b ∷ rows) a r e = record { place = zero; worked = ap (λ (x : Request Command). Some (working_row x)) same; ended = ap (λ (x : Request Command). Some (gone_row x r)) same; others = others_here }
  where
    same : b ≡ a
    same = same_request b a e

    others_here : (other : ℕ) → (other ≡ zero → ⊥) → slice_get (Gone b.id b.session r ∷ rows) other ≡ slice_get (InWork b ∷ rows) other
    others_here zero apart = absurd (apart refl)
    others_here (suc other) apart = refl
ends_its_row (Gone id s q ∷ rows) a r e = behind (ends_its_row rows a r e)
  where
    others_behind : (rest : EndsItsRow rows (finished r rows) a r) (other : ℕ) → (other ≡ suc rest.place → ⊥) → slice_get (Gone id s q ∷ finished r rows) other ≡ slice_get (Gone id s q ∷ rows) other
    others_behind rest zero apart = refl
    others_behind rest (suc other) apart = rest.others other (λ e. apart (ap (λ (n : ℕ). suc n) e))

    behind : EndsItsRow rows (finished r rows) a r → EndsItsRow (Gone id s q ∷ rows) (Gone id s q ∷ finished r rows) a r
    behind rest = record { place = suc rest.place; worked = rest.worked; ended = rest.ended; others = others_behind rest }

refused_said : (h : Flat) (a : Request Command) (why : Refusal) (accused : Option (List ℕ)) → request_in_work h.shared.requests ≡ Some a → IsRefusedAlone h a why (accuses h.shared accused why) (after_said h (refuses h.shared (owner_of a) why accused))
refused_said h a why accused in_work = record { row = ends_its_row h.shared.requests a (reply.No why) in_work; shared = refl; held = refl; presses = refl; said = refl }

pub refused_alone : (set : Setting) (h : Flat) (w : DiskWord) (a : Request Command) (why : Refusal) (accused : Option (List ℕ)) → request_in_work h.shared.requests ≡ Some a → work_of set h.shared (length h.held) a.command ≡ work.Refuse why accused
    → IsRefusedAlone h a why (accuses h.shared accused why) (next set h step.Finish w)
refused_alone set h w a why accused in_work at =
    subst (λ (x : Said). IsRefusedAlone h a why (accuses h.shared accused why) (after_said h x))
    (sym (ap (λ (o : Option (Request Command)). finish_with set h.shared h.held o w) in_work ∙ ap (λ (v : Work). performs set h.shared h.held (owner_of a) v w) at)) (refused_said h a why accused in_work)

-- one of the three refusals accuses, but for a deletion

pub denial_is_heard : (set : Setting) (h : Flat) (w : DiskWord) (a : Request Command) (why : Refusal) → request_in_work h.shared.requests ≡ Some a → refusal_in (work_of set h.shared (length h.held) a.command) ≡ Some why → is_denial why ≡ true → is_deletion a.command ≡ false → IsAccused set.pin_rules h step.Finish (next set h step.Finish w).outs
denial_is_heard set h w a why in_work refused denies kept = by_work (work_of set h.shared (length h.held) a.command) refl refused
  where
    none_some : (why : Refusal) → None ≡ Some why → ⊥
    none_some why e = cc

    same_refusal : (r : Refusal) → Some r ≡ Some why → r ≡ why
    same_refusal r e = cc

    notables-refused : (name : List ℕ) → notables (ended_by (reply.No why) a ∷ accuses h.shared (Some name) why) ≡ ended_by (reply.No why) a ∷ accuses h.shared (Some name) why
    notables-refused name = ap (λ (os : List Out). ended_by (reply.No why) a ∷ os) (notables-accuses h.shared (Some name) why)

    heard : (accused : Option (List ℕ)) → work_of set h.shared (length h.held) a.command ≡ work.Refuse why accused → IsAccused set.pin_rules h step.Finish (next set h step.Finish w).outs
    heard accused at =
        let some = denial_accuses set h.shared (length h.held) a.command why accused denies kept at in
        let named = at ∙ ap (λ (o : Option (List ℕ)). work.Refuse why o) some.1 in
        accused_here set h step.Finish a why some.0 (next set h step.Finish w).outs refl in_work named (ap notables (refused_alone set h w a why (Some some.0) in_work named).said ∙ notables-refused some.0)

    by_work : (v : Work) → work_of set h.shared (length h.held) a.command ≡ v → refusal_in v ≡ Some why → IsAccused set.pin_rules h step.Finish (next set h step.Finish w).outs
    by_work work.Waits at is = absurd (none_some why is)
    by_work (work.Refuse r accused) at is = heard accused (at ∙ ap (λ (x : Refusal). work.Refuse x accused) (same_refusal r is))
    by_work (work.Answer x) at is = absurd (none_some why is)
    by_work (work.Maintain on) at is = absurd (none_some why is)
    by_work (work.Keep slot row check from_part) at is = absurd (none_some why is)
    by_work (work.Erase slot) at is = absurd (none_some why is)
    by_work work.EraseAll at is = absurd (none_some why is)
    by_work (work.Release r first second draws) at is = absurd (none_some why is)
    by_work work.Load at is = absurd (none_some why is)

-- an entry that is refused as it begins tells its end, and nothing else
pub refused_entry_says : (set : Setting) (h : Flat) (w : DiskWord) (a : Request Command) (e : Entry) (why : Refusal) → is_off h.shared.device ≡ false → request_in_work h.shared.requests ≡ None → eligible (holder_of h.shared.line) h.shared.requests ≡ Some a → entry_of a.command ≡ Some e
    → first_of (device_refusal h.shared.device) (entry_refusal e) ≡ Some why → (next set h step.Begin w).outs ≡ out.Ended a.session a.id (reply.No why) ∷ []
refused_entry_says set h w a e why on none some is refuses_it = ap (λ (x : Said). x.outs) (begin_with_is h.shared a on none some ∙ ap (begin_as h.shared a) is ∙ ap (begin_entry h.shared a e) refuses_it)
