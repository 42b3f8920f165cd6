-- A command that meets none of its refusals is answered OK.
use Rattle.check_values.specs.CheckValues.{check_value}
use Rattle.crypt_commands.specs.Crypts.{sealing_key}
use Rattle.crypt_commands.specs.Faults.{wrong_length}
use Rattle.entry_core.specs.Entries.{Entry, entry_of, entry_refusal}
use Rattle.flat_machine.proofs.EndingLemmas.{endings-service_events}
use Rattle.flat_machine.proofs.PowerLemmas.{plan_of_any_count}
use Rattle.flat_machine.proofs.WorkChains.{work_ends}
use Rattle.flat_machine.proofs.WorkOrder.{eligible-begun}
use Rattle.flat_machine.specs.AccessFacts.{CryptIsReady, ImportIsReady, PinIsReady, optional, permit_if}
use Rattle.flat_machine.specs.Arms.{is_struck}
use Rattle.flat_machine.specs.Commands.{erase, work_of}
use Rattle.flat_machine.specs.CompletionFacts.{Answers, IsAnsweredOk, IsInWork, goes_well}
use Rattle.flat_machine.specs.Crypts.{crypt_answer, crypt_use, crypt_work}
use Rattle.flat_machine.specs.Decisions.{or_denied, or_refused, unless, unless_refused, with_key, with_key_if}
use Rattle.flat_machine.specs.EndingFacts.{one_end}
use Rattle.flat_machine.specs.EntrySteps.{begin_as, begin_entry, begin_with, first_of, next_begin}
use Rattle.flat_machine.specs.FinishSteps.{deletes, finish_with, imports, inits, performs, plan_finish, plan_of}
use Rattle.flat_machine.specs.Imports.{duplicated, import_refusal, import_work, into_slot}
use Rattle.flat_machine.specs.Machine.{fits, next}
use Rattle.flat_machine.specs.PinCommands.{pin_answer, pin_work, ready_refusal}
use Rattle.flat_machine.specs.Power.{Plan, fits_plan, replaces}
use Rattle.flat_machine.specs.RefusalFacts.{refusal_in}
use Rattle.flat_machine.specs.RequestFacts.{Ending, endings}
use Rattle.flat_machine.specs.Sessions.{execute_event}
use Rattle.flat_machine.specs.Settings.{Setting}
use Rattle.flat_machine.specs.State.{Flat, Said, Shared, after_said, device_refusal, is_off, owner_of, unchanged}
use Rattle.flat_machine.specs.WorkFacts.{is_done}
use Rattle.flat_machine.specs.declared.types.Work.{Work}
use Rattle.flat_machine.specs.declared.types.Work.TheVariants as work
use Rattle.device_lock.specs.LockLine.{holder_of}
use Rattle.key_attributes.specs.declared.KeyRow.{KeyRow}
use Rattle.key_attributes.specs.declared.Use.{Use}
use Rattle.key_attributes.specs.declared.Use.TheVariants as purpose
use Rattle.key_import.specs.Imports as source
use Rattle.key_table.specs.Changes.{Change, change_to, erasure, erasures}
use Rattle.key_table.specs.Duplicates.{duplicate}
use Rattle.key_table.specs.KeyRows.{KeyRows, slot_for, slot_of}
use Rattle.key_table.specs.Permits.{permit}
use Rattle.key_table.specs.declared.Denied.{Denied}
use Rattle.request_queue.specs.Requests.{eligible, request_in_work}
use Rattle.request_queue.specs.declared.requests.Request.{Request}
use Rattle.pad_steps.specs.declared.answers.Answer.{Answer}
use Rattle.pad_steps.specs.declared.answers.Answer.TheVariants as answer
use Rattle.pad_steps.specs.declared.answers.Event.TheVariants as event
use Rattle.pad_steps.specs.declared.answers.Out.{Out}
use Rattle.pad_steps.specs.declared.answers.Refusal.{Refusal}
use Rattle.pad_steps.specs.declared.answers.Refusal.TheVariants as refusal
use Rattle.pad_steps.specs.declared.answers.Reply.TheVariants as reply
use Rattle.pad_steps.specs.declared.commands.Command.{Command}
use Rattle.pad_steps.specs.declared.commands.Command.TheVariants as command
use Rattle.pad_steps.specs.declared.commands.CryptRequest.{CryptRequest}
use Rattle.pad_steps.specs.declared.commands.ImportRequest.{ImportRequest}
use Rattle.pad_steps.specs.declared.commands.PinRequest.{PinRequest}
use Rattle.pad_steps.specs.declared.steps.DiskWord.{DiskWord}
use Rattle.pad_steps.specs.declared.steps.DiskWord.TheVariants as word
use Rattle.pad_steps.specs.declared.steps.Step.TheVariants as step
use Rattle.std.proofs.Common.{ap, subst, sym, ◌∙◌}
use Rattle.std.specs.Prelude.{Bool, Err, IsTrue, List, None, Ok, Option, Result, Some, [], cond, false, length, option_map, refl, true, ℕ, ◌∷◌, ◌≡◌}

-- chains of tests of which none refuses

passes_key : (name : List ℕ) (rows : KeyRows) (u : Use) (v : List ℕ) (go_on : List ℕ → Work) → permit rows name u ≡ Ok v → with_key rows name u go_on ≡ go_on v
passes_key name rows u v go_on e = ap (λ (d : Result (List ℕ) Denied). or_denied name d go_on) e

abbrev ok_of : Option (List ℕ) → Result (Option (List ℕ)) Denied
ok_of v = Ok v

passes_key_if : (rows : KeyRows) (o : Option (List ℕ)) (u : Use) (v : Option (List ℕ)) (go_on : Option (List ℕ) → Work) → permit_if rows o u ≡ Ok v → with_key_if rows o u go_on ≡ go_on v
passes_key_if rows None u v go_on e = ap go_on (same_value v e)
  where
    same_value : (v : Option (List ℕ)) → ok_of None ≡ ok_of v → None ≡ v
    same_value v e = cc
passes_key_if rows (Some name) u v go_on e = by_result (permit rows name u) refl e
  where
    by_result : (d : Result (List ℕ) Denied) → permit rows name u ≡ d → optional d ≡ Ok v → with_key rows name u (λ x. go_on (Some x)) ≡ go_on v
    by_result (Ok x) at is = passes_key name rows u x (λ y. go_on (Some y)) at ∙ ap go_on (same_value x v is)
      where
        same_value : (x : List ℕ) (v : Option (List ℕ)) → optional (Ok x) ≡ Ok v → Some x ≡ v
        same_value x v e = cc
    by_result (Err why) at is = absurd (no_value why v is)
      where
        no_value : (why : Denied) (v : Option (List ℕ)) → optional (Err why) ≡ Ok v → ⊥
        no_value why v e = cc

module _ (set : Setting) (p : Shared) where
  pin_released : (n : ℕ) (r : PinRequest) (first : List ℕ) (second : Option (List ℕ)) (draws : ℕ) → PinIsReady set p n r first second draws → work_of set p n (command.Pin r) ≡ work.Release r first second draws
  pin_released n r first second draws ready =
      ap (λ (o : Option Refusal). unless_refused o (pin_work set.pin_rules p.keys n r)) ready.device
      ∙ passes_key (set.pin_rules.wants r).first p.keys (set.pin_rules.wants r).wanted first _ ready.first_key
      ∙ passes_key_if p.keys (set.pin_rules.wants r).second (set.pin_rules.wants r).wanted second _ ready.second_key
      ∙ ap (λ (b : Bool). unless b refusal.NoPin (or_refused ready_refusal (set.pin_rules.ready r n (length first) (option_map length second)) (λ x. work.Release r first second x))) ready.pin
      ∙ ap (λ d. or_refused ready_refusal d (λ x. work.Release r first second x)) ready.ready

  crypt_answered : (n : ℕ) (r : CryptRequest) (key : List ℕ) (sealing : Option (List ℕ)) → CryptIsReady p r key sealing → work_of set p n (command.Crypt r) ≡ work.Answer (crypt_answer set.cipher r key sealing)
  crypt_answered n r key sealing ready =
      ap (λ (o : Option Refusal). unless_refused o (crypt_work set.cipher p.keys r)) ready.device
      ∙ passes_key r.key p.keys (crypt_use r.algorithm) key _ ready.first_key
      ∙ passes_key_if p.keys (sealing_key r.start) purpose.SvEncKey sealing _ ready.start_key
      ∙ ap (λ (b : Bool). unless b refusal.InvalidKeyLength (unless (wrong_length r.direction (length r.body)) refusal.LengthError (work.Answer (crypt_answer set.cipher r key sealing)))) ready.key_length
      ∙ ap (λ (b : Bool). unless b refusal.LengthError (work.Answer (crypt_answer set.cipher r key sealing))) ready.body_length

  import_kept : (n : ℕ) (r : ImportRequest) (kek : Option (List ℕ)) (row : KeyRow) (slot : ℕ) → ImportIsReady set p r kek row slot
      → work_of set p n (command.ImportKey r) ≡ work.Keep slot row (check_value set.cipher.tdea r.verify row.value) (source.is_part r.source)
  import_kept n r kek row slot ready =
      ap (λ (o : Option Refusal). unless_refused o (import_work set.cipher p.keys p.part r)) ready.device
      ∙ passes_key_if p.keys (source.sealed_under r.source) purpose.KeyEncKey kek _ ready.sealing_key
      ∙ ap (λ d. or_refused import_refusal d (λ new. unless_refused (duplicated (duplicate new p.keys)) (into_slot set.cipher r new (slot_for new.name p.keys)))) ready.gives
      ∙ ap (λ (o : Option (List ℕ)). unless_refused (duplicated o) (into_slot set.cipher r row (slot_for row.name p.keys))) ready.alone
      ∙ ap (into_slot set.cipher r row) ready.room

  deletion_erases : (n : ℕ) (name : List ℕ) (slot : ℕ) → device_refusal p.device ≡ None → slot_of name p.keys ≡ Some slot → work_of set p n (command.DeleteKey name) ≡ work.Erase slot
  deletion_erases n name slot ready found = ap (λ (o : Option Refusal). unless_refused o (erase (slot_of name p.keys))) ready ∙ ap erase found

-- what each work that is no refusal tells

module _ (set : Setting) (p : Shared) (held : List ℕ) (a : Request Command) where
  abbrev Tells : Work → DiskWord → Answer → Type 0
  Tells v w x = endings (performs set p held (owner_of a) v w).outs ≡ one_end a (reply.Ok x)

  struck_not : {A : Type 0} → true ≡ false → A
  struck_not e = absurd (never e)
    where
      never : true ≡ false → ⊥
      never e = cc

  tells_replaced : (todo : List Change) (done : Shared → Said) (w : DiskWord) (x : Answer) → is_struck w ≡ false → ((q : Shared) → q.sessions ≡ p.sessions → endings (done q).outs ≡ one_end a (reply.Ok x)) → endings (replaces p (owner_of a) todo done w).outs ≡ one_end a (reply.Ok x)
  tells_replaced todo done word.Quiet x e k = k _ refl
  tells_replaced todo done word.Done x e k = k _ refl
  tells_replaced todo done (word.Failed n) x e k = struck_not e
  tells_replaced todo done (word.Cut n) x e k = struck_not e
  tells_replaced todo done (word.Loaded rows) x e k = k _ refl
  tells_replaced todo done (word.Bad slot) x e k = k _ refl

  tells_kept : (slot : ℕ) (row : KeyRow) (check : Option (List ℕ)) (from_part : Bool) (w : DiskWord) → is_struck w ≡ false → Tells (work.Keep slot row check from_part) w (answer.Key check)
  tells_kept slot row check from_part w e = tells_replaced (change_to (slot, row) ∷ []) (imports (owner_of a) check from_part) w (answer.Key check) e (λ q same. refl)

  tells_erased : (slot : ℕ) (w : DiskWord) → is_struck w ≡ false → Tells (work.Erase slot) w answer.Done
  tells_erased slot w e = tells_replaced (erasure slot ∷ []) (deletes (owner_of a)) w answer.Done e (λ q same. refl)

  tells_emptied : (w : DiskWord) → is_struck w ≡ false → Tells work.EraseAll w answer.Done
  tells_emptied w e = tells_replaced (erasures p.keys) (inits (owner_of a)) w answer.Done e (λ q same. ap (λ (es : List Ending). record { id = a.id; session = a.session; reply = reply.Ok answer.Done } ∷ es) (endings-service_events q.sessions event.Initialized))

  -- some answer
  record TellsSome (v : Work) (w : DiskWord) : Type 0 where
    some : Answer
    told : Tells v w some

  struck_none : (w : DiskWord) → goes_well w ≡ true → is_struck w ≡ false
  struck_none word.Quiet e = refl
  struck_none word.Done e = refl
  struck_none (word.Failed n) e = cc
  struck_none (word.Cut n) e = cc
  struck_none (word.Loaded rows) e = refl
  struck_none (word.Bad slot) e = cc

  tells_reset : (w : DiskWord) → goes_well w ≡ true → fits_plan (plan_of p work.Load) w ≡ true → TellsSome work.Load w
  tells_reset word.Quiet e f = cc
  tells_reset word.Done e f = cc
  tells_reset (word.Failed n) e f = cc
  tells_reset (word.Cut n) e f = cc
  tells_reset (word.Loaded rows) e f = record { some = answer.Done; told = refl }
  tells_reset (word.Bad slot) e f = cc

  tells : (v : Work) (w : DiskWord) → refusal_in v ≡ None → is_done v ≡ true → goes_well w ≡ true → fits_plan (plan_of p v) w ≡ true → TellsSome v w
  tells work.Waits w none done e f = cc
  tells (work.Refuse r accused) w none done e f = cc
  tells (work.Answer x) w none done e f = record { some = x; told = refl }
  tells (work.Maintain on) w none done e f = record { some = answer.Done; told = refl }
  tells (work.Keep slot row check from_part) w none done e f = record { some = answer.Key check; told = tells_kept slot row check from_part w (struck_none w e) }
  tells (work.Erase slot) w none done e f = record { some = answer.Done; told = tells_erased slot w (struck_none w e) }
  tells work.EraseAll w none done e f = record { some = answer.Done; told = tells_emptied w (struck_none w e) }
  tells (work.Release r first second draws) w none done e f = record { some = pin_answer set p.drawn held r first second draws; told = refl }
  tells work.Load w none done e f = tells_reset w e f

-- Finish, of the request in work

finish_tells : (set : Setting) (h : Flat) (w : DiskWord) (a : Request Command) (c : Command) (v : Work) (es : List Ending) → request_in_work h.shared.requests ≡ Some a → a.command ≡ c → work_of set h.shared (length h.held) c ≡ v
    → endings (performs set h.shared h.held (owner_of a) v w).outs ≡ es → endings (next set h step.Finish w).outs ≡ es
finish_tells set h w a c v es in_work asked is told =
    ap (λ (o : Option (Request Command)). endings (finish_with set h.shared h.held o w).outs) in_work
    ∙ ap (λ (x : Work). endings (performs set h.shared h.held (owner_of a) x w).outs) (ap (work_of set h.shared (length h.held)) asked ∙ is) ∙ told

pub finish_complete : (set : Setting) (h : Flat) (w : DiskWord) (a : Request Command) → request_in_work h.shared.requests ≡ Some a → entry_of a.command ≡ None → refusal_in (work_of set h.shared (length h.held) a.command) ≡ None → IsTrue (fits set h.shared step.Finish w) → IsTrue (goes_well w) → IsAnsweredOk a (next set h step.Finish w)
finish_complete set h w a in_work none unrefused fit well =
    let fit_here = sym (ap (λ (o : Option (Request Command)). fits_plan (plan_at o) w) in_work) ∙ fit in
    let fit_now = ap (λ (calls : Plan). fits_plan calls w) (plan_of_any_count set h.shared (length h.held) 0 a.command) ∙ fit_here in
    let told = tells set h.shared h.held a (work_of set h.shared (length h.held) a.command) w unrefused (work_ends set h.shared (length h.held) a.command none) well fit_now in
    record { answer = told.some; told = finish_tells set h w a a.command _ _ in_work refl refl told.told }
  where
    plan_at : Option (Request Command) → Plan
    plan_at o = plan_finish set h.shared o

pub pin_complete : (set : Setting) (h : Flat) (w : DiskWord) (a : Request Command) (r : PinRequest) (first : List ℕ) (second : Option (List ℕ)) (draws : ℕ) → request_in_work h.shared.requests ≡ Some a → a.command ≡ command.Pin r → PinIsReady set h.shared (length h.held) r first second draws
    → Answers a (pin_answer set h.shared.drawn h.held r first second draws) (next set h step.Finish w)
pin_complete set h w a r first second draws in_work asked ready = finish_tells set h w a (command.Pin r) _ _ in_work asked (pin_released set h.shared (length h.held) r first second draws ready) refl

pub crypt_complete : (set : Setting) (h : Flat) (w : DiskWord) (a : Request Command) (r : CryptRequest) (key : List ℕ) (sealing : Option (List ℕ)) → request_in_work h.shared.requests ≡ Some a → a.command ≡ command.Crypt r → CryptIsReady h.shared r key sealing
    → Answers a (crypt_answer set.cipher r key sealing) (next set h step.Finish w)
crypt_complete set h w a r key sealing in_work asked ready = finish_tells set h w a (command.Crypt r) _ _ in_work asked (crypt_answered set h.shared (length h.held) r key sealing ready) refl

pub import_complete : (set : Setting) (h : Flat) (w : DiskWord) (a : Request Command) (r : ImportRequest) (kek : Option (List ℕ)) (row : KeyRow) (slot : ℕ) → request_in_work h.shared.requests ≡ Some a → a.command ≡ command.ImportKey r → ImportIsReady set h.shared r kek row slot → is_struck w ≡ false
    → Answers a (answer.Key (check_value set.cipher.tdea r.verify row.value)) (next set h step.Finish w)
import_complete set h w a r kek row slot in_work asked ready well = finish_tells set h w a (command.ImportKey r) _ _ in_work asked (import_kept set h.shared (length h.held) r kek row slot ready) (tells_kept set h.shared h.held a slot row _ (source.is_part r.source) w well)

pub deletion_complete : (set : Setting) (h : Flat) (w : DiskWord) (a : Request Command) (name : List ℕ) (slot : ℕ) → request_in_work h.shared.requests ≡ Some a → a.command ≡ command.DeleteKey name → device_refusal h.shared.device ≡ None → slot_of name h.shared.keys ≡ Some slot → is_struck w ≡ false → Answers a answer.Done (next set h step.Finish w)
deletion_complete set h w a name slot in_work asked ready found well = finish_tells set h w a (command.DeleteKey name) _ _ in_work asked (deletion_erases set h.shared (length h.held) name slot ready found) (tells_erased set h.shared h.held a slot w well)

pub initialization_complete : (set : Setting) (h : Flat) (w : DiskWord) (a : Request Command) → request_in_work h.shared.requests ≡ Some a → a.command ≡ command.Init → device_refusal h.shared.device ≡ None → is_struck w ≡ false → Answers a answer.Done (next set h step.Finish w)
initialization_complete set h w a in_work asked ready well = finish_tells set h w a command.Init work.EraseAll _ in_work asked (ap (λ (o : Option Refusal). unless_refused o work.EraseAll) ready) (tells_emptied set h.shared h.held a w well)

pub maintain_complete : (set : Setting) (h : Flat) (w : DiskWord) (a : Request Command) (on : Bool) → request_in_work h.shared.requests ≡ Some a → a.command ≡ command.MaintainPin on → device_refusal h.shared.device ≡ None → Answers a answer.Done (next set h step.Finish w)
maintain_complete set h w a on in_work asked ready = finish_tells set h w a (command.MaintainPin on) (work.Maintain on) _ in_work asked (ap (λ (o : Option Refusal). unless_refused o (work.Maintain on)) ready) refl

pub reset_complete : (set : Setting) (h : Flat) (rows : KeyRows) (a : Request Command) → request_in_work h.shared.requests ≡ Some a → a.command ≡ command.Reset → Answers a answer.Done (next set h step.Finish (word.Loaded rows))
reset_complete set h rows a in_work asked = finish_tells set h (word.Loaded rows) a command.Reset work.Load _ in_work asked refl refl

-- Begin

begin_now : (h : Flat) (x : Said) (a : Request Command) (outs : List Out) → request_in_work x.shared.requests ≡ Some a → x.outs ≡ outs → IsInWork a outs (after_said h x)
begin_now h x a outs works said = record { works = works; said = said }

pub begin_with_is : (p : Shared) (a : Request Command) → is_off p.device ≡ false → request_in_work p.requests ≡ None → eligible (holder_of p.line) p.requests ≡ Some a → next_begin p ≡ begin_as p a (entry_of a.command)
begin_with_is p a on none some = off_not (is_off p.device) on ∙ ap (λ (o : Option (Request Command)). begin_with p o (eligible (holder_of p.line) p.requests)) none ∙ ap (λ (o : Option (Request Command)). begin_with p None o) some
  where
    off_not : (b : Bool) → b ≡ false → cond b (unchanged p) (begin_with p (request_in_work p.requests) (eligible (holder_of p.line) p.requests)) ≡ begin_with p (request_in_work p.requests) (eligible (holder_of p.line) p.requests)
    off_not true e = cc
    off_not false e = refl

pub begin_complete : (set : Setting) (h : Flat) (w : DiskWord) (a : Request Command) → is_off h.shared.device ≡ false → request_in_work h.shared.requests ≡ None → eligible (holder_of h.shared.line) h.shared.requests ≡ Some a → entry_of a.command ≡ None → IsInWork a [] (next set h step.Begin w)
begin_complete set h w a on none some no_entry =
    let begun_at = eligible-begun (holder_of h.shared.line) h.shared.requests a none some in
    subst (λ (x : Said). IsInWork a [] (after_said h x)) (sym (begin_with_is h.shared a on none some ∙ ap (begin_as h.shared a) no_entry)) (begin_now h (begin_as h.shared a None) a [] begun_at.in_work refl)

pub entry_complete : (set : Setting) (h : Flat) (w : DiskWord) (a : Request Command) (e : Entry) → is_off h.shared.device ≡ false → request_in_work h.shared.requests ≡ None → eligible (holder_of h.shared.line) h.shared.requests ≡ Some a → entry_of a.command ≡ Some e
    → first_of (device_refusal h.shared.device) (entry_refusal e) ≡ None → IsInWork a (execute_event h.shared.sessions a.session event.EnterData) (next set h step.Begin w)
entry_complete set h w a e on none some is unrefused =
    let begun_at = eligible-begun (holder_of h.shared.line) h.shared.requests a none some in
    subst (λ (x : Said). IsInWork a (execute_event h.shared.sessions a.session event.EnterData) (after_said h x)) (sym (begin_with_is h.shared a on none some ∙ ap (begin_as h.shared a) is ∙ ap (begin_entry h.shared a e) unrefused))
    (begin_now h (begin_entry h.shared a e None) a _ begun_at.in_work refl)
