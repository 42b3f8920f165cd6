-- What clears the held PIN and the part buffer, and what fills the part buffer.
use Rattle.entry_core.specs.Entries.{active_seen, entered, is_key_part, is_pin}
use Rattle.entry_core.specs.declared.seen.Seen.{Seen}
use Rattle.entry_core.specs.declared.seen.Seen.TheVariants.{Ended}
use Rattle.flat_machine.proofs.ClearingBegins.{BeginDoes, BeginsEntry, BeginsNone, begin_does}
use Rattle.flat_machine.proofs.ClearingWorks.{import_work-holds, next_finish-work}
use Rattle.flat_machine.proofs.PinHeld.{undropped}
use Rattle.flat_machine.proofs.RequestMoves.{ending_of}
use Rattle.flat_machine.proofs.WorkChains.{holds-unless_refused, pin-holds}
use Rattle.flat_machine.specs.Clearing.{CommandInWork, EndsPart, IsAnswered, StartsEntry, UsesPin}
use Rattle.flat_machine.specs.Commands.{work_of}
use Rattle.flat_machine.specs.EntrySteps.{next_begin, press_in, press_seen}
use Rattle.flat_machine.specs.FinishSteps.{next_finish, performs, resets}
use Rattle.flat_machine.specs.Machine.{next}
use Rattle.flat_machine.specs.RequestFacts.{Ending, endings}
use Rattle.flat_machine.specs.Settings.{Setting}
use Rattle.flat_machine.specs.State.{After, Flat, Running, Said, Shared, accuses, device_refusal, owner_of, running_entry}
use Rattle.flat_machine.specs.declared.types.Work.{Work}
use Rattle.flat_machine.specs.declared.types.Work.TheVariants as work
use Rattle.key_attributes.specs.declared.KeyRow.{KeyRow}
use Rattle.key_import.specs.Imports.{is_part}
use Rattle.key_source.specs.Keys.{has_key}
use Rattle.key_source.specs.declared.Key.{Key}
use Rattle.pad_steps.specs.declared.answers.Answer.{Answer}
use Rattle.pad_steps.specs.declared.answers.Completion.{Completion}
use Rattle.pad_steps.specs.declared.answers.Refusal.{Refusal}
use Rattle.pad_steps.specs.declared.answers.Refusal.TheVariants as refusal
use Rattle.pad_steps.specs.declared.answers.Reply.{Reply}
use Rattle.pad_steps.specs.declared.answers.Reply.TheVariants as reply
use Rattle.pad_steps.specs.declared.answers.Shown.{Shown}
use Rattle.pad_steps.specs.declared.commands.Command.{Command}
use Rattle.pad_steps.specs.declared.commands.Command.TheVariants as command
use Rattle.pad_steps.specs.declared.commands.ImportRequest.{ImportRequest}
use Rattle.pad_steps.specs.declared.commands.PinRequest.{PinRequest}
use Rattle.pad_steps.specs.declared.steps.DiskWord.{DiskWord}
use Rattle.pad_steps.specs.declared.steps.DiskWord.TheVariants as word
use Rattle.pad_steps.specs.declared.steps.Step.TheVariants as step
use Rattle.request_queue.specs.declared.requests.Request.{Request}
use Rattle.std.proofs.Common.{ap, subst, sym, ◌∙◌}
use Rattle.std.specs.Prelude.{Bool, IsTrue, List, None, Option, Some, [], false, if◌then◌else◌, length, refl, true, ℕ, ◌∷◌, ◌≡◌}
use Rattle.flat_machine.proofs.ClearingFinish.{left_over, used_up}
use Rattle.flat_machine.proofs.ClearingSteps.{dropped}

-- at a Begin that starts an entry, what it will fill is empty

no_entry : (o q : Option Running) (w : Running) → q ≡ None → o ≡ q → o ≡ Some w → ⊥
no_entry o q w none same some = absurd_none w (sym none ∙ sym same ∙ some)
  where
    absurd_none : (w : Running) → None ≡ Some w → ⊥
    absurd_none w e = cc

same_entry : (o : Option Running) (v w : Running) → o ≡ Some v → o ≡ Some w → v ≡ w
same_entry o v w e f = same_one v w (sym e ∙ f)
  where
    same_one : (v w : Running) → Some v ≡ Some w → v ≡ w
    same_one v w e = cc

module _ (set : Setting) (h : Flat) (w : DiskWord) (current : Running) (starts : StartsEntry set h w current) where
  starts_pin : BeginDoes h.shared (next_begin h.shared) → is_pin current.entry.kind ≡ true → (next set h step.Begin w).state.held ≡ []
  starts_pin (BeginsNone runs drops part device) of_pin = absurd (no_entry _ _ current starts.none runs starts.runs)
  starts_pin (BeginsEntry v none runs drops part device) of_pin = dropped (next_begin h.shared).drops_pin h.held (drops ∙ ap (λ (x : Running). is_pin x.entry.kind) (same_entry _ v current runs starts.runs) ∙ of_pin)

  starts_part : BeginDoes h.shared (next_begin h.shared) → is_key_part current.entry.kind ≡ true → (next set h step.Begin w).state.shared.part ≡ []
  starts_part (BeginsNone runs drops part device) of_part = absurd (no_entry _ _ current starts.none runs starts.runs)
  starts_part (BeginsEntry v none runs drops part device) of_part = part ∙ ap (λ (b : Bool). if b then [] else h.shared.part) (ap (λ (x : Running). is_key_part x.entry.kind) (same_entry _ v current runs starts.runs) ∙ of_part)

pub begun_pin : (set : Setting) (h : Flat) (w : DiskWord) (current : Running) → StartsEntry set h w current → IsTrue (is_pin current.entry.kind) → (next set h step.Begin w).state.held ≡ []
begun_pin set h w current starts of_pin = starts_pin set h w current starts (begin_does h.shared) of_pin

pub begun_part : (set : Setting) (h : Flat) (w : DiskWord) (current : Running) → StartsEntry set h w current → IsTrue (is_key_part current.entry.kind) → (next set h step.Begin w).state.shared.part ≡ []
begun_part set h w current starts of_part = starts_part set h w current starts (begin_does h.shared) of_part

-- a command that is answered

abbrev first_reply : List Ending → Option Reply
first_reply [] = None
first_reply (first ∷ rest) = Some first.reply

refused_or_answered : (r : Refusal) (x : Answer) → Some (reply.No r) ≡ Some (reply.Ok x) → ⊥
refused_or_answered r x e = cc

not_answered : (a : Request Command) (r : Refusal) (x : Answer) (es : List Ending) → ending_of a (reply.No r) ∷ es ≡ ending_of a (reply.Ok x) ∷ [] → ⊥
not_answered a r x es e = refused_or_answered r x (ap first_reply e)

module _ (set : Setting) (p : Shared) (held : List ℕ) (a : Request Command) (x : Answer) (w : DiskWord) where
  -- where the work ends its request with the answer, its effect has this fact
  abbrev Answering : (Said → Type 0) → Work → Type 0
  Answering Fact v = endings (performs set p held (owner_of a) v w).outs ≡ ending_of a (reply.Ok x) ∷ [] → Fact (performs set p held (owner_of a) v w)

  refusing : (Fact : Said → Type 0) (r : Refusal) (accused : Option (List ℕ)) → Answering Fact (work.Refuse r accused)
  refusing Fact r accused told = absurd (not_answered a r x (endings (accuses p accused r)) told)

  abbrev PinDropped : Said → Type 0
  PinDropped s = s.drops_pin ≡ true

  abbrev PartEmptied : Said → Type 0
  PartEmptied s = s.shared.part ≡ []

  unmaintain_answers : Answering PinDropped (work_of set p (length held) (command.MaintainPin false))
  unmaintain_answers = holds-unless_refused (Answering PinDropped) (refusing PinDropped) (device_refusal p.device) (work.Maintain false) (λ told. refl)

  pin_answers : (r : PinRequest) → p.maintain ≡ false → Answering PinDropped (work_of set p (length held) (command.Pin r))
  pin_answers r off = holds-unless_refused (Answering PinDropped) (refusing PinDropped) (device_refusal p.device) _
      (pin-holds (Answering PinDropped) (refusing PinDropped) set.pin_rules p.keys (length held) r (λ first second draws keys is told. used_up p.maintain off))

  kept_answers : (r : PinRequest) → p.maintain ≡ true → Answering (λ (s : Said). s.drops_pin ≡ false) (work_of set p (length held) (command.Pin r))
  kept_answers r on =
      let Fact : Said → Type 0 = λ s. s.drops_pin ≡ false in
      holds-unless_refused (Answering Fact) (refusing Fact) (device_refusal p.device) _
      (pin-holds (Answering Fact) (refusing Fact) set.pin_rules p.keys (length held) r (λ first second draws keys is told. left_over p.maintain on))

module _ (set : Setting) (p : Shared) (held : List ℕ) (a : Request Command) (x : Answer) where
  erasing_pin : (w : DiskWord) → Answering set p held a x w (PinDropped set p held a x w) work.EraseAll
  erasing_pin word.Quiet told = refl
  erasing_pin word.Done told = refl
  erasing_pin (word.Failed n) told = absurd (not_answered a refusal.HardwareError x [] told)
  erasing_pin (word.Cut n) told = refl
  erasing_pin (word.Loaded rows) told = refl
  erasing_pin (word.Bad slot) told = refl

  erasing_part : (w : DiskWord) → Answering set p held a x w (PartEmptied set p held a x w) work.EraseAll
  erasing_part word.Quiet told = refl
  erasing_part word.Done told = refl
  erasing_part (word.Failed n) told = absurd (not_answered a refusal.HardwareError x [] told)
  erasing_part (word.Cut n) told = refl
  erasing_part (word.Loaded rows) told = refl
  erasing_part (word.Bad slot) told = refl

  importing_part : (w : DiskWord) (slot : ℕ) (row : KeyRow) (check : Option (List ℕ)) → Answering set p held a x w (PartEmptied set p held a x w) (work.Keep slot row check true)
  importing_part word.Quiet slot row check told = refl
  importing_part word.Done slot row check told = refl
  importing_part (word.Failed n) slot row check told = absurd (not_answered a refusal.HardwareError x [] told)
  importing_part (word.Cut n) slot row check told = refl
  importing_part (word.Loaded rows) slot row check told = refl
  importing_part (word.Bad bad) slot row check told = refl

  init_pin : (w : DiskWord) → Answering set p held a x w (PinDropped set p held a x w) (work_of set p (length held) command.Init)
  init_pin w = holds-unless_refused (Answering set p held a x w (PinDropped set p held a x w)) (refusing set p held a x w (PinDropped set p held a x w)) (device_refusal p.device) work.EraseAll (erasing_pin w)

  init_part : (w : DiskWord) → Answering set p held a x w (PartEmptied set p held a x w) (work_of set p (length held) command.Init)
  init_part w = holds-unless_refused (Answering set p held a x w (PartEmptied set p held a x w)) (refusing set p held a x w (PartEmptied set p held a x w)) (device_refusal p.device) work.EraseAll (erasing_part w)

  import_part : (w : DiskWord) (r : ImportRequest) → is_part r.source ≡ true → Answering set p held a x w (PartEmptied set p held a x w) (work_of set p (length held) (command.ImportKey r))
  import_part w r of_part =
      let at = Answering set p held a x w (PartEmptied set p held a x w) in
      let refused = refusing set p held a x w (PartEmptied set p held a x w) in
      holds-unless_refused at refused (device_refusal p.device) _
      (import_work-holds at refused set.cipher p.keys p.part r (λ slot row check. subst (λ (b : Bool). at (work.Keep slot row check b)) (sym of_part) (importing_part w slot row check)))

module _ (set : Setting) (h : Flat) (w : DiskWord) (c : Command) (x : Answer) (done : IsAnswered set h w c x) where
  -- the Finish has the fact that its work has where it answers
  by_answer : (Fact : Said → Type 0) → Answering set h.shared h.held done.at.request x w Fact (work_of set h.shared (length h.held) c) → Fact (next_finish set h.shared h.held w)
  by_answer Fact k =
      let does = next_finish-work set h.shared h.held done.at.request c w done.at.in_work done.at.asked in
      subst Fact (sym does) (k (sym (ap (λ (s : Said). endings s.outs) does) ∙ done.told))

pub unmaintained_pin : (set : Setting) (h : Flat) (w : DiskWord) (x : Answer) → IsAnswered set h w (command.MaintainPin false) x → (next set h step.Finish w).state.held ≡ []
unmaintained_pin set h w x done = dropped _ h.held (by_answer set h w _ x done (λ (s : Said). s.drops_pin ≡ true) (unmaintain_answers set h.shared h.held done.at.request x w))

pub used_pin : (r : PinRequest) (set : Setting) (h : Flat) (w : DiskWord) (x : Answer) → IsAnswered set h w (command.Pin r) x → UsesPin h (next set h step.Finish w).state
used_pin r set h w x done = record {
  once = λ off. dropped _ h.held (by_answer set h w _ x done (λ (s : Said). s.drops_pin ≡ true) (pin_answers set h.shared h.held done.at.request x w r off));
  maintained = λ on. undropped _ h.held (by_answer set h w _ x done (λ (s : Said). s.drops_pin ≡ false) (kept_answers set h.shared h.held done.at.request x w r on));
}

pub initialized_pin : (set : Setting) (h : Flat) (w : DiskWord) (x : Answer) → IsAnswered set h w command.Init x → (next set h step.Finish w).state.held ≡ []
initialized_pin set h w x done = dropped _ h.held (by_answer set h w _ x done (λ (s : Said). s.drops_pin ≡ true) (init_pin set h.shared h.held done.at.request x w))

pub initialized_part : (set : Setting) (h : Flat) (w : DiskWord) (x : Answer) → IsAnswered set h w command.Init x → (next set h step.Finish w).state.shared.part ≡ []
initialized_part set h w x done = by_answer set h w _ x done (λ (s : Said). s.shared.part ≡ []) (init_part set h.shared h.held done.at.request x w)

pub imported_part : (r : ImportRequest) → IsTrue (is_part r.source) → (set : Setting) (h : Flat) (w : DiskWord) (x : Answer) → IsAnswered set h w (command.ImportKey r) x → (next set h step.Finish w).state.shared.part ≡ []
imported_part r of_part set h w x done = by_answer set h w _ x done (λ (s : Said). s.shared.part ≡ []) (import_part set h.shared h.held done.at.request x w r of_part)

-- RESET, whatever its word

reset_empties : (a : Request Command) (p : Shared) (w : DiskWord) → (resets (owner_of a) w p).shared.part ≡ []
reset_empties a p word.Quiet = refl
reset_empties a p word.Done = refl
reset_empties a p (word.Failed n) = refl
reset_empties a p (word.Cut n) = refl
reset_empties a p (word.Loaded rows) = refl
reset_empties a p (word.Bad slot) = refl

pub reset_pin : (set : Setting) (h : Flat) (w : DiskWord) → CommandInWork h.shared command.Reset → (next set h step.Finish w).state.held ≡ []
reset_pin set h w at = dropped _ h.held (ap (λ (s : Said). s.drops_pin) (next_finish-work set h.shared h.held at.request command.Reset w at.in_work at.asked))

pub reset_part : (set : Setting) (h : Flat) (w : DiskWord) → CommandInWork h.shared command.Reset → (next set h step.Finish w).state.shared.part ≡ []
reset_part set h w at = ap (λ (s : Said). s.shared.part) (next_finish-work set h.shared h.held at.request command.Reset w at.in_work at.asked) ∙ reset_empties at.request h.shared w

-- the end of a key part entry fills the part buffer

filled_if : (set : Setting) (h : Flat) (c : Running) (k : Key) (s : Shown) (by : Completion) → is_key_part c.entry.kind ≡ true → (press_seen set.cipher h c k (Ended s by)).state.shared.part ≡ entered c.entry (k ∷ h.presses)
filled_if set h c k s by of_part = ap (λ (b : Bool). if b then entered c.entry (k ∷ h.presses) else h.shared.part) of_part

pub press_to : (set : Setting) (h : Flat) (c : Running) (k : Key) (seen : Seen) → running_entry h.shared ≡ Some c → has_key c.entry.active k ≡ true → active_seen c.entry (length (entered c.entry h.presses)) k ≡ seen → press_in set.cipher h (running_entry h.shared) k ≡ press_seen set.cipher h c k seen
press_to set h c k seen runs active is =
    ap (λ (o : Option Running). press_in set.cipher h o k) runs
    ∙ ap (λ (b : Bool). if b then press_seen set.cipher h c k (active_seen c.entry (length (entered c.entry h.presses)) k) else record { state = h; outs = [] }) active
    ∙ ap (press_seen set.cipher h c k) is

pub filled_part : (set : Setting) (h : Flat) (k : Key) (w : DiskWord) (c : Running) (by : Completion) → EndsPart h k c by → (next set h (step.Press k) w).state.shared.part ≡ entered c.entry (k ∷ h.presses)
filled_part set h k w c by ends = ap (λ (x : After). x.state.shared.part) (press_to set h c k (Ended ends.shown by) ends.runs ends.active ends.ends) ∙ filled_if set h c k ends.shown by ends.of_part
