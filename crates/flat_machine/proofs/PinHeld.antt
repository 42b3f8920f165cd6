-- When a PIN is held.
use Rattle.flat_machine.specs.declared.types.Work.TheVariants as work
use Rattle.flat_machine.specs.declared.types.Work.{Work}
use Rattle.flat_machine.specs.Commands.{work_of}
use Rattle.entry_core.specs.Entries.{Entry, active_seen, after_other, after_value, digit_in, entered, is_pin, shown_digit, terminator_seen, value_seen}
use Rattle.flat_machine.specs.EntrySteps.{next_begin, press_in, press_seen}
use Rattle.flat_machine.specs.FinishSteps.{finish_with, next_finish, performs}
use Rattle.flat_machine.specs.Machine.{has_pin, next, next_boot, next_off}
use Rattle.flat_machine.specs.PinFacts.{EndsPin, PinAfter, PinEntered, PinGoes, PinStays, leaves_pin}
use Rattle.flat_machine.specs.RequestSteps.{is_canceled, next_ask, next_cancel, next_submit, next_tick, submit_by, submit_refusal}
use Rattle.request_queue.specs.Requests.{pending_where, request_in_work}
use Rattle.flat_machine.specs.SessionSteps.{next_close, next_listen, next_lock, next_open, next_unlock}
use Rattle.device_lock.specs.LockLine.{holds}
use Rattle.session_book.specs.Sessions.{is_open}
use Rattle.flat_machine.specs.State.{Flat, Shared, Running, Said, after_said, ends, owner_of, running_entry}
use Rattle.flat_machine.specs.Settings.{Setting}
use Rattle.request_queue.specs.declared.requests.Request.{Request}
use Rattle.entry_core.specs.declared.seen.Seen.{Seen}
use Rattle.entry_core.specs.declared.seen.Seen.TheVariants.{Ended, Ignored, Took}
use Rattle.key_source.specs.Keys.{has_key}
use Rattle.key_source.specs.declared.Key.{Key}
use Rattle.pad_steps.specs.declared.answers.Completion.{Completion}
use Rattle.pad_steps.specs.declared.answers.Refusal.{Refusal}
use Rattle.pad_steps.specs.declared.answers.Shown.{Shown}
use Rattle.pad_steps.specs.declared.commands.Command.{Command}
use Rattle.pad_steps.specs.declared.commands.PinRequest.{PinRequest}
use Rattle.pad_steps.specs.declared.steps.DiskWord.{DiskWord}
use Rattle.pad_steps.specs.declared.steps.Step.{Step}
use Rattle.pad_words.specs.declared.numbers.Session.{Session}
use Rattle.std.proofs.Common.{ap, ◌∙◌}
use Rattle.std.specs.Prelude.{Bool, IsTrue, List, None, Option, Some, [], cond, false, if◌then◌else◌, length, nat_lt, not, refl, true, ℕ, ◌&&◌, ◌+◌, ◌==◌, ◌||◌, ◌∷◌, ◌≡◌}
use Rattle.key_source.specs.declared.Key.TheVariants as keypad
use Rattle.pad_steps.specs.declared.answers.Completion.TheVariants as completion
use Rattle.pad_steps.specs.declared.answers.Shown.TheVariants as shown
use Rattle.pad_steps.specs.declared.steps.Step.TheVariants as step

after_drop : (b : Bool) (h : Flat) (s : Step) → PinAfter h s (if b then [] else h.held)
after_drop true h s = PinGoes refl
after_drop false h s = PinStays refl

held_if : (b : Bool) (h : Flat) (k : Key) (w : Running) (c : Completion) (ds : List ℕ) → is_pin w.entry.kind ≡ b → (b ≡ true → EndsPin h k w c) → ds ≡ entered w.entry (k ∷ h.presses) → PinAfter h (step.Press k) (if b then ds else h.held)
held_if true h k w c ds is ends e = PinEntered k w c refl (ends refl) e
held_if false h k w c ds is ends e = PinStays refl

pin_press_seen : (set : Setting) (h : Flat) (w : Running) (k : Key) (seen : Seen) → running_entry h.shared ≡ Some w → has_key w.entry.active k ≡ true → active_seen w.entry (length (entered w.entry h.presses)) k ≡ seen → PinAfter h (step.Press k) (press_seen set.cipher h w k seen).state.held
pin_press_seen set h w k Ignored runs active is = PinStays refl
pin_press_seen set h w k (Took s) runs active is = PinStays refl
pin_press_seen set h w k (Ended s c) runs active is = held_if (is_pin w.entry.kind) h k w c (entered w.entry (k ∷ h.presses)) refl (λ of_pin. record { runs = runs; of_pin = of_pin; active = active; shown = s; ends = is }) refl

pin_press_if : (set : Setting) (h : Flat) (w : Running) (k : Key) (b : Bool) → has_key w.entry.active k ≡ b → running_entry h.shared ≡ Some w → PinAfter h (step.Press k) (cond b (press_seen set.cipher h w k (active_seen w.entry (length (entered w.entry h.presses)) k)) (record { state = h; outs = [] })).state.held
pin_press_if set h w k true active runs = pin_press_seen set h w k (active_seen w.entry (length (entered w.entry h.presses)) k) runs active refl
pin_press_if set h w k false active runs = PinStays refl

pin_press : (set : Setting) (h : Flat) (o : Option Running) (k : Key) → running_entry h.shared ≡ o → PinAfter h (step.Press k) (press_in set.cipher h o k).state.held
pin_press set h None k runs = PinStays refl
pin_press set h (Some w) k runs = pin_press_if set h w k (has_key w.entry.active k) refl runs

pub pin_after : (set : Setting) (h : Flat) (s : Step) (w : DiskWord) → PinAfter h s (next set h s w).state.held
pin_after set h (step.Open s) w = after_drop (next_open h.shared s).drops_pin h (step.Open s)
pin_after set h (step.Close s) w = after_drop (next_close h.shared s).drops_pin h (step.Close s)
pin_after set h (step.Listen s c) w = after_drop (next_listen h.shared s c).drops_pin h (step.Listen s c)
pin_after set h (step.Lock s) w = after_drop (next_lock h.shared s).drops_pin h (step.Lock s)
pin_after set h (step.Unlock s) w = after_drop (next_unlock h.shared s).drops_pin h (step.Unlock s)
pin_after set h (step.Submit s limit c) w = after_drop (next_submit set.pin_rules h.shared s limit c).drops_pin h (step.Submit s limit c)
pin_after set h (step.Cancel s id) w = after_drop (next_cancel h.shared s id).drops_pin h (step.Cancel s id)
pin_after set h step.Begin w = after_drop (next_begin h.shared).drops_pin h step.Begin
pin_after set h step.Finish w = after_drop (next_finish set h.shared h.held w).drops_pin h step.Finish
pin_after set h (step.Press k) w = pin_press set h (running_entry h.shared) k refl
pin_after set h (step.Tick n) w = after_drop (next_tick h.shared n).drops_pin h (step.Tick n)
pin_after set h (step.Ask s q) w = after_drop (next_ask set.cipher h.shared (has_pin h.held) s q).drops_pin h (step.Ask s q)
pin_after set h step.Off w = after_drop (next_off h.shared).drops_pin h step.Off
pin_after set h step.Boot w = after_drop (next_boot h.shared w).drops_pin h step.Boot

-- CANCEL leaves no digit

not_ended_if : (b : Bool) (t u s : Shown) → (if b then Ended t completion.Auto else Took u) ≡ Ended s completion.Cancel → ⊥
not_ended_if true t u s e = cc
not_ended_if false t u s e = cc

digit_no_cancel : (e : Entry) (n : ℕ) (b : Bool) (t s : Shown) → (if b then (if e.auto_end && (n + 1 == e.greatest) then Ended t completion.Auto else Took t) else Ignored) ≡ Ended s completion.Cancel → ⊥
digit_no_cancel e n true t s h = not_ended_if (e.auto_end && (n + 1 == e.greatest)) t t s h
digit_no_cancel e n false t s h = cc

by_no_cancel : (b : Bool) (t s : Shown) (c : Completion) → (c ≡ completion.Cancel → ⊥) → (if b then Ignored else Ended t c) ≡ Ended s completion.Cancel → ⊥
by_no_cancel true t s c other h = cc
by_no_cancel false t s c other h = other (same_end t s c h)
  where
    same_end : (t s : Shown) (c : Completion) → Ended t c ≡ Ended s completion.Cancel → c ≡ completion.Cancel
    same_end t s c h = cc

cancel_empties_other : (e : Entry) (n : ℕ) (k : Key) (s : Shown) (ds : List ℕ) → terminator_seen e n k ≡ Ended s completion.Cancel → after_other k ds ≡ []
cancel_empties_other e n (keypad.Digit d) s ds h = cc
cancel_empties_other e n (keypad.Hex v) s ds h = cc
cancel_empties_other e n keypad.Enter s ds h = absurd (by_no_cancel (nat_lt n e.least) (shown.Plain keypad.Enter) s completion.Enter (λ c. enter_is_not_cancel c) h)
  where
    enter_is_not_cancel : completion.Enter ≡ completion.Cancel → ⊥
    enter_is_not_cancel c = cc
cancel_empties_other e n keypad.Cancel s ds h = refl
cancel_empties_other e n keypad.Clear s ds h = cc
cancel_empties_other e n keypad.Backspace s ds h = cc
cancel_empties_other e n keypad.Help s ds h = absurd (by_no_cancel (nat_lt n e.least) (shown.Plain keypad.Help) s completion.Help (λ c. help_is_not_cancel c) h)
  where
    help_is_not_cancel : completion.Help ≡ completion.Cancel → ⊥
    help_is_not_cancel c = cc
cancel_empties_other e n (keypad.Fdk m) s ds h = absurd (by_no_cancel (nat_lt n e.least) (shown.Plain (keypad.Fdk m)) s (completion.Fdk m) (λ c. fdk_is_not_cancel m c) h)
  where
    fdk_is_not_cancel : (m : ℕ) → completion.Fdk m ≡ completion.Cancel → ⊥
    fdk_is_not_cancel m c = cc

cancel_if : (e : Entry) (n : ℕ) (b : Bool) (k : Key) (s : Shown) (ds : List ℕ) → (if b then terminator_seen e n k else Took (shown.Plain k)) ≡ Ended s completion.Cancel → after_other k ds ≡ []
cancel_if e n true k s ds h = cancel_empties_other e n k s ds h
cancel_if e n false k s ds h = cc

cancel_value : (e : Entry) (n : ℕ) (o : Option ℕ) (k : Key) (s : Shown) (ds : List ℕ) → value_seen e o n k ≡ Ended s completion.Cancel → after_value e o k ds ≡ []
cancel_value e n None k s ds h = cancel_if e n (has_key e.terminate k) k s ds h
cancel_value e n (Some v) k s ds h = absurd (digit_no_cancel e n (nat_lt n e.greatest) (shown_digit e.kind k) s h)

pub canceled_is_empty : (e : Entry) (n : ℕ) (ks : List Key) (k : Key) (s : Shown) → active_seen e n k ≡ Ended s completion.Cancel → entered e (k ∷ ks) ≡ []
canceled_is_empty e n ks k s h = cancel_value e n (digit_in e.kind k) k s (entered e ks) h

-- steps that leave it

stays_if : (b : Bool) (x y : Said) → x.drops_pin ≡ false → y.drops_pin ≡ false → (cond b x y).drops_pin ≡ false
stays_if true x y h k = h
stays_if false x y h k = k

stays_submit : (o : Option Refusal) (p : Shared) (s : Session) (limit : ℕ) (c : Command) → (submit_by o p s limit c).drops_pin ≡ false
stays_submit (Some r) p s limit c = refl
stays_submit None p s limit c = refl

pub undropped : (b : Bool) (held : List ℕ) → b ≡ false → (if b then [] else held) ≡ held
undropped true held e = cc
undropped false held e = refl

pub left_held : (set : Setting) (h : Flat) (s : Step) (w : DiskWord) → IsTrue (leaves_pin s) → (next set h s w).state.held ≡ h.held
left_held set h (step.Open s) w is = undropped (next_open h.shared s).drops_pin h.held (stays_if (is_open s h.shared.sessions) _ _ refl refl)
left_held set h (step.Close s) w is = undropped (next_close h.shared s).drops_pin h.held (stays_if (is_open s h.shared.sessions) _ _ refl refl)
left_held set h (step.Listen s c) w is = undropped (next_listen h.shared s c).drops_pin h.held (stays_if (is_open s h.shared.sessions) _ _ refl refl)
left_held set h (step.Lock s) w is = undropped (next_lock h.shared s).drops_pin h.held (stays_if (is_open s h.shared.sessions) _ _ refl refl)
left_held set h (step.Unlock s) w is = undropped (next_unlock h.shared s).drops_pin h.held (stays_if (is_open s h.shared.sessions) _ _ (stays_if (holds s h.shared.line) _ _ refl refl) refl)
left_held set h (step.Submit s limit c) w is = undropped (next_submit set.pin_rules h.shared s limit c).drops_pin h.held (stays_submit (submit_refusal set.pin_rules h.shared s c) h.shared s limit c)
left_held set h (step.Cancel s id) w is = undropped (next_cancel h.shared s id).drops_pin h.held (stays_if (is_open s h.shared.sessions) _ _ (stays_if (not (id == 0) && (length (pending_where (is_canceled h.shared s id) h.shared.requests) == 0)) _ _ refl refl) refl)
left_held set h step.Begin w is = cc
left_held set h step.Finish w is = cc
left_held set h (step.Press k) w is = cc
left_held set h (step.Tick n) w is = refl
left_held set h (step.Ask s q) w is = undropped (next_ask set.cipher h.shared (has_pin h.held) s q).drops_pin h.held (stays_if (is_open s h.shared.sessions) _ _ refl refl)
left_held set h step.Off w is = cc
left_held set h step.Boot w is = cc

-- a Finish of the request in work

held_by : (set : Setting) (h : Flat) (a : Request Command) (v : Work) (w : DiskWord) → request_in_work h.shared.requests ≡ Some a → work_of set h.shared (length h.held) a.command ≡ v → (next set h step.Finish w).state.held ≡ (after_said h (performs set h.shared h.held (owner_of a) v w)).state.held
held_by set h a v w work is = ap (λ (o : Option (Request Command)). (after_said h (finish_with set h.shared h.held o w)).state.held) work ∙ ap (λ (u : Work). (after_said h (performs set h.shared h.held (owner_of a) u w)).state.held) is

pub refused_pin_stays : (set : Setting) (h : Flat) (a : Request Command) (why : Refusal) (accused : Option (List ℕ)) (w : DiskWord) → request_in_work h.shared.requests ≡ Some a → work_of set h.shared (length h.held) a.command ≡ work.Refuse why accused → (next set h step.Finish w).state.held ≡ h.held
refused_pin_stays set h a why accused w is comes = held_by set h a _ w is comes

maintained : (b : Bool) (held : List ℕ) → b ≡ true → (if not b || false then [] else held) ≡ held
maintained true held e = refl
maintained false held e = cc

unmaintained : (b : Bool) (held : List ℕ) → b ≡ false → (if not b || false then [] else held) ≡ []
unmaintained true held e = cc
unmaintained false held e = refl

module _ (set : Setting) (h : Flat) (a : Request Command) (r : PinRequest) (first : List ℕ) (second : Option (List ℕ)) (draws : ℕ) (w : DiskWord) (is : request_in_work h.shared.requests ≡ Some a) (comes : work_of set h.shared (length h.held) a.command ≡ work.Release r first second draws) where
  pub used_pin_goes : h.shared.maintain ≡ false → (next set h step.Finish w).state.held ≡ []
  used_pin_goes off = held_by set h a _ w is comes ∙ unmaintained h.shared.maintain h.held off

  pub maintained_pin_stays : h.shared.maintain ≡ true → (next set h step.Finish w).state.held ≡ h.held
  maintained_pin_stays on = held_by set h a _ w is comes ∙ maintained h.shared.maintain h.held on
