-- What a PIN entry says shows no digit.
use Rattle.flat_machine.proofs.SeenHides.{hides-digit_seen, hides_if, hides_ignored, seen_hides}
use Rattle.flat_machine.proofs.EntryLemmas.{shown_pin}
use Rattle.flat_machine.specs.Ciphers.{Ciphers}
use Rattle.entry_core.specs.Entries.{Entry, active_seen, digit_seen, entered, is_key_part, is_pin, is_secret, shown_digit}
use Rattle.flat_machine.specs.EntrySteps.{entry_answer, press_in, press_seen}
use Rattle.flat_machine.specs.Machine.{line_of, next, secret_in}
use Rattle.flat_machine.specs.PinFacts.{hides_digits, reply_hides, shows_no_digit}
use Rattle.pad_words.specs.Numbers.{same_session}
use Rattle.flat_machine.specs.Sessions.{execute_event}
use Rattle.flat_machine.specs.State.{After, Flat, Running, running_entry}
use Rattle.flat_machine.specs.Settings.{Setting}
use Rattle.entry_core.specs.declared.seen.Seen.{Seen}
use Rattle.entry_core.specs.declared.seen.Seen.TheVariants.{Ended, Ignored, Took}
use Rattle.session_book.specs.declared.sessions.SessionRow.{SessionRow}
use Rattle.key_source.specs.Keys.{has_key}
use Rattle.key_source.specs.declared.Key.{Key}
use Rattle.pad_steps.specs.declared.answers.Completion.{Completion}
use Rattle.pad_steps.specs.declared.answers.Out.{Out}
use Rattle.pad_steps.specs.declared.answers.Reply.{Reply}
use Rattle.pad_steps.specs.declared.answers.Shown.{Shown}
use Rattle.pad_steps.specs.declared.commands.EntryKind.{EntryKind}
use Rattle.pad_steps.specs.declared.commands.Verify.{Verify}
use Rattle.pad_steps.specs.declared.steps.DiskWord.{DiskWord}
use Rattle.pad_words.specs.declared.numbers.Session.{Session}
use Rattle.std.proofs.Common.{subst, sym}
use Rattle.std.specs.List.{list_all, list_any}
use Rattle.std.specs.Prelude.{Bool, IsTrue, List, None, Option, Some, [], cond, false, if◌then◌else◌, length, nat_lt, refl, true, ℕ, ◌&&◌, ◌++◌, ◌+◌, ◌==◌, ◌∷◌, ◌≡◌}
use Rattle.key_source.specs.declared.Key.TheVariants as keypad
use Rattle.pad_steps.specs.declared.answers.Completion.TheVariants as completion
use Rattle.pad_steps.specs.declared.answers.Event.TheVariants as event
use Rattle.pad_steps.specs.declared.answers.Out.TheVariants as out
use Rattle.pad_steps.specs.declared.answers.Reply.TheVariants as reply
use Rattle.pad_steps.specs.declared.answers.Shown.TheVariants as shown
use Rattle.pad_steps.specs.declared.commands.EntryKind.TheVariants as entry_kind
use Rattle.pad_steps.specs.declared.steps.Step.TheVariants as step

-- what a key of a PIN entry shows

pub pin_is_no_part : (k : EntryKind) → is_pin k ≡ true → is_key_part k ≡ false
pin_is_no_part entry_kind.Pin e = refl
pin_is_no_part entry_kind.Figures e = refl
pin_is_no_part entry_kind.Part e = cc

masked_digit : (e : Entry) (n : ℕ) (k : Key) → is_pin e.kind ≡ true → seen_hides shows_no_digit (digit_seen e n (shown_digit e.kind k)) ≡ true
masked_digit e n k is = rw (shown_pin e.kind k is) (hides-digit_seen shows_no_digit refl (nat_lt n e.greatest) (e.auto_end && (n + 1 == e.greatest)))

pub pin_seen_hides : (e : Entry) (n : ℕ) (k : Key) → is_pin e.kind ≡ true → seen_hides shows_no_digit (active_seen e n k) ≡ true
pin_seen_hides e n (keypad.Digit d) is = masked_digit e n (keypad.Digit d) is
pin_seen_hides e n (keypad.Hex v) is = rw (pin_is_no_part e.kind is) (hides_if shows_no_digit (has_key e.terminate (keypad.Hex v)) _ _ refl refl)
pin_seen_hides e n keypad.Enter is = hides_if shows_no_digit (has_key e.terminate keypad.Enter) _ _ (hides_ignored shows_no_digit (nat_lt n e.least) (Ended (shown.Plain keypad.Enter) completion.Enter) refl) refl
pin_seen_hides e n keypad.Cancel is = hides_if shows_no_digit (has_key e.terminate keypad.Cancel) _ _ refl refl
pin_seen_hides e n keypad.Clear is = hides_if shows_no_digit (has_key e.terminate keypad.Clear) _ _ refl refl
pin_seen_hides e n keypad.Backspace is = hides_if shows_no_digit (has_key e.terminate keypad.Backspace) _ _ refl refl
pin_seen_hides e n keypad.Help is = hides_if shows_no_digit (has_key e.terminate keypad.Help) _ _ (hides_ignored shows_no_digit (nat_lt n e.least) (Ended (shown.Plain keypad.Help) completion.Help) refl) refl
pin_seen_hides e n (keypad.Fdk m) is = hides_if shows_no_digit (has_key e.terminate (keypad.Fdk m)) _ _ (hides_ignored shows_no_digit (nat_lt n e.least) (Ended (shown.Plain (keypad.Fdk m)) (completion.Fdk m)) refl) refl

-- what it says

event_hides_if : (b : Bool) (s : Session) (t : Shown) (rest : List Out) → shows_no_digit t ≡ true → list_all hides_digits rest ≡ true → list_all hides_digits ((if b then out.Event s (event.Key t) ∷ [] else []) ++ rest) ≡ true
event_hides_if true s t rest h k = rw h k
event_hides_if false s t rest h k = k

key_hides : (rows : List SessionRow) (s : Session) (t : Shown) (rest : List Out) → shows_no_digit t ≡ true → list_all hides_digits rest ≡ true → list_all hides_digits (execute_event rows s (event.Key t) ++ rest) ≡ true
key_hides rows s t rest h k = event_hides_if (list_any (λ row. same_session row.session s && row.classes.execute) rows) s t rest h k

alone_if : (b : Bool) (s : Session) (t : Shown) → shows_no_digit t ≡ true → list_all hides_digits (if b then out.Event s (event.Key t) ∷ [] else []) ≡ true
alone_if true s t h = rw h refl
alone_if false s t h = refl

key_alone_hides : (rows : List SessionRow) (s : Session) (t : Shown) → shows_no_digit t ≡ true → list_all hides_digits (execute_event rows s (event.Key t)) ≡ true
key_alone_hides rows s t h = alone_if (list_any (λ row. same_session row.session s && row.classes.execute) rows) s t h

pin_reply_hides : (cipher : Ciphers) (k : EntryKind) (v : Verify) (c : Completion) (ds : List ℕ) → is_pin k ≡ true → reply_hides (reply.Ok (entry_answer cipher k v c ds)) ≡ true
pin_reply_hides cipher entry_kind.Pin v c ds is = refl
pin_reply_hides cipher entry_kind.Figures v c ds is = cc
pin_reply_hides cipher entry_kind.Part v c ds is = cc

one_out : (s : Session) (id : ℕ) (r : Reply) → reply_hides r ≡ true → list_all hides_digits (out.Ended s id r ∷ []) ≡ true
one_out s id r h = rw h refl

press_hides : (set : Setting) (h : Flat) (w : Running) (k : Key) (seen : Seen) → is_pin w.entry.kind ≡ true → seen_hides shows_no_digit seen ≡ true → list_all hides_digits (press_seen set.cipher h w k seen).outs ≡ true
press_hides set h w k Ignored is e = refl
press_hides set h w k (Took s) is e = key_alone_hides h.shared.sessions w.session s e
press_hides set h w k (Ended s c) is e =
    let answered = reply.Ok (entry_answer set.cipher w.entry.kind w.entry.check c (entered w.entry (k ∷ h.presses))) in
    key_hides h.shared.sessions w.session s (out.Ended w.session w.id answered ∷ []) e (one_out w.session w.id answered (pin_reply_hides set.cipher w.entry.kind w.entry.check c (entered w.entry (k ∷ h.presses)) is))

hides_if_active : (b : Bool) (x : After) (h : Flat) → list_all hides_digits x.outs ≡ true → list_all hides_digits (cond b x (record { state = h; outs = [] })).outs ≡ true
hides_if_active true x h e = e
hides_if_active false x h e = refl

press_in_hides : (set : Setting) (h : Flat) (w : Running) (k : Key) → is_pin w.entry.kind ≡ true → list_all hides_digits (press_in set.cipher h (Some w) k).outs ≡ true
press_in_hides set h w k is = hides_if_active (has_key w.entry.active k) _ h (press_hides set h w k (active_seen w.entry (length (entered w.entry h.presses)) k) is (pin_seen_hides w.entry (length (entered w.entry h.presses)) k is))

pub pin_entry_hides : (set : Setting) (h : Flat) (k : Key) (d : DiskWord) (w : Running) → running_entry h.shared ≡ Some w → IsTrue (is_pin w.entry.kind) → IsTrue (list_all hides_digits (next set h (step.Press k) d).outs)
pin_entry_hides set h k d w runs is = subst (λ (o : Option Running). list_all hides_digits (press_in set.cipher h o k).outs ≡ true) (sym runs) (press_in_hides set h w k is)

pub pin_digit_unshown : (set : Setting) (h : Flat) (k : Key) (d : DiskWord) (w : Running) → running_entry h.shared ≡ Some w → IsTrue (is_secret w.entry k) → (line_of set h (record { step = step.Press k; word = d })).shown ≡ None
pin_digit_unshown set h k d w runs secret = subst (λ (o : Option Running). (if secret_in o k then None else Some (step.Press k)) ≡ None) (sym runs) (hidden (is_secret w.entry k) k secret)
  where
    hidden : (b : Bool) (k : Key) → b ≡ true → (if b then None else Some (step.Press k)) ≡ None
    hidden true k e = refl
    hidden false k e = cc
