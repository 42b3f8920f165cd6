-- What a key part entry says of its digits: their number, and the key check value that was asked for.
use Rattle.entry_core.specs.Entries.{Entry, active_seen, after_value, digit_in, digit_seen, entered, is_key_part, shown_digit, value_seen}
use Rattle.entry_core.specs.declared.seen.Seen.{Seen}
use Rattle.entry_core.specs.declared.seen.Seen.TheVariants.{Ended, Ignored, Took}
use Rattle.flat_machine.proofs.SeenHides.{hides-digit_seen, hides_if, hides_ignored, seen_hides}
use Rattle.flat_machine.proofs.BoolLemmas.{both}
use Rattle.flat_machine.proofs.ClearingAnswers.{press_to}
use Rattle.flat_machine.proofs.EndingLemmas.{endings-append, endings-execute_event}
use Rattle.flat_machine.proofs.EntryLemmas.{acts_alike}
use Rattle.flat_machine.specs.Ciphers.{Ciphers}
use Rattle.flat_machine.specs.PinFacts.{EntryRuns}
use Rattle.flat_machine.specs.Clearing.{EndsPart}
use Rattle.flat_machine.specs.Disclosure.{AlikeParts, check_after, hides_part, hides_part_digit, is_active_digit, part_ending}
use Rattle.flat_machine.specs.EntrySteps.{entry_answer, part_check, press_in, press_seen}
use Rattle.flat_machine.specs.Machine.{next}
use Rattle.flat_machine.specs.RequestFacts.{Ending, endings}
use Rattle.flat_machine.specs.Sessions.{execute_event}
use Rattle.flat_machine.specs.Settings.{Setting}
use Rattle.flat_machine.specs.State.{After, Flat, Running, running_entry}
use Rattle.key_source.specs.Keys.{has_key}
use Rattle.key_source.specs.declared.Key.{Key}
use Rattle.key_source.specs.declared.Key.TheVariants as keypad
use Rattle.pad_steps.specs.declared.answers.Answer.{Answer}
use Rattle.pad_steps.specs.declared.answers.Answer.TheVariants as answer
use Rattle.pad_steps.specs.declared.answers.Completion.{Completion}
use Rattle.pad_steps.specs.declared.answers.Completion.TheVariants as completion
use Rattle.pad_steps.specs.declared.answers.Event.TheVariants as event
use Rattle.pad_steps.specs.declared.answers.Out.{Out}
use Rattle.pad_steps.specs.declared.answers.Out.TheVariants as out
use Rattle.pad_steps.specs.declared.answers.Reply.TheVariants as reply
use Rattle.pad_steps.specs.declared.answers.Shown.{Shown}
use Rattle.pad_steps.specs.declared.answers.Shown.TheVariants as shown
use Rattle.pad_steps.specs.declared.commands.EntryKind.{EntryKind}
use Rattle.pad_steps.specs.declared.commands.EntryKind.TheVariants as entry_kind
use Rattle.pad_steps.specs.declared.commands.Verify.{Verify}
use Rattle.pad_steps.specs.declared.steps.DiskWord.{DiskWord}
use Rattle.pad_steps.specs.declared.steps.Step.TheVariants as step
use Rattle.pad_words.specs.declared.numbers.Session.{Session}
use Rattle.session_book.specs.Sessions.{hears}
use Rattle.session_book.specs.declared.sessions.SessionRow.{SessionRow}
use Rattle.pad_steps.specs.declared.steps.Class.TheVariants as class
use Rattle.std.proofs.Common.{ap, arith, inl, inr, length-append, subst, sym, ◌∙◌}
use Rattle.std.specs.List.{list_all}
use Rattle.std.specs.Prelude.{Bool, IsTrue, List, None, Option, Some, [], cond, false, if◌then◌else◌, is_some, length, nat_lt, refl, true, ℕ, ◌&&◌, ◌++◌, ◌+◌, ◌==◌, ◌∷◌, ◌≡◌, ◌⊎◌}

-- what a key shows

shown_part : (s : EntryKind) (k : Key) → is_key_part s ≡ true → shown_digit s k ≡ shown.Masked
shown_part entry_kind.Pin k is = cc
shown_part entry_kind.Figures k is = cc
shown_part entry_kind.Part k is = refl

-- a digit of a key part is masked
value_seen-part : (e : Entry) (o : Option ℕ) (n : ℕ) (k : Key) → is_some o ≡ true → is_key_part e.kind ≡ true → value_seen e o n k ≡ digit_seen e n shown.Masked
value_seen-part e None n k some is = cc
value_seen-part e (Some v) n k some is = ap (λ (s : Shown). digit_seen e n s) (shown_part e.kind k is)

masked_digit : (e : Entry) (n : ℕ) (o : Option ℕ) (k : Key) → is_some o ≡ true → is_key_part e.kind ≡ true → seen_hides hides_part_digit (value_seen e o n k) ≡ true
masked_digit e n o k some is = ap (seen_hides hides_part_digit) (value_seen-part e o n k some is) ∙ hides-digit_seen hides_part_digit refl (nat_lt n e.greatest) (e.auto_end && (n + 1 == e.greatest))

part_seen_hides : (e : Entry) (n : ℕ) (k : Key) → is_key_part e.kind ≡ true → seen_hides hides_part_digit (active_seen e n k) ≡ true
part_seen_hides e n (keypad.Digit d) is = masked_digit e n (Some d.value) (keypad.Digit d) refl is
part_seen_hides e n (keypad.Hex v) is = masked_digit e n (if is_key_part e.kind then Some v else None) (keypad.Hex v) (ap (λ (b : Bool). is_some (if b then Some v else None)) is) is
part_seen_hides e n keypad.Enter is = hides_if hides_part_digit (has_key e.terminate keypad.Enter) _ _ (hides_ignored hides_part_digit (nat_lt n e.least) (Ended (shown.Plain keypad.Enter) completion.Enter) refl) refl
part_seen_hides e n keypad.Cancel is = hides_if hides_part_digit (has_key e.terminate keypad.Cancel) _ _ refl refl
part_seen_hides e n keypad.Clear is = hides_if hides_part_digit (has_key e.terminate keypad.Clear) _ _ refl refl
part_seen_hides e n keypad.Backspace is = hides_if hides_part_digit (has_key e.terminate keypad.Backspace) _ _ refl refl
part_seen_hides e n keypad.Help is = hides_if hides_part_digit (has_key e.terminate keypad.Help) _ _ (hides_ignored hides_part_digit (nat_lt n e.least) (Ended (shown.Plain keypad.Help) completion.Help) refl) refl
part_seen_hides e n (keypad.Fdk m) is = hides_if hides_part_digit (has_key e.terminate (keypad.Fdk m)) _ _ (hides_ignored hides_part_digit (nat_lt n e.least) (Ended (shown.Plain (keypad.Fdk m)) (completion.Fdk m)) refl) refl

-- what it says

key_hides : (b : Bool) (s : Session) (t : Shown) (rest : List Out) → hides_part_digit t ≡ true → list_all hides_part rest ≡ true → list_all hides_part ((if b then out.Event s (event.Key t) ∷ [] else []) ++ rest) ≡ true
key_hides true s t rest h k = rw h k
key_hides false s t rest h k = k

key_alone_hides : (b : Bool) (s : Session) (t : Shown) → hides_part_digit t ≡ true → list_all hides_part (if b then out.Event s (event.Key t) ∷ [] else []) ≡ true
key_alone_hides true s t h = rw h refl
key_alone_hides false s t h = refl

-- the reply has the number of digits, the completion and the check value
part_answer : (cipher : Ciphers) (k : EntryKind) (v : Verify) (c : Completion) (ds : List ℕ) → is_key_part k ≡ true → entry_answer cipher k v c ds ≡ answer.Part (length ds) c (part_check cipher v ds)
part_answer cipher entry_kind.Pin v c ds is = cc
part_answer cipher entry_kind.Figures v c ds is = cc
part_answer cipher entry_kind.Part v c ds is = refl

one_out : (s : Session) (id : ℕ) (x : Answer) (n : ℕ) (c : Completion) (check : Option (List ℕ)) → x ≡ answer.Part n c check → list_all hides_part (out.Ended s id (reply.Ok x) ∷ []) ≡ true
one_out s id x n c check is = rw is refl

module _ (set : Setting) (h : Flat) (w : Running) (is : is_key_part w.entry.kind ≡ true) (k : Key) where
  part_press : (seen : Seen) → seen_hides hides_part_digit seen ≡ true → list_all hides_part (press_seen set.cipher h w k seen).outs ≡ true
  part_press Ignored e = refl
  part_press (Took s) e = key_alone_hides (hears w.session class.Execute h.shared.sessions) w.session s e
  part_press (Ended s c) e =
      let ds = entered w.entry (k ∷ h.presses) in
      key_hides (hears w.session class.Execute h.shared.sessions) w.session s (out.Ended w.session w.id (reply.Ok (entry_answer set.cipher w.entry.kind w.entry.check c ds)) ∷ []) e
      (one_out w.session w.id _ (length ds) c (part_check set.cipher w.entry.check ds) (part_answer set.cipher w.entry.kind w.entry.check c ds is))

  hides_cond : (b : Bool) (x : After) → list_all hides_part x.outs ≡ true → list_all hides_part (cond b x (record { state = h; outs = [] })).outs ≡ true
  hides_cond true x e = e
  hides_cond false x e = refl

  part_in_hides : list_all hides_part (press_in set.cipher h (Some w) k).outs ≡ true
  part_in_hides = hides_cond (has_key w.entry.active k) _ (part_press (active_seen w.entry (length (entered w.entry h.presses)) k) (part_seen_hides w.entry (length (entered w.entry h.presses)) k is))

pub part_entry_hides : (set : Setting) (h : Flat) (k : Key) (d : DiskWord) → EntryRuns is_key_part h.shared → IsTrue (list_all hides_part (next set h (step.Press k) d).outs)
part_entry_hides set h k d entry = subst (λ (o : Option Running). list_all hides_part (press_in set.cipher h o k).outs ≡ true) (sym entry.runs) (part_in_hides set h entry.current entry.kind k)

-- the end that is told

ended_told : (rows : List SessionRow) (w : Running) (s : Shown) (x y : Answer) → x ≡ y → endings (execute_event rows w.session (event.Key s) ++ out.Ended w.session w.id (reply.Ok x) ∷ []) ≡ record { id = w.id; session = w.session; reply = reply.Ok y } ∷ []
ended_told rows w s x y same =
    endings-append (execute_event rows w.session (event.Key s)) (out.Ended w.session w.id (reply.Ok x) ∷ [])
    ∙ ap (λ (es : List Ending). es ++ record { id = w.id; session = w.session; reply = reply.Ok x } ∷ []) (endings-execute_event rows w.session (event.Key s))
    ∙ ap (λ (z : Answer). record { id = w.id; session = w.session; reply = reply.Ok z } ∷ []) same

pub part_end_told : (set : Setting) (h : Flat) (k : Key) (d : DiskWord) (w : Running) (c : Completion) → EndsPart h k w c → endings (next set h (step.Press k) d).outs ≡ part_ending set h k w c ∷ []
part_end_told set h k d w c ends =
    ap (λ (x : After). endings x.outs) (press_to set h w k (Ended ends.shown c) ends.runs ends.active ends.ends)
    ∙ ended_told h.shared.sessions w ends.shown _ _ (part_answer set.cipher w.entry.kind w.entry.check c (entered w.entry (k ∷ h.presses)) ends.of_part)

-- two key parts that show alike

length_pushed : (b : Bool) (xs ys : List ℕ) (m n : ℕ) → length ys ≡ length xs → length (cond b (ys ++ n ∷ []) ys) ≡ length (cond b (xs ++ m ∷ []) xs)
length_pushed true xs ys m n e = omega (arith, length-append xs (m ∷ []), length-append ys (n ∷ []), e)
length_pushed false xs ys m n e = e

length_digits : (e : Entry) (o q : Option ℕ) (a b : Key) (xs ys : List ℕ) → is_some o ≡ true → is_some q ≡ true → length ys ≡ length xs → length (after_value e q b ys) ≡ length (after_value e o a xs)
length_digits e None q a b xs ys so sq same = cc
length_digits e (Some v) None a b xs ys so sq same = cc
length_digits e (Some v) (Some u) a b xs ys so sq same = rw same (length_pushed (nat_lt (length xs) e.greatest) xs ys v u same)

-- two keys that act alike at a number of digits, and leave as many
record ActAlike (e : Entry) (a b : Key) : Type 0 where
  pub active : has_key e.active b ≡ has_key e.active a
  pub seen : (n : ℕ) → active_seen e n b ≡ active_seen e n a
  pub count : (xs ys : List ℕ) → length ys ≡ length xs → length (after_value e (digit_in e.kind b) b ys) ≡ length (after_value e (digit_in e.kind a) a xs)

digits_act : (e : Entry) (a b : Key) → is_key_part e.kind ≡ true → is_active_digit e a ≡ true → is_active_digit e b ≡ true → ActAlike e a b
digits_act e a b is da db =
    let pa = both (is_some (digit_in e.kind a)) (has_key e.active a) da in
    let pb = both (is_some (digit_in e.kind b)) (has_key e.active b) db in
    record {
      active = pb.1 ∙ sym pa.1;
      seen = λ n. value_seen-part e (digit_in e.kind b) n b pb.0 is ∙ sym (value_seen-part e (digit_in e.kind a) n a pa.0 is);
      count = λ xs ys same. length_digits e (digit_in e.kind a) (digit_in e.kind b) a b xs ys pa.0 pb.0 same;
    }

same_acts : (e : Entry) (a : Key) → ActAlike e a a
same_acts e a = let acts = acts_alike e a a (inl refl) in record { active = acts.active; seen = acts.seen; count = acts.count }

keys_act : (e : Entry) (a b : Key) → is_key_part e.kind ≡ true → (a ≡ b) ⊎ (IsTrue (is_active_digit e a) × IsTrue (is_active_digit e b)) → ActAlike e a b
keys_act e a b is (inl same) = subst (λ (k : Key). ActAlike e a k) same (same_acts e a)
keys_act e a b is (inr digits) = digits_act e a b is digits.0 digits.1

same_part : (m n : ℕ) (c : Completion) (x y : Option (List ℕ)) → n ≡ m → y ≡ x → answer.Part n c y ≡ answer.Part m c x
same_part m n c x y e f = rw (e, f) refl

module _ (set : Setting) (h g : Flat) (a b : Key) (w : Running) (is : is_key_part w.entry.kind ≡ true) (rows : g.shared.sessions ≡ h.shared.sessions) (few : length (entered w.entry (b ∷ g.presses)) ≡ length (entered w.entry (a ∷ h.presses))) where
  answers_alike : (c : Completion) → check_after set w.entry g b ≡ check_after set w.entry h a → entry_answer set.cipher w.entry.kind w.entry.check c (entered w.entry (b ∷ g.presses)) ≡ entry_answer set.cipher w.entry.kind w.entry.check c (entered w.entry (a ∷ h.presses))
  answers_alike c check =
      part_answer set.cipher w.entry.kind w.entry.check c (entered w.entry (b ∷ g.presses)) is
      ∙ same_part _ _ c _ _ few check
      ∙ sym (part_answer set.cipher w.entry.kind w.entry.check c (entered w.entry (a ∷ h.presses)) is)

  seen_alike : (seen : Seen) → ((s : Shown) (c : Completion) → seen ≡ Ended s c → check_after set w.entry g b ≡ check_after set w.entry h a) → (press_seen set.cipher g w b seen).outs ≡ (press_seen set.cipher h w a seen).outs
  seen_alike Ignored check = refl
  seen_alike (Took s) check = ap (λ (r : List SessionRow). execute_event r w.session (event.Key s)) rows
  seen_alike (Ended s c) check =
      ap (λ (r : List SessionRow). execute_event r w.session (event.Key s) ++ out.Ended w.session w.id (reply.Ok (entry_answer set.cipher w.entry.kind w.entry.check c (entered w.entry (b ∷ g.presses)))) ∷ []) rows
      ∙ ap (λ (x : Answer). execute_event h.shared.sessions w.session (event.Key s) ++ out.Ended w.session w.id (reply.Ok x) ∷ []) (answers_alike c (check s c refl))

outs_cond : (p q : Bool) (x y : After) (h g : Flat) → q ≡ p → (p ≡ true → y.outs ≡ x.outs) → (cond q y (record { state = g; outs = [] })).outs ≡ (cond p x (record { state = h; outs = [] })).outs
outs_cond true true x y h g e f = f refl
outs_cond true false x y h g e f = cc
outs_cond false true x y h g e f = cc
outs_cond false false x y h g e f = refl

pub parts_say_alike : (set : Setting) (h g : Flat) (a b : Key) (d : DiskWord) → AlikeParts set h g a b → (next set g (step.Press b) d).outs ≡ (next set h (step.Press a) d).outs
parts_say_alike set h g a b d alike =
    let w = alike.current in
    let acts = keys_act w.entry a b alike.of_part alike.keys in
    let seen = active_seen w.entry (length (entered w.entry h.presses)) a in
    let few = acts.count (entered w.entry h.presses) (entered w.entry g.presses) alike.count in
    let runs_g : running_entry g.shared ≡ Some w = ap running_entry alike.shared ∙ alike.runs in
    let seen_g = ap (λ (n : ℕ). active_seen w.entry n b) alike.count ∙ acts.seen (length (entered w.entry h.presses)) in
    let checks : has_key w.entry.active a ≡ true → (s : Shown) (c : Completion) → seen ≡ Ended s c → check_after set w.entry g b ≡ check_after set w.entry h a
    = λ active s c ends. alike.check c (record { runs = alike.runs; of_part = alike.of_part; active = active; shown = s; ends = ends }) in
    let presses : has_key w.entry.active a ≡ true → (press_seen set.cipher g w b seen).outs ≡ (press_seen set.cipher h w a seen).outs
    = λ active. seen_alike set h g a b w alike.of_part (ap (λ p. p.sessions) alike.shared) few seen (checks active) in
    ap (λ (o : Option Running). (press_in set.cipher g o b).outs) runs_g
    ∙ outs_cond (has_key w.entry.active a) (has_key w.entry.active b) _ _ h g acts.active (λ active. ap (λ (s : Seen). (press_seen set.cipher g w b s).outs) seen_g ∙ presses active)
    ∙ sym (ap (λ (o : Option Running). (press_in set.cipher h o a).outs) alike.runs)
