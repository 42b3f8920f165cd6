-- The unwinding law of one step, and of runs.
use Rattle.flat_machine.proofs.EntryLemmas.{acts_alike, length-entered, plain_presses}
use Rattle.flat_machine.proofs.EntryStays.{Drops, Keeps, KeepsEntry, keeps_begin, keeps_cancel, keeps_close, keeps_finish, keeps_if, keeps_if_open, keeps_loads, keeps_open, keeps_power, keeps_submit, keeps_tick, keeps_unlock}
use Rattle.flat_machine.proofs.TwinLemmas.{same_finish, shape_with}
use Rattle.flat_machine.specs.Ciphers.{Ciphers}
use Rattle.entry_core.specs.Entries.{Entry, active_seen, entered, is_key_part, is_pin}
use Rattle.flat_machine.specs.EntrySteps.{after_entry, ends_entry, entry_answer, press_in, press_seen}
use Rattle.flat_machine.specs.Machine.{is_masked, next, release, secret_in}
use Rattle.flat_machine.specs.RequestSteps.{is_canceled, next_ask, submit_refusal}
use Rattle.request_queue.specs.Requests.{finished, pending_where, request_in_work}
use Rattle.flat_machine.specs.Sessions.{execute_event}
use Rattle.flat_machine.specs.State.{After, Flat, Shared, Running, Said, after_said, is_off, running_entry}
use Rattle.flat_machine.specs.Twins.{Alike, AlikeAfter, AlikeEntries, AlikeKeys, AlikePresses}
use Rattle.flat_machine.specs.Settings.{Setting}
use Rattle.entry_core.specs.declared.seen.Seen.{Seen}
use Rattle.entry_core.specs.declared.seen.Seen.TheVariants.{Ended, Ignored, Took}
use Rattle.key_source.specs.Keys.{has_key}
use Rattle.key_source.specs.declared.Key.{Key}
use Rattle.pad_steps.specs.declared.answers.Answer.{Answer}
use Rattle.pad_steps.specs.declared.answers.Completion.{Completion}
use Rattle.pad_steps.specs.declared.answers.Shown.{Shown}
use Rattle.pad_steps.specs.declared.commands.EntryKind.{EntryKind}
use Rattle.pad_steps.specs.declared.commands.Verify.{Verify}
use Rattle.pad_steps.specs.declared.steps.DiskWord.{DiskWord}
use Rattle.pad_steps.specs.declared.steps.Step.{Step}
use Rattle.std.proofs.Common.{ap, inl, inr, subst, sym}
use Rattle.std.specs.Prelude.{Bool, List, None, Option, Some, [], cond, false, if◌then◌else◌, is_some, length, nat_lt, refl, true, ℕ, ◌++◌, ◌∷◌, ◌≡◌}
use Rattle.pad_steps.specs.declared.answers.Answer.TheVariants as answer
use Rattle.pad_steps.specs.declared.answers.Event.TheVariants as event
use Rattle.pad_steps.specs.declared.answers.Out.TheVariants as out
use Rattle.pad_steps.specs.declared.answers.Reply.TheVariants as reply
use Rattle.pad_steps.specs.declared.commands.EntryKind.TheVariants as entry_kind
use Rattle.pad_steps.specs.declared.steps.Step.TheVariants as step

abbrev pub flat : Shared → List Key → List ℕ → Flat
flat p ks d = record { shared = p; presses = ks; held = d }

alike_keys_self : (e : Entry) (ks : List Key) → AlikePresses e ks ks
alike_keys_self e [] = tt
alike_keys_self e (k ∷ ks) = (inl refl, alike_keys_self e ks)

pub alike_entry_self : (w : Option Running) (ks : List Key) → AlikeEntries w ks ks
alike_entry_self None ks = refl
alike_entry_self (Some w) ks = alike_keys_self w.entry ks

pub alike_self : (h : Flat) → Alike h h
alike_self h = record { shared = refl; presses = alike_entry_self (running_entry h.shared) h.presses; held = refl }

length-cond : (b : Bool) (xs ys hs gs : List ℕ) → length ys ≡ length xs → length gs ≡ length hs → length (cond b ys gs) ≡ length (cond b xs hs)
length-cond true xs ys hs gs e f = e
length-cond false xs ys hs gs e f = f

-- replies of an entry that ended

entry_answer-alike : (cipher : Ciphers) (s : EntryKind) (v : Verify) (c : Completion) (ds es : List ℕ) → length es ≡ length ds → (is_pin s ≡ false → es ≡ ds) → entry_answer cipher s v c es ≡ entry_answer cipher s v c ds
entry_answer-alike cipher entry_kind.Pin v c ds es few plain = ap (λ (n : ℕ). answer.Entered n c) few
entry_answer-alike cipher entry_kind.Figures v c ds es few plain = ap (λ (xs : List ℕ). answer.Figures xs c) (plain refl)
entry_answer-alike cipher entry_kind.Part v c ds es few plain = ap (λ (xs : List ℕ). entry_answer cipher entry_kind.Part v c xs) (plain refl)

part-alike : (s : EntryKind) (part ds es : List ℕ) → (is_pin s ≡ false → es ≡ ds) → (if is_key_part s then es else part) ≡ (if is_key_part s then ds else part)
part-alike entry_kind.Pin part ds es plain = refl
part-alike entry_kind.Figures part ds es plain = refl
part-alike entry_kind.Part part ds es plain = plain refl

over-alike : (p : Shared) (x y : Answer) (u v : List ℕ) → y ≡ x → v ≡ u → (record p { requests = finished (reply.Ok y) p.requests; part = v }) ≡ (record p { requests = finished (reply.Ok x) p.requests; part = u })
over-alike p x y u v e f = rw (e, f) refl

-- two states that share the shared part

module _ (set : Setting) (p : Shared) (hp gp : List Key) (hd gd : List ℕ) (few : length gd ≡ length hd) where
  -- what a step that digits do not reach leaves of the presses
  kept_presses : (b : Bool) (q : Shared) → b ≡ true → AlikeEntries (running_entry q) (if b then [] else hp) (if b then [] else gp)
  kept_presses true q e = alike_entry_self (running_entry q) []
  kept_presses false q e = cc

  same_presses : (b : Bool) (w v : Option Running) → v ≡ w → AlikeEntries w hp gp → AlikeEntries v (if b then [] else hp) (if b then [] else gp)
  same_presses true w v e alike = alike_entry_self v []
  same_presses false w v e alike = rw e alike

  presses_after : (s : Said) → KeepsEntry p s → AlikeEntries (running_entry p) hp gp → AlikeEntries (running_entry s.shared) (if s.drops_presses then [] else hp) (if s.drops_presses then [] else gp)
  presses_after s (Drops d) alike = kept_presses s.drops_presses s.shared d
  presses_after s (Keeps e) alike = same_presses s.drops_presses (running_entry p) (running_entry s.shared) e alike

  said_alike : (s : Said) → KeepsEntry p s → AlikeEntries (running_entry p) hp gp → AlikeAfter (after_said (flat p hp hd) s) (after_said (flat p gp gd) s)
  said_alike s k alike = record {
    state = record { shared = refl; presses = presses_after s k alike; held = length-cond s.drops_pin [] [] hd gd refl few };
    outs = refl;
  }

  -- where the two say the same
  two_said : (s t : Said) → t ≡ s → KeepsEntry p s → AlikeEntries (running_entry p) hp gp → AlikeAfter (after_said (flat p hp hd) s) (after_said (flat p gp gd) t)
  two_said s t same k alike = subst (λ (u : Said). AlikeAfter (after_said (flat p hp hd) s) (after_said (flat p gp gd) u)) (sym same) (said_alike s k alike)

  -- presses

  entry_over_alike : (w : Running) (a b : Key) (s : Shown) (c : Completion) (ds es : List ℕ) → length es ≡ length ds → (is_pin w.entry.kind ≡ false → es ≡ ds)
      → AlikeAfter (ends_entry set.cipher (flat p hp hd) w a s c ds) (ends_entry set.cipher (flat p gp gd) w b s c es)
  entry_over_alike w a b s c ds es same plain =
      let x = entry_answer-alike set.cipher w.entry.kind w.entry.check c ds es same plain in
      record {
        state = record {
          shared = over-alike p _ _ _ _ x (part-alike w.entry.kind p.part ds es plain);
          presses = alike_entry_self (running_entry (after_entry set.cipher p w s c ds)) [];
          held = length-cond (is_pin w.entry.kind) ds es hd gd same few;
        };
        outs = ap (λ (r : Answer). execute_event p.sessions w.session (event.Key s) ++ out.Ended w.session w.id (reply.Ok r) ∷ []) x;
      }

  press_sees : (w : Running) (a b : Key) (seen : Seen) → running_entry p ≡ Some w → AlikePresses w.entry hp gp → AlikeKeys w.entry a b
      → AlikeAfter (press_seen set.cipher (flat p hp hd) w a seen) (press_seen set.cipher (flat p gp gd) w b seen)
  press_sees w a b Ignored is alike keys = record { state = record { shared = refl; presses = rw is (keys, alike); held = few }; outs = refl }
  press_sees w a b (Took s) is alike keys = record { state = record { shared = refl; presses = rw is (keys, alike); held = few }; outs = refl }
  press_sees w a b (Ended s c) is alike keys =
      entry_over_alike w a b s c (entered w.entry (a ∷ hp)) (entered w.entry (b ∷ gp))
      (length-entered w.entry (a ∷ hp) (b ∷ gp) (keys, alike))
      (λ plain. ap (entered w.entry) (plain_presses w.entry (a ∷ hp) (b ∷ gp) plain (keys, alike)))

  stays : AlikeEntries (running_entry p) hp gp → AlikeAfter (record { state = flat p hp hd; outs = [] }) (record { state = flat p gp gd; outs = [] })
  stays alike = record { state = record { shared = refl; presses = alike; held = few }; outs = refl }

  press_if : (b : Bool) (x y : After) → AlikeAfter x y → AlikeEntries (running_entry p) hp gp
      → AlikeAfter (cond b x (record { state = flat p hp hd; outs = [] })) (cond b y (record { state = flat p gp gd; outs = [] }))
  press_if true x y one alike = one
  press_if false x y one alike = stays alike

  abbrev AlikeKeysIn : Option Running → Key → Key → Type 0
  AlikeKeysIn None a b = Unit {0}
  AlikeKeysIn (Some w) a b = AlikeKeys w.entry a b

  same_key_in : (w : Option Running) (k : Key) → AlikeKeysIn w k k
  same_key_in None k = tt
  same_key_in (Some w) k = inl refl

  secret_keys_in : (w : Option Running) (a b : Key) → secret_in w a ≡ true → secret_in w b ≡ true → AlikeKeysIn w a b
  secret_keys_in None a b sa sb = tt
  secret_keys_in (Some w) a b sa sb = inr (sa, sb)

  press_alike : (w : Option Running) (a b : Key) → running_entry p ≡ w → AlikeEntries w hp gp → AlikeKeysIn w a b → AlikeAfter (press_in set.cipher (flat p hp hd) w a) (press_in set.cipher (flat p gp gd) w b)
  press_alike None a b is alike keys = stays (rw is alike)
  press_alike (Some w) a b is alike keys =
      let acts = acts_alike w.entry a b keys in
      let count : length (entered w.entry gp) ≡ length (entered w.entry hp) = length-entered w.entry hp gp alike in
      rw (acts.active, count, acts.seen (length (entered w.entry hp)))
      (press_if (has_key w.entry.active a) _ _ (press_sees w a b (active_seen w.entry (length (entered w.entry hp)) a) is alike keys) (rw is alike))

  -- the same step
  pub same_alike : (s : Step) (w : DiskWord) → AlikeEntries (running_entry p) hp gp → release set (flat p gp gd) s ≡ release set (flat p hp hd) s → AlikeAfter (next set (flat p hp hd) s w) (next set (flat p gp gd) s w)
  same_alike (step.Open s) w alike e = said_alike _ (keeps_open p s) alike
  same_alike (step.Close s) w alike e = said_alike _ (keeps_close p s) alike
  same_alike (step.Listen s c) w alike e = said_alike _ (keeps_if_open p s _ (Keeps refl)) alike
  same_alike (step.Lock s) w alike e = said_alike _ (keeps_if_open p s _ (Keeps refl)) alike
  same_alike (step.Unlock s) w alike e = said_alike _ (keeps_unlock p s) alike
  same_alike (step.Submit s limit c) w alike e = said_alike _ (keeps_submit p s limit c (submit_refusal set.pin_rules p s c)) alike
  same_alike (step.Cancel s id) w alike e = said_alike _ (keeps_if_open p s _ (keeps_cancel p s id (pending_where (is_canceled p s id) p.requests))) alike
  same_alike step.Begin w alike e = said_alike _ (keeps_begin p) alike
  same_alike step.Finish w alike e = two_said _ _ (same_finish set p hd gd few (request_in_work p.requests) w e) (keeps_finish set p hd (request_in_work p.requests) w) alike
  same_alike (step.Press k) w alike e = press_alike (running_entry p) k k refl alike (same_key_in (running_entry p) k)
  same_alike (step.Tick n) w alike e = said_alike _ (keeps_tick p n) alike
  same_alike (step.Ask s q) w alike e = two_said _ _ (ap (λ (n : ℕ). next_ask set.cipher p (nat_lt 0 n) s q) few) (keeps_if_open p s _ (Keeps refl)) alike
  same_alike step.Off w alike e = said_alike _ (keeps_if p (is_off p.device) _ _ (Keeps refl) (keeps_power p p refl)) alike
  same_alike step.Boot w alike e = said_alike _ (keeps_if p (is_off p.device) _ _ (keeps_loads p w) (Keeps refl)) alike

  pub same_shape : (s : Step) → is_some (release set (flat p gp gd) s) ≡ is_some (release set (flat p hp hd) s)
  same_shape (step.Open s) = refl
  same_shape (step.Close s) = refl
  same_shape (step.Listen s c) = refl
  same_shape (step.Lock s) = refl
  same_shape (step.Unlock s) = refl
  same_shape (step.Submit s limit c) = refl
  same_shape (step.Cancel s id) = refl
  same_shape step.Begin = refl
  same_shape step.Finish = shape_with set p hd gd few (request_in_work p.requests)
  same_shape (step.Press k) = refl
  same_shape (step.Tick n) = refl
  same_shape (step.Ask s q) = refl
  same_shape step.Off = refl
  same_shape step.Boot = refl

  pub masked_alike : (a b : Key) (w : DiskWord) → AlikeEntries (running_entry p) hp gp → is_masked p (step.Press a) ≡ true → is_masked p (step.Press b) ≡ true → AlikeAfter (next set (flat p hp hd) (step.Press a) w) (next set (flat p gp gd) (step.Press b) w)
  masked_alike a b w alike ma mb = press_alike (running_entry p) a b refl alike (secret_keys_in (running_entry p) a b ma mb)

-- presses alone are masked
pub masked_press : (p : Shared) (s : Step) → is_masked p s ≡ true → (k : Key) × (s ≡ step.Press k)
masked_press p (step.Open s) m = cc
masked_press p (step.Close s) m = cc
masked_press p (step.Listen s c) m = cc
masked_press p (step.Lock s) m = cc
masked_press p (step.Unlock s) m = cc
masked_press p (step.Submit s limit c) m = cc
masked_press p (step.Cancel s id) m = cc
masked_press p step.Begin m = cc
masked_press p step.Finish m = cc
masked_press p (step.Press k) m = (k, refl)
masked_press p (step.Tick n) m = cc
masked_press p (step.Ask s q) m = cc
masked_press p step.Off m = cc
masked_press p step.Boot m = cc
