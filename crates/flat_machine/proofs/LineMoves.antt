-- What each step does to the line for the lock.
use Rattle.flat_machine.proofs.BoolLemmas.{and_of, both, or_left, or_more, or_right, true_is_not_false}
use Rattle.flat_machine.proofs.PressWalk.{walk_press}
use Rattle.flat_machine.proofs.SessionRuns.{line_apart, line_open}
use Rattle.flat_machine.proofs.StepWalk.{Walks, walk_begin, walk_cancel, walk_finish, walk_if, walk_if_open, walk_loads, walk_nothing, walk_power, walk_submit, walk_tick}
use Rattle.flat_machine.proofs.SubmitLemmas.{submit_room}
use Rattle.flat_machine.specs.Facts.{IsStart}
use Rattle.flat_machine.specs.Machine.{Act, next, run_from}
use Rattle.flat_machine.specs.QueueFacts.{BothStand, LockGoesTo, granted, granted_in, is_ahead, leaves_line, locks, stands_in}
use Rattle.flat_machine.specs.RequestSteps.{is_canceled, submit_refusal}
use Rattle.flat_machine.specs.SessionFacts.{all_open}
use Rattle.flat_machine.specs.Sessions.{grants, grants_after}
use Rattle.flat_machine.specs.SessionSteps.{if_open, next_close, next_unlock}
use Rattle.flat_machine.specs.Settings.{Setting}
use Rattle.flat_machine.specs.State.{Flat, Said, Shared, after_said, is_off, says}
use Rattle.device_lock.specs.LockLine.{holder_of, holds, in_line, out_of_line}
use Rattle.request_queue.specs.Requests.{pending_where, request_in_work}
use Rattle.request_queue.specs.declared.requests.Request.{Request}
use Rattle.session_book.specs.Sessions.{is_open}
use Rattle.pad_steps.specs.declared.answers.Out.{Out}
use Rattle.pad_steps.specs.declared.answers.Reply.{Reply}
use Rattle.pad_steps.specs.declared.commands.Command.{Command}
use Rattle.pad_steps.specs.declared.steps.DiskWord.{DiskWord}
use Rattle.pad_steps.specs.declared.steps.Step.{Step}
use Rattle.pad_words.specs.Numbers.{same_session, session_eq}
use Rattle.pad_words.specs.declared.numbers.Session.{Session}
use Rattle.std.proofs.Common.{ap, append_assoc, subst, sym, ◌∙◌}
use Rattle.std.proofs.lemmas.Bool.{eq-eqb, eqb-true}
use Rattle.std.specs.List.{AllByRecursion, IsDistinct, list_any}
use Rattle.std.specs.Prelude.{Bool, IsTrue, List, None, Some, [], cond, false, if◌then◌else◌, map, not, option_to_list, refl, true, ℕ, ◌&&◌, ◌++◌, ◌==◌, ◌||◌, ◌∷◌, ◌≡◌}
use Rattle.pad_steps.specs.declared.answers.Out.TheVariants as out
use Rattle.pad_steps.specs.declared.answers.Refusal.TheVariants as refusal
use Rattle.pad_steps.specs.declared.answers.Reply.TheVariants as reply
use Rattle.pad_steps.specs.declared.answers.Told.TheVariants as told
use Rattle.pad_steps.specs.declared.steps.Step.TheVariants as step

-- what a step does to the line
pub data LineMove (s : Step) (line after : List Session) : Type 0 where
  Stays : after ≡ line → LineMove s line after
  Joins : (t : Session) → s ≡ step.Lock t → after ≡ in_line t line → LineMove s line after
  Unlocks : (t : Session) → s ≡ step.Unlock t → holds t line ≡ true → after ≡ out_of_line t line → LineMove s line after
  Closes : (t : Session) → s ≡ step.Close t → after ≡ out_of_line t line → LineMove s line after

module _ (p : Shared) (s : Step) where
  abbrev Moved : Said → Type 0
  Moved x = LineMove s p.line x.shared.line

  moved_if : (b : Bool) (x y : Said) → Moved x → Moved y → Moved (cond b x y)
  moved_if true x y one other = one
  moved_if false x y one other = other

  moved_held : (t : Session) (b : Bool) (x y : Said) → holds t p.line ≡ b → (b ≡ true → Moved x) → Moved y → Moved (cond b x y)
  moved_held t true x y e one other = one refl
  moved_held t false x y e one other = other

  moved_own : (t : Session) (x : Said) → Moved x → Moved (if_open p t x)
  moved_own t x one = moved_if (is_open t p.sessions) x (says p (out.Told t (told.No refusal.NoSession))) one (Stays refl)

  moved_walk : (x : Said) → Walks p x → Moved x
  moved_walk x one = Stays one.line

pub line_moves : (set : Setting) (h : Flat) (s : Step) (w : DiskWord) → LineMove s h.shared.line (next set h s w).state.shared.line
line_moves set h (step.Open t) w = moved_if h.shared _ (is_open t h.shared.sessions) _ _ (Stays refl) (Stays refl)
line_moves set h (step.Close t) w = moved_own h.shared _ t _ (Closes t refl refl)
line_moves set h (step.Listen t c) w = moved_own h.shared _ t _ (Stays refl)
line_moves set h (step.Lock t) w = moved_own h.shared _ t _ (Joins t refl refl)
line_moves set h (step.Unlock t) w = moved_own h.shared _ t _ (moved_held h.shared _ t (holds t h.shared.line) _ _ refl (λ e. Unlocks t refl e refl) (Stays refl))
line_moves set h (step.Submit t limit c) w = moved_walk h.shared _ _ (walk_submit h.shared (submit_refusal set.pin_rules h.shared t c) t limit c (submit_room set.pin_rules h.shared t c))
line_moves set h (step.Cancel t id) w = moved_walk h.shared _ _ (walk_if_open h.shared t _ (walk_cancel h.shared t id (pending_where (is_canceled h.shared t id) h.shared.requests)))
line_moves set h step.Begin w = moved_walk h.shared _ _ (walk_begin h.shared)
line_moves set h step.Finish w = moved_walk h.shared _ _ (walk_finish set h.shared h.held (request_in_work h.shared.requests) w refl)
line_moves set h (step.Press k) w = Stays (walk_press set h k).line
line_moves set h (step.Tick n) w = moved_walk h.shared _ _ (walk_tick h.shared n)
line_moves set h (step.Ask t q) w = moved_own h.shared _ t _ (Stays refl)
line_moves set h step.Off w = moved_walk h.shared _ _ (walk_if h.shared (is_off h.shared.device) _ _ (walk_nothing h.shared) (walk_power h.shared))
line_moves set h step.Boot w = moved_walk h.shared _ _ (walk_if h.shared (is_off h.shared.device) _ _ (walk_loads h.shared w) (walk_nothing h.shared))

-- sessions that are the same

pub same_itself : (n : ℕ) → (n == n) ≡ true
same_itself n = eq-eqb n n refl

pub same_turned : (a b : Session) → same_session a b ≡ true → same_session b a ≡ true
same_turned a b e = subst (λ (n : ℕ). (n == a.number) ≡ true) (eqb-true a.number b.number e) (same_itself a.number)

pub apart_turned : (a b : Session) → same_session a b ≡ false → same_session b a ≡ false
apart_turned a b e = by_cases (same_session b a) refl
  where
    by_cases : (c : Bool) → same_session b a ≡ c → c ≡ false
    by_cases true f = sym (same_turned b a f) ∙ e
    by_cases false f = refl

pub same_through : (a b c : Session) → same_session a b ≡ true → same_session b c ≡ true → same_session a c ≡ true
same_through a b c e f = subst (λ (n : ℕ). (n == c.number) ≡ true) (sym (eqb-true a.number b.number e)) f

-- the holder

no_session : (t : Session) → None ≡ Some t → ⊥
no_session t e = cc

one_session : (a b : Session) → Some a ≡ Some b → a ≡ b
one_session a b e = cc

holder-in_line : (u t : Session) (line : List Session) → holder_of line ≡ Some t → holder_of (in_line u line) ≡ Some t
holder-in_line u t [] e = absurd (no_session t e)
holder-in_line u t (f ∷ line) e = pushed (list_any (λ (other : Session). same_session other u) (f ∷ line))
  where
    pushed : (b : Bool) → holder_of (if b then f ∷ line else f ∷ line ++ u ∷ []) ≡ Some t
    pushed true = e
    pushed false = e

holder-out_of_line : (u t : Session) (line : List Session) → holder_of line ≡ Some t → same_session u t ≡ false → holder_of (out_of_line u line) ≡ Some t
holder-out_of_line u t [] e apart = absurd (no_session t e)
holder-out_of_line u t (f ∷ line) e apart = kept (same_session f u) (subst (λ (x : Session). same_session x u ≡ false) (sym (one_session f t e)) (apart_turned u t apart))
  where
    kept : (b : Bool) → b ≡ false → holder_of (cond (not b) (f ∷ out_of_line u line) (out_of_line u line)) ≡ Some t
    kept true g = cc
    kept false g = e

holds-holder : (u t : Session) (line : List Session) → holder_of line ≡ Some t → holds u line ≡ true → same_session t u ≡ true
holds-holder u t [] e h = absurd (no_session t e)
holds-holder u t (f ∷ line) e h = subst (λ (x : Session). same_session x u ≡ true) (one_session f t e) h

holder_holds : (t : Session) (line : List Session) → holder_of line ≡ Some t → holds t line ≡ true
holder_holds t [] e = absurd (no_session t e)
holder_holds t (f ∷ line) e = subst (λ (x : Session). same_session x t ≡ true) (sym (one_session f t e)) (same_itself t.number)

one_false : (a b : Bool) → (a && b) ≡ false → b ≡ true → a ≡ false
one_false true b e f = sym f ∙ e
one_false false b e f = refl

holder_move : (t : Session) (s : Step) (line after : List Session) → LineMove s line after → holder_of line ≡ Some t → leaves_line t line s ≡ false → holder_of after ≡ Some t
holder_move t s line after (Stays e) is stay = ap holder_of e ∙ is
holder_move t s line after (Joins u at e) is stay = ap holder_of e ∙ holder-in_line u t line is
holder_move t s line after (Unlocks u at held e) is stay =
    let other = one_false (same_session u t) (holds t line) (subst (λ (x : Step). leaves_line t line x ≡ false) at stay) (holder_holds t line is) in
    absurd (true_is_not_false (same_session t u) (holds-holder u t line is held) (apart_turned u t other))
holder_move t s line after (Closes u at e) is stay = ap holder_of e ∙ holder-out_of_line u t line is (subst (λ (x : Step). leaves_line t line x ≡ false) at stay)

pub holder_stays : (set : Setting) (h : Flat) (t : Session) (s : Step) (w : DiskWord) → holder_of h.shared.line ≡ Some t → leaves_line t h.shared.line s ≡ false → holder_of (next set h s w).state.shared.line ≡ Some t
holder_stays set h t s w = holder_move t s h.shared.line (next set h s w).state.shared.line (line_moves set h s w)

-- a lock that no one holds

free_move : (t : Session) (s : Step) (line after : List Session) → LineMove s line after → holder_of line ≡ None → holder_of after ≡ Some t → locks t s ≡ true
free_move t s line after (Stays e) none is = absurd (no_session t (sym none ∙ sym (ap holder_of e) ∙ is))
free_move t s line after (Joins u at e) none is = subst (λ (x : Step). locks t x ≡ true) (sym at) (first_in u t line none (sym (ap holder_of e) ∙ is))
  where
    first_in : (u t : Session) (line : List Session) → holder_of line ≡ None → holder_of (in_line u line) ≡ Some t → same_session u t ≡ true
    first_in u t [] none is = subst (λ (x : Session). same_session u x ≡ true) (one_session u t is) (same_itself u.number)
    first_in u t (f ∷ line) none is = cc
free_move t s line after (Unlocks u at held e) none is = absurd (no_holder u line none held)
  where
    no_holder : (u : Session) (line : List Session) → holder_of line ≡ None → holds u line ≡ true → ⊥
    no_holder u [] none held = cc
    no_holder u (f ∷ line) none held = cc
free_move t s line after (Closes u at e) none is = absurd (none_left u t line none (sym (ap holder_of e) ∙ is))
  where
    none_left : (u t : Session) (line : List Session) → holder_of line ≡ None → holder_of (out_of_line u line) ≡ Some t → ⊥
    none_left u t [] none is = cc
    none_left u t (f ∷ line) none is = cc

pub free_lock : (set : Setting) (h : Flat) (t : Session) (s : Step) (w : DiskWord) → holder_of h.shared.line ≡ None → holder_of (next set h s w).state.shared.line ≡ Some t → IsTrue (locks t s)
free_lock set h t s w = free_move t s h.shared.line (next set h s w).state.shared.line (line_moves set h s w)

-- who stands before whom

stands-push : (a u : Session) (line : List Session) → stands_in a line ≡ true → stands_in a (line ++ u ∷ []) ≡ true
stands-push a u [] e = cc
stands-push a u (f ∷ line) e = or_more (same_session f a) (stands_in a line) (stands_in a (line ++ u ∷ [])) (stands-push a u line) e

and_more : (a b c d : Bool) → (b ≡ true → c ≡ true) → ((a && b) || d) ≡ true → ((a && c) || d) ≡ true
and_more true b c d f e = or_from b c d f e
  where
    or_from : (b c d : Bool) → (b ≡ true → c ≡ true) → (b || d) ≡ true → (c || d) ≡ true
    or_from true c d f e = or_left c d (f refl)
    or_from false c d f e = or_right c d e
and_more false b c d f e = e

ahead-push : (a b u : Session) (line : List Session) → is_ahead a b line ≡ true → is_ahead a b (line ++ u ∷ []) ≡ true
ahead-push a b u [] e = cc
ahead-push a b u (f ∷ line) e =
    let more = and_more (same_session f a) (stands_in b line) (stands_in b (line ++ u ∷ [])) (is_ahead a b line) (stands-push b u line) e in
    or_more (same_session f a && stands_in b (line ++ u ∷ [])) (is_ahead a b line) (is_ahead a b (line ++ u ∷ [])) (ahead-push a b u line) more

ahead-in_line : (a b u : Session) (line : List Session) → is_ahead a b line ≡ true → is_ahead a b (in_line u line) ≡ true
ahead-in_line a b u line e = pushed (list_any (λ (other : Session). same_session other u) line)
  where
    pushed : (c : Bool) → is_ahead a b (if c then line else line ++ u ∷ []) ≡ true
    pushed true = e
    pushed false = ahead-push a b u line e

-- without a session that leaves, the line is as before but for that session

stands-left : (a u : Session) (line : List Session) → same_session u a ≡ false → stands_in a line ≡ true → stands_in a (out_of_line u line) ≡ true
stands-left a u [] apart e = cc
stands-left a u (f ∷ line) apart e = kept (same_session f u) refl (stands-left a u line apart)
  where
    other_stands : (x y : Bool) → (x || y) ≡ true → (x ≡ true → ⊥) → y ≡ true
    other_stands true y o never_so = absurd (never_so refl)
    other_stands false y o never_so = o

    kept : (c : Bool) → same_session f u ≡ c → (stands_in a line ≡ true → stands_in a (out_of_line u line) ≡ true) → stands_in a (cond (not c) (f ∷ out_of_line u line) (out_of_line u line)) ≡ true
    kept false g rest = or_more (same_session f a) (stands_in a line) (stands_in a (out_of_line u line)) rest e
    kept true g rest = rest (other_stands (same_session f a) (stands_in a line) e (λ same. true_is_not_false (same_session u a) (same_through u f a (same_turned f u g) same) apart))

ahead-left : (a b u : Session) (line : List Session) → same_session u a ≡ false → same_session u b ≡ false → is_ahead a b line ≡ true → is_ahead a b (out_of_line u line) ≡ true
ahead-left a b u [] one other e = cc
ahead-left a b u (f ∷ line) one other e = kept (same_session f u) refl (ahead-left a b u line one other)
  where
    later : (x y z : Bool) → ((x && y) || z) ≡ true → (x ≡ true → ⊥) → z ≡ true
    later true y z o never_so = absurd (never_so refl)
    later false y z o never_so = o

    kept : (c : Bool) → same_session f u ≡ c → (is_ahead a b line ≡ true → is_ahead a b (out_of_line u line) ≡ true) → is_ahead a b (cond (not c) (f ∷ out_of_line u line) (out_of_line u line)) ≡ true
    kept false g rest =
        let more = and_more (same_session f a) (stands_in b line) (stands_in b (out_of_line u line)) (is_ahead a b line) (stands-left b u line other) e in
        or_more (same_session f a && stands_in b (out_of_line u line)) (is_ahead a b line) (is_ahead a b (out_of_line u line)) rest more
    kept true g rest = rest (later (same_session f a) (stands_in b line) (is_ahead a b line) e (λ same. true_is_not_false (same_session u a) (same_through u f a (same_turned f u g) same) one))

-- a session that is out of the line stands in it no more
gone-left : (a u : Session) (line : List Session) → same_session u a ≡ true → stands_in a (out_of_line u line) ≡ false
gone-left a u [] same = refl
gone-left a u (f ∷ line) same = kept (same_session f u) refl (gone-left a u line same)
  where
    none : (x y : Bool) → (x ≡ true → ⊥) → y ≡ false → (x || y) ≡ false
    none true y never_so e = absurd (never_so refl)
    none false y never_so e = e

    kept : (c : Bool) → same_session f u ≡ c → stands_in a (out_of_line u line) ≡ false → stands_in a (cond (not c) (f ∷ out_of_line u line) (out_of_line u line)) ≡ false
    kept false g rest = none (same_session f a) (stands_in a (out_of_line u line)) (λ h. true_is_not_false (same_session f u) (same_through f a u h (same_turned u a same)) g) rest
    kept true g rest = rest

ahead_out : (a b u : Session) (line : List Session) → is_ahead a b line ≡ true → stands_in a (out_of_line u line) ≡ true → stands_in b (out_of_line u line) ≡ true → is_ahead a b (out_of_line u line) ≡ true
ahead_out a b u line e one other = ahead-left a b u line (stays a (same_session u a) refl one) (stays b (same_session u b) refl other) e
  where
    stays : (x : Session) (c : Bool) → same_session u x ≡ c → stands_in x (out_of_line u line) ≡ true → c ≡ false
    stays x true g k = absurd (true_is_not_false (stands_in x (out_of_line u line)) k (gone-left x u line g))
    stays x false g k = refl

ahead_move : (a b : Session) (s : Step) (line after : List Session) → LineMove s line after → is_ahead a b line ≡ true → stands_in a after ≡ true → stands_in b after ≡ true → is_ahead a b after ≡ true
ahead_move a b s line after (Stays e) ahead one other = ap (is_ahead a b) e ∙ ahead
ahead_move a b s line after (Joins u at e) ahead one other = ap (is_ahead a b) e ∙ ahead-in_line a b u line ahead
ahead_move a b s line after (Unlocks u at held e) ahead one other = ap (is_ahead a b) e ∙ ahead_out a b u line ahead (sym (ap (stands_in a) e) ∙ one) (sym (ap (stands_in b) e) ∙ other)
ahead_move a b s line after (Closes u at e) ahead one other = ap (is_ahead a b) e ∙ ahead_out a b u line ahead (sym (ap (stands_in a) e) ∙ one) (sym (ap (stands_in b) e) ∙ other)

pub order_stays : (set : Setting) (h : Flat) (a b : Session) (s : Step) (w : DiskWord) → IsTrue (is_ahead a b h.shared.line) → IsTrue (stands_in a (next set h s w).state.shared.line) → IsTrue (stands_in b (next set h s w).state.shared.line) → IsTrue (is_ahead a b (next set h s w).state.shared.line)
order_stays set h a b s w = ahead_move a b s h.shared.line (next set h s w).state.shared.line (line_moves set h s w)

-- a session that stands in the line goes on to stand in it until it leaves

stands_move : (a : Session) (s : Step) (line after : List Session) → LineMove s line after → stands_in a line ≡ true → leaves_line a line s ≡ false → stands_in a after ≡ true
stands_move a s line after (Stays e) is stay = ap (stands_in a) e ∙ is
stands_move a s line after (Joins u at e) is stay = ap (stands_in a) e ∙ pushed (list_any (λ (other : Session). same_session other u) line)
  where
    pushed : (c : Bool) → stands_in a (if c then line else line ++ u ∷ []) ≡ true
    pushed true = is
    pushed false = stands-push a u line is
stands_move a s line after (Unlocks u at held e) is stay = ap (stands_in a) e ∙ stands-left a u line (other (same_session u a) refl) is
  where
    holds_same : (line : List Session) → same_session u a ≡ true → holds u line ≡ true → holds a line ≡ true
    holds_same [] same h = cc
    holds_same (f ∷ line) same h = same_through f u a h same

    other : (c : Bool) → same_session u a ≡ c → c ≡ false
    other true g = absurd (true_is_not_false (same_session u a && holds a line) (and_of (same_session u a) (holds a line) g (holds_same line g held)) (subst (λ (x : Step). leaves_line a line x ≡ false) at stay))
    other false g = refl
stands_move a s line after (Closes u at e) is stay = ap (stands_in a) e ∙ stands-left a u line (subst (λ (x : Step). leaves_line a line x ≡ false) at stay) is

pub standing_stays : (set : Setting) (h : Flat) (a : Session) (s : Step) (w : DiskWord) → IsTrue (stands_in a h.shared.line) → leaves_line a h.shared.line s ≡ false → IsTrue (stands_in a (next set h s w).state.shared.line)
standing_stays set h a s w = stands_move a s h.shared.line (next set h s w).state.shared.line (line_moves set h s w)

pub order_runs : (set : Setting) (h : Flat) (a b : Session) (acts : List Act) → IsTrue (is_ahead a b h.shared.line) → BothStand set h a b acts → IsTrue (is_ahead a b (run_from set h acts).shared.line)
order_runs set h a b [] ahead stand = ahead
order_runs set h a b (act ∷ acts) ahead stand =
    let after = (next set h act.step act.word).state in
    let here = both (stands_in a after.shared.line) (stands_in b after.shared.line) (stand (act ∷ []) acts refl) in
    order_runs set after a b acts (order_stays set h a b act.step act.word ahead here.0 here.1) (λ before rest e. stand (act ∷ before) rest (ap (λ (xs : List Act). act ∷ xs) e))

-- the lock goes on to the first that waits

out-apart : (t : Session) (line : List Session) → AllByRecursion (λ (other : Session). same_session t other ≡ false) line → out_of_line t line ≡ line
out-apart t [] h = refl
out-apart t (f ∷ line) h = kept (same_session f t) (apart_turned t f h.0) (out-apart t line h.1)
  where
    kept : (c : Bool) → c ≡ false → out_of_line t line ≡ line → cond (not c) (f ∷ out_of_line t line) (out_of_line t line) ≡ f ∷ line
    kept true g rest = cc
    kept false g rest = ap (λ (xs : List Session). f ∷ xs) rest

out_first : (t u : Session) (line : List Session) → same_session t u ≡ true → IsDistinct same_session (t ∷ line) → out_of_line u (t ∷ line) ≡ line
unfolding IsDistinct
out_first t u line same h = kept (same_session t u) same
  where
    u_is_t : u ≡ t
    u_is_t = session_eq u t (eqb-true u.number t.number (same_turned t u same))

    kept : (c : Bool) → c ≡ true → cond (not c) (t ∷ out_of_line u line) (out_of_line u line) ≡ line
    kept true g = subst (λ (x : Session). out_of_line x line ≡ line) (sym u_is_t) (out-apart t line h.0)
    kept false g = cc

granted-append : (xs ys : List Out) → granted (xs ++ ys) ≡ granted xs ++ granted ys
granted-append [] ys = refl
granted-append (o ∷ xs) ys = ap (λ (ts : List Session). granted_in o ++ ts) (granted-append xs ys) ∙ sym (append_assoc (granted_in o) (granted xs) (granted ys))

granted-ended : (r : Reply) (xs : List (Request Command)) → granted (map (λ (a : Request Command). out.Ended a.session a.id r) xs) ≡ []
granted-ended r [] = refl
granted-ended r (a ∷ xs) = granted-ended r xs

granted-grants : (line : List Session) → granted (grants line) ≡ option_to_list (holder_of line)
granted-grants [] = refl
granted-grants (t ∷ line) = refl

granted-grants_after : (t : Session) (line : List Session) → holds t line ≡ true → granted (grants_after t line) ≡ option_to_list (holder_of (out_of_line t line))
granted-grants_after t line held = goes_on (holds t line) held
  where
    goes_on : (c : Bool) → c ≡ true → granted (if c then grants (out_of_line t line) else []) ≡ option_to_list (holder_of (out_of_line t line))
    goes_on true e = granted-grants (out_of_line t line)
    goes_on false e = cc

-- what a step of a session that holds the lock and leaves it does

abbrev Passed : List Session → Said → Type 0
Passed line x = (x.shared.line ≡ line) × (granted x.outs ≡ option_to_list (holder_of line))

passed_if : (line : List Session) (b : Bool) (x y : Said) → b ≡ true → Passed line x → Passed line (cond b x y)
passed_if line true x y e one = one
passed_if line false x y e one = cc

close_passes : (p : Shared) (t : Session) → is_open t p.sessions ≡ true → holds t p.line ≡ true → Passed (out_of_line t p.line) (next_close p t)
close_passes p t opened held = passed_if (out_of_line t p.line) (is_open t p.sessions) _ _ opened (refl, granted_close)
  where
    granted_close : granted (map (λ (a : Request Command). out.Ended a.session a.id (reply.No refusal.Canceled)) (pending_where (λ (a : Request Command). same_session a.session t) p.requests) ++ out.Told t told.Closed ∷ grants_after t p.line) ≡ option_to_list (holder_of (out_of_line t p.line))
    granted_close = granted-append (map (λ (a : Request Command). out.Ended a.session a.id (reply.No refusal.Canceled)) (pending_where (λ (a : Request Command). same_session a.session t) p.requests)) (out.Told t told.Closed ∷ grants_after t p.line)
        ∙ ap (λ (ts : List Session). ts ++ granted (grants_after t p.line)) (granted-ended (reply.No refusal.Canceled) (pending_where (λ (a : Request Command). same_session a.session t) p.requests))
        ∙ granted-grants_after t p.line held

unlock_passes : (p : Shared) (t : Session) → is_open t p.sessions ≡ true → holds t p.line ≡ true → Passed (out_of_line t p.line) (next_unlock p t)
unlock_passes p t opened held = passed_if (out_of_line t p.line) (is_open t p.sessions) _ _ opened (passed_if (out_of_line t p.line) (holds t p.line) _ _ held (refl, granted-grants (out_of_line t p.line)))

goes_to : (h : Flat) (line rest : List Session) (x : Said) → line ≡ rest → Passed line x → LockGoesTo rest (after_said h x)
goes_to h line rest x e passed = record { line = passed.0 ∙ e; told = passed.1 ∙ ap (λ (xs : List Session). option_to_list (holder_of xs)) e }

module _ (set : Setting) (h : Flat) (t : Session) (rest : List Session) (w : DiskWord) (at : h.shared.line ≡ t ∷ rest) (apart : IsDistinct same_session h.shared.line) (opened : all_open h.shared.sessions h.shared.line ≡ true) where
  is_first : (u : Session) → same_session u t ≡ true → (is_open u h.shared.sessions ≡ true) × (holds u h.shared.line ≡ true) × (out_of_line u h.shared.line ≡ rest)
  is_first u same =
      let u_is_t = session_eq u t (eqb-true u.number t.number same) in
      let open_first = both (is_open t h.shared.sessions) (all_open h.shared.sessions rest) (subst (λ (xs : List Session). all_open h.shared.sessions xs ≡ true) at opened) in (
        subst (λ (x : Session). is_open x h.shared.sessions ≡ true) (sym u_is_t) open_first.0,
        ap (holds u) at ∙ same_turned u t same,
        ap (out_of_line u) at ∙ out_first t u rest (same_turned u t same) (subst (IsDistinct same_session) at apart),
      )

  passes_on : (s : Step) → leaves_line t h.shared.line s ≡ true → LockGoesTo rest (next set h s w)
  passes_on (step.Open u) e = cc
  passes_on (step.Close u) e =
      let first = is_first u e in
      goes_to h (out_of_line u h.shared.line) rest (next_close h.shared u) first.2 (close_passes h.shared u first.0 first.1)
  passes_on (step.Listen u c) e = cc
  passes_on (step.Lock u) e = cc
  passes_on (step.Unlock u) e =
      let first = is_first u (both (same_session u t) (holds t h.shared.line) e).0 in
      goes_to h (out_of_line u h.shared.line) rest (next_unlock h.shared u) first.2 (unlock_passes h.shared u first.0 first.1)
  passes_on (step.Submit u limit c) e = cc
  passes_on (step.Cancel u id) e = cc
  passes_on step.Begin e = cc
  passes_on step.Finish e = cc
  passes_on (step.Press k) e = cc
  passes_on (step.Tick n) e = cc
  passes_on (step.Ask u q) e = cc
  passes_on step.Off e = cc
  passes_on step.Boot e = cc

pub lock_goes_on : (set : Setting) (start : Flat) (acts : List Act) (t : Session) (rest : List Session) (s : Step) (w : DiskWord) → IsStart start → (run_from set start acts).shared.line ≡ t ∷ rest → IsTrue (leaves_line t (run_from set start acts).shared.line s) → LockGoesTo rest (next set (run_from set start acts) s w)
lock_goes_on set start acts t rest s w begins at leaves = passes_on set (run_from set start acts) t rest w at (line_apart set start acts begins) (line_open set start acts begins) s leaves
