-- What is so of the sessions and the line of every run.
use Rattle.flat_machine.proofs.LineLemmas.{Orderly, orderly-close, orderly-listen, orderly-lock, orderly-open, orderly-unlock}
use Rattle.flat_machine.proofs.PressWalk.{walk_press}
use Rattle.flat_machine.proofs.RequestRuns.{from_start}
use Rattle.session_book.specs.RisingLaws.{increasing}
use Rattle.flat_machine.proofs.StepWalk.{Walks, walk_begin, walk_cancel, walk_finish, walk_if, walk_if_open, walk_loads, walk_nothing, walk_power, walk_submit, walk_tick}
use Rattle.flat_machine.proofs.SubmitLemmas.{submit_room}
use Rattle.flat_machine.specs.EntrySteps.{next_press}
use Rattle.flat_machine.specs.Facts.{IsStart}
use Rattle.flat_machine.specs.Machine.{Act, next, run_from}
use Rattle.flat_machine.specs.RequestSteps.{is_canceled, submit_refusal}
use Rattle.request_queue.specs.Requests.{pending_where, request_in_work}
use Rattle.pad_words.specs.Numbers.{same_session}
use Rattle.flat_machine.specs.SessionFacts.{all_open}
use Rattle.session_book.specs.Rising.{session_numbers}
use Rattle.flat_machine.specs.SessionSteps.{if_open}
use Rattle.device_lock.specs.LockLine.{holds}
use Rattle.session_book.specs.Sessions.{is_open}
use Rattle.flat_machine.specs.State.{Flat, Shared, Said, is_off, says}
use Rattle.flat_machine.specs.Settings.{Setting}
use Rattle.session_book.specs.declared.sessions.SessionRow.{SessionRow}
use Rattle.pad_steps.specs.declared.steps.DiskWord.{DiskWord}
use Rattle.pad_steps.specs.declared.steps.Step.{Step}
use Rattle.pad_words.specs.declared.numbers.Session.{Session}
use Rattle.std.specs.List.{IsDistinct}
use Rattle.std.specs.List.Sorted.{IsStrictlyIncreasing}
use Rattle.std.specs.Prelude.{Bool, IsTrue, List, cond, false, refl, true, ◌≡◌}
use Rattle.pad_steps.specs.declared.answers.Out.TheVariants as out
use Rattle.pad_steps.specs.declared.answers.Refusal.TheVariants as refusal
use Rattle.pad_steps.specs.declared.answers.Told.TheVariants as told
use Rattle.pad_steps.specs.declared.steps.Step.TheVariants as step

abbrev pub OrderlyIn : Shared → Type 0
OrderlyIn p = Orderly p.sessions p.line

orderly_if_open : (p : Shared) (s : Session) (b : Bool) (x y : Said) → is_open s p.sessions ≡ b → (b ≡ true → OrderlyIn x.shared) → OrderlyIn y.shared → OrderlyIn (cond b x y).shared
orderly_if_open p s true x y e one other = one refl
orderly_if_open p s false x y e one other = other

orderly_unless_open : (p : Shared) (s : Session) (b : Bool) (x y : Said) → is_open s p.sessions ≡ b → OrderlyIn x.shared → (b ≡ false → OrderlyIn y.shared) → OrderlyIn (cond b x y).shared
orderly_unless_open p s true x y e one other = one
orderly_unless_open p s false x y e one other = other refl

orderly_cond : (b : Bool) (x y : Said) → OrderlyIn x.shared → OrderlyIn y.shared → OrderlyIn (cond b x y).shared
orderly_cond true x y one other = one
orderly_cond false x y one other = other

orderly_same : (rows after : List SessionRow) (line line_after : List Session) → after ≡ rows → line_after ≡ line → Orderly rows line → Orderly after line_after
orderly_same rows after line line_after e f o = rw (e, f) o

module _ (p : Shared) (o : OrderlyIn p) where
  orderly_walk : (x : Said) → Walks p x → OrderlyIn x.shared
  orderly_walk x one = orderly_same p.sessions x.shared.sessions p.line x.shared.line one.sessions one.line o

  orderly_own : (s : Session) (x : Said) → (is_open s p.sessions ≡ true → OrderlyIn x.shared) → OrderlyIn (if_open p s x).shared
  orderly_own s x one = orderly_if_open p s (is_open s p.sessions) x (says p (out.Told s (told.No refusal.NoSession))) refl one o

pub next_orderly : (set : Setting) (h : Flat) (s : Step) (w : DiskWord) → OrderlyIn h.shared → OrderlyIn (next set h s w).state.shared
next_orderly set h (step.Open s) w o = orderly_unless_open h.shared s (is_open s h.shared.sessions) _ _ refl o (λ e. orderly-open _ h.shared.sessions h.shared.line e o)
next_orderly set h (step.Close s) w o = orderly_own h.shared o s _ (λ e. orderly-close s h.shared.sessions h.shared.line o)
next_orderly set h (step.Listen s c) w o = orderly_own h.shared o s _ (λ e. orderly-listen s c h.shared.sessions h.shared.line o)
next_orderly set h (step.Lock s) w o = orderly_own h.shared o s _ (λ e. orderly-lock s h.shared.sessions h.shared.line e o)
next_orderly set h (step.Unlock s) w o = orderly_own h.shared o s _ (λ e. orderly_cond (holds s h.shared.line) _ _ (orderly-unlock s h.shared.sessions h.shared.line o) o)
next_orderly set h (step.Submit s limit c) w o = orderly_walk h.shared o _ (walk_submit h.shared (submit_refusal set.pin_rules h.shared s c) s limit c (submit_room set.pin_rules h.shared s c))
next_orderly set h (step.Cancel s id) w o = orderly_walk h.shared o _ (walk_if_open h.shared s _ (walk_cancel h.shared s id (pending_where (is_canceled h.shared s id) h.shared.requests)))
next_orderly set h step.Begin w o = orderly_walk h.shared o _ (walk_begin h.shared)
next_orderly set h step.Finish w o = orderly_walk h.shared o _ (walk_finish set h.shared h.held (request_in_work h.shared.requests) w refl)
next_orderly set h (step.Press k) w o =
    let one = walk_press set h k in
    orderly_same h.shared.sessions (next_press set.cipher h k).state.shared.sessions h.shared.line (next_press set.cipher h k).state.shared.line one.sessions one.line o
next_orderly set h (step.Tick n) w o = orderly_walk h.shared o _ (walk_tick h.shared n)
next_orderly set h (step.Ask s q) w o = orderly_own h.shared o s _ (λ e. o)
next_orderly set h step.Off w o = orderly_walk h.shared o _ (walk_if h.shared (is_off h.shared.device) _ _ (walk_nothing h.shared) (walk_power h.shared))
next_orderly set h step.Boot w o = orderly_walk h.shared o _ (walk_if h.shared (is_off h.shared.device) _ _ (walk_loads h.shared w) (walk_nothing h.shared))

orderly_run : (set : Setting) (start : Flat) (acts : List Act) → IsStart start → OrderlyIn (run_from set start acts).shared
unfolding IsDistinct
orderly_run set start acts begins = from_start set (λ (h : Flat). OrderlyIn h.shared) (next_orderly set) (record { rising = tt; apart = tt; open_ones = refl }) (record { rising = tt; apart = tt; open_ones = refl }) start acts begins

pub sessions_rise : (set : Setting) (start : Flat) (acts : List Act) → IsStart start → IsStrictlyIncreasing (session_numbers (run_from set start acts).shared.sessions)
sessions_rise set start acts begins = increasing (run_from set start acts).shared.sessions (orderly_run set start acts begins).rising

pub line_apart : (set : Setting) (start : Flat) (acts : List Act) → IsStart start → IsDistinct same_session (run_from set start acts).shared.line
line_apart set start acts begins = (orderly_run set start acts begins).apart

pub line_open : (set : Setting) (start : Flat) (acts : List Act) → IsStart start → IsTrue (all_open (run_from set start acts).shared.sessions (run_from set start acts).shared.line)
line_open set start acts begins = (orderly_run set start acts begins).open_ones
