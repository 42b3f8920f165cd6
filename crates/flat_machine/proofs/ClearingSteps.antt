-- Steps of sessions, Submit, Cancel, Tick and Ask leave device, part buffer and maintain as they are.
use Rattle.flat_machine.specs.Machine.{next}
use Rattle.flat_machine.specs.PinFacts.{leaves_pin}
use Rattle.flat_machine.specs.RequestSteps.{is_canceled, submit_by, submit_refusal}
use Rattle.flat_machine.specs.SessionSteps.{if_open}
use Rattle.flat_machine.specs.Settings.{Setting}
use Rattle.flat_machine.specs.State.{Flat, Said, Shared}
use Rattle.pad_steps.specs.declared.answers.Refusal.{Refusal}
use Rattle.pad_steps.specs.declared.commands.Command.{Command}
use Rattle.pad_steps.specs.declared.steps.DiskWord.{DiskWord}
use Rattle.pad_steps.specs.declared.steps.Step.{Step}
use Rattle.pad_steps.specs.declared.steps.Step.TheVariants as step
use Rattle.device_lock.specs.LockLine.{holds}
use Rattle.pad_words.specs.declared.numbers.Session.{Session}
use Rattle.session_book.specs.Sessions.{is_open}
use Rattle.request_queue.specs.Requests.{pending_where}
use Rattle.std.specs.Prelude.{Bool, IsTrue, List, None, Option, Some, [], cond, false, if◌then◌else◌, length, not, refl, true, ℕ, ◌&&◌, ◌==◌, ◌≡◌}

-- what is dropped is empty
pub dropped : (b : Bool) (held : List ℕ) → b ≡ true → (if b then [] else held) ≡ []
dropped true held e = refl
dropped false held e = cc

-- steps of sessions, Submit, Cancel, Tick and Ask

-- device, part buffer and maintain stay
pub record KeepsAll (p q : Shared) : Type 0 where
  pub device : q.device ≡ p.device
  pub part : q.part ≡ p.part
  pub maintain : q.maintain ≡ p.maintain

all_same : (p : Shared) → KeepsAll p p
all_same p = record { device = refl; part = refl; maintain = refl }

all_if : (p : Shared) (b : Bool) (x y : Said) → KeepsAll p x.shared → KeepsAll p y.shared → KeepsAll p (cond b x y).shared
all_if p true x y one other = one
all_if p false x y one other = other

all_submit : (p : Shared) (o : Option Refusal) (s : Session) (limit : ℕ) (c : Command) → KeepsAll p (submit_by o p s limit c).shared
all_submit p (Some r) s limit c = all_same p
all_submit p None s limit c = record { device = refl; part = refl; maintain = refl }

all_open : (p : Shared) (s : Session) (x : Said) → KeepsAll p x.shared → KeepsAll p (if_open p s x).shared
all_open p s x k = all_if p (is_open s p.sessions) x _ k (all_same p)

pub keeps_all : (set : Setting) (h : Flat) (s : Step) (w : DiskWord) → IsTrue (leaves_pin s) → KeepsAll h.shared (next set h s w).state.shared
keeps_all set h (step.Open s) w is = all_if h.shared (is_open s h.shared.sessions) _ _ (all_same h.shared) (record { device = refl; part = refl; maintain = refl })
keeps_all set h (step.Close s) w is = all_open h.shared s _ (record { device = refl; part = refl; maintain = refl })
keeps_all set h (step.Listen s c) w is = all_open h.shared s _ (record { device = refl; part = refl; maintain = refl })
keeps_all set h (step.Lock s) w is = all_open h.shared s _ (record { device = refl; part = refl; maintain = refl })
keeps_all set h (step.Unlock s) w is = all_open h.shared s _ (all_if h.shared (holds s h.shared.line) _ _ (record { device = refl; part = refl; maintain = refl }) (all_same h.shared))
keeps_all set h (step.Submit s limit c) w is = all_submit h.shared (submit_refusal set.pin_rules h.shared s c) s limit c
keeps_all set h (step.Cancel s id) w is = all_open h.shared s _ (all_if h.shared (not (id == 0) && (length (pending_where (is_canceled h.shared s id) h.shared.requests) == 0)) _ _ (all_same h.shared) (record { device = refl; part = refl; maintain = refl }))
keeps_all set h step.Begin w is = cc
keeps_all set h step.Finish w is = cc
keeps_all set h (step.Press k) w is = cc
keeps_all set h (step.Tick n) w is = record { device = refl; part = refl; maintain = refl }
keeps_all set h (step.Ask s q) w is = all_open h.shared s _ (all_same h.shared)
keeps_all set h step.Off w is = cc
keeps_all set h step.Boot w is = cc

-- what was empty stays so
pub empty_if : (b : Bool) (held : List ℕ) → held ≡ [] → (if b then [] else held) ≡ []
empty_if true held e = refl
empty_if false held e = e
