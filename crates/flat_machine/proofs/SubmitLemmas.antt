-- What a Submit that is not refused finds.
use Rattle.flat_machine.proofs.PassLemmas.{and_both}
use Rattle.flat_machine.specs.RequestSteps.{command_refusal, or_locked, submit_refusal}
use Rattle.request_queue.specs.Requests.{pending_count}
use Rattle.session_book.specs.Sessions.{is_open}
use Rattle.device_lock.specs.LockLine.{locked_out}
use Rattle.flat_machine.specs.Sound.{allowed}
use Rattle.flat_machine.specs.State.{Shared, is_off}
use Rattle.pin_blocks.specs.PinRules.{PinRules}
use Rattle.pad_steps.specs.declared.answers.Refusal.{Refusal}
use Rattle.pad_steps.specs.declared.commands.Command.{Command}
use Rattle.pad_words.specs.declared.numbers.Session.{Session}
use Rattle.std.specs.Prelude.{Bool, IsTrue, None, Option, Some, false, if◌then◌else◌, nat_le, not, refl, true, ◌≡◌}
use Rattle.pad_steps.specs.declared.answers.Refusal.TheVariants as refusal

-- a Submit that is not refused finds the device on, room in the queue, and a command that passes
none_if : {A : Type 0} → (b : Bool) (r : A) (o : Option A) → (if b then Some r else o) ≡ None → (b ≡ false) × (o ≡ None)
none_if true r o e = absurd (some_none r e)
  where
    some_none : {A : Type 0} → (r : A) → Some r ≡ None → ⊥
    some_none r e = cc
none_if false r o e = (refl, e)

none_locked : (x : Option Session) (o : Option Refusal) → or_locked x o ≡ None → o ≡ None
none_locked None o e = e
none_locked (Some x) o e = cc

pub submitted_ok : (ok : Command → Bool) (pin_rules : PinRules) (p : Shared) (s : Session) (c : Command) → (command_refusal pin_rules c ≡ None → IsTrue (ok c)) → submit_refusal pin_rules p s c ≡ None → allowed ok p.device c ≡ true
submitted_ok ok pin_rules p s c good e =
    let is_on = none_if (not (is_open s p.sessions)) refusal.NoSession _ e in
    let device = none_if (is_off p.device) refusal.ConnectionLost _ is_on.1 in
    let room = none_if (nat_le 16 (pending_count s p.requests)) (refusal.QueueFull 16) _ (none_locked (locked_out s p.line) _ device.1) in
    and_both (ok c) (not (is_off p.device)) (good room.1) (rw device.0 refl)

pub submit_room : (pin_rules : PinRules) (p : Shared) (s : Session) (c : Command) → submit_refusal pin_rules p s c ≡ None → nat_le 16 (pending_count s p.requests) ≡ false
submit_room pin_rules p s c e =
    let is_on = none_if (not (is_open s p.sessions)) refusal.NoSession _ e in
    let device = none_if (is_off p.device) refusal.ConnectionLost _ is_on.1 in
    (none_if (nat_le 16 (pending_count s p.requests)) (refusal.QueueFull 16) _ (none_locked (locked_out s p.line) _ device.1)).0
