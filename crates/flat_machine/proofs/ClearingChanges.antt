-- When the held PIN and the part buffer change, step by step.
use Rattle.entry_core.specs.Entries.{active_seen, entered, is_key_part, is_pin}
use Rattle.entry_core.specs.declared.seen.Seen.{Seen}
use Rattle.entry_core.specs.declared.seen.Seen.TheVariants.{Ended, Ignored, Took}
use Rattle.flat_machine.proofs.ClearingBegins.{BeginDoes, BeginsEntry, BeginsNone, begin_does}
use Rattle.flat_machine.proofs.ClearingWorks.{from_command, next_finish-work}
use Rattle.flat_machine.proofs.PinHeld.{left_held, undropped}
use Rattle.flat_machine.specs.Clearing.{ChangesPart, ChangesPin, EndsPart, PartEnds, PartOff, PartStarts, PinEnds, PinOff, PinStarts}
use Rattle.flat_machine.specs.Commands.{work_of}
use Rattle.flat_machine.specs.EntrySteps.{next_begin, press_in, press_seen}
use Rattle.flat_machine.specs.FinishSteps.{finish_with, next_finish}
use Rattle.flat_machine.specs.Machine.{next, next_boot, next_off}
use Rattle.flat_machine.specs.PinFacts.{EndsPin}
use Rattle.flat_machine.specs.Power.{loads}
use Rattle.flat_machine.specs.Settings.{Setting}
use Rattle.flat_machine.specs.State.{After, Flat, Running, Said, Shared, is_off, running_entry}
use Rattle.key_source.specs.Keys.{has_key}
use Rattle.key_source.specs.declared.Key.{Key}
use Rattle.pad_steps.specs.declared.answers.Completion.{Completion}
use Rattle.pad_steps.specs.declared.commands.Command.{Command}
use Rattle.pad_steps.specs.declared.steps.DiskWord.{DiskWord}
use Rattle.pad_steps.specs.declared.steps.DiskWord.TheVariants as word
use Rattle.pad_steps.specs.declared.steps.Step.{Step}
use Rattle.pad_steps.specs.declared.steps.Step.TheVariants as step
use Rattle.request_queue.specs.Requests.{request_in_work}
use Rattle.request_queue.specs.declared.requests.Request.{Request}
use Rattle.std.proofs.Common.{ap, inl, inr, ◌∙◌}
use Rattle.std.specs.Prelude.{Bool, List, None, Option, Some, [], cond, false, if◌then◌else◌, length, refl, true, ℕ, ◌∷◌, ◌≡◌, ◌⊎◌}
use Rattle.flat_machine.proofs.ClearingFinish.{PartChange, PinChange, part_finish, pin_finish}
use Rattle.flat_machine.proofs.ClearingSteps.{keeps_all}

-- each kind of step

module _ (set : Setting) (h : Flat) where
  finish_pin : (o : Option (Request Command)) (w : DiskWord) → request_in_work h.shared.requests ≡ o → PinChange set h step.Finish w
  finish_pin None w is = inl (undropped (next_finish set h.shared h.held w).drops_pin h.held (ap (λ (o : Option (Request Command)). (finish_with set h.shared h.held o w).drops_pin) is))
  finish_pin (Some a) w is = pin_finish set h a is w (work_of set h.shared (length h.held) a.command) (from_command set h.shared (length h.held) a.command) (next_finish-work set h.shared h.held a a.command w is refl)

  finish_part : (o : Option (Request Command)) (w : DiskWord) → request_in_work h.shared.requests ≡ o → PartChange set h step.Finish w
  finish_part None w is = inl (ap (λ (o : Option (Request Command)). (finish_with set h.shared h.held o w).shared.part) is)
  finish_part (Some a) w is = part_finish set h a is w (work_of set h.shared (length h.held) a.command) (from_command set h.shared (length h.held) a.command) (next_finish-work set h.shared h.held a a.command w is refl)

  begin_pin : (w : DiskWord) → BeginDoes h.shared (next_begin h.shared) → PinChange set h step.Begin w
  begin_pin w (BeginsNone runs drops part device) = inl (undropped (next_begin h.shared).drops_pin h.held drops)
  begin_pin w (BeginsEntry current none runs drops part device) = by_kind (is_pin current.entry.kind) refl
    where
      by_kind : (b : Bool) → is_pin current.entry.kind ≡ b → PinChange set h step.Begin w
      by_kind true of_pin = inr (PinStarts current refl (record { none = none; runs = runs }) of_pin)
      by_kind false other = inl (undropped (next_begin h.shared).drops_pin h.held (drops ∙ other))

  begin_part : (w : DiskWord) → BeginDoes h.shared (next_begin h.shared) → PartChange set h step.Begin w
  begin_part w (BeginsNone runs drops part device) = inl part
  begin_part w (BeginsEntry current none runs drops part device) = by_kind (is_key_part current.entry.kind) refl
    where
      by_kind : (b : Bool) → is_key_part current.entry.kind ≡ b → PartChange set h step.Begin w
      by_kind true of_part = inr (PartStarts current refl (record { none = none; runs = runs }) of_part)
      by_kind false other = inl (part ∙ ap (λ (b : Bool). if b then [] else h.shared.part) other)

  -- Press

  held_if : (b : Bool) (k : Key) (c : Running) (by : Completion) (w : DiskWord) (ds : List ℕ) → (b ≡ true → EndsPin h k c by) → ((if b then ds else h.held) ≡ h.held) ⊎ ChangesPin set h (step.Press k) w
  held_if true k c by w ds ends = inr (PinEnds k c by refl (ends refl))
  held_if false k c by w ds ends = inl refl

  part_if : (b : Bool) (k : Key) (c : Running) (by : Completion) (w : DiskWord) (ds : List ℕ) → (b ≡ true → EndsPart h k c by) → ((if b then ds else h.shared.part) ≡ h.shared.part) ⊎ ChangesPart set h (step.Press k) w
  part_if true k c by w ds ends = inr (PartEnds k c by refl (ends refl))
  part_if false k c by w ds ends = inl refl

  module _ (k : Key) (w : DiskWord) where
    abbrev PressPin : After → Type 0
    PressPin x = (x.state.held ≡ h.held) ⊎ ChangesPin set h (step.Press k) w

    abbrev PressPart : After → Type 0
    PressPart x = (x.state.shared.part ≡ h.shared.part) ⊎ ChangesPart set h (step.Press k) w

    seen_pin : (c : Running) (seen : Seen) → running_entry h.shared ≡ Some c → has_key c.entry.active k ≡ true → active_seen c.entry (length (entered c.entry h.presses)) k ≡ seen → PressPin (press_seen set.cipher h c k seen)
    seen_pin c Ignored runs active is = inl refl
    seen_pin c (Took s) runs active is = inl refl
    seen_pin c (Ended s by) runs active is = held_if (is_pin c.entry.kind) k c by w (entered c.entry (k ∷ h.presses)) (λ of_pin. record { runs = runs; of_pin = of_pin; active = active; shown = s; ends = is })

    seen_part : (c : Running) (seen : Seen) → running_entry h.shared ≡ Some c → has_key c.entry.active k ≡ true → active_seen c.entry (length (entered c.entry h.presses)) k ≡ seen → PressPart (press_seen set.cipher h c k seen)
    seen_part c Ignored runs active is = inl refl
    seen_part c (Took s) runs active is = inl refl
    seen_part c (Ended s by) runs active is = part_if (is_key_part c.entry.kind) k c by w (entered c.entry (k ∷ h.presses)) (λ of_part. record { runs = runs; of_part = of_part; active = active; shown = s; ends = is })

    press_if : (P : After → Type 0) (b : Bool) (x : After) → (b ≡ true → P x) → P (record { state = h; outs = [] }) → P (cond b x (record { state = h; outs = [] }))
    press_if P true x one other = one refl
    press_if P false x one other = other

    press_pin : (o : Option Running) → running_entry h.shared ≡ o → PressPin (press_in set.cipher h o k)
    press_pin None runs = inl refl
    press_pin (Some c) runs = press_if PressPin (has_key c.entry.active k) _ (λ active. seen_pin c (active_seen c.entry (length (entered c.entry h.presses)) k) runs active refl) (inl refl)

    press_part : (o : Option Running) → running_entry h.shared ≡ o → PressPart (press_in set.cipher h o k)
    press_part None runs = inl refl
    press_part (Some c) runs = press_if PressPart (has_key c.entry.active k) _ (λ active. seen_part c (active_seen c.entry (length (entered c.entry h.presses)) k) runs active refl) (inl refl)

-- Off and Boot: nothing of the two changes, or the device is off after

pub data OffOrSame (p : Shared) (x : Said) : Type 0 where
  IsOff : is_off x.shared.device ≡ true → OffOrSame p x
  IsSame : x.drops_pin ≡ false → x.shared.part ≡ p.part → OffOrSame p x

off_if : (p : Shared) (b : Bool) (x y : Said) → OffOrSame p x → OffOrSame p y → OffOrSame p (cond b x y)
off_if p true x y one other = one
off_if p false x y one other = other

off_loads : (p : Shared) (w : DiskWord) → OffOrSame p (loads p w)
off_loads p word.Quiet = IsSame refl refl
off_loads p word.Done = IsSame refl refl
off_loads p (word.Failed n) = IsSame refl refl
off_loads p (word.Cut n) = IsOff refl
off_loads p (word.Loaded rows) = IsSame refl refl
off_loads p (word.Bad slot) = IsSame refl refl

power_off : (p : Shared) → OffOrSame p (next_off p)
power_off p = off_if p (is_off p.device) _ _ (IsSame refl refl) (IsOff refl)

power_boot : (p : Shared) (w : DiskWord) → OffOrSame p (next_boot p w)
power_boot p w = off_if p (is_off p.device) _ _ (off_loads p w) (IsSame refl refl)

off_pin : (set : Setting) (h : Flat) (w : DiskWord) → OffOrSame h.shared (next_off h.shared) → PinChange set h step.Off w
off_pin set h w (IsOff e) = inr (PinOff e)
off_pin set h w (IsSame drops part) = inl (undropped (next_off h.shared).drops_pin h.held drops)

boot_pin : (set : Setting) (h : Flat) (w : DiskWord) → OffOrSame h.shared (next_boot h.shared w) → PinChange set h step.Boot w
boot_pin set h w (IsOff e) = inr (PinOff e)
boot_pin set h w (IsSame drops part) = inl (undropped (next_boot h.shared w).drops_pin h.held drops)

off_part : (set : Setting) (h : Flat) (w : DiskWord) → OffOrSame h.shared (next_off h.shared) → PartChange set h step.Off w
off_part set h w (IsOff e) = inr (PartOff e)
off_part set h w (IsSame drops part) = inl part

boot_part : (set : Setting) (h : Flat) (w : DiskWord) → OffOrSame h.shared (next_boot h.shared w) → PartChange set h step.Boot w
boot_part set h w (IsOff e) = inr (PartOff e)
boot_part set h w (IsSame drops part) = inl part

-- the held PIN changes at these moments alone
pub pin_changes : (set : Setting) (h : Flat) (s : Step) (w : DiskWord) → ((next set h s w).state.held ≡ h.held) ⊎ ChangesPin set h s w
pin_changes set h (step.Open s) w = inl (left_held set h (step.Open s) w refl)
pin_changes set h (step.Close s) w = inl (left_held set h (step.Close s) w refl)
pin_changes set h (step.Listen s c) w = inl (left_held set h (step.Listen s c) w refl)
pin_changes set h (step.Lock s) w = inl (left_held set h (step.Lock s) w refl)
pin_changes set h (step.Unlock s) w = inl (left_held set h (step.Unlock s) w refl)
pin_changes set h (step.Submit s limit c) w = inl (left_held set h (step.Submit s limit c) w refl)
pin_changes set h (step.Cancel s id) w = inl (left_held set h (step.Cancel s id) w refl)
pin_changes set h step.Begin w = begin_pin set h w (begin_does h.shared)
pin_changes set h step.Finish w = finish_pin set h (request_in_work h.shared.requests) w refl
pin_changes set h (step.Press k) w = press_pin set h k w (running_entry h.shared) refl
pin_changes set h (step.Tick n) w = inl (left_held set h (step.Tick n) w refl)
pin_changes set h (step.Ask s q) w = inl (left_held set h (step.Ask s q) w refl)
pin_changes set h step.Off w = off_pin set h w (power_off h.shared)
pin_changes set h step.Boot w = boot_pin set h w (power_boot h.shared w)

-- and so the part buffer
pub part_changes : (set : Setting) (h : Flat) (s : Step) (w : DiskWord) → ((next set h s w).state.shared.part ≡ h.shared.part) ⊎ ChangesPart set h s w
part_changes set h (step.Open s) w = inl (keeps_all set h (step.Open s) w refl).part
part_changes set h (step.Close s) w = inl (keeps_all set h (step.Close s) w refl).part
part_changes set h (step.Listen s c) w = inl (keeps_all set h (step.Listen s c) w refl).part
part_changes set h (step.Lock s) w = inl (keeps_all set h (step.Lock s) w refl).part
part_changes set h (step.Unlock s) w = inl (keeps_all set h (step.Unlock s) w refl).part
part_changes set h (step.Submit s limit c) w = inl (keeps_all set h (step.Submit s limit c) w refl).part
part_changes set h (step.Cancel s id) w = inl (keeps_all set h (step.Cancel s id) w refl).part
part_changes set h step.Begin w = begin_part set h w (begin_does h.shared)
part_changes set h step.Finish w = finish_part set h (request_in_work h.shared.requests) w refl
part_changes set h (step.Press k) w = press_part set h k w (running_entry h.shared) refl
part_changes set h (step.Tick n) w = inl (keeps_all set h (step.Tick n) w refl).part
part_changes set h (step.Ask s q) w = inl (keeps_all set h (step.Ask s q) w refl).part
part_changes set h step.Off w = off_part set h w (power_off h.shared)
part_changes set h step.Boot w = boot_part set h w (power_boot h.shared w)
