-- Pending commands pass after every step on what is kept.
use Rattle.entry_core.specs.Entries.{active_seen, after_value, digit_in}
use Rattle.entry_core.specs.declared.seen.Seen.{Seen}
use Rattle.entry_core.specs.declared.seen.Seen.TheVariants.{Ended, Ignored, Took}
use Rattle.flat_machine.proofs.DeviceStays.{flat_with}
use Rattle.flat_machine.proofs.SoundLemmas.{next_sound, sound_finished}
use Rattle.flat_machine.specs.EntrySteps.{entry_answer}
use Rattle.flat_machine.specs.Kept.{Kept, KeptAfter, kept_next, kept_press_in, kept_seen}
use Rattle.flat_machine.specs.Settings.{Setting}
use Rattle.flat_machine.specs.Sound.{Sound, SubmitsOk}
use Rattle.flat_machine.specs.State.{Running, running_entry}
use Rattle.key_source.specs.Keys.{has_key}
use Rattle.key_source.specs.declared.Key.{Key}
use Rattle.pad_steps.specs.declared.answers.Reply.TheVariants as reply
use Rattle.pad_steps.specs.declared.commands.Command.{Command}
use Rattle.pad_steps.specs.declared.steps.DiskWord.{DiskWord}
use Rattle.pad_steps.specs.declared.steps.Step.{Step}
use Rattle.pad_steps.specs.declared.steps.Step.TheVariants as step
use Rattle.std.specs.Prelude.{Bool, List, None, Option, Some, cond, false, length, true, ℕ}

seen-kept_sound : (ok : Command → Bool) (set : Setting) (kept : Kept) (w : Running) (digits : List ℕ) (seen : Seen) → Sound ok kept.shared → Sound ok (kept_seen set kept w digits seen).state.shared
seen-kept_sound ok set kept w digits Ignored sound = sound
seen-kept_sound ok set kept w digits (Took shown) sound = sound
seen-kept_sound ok set kept w digits (Ended shown completion) sound = sound_finished ok kept.shared sound (reply.Ok (entry_answer set.cipher w.entry.kind w.entry.check completion digits))

one-kept_sound : (ok : Command → Bool) (b : Bool) (x y : KeptAfter) → Sound ok x.state.shared → Sound ok y.state.shared → Sound ok (cond b x y).state.shared
one-kept_sound ok true x y one other = one
one-kept_sound ok false x y one other = other

press-kept_sound : (ok : Command → Bool) (set : Setting) (kept : Kept) (w : Option Running) (key : Key) → Sound ok kept.shared → Sound ok (kept_press_in set kept w key).state.shared
press-kept_sound ok set kept None key sound = sound
press-kept_sound ok set kept (Some w) key sound =
    one-kept_sound ok (has_key w.entry.active key) _ _ (seen-kept_sound ok set kept w (after_value w.entry (digit_in w.entry.kind key) key kept.digits) (active_seen w.entry (length kept.digits) key) sound) sound

pub next-kept_sound : (ok : Command → Bool) (set : Setting) (kept : Kept) (s : Step) (w : DiskWord) → SubmitsOk ok set.pin_rules s → Sound ok kept.shared → Sound ok (kept_next set kept s w).state.shared
next-kept_sound ok set kept (step.Open s) w good sound = next_sound ok set (flat_with kept) (step.Open s) w good sound
next-kept_sound ok set kept (step.Close s) w good sound = next_sound ok set (flat_with kept) (step.Close s) w good sound
next-kept_sound ok set kept (step.Listen s c) w good sound = next_sound ok set (flat_with kept) (step.Listen s c) w good sound
next-kept_sound ok set kept (step.Lock s) w good sound = next_sound ok set (flat_with kept) (step.Lock s) w good sound
next-kept_sound ok set kept (step.Unlock s) w good sound = next_sound ok set (flat_with kept) (step.Unlock s) w good sound
next-kept_sound ok set kept (step.Submit s limit c) w good sound = next_sound ok set (flat_with kept) (step.Submit s limit c) w good sound
next-kept_sound ok set kept (step.Cancel s id) w good sound = next_sound ok set (flat_with kept) (step.Cancel s id) w good sound
next-kept_sound ok set kept step.Begin w good sound = next_sound ok set (flat_with kept) step.Begin w good sound
next-kept_sound ok set kept step.Finish w good sound = next_sound ok set (flat_with kept) step.Finish w good sound
next-kept_sound ok set kept (step.Press key) w good sound = press-kept_sound ok set kept (running_entry kept.shared) key sound
next-kept_sound ok set kept (step.Tick n) w good sound = next_sound ok set (flat_with kept) (step.Tick n) w good sound
next-kept_sound ok set kept (step.Ask s q) w good sound = next_sound ok set (flat_with kept) (step.Ask s q) w good sound
next-kept_sound ok set kept step.Off w good sound = next_sound ok set (flat_with kept) step.Off w good sound
next-kept_sound ok set kept step.Boot w good sound = next_sound ok set (flat_with kept) step.Boot w good sound
