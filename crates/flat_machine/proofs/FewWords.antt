-- Each ended request has drawn at most 255 fill words.
use Rattle.flat_machine.proofs.DeviceStays.{Leaves, flat_with, leaves_kept_press, leaves_next}
use Rattle.flat_machine.proofs.GoneRequests.{gone-ended_where, gone-finished, gone-one}
use Rattle.flat_machine.proofs.WorkChains.{work_suits}
use Rattle.flat_machine.specs.Commands.{work_of}
use Rattle.flat_machine.specs.FinishSteps.{deletes, finish_with, imports, inits, performs, resets}
use Rattle.flat_machine.specs.Kept.{Kept, kept_next}
use Rattle.flat_machine.specs.PinCommands.{pin_answer}
use Rattle.flat_machine.specs.Power.{loads, powers_off, replaces}
use Rattle.flat_machine.specs.Settings.{Setting}
use Rattle.flat_machine.specs.State.{Said, Shared, is_off, owner_of, running_entry}
use Rattle.flat_machine.specs.WorkFacts.{Suits}
use Rattle.flat_machine.specs.declared.types.Owner.{Owner}
use Rattle.flat_machine.specs.declared.types.Work.TheVariants as work
use Rattle.flat_machine.specs.declared.types.Work.{Work}
use Rattle.key_table.specs.Changes.{Change, change_to, erasure, erasures}
use Rattle.key_table.specs.KeyRows.{KeyRows}
use Rattle.pad_steps.specs.declared.answers.Refusal.TheVariants as refusal
use Rattle.pad_steps.specs.declared.answers.Reply.TheVariants as reply
use Rattle.pad_steps.specs.declared.commands.Command.{Command}
use Rattle.pad_steps.specs.declared.steps.DiskWord.TheVariants as word
use Rattle.pad_steps.specs.declared.steps.DiskWord.{DiskWord}
use Rattle.pad_steps.specs.declared.steps.Step.TheVariants as step
use Rattle.pad_steps.specs.declared.steps.Step.{Step}
use Rattle.pin_blocks.specs.PinRules.{DrawsFewWords}
use Rattle.request_queue.specs.Requests.{gone_count, request_in_work}
use Rattle.request_queue.specs.declared.requests.Request.{Request}
use Rattle.std.proofs.Common.{arith}
use Rattle.std.specs.Prelude.{Bool, List, None, Option, Some, [], cond, false, length, option_map, refl, true, ℕ, ◌*◌, ◌+◌, ◌∷◌, ◌≡◌, ◌≤◌}

-- at most 255 words more for each request that ends
record DrawsFew (p x : Shared) : Type 0 where
  most : x.drawn + 255 * gone_count p.requests ≤ p.drawn + 255 * gone_count x.requests

-- no word is drawn, and no gone request comes back
few_gone : (p x : Shared) → x.drawn ≡ p.drawn → gone_count p.requests ≤ gone_count x.requests → DrawsFew p x
few_gone p x drawn gone = record { most = omega (arith, drawn, gone) }

by_leaves : (p x : Shared) → Leaves p x → DrawsFew p x
by_leaves p x one = few_gone p x one.drawn one.gone

few_if : (p : Shared) (b : Bool) (x y : Said) → DrawsFew p x.shared → DrawsFew p y.shared → DrawsFew p (cond b x y).shared
few_if p true x y one other = one
few_if p false x y one other = other

module _ (p : Shared) where
  few_itself : DrawsFew p p
  few_itself = few_gone p p refl (omega arith)

  few_off : DrawsFew p (powers_off p).shared
  few_off = few_gone p _ refl (gone-ended_where (λ a. true) (reply.No refusal.ConnectionLost) p.requests)

  few_loads : (w : DiskWord) → DrawsFew p (loads p w).shared
  few_loads word.Quiet = few_itself
  few_loads word.Done = few_itself
  few_loads (word.Failed n) = few_gone p _ refl (omega arith)
  few_loads (word.Cut n) = few_off
  few_loads (word.Loaded rows) = few_gone p _ refl (omega arith)
  few_loads (word.Bad slot) = few_gone p _ refl (omega arith)

  few_reset : (a : Owner) (w : DiskWord) → DrawsFew p (resets a w p).shared
  few_reset a word.Quiet = few_gone p _ refl (gone-finished _ p.requests)
  few_reset a word.Done = few_gone p _ refl (gone-finished _ p.requests)
  few_reset a (word.Failed n) = few_gone p _ refl (gone-finished _ p.requests)
  few_reset a (word.Cut n) = few_gone p _ refl (gone-ended_where (λ a. true) (reply.No refusal.ConnectionLost) p.requests)
  few_reset a (word.Loaded rows) = few_gone p _ refl (gone-finished _ p.requests)
  few_reset a (word.Bad slot) = few_gone p _ refl (gone-finished _ p.requests)

  -- other rows
  few_rows : {keys : KeyRows} {x : Shared} → DrawsFew (record p { keys = keys }) x → DrawsFew p x
  few_rows one = record { most = one.most }

  few_replaces : (a : Owner) (todo : List Change) (done : Shared → Said) (w : DiskWord) → ((q : Shared) → DrawsFew q (done q).shared) → DrawsFew p (replaces p a todo done w).shared
  few_replaces a todo done word.Quiet k = few_rows (k _)
  few_replaces a todo done word.Done k = few_rows (k _)
  few_replaces a todo done (word.Failed n) k = few_gone p _ refl (gone-finished _ p.requests)
  few_replaces a todo done (word.Cut n) k = few_gone p _ refl (gone-ended_where (λ a. true) (reply.No refusal.ConnectionLost) p.requests)
  few_replaces a todo done (word.Loaded rows) k = few_rows (k _)
  few_replaces a todo done (word.Bad slot) k = few_rows (k _)

module _ (set : Setting) (few : DrawsFewWords set.pin_rules) (p : Shared) (held : List ℕ) (a : Request Command) (in_work : request_in_work p.requests ≡ Some a) where
  few_performs : (n : ℕ) (v : Work) (w : DiskWord) → Suits set p n a.command v → DrawsFew p (performs set p held (owner_of a) v w).shared
  few_performs n work.Waits w suits = few_itself p
  few_performs n (work.Refuse r accused) w suits = few_gone p _ refl (gone-finished _ p.requests)
  few_performs n (work.Answer x) w suits = few_gone p _ refl (gone-finished _ p.requests)
  few_performs n (work.Maintain on) w suits = few_gone p _ refl (gone-finished _ p.requests)
  few_performs n (work.Keep slot row check from_part) w suits = few_replaces p (owner_of a) (change_to (slot, row) ∷ []) (imports (owner_of a) check from_part) w (λ q. few_gone q _ refl (gone-finished _ q.requests))
  few_performs n (work.Erase slot) w suits = few_replaces p (owner_of a) (erasure slot ∷ []) (deletes (owner_of a)) w (λ q. few_gone q _ refl (gone-finished _ q.requests))
  few_performs n work.EraseAll w suits = few_replaces p (owner_of a) (erasures p.keys) (inits (owner_of a)) w (λ q. few_gone q _ refl (gone-finished _ q.requests))
  few_performs n (work.Release r first second draws) w suits = record { most = omega (arith, gone-one (reply.Ok (pin_answer set p.drawn held r first second draws)) p.requests a in_work, few r n (length first) (option_map length second) draws suits.ready) }
  few_performs n work.Load w suits = few_reset p (owner_of a) w

few_finish : (set : Setting) → DrawsFewWords set.pin_rules → (p : Shared) (held : List ℕ) (o : Option (Request Command)) (w : DiskWord) → request_in_work p.requests ≡ o → DrawsFew p (finish_with set p held o w).shared
few_finish set few p held None w in_work = few_itself p
few_finish set few p held (Some a) w in_work = few_performs set few p held a in_work (length held) (work_of set p (length held) a.command) w (work_suits set p (length held) a.command)

few_next : (set : Setting) (kept : Kept) (s : Step) (w : DiskWord) → DrawsFewWords set.pin_rules → DrawsFew kept.shared (kept_next set kept s w).state.shared
few_next set kept (step.Open s) w few = by_leaves kept.shared _ (leaves_next set (flat_with kept) (step.Open s) w refl)
few_next set kept (step.Close s) w few = by_leaves kept.shared _ (leaves_next set (flat_with kept) (step.Close s) w refl)
few_next set kept (step.Listen s c) w few = by_leaves kept.shared _ (leaves_next set (flat_with kept) (step.Listen s c) w refl)
few_next set kept (step.Lock s) w few = by_leaves kept.shared _ (leaves_next set (flat_with kept) (step.Lock s) w refl)
few_next set kept (step.Unlock s) w few = by_leaves kept.shared _ (leaves_next set (flat_with kept) (step.Unlock s) w refl)
few_next set kept (step.Submit s limit c) w few = by_leaves kept.shared _ (leaves_next set (flat_with kept) (step.Submit s limit c) w refl)
few_next set kept (step.Cancel s id) w few = by_leaves kept.shared _ (leaves_next set (flat_with kept) (step.Cancel s id) w refl)
few_next set kept step.Begin w few = by_leaves kept.shared _ (leaves_next set (flat_with kept) step.Begin w refl)
few_next set kept step.Finish w few = few_finish set few kept.shared kept.held (request_in_work kept.shared.requests) w refl
few_next set kept (step.Press k) w few = by_leaves kept.shared _ (leaves_kept_press set kept (running_entry kept.shared) k)
few_next set kept (step.Tick n) w few = by_leaves kept.shared _ (leaves_next set (flat_with kept) (step.Tick n) w refl)
few_next set kept (step.Ask s q) w few = by_leaves kept.shared _ (leaves_next set (flat_with kept) (step.Ask s q) w refl)
few_next set kept step.Off w few = few_if kept.shared (is_off kept.shared.device) _ _ (few_itself kept.shared) (few_off kept.shared)
few_next set kept step.Boot w few = few_if kept.shared (is_off kept.shared.device) _ _ (few_loads kept.shared w) (few_itself kept.shared)

pub stays_few : (set : Setting) (kept : Kept) (s : Step) (w : DiskWord) → DrawsFewWords set.pin_rules → kept.shared.drawn ≤ 255 * gone_count kept.shared.requests
    → (kept_next set kept s w).state.shared.drawn ≤ 255 * gone_count (kept_next set kept s w).state.shared.requests
stays_few set kept s w few before = omega (arith, before, (few_next set kept s w few).most)
