-- When a Finish changes the held PIN and the part buffer, work by work.
use Rattle.flat_machine.proofs.ClearingWorks.{FromCommand}
use Rattle.flat_machine.proofs.EndingLemmas.{endings-service_events}
use Rattle.flat_machine.proofs.PinHeld.{undropped}
use Rattle.flat_machine.proofs.RequestMoves.{ending_of}
use Rattle.flat_machine.specs.Clearing.{ChangesPart, ChangesPin, IsAnswered, PartImported, PartInitialized, PartOff, PartReset, PinInitialized, PinOff, PinReset, PinUnmaintained, PinUsed}
use Rattle.flat_machine.specs.FinishSteps.{deletes, imports, inits, next_finish, performs}
use Rattle.flat_machine.specs.Machine.{next}
use Rattle.flat_machine.specs.Power.{replaces}
use Rattle.flat_machine.specs.RequestFacts.{Ending, endings}
use Rattle.flat_machine.specs.Settings.{Setting}
use Rattle.flat_machine.specs.State.{Flat, Said, Shared, is_off, owner_of}
use Rattle.flat_machine.specs.declared.types.Work.{Work}
use Rattle.flat_machine.specs.declared.types.Work.TheVariants as work
use Rattle.key_attributes.specs.declared.KeyRow.{KeyRow}
use Rattle.key_import.specs.Imports.{is_part}
use Rattle.key_table.specs.Changes.{Change, change_to, changed, erasure, erasures}
use Rattle.pad_steps.specs.declared.answers.Answer.{Answer}
use Rattle.pad_steps.specs.declared.answers.Answer.TheVariants as answer
use Rattle.pad_steps.specs.declared.answers.Event.TheVariants as event
use Rattle.pad_steps.specs.declared.answers.Reply.TheVariants as reply
use Rattle.pad_steps.specs.declared.commands.Command.{Command}
use Rattle.pad_steps.specs.declared.commands.Command.TheVariants as command
use Rattle.pad_steps.specs.declared.commands.ImportRequest.{ImportRequest}
use Rattle.pad_steps.specs.declared.commands.PinRequest.{PinRequest}
use Rattle.pad_steps.specs.declared.steps.DiskWord.{DiskWord}
use Rattle.pad_steps.specs.declared.steps.DiskWord.TheVariants as word
use Rattle.pad_steps.specs.declared.steps.Step.{Step}
use Rattle.pad_steps.specs.declared.steps.Step.TheVariants as step
use Rattle.request_queue.specs.Requests.{request_in_work}
use Rattle.request_queue.specs.declared.requests.Request.{Request}
use Rattle.std.proofs.Common.{ap, inl, inr, ◌∙◌}
use Rattle.std.specs.Prelude.{Bool, List, Option, Some, [], false, not, refl, true, ℕ, ◌∷◌, ◌||◌, ◌≡◌, ◌⊎◌}

-- a Finish of the request in work, by the work that its command comes to

abbrev pub PinChange : Setting → Flat → Step → DiskWord → Type 0
PinChange set h s w = ((next set h s w).state.held ≡ h.held) ⊎ ChangesPin set h s w

abbrev pub PartChange : Setting → Flat → Step → DiskWord → Type 0
PartChange set h s w = ((next set h s w).state.shared.part ≡ h.shared.part) ⊎ ChangesPart set h s w

pub used_up : (b : Bool) → b ≡ false → (not b || false) ≡ true
used_up true e = cc
used_up false e = refl

pub left_over : (b : Bool) → b ≡ true → (not b || false) ≡ false
left_over true e = refl
left_over false e = cc

module _ (set : Setting) (h : Flat) (a : Request Command) (is : request_in_work h.shared.requests ≡ Some a) where
  -- the Finish has this effect
  abbrev Does : DiskWord → Said → Type 0
  Does w x = next_finish set h.shared h.held w ≡ x

  answers : (w : DiskWord) (x : Said) (c : Command) (y : Answer) → Does w x → a.command ≡ c → endings x.outs ≡ ending_of a (reply.Ok y) ∷ [] → IsAnswered set h w c y
  answers w x c y does asked told = record { at = record { request = a; in_work = is; asked = asked }; told = ap (λ (s : Said). endings s.outs) does ∙ told }

  off_after : (w : DiskWord) (x : Said) → Does w x → is_off x.shared.device ≡ true → is_off (next set h step.Finish w).state.shared.device ≡ true
  off_after w x does e = ap (λ (s : Said). is_off s.shared.device) does ∙ e

  -- the shared part once these slots are replaced
  abbrev replaced : List Change → Shared
  replaced todo = record h.shared { keys = changed todo h.shared.keys }

  initialized : (p : Shared) → endings (inits (owner_of a) p).outs ≡ ending_of a (reply.Ok answer.Done) ∷ []
  initialized p = ap (λ (es : List Ending). ending_of a (reply.Ok answer.Done) ∷ es) (endings-service_events p.sessions event.Initialized)

  -- the held PIN

  pin_stays : (w : DiskWord) (x : Said) → Does w x → x.drops_pin ≡ false → PinChange set h step.Finish w
  pin_stays w x does e = inl (undropped (next_finish set h.shared h.held w).drops_pin h.held (ap (λ (s : Said). s.drops_pin) does ∙ e))

  pin_replaces : (w : DiskWord) (todo : List Change) (done : Shared → Said) → ((q : Shared) → (done q).drops_pin ≡ false) → Does w (replaces h.shared (owner_of a) todo done w) → PinChange set h step.Finish w
  pin_replaces word.Quiet todo done k does = pin_stays _ _ does (k _)
  pin_replaces word.Done todo done k does = pin_stays _ _ does (k _)
  pin_replaces (word.Failed n) todo done k does = pin_stays _ _ does refl
  pin_replaces (word.Cut n) todo done k does = inr (PinOff (off_after _ _ does refl))
  pin_replaces (word.Loaded rows) todo done k does = pin_stays _ _ does (k _)
  pin_replaces (word.Bad slot) todo done k does = pin_stays _ _ does (k _)

  pin_initialized : (w : DiskWord) (p : Shared) → a.command ≡ command.Init → Does w (inits (owner_of a) p) → PinChange set h step.Finish w
  pin_initialized w p asked does = inr (PinInitialized answer.Done refl (answers w _ command.Init answer.Done does asked (initialized p)))

  pin_erases : (w : DiskWord) → a.command ≡ command.Init → Does w (performs set h.shared h.held (owner_of a) work.EraseAll w) → PinChange set h step.Finish w
  pin_erases word.Quiet asked does = pin_initialized _ (replaced (erasures h.shared.keys)) asked does
  pin_erases word.Done asked does = pin_initialized _ (replaced (erasures h.shared.keys)) asked does
  pin_erases (word.Failed n) asked does = pin_stays _ _ does refl
  pin_erases (word.Cut n) asked does = inr (PinOff (off_after _ _ does refl))
  pin_erases (word.Loaded rows) asked does = pin_initialized _ (replaced (erasures h.shared.keys)) asked does
  pin_erases (word.Bad slot) asked does = pin_initialized _ (replaced (erasures h.shared.keys)) asked does

  pin_released : (w : DiskWord) (b : Bool) (r : PinRequest) (first : List ℕ) (second : Option (List ℕ)) (draws : ℕ) → h.shared.maintain ≡ b → a.command ≡ command.Pin r → Does w (performs set h.shared h.held (owner_of a) (work.Release r first second draws) w) → PinChange set h step.Finish w
  pin_released w true r first second draws on asked does = pin_stays _ _ does (left_over h.shared.maintain on)
  pin_released w false r first second draws off asked does = inr (PinUsed r _ refl (answers w _ (command.Pin r) _ does asked refl) off)

  pub pin_finish : (w : DiskWord) (v : Work) → FromCommand a.command v → Does w (performs set h.shared h.held (owner_of a) v w) → PinChange set h step.Finish w
  pin_finish w work.Waits from does = pin_stays _ _ does refl
  pin_finish w (work.Refuse r accused) from does = pin_stays _ _ does refl
  pin_finish w (work.Answer x) from does = pin_stays _ _ does refl
  pin_finish w (work.Maintain true) from does = pin_stays _ _ does refl
  pin_finish w (work.Maintain false) from does = inr (PinUnmaintained answer.Done refl (answers w _ (command.MaintainPin false) answer.Done does from refl))
  pin_finish w (work.Keep slot row x from_part) from does = pin_replaces w (change_to (slot, row) ∷ []) (imports (owner_of a) x from_part) (λ q. refl) does
  pin_finish w (work.Erase slot) from does = pin_replaces w (erasure slot ∷ []) (deletes (owner_of a)) (λ q. refl) does
  pin_finish w work.EraseAll from does = pin_erases w from does
  pin_finish w (work.Release r first second draws) from does = pin_released w h.shared.maintain r first second draws refl from does
  pin_finish w work.Load from does = inr (PinReset refl (record { request = a; in_work = is; asked = from }))

  -- the part buffer

  part_stays : (w : DiskWord) (x : Said) → Does w x → x.shared.part ≡ h.shared.part → PartChange set h step.Finish w
  part_stays w x does e = inl (ap (λ (s : Said). s.shared.part) does ∙ e)

  part_replaces : (w : DiskWord) (todo : List Change) (done : Shared → Said) → ((q : Shared) → (done q).shared.part ≡ q.part) → Does w (replaces h.shared (owner_of a) todo done w) → PartChange set h step.Finish w
  part_replaces word.Quiet todo done k does = part_stays _ _ does (k _)
  part_replaces word.Done todo done k does = part_stays _ _ does (k _)
  part_replaces (word.Failed n) todo done k does = part_stays _ _ does refl
  part_replaces (word.Cut n) todo done k does = inr (PartOff (off_after _ _ does refl))
  part_replaces (word.Loaded rows) todo done k does = part_stays _ _ does (k _)
  part_replaces (word.Bad slot) todo done k does = part_stays _ _ does (k _)

  part_imported : (w : DiskWord) (p : Shared) (r : ImportRequest) (x : Option (List ℕ)) → a.command ≡ command.ImportKey r → is_part r.source ≡ true → Does w (imports (owner_of a) x true p) → PartChange set h step.Finish w
  part_imported w p r x asked of_part does = inr (PartImported r (answer.Key x) refl (answers w _ (command.ImportKey r) (answer.Key x) does asked refl) of_part)

  part_imports : (w : DiskWord) (slot : ℕ) (row : KeyRow) (r : ImportRequest) (x : Option (List ℕ)) → a.command ≡ command.ImportKey r → is_part r.source ≡ true → Does w (performs set h.shared h.held (owner_of a) (work.Keep slot row x true) w) → PartChange set h step.Finish w
  part_imports word.Quiet slot row r x asked of_part does = part_imported _ (replaced (change_to (slot, row) ∷ [])) r x asked of_part does
  part_imports word.Done slot row r x asked of_part does = part_imported _ (replaced (change_to (slot, row) ∷ [])) r x asked of_part does
  part_imports (word.Failed n) slot row r x asked of_part does = part_stays _ _ does refl
  part_imports (word.Cut n) slot row r x asked of_part does = inr (PartOff (off_after _ _ does refl))
  part_imports (word.Loaded rows) slot row r x asked of_part does = part_imported _ (replaced (change_to (slot, row) ∷ [])) r x asked of_part does
  part_imports (word.Bad bad) slot row r x asked of_part does = part_imported _ (replaced (change_to (slot, row) ∷ [])) r x asked of_part does

  part_initialized : (w : DiskWord) (p : Shared) → a.command ≡ command.Init → Does w (inits (owner_of a) p) → PartChange set h step.Finish w
  part_initialized w p asked does = inr (PartInitialized answer.Done refl (answers w _ command.Init answer.Done does asked (initialized p)))

  part_erases : (w : DiskWord) → a.command ≡ command.Init → Does w (performs set h.shared h.held (owner_of a) work.EraseAll w) → PartChange set h step.Finish w
  part_erases word.Quiet asked does = part_initialized _ (replaced (erasures h.shared.keys)) asked does
  part_erases word.Done asked does = part_initialized _ (replaced (erasures h.shared.keys)) asked does
  part_erases (word.Failed n) asked does = part_stays _ _ does refl
  part_erases (word.Cut n) asked does = inr (PartOff (off_after _ _ does refl))
  part_erases (word.Loaded rows) asked does = part_initialized _ (replaced (erasures h.shared.keys)) asked does
  part_erases (word.Bad slot) asked does = part_initialized _ (replaced (erasures h.shared.keys)) asked does

  pub part_finish : (w : DiskWord) (v : Work) → FromCommand a.command v → Does w (performs set h.shared h.held (owner_of a) v w) → PartChange set h step.Finish w
  part_finish w work.Waits from does = part_stays _ _ does refl
  part_finish w (work.Refuse r accused) from does = part_stays _ _ does refl
  part_finish w (work.Answer x) from does = part_stays _ _ does refl
  part_finish w (work.Maintain on) from does = part_stays _ _ does refl
  part_finish w (work.Keep slot row x true) from does = part_imports w slot row from.0 x from.1 from.2 does
  part_finish w (work.Keep slot row x false) from does = part_replaces w (change_to (slot, row) ∷ []) (imports (owner_of a) x false) (λ q. refl) does
  part_finish w (work.Erase slot) from does = part_replaces w (erasure slot ∷ []) (deletes (owner_of a)) (λ q. refl) does
  part_finish w work.EraseAll from does = part_erases w from does
  part_finish w (work.Release r first second draws) from does = part_stays _ _ does refl
  part_finish w work.Load from does = inr (PartReset refl (record { request = a; in_work = is; asked = from }))
