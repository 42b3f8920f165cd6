-- What the last entry of a legal history says.
use Rattle.std.proofs.Common.{ap, arith, length-append, refl, subst, sym, ◌∙◌}
use Rattle.std.proofs.Math.Seq.{take-append_seam}
use Rattle.std.proofs.lemmas.List.{map-append}
use Rattle.std.specs.Prelude.{Bool, List, None, Option, Some, [], false, if◌then◌else◌, length, take, true, ℕ, ◌++◌, ◌-◌, ◌∷◌, ◌≡◌}
use Rattle.flat_machine.specs.Machine.{next, run_from}
use Rattle.flat_machine.specs.RequestSteps.{submit_by, submit_refusal, told_request}
use Rattle.flat_machine.specs.Settings.{Setting}
use Rattle.flat_machine.specs.State.{Flat, Said, Shared, opening, says}
use Rattle.pad_desk.specs.Answers.{collect_out, submit_out}
use Rattle.pad_desk.specs.Histories.{DeskEntry, IsEntryAt, Legal, LegalFrom, acts_of, setting_of, state_after, status_after}
use Rattle.pad_desk.specs.Pending.{state_before}
use Rattle.pad_desk.specs.declared.answers.Collected.TheVariants as collected
use Rattle.pad_desk.specs.declared.answers.Collected.{Collected}
use Rattle.pad_desk.specs.declared.answers.Submitted.TheVariants as submitted
use Rattle.pad_desk.specs.declared.answers.Submitted.{Submitted}
use Rattle.pad_desk.specs.declared.outcome.StepOut.{StepOut}
use Rattle.pad_steps.specs.declared.answers.Out.TheVariants as out
use Rattle.pad_steps.specs.declared.answers.Out.{Out}
use Rattle.pad_steps.specs.declared.answers.Refusal.TheVariants as refusals
use Rattle.pad_steps.specs.declared.answers.Refusal.{Refusal}
use Rattle.pad_steps.specs.declared.answers.Reply.{Reply}
use Rattle.pad_steps.specs.declared.answers.Told.TheVariants as telling
use Rattle.pad_steps.specs.declared.commands.Command.{Command}
use Rattle.pad_steps.specs.declared.steps.Question.TheVariants as asked
use Rattle.pad_steps.specs.declared.steps.Step.TheVariants as steps
use Rattle.pad_steps.specs.declared.steps.Step.{Step}
use Rattle.pad_words.specs.declared.numbers.Session.{Session}
use Rattle.pin_blocks.specs.PinRules.{PinRules}
use Rattle.request_queue.specs.Requests.{Found, Nowhere, Replied, StillPending, look}
use Rattle.session_book.specs.Sessions.{floor_of, is_open}
use Rattle.turnstile.specs.Entries.{entry}
use Rattle.turnstile.specs.Rules.{entries_of, entry_in, made_by}
use Rattle.turnstile.specs.Turns.{Enters}
use Rattle.turnstile.specs.declared.view.MadeEntry.{MadeEntry}
use Rattle.turnstile.specs.declared.view.PassView.{PassView}

-- the last entry is that of the machine after those before it
legal-last : (set : Setting) (state : Flat) (history : List DeskEntry) (last : DeskEntry) → LegalFrom set state (history ++ last ∷ []) → IsEntryAt set (run_from set state (acts_of history)) last
legal-last set state [] last legal = legal.0
legal-last set state (first ∷ rest) last legal = legal-last set (next set state first.op first.outcome.word).state rest last legal.1

-- the state before the last entry, which is of one run with it
state-front : (pin_rules : PinRules) (front : List DeskEntry) (last : DeskEntry) → run_from (setting_of pin_rules (front ++ last ∷ [])) opening (acts_of front) ≡ state_after pin_rules front
state-front pin_rules [] last = refl
state-front pin_rules (first ∷ rest) last = refl

front-take : (seen : List (MadeEntry Step StepOut)) (made : MadeEntry Step StepOut) → take (length (seen ++ made ∷ []) - 1) (seen ++ made ∷ []) ≡ seen
front-take seen made =
    let size : length (seen ++ made ∷ []) - 1 ≡ length seen = omega (arith, length-append seen (made ∷ [])) in
    ap (λ (n : ℕ). take n (seen ++ made ∷ [])) size ∙ take-append_seam seen (made ∷ [])

-- the entry just made is that of the machine in the state before it
pub entered-last : (pin_rules : PinRules) (before after : PassView Step StepOut) (place : ℕ) (step : Step) (outcome : StepOut) → Enters (Legal pin_rules) (status_after pin_rules) before place step outcome after
    → IsEntryAt (setting_of pin_rules (entries_of after.seen)) (state_before pin_rules after) (entry step outcome)
entered-last pin_rules before after place step outcome enters =
    let set : Setting = setting_of pin_rules (entries_of after.seen) in
    let last : DeskEntry = entry step outcome in
    let made : MadeEntry Step StepOut = made_by before.number last in
    let seen : List (MadeEntry Step StepOut) = before.seen ++ enters.between in
    let whole : entries_of after.seen ≡ entries_of seen ++ last ∷ [] = ap entries_of enters.seen ∙ map-append entry_in seen (made ∷ []) in
    let front : take (length after.seen - 1) after.seen ≡ seen = ap (λ (l : List (MadeEntry Step StepOut)). take (length l - 1) l) enters.seen ∙ front-take seen made in
    let state : run_from set opening (acts_of (entries_of seen)) ≡ state_before pin_rules after =
    ap (λ (l : List DeskEntry). run_from (setting_of pin_rules l) opening (acts_of (entries_of seen))) whole ∙ state-front pin_rules (entries_of seen) last ∙ ap (λ (l : List (MadeEntry Step StepOut)). state_after pin_rules (entries_of l)) (sym front) in
    subst (λ (h : Flat). IsEntryAt set h last) state (legal-last set opening (entries_of seen) last (subst (λ (history : List DeskEntry). LegalFrom set opening history) whole enters.lawful.entries))

-- a Submit says its id or why it is refused
module _ (session : Session) where
  abbrev pub SaysSubmitted : List Out → Type 0
  SaysSubmitted outs = (answer : Submitted) × (outs ≡ submit_out session answer ∷ [])

  abbrev pub SaysCollected : ℕ → List Out → Type 0
  SaysCollected id outs = (answer : Collected) × (outs ≡ collect_out session id answer ∷ [])

  submit-by : (refusal : Option Refusal) (shared : Shared) (limit : ℕ) (command : Command) → SaysSubmitted (submit_by refusal shared session limit command).outs
  submit-by (Some refusal) shared limit command = (submitted.Refused refusal, refl)
  submit-by None shared limit command = (submitted.Request _, refl)

  submit-says : (set : Setting) (state : Flat) (limit : ℕ) (command : Command) (outcome : StepOut) → IsEntryAt set state (entry (steps.Submit session limit command) outcome) → SaysSubmitted outcome.outs.items
  submit-says set state limit command outcome is =
      let said = submit-by (submit_refusal set.pin_rules state.shared session command) state.shared limit command in (said.0, is.outs ∙ said.1)

  pub submit-told : (pin_rules : PinRules) (before after : PassView Step StepOut) (place limit : ℕ) (command : Command) (outcome : StepOut) → Enters (Legal pin_rules) (status_after pin_rules) before place (steps.Submit session limit command) outcome after → SaysSubmitted outcome.outs.items
  submit-told pin_rules before after place limit command outcome enters =
      submit-says (setting_of pin_rules (entries_of after.seen)) (state_before pin_rules after) limit command outcome (entered-last pin_rules before after place (steps.Submit session limit command) outcome enters)

  found-by : (id : ℕ) (found : Found Reply) (shared : Shared) → SaysCollected id (says shared (out.Told session (told_request id found))).outs
  found-by id Nowhere shared = (collected.Refused refusals.InvalidReqId, refl)
  found-by id StillPending shared = (collected.Pending, refl)
  found-by id (Replied reply) shared = (collected.Ended reply, refl)

  open-by : (id : ℕ) (is_open : Bool) (shared : Shared) (effect : Said) → SaysCollected id effect.outs → SaysCollected id (if is_open then effect else says shared (out.Told session (telling.No refusals.NoSession))).outs
  open-by id true shared effect said = said
  open-by id false shared effect said = (collected.Refused refusals.NoSession, refl)

  ask-says : (set : Setting) (state : Flat) (id : ℕ) (outcome : StepOut) → IsEntryAt set state (entry (steps.Ask session (asked.Reply id)) outcome) → SaysCollected id outcome.outs.items
  ask-says set state id outcome is =
      let said = open-by id (is_open session state.shared.sessions) state.shared _ (found-by id (look session (floor_of session state.shared.sessions) id state.shared.requests) state.shared) in (said.0, is.outs ∙ said.1)

  pub collect-told : (pin_rules : PinRules) (before after : PassView Step StepOut) (place id : ℕ) (outcome : StepOut) → Enters (Legal pin_rules) (status_after pin_rules) before place (steps.Ask session (asked.Reply id)) outcome after → SaysCollected id outcome.outs.items
  collect-told pin_rules before after place id outcome enters =
      ask-says (setting_of pin_rules (entries_of after.seen)) (state_before pin_rules after) id outcome (entered-last pin_rules before after place (steps.Ask session (asked.Reply id)) outcome enters)
