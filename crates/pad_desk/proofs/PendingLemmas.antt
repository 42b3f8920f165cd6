-- An ask for a reply is told pending exactly where the request is pending.
use Rattle.std.proofs.Common.{ap, refl, sym, ◌∙◌}
use Rattle.std.specs.Prelude.{Bool, List, [], false, if◌then◌else◌, true, ℕ, ◌∷◌, ◌≡◌, ◌↔◌}
use Rattle.flat_machine.specs.Machine.{next}
use Rattle.flat_machine.specs.RequestSteps.{told_request}
use Rattle.flat_machine.specs.Settings.{Setting}
use Rattle.flat_machine.specs.State.{Flat, Shared, says}
use Rattle.pad_desk.proofs.AnswerLemmas.{entered-last}
use Rattle.pad_desk.specs.Answers.{collect_out}
use Rattle.pad_desk.specs.Histories.{IsEntryAt, Legal, setting_of, status_after}
use Rattle.pad_desk.specs.Pending.{IsPendingFor, state_before}
use Rattle.pad_desk.specs.declared.answers.Collected.TheVariants as collected
use Rattle.pad_desk.specs.declared.answers.Collected.{Collected}
use Rattle.pad_desk.specs.declared.outcome.StepOut.{StepOut}
use Rattle.pad_steps.specs.declared.answers.Out.TheVariants as out
use Rattle.pad_steps.specs.declared.answers.Out.{Out}
use Rattle.pad_steps.specs.declared.answers.Refusal.TheVariants as refusals
use Rattle.pad_steps.specs.declared.answers.Reply.{Reply}
use Rattle.pad_steps.specs.declared.answers.Told.TheVariants as telling
use Rattle.pad_steps.specs.declared.steps.DiskWord.{DiskWord}
use Rattle.pad_steps.specs.declared.steps.Question.TheVariants as asked
use Rattle.pad_steps.specs.declared.steps.Step.TheVariants as steps
use Rattle.pad_steps.specs.declared.steps.Step.{Step}
use Rattle.pad_words.specs.declared.numbers.Session.{Session}
use Rattle.pin_blocks.specs.PinRules.{PinRules}
use Rattle.request_queue.specs.Requests.{Found, Nowhere, Replied, StillPending, look}
use Rattle.session_book.specs.Sessions.{floor_of, is_open}
use Rattle.turnstile.specs.Entries.{entry}
use Rattle.turnstile.specs.Rules.{entries_of}
use Rattle.turnstile.specs.Turns.{Enters}
use Rattle.turnstile.specs.declared.view.PassView.{PassView}

-- what is told of what was found
module _ (session : Session) (id : ℕ) where
  abbrev pub TellsPending : List Out → Type 0
  TellsPending outs = outs ≡ out.Told session telling.Pending ∷ []

  found-pending : (found : Found Reply) → TellsPending (out.Told session (told_request id found) ∷ []) → found ≡ StillPending
  found-pending Nowhere told = cc
  found-pending StillPending told = refl
  found-pending (Replied reply) told = cc

  -- what an ask is told, by whether its session is open
  abbrev ask_outs : Shared → Bool → Found Reply → List Out
  ask_outs shared opened found = (if opened then says shared (out.Told session (told_request id found)) else says shared (out.Told session (telling.No refusals.NoSession))).outs

  pending-of : (shared : Shared) (opened : Bool) (found : Found Reply) → TellsPending (ask_outs shared opened found) → (opened ≡ true) × (found ≡ StillPending)
  pending-of shared true found told = (refl, found-pending found told)
  pending-of shared false found told = absurd cc

  pub ask-pending : (set : Setting) (state : Flat) (word : DiskWord) → TellsPending (next set state (steps.Ask session (asked.Reply id)) word).outs ↔ IsPendingFor state.shared session id
  ask-pending set state word =
      let found : Found Reply = look session (floor_of session state.shared.sessions) id state.shared.requests in
      let opened : Bool = is_open session state.shared.sessions in (
        (λ told. let both = pending-of state.shared opened found told in record { opened = both.0; found = both.1 }),
        (λ is. ap (λ (b : Bool). ask_outs state.shared b found) is.opened ∙ ap (λ (f : Found Reply). out.Told session (told_request id f) ∷ []) is.found),
      )

  collected-pending : (answer : Collected) → TellsPending (collect_out session id answer ∷ []) ↔ (answer ≡ collected.Pending)
  collected-pending collected.Pending = ((λ told. refl), (λ is. refl))
  collected-pending (collected.Ended reply) = ((λ told. cc), (λ is. cc))
  collected-pending (collected.Refused refusal) = ((λ told. cc), (λ is. cc))

-- what a collect answers
pub collect-pending : (session : Session) (pin_rules : PinRules) (before after : PassView Step StepOut) (place id : ℕ) (outcome : StepOut) (answer : Collected) → Enters (Legal pin_rules) (status_after pin_rules) before place (steps.Ask session (asked.Reply id)) outcome after
    → outcome.outs.items ≡ collect_out session id answer ∷ [] → (answer ≡ collected.Pending) ↔ IsPendingFor (state_before pin_rules after).shared session id
collect-pending session pin_rules before after place id outcome answer enters says =
    let set : Setting = setting_of pin_rules (entries_of after.seen) in
    let state : Flat = state_before pin_rules after in
    let is : IsEntryAt set state (entry (steps.Ask session (asked.Reply id)) outcome) = entered-last pin_rules before after place (steps.Ask session (asked.Reply id)) outcome enters in
    let asks = ask-pending session id set state outcome.word in
    let answers = collected-pending session id answer in (
      (λ pending. asks.0 (sym is.outs ∙ says ∙ answers.1 pending)),
      (λ pending. answers.0 (sym says ∙ is.outs ∙ asks.1 pending)),
    )
