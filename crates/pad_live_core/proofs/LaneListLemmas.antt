-- The steps of a lane's events are its lines, in order.
use Rattle.std.proofs.Common.{ap, append-nil, refl, subst, sym, inl, inr, List, [], ◌++◌, ◌∙◌, ◌∷◌, ◌≡◌, ℕ}
use Rattle.std.specs.Prelude.{None, Option, Some}
use Rattle.pad_live_core.specs.LaneEvents.{LaneEvent, made, opened, passed, polled, steps_of}
use Rattle.pad_live_core.specs.LaneLines.{Breaks, Follows, FollowsLine, IsPoll, LaneList, LineSteps, id_at, id_drawn, ids_drawn, ids_of, reply_asked}
use Rattle.pad_live_core.specs.LiveHistories.{FollowsTo, HasLaneList}
use Rattle.pad_live_core.specs.declared.stop.Stop.{Stop}
use Rattle.pad_words.specs.declared.numbers.Session.{Session}
use Rattle.script_lang.specs.declared.lane_kinds.LaneStep.TheVariants as lane
use Rattle.script_lang.specs.declared.lane_kinds.LaneStep.{LaneStep}
use Rattle.turnstile.specs.Entries.{entry}
use Rattle.turnstile.specs.Numbers.{Each}

pub steps_of_append : (a b : List LaneEvent) → steps_of (a ++ b) ≡ steps_of a ++ steps_of b
steps_of_append [] b = refl
steps_of_append (made place e ∷ a) b = ap (λ l. e ∷ l) (steps_of_append a b)
steps_of_append (polled place e ∷ a) b = steps_of_append a b
steps_of_append (passed k ∷ a) b = steps_of_append a b
steps_of_append (opened ∷ a) b = steps_of_append a b

-- the ids are those of the steps
ids_are : (events : List LaneEvent) → ids_of events ≡ ids_drawn (steps_of events)
ids_are [] = refl
ids_are (made place e ∷ events) = ap (λ l. id_drawn e.op e.outcome ++ l) (ids_are events)
ids_are (polled place e ∷ events) = ids_are events
ids_are (passed k ∷ events) = ids_are events
ids_are (opened ∷ events) = ids_are events

-- polls are no steps
no_steps : (session : Session) (id : ℕ) (polls tail : List LaneEvent) → Each (IsPoll session id) polls → steps_of (polls ++ tail) ≡ steps_of tail
no_steps session id [] tail is = refl
no_steps session id (made place e ∷ es) tail is = absurd is.0
no_steps session id (polled place e ∷ es) tail is = no_steps session id es tail is.1
no_steps session id (passed k ∷ es) tail is = absurd is.0
no_steps session id (opened ∷ es) tail is = absurd is.0

line_steps : (ids : List ℕ) (line : LaneStep) (now : List LaneEvent) → FollowsLine ids line now → LineSteps ids line (steps_of now)
line_steps ids (lane.Plain step) now f = (f.1, ap steps_of f.2)
line_steps ids (lane.Cancel session id) now f = (f.1, ap steps_of f.2)
line_steps ids (lane.AskReply session k) now f = (f.1, ap steps_of f.2)
line_steps ids lane.AwaitEntry now f = ap steps_of f.1
line_steps ids (lane.AwaitReply session k) now f =
    let last : List LaneEvent = made f.place (entry (reply_asked session (id_at ids k)) f.outcome) ∷ [] in
    (f.outcome, f.told, ap steps_of f.is ∙ no_steps session (id_at ids k) f.polls last f.pending)

pub lane_list : (ids : List ℕ) (lines : List LaneStep) (events : List LaneEvent) → Follows ids lines events → LaneList ids lines (steps_of events)
lane_list ids [] events f = ap steps_of f
lane_list ids (line ∷ lines) events f = (
  steps_of f.0,
  steps_of f.1,
  ap steps_of f.2 ∙ steps_of_append f.0 f.1,
  line_steps ids line f.0 f.3,
  subst (λ (drawn : List ℕ). LaneList (ids ++ drawn) lines (steps_of f.1)) (ids_are f.0) (lane_list (ids ++ ids_of f.0) lines f.1 f.4),
)

-- a line that was not done has no step
broken_steps : (ids : List ℕ) (line : LaneStep) (now : List LaneEvent) → Breaks ids line now → steps_of now ≡ []
broken_steps ids line now (inl none) = ap steps_of none
broken_steps ids line now (inr b) = ap steps_of b.is ∙ ap steps_of (sym (append-nil b.polls)) ∙ no_steps b.session (id_at ids b.k) b.polls [] b.pending

-- the lane's list of steps, whether it did all its lines or stopped
pub has_lane_list : (lines : List LaneStep) (stop : Option Stop) (events : List LaneEvent) → FollowsTo lines stop events → HasLaneList lines stop (steps_of events)
has_lane_list lines None events f = lane_list [] lines events f
has_lane_list lines (Some s) events f =
    let same : steps_of events ≡ steps_of f.events = ap steps_of f.is ∙ steps_of_append f.events f.now ∙ ap (λ l. steps_of f.events ++ l) (broken_steps (ids_of f.events) f.line f.now f.breaks) ∙ append-nil (steps_of f.events) in
    record { done = f.done; rest = f.line ∷ f.rest; cut = f.cut; list = subst (LaneList [] f.done) (sym same) (lane_list [] f.done f.events f.follows) }
