-- Lists of events that grow at their end.
use Rattle.std.proofs.Common.{ap, append_assoc, append-nil, arith, length, refl, subst, suc, sym, zero, inl, inr, true, false, Bool, List, [], ◌++◌, ◌+◌, ◌∙◌, ◌∷◌, ◌≡◌, ◌<◌, ◌≤◌, ℕ}
use Rattle.std.specs.Prelude.{Option, Some, None}
use Rattle.pad_live_core.specs.Bounds.{awaits, is_await_line}
use Rattle.pad_live_core.specs.LaneEvents.{DeskLog, LaneEvent, PassedTrue, Rising, made, opened, opens_of, passed, placed_of, polled, polls_of, steps_of}
use Rattle.pad_live_core.specs.LaneLines.{Breaks, Follows, FollowsLine, IsPoll, id_at, id_drawn, ids_of, reply_asked}
use Rattle.pad_live_core.specs.LiveHistories.{FollowsTo}
use Rattle.pad_live_core.specs.declared.stop.Stop.{Stop}
use Rattle.pad_words.specs.declared.numbers.Session.{Session}
use Rattle.pin_blocks.specs.PinRules.{PinRules}
use Rattle.script_lang.specs.declared.lane_kinds.LaneStep.TheVariants as lane
use Rattle.script_lang.specs.declared.lane_kinds.LaneStep.{LaneStep}
use Rattle.turnstile.specs.Entries.{entry}
use Rattle.turnstile.specs.Numbers.{Each}

pub placed_of_append : (a b : List LaneEvent) → placed_of (a ++ b) ≡ placed_of a ++ placed_of b
placed_of_append [] b = refl
placed_of_append (made place e ∷ a) b = ap (λ l. (place, e) ∷ l) (placed_of_append a b)
placed_of_append (polled place e ∷ a) b = ap (λ l. (place, e) ∷ l) (placed_of_append a b)
placed_of_append (passed k ∷ a) b = placed_of_append a b
placed_of_append (opened ∷ a) b = placed_of_append a b

pub polls_of_append : (a b : List LaneEvent) → polls_of (a ++ b) ≡ polls_of a ++ polls_of b
polls_of_append [] b = refl
polls_of_append (made place e ∷ a) b = polls_of_append a b
polls_of_append (polled place e ∷ a) b = ap (λ l. e ∷ l) (polls_of_append a b)
polls_of_append (passed k ∷ a) b = polls_of_append a b
polls_of_append (opened ∷ a) b = polls_of_append a b

pub ids_of_append : (a b : List LaneEvent) → ids_of (a ++ b) ≡ ids_of a ++ ids_of b
ids_of_append [] b = refl
ids_of_append (made place e ∷ a) b = ap (λ l. id_drawn e.op e.outcome ++ l) (ids_of_append a b) ∙ sym (append_assoc (id_drawn e.op e.outcome) (ids_of a) (ids_of b))
ids_of_append (polled place e ∷ a) b = ids_of_append a b
ids_of_append (passed k ∷ a) b = ids_of_append a b
ids_of_append (opened ∷ a) b = ids_of_append a b

pub opens_of_append : (a b : List LaneEvent) → opens_of (a ++ b) ≡ opens_of a + opens_of b
opens_of_append [] b = omega arith
opens_of_append (made place e ∷ a) b = opens_of_append a b
opens_of_append (polled place e ∷ a) b = opens_of_append a b
opens_of_append (passed k ∷ a) b = opens_of_append a b
opens_of_append (opened ∷ a) b = let h = opens_of_append a b in omega (arith, h)

-- what rises up to n goes on with what rises from n
pub rising_append : (a b : List LaneEvent) (lo n top : ℕ) → Rising lo a n → Rising n b top → Rising lo (a ++ b) top
rising_append [] b lo n top ra rb = rising_from b lo n top ra rb
  where
    rising_from : (b : List LaneEvent) (lo n top : ℕ) → lo ≤ n → Rising n b top → Rising lo b top
    rising_from [] lo n top le r = omega (arith, le, r)
    rising_from (made place e ∷ b) lo n top le r = (omega (arith, le, r.0), r.1)
    rising_from (polled place e ∷ b) lo n top le r = (omega (arith, le, r.0), r.1)
    rising_from (passed k ∷ b) lo n top le r = (omega (arith, le, r.0), r.1)
    rising_from (opened ∷ b) lo n top le r = rising_from b lo n top le r
rising_append (made place e ∷ a) b lo n top ra rb = (ra.0, rising_append a b (place + 1) n top ra.1 rb)
rising_append (polled place e ∷ a) b lo n top ra rb = (ra.0, rising_append a b (place + 1) n top ra.1 rb)
rising_append (passed k ∷ a) b lo n top ra rb = (ra.0, rising_append a b k n top ra.1 rb)
rising_append (opened ∷ a) b lo n top ra rb = rising_append a b lo n top ra rb

pub passed_append : (pin_rules : PinRules) (log : DeskLog) (a b : List LaneEvent) → PassedTrue pin_rules log a → PassedTrue pin_rules log b → PassedTrue pin_rules log (a ++ b)
passed_append pin_rules log [] b pa pb = pb
passed_append pin_rules log (made place e ∷ a) b pa pb = passed_append pin_rules log a b pa pb
passed_append pin_rules log (polled place e ∷ a) b pa pb = passed_append pin_rules log a b pa pb
passed_append pin_rules log (passed k ∷ a) b pa pb = (pa.0, passed_append pin_rules log a b pa.1 pb)
passed_append pin_rules log (opened ∷ a) b pa pb = passed_append pin_rules log a b pa pb

-- one line more
pub follows_more : (ids : List ℕ) (lines : List LaneStep) (events : List LaneEvent) (line : LaneStep) (now : List LaneEvent) → Follows ids lines events → FollowsLine (ids ++ ids_of events) line now → Follows ids (lines ++ line ∷ []) (events ++ now)
follows_more ids [] events line now f one =
    let start : FollowsLine ids line now = subst (λ (xs : List ℕ). FollowsLine xs line now) (ap (λ (es : List LaneEvent). ids ++ ids_of es) f ∙ append-nil ids) one in
    (now, [], ap (λ (es : List LaneEvent). es ++ now) f ∙ sym (append-nil now), start, refl)
follows_more ids (l ∷ ls) events line now f one =
    let past : List LaneEvent = f.0 in let rest : List LaneEvent = f.1 in
    let same : ids ++ ids_of events ≡ (ids ++ ids_of past) ++ ids_of rest = ap (λ (es : List LaneEvent). ids ++ ids_of es) f.2 ∙ ap (λ l. ids ++ l) (ids_of_append past rest) ∙ sym (append_assoc ids (ids_of past) (ids_of rest)) in
    (past, rest ++ now, ap (λ (es : List LaneEvent). es ++ now) f.2 ∙ append_assoc past rest now, f.3, follows_more (ids ++ ids_of past) ls rest line now f.4 (subst (λ (xs : List ℕ). FollowsLine xs line now) same one))

-- it began to await no more replies than its lines say

opens_polls : (session : Session) (id : ℕ) (polls tail : List LaneEvent) → Each (IsPoll session id) polls → opens_of (polls ++ tail) ≡ opens_of tail
opens_polls session id [] tail is = refl
opens_polls session id (made place e ∷ es) tail is = absurd is.0
opens_polls session id (polled place e ∷ es) tail is = opens_polls session id es tail is.1
opens_polls session id (passed k ∷ es) tail is = absurd is.0
opens_polls session id (opened ∷ es) tail is = absurd is.0

opens_line : (ids : List ℕ) (line : LaneStep) (now : List LaneEvent) → FollowsLine ids line now → opens_of now ≤ is_await_line line
opens_line ids (lane.Plain step) now f = let a = ap opens_of f.2 in omega (arith, a)
opens_line ids (lane.Cancel session id) now f = let a = ap opens_of f.2 in omega (arith, a)
opens_line ids (lane.AskReply session k) now f = let a = ap opens_of f.2 in omega (arith, a)
opens_line ids lane.AwaitEntry now f = let a = ap opens_of f.1 in omega (arith, a)
opens_line ids (lane.AwaitReply session k) now f = let a = ap opens_of f.is in let b = opens_polls session (id_at ids k) f.polls (made f.place (entry (reply_asked session (id_at ids k)) f.outcome) ∷ []) f.pending in omega (arith, a, b)

opens_broken : (ids : List ℕ) (line : LaneStep) (now : List LaneEvent) → Breaks ids line now → opens_of now ≤ is_await_line line
opens_broken ids line now (inl none) = let a = ap opens_of none in omega (arith, a)
opens_broken ids line now (inr b) = let a = ap opens_of b.is in let c = opens_polls b.session (id_at ids b.k) b.polls [] b.pending in let d = ap opens_of (append-nil b.polls) in let l = ap is_await_line b.awaits in omega (arith, a, c, d, l)

opens_lines : (ids : List ℕ) (lines : List LaneStep) (events : List LaneEvent) → Follows ids lines events → opens_of events ≤ awaits lines
opens_lines ids [] events f = let a = ap opens_of f in omega (arith, a)
opens_lines ids (line ∷ lines) events f = let a = ap opens_of f.2 in let b = opens_of_append f.0 f.1 in let c = opens_line ids line f.0 f.3 in let d = opens_lines (ids ++ ids_of f.0) lines f.1 f.4 in omega (arith, a, b, c, d)

awaits_append : (a b : List LaneStep) → awaits (a ++ b) ≡ awaits a + awaits b
awaits_append [] b = omega arith
awaits_append (l ∷ a) b = let h = awaits_append a b in omega (arith, h)

pub opens_most : (lines : List LaneStep) (stop : Option Stop) (events : List LaneEvent) → FollowsTo lines stop events → opens_of events ≤ awaits lines
opens_most lines None events f = opens_lines [] lines events f
opens_most lines (Some s) events f =
    let a = ap opens_of f.is in let b = opens_of_append f.events f.now in let c = opens_lines [] f.done f.events f.follows in let d = opens_broken (ids_of f.events) f.line f.now f.breaks in
    let e = ap awaits f.cut in let g = awaits_append f.done (f.line ∷ f.rest) in omega (arith, a, b, c, d, e, g)
