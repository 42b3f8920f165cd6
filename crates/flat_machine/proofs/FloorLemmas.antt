-- A session sees no request at or below its floor.
use Rattle.flat_machine.specs.Machine.{next}
use Rattle.flat_machine.specs.RequestSteps.{cancels, is_canceled, told_request}
use Rattle.request_queue.specs.Requests.{Found, Nowhere, Replied, StillPending, look, pending_where}
use Rattle.pad_words.specs.Numbers.{same_session}
use Rattle.session_book.specs.Sessions.{floor_of, is_open}
use Rattle.flat_machine.specs.State.{Flat, Shared, Said, after_said, says}
use Rattle.flat_machine.specs.Settings.{Setting}
use Rattle.request_queue.specs.declared.requests.Request.{Request}
use Rattle.request_queue.specs.declared.requests.RequestRow.{RequestRow}
use Rattle.request_queue.specs.declared.requests.RequestRow.TheVariants.{Gone, InWork, Waiting}
use Rattle.pad_steps.specs.declared.answers.Reply.{Reply}
use Rattle.pad_steps.specs.declared.commands.Command.{Command}
use Rattle.pad_steps.specs.declared.steps.DiskWord.{DiskWord}
use Rattle.pad_words.specs.declared.numbers.Session.{Session}
use Rattle.std.proofs.Common.{ap, arith, ◌∙◌}
use Rattle.std.proofs.lemmas.Bool.{eqb-true, ltb-true, ne_eqb}
use Rattle.std.specs.Prelude.{Bool, IsTrue, List, [], false, if◌then◌else◌, nat_lt, not, refl, true, ℕ, ◌&&◌, ◌<◌, ◌==◌, ◌||◌, ◌∷◌, ◌≡◌, ◌≤◌}
use Rattle.pad_steps.specs.declared.answers.Out.TheVariants as out
use Rattle.pad_steps.specs.declared.answers.Refusal.TheVariants as refusal
use Rattle.pad_steps.specs.declared.answers.Told.TheVariants as told
use Rattle.pad_steps.specs.declared.steps.Question.TheVariants as question
use Rattle.pad_steps.specs.declared.steps.Step.TheVariants as step

not_above : (floor id n : ℕ) (b c : Bool) → (n == id) ≡ b → nat_lt floor n ≡ c → id ≤ floor → (b && c) ≡ false
not_above floor id n true true e f l = absurd (above floor id n (eqb-true n id e) (ltb-true floor n f) l)
  where
    above : (floor id n : ℕ) → n ≡ id → floor < n → id ≤ floor → ⊥
    above floor id n e f l = omega (arith, e, f, l)
not_above floor id n true false e f l = refl
not_above floor id n false c e f l = refl

and_false : (a b : Bool) → b ≡ false → (a && b) ≡ false
and_false true b e = e
and_false false b e = refl

not_canceled : (p : Shared) (s : Session) (id : ℕ) (a : Request Command) → 0 < id → id ≤ floor_of s p.sessions → is_canceled p s id a ≡ false
not_canceled p s id a positive l = and_false (same_session a.session s) ((id == 0) || ((a.id == id) && nat_lt (floor_of s p.sessions) a.id))
    (rw (ne_eqb id 0 (λ e. omega (arith, e, positive))) (not_above (floor_of s p.sessions) id a.id (a.id == id) (nat_lt (floor_of s p.sessions) a.id) refl refl l))

none_if : (b : Bool) (a : Request Command) (xs : List (Request Command)) → b ≡ false → xs ≡ [] → (if b then a ∷ xs else xs) ≡ []
none_if true a xs e f = cc
none_if false a xs e f = f

none_found : (test : Request Command → Bool) (rows : List (RequestRow Command Reply)) → ((a : Request Command) → test a ≡ false) → pending_where test rows ≡ []
none_found test [] none = refl
none_found test (Waiting a ∷ rows) none = none_if (test a) a (pending_where test rows) (none a) (none_found test rows none)
none_found test (InWork a ∷ rows) none = none_if (test a) a (pending_where test rows) (none a) (none_found test rows none)
none_found test (Gone id s q ∷ rows) none = none_found test rows none

own_step : (b : Bool) (x y : Said) → b ≡ true → (if b then x else y) ≡ x
own_step true x y e = refl
own_step false x y e = cc

refused_cancel : (b : Bool) (x y : Said) → b ≡ false → (if not b && true then x else y) ≡ x
refused_cancel true x y e = cc
refused_cancel false x y e = refl

pub floor_cancel : (set : Setting) (h : Flat) (s : Session) (id : ℕ) (w : DiskWord) → IsTrue (is_open s h.shared.sessions) → 0 < id → id ≤ floor_of s h.shared.sessions → next set h (step.Cancel s id) w ≡ after_said h (says h.shared (out.Told s (told.No refusal.InvalidReqId)))
floor_cancel set h s id w is positive l = ap (after_said h)
    (own_step (is_open s h.shared.sessions) _ _ is
    ∙ ap (cancels h.shared s id) (none_found (is_canceled h.shared s id) h.shared.requests (λ a. not_canceled h.shared s id a positive l))
    ∙ refused_cancel (id == 0) _ _ (ne_eqb id 0 (λ e. omega (arith, e, positive))))

unseen_if : (b : Bool) (x y : Found Reply) → b ≡ false → (if b then x else y) ≡ y
unseen_if true x y e = cc
unseen_if false x y e = refl

unseen : (floor id n : ℕ) (own : Bool) → id ≤ floor → (own && nat_lt floor n && (n == id)) ≡ false
unseen floor id n own l = by_parts own (nat_lt floor n) (n == id) (not_above floor id n (n == id) (nat_lt floor n) refl refl l)
  where
    by_parts : (a b c : Bool) → (c && b) ≡ false → (a && b && c) ≡ false
    by_parts true true c e = flipped c e
      where
        flipped : (c : Bool) → (c && true) ≡ false → c ≡ false
        flipped true e = e
        flipped false e = refl
    by_parts true false c e = refl
    by_parts false b c e = refl

look-below : (s : Session) (floor id : ℕ) (rows : List (RequestRow Command Reply)) → id ≤ floor → look s floor id rows ≡ Nowhere
look-below s floor id [] l = refl
look-below s floor id (Waiting a ∷ rows) l = unseen_if (same_session a.session s && nat_lt floor a.id && (a.id == id)) StillPending (look s floor id rows) (unseen floor id a.id (same_session a.session s) l) ∙ look-below s floor id rows l
look-below s floor id (InWork a ∷ rows) l = unseen_if (same_session a.session s && nat_lt floor a.id && (a.id == id)) StillPending (look s floor id rows) (unseen floor id a.id (same_session a.session s) l) ∙ look-below s floor id rows l
look-below s floor id (Gone i t q ∷ rows) l = unseen_if (same_session t s && nat_lt floor i && (i == id)) (Replied q) (look s floor id rows) (unseen floor id i (same_session t s) l) ∙ look-below s floor id rows l

pub floor_ask : (set : Setting) (h : Flat) (s : Session) (id : ℕ) (w : DiskWord) → IsTrue (is_open s h.shared.sessions) → id ≤ floor_of s h.shared.sessions → next set h (step.Ask s (question.Reply id)) w ≡ after_said h (says h.shared (out.Told s (told.No refusal.InvalidReqId)))
floor_ask set h s id w is l = ap (after_said h)
    (own_step (is_open s h.shared.sessions) _ _ is
    ∙ ap (λ (found : Found Reply). says h.shared (out.Told s (told_request id found))) (look-below s (floor_of s h.shared.sessions) id h.shared.requests l))
