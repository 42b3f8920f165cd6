-- Which requests come into work, and which ids are told.
use Rattle.flat_machine.proofs.RefusalLemmas.{refused_submit}
use Rattle.flat_machine.proofs.RequestMoves.{NumberedFrom, Rows}
use Rattle.flat_machine.proofs.RequestRuns.{numbered}
use Rattle.flat_machine.proofs.StepCauses.{Began, ByCancel, ByClose, ByCut, ByOff, ByTick, Caused, EndedMany, EndedOne, EndsMany, EndsOne, ByAnswer, ByBadStore, ByDevice, ByFault, ByPress, ByRefusal, Nothing, RefusedEntry, Submitted, next_caused}
use Rattle.flat_machine.specs.Facts.{IsStart}
use Rattle.flat_machine.specs.Machine.{Act, next, run_from}
use Rattle.flat_machine.specs.QueueFacts.{IsRefusedSubmit, IsTaken}
use Rattle.flat_machine.specs.RequestFacts.{row_id}
use Rattle.flat_machine.specs.RequestSteps.{command_refusal, or_locked}
use Rattle.flat_machine.specs.Settings.{Setting}
use Rattle.flat_machine.specs.State.{After, Flat, is_off}
use Rattle.device_lock.specs.LockLine.{holder_of, locked_out}
use Rattle.request_queue.specs.Requests.{begun_as, may_begin, pending_count}
use Rattle.request_queue.specs.declared.requests.Request.{Request}
use Rattle.request_queue.specs.declared.requests.RequestRow.{RequestRow}
use Rattle.request_queue.specs.declared.requests.RequestRow.TheVariants.{Gone, InWork, Waiting}
use Rattle.session_book.specs.Sessions.{is_open}
use Rattle.pad_steps.specs.declared.answers.Out.{Out}
use Rattle.pad_steps.specs.declared.answers.Refusal.{Refusal}
use Rattle.pad_steps.specs.declared.answers.Reply.{Reply}
use Rattle.pad_steps.specs.declared.commands.Command.{Command}
use Rattle.pad_steps.specs.declared.steps.DiskWord.{DiskWord}
use Rattle.pad_words.specs.Numbers.{same_session}
use Rattle.pad_words.specs.declared.numbers.Session.{Session}
use Rattle.std.proofs.Common.{ap, arith, inl, inr, subst, sym, ◌∙◌}
use Rattle.std.specs.List.{slice_get}
use Rattle.std.specs.Prelude.{Bool, IsTrue, List, None, Option, Some, [], false, if◌then◌else◌, nat_le, not, refl, suc, true, zero, ℕ, ◌+◌, ◌<◌, ◌∷◌, ◌≡◌}
use Rattle.pad_steps.specs.declared.answers.Refusal.TheVariants as refusal
use Rattle.pad_steps.specs.declared.answers.Reply.TheVariants as reply
use Rattle.pad_steps.specs.declared.steps.Step.TheVariants as step

-- a Submit while another session holds the lock

some_if : {A : Type 0} → (b : Bool) (r : A) (o : Option A) → (x : A) × (o ≡ Some x) → (x : A) × ((if b then Some r else o) ≡ Some x)
some_if true r o found = (r, refl)
some_if false r o found = found

locked_by : (t u : Session) (line : List Session) (rest : Option Refusal) → holder_of line ≡ Some u → same_session u t ≡ false → (x : Refusal) × (or_locked (locked_out t line) rest ≡ Some x)
locked_by t u [] rest e apart = absurd (no_holder u e)
  where
    no_holder : (u : Session) → None ≡ Some u → ⊥
    no_holder u e = cc
locked_by t u (f ∷ line) rest e apart = other (same_session f t) (subst (λ (x : Session). same_session x t ≡ false) (sym (same_one f u e)) apart)
  where
    same_one : (f u : Session) → Some f ≡ Some u → f ≡ u
    same_one f u e = cc

    other : (b : Bool) → b ≡ false → (x : Refusal) × (or_locked (if b then None else Some f) rest ≡ Some x)
    other true g = cc
    other false g = (refusal.Locked f, refl)

pub submit_locked_out : (set : Setting) (h : Flat) (t u : Session) (limit : ℕ) (c : Command) (w : DiskWord) → holder_of h.shared.line ≡ Some u → same_session u t ≡ false → IsRefusedSubmit h t (next set h (step.Submit t limit c) w)
submit_locked_out set h t u limit c w held apart =
    let why = some_if (not (is_open t h.shared.sessions)) refusal.NoSession _ (some_if (is_off h.shared.device) refusal.ConnectionLost _
    (locked_by t u h.shared.line (if nat_le 16 (pending_count t h.shared.requests) then Some (refusal.QueueFull 16) else command_refusal set.pin_rules c) held apart)) in
    let same = refused_submit set h t limit c why.0 w why.1 in
    record { why = why.0; stays = ap (λ (x : After). x.state) same; said = ap (λ (x : After). x.outs) same }

-- the request that Begin takes

abbrev pub waiting_row : Request Command → RequestRow Command Reply
waiting_row a = Waiting a

abbrev pub working_row : Request Command → RequestRow Command Reply
working_row a = InWork a

pub same_request : (a b : Request Command) → Some a ≡ Some b → a ≡ b
same_request a b e = cc

some_row : (a b : Request Command) → Some (waiting_row a) ≡ Some (waiting_row b) → a ≡ b
some_row a b e = cc

abbrev FirstTaken : Option Session → Rows → ℕ → Request Command → Type 0
FirstTaken holder rows place a = (may_begin holder a ≡ true) × ((p : ℕ) (b : Request Command) → p < place → slice_get rows p ≡ Some (Waiting b) → may_begin holder b ≡ false)

not_below_zero : (p : ℕ) → p < 0 → ⊥
not_below_zero p l = omega (arith, l)

lower : (p n : ℕ) → suc p < suc n → p < n
lower p n l = omega (arith, l)

taken-begun_as : (f : Request Command → RequestRow Command Reply) (holder : Option Session) (rows : Rows) (place : ℕ) (a : Request Command) → slice_get rows place ≡ Some (Waiting a) → (slice_get (begun_as f holder rows) place ≡ Some (Waiting a) → ⊥) → FirstTaken holder rows place a
taken-begun_as f holder [] place a waits gone = absurd (none_waits a waits)
  where
    none_waits : (a : Request Command) → None ≡ Some (waiting_row a) → ⊥
    none_waits a e = cc
taken-begun_as f holder (Waiting c ∷ rows) zero a waits gone = at_first (may_begin holder c) refl gone
  where
    at_first : (b : Bool) → may_begin holder c ≡ b → (slice_get (if b then f c ∷ rows else Waiting c ∷ begun_as f holder rows) zero ≡ Some (Waiting a) → ⊥) → FirstTaken holder (Waiting c ∷ rows) zero a
    at_first true e out = (subst (λ (x : Request Command). may_begin holder x ≡ true) (some_row c a waits) e, λ p b l at. absurd (not_below_zero p l))
    at_first false e out = absurd (out waits)
taken-begun_as f holder (Waiting c ∷ rows) (suc place) a waits gone = later (may_begin holder c) refl gone (taken-begun_as f holder rows place a waits)
  where
    passed : (p : ℕ) (b : Request Command) → may_begin holder c ≡ false → ((q : ℕ) (d : Request Command) → q < place → slice_get rows q ≡ Some (Waiting d) → may_begin holder d ≡ false) → p < suc place → slice_get (Waiting c ∷ rows) p ≡ Some (Waiting b) → may_begin holder b ≡ false
    passed zero b e rest l at = subst (λ (x : Request Command). may_begin holder x ≡ false) (some_row c b at) e
    passed (suc p) b e rest l at = rest p b (lower p place l) at

    later : (b : Bool) → may_begin holder c ≡ b → (slice_get (if b then f c ∷ rows else Waiting c ∷ begun_as f holder rows) (suc place) ≡ Some (Waiting a) → ⊥) → ((slice_get (begun_as f holder rows) place ≡ Some (Waiting a) → ⊥) → FirstTaken holder rows place a) → FirstTaken holder (Waiting c ∷ rows) (suc place) a
    later true e out rest = absurd (out waits)
    later false e out rest = ((rest out).0, λ p b l at. passed p b e (rest out).1 l at)
taken-begun_as f holder (InWork c ∷ rows) zero a waits gone = cc
taken-begun_as f holder (InWork c ∷ rows) (suc place) a waits gone = over_work (taken-begun_as f holder rows place a waits gone)
  where
    passed : (p : ℕ) (b : Request Command) → ((q : ℕ) (d : Request Command) → q < place → slice_get rows q ≡ Some (Waiting d) → may_begin holder d ≡ false) → p < suc place → slice_get (InWork c ∷ rows) p ≡ Some (Waiting b) → may_begin holder b ≡ false
    passed zero b rest l at = cc
    passed (suc p) b rest l at = rest p b (lower p place l) at

    over_work : FirstTaken holder rows place a → FirstTaken holder (InWork c ∷ rows) (suc place) a
    over_work rest = (rest.0, λ p b l at. passed p b rest.1 l at)
taken-begun_as f holder (Gone id s q ∷ rows) zero a waits gone = cc
taken-begun_as f holder (Gone id s q ∷ rows) (suc place) a waits gone = over_gone (taken-begun_as f holder rows place a waits gone)
  where
    passed : (p : ℕ) (b : Request Command) → ((q : ℕ) (d : Request Command) → q < place → slice_get rows q ≡ Some (Waiting d) → may_begin holder d ≡ false) → p < suc place → slice_get (Gone id s q ∷ rows) p ≡ Some (Waiting b) → may_begin holder b ≡ false
    passed zero b rest l at = cc
    passed (suc p) b rest l at = rest p b (lower p place l) at

    over_gone : FirstTaken holder rows place a → FirstTaken holder (Gone id s q ∷ rows) (suc place) a
    over_gone rest = (rest.0, λ p b l at. passed p b rest.1 l at)

-- Begin ends no other requests
no_many : (h : Flat) (w : DiskWord) (test : Request Command → Bool) (r : Refusal) → EndsMany h step.Begin w test r → ⊥
no_many h w test r (ByTick n at t e) = cc
no_many h w test r (ByCancel u id at t e) = cc
no_many h w test r (ByClose u at t e) = cc
no_many h w test r (ByOff at t e) = cc
no_many h w test r (ByCut n c (inl at) t e) = cc
no_many h w test r (ByCut n c (inr at) t e) = cc

no_one : (set : Setting) (h : Flat) (w : DiskWord) (a : Request Command) (r : Reply) (heard : List Out) → EndsOne set h step.Begin w a r heard → ⊥
no_one set h w a r heard (ByPress k x at e o) = cc
no_one set h w a r heard (ByRefusal why accused at v e o) = cc
no_one set h w a r heard (ByAnswer x at v e o) = cc
no_one set h w a r heard (ByFault n at c e o) = cc
no_one set h w a r heard (ByBadStore slot at v c e o) = cc
no_one set h w a r heard (ByDevice at v e o) = cc

taken_caused : (set : Setting) (h : Flat) (w : DiskWord) (after : Rows) (outs : List Out) (place : ℕ) (a : Request Command) → Caused set h step.Begin w after outs → IsTaken h.shared.requests after place a → FirstTaken (holder_of h.shared.line) h.shared.requests place a
taken_caused set h w after outs place a (Nothing e o) t = absurd (t.taken (ap (λ (rows : Rows). slice_get rows place) e ∙ t.waited))
taken_caused set h w after outs place a (Submitted u limit c at ok e o) t = cc
taken_caused set h w after outs place a (EndedMany test r why e o) t = absurd (no_many h w test r why)
taken_caused set h w after outs place a (Began b at none some e o) t = taken-begun_as (λ x. InWork x) (holder_of h.shared.line) h.shared.requests place a t.waited (λ is. t.taken (ap (λ (rows : Rows). slice_get rows place) e ∙ is))
taken_caused set h w after outs place a (RefusedEntry b entry r at none some is e o) t = taken-begun_as (λ x. Gone x.id x.session (reply.No r)) (holder_of h.shared.line) h.shared.requests place a t.waited (λ is. t.taken (ap (λ (rows : Rows). slice_get rows place) e ∙ is))
taken_caused set h w after outs place a (EndedOne b r heard work why e o) t = absurd (no_one set h w b r heard why)

begin_takes : (set : Setting) (h : Flat) (w : DiskWord) (place : ℕ) (a : Request Command) → IsTaken h.shared.requests (next set h step.Begin w).state.shared.requests place a → FirstTaken (holder_of h.shared.line) h.shared.requests place a
begin_takes set h w place a = taken_caused set h w (next set h step.Begin w).state.shared.requests (next set h step.Begin w).outs place a (next_caused set h step.Begin w)

pub taken_of_holder : (set : Setting) (h : Flat) (u : Session) (w : DiskWord) (place : ℕ) (a : Request Command) → holder_of h.shared.line ≡ Some u → IsTaken h.shared.requests (next set h step.Begin w).state.shared.requests place a → IsTrue (same_session a.session u)
taken_of_holder set h u w place a held t = subst (λ (o : Option Session). may_begin o a ≡ true) held (begin_takes set h w place a t).0

-- ids are places

id_at : (n : ℕ) (rows : Rows) (place : ℕ) (row : RequestRow Command Reply) → NumberedFrom n rows → slice_get rows place ≡ Some row → row_id row ≡ n + place
id_at n [] place row h at = absurd (none_at row at)
  where
    none_at : (row : RequestRow Command Reply) → None ≡ Some row → ⊥
    none_at row e = cc
id_at n (first ∷ rows) zero row h at =
    let same = same_first first row at in
    let here : row_id row ≡ n = sym (ap row_id same) ∙ h.0 in
    omega (arith, here)
  where
    same_first : (first row : RequestRow Command Reply) → Some first ≡ Some row → first ≡ row
    same_first first row e = cc
id_at n (first ∷ rows) (suc place) row h at =
    let later : row_id row ≡ n + 1 + place = id_at (n + 1) rows place row h.1 at in
    omega (arith, later)

pub takes_the_least : (set : Setting) (start : Flat) (acts : List Act) (w : DiskWord) (place other_place : ℕ) (a b : Request Command) → IsStart start
    → IsTaken (run_from set start acts).shared.requests (next set (run_from set start acts) step.Begin w).state.shared.requests place a
    → slice_get (run_from set start acts).shared.requests other_place ≡ Some (Waiting b) → b.id < a.id → may_begin (holder_of (run_from set start acts).shared.line) b ≡ false
takes_the_least set start acts w place other_place a b begins t at less =
    let h = run_from set start acts in
    let ids = numbered set start acts begins in
    let mine : a.id ≡ 1 + place = id_at 1 h.shared.requests place (Waiting a) ids t.waited in
    let other : b.id ≡ 1 + other_place = id_at 1 h.shared.requests other_place (Waiting b) ids at in
    let before : other_place < place = omega (arith, mine, other, less) in
    (begin_takes set h w place a t).1 other_place b before at
