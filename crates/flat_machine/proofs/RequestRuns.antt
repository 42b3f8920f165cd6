-- What is so of the requests of every run.
use Rattle.flat_machine.proofs.EndingLemmas.{endings-append}
use Rattle.flat_machine.proofs.PressWalk.{moves_next}
use Rattle.flat_machine.proofs.QueueLemmas.{moves_count}
use Rattle.flat_machine.proofs.ReplyLemmas.{moves_endings, moves_gone, of_id-kept_one}
use Rattle.flat_machine.proofs.RequestMoves.{NumberedFrom, ids-numbered, moves_in_work, moves_numbered}
use Rattle.flat_machine.specs.Facts.{IsStart, outs_of}
use Rattle.flat_machine.specs.Machine.{Act, lines_from, next, run_from}
use Rattle.flat_machine.specs.RequestFacts.{Ending, endings, in_work, kept_endings, of_id, row_id}
use Rattle.request_queue.specs.Requests.{pending_count}
use Rattle.flat_machine.specs.State.{Flat, opening, ready_opening}
use Rattle.flat_machine.specs.Settings.{Setting}
use Rattle.request_queue.specs.declared.requests.RequestRow.TheVariants.{Gone}
use Rattle.pad_steps.specs.declared.answers.Reply.{Reply}
use Rattle.pad_steps.specs.declared.steps.DiskWord.{DiskWord}
use Rattle.pad_steps.specs.declared.steps.Step.{Step}
use Rattle.pad_words.specs.declared.numbers.Session.{Session}
use Rattle.std.proofs.Common.{ap, append_assoc, arith, inl, inr, subst, sym, ◌∙◌}
use Rattle.std.proofs.lemmas.List.{append-nil}
use Rattle.std.proofs.lemmas.List.Elements.{filter-append}
use Rattle.std.specs.List.{range_with_len}
use Rattle.std.specs.Prelude.{List, Some, [], length, map, slice_get, ℕ, ◌++◌, ◌==◌, ◌∷◌, ◌≡◌, ◌≤◌}

-- what each step keeps, a run keeps
pub run_keeps : (set : Setting) (P : Flat → Type 0) → ((h : Flat) (s : Step) (w : DiskWord) → P h → P (next set h s w).state) → (h : Flat) (acts : List Act) → P h → P (run_from set h acts)
run_keeps set P keep h [] p = p
run_keeps set P keep h (a ∷ acts) p = run_keeps set P keep (next set h a.step a.word).state acts (keep h a.step a.word p)

-- so what holds of the two states in which runs begin, holds of each run
pub from_start : (set : Setting) (P : Flat → Type 0) → ((h : Flat) (s : Step) (w : DiskWord) → P h → P (next set h s w).state) → P opening → P ready_opening → (start : Flat) (acts : List Act) → IsStart start → P (run_from set start acts)
from_start set P keep first ready start acts (inl e) = run_keeps set P keep start acts (subst P (sym e) first)
from_start set P keep first ready start acts (inr e) = run_keeps set P keep start acts (subst P (sym e) ready)

abbrev OneInWork : Flat → Type 0
OneInWork h = length (in_work h.shared.requests) ≤ 1

pub one_in_work : (set : Setting) (start : Flat) (acts : List Act) → IsStart start → length (in_work (run_from set start acts).shared.requests) ≤ 1
one_in_work set start acts begins = from_start set OneInWork (λ h s w. moves_in_work h.shared.requests (next set h s w).state.shared.requests (next set h s w).outs (moves_next set h s w)) (omega arith) (omega arith) start acts begins

abbrev pub Numbered : Flat → Type 0
Numbered h = NumberedFrom 1 h.shared.requests

next_numbered : (set : Setting) (h : Flat) (s : Step) (w : DiskWord) → Numbered h → Numbered (next set h s w).state
next_numbered set h s w = moves_numbered h.shared.requests (next set h s w).state.shared.requests (next set h s w).outs (moves_next set h s w)

pub numbered : (set : Setting) (start : Flat) (acts : List Act) → IsStart start → Numbered (run_from set start acts)
numbered set start acts begins = from_start set Numbered (next_numbered set) tt tt start acts begins

pub ids_count_up : (set : Setting) (start : Flat) (acts : List Act) → IsStart start → map row_id (run_from set start acts).shared.requests ≡ range_with_len 1 (length (run_from set start acts).shared.requests)
ids_count_up set start acts begins = ids-numbered 1 (run_from set start acts).shared.requests (numbered set start acts begins)

pub replies_stay : (set : Setting) (h : Flat) (acts : List Act) (place id : ℕ) (s : Session) (q : Reply) → slice_get h.shared.requests place ≡ Some (Gone id s q) → slice_get (run_from set h acts).shared.requests place ≡ Some (Gone id s q)
replies_stay set h acts place id s q = run_keeps set (λ (g : Flat). slice_get g.shared.requests place ≡ Some (Gone id s q)) (λ g t w. moves_gone g.shared.requests (next set g t w).state.shared.requests (next set g t w).outs (moves_next set g t w) place id s q) h acts

pub one_ending : (set : Setting) (start : Flat) (acts : List Act) (id : ℕ) → IsStart start → length (of_id id (kept_endings (run_from set start acts).shared.requests)) ≤ 1
one_ending set start acts id begins = of_id-kept_one id 1 (run_from set start acts).shared.requests (numbered set start acts begins)

of_id-append : (id : ℕ) (xs ys : List Ending) → of_id id (xs ++ ys) ≡ of_id id xs ++ of_id id ys
of_id-append id xs ys = filter-append (λ (x : Ending). x.id == id) xs ys

-- what is kept at the end of a run is what was kept before and what the run told
endings_run : (set : Setting) (h : Flat) (acts : List Act) (id : ℕ) → Numbered h → of_id id (kept_endings (run_from set h acts).shared.requests) ≡ of_id id (kept_endings h.shared.requests) ++ of_id id (endings (outs_of (lines_from set h acts)))
endings_run set h [] id n = sym (append-nil (of_id id (kept_endings h.shared.requests)))
endings_run set h (a ∷ acts) id n =
    let one = next set h a.step a.word in
    let rest = outs_of (lines_from set one.state acts) in
    endings_run set one.state acts id (next_numbered set h a.step a.word n)
    ∙ ap (λ (es : List Ending). es ++ of_id id (endings rest)) (moves_endings id h.shared.requests one.state.shared.requests one.outs (moves_next set h a.step a.word) n)
    ∙ append_assoc (of_id id (kept_endings h.shared.requests)) (of_id id (endings one.outs)) (of_id id (endings rest))
    ∙ ap (λ (es : List Ending). of_id id (kept_endings h.shared.requests) ++ es) (sym (ap (of_id id) (endings-append one.outs rest) ∙ of_id-append id (endings one.outs) (endings rest)))

pub endings_told : (set : Setting) (start : Flat) (acts : List Act) (id : ℕ) → IsStart start → of_id id (endings (outs_of (lines_from set start acts))) ≡ of_id id (kept_endings (run_from set start acts).shared.requests)
endings_told set start acts id (inl e) = subst (λ (h : Flat). of_id id (endings (outs_of (lines_from set h acts))) ≡ of_id id (kept_endings (run_from set h acts).shared.requests)) (sym e) (sym (endings_run set opening acts id tt))
endings_told set start acts id (inr e) = subst (λ (h : Flat). of_id id (endings (outs_of (lines_from set h acts))) ≡ of_id id (kept_endings (run_from set h acts).shared.requests)) (sym e) (sym (endings_run set ready_opening acts id tt))

pub queue_bound : (set : Setting) (start : Flat) (acts : List Act) (s : Session) → IsStart start → pending_count s (run_from set start acts).shared.requests ≤ 16
queue_bound set start acts s begins = from_start set (λ (h : Flat). pending_count s h.shared.requests ≤ 16) (λ h t w. moves_count s h.shared.requests (next set h t w).state.shared.requests (next set h t w).outs (moves_next set h t w)) (omega arith) (omega arith) start acts begins
