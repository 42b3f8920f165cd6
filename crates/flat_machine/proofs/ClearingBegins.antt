-- What a Begin does to the entry that runs, the held PIN and the part buffer.
use Rattle.device_lock.specs.LockLine.{holder_of}
use Rattle.entry_core.specs.Entries.{Entry, entry_of, entry_refusal, is_key_part, is_pin}
use Rattle.flat_machine.proofs.RequestMoves.{Rows}
use Rattle.flat_machine.specs.EntrySteps.{begin_as, begin_entry, begin_with, first_of, next_begin}
use Rattle.flat_machine.specs.State.{Running, Said, Shared, device_refusal, is_off, running_by, running_entry, running_in, unchanged}
use Rattle.pad_steps.specs.declared.answers.Refusal.{Refusal}
use Rattle.pad_steps.specs.declared.answers.Reply.{Reply}
use Rattle.pad_steps.specs.declared.answers.Reply.TheVariants as reply
use Rattle.pad_steps.specs.declared.commands.Command.{Command}
use Rattle.pad_words.specs.declared.numbers.Session.{Session}
use Rattle.request_queue.specs.Requests.{begun, eligible, may_begin, refused_at_begin, request_in_work}
use Rattle.request_queue.specs.declared.requests.Request.{Request}
use Rattle.request_queue.specs.declared.requests.RequestRow.TheVariants.{Gone, InWork, Waiting}
use Rattle.std.proofs.Common.{ap, sym, ◌∙◌}
use Rattle.std.specs.Prelude.{Bool, None, Option, Some, [], cond, false, if◌then◌else◌, refl, true, ◌∷◌, ◌≡◌}

-- the request that comes into work is the one that was eligible

begun_if : (b : Bool) (x a : Request Command) (rows others : Rows) (o : Option (Request Command)) → (if b then Some x else o) ≡ Some a → (o ≡ Some a → request_in_work others ≡ Some a) → request_in_work (if b then InWork x ∷ rows else Waiting x ∷ others) ≡ Some a
begun_if true x a rows others o e later = e
begun_if false x a rows others o e later = later e

request_in_work-begun : (holder : Option Session) (rows : Rows) (a : Request Command) → request_in_work rows ≡ None → eligible holder rows ≡ Some a → request_in_work (begun holder rows) ≡ Some a
request_in_work-begun holder [] a none some = cc
request_in_work-begun holder (Waiting x ∷ rows) a none some = begun_if (may_begin holder x) x a rows (begun holder rows) (eligible holder rows) some (λ later. request_in_work-begun holder rows a none later)
request_in_work-begun holder (InWork x ∷ rows) a none some = cc
request_in_work-begun holder (Gone id s q ∷ rows) a none some = request_in_work-begun holder rows a none some

refused_if : (b : Bool) (x : Request Command) (r : Reply) (rows others : Rows) → request_in_work others ≡ request_in_work rows → request_in_work (if b then Gone x.id x.session r ∷ rows else Waiting x ∷ others) ≡ request_in_work rows
refused_if true x r rows others e = refl
refused_if false x r rows others e = e

request_in_work-refused_at_begin : (r : Reply) (holder : Option Session) (rows : Rows) → request_in_work (refused_at_begin r holder rows) ≡ request_in_work rows
request_in_work-refused_at_begin r holder [] = refl
request_in_work-refused_at_begin r holder (Waiting x ∷ rows) = refused_if (may_begin holder x) x r rows (refused_at_begin r holder rows) (request_in_work-refused_at_begin r holder rows)
request_in_work-refused_at_begin r holder (InWork x ∷ rows) = refl
request_in_work-refused_at_begin r holder (Gone id s q ∷ rows) = request_in_work-refused_at_begin r holder rows

-- no entry starts, and PIN and part buffer stay; or this entry starts, and what it will fill is emptied
pub data BeginDoes (p : Shared) (x : Said) : Type 0 where
  BeginsNone : running_entry x.shared ≡ running_entry p → x.drops_pin ≡ false → x.shared.part ≡ p.part → x.shared.device ≡ p.device → BeginDoes p x
  BeginsEntry : (w : Running) → running_entry p ≡ None → running_entry x.shared ≡ Some w → x.drops_pin ≡ is_pin w.entry.kind → x.shared.part ≡ (if is_key_part w.entry.kind then [] else p.part) → x.shared.device ≡ p.device → BeginDoes p x

begins_nothing : (p : Shared) → BeginDoes p (unchanged p)
begins_nothing p = BeginsNone refl refl refl refl

module _ (p : Shared) (a : Request Command) (none : request_in_work p.requests ≡ None) (some : eligible (holder_of p.line) p.requests ≡ Some a) where
  begins_entry : (e : Entry) (o : Option Refusal) → entry_of a.command ≡ Some e → BeginDoes p (begin_entry p a e o)
  begins_entry e (Some r) is = BeginsNone (ap running_in (request_in_work-refused_at_begin (reply.No r) (holder_of p.line) p.requests)) refl refl refl
  begins_entry e None is = BeginsEntry (record { id = a.id; session = a.session; entry = e }) (ap running_in none)
      (ap running_in (request_in_work-begun (holder_of p.line) p.requests a none some) ∙ ap (running_by a) is) refl refl refl

  begins_as : (o : Option Entry) → entry_of a.command ≡ o → BeginDoes p (begin_as p a o)
  begins_as None is = BeginsNone (ap running_in (request_in_work-begun (holder_of p.line) p.requests a none some) ∙ ap (running_by a) is ∙ sym (ap running_in none)) refl refl refl
  begins_as (Some e) is = begins_entry e (first_of (device_refusal p.device) (entry_refusal e)) is

begins_with : (p : Shared) (o q : Option (Request Command)) → request_in_work p.requests ≡ o → eligible (holder_of p.line) p.requests ≡ q → BeginDoes p (begin_with p o q)
begins_with p (Some b) q w e = begins_nothing p
begins_with p None None w e = begins_nothing p
begins_with p None (Some a) w e = begins_as p a w e (entry_of a.command) refl

begins_if : (p : Shared) (b : Bool) (x y : Said) → BeginDoes p x → BeginDoes p y → BeginDoes p (cond b x y)
begins_if p true x y one other = one
begins_if p false x y one other = other

pub begin_does : (p : Shared) → BeginDoes p (next_begin p)
begin_does p = begins_if p (is_off p.device) _ _ (begins_nothing p) (begins_with p (request_in_work p.requests) (eligible (holder_of p.line) p.requests) refl refl)
