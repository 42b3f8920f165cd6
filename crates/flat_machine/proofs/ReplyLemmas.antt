-- A reply stays as it is, and each end of a request is told once.
use Rattle.flat_machine.proofs.RequestMoves.{Begun, Drawn, EndedWhere, Finished, Moves, NumberedFrom, RefusedAtBegin, Rows, Unmoved, ending_of, endings_where}
use Rattle.flat_machine.specs.RequestFacts.{Ending, endings, kept_endings, of_id}
use Rattle.request_queue.specs.Requests.{begun, begun_as, eligible, ended_where, finished, may_begin, refused_at_begin, request_in_work}
use Rattle.request_queue.specs.declared.requests.Request.{Request}
use Rattle.request_queue.specs.declared.requests.RequestRow.{RequestRow}
use Rattle.request_queue.specs.declared.requests.RequestRow.TheVariants.{Gone, InWork, Waiting}
use Rattle.pad_steps.specs.declared.answers.Out.{Out}
use Rattle.pad_steps.specs.declared.answers.Reply.{Reply}
use Rattle.pad_steps.specs.declared.commands.Command.{Command}
use Rattle.pad_words.specs.declared.numbers.Session.{Session}
use Rattle.std.proofs.Common.{ap, arith, subst, sym, ◌∙◌}
use Rattle.std.proofs.lemmas.Bool.{eqb-true, ne_eqb}
use Rattle.std.proofs.lemmas.List.{append-nil}
use Rattle.std.specs.Prelude.{Bool, List, Option, Some, [], false, if◌then◌else◌, length, refl, slice_get, suc, true, zero, ℕ, ◌++◌, ◌+◌, ◌<◌, ◌==◌, ◌∷◌, ◌≡◌, ◌≤◌}

-- rows that are gone stay

abbrev pub StaysGone : Rows → Rows → Type 0
StaysGone rows after = (place id : ℕ) (s : Session) (q : Reply) → slice_get rows place ≡ Some (Gone id s q) → slice_get after place ≡ Some (Gone id s q)

gone-ended_where : (test : Request Command → Bool) (r : Reply) (rows : Rows) → StaysGone rows (ended_where test r rows)
gone-ended_where test r [] place id s q h = h
gone-ended_where test r (Waiting a ∷ rows) zero id s q h = cc
gone-ended_where test r (Waiting a ∷ rows) (suc place) id s q h = gone-ended_where test r rows place id s q h
gone-ended_where test r (InWork a ∷ rows) zero id s q h = cc
gone-ended_where test r (InWork a ∷ rows) (suc place) id s q h = gone-ended_where test r rows place id s q h
gone-ended_where test r (Gone i t p ∷ rows) zero id s q h = h
gone-ended_where test r (Gone i t p ∷ rows) (suc place) id s q h = gone-ended_where test r rows place id s q h

gone_if : (b : Bool) (a : Request Command) (row : RequestRow Command Reply) (rows others : Rows) (place : ℕ) (o : Option (RequestRow Command Reply)) → slice_get rows place ≡ o → slice_get others place ≡ o → slice_get (if b then row ∷ rows else Waiting a ∷ others) (suc place) ≡ o
gone_if true a row rows others place o h k = h
gone_if false a row rows others place o h k = k

gone-begun_as : (f : Request Command → RequestRow Command Reply) (holder : Option Session) (rows : Rows) → StaysGone rows (begun_as f holder rows)
gone-begun_as f holder [] place id s q h = h
gone-begun_as f holder (Waiting a ∷ rows) zero id s q h = cc
gone-begun_as f holder (Waiting a ∷ rows) (suc place) id s q h = gone_if (may_begin holder a) a (f a) rows (begun_as f holder rows) place _ h (gone-begun_as f holder rows place id s q h)
gone-begun_as f holder (InWork a ∷ rows) zero id s q h = h
gone-begun_as f holder (InWork a ∷ rows) (suc place) id s q h = gone-begun_as f holder rows place id s q h
gone-begun_as f holder (Gone i t p ∷ rows) zero id s q h = h
gone-begun_as f holder (Gone i t p ∷ rows) (suc place) id s q h = gone-begun_as f holder rows place id s q h

gone-finished : (r : Reply) (rows : Rows) → StaysGone rows (finished r rows)
gone-finished r [] place id s q h = h
gone-finished r (Waiting a ∷ rows) zero id s q h = h
gone-finished r (Waiting a ∷ rows) (suc place) id s q h = gone-finished r rows place id s q h
gone-finished r (InWork a ∷ rows) zero id s q h = cc
gone-finished r (InWork a ∷ rows) (suc place) id s q h = h
gone-finished r (Gone i t p ∷ rows) zero id s q h = h
gone-finished r (Gone i t p ∷ rows) (suc place) id s q h = gone-finished r rows place id s q h

gone-push : (rows : Rows) (a : Request Command) → StaysGone rows (rows ++ Waiting a ∷ [])
gone-push [] a place id s q h = cc
gone-push (row ∷ rows) a zero id s q h = h
gone-push (row ∷ rows) a (suc place) id s q h = gone-push rows a place id s q h

pub moves_gone : (rows after : Rows) (outs : List Out) → Moves rows after outs → StaysGone rows after
moves_gone rows after outs (Unmoved e t) place id s q h = rw e h
moves_gone rows after outs (Drawn a i room e t) place id s q h = rw e (gone-push rows a place id s q h)
moves_gone rows after outs (EndedWhere test r e t) place id s q h = rw e (gone-ended_where test r rows place id s q h)
moves_gone rows after outs (Begun holder w e t) place id s q h = rw e (gone-begun_as _ holder rows place id s q h)
moves_gone rows after outs (RefusedAtBegin holder r a w l e t) place id s q h = rw e (gone-begun_as _ holder rows place id s q h)
moves_gone rows after outs (Finished r a w e t) place id s q h = rw e (gone-finished r rows place id s q h)

-- ends of one id

skip_if : (b : Bool) (x : Ending) (xs : List Ending) → b ≡ false → (if b then x ∷ xs else xs) ≡ xs
skip_if true x xs e = cc
skip_if false x xs e = refl

of_id-skip : (id : ℕ) (x : Ending) (xs : List Ending) → (x.id == id) ≡ false → of_id id (x ∷ xs) ≡ of_id id xs
of_id-skip id x xs e = skip_if (x.id == id) x (of_id id xs) e

other_id : (id n i : ℕ) → i ≡ n → id < n → (i == id) ≡ false
other_id id n i e l = ne_eqb i id (λ same. omega (arith, e, l, same))

-- rows that are numbered above an id have no end of it
of_id-kept_none : (id n : ℕ) (rows : Rows) → NumberedFrom n rows → id < n → of_id id (kept_endings rows) ≡ []
of_id-kept_none id n [] h l = refl
of_id-kept_none id n (Waiting a ∷ rows) h l = of_id-kept_none id (n + 1) rows h.1 (omega (arith, l))
of_id-kept_none id n (InWork a ∷ rows) h l = of_id-kept_none id (n + 1) rows h.1 (omega (arith, l))
of_id-kept_none id n (Gone i s q ∷ rows) h l = of_id-skip id _ (kept_endings rows) (other_id id n i h.0 l) ∙ of_id-kept_none id (n + 1) rows h.1 (omega (arith, l))

-- so an id has one end at most
one_if_kept : (b : Bool) (x : Ending) (xs : List Ending) → (b ≡ true → xs ≡ []) → length xs ≤ 1 → length (if b then x ∷ xs else xs) ≤ 1
one_if_kept true x xs none h = rw (none refl) (omega arith)
one_if_kept false x xs none h = h

pub of_id-kept_one : (id n : ℕ) (rows : Rows) → NumberedFrom n rows → length (of_id id (kept_endings rows)) ≤ 1
of_id-kept_one id n [] h = omega arith
of_id-kept_one id n (Waiting a ∷ rows) h = of_id-kept_one id (n + 1) rows h.1
of_id-kept_one id n (InWork a ∷ rows) h = of_id-kept_one id (n + 1) rows h.1
of_id-kept_one id n (Gone i s q ∷ rows) h = one_if_kept (i == id) _ (of_id id (kept_endings rows)) (λ e. of_id-kept_none id (n + 1) rows h.1 (omega (arith, h.0, eqb-true i id e))) (of_id-kept_one id (n + 1) rows h.1)

-- one more end at the front of what is kept after and of what is told
abbrev Adds : ℕ → List Ending → List Ending → List Ending → Type 0
Adds id after before told = of_id id after ≡ of_id id before ++ of_id id told

added_if : (b : Bool) (x : Ending) (after before told : List Ending) → (b ≡ true → before ≡ []) → after ≡ before ++ told → (if b then x ∷ after else after) ≡ before ++ (if b then x ∷ told else told)
added_if true x after before told none e = rw (e, none refl) refl
added_if false x after before told none e = e

added : (id : ℕ) (x : Ending) (after before told : List Ending) → ((x.id == id) ≡ true → of_id id before ≡ []) → Adds id after before told → Adds id (x ∷ after) before (x ∷ told)
added id x after before told none e = added_if (x.id == id) x (of_id id after) (of_id id before) (of_id id told) none e

kept_if : (b : Bool) (x : Ending) (after before told : List Ending) → after ≡ before ++ told → (if b then x ∷ after else after) ≡ (if b then x ∷ before else before) ++ told
kept_if true x after before told e = ap (λ (xs : List Ending). x ∷ xs) e
kept_if false x after before told e = e

kept_before : (id : ℕ) (x : Ending) (after before told : List Ending) → Adds id after before told → Adds id (x ∷ after) (x ∷ before) told
kept_before id x after before told e = kept_if (x.id == id) x (of_id id after) (of_id id before) (of_id id told) e

adds-none : (id : ℕ) (xs : List Ending) → Adds id xs xs []
adds-none id xs = sym (append-nil (of_id id xs))

none_after : (id n i : ℕ) (rows : Rows) → NumberedFrom (n + 1) rows → i ≡ n → (i == id) ≡ true → of_id id (kept_endings rows) ≡ []
none_after id n i rows h is e = of_id-kept_none id (n + 1) rows h (omega (arith, is, eqb-true i id e))

-- the pending requests that pass a test end

ended_waiting : (id n : ℕ) (b : Bool) (a : Request Command) (r : Reply) (rows after : Rows) (told : List Ending) → NumberedFrom (n + 1) rows → a.id ≡ n → Adds id (kept_endings after) (kept_endings rows) told
    → Adds id (kept_endings ((if b then Gone a.id a.session r else Waiting a) ∷ after)) (kept_endings rows) (if b then ending_of a r ∷ told else told)
ended_waiting id n true a r rows after told h is e = added id (ending_of a r) (kept_endings after) (kept_endings rows) told (none_after id n a.id rows h is) e
ended_waiting id n false a r rows after told h is e = e

ended_work : (id n : ℕ) (b : Bool) (a : Request Command) (r : Reply) (rows after : Rows) (told : List Ending) → NumberedFrom (n + 1) rows → a.id ≡ n → Adds id (kept_endings after) (kept_endings rows) told
    → Adds id (kept_endings ((if b then Gone a.id a.session r else InWork a) ∷ after)) (kept_endings rows) (if b then ending_of a r ∷ told else told)
ended_work id n true a r rows after told h is e = added id (ending_of a r) (kept_endings after) (kept_endings rows) told (none_after id n a.id rows h is) e
ended_work id n false a r rows after told h is e = e

kept-ended_where : (id n : ℕ) (test : Request Command → Bool) (r : Reply) (rows : Rows) → NumberedFrom n rows → Adds id (kept_endings (ended_where test r rows)) (kept_endings rows) (endings_where test r rows)
kept-ended_where id n test r [] h = refl
kept-ended_where id n test r (Waiting a ∷ rows) h = ended_waiting id n (test a) a r rows (ended_where test r rows) (endings_where test r rows) h.1 h.0 (kept-ended_where id (n + 1) test r rows h.1)
kept-ended_where id n test r (InWork a ∷ rows) h = ended_work id n (test a) a r rows (ended_where test r rows) (endings_where test r rows) h.1 h.0 (kept-ended_where id (n + 1) test r rows h.1)
kept-ended_where id n test r (Gone i s q ∷ rows) h = kept_before id _ (kept_endings (ended_where test r rows)) (kept_endings rows) (endings_where test r rows) (kept-ended_where id (n + 1) test r rows h.1)

-- the request in work ends

kept-finished : (id n : ℕ) (r : Reply) (a : Request Command) (rows : Rows) → NumberedFrom n rows → request_in_work rows ≡ Some a → Adds id (kept_endings (finished r rows)) (kept_endings rows) (ending_of a r ∷ [])
kept-finished id n r a [] h w = cc
kept-finished id n r a (Waiting b ∷ rows) h w = kept-finished id (n + 1) r a rows h.1 w
kept-finished id n r a (InWork b ∷ rows) h w = subst (λ (x : Request Command). Adds id (ending_of b r ∷ kept_endings rows) (kept_endings rows) (ending_of x r ∷ [])) (some_asked b a w)
    (added id (ending_of b r) (kept_endings rows) (kept_endings rows) [] (none_after id n b.id rows h.1 h.0) (adds-none id (kept_endings rows)))
  where
    some_asked : (b a : Request Command) → Some b ≡ Some a → b ≡ a
    some_asked b a e = cc
kept-finished id n r a (Gone i s q ∷ rows) h w = kept_before id _ (kept_endings (finished r rows)) (kept_endings rows) (ending_of a r ∷ []) (kept-finished id (n + 1) r a rows h.1 w)

-- the eligible request is refused

some_same : (b a : Request Command) → Some b ≡ Some a → b ≡ a
some_same b a e = cc

refused_if : (id n : ℕ) (test : Bool) (r : Reply) (a b : Request Command) (rows others : Rows) (o : Option (Request Command)) → NumberedFrom (n + 1) rows → b.id ≡ n → (if test then Some b else o) ≡ Some a
    → (o ≡ Some a → Adds id (kept_endings others) (kept_endings rows) (ending_of a r ∷ [])) → Adds id (kept_endings (if test then Gone b.id b.session r ∷ rows else Waiting b ∷ others)) (kept_endings rows) (ending_of a r ∷ [])
refused_if id n true r a b rows others o h is l e = subst (λ (x : Request Command). Adds id (ending_of b r ∷ kept_endings rows) (kept_endings rows) (ending_of x r ∷ [])) (some_same b a l)
    (added id (ending_of b r) (kept_endings rows) (kept_endings rows) [] (none_after id n b.id rows h is) (adds-none id (kept_endings rows)))
refused_if id n false r a b rows others o h is l e = e l

kept-refused_at_begin : (id n : ℕ) (r : Reply) (holder : Option Session) (a : Request Command) (rows : Rows) → NumberedFrom n rows → eligible holder rows ≡ Some a → Adds id (kept_endings (refused_at_begin r holder rows)) (kept_endings rows) (ending_of a r ∷ [])
kept-refused_at_begin id n r holder a [] h l = cc
kept-refused_at_begin id n r holder a (Waiting b ∷ rows) h l = refused_if id n (may_begin holder b) r a b rows (refused_at_begin r holder rows) (eligible holder rows) h.1 h.0 l (kept-refused_at_begin id (n + 1) r holder a rows h.1)
kept-refused_at_begin id n r holder a (InWork b ∷ rows) h l = kept-refused_at_begin id (n + 1) r holder a rows h.1 l
kept-refused_at_begin id n r holder a (Gone i s q ∷ rows) h l = kept_before id _ (kept_endings (refused_at_begin r holder rows)) (kept_endings rows) (ending_of a r ∷ []) (kept-refused_at_begin id (n + 1) r holder a rows h.1 l)

-- a request begins, or is drawn

kept_begun : (b : Bool) (a : Request Command) (rows others : Rows) → kept_endings others ≡ kept_endings rows → kept_endings (if b then InWork a ∷ rows else Waiting a ∷ others) ≡ kept_endings rows
kept_begun true a rows others e = refl
kept_begun false a rows others e = e

kept-begun : (holder : Option Session) (rows : Rows) → kept_endings (begun holder rows) ≡ kept_endings rows
kept-begun holder [] = refl
kept-begun holder (Waiting a ∷ rows) = kept_begun (may_begin holder a) a rows (begun holder rows) (kept-begun holder rows)
kept-begun holder (InWork a ∷ rows) = kept-begun holder rows
kept-begun holder (Gone i s q ∷ rows) = ap (λ (xs : List Ending). record { id = i; session = s; reply = q } ∷ xs) (kept-begun holder rows)

kept-push : (rows : Rows) (a : Request Command) → kept_endings (rows ++ Waiting a ∷ []) ≡ kept_endings rows
kept-push [] a = refl
kept-push (Waiting b ∷ rows) a = kept-push rows a
kept-push (InWork b ∷ rows) a = kept-push rows a
kept-push (Gone i s q ∷ rows) a = ap (λ (xs : List Ending). record { id = i; session = s; reply = q } ∷ xs) (kept-push rows a)

-- what a step leaves of an id's ends is what was there and what it told
pub moves_endings : (id : ℕ) (rows after : Rows) (outs : List Out) → Moves rows after outs → NumberedFrom 1 rows → of_id id (kept_endings after) ≡ of_id id (kept_endings rows) ++ of_id id (endings outs)
moves_endings id rows after outs (Unmoved e t) h = rw (e, t) (adds-none id (kept_endings rows))
moves_endings id rows after outs (Drawn a i room e t) h = rw (e, t, kept-push rows a) (adds-none id (kept_endings rows))
moves_endings id rows after outs (EndedWhere test r e t) h = rw (e, t) (kept-ended_where id 1 test r rows h)
moves_endings id rows after outs (Begun holder w e t) h = rw (e, t, kept-begun holder rows) (adds-none id (kept_endings rows))
moves_endings id rows after outs (RefusedAtBegin holder r a w l e t) h = rw (e, t) (kept-refused_at_begin id 1 r holder a rows h l)
moves_endings id rows after outs (Finished r a w e t) h = rw (e, t) (kept-finished id 1 r a rows h w)
