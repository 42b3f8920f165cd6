-- A command that was answered used keys that it may use.
use Rattle.crypt_commands.specs.Crypts.{sealing_key}
use Rattle.flat_machine.proofs.DecisionChains.{decides}
use Rattle.flat_machine.proofs.EndCauses.{endings-notables}
use Rattle.flat_machine.proofs.QueueMoves.{same_request}
use Rattle.flat_machine.proofs.RequestMoves.{Rows, ending_of}
use Rattle.flat_machine.proofs.StepCauses.{Began, ByAnswer, ByBadStore, ByDevice, ByFault, ByPress, ByRefusal, Caused, EndedMany, EndedOne, EndsOne, Nothing, RefusedEntry, Submitted, ended_by, next_caused, notables}
use Rattle.flat_machine.specs.AccessFacts.{IsUsable, Need, need_of, needs, optional, permit_if}
use Rattle.flat_machine.specs.Commands.{work_of}
use Rattle.flat_machine.specs.EndingFacts.{one_end}
use Rattle.flat_machine.specs.Machine.{next}
use Rattle.flat_machine.specs.RefusalFacts.{refusal_in}
use Rattle.flat_machine.specs.RequestFacts.{Ending, endings}
use Rattle.flat_machine.specs.Settings.{Setting}
use Rattle.flat_machine.specs.State.{Flat, Shared}
use Rattle.key_attributes.specs.UseBits.{allows, under_construction}
use Rattle.key_attributes.specs.declared.KeyRow.{KeyRow}
use Rattle.key_attributes.specs.declared.Use.{Use}
use Rattle.key_attributes.specs.declared.Use.TheVariants as purpose
use Rattle.key_import.specs.Imports.{sealed_under}
use Rattle.key_table.specs.KeyRows.{KeyRows, find_row}
use Rattle.key_table.specs.Permits.{permit, permit_row}
use Rattle.key_table.specs.declared.Denied.{Denied}
use Rattle.key_table.specs.declared.Denied.TheVariants as denied
use Rattle.request_queue.specs.Requests.{pending_where, request_in_work}
use Rattle.request_queue.specs.declared.requests.Request.{Request}
use Rattle.pad_steps.specs.declared.answers.Answer.{Answer}
use Rattle.pad_steps.specs.declared.answers.Out.{Out}
use Rattle.pad_steps.specs.declared.answers.Refusal.{Refusal}
use Rattle.pad_steps.specs.declared.answers.Reply.{Reply}
use Rattle.pad_steps.specs.declared.commands.Command.{Command}
use Rattle.pad_steps.specs.declared.steps.DiskWord.{DiskWord}
use Rattle.std.proofs.Common.{ap, subst, sym, ◌∙◌}
use Rattle.std.specs.List.{AllByRecursion}
use Rattle.std.specs.Prelude.{Bool, Err, List, None, Ok, Option, Result, Some, [], false, if◌then◌else◌, length, map, refl, true, ℕ, ◌∷◌, ◌≡◌}
use Rattle.pad_steps.specs.declared.answers.Reply.TheVariants as reply
use Rattle.pad_steps.specs.declared.steps.Step.TheVariants as step

-- a use that is permitted

permitted : (rows : KeyRows) (need : Need) (o : Option KeyRow) (v : List ℕ) → find_row need.name rows ≡ o → permit_row need.wanted o ≡ Ok v → IsUsable rows need
permitted rows need None v found is = absurd (no_value denied.KeyNotFound v is)
  where
    no_value : (why : Denied) (v : List ℕ) → Err why ≡ Ok v → ⊥
    no_value why v e = cc
permitted rows need (Some row) v found is = by_uses (under_construction row.uses) (allows row.uses need.wanted) refl refl is
  where
    no_value : (why : Denied) (v : List ℕ) → Err why ≡ Ok v → ⊥
    no_value why v e = cc

    by_uses : (b c : Bool) → under_construction row.uses ≡ b → allows row.uses need.wanted ≡ c → (if b then Err denied.KeyNoValue else (if c then Ok row.value else Err denied.UseViolation)) ≡ Ok v → IsUsable rows need
    by_uses true c e f is = absurd (no_value denied.KeyNoValue v is)
    by_uses false true e f is = record { row = row; found = found; complete = e; allowed = f }
    by_uses false false e f is = absurd (no_value denied.UseViolation v is)

usable : (rows : KeyRows) (need : Need) (v : List ℕ) → permit rows need.name need.wanted ≡ Ok v → IsUsable rows need
usable rows need v is = permitted rows need (find_row need.name rows) v refl is

usable_if : (rows : KeyRows) (o : Option (List ℕ)) (u : Use) (v : Option (List ℕ)) → permit_if rows o u ≡ Ok v → AllByRecursion (IsUsable rows) (need_of u o)
usable_if rows None u v is = tt
usable_if rows (Some name) u v is = (from_optional (permit rows name u) refl is, tt)
  where
    from_optional : (d : Result (List ℕ) Denied) → permit rows name u ≡ d → optional d ≡ Ok v → IsUsable rows (record { name = name; wanted = u })
    from_optional (Ok value) e is = usable rows (record { name = name; wanted = u }) value e
    from_optional (Err why) e is = absurd (no_option why v is)
      where
        no_option : (why : Denied) (v : Option (List ℕ)) → Err why ≡ Ok v → ⊥
        no_option why v e = cc

-- a command that is not refused may use its keys
unrefused_usable : (set : Setting) (p : Shared) (n : ℕ) (c : Command) → refusal_in (work_of set p n c) ≡ None → AllByRecursion (IsUsable p.keys) (needs set.pin_rules c)
unrefused_usable set p n c = decides set p n (λ v. refusal_in v ≡ None → AllByRecursion (IsUsable p.keys) (needs set.pin_rules c)) c (record {
  waits = λ none e. subst (AllByRecursion (IsUsable p.keys)) (sym none) tt;
  device = λ r is e. absurd (refused_not r e);
  denied = λ need why needed found e. absurd (refused_not _ e);
  own = λ r is e. absurd (refused_not r e);
  absent = λ name is none e. absurd (refused_not _ e);
  maintained = λ on is e. subst Usable (sym is) tt;
  released = λ r first second draws is ready e. subst Usable (sym is) (usable p.keys _ first ready.first_key, usable_if p.keys (set.pin_rules.wants r).second (set.pin_rules.wants r).wanted second ready.second_key);
  answered = λ r key sealing is ready e. subst Usable (sym is) (usable p.keys _ key ready.first_key, usable_if p.keys (sealing_key r.start) purpose.SvEncKey sealing ready.start_key);
  kept = λ r kek row slot is ready e. subst Usable (sym is) (usable_if p.keys (sealed_under r.source) purpose.KeyEncKey kek ready.sealing_key);
  erased = λ name slot is found e. subst Usable (sym is) tt;
  erased_all = λ is e. subst Usable (sym is) tt;
  loaded = λ is e. subst Usable (sym is) tt;
})
  where
    Usable : Command → Type 0
    Usable x = AllByRecursion (IsUsable p.keys) (needs set.pin_rules x)

    refused_not : (r : Refusal) → Some r ≡ None → ⊥
    refused_not r e = cc

-- a Finish that answers comes to a work that is no refusal

no_end : (e : Ending) → [] ≡ e ∷ [] → ⊥
no_end e f = cc

first_end : (e f : Ending) (es : List Ending) → e ∷ es ≡ f ∷ [] → e.reply ≡ f.reply
first_end e f es same = ap (λ (x : Ending). x.reply) (same_end e f es same)
  where
    same_end : (e f : Ending) (es : List Ending) → e ∷ es ≡ f ∷ [] → e ≡ f
    same_end e f es same = cc

no_answer : (r : Refusal) (x : Answer) → reply.No r ≡ reply.Ok x → ⊥
no_answer r x e = cc

many_no : (r : Refusal) (xs : List (Request Command)) (a : Request Command) (x : Answer) → endings (map (ended_by (reply.No r)) xs) ≡ one_end a (reply.Ok x) → ⊥
many_no r [] a x e = no_end _ e
many_no r (b ∷ xs) a x e = no_answer r x (first_end (ending_of b (reply.No r)) (ending_of a (reply.Ok x)) _ e)

module _ (set : Setting) (h : Flat) (w : DiskWord) (a : Request Command) (x : Answer) (in_work : request_in_work h.shared.requests ≡ Some a) where
  one_answered : (b : Request Command) (r : Reply) (heard : List Out) → a ≡ b → r ≡ reply.Ok x → EndsOne set h step.Finish w b r heard → refusal_in (work_of set h.shared (length h.held) a.command) ≡ None
  one_answered b r heard same is (ByPress k y at e o) = cc
  one_answered b r heard same is (ByRefusal why accused at v e o) = absurd (no_answer why x (sym e ∙ is))
  one_answered b r heard same is (ByAnswer y at v e o) = ap (λ (q : Request Command). refusal_in (work_of set h.shared (length h.held) q.command)) same ∙ v
  one_answered b r heard same is (ByFault n at c e o) = absurd (no_answer _ x (sym e ∙ is))
  one_answered b r heard same is (ByBadStore slot at v c e o) = absurd (no_answer _ x (sym e ∙ is))
  one_answered b r heard same is (ByDevice at v e o) = ap (λ (q : Request Command). refusal_in (work_of set h.shared (length h.held) q.command)) same ∙ ap refusal_in v

  caused_answer : (after : Rows) (outs : List Out) → Caused set h step.Finish w after outs → endings (notables outs) ≡ one_end a (reply.Ok x) → refusal_in (work_of set h.shared (length h.held) a.command) ≡ None
  caused_answer after outs (Nothing e o) told = absurd (no_end _ (sym (ap endings o) ∙ told))
  caused_answer after outs (Submitted t limit c at ok e o) told = cc
  caused_answer after outs (EndedMany test r why e o) told = absurd (many_no r (pending_where test h.shared.requests) a x (sym (ap endings o) ∙ told))
  caused_answer after outs (Began b at none some e o) told = cc
  caused_answer after outs (RefusedEntry b entry r at none some is e o) told = cc
  caused_answer after outs (EndedOne b r heard work why e o) told = one_answered b r heard (same_request a b (sym in_work ∙ work)) (first_end (ending_of b r) (ending_of a (reply.Ok x)) _ (sym (ap endings o) ∙ told)) why

pub answered_unrefused : (set : Setting) (h : Flat) (w : DiskWord) (a : Request Command) (x : Answer) → request_in_work h.shared.requests ≡ Some a → endings (next set h step.Finish w).outs ≡ one_end a (reply.Ok x) → refusal_in (work_of set h.shared (length h.held) a.command) ≡ None
answered_unrefused set h w a x in_work told =
    let outs = (next set h step.Finish w).outs in
    caused_answer set h w a x in_work (next set h step.Finish w).state.shared.requests outs (next_caused set h step.Finish w) (endings-notables outs ∙ told)

pub used_keys : (set : Setting) (h : Flat) (w : DiskWord) (a : Request Command) (x : Answer) → request_in_work h.shared.requests ≡ Some a → endings (next set h step.Finish w).outs ≡ one_end a (reply.Ok x) → AllByRecursion (IsUsable h.shared.keys) (needs set.pin_rules a.command)
used_keys set h w a x in_work told = unrefused_usable set h.shared (length h.held) a.command (answered_unrefused set h w a x in_work told)
