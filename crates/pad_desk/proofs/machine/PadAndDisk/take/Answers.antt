use Rattle.std.proofs.Common.{List, ap, refl, subst, sym, ◌∙◌}
use Rattle.std.specs.Prelude.{Err, Ok, OnErr, Result}
use Rattle.flat_machine.specs.KeyLayout.{key_layout}
use Rattle.pad_desk.proofs.OpeningLemmas.{machine-eq}
use Rattle.pad_desk.proofs.StepLemmas.{alike-none, outcome-eq, stands-more}
use Rattle.pad_machine.specs.Runs.{IsPadStep}
use Rattle.pad_machine.specs.declared.pad.Stepped.{Stepped}
use Rattle.pad_steps.specs.declared.answers.Out.{Out}
use Rattle.pad_desk.proofs.machine.PadAndDisk.take.Goals as goal

on_err : {T E : Type 0} {P : Type 0} (result : Result T E) → P → OnErr result P
on_err (Ok x) holds = tt
on_err (Err why) holds = holds

pub returns-in_err-first-clause-unchanged : goal.returns-in_err-first-clause-unchanged
returns-in_err-first-clause-unchanged g c = on_err c.from_residual-in_err-first.result
    (machine-eq _ _ c.in_err-first.ensures.pad_err c.in_err-first.ensures.disk_err refl)

pub returns-clause-twice : goal.returns-clause-twice
returns-clause-twice g c = outcome-eq _ _
    (ap (λ (stepped : Stepped). stepped.word) (sym c.in_ok-first.ensures.told.answers))
    (c.of.ensures.0 ∙ alike-none _ _ _ _ c.in_ok-first.ensures.told.outs c.in_ok-outs.ensures.none c.in_ok-again.ensures.none ∙ sym c.of-2.ensures.0) refl
    (ap (λ (stepped : Stepped). stepped.fate) (sym c.in_ok-first.ensures.told.answers)) (c.of.ensures.1 ∙ c.seed-seed.ensures ∙ sym (c.of-2.ensures.1 ∙ c.seed-second_seed.ensures))

pub returns-clause-entered : goal.returns-clause-entered
returns-clause-entered g c = λ history stands. stands-more g.D.Disk.state g.W.PinWork.rules
    (λ set state first second s t u. c.disk_runs_join.ensures.joined key_layout set state first second s t u)
    (λ set state act s t on. c.disk_runs_join.ensures.step key_layout set state act s t c.key_layout_tells_apart.ensures on)
    (record {
      zero = c.zero_bytes_have_no_bad_slot.ensures;
      unloaded = λ set state deeds s t. c.store_history_goes_on.ensures.unloaded key_layout set state deeds s t;
      loaded = c.loaded_rows_are_known.ensures;
      bad = λ set before after step slot s t. c.bad_stores_were_read.ensures.bytes key_layout set before after step slot s t;
      bad_unloaded = λ set before after step slot s t. c.bad_stores_were_read.ensures.unloaded key_layout set before after step slot s t c.key_layout_tells_apart.ensures;
    })
    c.args.self.now.pad c.take_twice.new.pad c.args.self.now.disk c.take_twice.new.disk c.args.step.now c.in_ok-first.first c.take_twice.new.outs.items
    (subst (λ (before : List Out). IsPadStep g.W.PinWork.rules c.args.self.now.pad c.take_twice.new.pad before c.take_twice.new.outs.items c.args.step.now c.in_ok-first.first (g.D.Disk.state c.args.self.now.disk) (g.D.Disk.state c.take_twice.new.disk))
    c.in_ok-outs.ensures.none c.in_ok-first.ensures.told.first)
    _ (record { formed = c.requires.allowed; word = refl; outs = c.of.ensures.0; masked = c.is_masked-masked.ensures; fate = refl; seed = c.of.ensures.1 ∙ c.seed-seed.ensures }) history stands

pub returns-clause-origin : goal.returns-clause-origin
returns-clause-origin g c = let stands = c.requires.room.1 in
    ap (λ kept. kept.seed) (c.in_ok-first.ensures.told.first.machine _ _ stands.state).stands
