use Rattle.std.proofs.Common.{ap, refl, rules, subst, sym, ◌∙◌, ◌∷◌, [], true, ◌≡◌}
use Rattle.flat_machine.specs.DiskFacts.{KeepsStore, stays}
use Rattle.flat_machine.specs.DiskSteps.{is_replacing}
use Rattle.flat_machine.specs.FinishSteps.{performs, plan_of}
use Rattle.flat_machine.specs.Kept.{Kept}
use Rattle.flat_machine.specs.Power.{Nothing, Replacing, word_fate}
use Rattle.flat_machine.specs.State.{is_ready}
use Rattle.flat_machine.specs.declared.types.Work.{Work}
use Rattle.key_table.specs.Changes.{change_to, erasure, erasures}
use Rattle.pad_machine.proofs.DeviceLemmas.{does_as, quiet_keeps, ready_for, replaced_keeps, unloaded_fate}
use Rattle.pad_machine.specs.Prepares.{deciding}
use Rattle.pad_machine.specs.Replacing.{MadeChanges}
use Rattle.pad_machine.specs.Stands.{set_by, shared_of}
use Rattle.pad_steps.specs.declared.steps.DiskWord.{DiskWord}
use Rattle.std.specs.Prelude.{length}
use Rattle.pad_machine.proofs.parts.Parts.finish.Goals as goal

pub returns-in-Keep-clause-does : goal.returns-in-Keep-clause-does
returns-in-Keep-clause-does g c = search rules

pub returns-in-Erase-clause-does : goal.returns-in-Erase-clause-does
returns-in-Erase-clause-does g c = search rules

pub returns-in-EraseAll-clause-does : goal.returns-in-EraseAll-clause-does
returns-in-EraseAll-clause-does g c = search rules

pub returns-in-Keep-clause-device : goal.returns-in-Keep-clause-device
returns-in-Keep-clause-device g c =
    let old = c.args.self.now in
    let shared = shared_of old.common in
    let todo = change_to (c.in-Keep.slot, c.in-Keep.row) ∷ [] in
    let planned : plan_of shared c.args.work ≡ Replacing todo = ap (λ (v : Work). plan_of shared v) c.in-Keep.is in
    let ready : is_ready old.common.device ≡ true = ready_for (deciding g.W.PinWork.rules) shared (length old.held) c.requires.decided.command c.args.work c.works_of_commands.ensures.ready c.requires.decided.is c.requires.decided.on (ap is_replacing planned) in
    replaced_keeps (set_by g.W.PinWork.rules old.seed) old c.keep.new.self c.args.out.now c.keep.new.out c.args.owner c.args.work todo c.fateless.result.word (g.D.Disk.state c.args.disk.now) (g.D.Disk.state c.keep.new.disk)
    (λ count fault. c.device_steps_are_on_disk.ensures.replaced (set_by g.W.PinWork.rules old.seed) shared old.held c.args.owner c.args.work todo count fault old.common.store c.keep.new.self.common.store c.args.disk.now c.keep.new.disk)
    ready planned c.requires.kept
    (subst (λ (d : DiskWord). MadeChanges todo d old.common.store c.keep.new.self.common.store (g.D.Disk.state c.args.disk.now) (g.D.Disk.state c.keep.new.disk)) (sym c.fateless.ensures.word) c.keep.ensures.made)
    (returns-in-Keep-clause-does g c)

pub returns-in-Erase-clause-device : goal.returns-in-Erase-clause-device
returns-in-Erase-clause-device g c =
    let old = c.args.self.now in
    let shared = shared_of old.common in
    let todo = erasure c.in-Erase.slot ∷ [] in
    let planned : plan_of shared c.args.work ≡ Replacing todo = ap (λ (v : Work). plan_of shared v) c.in-Erase.is in
    let ready : is_ready old.common.device ≡ true = ready_for (deciding g.W.PinWork.rules) shared (length old.held) c.requires.decided.command c.args.work c.works_of_commands.ensures.ready c.requires.decided.is c.requires.decided.on (ap is_replacing planned) in
    replaced_keeps (set_by g.W.PinWork.rules old.seed) old c.erase.new.self c.args.out.now c.erase.new.out c.args.owner c.args.work todo c.fateless-in-Erase.result.word (g.D.Disk.state c.args.disk.now) (g.D.Disk.state c.erase.new.disk)
    (λ count fault. c.device_steps_are_on_disk.ensures.replaced (set_by g.W.PinWork.rules old.seed) shared old.held c.args.owner c.args.work todo count fault old.common.store c.erase.new.self.common.store c.args.disk.now c.erase.new.disk)
    ready planned c.requires.kept
    (subst (λ (d : DiskWord). MadeChanges todo d old.common.store c.erase.new.self.common.store (g.D.Disk.state c.args.disk.now) (g.D.Disk.state c.erase.new.disk)) (sym c.fateless-in-Erase.ensures.word) c.erase.ensures.made)
    (returns-in-Erase-clause-does g c)

pub returns-in-EraseAll-clause-device : goal.returns-in-EraseAll-clause-device
returns-in-EraseAll-clause-device g c =
    let old = c.args.self.now in
    let shared = shared_of old.common in
    let todo = erasures old.common.store.rows in
    let planned : plan_of shared c.args.work ≡ Replacing todo = ap (λ (v : Work). plan_of shared v) c.in-EraseAll.is in
    let ready : is_ready old.common.device ≡ true = ready_for (deciding g.W.PinWork.rules) shared (length old.held) c.requires.decided.command c.args.work c.works_of_commands.ensures.ready c.requires.decided.is c.requires.decided.on (ap is_replacing planned) in
    replaced_keeps (set_by g.W.PinWork.rules old.seed) old c.erase_all.new.self c.args.out.now c.erase_all.new.out c.args.owner c.args.work todo c.fateless-in-EraseAll.result.word (g.D.Disk.state c.args.disk.now) (g.D.Disk.state c.erase_all.new.disk)
    (λ count fault. c.device_steps_are_on_disk.ensures.replaced (set_by g.W.PinWork.rules old.seed) shared old.held c.args.owner c.args.work todo count fault old.common.store c.erase_all.new.self.common.store c.args.disk.now c.erase_all.new.disk)
    ready planned c.requires.kept
    (subst (λ (d : DiskWord). MadeChanges todo d old.common.store c.erase_all.new.self.common.store (g.D.Disk.state c.args.disk.now) (g.D.Disk.state c.erase_all.new.disk)) (sym c.fateless-in-EraseAll.ensures.word) c.erase_all.ensures.made)
    (returns-in-EraseAll-clause-does g c)

pub returns-in-Keep-clause-fate : goal.returns-in-Keep-clause-fate
returns-in-Keep-clause-fate g c = c.fateless.ensures.fate ∙ sym (unloaded_fate (shared_of c.args.self.now.common) (change_to (c.in-Keep.slot, c.in-Keep.row) ∷ []) c.keep.ensures.made.count c.keep.ensures.made.fault c.fateless.result.word (c.fateless.ensures.word ∙ c.keep.ensures.made.is))

pub returns-in-Erase-clause-fate : goal.returns-in-Erase-clause-fate
returns-in-Erase-clause-fate g c = c.fateless-in-Erase.ensures.fate ∙ sym (unloaded_fate (shared_of c.args.self.now.common) (erasure c.in-Erase.slot ∷ []) c.erase.ensures.made.count c.erase.ensures.made.fault c.fateless-in-Erase.result.word (c.fateless-in-Erase.ensures.word ∙ c.erase.ensures.made.is))

pub returns-in-EraseAll-clause-fate : goal.returns-in-EraseAll-clause-fate
returns-in-EraseAll-clause-fate g c = c.fateless-in-EraseAll.ensures.fate ∙ sym (unloaded_fate (shared_of c.args.self.now.common) (erasures c.args.self.now.common.store.rows) c.erase_all.ensures.made.count c.erase_all.ensures.made.fault c.fateless-in-EraseAll.result.word (c.fateless-in-EraseAll.ensures.word ∙ c.erase_all.ensures.made.is))

pub returns-in_default : goal.returns-in_default
returns-in_default g c =
    let old = c.args.self.now in
    let shared = shared_of old.common in
    let planned : plan_of shared c.args.work ≡ Nothing = search rules in
    let does = does_as (set_by g.W.PinWork.rules old.seed) old c.finish_quietly.new.self c.args.out.now c.finish_quietly.new.out c.args.owner c.args.work c.args.work c.fateless-in_default.result.word refl c.fateless-in_default.ensures.word c.finish_quietly.ensures.does in
    record {
      does = does;
      device = subst (λ (d : DiskWord). KeepsStore shared (shared_of c.finish_quietly.new.self.common) stays (plan_of shared c.args.work) d c.finish_quietly.new.self.common.store (g.D.Disk.state c.args.disk.now) (g.D.Disk.state c.args.disk.now)) (sym c.fateless-in_default.ensures.word)
          (quiet_keeps old c.finish_quietly.new.self (performs (set_by g.W.PinWork.rules old.seed) shared old.held c.args.owner c.args.work c.fateless-in_default.result.word).shared (plan_of shared c.args.work) (g.D.Disk.state c.args.disk.now) (g.D.Disk.state c.args.disk.now)
          (λ after keeps. c.quiet_steps_leave_the_disk.ensures.on_disk shared after old.common.store c.args.disk.now keeps c.requires.kept)
          (rw c.fateless-in_default.ensures.word (c.quiet_steps_leave_the_disk.ensures.works (set_by g.W.PinWork.rules old.seed) shared old.held c.args.owner c.args.work planned))
          (ap (λ (k : Kept). k.shared) does.state) c.finish_quietly.ensures.store planned);
      fate = c.fateless-in_default.ensures.fate ∙ sym (ap (λ (d : DiskWord). word_fate shared d) c.fateless-in_default.ensures.word);
    }
