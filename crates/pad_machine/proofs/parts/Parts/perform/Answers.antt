use Rattle.std.proofs.Common.{ap, refl, rules, subst, sym, false, true, ◌≡◌}
use Rattle.flat_machine.specs.DiskFacts.{KeepsStore}
use Rattle.flat_machine.specs.Kept.{Kept}
use Rattle.pad_machine.proofs.DeviceLemmas.{plain_keeps, press_keeps}
use Rattle.pad_machine.specs.Prepares.{IsPrepared, calls_of, is_plain, switch_of}
use Rattle.pad_machine.specs.Stands.{kept_by, set_by, shared_of}
use Rattle.pad_machine.specs.declared.prepared.Prepared.{Prepared}
use Rattle.pad_steps.specs.declared.steps.Step.TheVariants.{Press}
use Rattle.std.specs.Prelude.{length}
use Rattle.pad_machine.proofs.parts.Parts.perform.Goals as goal

pub returns-in-Press-Some-clause-device : goal.returns-in-Press-Some-clause-device
returns-in-Press-Some-clause-device g c =
    let old = c.args.self.now in
    let shared = shared_of old.common in
    let set = set_by g.W.PinWork.rules old.seed in
    let fits = subst (λ (p : Prepared). IsPrepared g.W.PinWork.rules old.common (length old.held) p) c.in-Press-Some.is-0 c.requires.fits in
    let done = press_keeps set old c.press.new.self c.args.out.now c.press.new.out c.in-Press-Some.current c.in-Press-Some.key (g.D.Disk.state c.args.disk.now)
    (λ after keeps. c.quiet_steps_leave_the_disk.ensures.on_disk shared after old.common.store c.args.disk.now keeps c.requires.kept)
    (c.quiet_steps_leave_the_disk.ensures.kept set (kept_by old) (Press c.in-Press-Some.key) refl (λ e. absurd (let no : false ≡ true = e in cc)))
    fits.runs c.press.ensures.becomes c.press.ensures.store in
    subst (λ (p : Prepared). KeepsStore shared (shared_of c.press.new.self.common) (switch_of p) (calls_of shared p) c.quiet.result.word c.press.new.self.common.store (g.D.Disk.state c.args.disk.now) (g.D.Disk.state c.args.disk.now)) (sym c.in-Press-Some.is-0)
    (rw c.quiet.ensures.word done)

pub returns-in_default-clause-device : goal.returns-in_default-clause-device
returns-in_default-clause-device g c =
    let old = c.args.self.now in
    let shared = shared_of old.common in
    let same : c.args.prepared ≡ c.in_default-1.prepared = search rules in
    let plain : is_plain c.in_default-1.prepared ≡ true = search rules in
    subst (λ (p : Prepared). KeepsStore shared (shared_of c.perform_keyless.new.self.common) (switch_of p) (calls_of shared p) c.quiet-in_default.result.word c.perform_keyless.new.self.common.store (g.D.Disk.state c.args.disk.now) (g.D.Disk.state c.args.disk.now)) (sym same)
    (rw c.quiet-in_default.ensures.word (plain_keeps (set_by g.W.PinWork.rules old.seed) old c.perform_keyless.new.self c.in_default-1.prepared (g.D.Disk.state c.args.disk.now)
    (λ after keeps. c.quiet_steps_leave_the_disk.ensures.on_disk shared after old.common.store c.args.disk.now keeps c.requires.kept)
    plain (ap (λ (k : Kept). k.shared) c.perform_keyless.ensures.does.state) c.perform_keyless.ensures.store))
