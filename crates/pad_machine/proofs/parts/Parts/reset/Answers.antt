use Rattle.std.proofs.Common.{ap, subst, sym, ◌∙◌, ◌≡◌, false}
use Rattle.flat_machine.specs.FinishSteps.{device_reply}
use Rattle.flat_machine.specs.Kept.{kept_said}
use Rattle.flat_machine.specs.Power.{word_fate}
use Rattle.flat_machine.specs.State.{Shared, replies}
use Rattle.key_table.specs.KeyStores.{KeyStore}
use Rattle.pad_machine.proofs.ResetLemmas.{NotCut, cleared, fate_cleared, reset_becomes, reset_keeps}
use Rattle.pad_machine.specs.Does.{Becomes}
use Rattle.pad_machine.specs.Replacing.{LoadedBy, after_loading}
use Rattle.pad_machine.specs.Stands.{Whole, set_by, shared_of}
use Rattle.pad_steps.specs.declared.answers.Reply.{Reply}
use Rattle.pad_machine.proofs.parts.Parts.reset.Goals as goal

pub returns-in_default : goal.returns-in_default
returns-in_default g c =
    let old : Whole = record { seed = c.self.inside.seed; common = c.self.inside.shared; digits = c.self.inside.digits; held = c.self.inside.held.digits } in
    let word = c.load-stepped.result.word in
    let uncut : NotCut word = c.in_default.not-Cut in
    let base : shared_of c.maintain.new.self ≡ cleared (shared_of old.common) = c.maintain.ensures.state ∙ ap (λ (p : Shared). record p { maintain = false }) c.clear_part.ensures.state in
    let after : shared_of c.load-stepped.new.self ≡ after_loading (cleared (shared_of old.common)) word = c.load-stepped.ensures.state ∙ ap (λ (p : Shared). after_loading p word) base in
    let reply : c.device_reply.result ≡ device_reply c.load-stepped.new.self.device = c.device_reply.ensures ∙ ap device_reply c.device-device.ensures in
    let ended : Becomes c.end.new.self c.args.out.now c.end.new.out (kept_said (record { seed = old.seed; shared = shared_of c.load-stepped.new.self; digits = old.digits; held = c.clear.new.self.digits })
    (replies (shared_of c.load-stepped.new.self) c.args.owner (device_reply c.load-stepped.new.self.device))) =
    subst (λ (r : Reply). Becomes c.end.new.self c.args.out.now c.end.new.out (kept_said (record { seed = old.seed; shared = shared_of c.load-stepped.new.self; digits = old.digits; held = c.clear.new.self.digits })
    (replies (shared_of c.load-stepped.new.self) c.args.owner r))) reply c.end.ensures.does in
    let does = reset_becomes old c.end.new.self (shared_of c.load-stepped.new.self) c.clear.new.self.digits c.args.out.now c.end.new.out c.args.owner word uncut after c.clear.ensures.digits ended in
    let loaded : LoadedBy word old.common.store c.end.new.self.common.store (g.D.Disk.state c.args.disk.now) (g.D.Disk.state c.load-stepped.new.disk) =
    subst (λ (k : KeyStore). LoadedBy word k c.end.new.self.common.store (g.D.Disk.state c.args.disk.now) (g.D.Disk.state c.load-stepped.new.disk)) (c.maintain.ensures.store ∙ c.clear_part.ensures.store)
    (subst (λ (k : KeyStore). LoadedBy word c.maintain.new.self.store k (g.D.Disk.state c.args.disk.now) (g.D.Disk.state c.load-stepped.new.disk)) (sym c.end.ensures.store) c.load-stepped.ensures.loaded) in
    rw (sym c.self.view_is) (record {
      does = does;
      device = reset_keeps old c.end.new.self c.args.out.now c.end.new.out c.args.owner word (g.D.Disk.state c.args.disk.now) (g.D.Disk.state c.load-stepped.new.disk)
          (λ result loads. c.device_steps_are_on_disk.ensures.reset (set_by g.W.PinWork.rules old.seed) (shared_of old.common) old.held c.args.owner result old.common.store c.end.new.self.common.store c.args.disk.now c.load-stepped.new.disk
          (rw (sym c.self.view_is) at c.requires.reset.on) (rw (sym c.self.view_is) at c.requires.kept) loads)
          loaded does;
      fate = c.load-stepped.ensures.fate ∙ ap (λ (p : Shared). word_fate p word) base ∙ fate_cleared (shared_of old.common) word;
    })
