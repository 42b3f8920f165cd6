use Rattle.std.proofs.Common.{rules, ◌≡◌, ap, ◌∙◌}
use Rattle.arrayvec.proofs.ArrayVecLemmas.{filter-from_retain}
use Rattle.device_lock.specs.LockLine.{out_of_line}
use Rattle.device_lock.proofs.LineLemmas.{IsDistinct-filter}
use Rattle.device_lock.proofs.lock.Lock.take_out.Goals as goal

pub invariant_of-self : goal.invariant_of-self
invariant_of-self c =
    let kept : c.retain.new.self.items ≡ out_of_line c.args.session c.self.inside.line.items =
    filter-from_retain _ _ _ (λ x b f' y called. search rules) _ _ c.retain.ensures.filtered in
    rw kept (IsDistinct-filter _ _ c.self.invariant)

pub returns : goal.returns
returns c =
    let kept : c.retain.new.self.items ≡ out_of_line c.args.session c.self.inside.line.items =
    filter-from_retain _ _ _ (λ x b f' y called. search rules) _ _ c.retain.ensures.filtered in
    kept ∙ ap (out_of_line c.args.session) c.self.view_is
