use Rattle.std.proofs.Common.{◌≡◌, ◌≤◌, ◌++◌, ◌-◌, ap, arith, drop, length, subst, take, ◌∙◌}
use Rattle.key_table.specs.KeyRows.{KeyRows}
use Rattle.pad_machine.proofs.TwiceLemmas.{rows_again, said_again, second_step}
use Rattle.pad_machine.specs.Runs.{IsPadStep}
use Rattle.pad_machine.specs.Stands.{PadState}
use Rattle.pad_machine.proofs.pad.Pad.take_twice.Goals as goal

pub say_again-requires-clause-room : goal.say_again-requires-clause-room
say_again-requires-clause-room g c =
    let again = said_again g.W.PinWork.rules c.prepare.new.self c.in_ok-prepared.prepared c.args.step.now c.without_key.result c.without_key.ensures.step c.in_ok-prepared.ensures.does
    c.take_step.new.self c.args.out.now.items c.take_step.new.out.items c.in_ok-stepped.stepped.word c.in_ok-stepped.ensures.kept in
    rw c.items.ensures (rw c.items-said_before.ensures (omega (arith, again.few, c.in_ok-prepared.ensures.room)))

pub say_again-requires-clause-known : goal.say_again-requires-clause-known
say_again-requires-clause-known g c =
    let again = said_again g.W.PinWork.rules c.prepare.new.self c.in_ok-prepared.prepared c.args.step.now c.without_key.result c.without_key.ensures.step c.in_ok-prepared.ensures.does
    c.take_step.new.self c.args.out.now.items c.take_step.new.out.items c.in_ok-stepped.stepped.word c.in_ok-stepped.ensures.kept in
    rw c.spare_of-spare.ensures.out (rw c.items.ensures (rw c.items-said_before.ensures again.known))

pub copy_word-requires : goal.copy_word-requires
copy_word-requires g c =
    let same : c.rows-rows.result.now ≡ c.take_step.new.self.kept.shared.keys = c.rows-rows.ensures.rows ∙ ap (λ (pad : PadState). pad.kept.shared.keys) c.self-2.view_is in
    rw c.spare_of-spare.ensures.rows
    (rows_again g.W.PinWork.rules c.prepare.new.self c.in_ok-prepared.prepared c.args.step.now c.without_key.result c.without_key.ensures.step c.in_ok-prepared.ensures.does
    c.in_ok-prepared.ensures.planned c.works_of_commands.ensures.loads c.in_ok-prepared.ensures.fits
    c.take_step.new.self c.args.out.now.items c.take_step.new.out.items c.in_ok-stepped.stepped.word (g.D.Disk.state c.args.disk.now) (g.D.Disk.state c.take_step.new.disk)
    c.in_ok-stepped.ensures.kept c.in_ok-stepped.ensures.step.on_disk (subst (λ (rows : KeyRows). length rows ≤ 64) same c.rows-rows.ensures.few))

pub returns-clause-first : goal.returns-clause-first
returns-clause-first g c = subst (λ (old : PadState). IsPadStep g.W.PinWork.rules old c.take_step.new.self c.args.out.now.items c.take_step.new.out.items c.args.step.now c.in_ok-stepped.stepped (g.D.Disk.state c.args.disk.now) (g.D.Disk.state c.take_step.new.disk))
    (c.in_ok-prepared.ensures.kept ∙ c.self.view_is) c.in_ok-stepped.ensures.step

pub returns-clause-second : goal.returns-clause-second
returns-clause-second g c =
    let told : c.say_again.new.second.items ≡ c.prepare.new.out.items ++ take (length c.items.result.now - length c.items-said_before.result.now) (drop (length c.items-said_before.result.now) c.items.result.now) = c.say_again.ensures in
    second_step g.W.PinWork.rules c.args.self.now c.take_step.new.self c.args.out.now.items c.take_step.new.out.items c.args.second.now.items c.say_again.new.second.items
    c.args.step.now c.in_ok-stepped.stepped c.copy_word.result (g.D.Disk.state c.args.disk.now) (g.D.Disk.state c.take_step.new.disk)
    c.copy_word.ensures
    (rw c.in_ok-prepared.ensures.items at (rw c.items.ensures at (rw c.items-said_before.ensures at told)))
    (returns-clause-first g c)
