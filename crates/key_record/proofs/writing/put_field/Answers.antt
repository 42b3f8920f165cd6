use Rattle.std.proofs.Common.{◌≡◌, ◌+◌, ◌-◌, length, replicate, arith, rules}
use Rattle.std.proofs.lemmas.Grind.{common_steps}
use Rattle.key_record.proofs.FieldLemmas.{take-put_field}
use Rattle.key_record.proofs.writing.put_field.Goals as goal

pub returns : goal.returns
returns c =
    let filled : c.fill.new.self ≡ replicate (c.args.at + c.args.size - (c.args.at + length c.args.field.now)) 0 = search (rules, common_steps) in
    take-put_field c.args.cell.now c.args.field.now c.copy_from_slice.new.self c.fill.new.self c.args.at c.args.size _ _ c.requires.fits c.requires.size (omega arith) c.copy_from_slice.ensures.after (omega arith) filled
