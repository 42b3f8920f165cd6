use Rattle.std.proofs.Common.{ap, sym, ◌∙◌}
use Rattle.std.specs.List.{list_any}
use Rattle.std.specs.Prelude.{bytes_eq}
use Rattle.key_table.proofs.TableLemmas.{SlotRow}
use Rattle.key_table.specs.KeyRows.{KeyRows}
use Rattle.key_table.proofs.LoadLemmas.{slot_no_record, slot_none, slot_some, slot_taken_name}
use Rattle.key_table.proofs.loading.take_slot.Goals as goal

pub returns-then-has_name-clause-bad : goal.returns-then-has_name-clause-bad
returns-then-has_name-clause-bad c =
    slot_taken_name c.args.store.now.bytes c.args.slot c.args.rows.now.items c.in-Ok-Some.row c.requires.below (rw c.in-Ok-Some.field-0-is at c.in-Ok-Some.ensures.ok)
    (ap (λ (l : KeyRows). list_any (λ (r : SlotRow). bytes_eq r.1.name c.in-Ok-Some.row.name) l) (sym c.as_slice.ensures.value) ∙ sym c.has_name.ensures ∙ c.if-has_name.true)

pub returns-in-Err-clause-bad : goal.returns-in-Err-clause-bad
returns-in-Err-clause-bad c = slot_no_record c.args.store.now.bytes c.args.slot c.args.rows.now.items c.requires.below c.in-Err.ensures.err

pub returns-in-Ok-None-clause-taken : goal.returns-in-Ok-None-clause-taken
returns-in-Ok-None-clause-taken c = slot_none c.args.store.now.bytes c.args.slot c.args.rows.now.items c.requires.below (rw c.in-Ok-None.field-0-is at c.in-Ok-None.ensures.ok)

pub returns-else-has_name-clause-taken : goal.returns-else-has_name-clause-taken
returns-else-has_name-clause-taken c =
    slot_some c.args.store.now.bytes c.args.slot c.args.rows.now.items c.enter.new.rows.items c.in-Ok-Some.row c.requires.below (rw c.in-Ok-Some.field-0-is at c.in-Ok-Some.ensures.ok)
    (ap (λ (l : KeyRows). list_any (λ (r : SlotRow). bytes_eq r.1.name c.in-Ok-Some.row.name) l) (sym c.as_slice.ensures.value) ∙ sym c.has_name.ensures ∙ c.if-has_name.false) c.enter.ensures.items
