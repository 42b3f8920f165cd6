use Rattle.std.specs.Prelude.{None, [], refl}
use Rattle.flat_machine.proofs.BadStores.{zero_not_bad}
use Rattle.flat_machine.proofs.laws.disk_runs.zero_bytes_have_no_bad_slot.Goals as goal

pub returns : goal.returns
returns c = zero_not_bad (c.records_are_read_back.ensures.spelled None tt) (λ bytes cells. c.bytes_show_rows.ensures.rows bytes [] refl cells) c.bytes_show_rows.ensures.bad 12352 refl
