use Rattle.nv_store.proofs.TornLemmas.{IsTorn-is_torn, is_torn-IsTorn}
use Rattle.nv_store.proofs.laws.torn_bytes_are_told.Goals as goal

pub returns-clause-torn : goal.returns-clause-torn
returns-clause-torn c = λ bytes slot cell torn size below long is. is_torn-IsTorn (record { size = c.splices.ensures.length; below = c.splices.ensures.below; inside = c.splices.ensures.inside; above = c.splices.ensures.above; range = c.splices.ensures.range; range_apart = c.splices.ensures.range_apart }) bytes slot cell size below long torn is

pub returns-clause-told : goal.returns-clause-told
returns-clause-told c = λ bytes slot cell torn size below long is. IsTorn-is_torn (record { size = c.splices.ensures.length; below = c.splices.ensures.below; inside = c.splices.ensures.inside; above = c.splices.ensures.above; range = c.splices.ensures.range; range_apart = c.splices.ensures.range_apart }) bytes slot cell size below torn long is
