use Rattle.nv_store.proofs.CellLemmas.{replaced_cells, torn_cells}
use Rattle.nv_store.proofs.laws.slots_stay_whole.Goals as goal

pub returns-clause-torn : goal.returns-clause-torn
returns-clause-torn c = λ bytes slot cell torn size within long is. torn_cells (record { size = c.splices.ensures.length; below = c.splices.ensures.below; inside = c.splices.ensures.inside; above = c.splices.ensures.above; range = c.splices.ensures.range; range_apart = c.splices.ensures.range_apart }) bytes slot cell size within long torn is

pub returns-clause-replaced : goal.returns-clause-replaced
returns-clause-replaced c = λ bytes slot cell size within long. replaced_cells (record { size = c.splices.ensures.length; below = c.splices.ensures.below; inside = c.splices.ensures.inside; above = c.splices.ensures.above; range = c.splices.ensures.range; range_apart = c.splices.ensures.range_apart }) bytes slot cell size within long
