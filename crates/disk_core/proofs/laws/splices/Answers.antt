use Rattle.disk_core.proofs.SpliceLemmas.{get_or-splice_above, get_or-splice_below, get_or-splice_in, length-splice, slice_range-splice, slice_range-splice_apart, splice_own}
use Rattle.disk_core.proofs.laws.splices.Goals as goal

pub returns-clause-length : goal.returns-clause-length
returns-clause-length c = length-splice

pub returns-clause-below : goal.returns-clause-below
returns-clause-below c = λ b at part fits i. get_or-splice_below b at part fits i 0

pub returns-clause-inside : goal.returns-clause-inside
returns-clause-inside c = λ b at part fits i. get_or-splice_in b at part fits i 0

pub returns-clause-above : goal.returns-clause-above
returns-clause-above c = λ b at part fits i. get_or-splice_above b at part fits i 0

pub returns-clause-range : goal.returns-clause-range
returns-clause-range c = slice_range-splice

pub returns-clause-range_apart : goal.returns-clause-range_apart
returns-clause-range_apart c = slice_range-splice_apart

pub returns-clause-own : goal.returns-clause-own
returns-clause-own c = splice_own
