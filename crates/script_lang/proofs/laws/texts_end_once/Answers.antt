use Rattle.script_lang.proofs.CutLaws.{cut-end, still-none}
use Rattle.script_lang.proofs.laws.texts_end_once.Goals as goal

pub returns-clause-cut : goal.returns-clause-cut
returns-clause-cut c = cut-end

pub returns-clause-left : goal.returns-clause-left
returns-clause-left c = still-none
