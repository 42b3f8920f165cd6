use Rattle.script_lang.proofs.ReadLaws.{one_line}
use Rattle.script_lang.proofs.LineLaws.{line_takes, line_again}
use Rattle.script_lang.proofs.PrintLaws.{text_spells, text_again}
use Rattle.script_lang.proofs.laws.spelled_again.Goals as goal

pub returns-clause-spells : goal.returns-clause-spells
returns-clause-spells c = text_spells

pub returns-clause-again : goal.returns-clause-again
returns-clause-again c = text_again

pub returns-clause-one : goal.returns-clause-one
returns-clause-one c = one_line

pub returns-clause-exact : goal.returns-clause-exact
returns-clause-exact c = λ bytes l. (line_takes bytes l, line_again bytes l)
