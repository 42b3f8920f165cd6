use Rattle.script_lang.proofs.CutLaws.{read-line-by-line}
use Rattle.script_lang.proofs.laws.scripts_are_read_line_by_line.Goals as goal

pub returns : goal.returns
returns g c = λ read n text. read-line-by-line read n text
