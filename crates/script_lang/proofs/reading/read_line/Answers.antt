use Rattle.script_lang.proofs.ReadLaws.{is_found, is_outside}
use Rattle.script_lang.proofs.reading.read_line.Goals as goal

pub returns-clause-found : goal.returns-clause-found
returns-clause-found c = is_found c.args.line.now c.read_spelled.result c.read_spelled.ensures.given

pub returns-clause-outside : goal.returns-clause-outside
returns-clause-outside c = is_outside c.args.line.now c.read_spelled.result c.read_spelled.ensures.given
