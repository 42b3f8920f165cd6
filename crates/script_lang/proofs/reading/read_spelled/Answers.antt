use Rattle.std.proofs.Common.{rules}
use Rattle.script_lang.specs.Reading.{line_of}
use Rattle.script_lang.proofs.MemoryLaws.{row_wants}
use Rattle.script_lang.proofs.reading.read_spelled.Goals as goal

pub returns-in_err-line-clause-memory : goal.returns-in_err-line-clause-memory
unfolding line_of
returns-in_err-line-clause-memory c = let wants = row_wants c.in_ok-verb.verb c.split_at.result.1.now in search (rules, wants)
