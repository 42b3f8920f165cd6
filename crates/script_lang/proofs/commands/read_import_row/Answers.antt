use Rattle.std.proofs.Common.{rules}
use Rattle.pad_steps.specs.declared.commands.ImportSource.TheVariants as origin
use Rattle.script_lang.proofs.MemoryLaws.{sourced_is}
use Rattle.script_lang.proofs.commands.read_import_row.Goals as goal

pub returns-in_err-usage-in-Part-clause-given : goal.returns-in_err-usage-in-Part-clause-given
returns-in_err-usage-in-Part-clause-given c = let is = sourced_is c.args.name origin.Part c.args.rest.now in search (rules, is)

pub returns-in_ok-usage-in-Part-clause-given : goal.returns-in_ok-usage-in-Part-clause-given
returns-in_ok-usage-in-Part-clause-given c = let is = sourced_is c.args.name origin.Part c.args.rest.now in search (rules, is)
