use Rattle.flat_machine.proofs.KeyTableRuns as lemma
use Rattle.flat_machine.proofs.laws.keys.key_rows.Goals as goal

pub returns-clause-runs : goal.returns-clause-runs
returns-clause-runs c = lemma.table_runs (record { put = c.changes_keep_a_table.ensures.put; emptied = c.changes_keep_a_table.ensures.emptied })

pub returns-clause-step : goal.returns-clause-step
returns-clause-step c = lemma.table_step (record { put = c.changes_keep_a_table.ensures.put; emptied = c.changes_keep_a_table.ensures.emptied })
