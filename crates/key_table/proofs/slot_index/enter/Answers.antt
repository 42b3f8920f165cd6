use Rattle.std.proofs.Common.{add-one, arith, refl, subst, ◌∷◌}
use Rattle.std.specs.Prelude.{ℕ}
use Rattle.key_table.proofs.SlotIndexLemmas.{leads_more}
use Rattle.key_table.proofs.TableLemmas.{table_from}
use Rattle.key_table.specs.SlotIndexes.{LeadsTo}
use Rattle.key_table.proofs.slot_index.enter.Goals as goal

pub returns : goal.returns
returns c = λ rows table leads.
    rw (c.chain_of-chain.ensures.chain, c.from-slot.ensures) (leads_more c.args.place c.args.row.now rows c.args.index.now _ (table_from (c.args.row.now ∷ rows) table)
    (record { first = omega arith; next = omega arith; places = omega arith }) (record { first = refl; next = refl; places = refl }) (subst (λ (n : ℕ). LeadsTo c.args.index.now n rows) (add-one c.args.place) leads))
