use Rattle.std.proofs.Common.{Some, None, [], ap, arith, length, sym, ◌*◌, ◌∙◌, ◌∷◌, ◌<◌, ◌≡◌}
use Rattle.key_table.proofs.EraseLemmas.{changes_more, changes_struck, drop_next, erasure_left, with_first}
use Rattle.key_table.proofs.GapLemmas.{length-table}
use Rattle.key_table.specs.Changes.{erasures}
use Rattle.key_table.specs.KeyStores.{KeyStore, MakesChanges}
use Rattle.key_table.proofs.stored_keys.StoredKeys.erase_all.Goals as goal

pub overflow_cast-result : goal.overflow_cast-result
overflow_cast-result g c = omega (arith, length-table c.self.inside.keys c.rows-count.ensures.table, ap length c.rows-count.ensures.rows, c.loop-index-test.true)

pub returns-in-Err-clause-work : goal.returns-in-Err-clause-work
returns-in-Err-clause-work g c =
    let rows : c.self.inside.keys ≡ c.args.self.now.rows = ap (λ (k : KeyStore). k.rows) c.self.view_is in
    let within : c.loop-index.index < length c.args.self.now.rows = omega (arith, c.loop-index-test.true, ap length c.rows-count.ensures.rows, ap length rows) in
    with_first c.loop-index.index c.args.self.now.rows c.loop-index.self.rows (λ change. MakesChanges (change ∷ []) 0 (Some c.in-Err.fault) c.loop-index.self c.erase_first.new.self (g.D.Disk.state c.loop-index.disk) (g.D.Disk.state c.erase_first.new.disk)) _ c.loop-index.invariant.rows within
    (λ change at second. changes_struck (erasures c.args.self.now.rows) c.loop-index.index (g.D.Disk.state c.args.disk.now) (g.D.Disk.state c.loop-index.disk) (g.D.Disk.state c.erase_first.new.disk) c.args.self.now c.loop-index.self c.erase_first.new.self c.loop-index.invariant.work change at c.in-Err.fault
    (c.calls_are_runs.ensures.joined (4 * c.loop-index.index) 4 c.args.disk.now c.loop-index.disk c.erase_first.new.disk (Some c.in-Err.fault) c.loop-index.invariant.work.calls second.calls) second) c.in-Err.ensures.work

pub returns-in-Err-clause-rows : goal.returns-in-Err-clause-rows
returns-in-Err-clause-rows g c =
    let rows : c.self.inside.keys ≡ c.args.self.now.rows = ap (λ (k : KeyStore). k.rows) c.self.view_is in
    let within : c.loop-index.index < length c.args.self.now.rows = omega (arith, c.loop-index-test.true, ap length c.rows-count.ensures.rows, ap length rows) in
    with_first c.loop-index.index c.args.self.now.rows c.loop-index.self.rows (λ change. MakesChanges (change ∷ []) 0 (Some c.in-Err.fault) c.loop-index.self c.erase_first.new.self (g.D.Disk.state c.loop-index.disk) (g.D.Disk.state c.erase_first.new.disk)) (c.erase_first.new.self.rows ≡ c.loop-index.self.rows) c.loop-index.invariant.rows within
    (λ change at second. second.rows) c.in-Err.ensures.work
    ∙ c.loop-index.invariant.rows

pub returns-in-Err-clause-struck : goal.returns-in-Err-clause-struck
returns-in-Err-clause-struck g c =
    let rows : c.self.inside.keys ≡ c.args.self.now.rows = ap (λ (k : KeyStore). k.rows) c.self.view_is in
    let within : c.loop-index.index < length c.args.self.now.rows = omega (arith, c.loop-index-test.true, ap length c.rows-count.ensures.rows, ap length rows) in
    erasure_left c.loop-index.index c.args.self.now.rows c.erase_first.new.self.rows (
    with_first c.loop-index.index c.args.self.now.rows c.loop-index.self.rows (λ change. MakesChanges (change ∷ []) 0 (Some c.in-Err.fault) c.loop-index.self c.erase_first.new.self (g.D.Disk.state c.loop-index.disk) (g.D.Disk.state c.erase_first.new.disk)) (c.erase_first.new.self.rows ≡ c.loop-index.self.rows) c.loop-index.invariant.rows within
    (λ change at second. second.rows) c.in-Err.ensures.work
    ∙ c.loop-index.invariant.rows)

pub returns-clause-struck : goal.returns-clause-struck
returns-clause-struck g c =
    let whole : c.loop-index.index ≡ length c.rows-count.result.now = omega (arith, c.loop-index-test.false, c.loop-index.auto.index-end) in
    rw (sym whole) (erasure_left c.loop-index.index c.args.self.now.rows c.loop-index.self.rows c.loop-index.invariant.rows)

pub loop-index-preserved : goal.loop-index-preserved
loop-index-preserved g c =
    let rows : c.self.inside.keys ≡ c.args.self.now.rows = ap (λ (k : KeyStore). k.rows) c.self.view_is in
    let within : c.loop-index.index < length c.args.self.now.rows = omega (arith, c.loop-index-test.true, ap length c.rows-count.ensures.rows, ap length rows) in
    record {
      work = with_first c.loop-index.index c.args.self.now.rows c.loop-index.self.rows (λ change. MakesChanges (change ∷ []) 1 None c.loop-index.self c.erase_first.new.self (g.D.Disk.state c.loop-index.disk) (g.D.Disk.state c.erase_first.new.disk)) _ c.loop-index.invariant.rows within
          (λ change at second. changes_more (erasures c.args.self.now.rows) c.loop-index.index (g.D.Disk.state c.args.disk.now) (g.D.Disk.state c.loop-index.disk) (g.D.Disk.state c.erase_first.new.disk) c.args.self.now c.loop-index.self c.erase_first.new.self c.loop-index.invariant.work change at
          (c.calls_are_runs.ensures.joined (4 * c.loop-index.index) 4 c.args.disk.now c.loop-index.disk c.erase_first.new.disk None c.loop-index.invariant.work.calls second.calls) second) c.in-Ok.ensures.work;
      rows = drop_next c.loop-index.index c.args.self.now.rows c.loop-index.self.rows c.erase_first.new.self.rows c.loop-index.invariant.rows c.in-Ok.ensures.rows;
    }

pub overflow_cast-result-2 : goal.overflow_cast-result-2
overflow_cast-result-2 g c = omega (arith, length-table c.self.inside.keys c.rows-count.ensures.table, ap length c.rows-count.ensures.rows)
