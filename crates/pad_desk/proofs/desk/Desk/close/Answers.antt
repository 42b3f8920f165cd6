use Rattle.std.proofs.Common.{subst, sym}
use Rattle.flat_machine.specs.KeyLayout.{key_layout}
use Rattle.pad_desk.proofs.DiskLemmas.{history-on_disk}
use Rattle.pad_desk.specs.Machines.{HistoryOnDisk}
use Rattle.pad_machine.specs.Stands.{PadState, set_by}
use Rattle.pad_desk.proofs.desk.Desk.close.Goals as goal

pub returns-clause-disk : goal.returns-clause-disk
returns-clause-disk g c =
    let machine = c.close-machine.result.0 in
    let history = c.close-machine.result.1 in
    subst (λ disk. HistoryOnDisk (set_by g.W.PinWork.rules c.parts-pad.result.0.kept.seed) history (g.D.Disk.state disk)) (sym c.parts-pad.ensures.1)
    (subst (λ (pad : PadState). HistoryOnDisk (set_by g.W.PinWork.rules pad.kept.seed) history (g.D.Disk.state machine.disk)) (sym c.parts-pad.ensures.0)
    (history-on_disk g.D.Disk.state g.W.PinWork.rules (λ set state deeds s t pending ready none on. c.store_history_goes_on.ensures.unloaded key_layout set state deeds s t pending ready none on)
    machine.pad.kept.seed machine.pad machine.disk history c.close-machine.ensures.stands))
