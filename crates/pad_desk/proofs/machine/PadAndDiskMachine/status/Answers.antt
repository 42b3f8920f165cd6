use Rattle.std.proofs.Common.{◌<◌, subst, sym, ℕ}
use Rattle.flat_machine.specs.Machine.{has_pin}
use Rattle.pad_desk.proofs.StatusLemmas.{status-few}
use Rattle.pad_desk.proofs.machine.PadAndDiskMachine.status.Goals as goal

pub returns-clause-below : goal.returns-clause-below
returns-clause-below g c = subst (λ (n : ℕ). n < 8796093022208) (sym c.status.ensures.kept) (status-few c.args.self.now.pad.kept.shared (has_pin c.args.self.now.pad.kept.held) c.args.self.now.few)
