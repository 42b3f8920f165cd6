-- What a machine stands for is legal.
use Rattle.disk_core.specs.DiskStates.{DiskState}
use Rattle.flat_machine.specs.State.{opening}
use Rattle.pad_desk.specs.Histories.{DeskEntry, HasSeed, Legal, LegalFrom}
use Rattle.pad_desk.specs.Machines.{Stands}
use Rattle.pad_machine.specs.Stands.{PadState, set_by}
use Rattle.pin_blocks.specs.PinRules.{PinRules}
use Rattle.std.proofs.Common.{subst}
use Rattle.std.specs.Prelude.{List, [], ℕ, ◌∷◌}

-- the empty history is legal
pub legal-none : (pin_rules : PinRules) → Legal pin_rules []
legal-none pin_rules = record { seed = tt; entries = tt }

legal-seed : (pin_rules : PinRules) (seed : List ℕ) (history : List DeskEntry) → HasSeed seed history → LegalFrom (set_by pin_rules seed) opening history → Legal pin_rules history
legal-seed pin_rules seed [] seeds legal = legal-none pin_rules
legal-seed pin_rules seed (entry ∷ rest) seeds legal = subst (λ (of : List ℕ). HasSeed of (entry ∷ rest) → LegalFrom (set_by pin_rules of) opening (entry ∷ rest) → Legal pin_rules (entry ∷ rest)) seeds.0
    (λ seeds legal. record { seed = seeds; entries = legal }) seeds legal

pub legal-stands : {D : Type 0} (disk_state : D → DiskState) (pin_rules : PinRules) (pad : PadState) (disk : D) (history : List DeskEntry) → Stands disk_state pin_rules pad disk history → Legal pin_rules history
legal-stands disk_state pin_rules pad disk history stands = legal-seed pin_rules pad.kept.seed history stands.seeds stands.legal
