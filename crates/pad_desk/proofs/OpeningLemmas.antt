-- A pad that took no step stands for the empty history, with a fresh disk.
use Rattle.std.proofs.Common.{ap, arith, length, subst, sym}
use Rattle.std.proofs.Math.Bridge.{le_prop}
use Rattle.std.specs.Prelude.{List, [], ℕ, ◌≡◌, ◌≤◌}
use mathlib.Core.HLevel.{is_prop→PathP}
use Rattle.disk_core.specs.DiskStates.{DiskState}
use Rattle.disk_core.specs.declared.disk.Disk.{Ghosts as DiskGhosts}
use Rattle.flat_machine.specs.DiskRuns.{RunOnDisk}
use Rattle.flat_machine.specs.DiskSteps.{IsTied}
use Rattle.flat_machine.specs.KeyLayout.{key_layout}
use Rattle.flat_machine.specs.Kept.{Kept}
use Rattle.flat_machine.specs.Settings.{Setting}
use Rattle.flat_machine.specs.State.{Flat, opening}
use Rattle.pad_desk.proofs.DiskLemmas.{if_some-all}
use Rattle.pad_desk.specs.Machines.{IsFreshDisk, Stands}
use Rattle.pad_desk.specs.declared.machine.PadAndDisk.{PadAndDisk}
use Rattle.pad_machine.specs.Runs.{PadIsTied}
use Rattle.pad_machine.specs.Stands.{PadState, StandsFor, set_by}
use Rattle.pin_blocks.specs.PinRules.{PinRules}
use Rattle.pin_blocks.specs.declared.work.PinWork.{Ghosts as PinWorkGhosts}

-- a pad that is off is tied to every disk
tied-opening : (seed : List ℕ) (pad : PadState) (s : DiskState) → StandsFor pad seed opening → PadIsTied pad s
tied-opening seed pad s stands = subst (λ (kept : Kept). IsTied kept.shared pad.stored s) (sym stands) (record { on = λ on. absurd cc; in_step = λ ready. absurd cc })

-- it has no request
pub few-opening : (seed : List ℕ) (pad : PadState) → StandsFor pad seed opening → length pad.kept.shared.requests ≡ 0
few-opening seed pad stands = ap (λ (kept : Kept). length kept.shared.requests) stands

pub stands-opening : {D : Type 0} (disk_state : D → DiskState) (pin_rules : PinRules) (pad : PadState) (disk : D) → StandsFor pad pad.kept.seed opening → IsFreshDisk (disk_state disk)
    → ((set : Setting) (state : Flat) (s : D) → RunOnDisk key_layout set state [] (disk_state s) (disk_state s)) → Stands disk_state pin_rules pad disk []
stands-opening disk_state pin_rules pad disk stands fresh none = record {
  seeds = tt;
  legal = tt;
  state = stands;
  requests = omega (arith, few-opening pad.kept.seed pad stands);
  tied = tied-opening pad.kept.seed pad (disk_state disk) stands;
  first = disk;
  fresh = fresh;
  on_disk = none (set_by pin_rules pad.kept.seed) opening disk;
  good = if_some-all (disk_state disk).content tt;
}

-- machines with equal parts are equal
pub machine-eq : {W D : Type 0} {work : PinWorkGhosts W} {disk : DiskGhosts D} (a b : PadAndDisk W D work disk) → a.pad ≡ b.pad → a.disk ≡ b.disk → a.alloc ≡ b.alloc → a ≡ b
machine-eq a b pad disk alloc = λ i. record { pad = pad i; disk = disk i; alloc = alloc i; few = is_prop→PathP (λ j. length (pad j).kept.shared.requests ≤ 1048576) (λ j. hlevel le_prop) a.few b.few i }
