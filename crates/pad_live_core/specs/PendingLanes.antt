-- Lanes that were started and are joined one by one.
use Rattle.disk_core.specs.declared.disk.Disk.{Ghosts as DiskGhosts}
use Rattle.pad_desk.specs.declared.machine.PadAndDisk.{PadAndDisk}
use Rattle.pad_live_core.specs.LaneEvents.{DeskView}
use Rattle.pad_live_core.specs.LaneJobs.{AllEnded, DeskTurn, EndsAs, StartsAs}
use Rattle.pad_live_core.specs.LiveHistories.{JoinsLanes, Lane, LaneKnows, LanesKnow}
use Rattle.pad_live_core.specs.Stops.{LaneFull}
use Rattle.pad_live_core.specs.declared.jobs.Pending.TheVariants.{Done, Running}
use Rattle.pad_live_core.specs.declared.jobs.Pending.{Pending}
use Rattle.pad_live_core.specs.declared.lane.LaneEnd.{LaneEnd}
use Rattle.pad_live_core.specs.declared.stop.Stop.TheVariants as why
use Rattle.pad_live_core.specs.declared.stop.Stop.{Stop}
use Rattle.pin_blocks.specs.PinRules.{PinRules}
use Rattle.pin_blocks.specs.declared.work.PinWork.{Ghosts as PinWorkGhosts}
use Rattle.script_lang.specs.declared.lane_kinds.LaneStep.{LaneStep}
use Rattle.std.specs.Prelude.{List, None, Option, Some, [], length, map, ℕ, ◌+◌, ◌∷◌, ◌≡◌, ◌≤◌}
use Rattle.turnstile.specs.Numbers.{Each}

-- why the lanes stopped: where none did, for no reason; where the history was full, it had 1,048,576 entries, and where a
-- lane met a full history that is the reason
pub record StopsFor (stop : Option Stop) (lanes : List Lane) (after : DeskView) : Type 0 where
  pub none : stop ≡ None → Each (λ (lane : Lane). lane.stop ≡ None) lanes
  pub full : stop ≡ Some why.Full → 1048576 ≤ length after.seen
  pub met : Each (λ (lane : Lane). lane.stop ≡ Some why.Full → stop ≡ Some why.Full) lanes
  pub known : Each (λ (lane : Lane). LaneFull lane.stop lane.view) lanes

module _ {W D : Type 0} {work : PinWorkGhosts W} {disk : DiskGhosts D} (pin_rules : PinRules) where
  -- a lane that was started is the one with these lines and this number
  abbrev pub PendsAs : DeskTurn (PadAndDisk W D work disk) → ℕ → List LaneStep → Pending W D work disk → Type 0
  PendsAs turn k lines (Running child) = StartsAs pin_rules turn k lines child.promise.start
  PendsAs turn k lines (Done end) = EndsAs pin_rules turn k lines end

  -- these lanes were started, in order
  abbrev pub AllPend : DeskTurn (PadAndDisk W D work disk) → ℕ → List (List LaneStep) → List (Pending W D work disk) → Type 0
  AllPend turn k [] [] = Unit {0}
  AllPend turn k [] (pending ∷ pendings) = ⊥
  AllPend turn k (lines ∷ others) [] = ⊥
  AllPend turn k (lines ∷ others) (pending ∷ pendings) = PendsAs turn k lines pending × AllPend turn (k + 1) others pendings

  -- of these lanes the first ended, and the others were started
  abbrev pub Joining : DeskTurn (PadAndDisk W D work disk) → ℕ → List (List LaneStep) → List (LaneEnd W D work disk) → List (Pending W D work disk) → Type 0
  Joining turn k lanes [] pendings = AllPend turn k lanes pendings
  Joining turn k [] (end ∷ ends) pendings = ⊥
  Joining turn k (lines ∷ others) (end ∷ ends) pendings = EndsAs pin_rules turn k lines end × Joining turn (k + 1) others ends pendings

  -- of these lanes the passes of the first were joined, and the others ended
  abbrev pub Absorbing : DeskTurn (PadAndDisk W D work disk) → ℕ → List (List LaneStep) → List Lane → List (LaneEnd W D work disk) → Type 0
  Absorbing turn k lanes [] ends = AllEnded pin_rules turn k lanes ends
  Absorbing turn k [] (lane ∷ done) ends = ⊥
  Absorbing turn k (lines ∷ others) (lane ∷ done) ends = (lane.lines ≡ lines) × LaneKnows pin_rules k lane × Absorbing turn (k + 1) others done ends

  -- the passes of the first of these lanes were joined into the worker's, and the others ended
  pub record Absorbs (turn : DeskTurn (PadAndDisk W D work disk)) (all : List (List LaneStep)) (before : DeskView) (rest : List (LaneEnd W D work disk)) (stop : Option Stop) (after : DeskView) : Type 0 where
    pub lanes : List Lane
    pub absorbing : Absorbing turn 1 all lanes rest
    pub joins : JoinsLanes before lanes after
    pub stops : StopsFor stop lanes after

module _ (pin_rules : PinRules) where
  -- the passes of all lanes were joined into the worker's
  pub record Absorbed (all : List (List LaneStep)) (before : DeskView) (stop : Option Stop) (after : DeskView) : Type 0 where
    pub lanes : List Lane
    pub lines : map (λ (lane : Lane). lane.lines) lanes ≡ all
    pub know : LanesKnow pin_rules 1 lanes
    pub joins : JoinsLanes before lanes after
    pub stops : StopsFor stop lanes after
