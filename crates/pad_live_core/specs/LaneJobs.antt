-- Passes that were seated, lanes that began with them, and lanes that ended.
use Rattle.atomic_table.specs.declared.shared.Seat.{Seat}
use Rattle.crypt_commands.specs.declared.jobs.CryptDone.{CryptDone}
use Rattle.crypt_commands.specs.declared.jobs.CryptJob.{CryptJob}
use Rattle.disk_core.specs.declared.disk.Disk.{Ghosts as DiskGhosts}
use Rattle.pad_desk.specs.declared.machine.PadAndDisk.{PadAndDisk}
use Rattle.pad_desk.specs.declared.outcome.StepOut.{StepOut}
use Rattle.pad_live_core.specs.LaneEvents.{DeskView}
use Rattle.pad_live_core.specs.Stops.{AreFormed, LaneRan, WorkEnds}
use Rattle.pad_live_core.specs.Workers.{WorksOn}
use Rattle.pad_live_core.specs.declared.jobs.LaneStart.{LaneStart}
use Rattle.pad_live_core.specs.declared.lane.LaneEnd.{LaneEnd}
use Rattle.pad_live_core.specs.declared.worker.WorkerEnd.{WorkerEnd}
use Rattle.pad_steps.specs.declared.steps.Step.{Step}
use Rattle.pin_blocks.specs.PinRules.{PinRules}
use Rattle.pin_blocks.specs.declared.work.PinWork.{Ghosts as PinWorkGhosts}
use Rattle.script_lang.specs.declared.lane_kinds.LaneStep.{LaneStep}
use Rattle.std.specs.Prelude.{List, Option, [], length, ℕ, ◌+◌, ◌∷◌, ◌≡◌}
use Rattle.turnstile.specs.Numbers.{Each}
use Rattle.turnstile.specs.Rules.{first_view, new_seat}
use Rattle.turnstile.specs.Turns.{IsPassOf, view}
use Rattle.turnstile.specs.declared.held.Held.{Held}
use Rattle.turnstile.specs.declared.turn.Turn.{Turn}

-- a turn of a desk
abbrev pub DeskTurn : Type 0 → Type 0
DeskTurn X = Turn X Step StepOut CryptJob CryptDone

-- a pass of a desk
abbrev pub DeskSeat : Type 0 → Type 0
DeskSeat X = Seat (Option (Held X Step StepOut)) DeskView

-- the pass that the first pass of a pad with this seed seats after k others, before any call
abbrev pub seat_view : List ℕ → ℕ → DeskView
seat_view seed k = new_seat (record (first_view seed) { seated = k })

-- each line of each lane has its form
abbrev pub AllFormed : List (List LaneStep) → Type 0
AllFormed = Each AreFormed

module _ {X : Type 0} where
  -- these passes were seated in order
  abbrev pub AreSeated : DeskTurn X → ℕ → List (DeskSeat X) → Type 0
  AreSeated turn k [] = Unit {0}
  AreSeated turn k (pass ∷ passes) = (IsPassOf turn pass × (view pass ≡ seat_view (view pass).origin k)) × AreSeated turn (k + 1) passes

  -- the last of the passes, and those that are left
  pub record LastSeat (turn : DeskTurn X) (rest : List (DeskSeat X)) (pass : DeskSeat X) : Type 0 where
    pub seated : AreSeated turn 1 rest
    pub pass_of : IsPassOf turn pass
    pub viewed : view pass ≡ seat_view (view pass).origin (1 + length rest)

module _ {W D : Type 0} {work : PinWorkGhosts W} {disk : DiskGhosts D} (pin_rules : PinRules) where
  -- the lane that began so ended so
  abbrev pub EndsFrom : LaneStart W D work disk → LaneEnd W D work disk → Type 0
  EndsFrom start end = IsPassOf start.desk.value.turn end.pass
      × LaneRan pin_rules start.lines.value.items (view start.pass.value) end.stop (view end.pass)

  -- a lane began with these lines, and with a pass of this number
  pub record StartsAs (turn : DeskTurn (PadAndDisk W D work disk)) (k : ℕ) (lines : List LaneStep) (start : LaneStart W D work disk) : Type 0 where
    pub turn_is : start.desk.value.turn ≡ turn
    pub lines_are : start.lines.value.items ≡ lines
    pub viewed : view start.pass.value ≡ seat_view (view start.pass.value).origin k

  -- the lane with these lines and this number ended so
  pub record EndsAs (turn : DeskTurn (PadAndDisk W D work disk)) (k : ℕ) (lines : List LaneStep) (end : LaneEnd W D work disk) : Type 0 where
    pub pass_of : IsPassOf turn end.pass
    pub origin : List ℕ
    pub ran : LaneRan pin_rules lines (seat_view origin k) end.stop (view end.pass)

  -- these lanes ended, in order
  abbrev pub AllEnded : DeskTurn (PadAndDisk W D work disk) → ℕ → List (List LaneStep) → List (LaneEnd W D work disk) → Type 0
  AllEnded turn k [] [] = Unit {0}
  AllEnded turn k [] (end ∷ ends) = ⊥
  AllEnded turn k (lines ∷ others) [] = ⊥
  AllEnded turn k (lines ∷ others) (end ∷ ends) = EndsAs turn k lines end × AllEnded turn (k + 1) others ends

  -- the worker ended so
  pub record WorkerRan (turn : DeskTurn (PadAndDisk W D work disk)) (before : DeskView) (end : WorkerEnd W D work disk) : Type 0 where
    pub pass_of : IsPassOf turn end.pass
    pub works : WorksOn pin_rules before (view end.pass)
    pub ends : WorkEnds end.stop (view end.pass)
