use Rattle.std.proofs.Common.{◌≡◌, take}
use Rattle.turnstile.specs.Turns.{IsPassOf, view}
use Rattle.pad_live_core.specs.Stops.{LinesDone}
use Rattle.pad_live_core.proofs.lane.run_lane.Given as goal

abbrev pub invariant-loop-line : goal.invariant-loop-line
invariant-loop-line g l = IsPassOf l.desk.turn l.pass × LinesDone g.W.PinWork.rules (take l.line-index l.lines) (view l.fn.pass) l.ids.items l.last (view l.pass)
