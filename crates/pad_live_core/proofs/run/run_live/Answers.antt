use Rattle.std.proofs.Common.{List, arith, subst, sym, ⊎_elim, ◌∙◌, ◌≡◌, ℕ}
use Rattle.disk_core.specs.Streams.{GivesFront}
use Rattle.lane_scripts.specs.LaneScripts.{lane_script_of}
use Rattle.lane_scripts.specs.declared.reading.ScriptFault.TheVariants as faults
use Rattle.pad_live_core.proofs.EndLemmas.{mark_came, nothing_came}
use Rattle.pad_live_core.specs.CommandLine.{live_script, script_asked, seed_in}
use Rattle.transcript.specs.PrintedLines.{mark_text}
use Rattle.std.specs.Prelude.{Err, IfSome, Option, Some}
use Rattle.pad_live_core.proofs.run.run_live.Goals as goal

pub returns-in_default-clause-run : goal.returns-in_default-clause-run
returns-in_default-clause-run g c = let is = c.no_lane_ran.ensures.status in
    nothing_came _ _ _ _ _ c.no_lane_ran.ensures.no_lane.nothing (λ e. omega (arith, is, e)) (λ e. omega (arith, is, e)) (λ e. omega (arith, is, e))

pub returns-in-Err-BadLine-clause-run : goal.returns-in-Err-BadLine-clause-run
returns-in-Err-BadLine-clause-run g c =
    let asked = sym c.live_seed.ensures ∙ c.in-Some.is in
    let statuses = c.end_at_bad_line.ensures.statuses in
    let is : c.read_lanes.result ≡ Err (faults.BadLine c.in-Err-BadLine.line) = let a = c.in-Err-BadLine.is in let b = c.in-Err-BadLine.field-0-is in let d = c.in-Err-BadLine.line-is in cc in
    let bad = subst (λ (asked : Option (List ℕ)). IfSome (script_asked asked (g.S.Source.left c.args.source.now)) (λ text. (lane_script_of text).bad ≡ Some c.in-Err-BadLine.line)) (sym asked) (c.read_lanes.ensures.bad_line c.in-Err-BadLine.line is) in
    mark_came _ _ c.in-Err-BadLine.line _ _ _ _ c.end_at_bad_line.ensures.no_lane.nothing (λ e. omega (arith, statuses, e)) (λ e. omega (arith, statuses, e)) bad
    (subst (λ (line : ℕ). GivesFront (g.K.Sink.given c.args.sink.now.inner) (g.K.Sink.given c.end_at_bad_line.new.sink.inner) (mark_text line)) c.in-Err-BadLine.line-is c.end_at_bad_line.ensures.front)

pub returns-in-Err-Failed-clause-run : goal.returns-in-Err-Failed-clause-run
returns-in-Err-Failed-clause-run g c = let is = c.no_lane_ran-in-Err-Failed.ensures.status in
    nothing_came _ _ _ _ _ c.no_lane_ran-in-Err-Failed.ensures.no_lane.nothing (λ e. omega (arith, is, e)) (λ e. omega (arith, is, e)) (λ e. omega (arith, is, e))

pub returns-in-Err-NoMemory-clause-run : goal.returns-in-Err-NoMemory-clause-run
returns-in-Err-NoMemory-clause-run g c = let is = c.no_lane_ran-in-Err-NoMemory.ensures.status in
    nothing_came _ _ _ _ _ c.no_lane_ran-in-Err-NoMemory.ensures.no_lane.nothing (λ e. omega (arith, is, e)) (λ e. omega (arith, is, e)) (λ e. omega (arith, is, e))
