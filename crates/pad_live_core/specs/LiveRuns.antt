-- What a live run comes to: its history, and what is printed of it.
use Rattle.disk_core.specs.Streams.{GivesFront, with_more}
use Rattle.flat_machine.specs.Machine.{Act}
use Rattle.flat_machine.specs.State.{opening}
use Rattle.flat_machine.specs.Twins.{Twins}
use Rattle.lane_scripts.specs.LaneScripts.{lane_script_of, lanes_of}
use Rattle.pad_desk.specs.Histories.{DeskEntry, HasSeed, LegalFrom, acts_of}
use Rattle.pad_live_core.specs.Bounds.{all_lines, all_submits}
use Rattle.pad_live_core.specs.HistoryTexts.{live_rules, live_setting, run_text}
use Rattle.pad_live_core.specs.LiveHistories.{LiveHistory}
use Rattle.pad_live_core.specs.declared.stop.Stop.TheVariants as why
use Rattle.pad_live_core.specs.declared.stop.Stop.{Stop}
use Rattle.pad_machine.specs.Stands.{set_by}
use Rattle.pin_blocks.specs.PinRules.{PinRules}
use Rattle.script_lang.specs.declared.lane_kinds.LaneStep.{LaneStep}
use Rattle.std.specs.Prelude.{IfSome, List, None, Option, Some, [], length, ℕ, ◌*◌, ◌+◌, ◌≡◌, ◌≢◌, ◌≤◌, ◌⊎◌}
use Rattle.transcript.specs.PrintedLines.{mark_text}

-- the history is of a run of this seed: each entry tells it, and is what the machine says after the entries before it
pub record IsRunOf (pin_rules : PinRules) (seed : List ℕ) (history : List DeskEntry) : Type 0 where
  pub seeds : HasSeed seed history
  pub legal : LegalFrom (set_by pin_rules seed) opening history

-- no lane ran: the history is empty, and the disk comes back as it was
pub record RanNoLane {D : Type 0} (history : List DeskEntry) (before : D) (after : Option D) : Type 0 where
  pub nothing : history ≡ []
  pub untouched : after ≡ Some before

-- no lane runs at a bad line, at words that are no form, and where the source failed
abbrev pub RunsNoLane : ℕ → Type 0
RunsNoLane status = (status ≡ 1) ⊎ ((status ≡ 2) ⊎ (status ≡ 3))

-- the lanes ran: they did all their lines, or a call met a full history, or the history has an entry
abbrev pub RanLanes : ℕ → List DeskEntry → Type 0
RanLanes status history = (status ≡ 0) ⊎ ((status ≡ 6) ⊎ (history ≢ []))

-- the lines of the sixteen lanes, and the number of the first bad line if there is one, are those of the script
pub record IsOfScript (script : List ℕ) (lines : List (List LaneStep)) (bad : Option ℕ) : Type 0 where
  pub lines_are : lines ≡ lanes_of (lane_script_of script).lines
  pub bad_is : bad ≡ (lane_script_of script).bad

-- four entries for each line of a lane, and 34 for each Submit among them
abbrev pub most_live_entries : List (List LaneStep) → ℕ
most_live_entries lines = 4 * all_lines lines + 34 * all_submits lines

-- what is to be printed: the text; or the mark of the bad line alone
abbrev pub text_due : Option ℕ → List ℕ → List ℕ
text_due None text = text
text_due (Some line) text = mark_text line

module _ (seed : List ℕ) (history : List DeskEntry) where
  -- the text of the history was given, which is the text of each of its twins
  pub record PrintsWhole (given now : Option (List ℕ)) : Type 0 where
    pub text : now ≡ with_more given (run_text seed (acts_of history))
    pub twins : (twin : List Act) → Twins (live_setting seed) opening (acts_of history) twin
        → now ≡ with_more given (run_text seed twin)

  -- a front of what is to be printed was given, which is so of each twin of the history
  pub record PrintsFront (bad : Option ℕ) (given now : Option (List ℕ)) : Type 0 where
    pub text : GivesFront given now (text_due bad (run_text seed (acts_of history)))
    pub twins : (twin : List Act) → Twins (live_setting seed) opening (acts_of history) twin
        → GivesFront given now (text_due bad (run_text seed twin))

-- what came of these lanes, and of a bad line if there is one, by the status
pub record LiveRun (seed : List ℕ) (lines : List (List LaneStep)) (bad : Option ℕ) (status : ℕ) (history : List DeskEntry) (given now : Option (List ℕ)) : Type 0 where
  -- the history is that of the lanes, which stopped early for this reason, if they did
  pub stop : Option Stop
  pub ran : LiveHistory live_rules lines stop history
  -- at 0, and at 4 where no line is bad, nothing stopped: each lane did all its lines, and no work is due
  pub done : status ≡ 0 → stop ≡ None
  pub unprinted : status ≡ 4 → bad ≡ None → stop ≡ None
  -- 6 is exactly where a call met a full history, unless memory was wanting
  pub full : status ≡ 6 → stop ≡ Some why.Full
  pub met_full : stop ≡ Some why.Full → (status ≡ 6) ⊎ (status ≡ 5)
  -- so it needs so many lines
  pub bound : length history ≤ most_live_entries lines
  pub long : status ≡ 6 → 1048576 ≤ most_live_entries lines
  -- in every status
  pub front : PrintsFront seed history bad given now

-- what came of the script, which is this one where its source tells it
pub record ScriptRun (seed : List ℕ) (script : Option (List ℕ)) (status : ℕ) (history : List DeskEntry) (given now : Option (List ℕ)) : Type 0 where
  pub lines : List (List LaneStep)
  pub bad : Option ℕ
  pub of_script : IfSome script (λ text. IsOfScript text lines bad)
  pub run : LiveRun seed lines bad status history given now
