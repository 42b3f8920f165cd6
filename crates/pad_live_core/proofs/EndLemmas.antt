-- How a live run ends: runs in which nothing ran, and what is printed.
use Rattle.std.proofs.Common.{ap, append-nil, arith, length, map, refl, subst, suc, sym, inl, inr, ⊎_elim, List, [], ◌*◌, ◌+◌, ◌++◌, ◌∙◌, ◌∷◌, ◌≡◌, ◌≢◌, ◌≤◌, ◌⊎◌, ℕ}
use Rattle.std.proofs.Math.Seq.{take-length}
use Rattle.std.specs.Prelude.{All, Err, IfSome, IsOk, None, Ok, OnErr, OnOk, Option, Result, Some, take}
use Rattle.disk_core.specs.DiskStates.{DiskState}
use Rattle.disk_core.specs.Streams.{GivesFront, with_more}
use Rattle.flat_machine.specs.Machine.{Act, lines_from}
use Rattle.flat_machine.specs.Settings.{Setting}
use Rattle.flat_machine.specs.State.{Flat, opening}
use Rattle.flat_machine.specs.Twins.{Twins}
use Rattle.lane_scripts.specs.LaneScripts.{lane_script_of, lanes_of}
use Rattle.lane_scripts.specs.NextLines as read
use Rattle.pad_desk.specs.Histories.{DeskEntry, acts_of}
use Rattle.pad_desk.specs.Machines.{HistoryOnDisk, IsFreshDisk, zero_bytes}
use Rattle.pad_live_core.proofs.HistoryLemmas.{legal-text}
use Rattle.pad_live_core.specs.Bounds.{all_lines, all_submits, most_entries}
use Rattle.pad_live_core.specs.HistoryTexts.{history_text, live_rules, live_setting, run_text}
use Rattle.pad_live_core.specs.LaneEvents.{DeskView, LaneEvent}
use Rattle.pad_live_core.specs.LaneJobs.{AllFormed}
use Rattle.pad_live_core.specs.LiveHistories.{FollowsTo, HasLaneList, Lane, LaneRuns, LanesRun, LiveHistory, lists_of}
use Rattle.pad_live_core.specs.LiveRuns.{IsOfScript, IsRunOf, LiveRun, PrintsFront, PrintsWhole, ScriptRun, most_live_entries}
use Rattle.pad_live_core.specs.Shuffles.{Shuffle}
use Rattle.pad_live_core.specs.Stops.{AreFormed, IsFormedLine}
use Rattle.pad_live_core.specs.declared.stop.Stop.TheVariants as why
use Rattle.pad_live_core.specs.declared.stop.Stop.{Stop}
use Rattle.pin_blocks.specs.PinRules.{PinRules}
use Rattle.script_lang.specs.declared.lane_kinds.LaneStep.{LaneStep}
use Rattle.script_lang.specs.LaneSpelling.{IsFormedStep}
use Rattle.script_lang.specs.declared.lane_kinds.LaneStep.TheVariants as lane
use Rattle.transcript.specs.PrintedLines.{lines_text, mark_text}
use Rattle.transcript.specs.declared.printing.PrintFault.TheVariants as fault
use Rattle.transcript.specs.declared.printing.PrintFault.{PrintFault}
use Rattle.turnstile.specs.Numbers.{Each}
use Rattle.turnstile.specs.Rules.{first_view}

-- the lines that were read have their forms

formed_line : (line : LaneStep) → IsFormedStep line → IsFormedLine line
formed_line (lane.Plain step) formed = formed
formed_line (lane.Cancel session id) formed = tt
formed_line (lane.AskReply session k) formed = tt
formed_line lane.AwaitEntry formed = tt
formed_line (lane.AwaitReply session k) formed = tt

formed_lines : (lines : List LaneStep) → All IsFormedStep lines → AreFormed lines
formed_lines [] all = tt
formed_lines (line ∷ lines) all = (formed_line line (all 0 line (omega arith)), formed_lines lines (λ k d below. all (suc k) d (omega (arith, below))))

pub all_formed : (lanes : List (List LaneStep)) → read.AreFormed lanes → AllFormed lanes
all_formed [] all = tt
all_formed (lines ∷ lanes) all = (formed_lines lines (all 0 lines (omega arith)), all_formed lanes (λ k d below. all (suc k) d (omega (arith, below))))

-- a run in which nothing ran

memory_full : Some why.NoMemory ≡ Some why.Full → ⊥
memory_full e = cc

-- a lane with lines stopped before the first
abbrev stop_before : List LaneStep → Option Stop
stop_before [] = None
stop_before (line ∷ lines) = Some why.NoMemory

abbrev lane_before : List LaneStep → Lane
lane_before lines = record { lines = lines; stop = stop_before lines; view = first_view [] }

abbrev lanes_before : List (List LaneStep) → List Lane
lanes_before [] = []
lanes_before (lines ∷ others) = lane_before lines ∷ lanes_before others

abbrev no_events : List (List LaneStep) → List (List LaneEvent)
no_events [] = []
no_events (lines ∷ others) = [] ∷ no_events others

lines_before : (all : List (List LaneStep)) → map (λ (lane : Lane). lane.lines) (lanes_before all) ≡ all
lines_before [] = refl
lines_before (lines ∷ others) = ap (λ l. lines ∷ l) (lines_before others)

follows_none : (lines : List LaneStep) → FollowsTo lines (stop_before lines) []
follows_none [] = refl
follows_none (line ∷ lines) = record { done = []; line = line; rest = lines; cut = refl; events = []; now = []; follows = refl; breaks = inl refl; is = refl }

no_lane_list : (lines : List LaneStep) → HasLaneList lines (stop_before lines) []
no_lane_list [] = refl
no_lane_list (line ∷ lines) = record { done = []; rest = line ∷ lines; cut = refl; list = refl }

none_shuffled : (all : List (List LaneStep)) → Each (λ (list : List DeskEntry). list ≡ []) (lists_of (no_events all))
none_shuffled [] = tt
none_shuffled (lines ∷ others) = (refl, (refl, none_shuffled others))

not_full : (lines : List LaneStep) → stop_before lines ≡ Some why.Full → Some why.NoMemory ≡ Some why.Full
not_full [] e = absurd cc
not_full (line ∷ lines) e = e

none_full : (all : List (List LaneStep)) → Each (λ (lane : Lane). lane.stop ≡ Some why.Full → Some why.NoMemory ≡ Some why.Full) (lanes_before all)
none_full [] = tt
none_full (lines ∷ others) = (not_full lines, none_full others)

no_split : {A : Type 0} (front : List A) (x : A) (rest : List A) → [] ≡ front ++ x ∷ rest → ⊥
no_split [] x rest e = cc
no_split (y ∷ front) x rest e = cc

module _ (pin_rules : PinRules) where
  lanes_ran_none : (k : ℕ) (all : List (List LaneStep)) → LanesRun pin_rules [] k (lanes_before all) (no_events all)
  lanes_ran_none k [] = tt
  lanes_ran_none k (lines ∷ others) = (
    record {
      stands = record { placed = refl; rising = omega arith; passed = tt; polls = omega arith };
      follows = follows_none lines;
      polls = omega arith;
      list = no_lane_list lines;
    },
    lanes_ran_none (k + 1) others,
  )

  -- the empty history is that of lanes that stopped before their first lines
  pub nothing_ran : (lines : List (List LaneStep)) → LiveHistory pin_rules lines (Some why.NoMemory) []
  nothing_ran lines = record {
    log = [];
    bare = refl;
    legal = record { seed = tt; entries = tt };
    lanes = lanes_before lines;
    lines_are = lines_before lines;
    events = no_events lines;
    run = lanes_ran_none 1 lines;
    worked = λ front made rest cut by. absurd (no_split front made rest cut);
    work = [];
    work_is = refl;
    shuffle = (refl, none_shuffled lines);
    done = λ is. absurd cc;
    idle = λ is. absurd cc;
    full = λ is. absurd (memory_full is);
    met = none_full lines;
  }

-- a fresh disk is that of the empty history
none_on_images : (set : Setting) (disk : DiskState) → IsFreshDisk disk → HistoryOnDisk set [] disk
none_on_images set disk fresh = record {
  faults = let none = fresh.faults in omega (arith, none);
  cuts = let none = fresh.cuts in omega (arith, none);
  images = fresh.images;
  unread = λ _. fresh.images;
  shows = told disk.content (λ bytes image loaded. absurd cc);
  calm = told disk.content tt;
  good = told disk.content tt;
}
  where
    told : {A : Type 0} (o : Option A) {P : Type 0} → P → IfSome o (λ _. P)
    told None p = tt
    told (Some x) p = p

pub fresh_on_disk : (set : Setting) (history : List DeskEntry) (disk : DiskState) → history ≡ [] → IsFreshDisk disk → HistoryOnDisk set history disk
fresh_on_disk set history disk nothing fresh = subst (λ (h : List DeskEntry). HistoryOnDisk set h disk) (sym nothing) (none_on_images set disk fresh)

-- what is printed

-- twins have one text
abbrev pub TwinsPrintAlike : Type 0
TwinsPrintAlike = (set : Setting) (start : Flat) (first second : List Act) → Twins set start first second → lines_from set start second ≡ lines_from set start first

module _ (alike : TwinsPrintAlike) (seed : List ℕ) (history : List DeskEntry) (run : IsRunOf live_rules seed history) where
  text_is : history_text history ≡ run_text seed (acts_of history)
  text_is = legal-text (live_setting seed) opening history run.legal

  twin_text : (twin : List Act) → Twins (live_setting seed) opening (acts_of history) twin → history_text history ≡ run_text seed twin
  twin_text twin twins = text_is ∙ ap lines_text (sym (alike (live_setting seed) opening (acts_of history) twin twins))

  pub whole_printed : (given now : Option (List ℕ)) → now ≡ with_more given (history_text history) → PrintsWhole seed history given now
  whole_printed given now is = record {
    text = is ∙ ap (with_more given) text_is;
    twins = λ twin twins. is ∙ ap (with_more given) (twin_text twin twins);
  }

  pub front_printed : (given now : Option (List ℕ)) → GivesFront given now (history_text history) → PrintsFront seed history None given now
  front_printed given now front = record {
    text = subst (GivesFront given now) text_is front;
    twins = λ twin twins. subst (GivesFront given now) (twin_text twin twins) front;
  }

-- the whole is a front
pub whole_front : (given now : Option (List ℕ)) (text : List ℕ) → now ≡ with_more given text → GivesFront given now text
whole_front given now text is = (length text, omega arith, is ∙ ap (with_more given) (sym (take-length text)))

-- printed or not, a front of the text was given
pub printed_front : (printed : Result (Unit {0}) PrintFault) (given now : Option (List ℕ)) (text : List ℕ) → OnOk printed (now ≡ with_more given text) → OnErr printed (GivesFront given now text) → GivesFront given now text
printed_front (Ok done) given now text whole front = whole_front given now text whole
printed_front (Err fault) given now text whole front = front

pub if_printed : (printed : Result (Unit {0}) PrintFault) {P : Type 0} → IsOk printed → OnOk printed P → P
if_printed (Ok done) is holds = holds
if_printed (Err fault) is holds = absurd cc

-- where memory was there, the text was printed, or the sink failed
pub printed_or_failed : (printed : Result (Unit {0}) PrintFault) {P Q : Type 0} → printed ≢ Err fault.NoMemory → (printed ≡ Err fault.Failed → P) → OnOk printed Q → P ⊎ Q
printed_or_failed (Ok done) memory failed whole = inr whole
printed_or_failed (Err fault.Failed) memory failed whole = inl (failed refl)
printed_or_failed (Err fault.NoMemory) memory failed whole = absurd (memory refl)

-- nothing is a front of every text
no_front : (given : Option (List ℕ)) (text : List ℕ) → GivesFront given given text
no_front None text = (0, omega arith, refl)
no_front (Some bytes) text = (0, omega arith, ap (λ (all : List ℕ). Some all) (sym (append-nil bytes)))

-- what came of the lanes

-- the law of the bound
abbrev pub AreBounded : Type 0
AreBounded = (pin_rules : PinRules) (lines : List (List LaneStep)) (stop : Option Stop) (history : List DeskEntry) → LiveHistory pin_rules lines stop history → length history ≤ most_entries lines

sixteen_most : (lines : List (List LaneStep)) → length lines ≡ 16 → most_entries lines ≡ most_live_entries lines
sixteen_most lines sixteen = ap (λ n. 4 * all_lines lines + (2 * n + 2) * all_submits lines) sixteen

pub lanes_came : AreBounded → (seed : List ℕ) (lines : List (List LaneStep)) (stop : Option Stop) (status : ℕ) (history : List DeskEntry) (given now : Option (List ℕ)) → length lines ≡ 16 → LiveHistory live_rules lines stop history
    → (status ≡ 0 → stop ≡ None) → (status ≡ 4 → stop ≡ None) → (status ≡ 6 → stop ≡ Some why.Full) → (stop ≡ Some why.Full → (status ≡ 6) ⊎ (status ≡ 5)) → PrintsFront seed history None given now → LiveRun seed lines None status history given now
lanes_came bounded seed lines stop status history given now sixteen ran done unprinted full met_full front =
    let most : length history ≤ most_entries lines = bounded live_rules lines stop history ran in
    let same : most_entries lines ≡ most_live_entries lines = sixteen_most lines sixteen in record {
      stop = stop;
      ran = ran;
      done = done;
      unprinted = λ is _. unprinted is;
      full = full;
      met_full = met_full;
      bound = omega (arith, most, same);
      long = λ is. let long : length history ≡ 1048576 = ran.full (full is) in omega (arith, most, same, long);
      front = front;
    }

-- no lane ran, and the status is none at which lanes ran
no_lane_came : (seed : List ℕ) (lines : List (List LaneStep)) (bad : Option ℕ) (status : ℕ) (given now : Option (List ℕ)) → status ≢ 0 → status ≢ 6 → (status ≡ 4 → bad ≡ None → ⊥) → PrintsFront seed [] bad given now → LiveRun seed lines bad status [] given now
no_lane_came seed lines bad status given now unended unfilled marked front = record {
  stop = Some why.NoMemory;
  ran = nothing_ran live_rules lines;
  done = λ is. absurd (unended is);
  unprinted = λ is none. absurd (marked is none);
  full = λ is. absurd (unfilled is);
  met_full = λ is. absurd (memory_full is);
  bound = omega arith;
  long = λ is. absurd (unfilled is);
  front = front;
}

-- memory was wanting before a lane ran, and nothing was given
pub lanes_wanted : (seed : List ℕ) (lines : List (List LaneStep)) (status : ℕ) (history : List DeskEntry) (given : Option (List ℕ)) → history ≡ [] → status ≡ 5 → LiveRun seed lines None status history given given
lanes_wanted seed lines status history given nothing is = subst (λ (h : List DeskEntry). LiveRun seed lines None status h given given) (sym nothing)
    (no_lane_came seed lines None status given given (λ other. absurd (omega (arith, is, other))) (λ other. absurd (omega (arith, is, other))) (λ other _. absurd (omega (arith, is, other)))
    (record { text = no_front given (run_text seed []); twins = λ twin _. no_front given (run_text seed twin) }))

-- what came of the script

-- the lanes of a script that the source tells, and its bad line
abbrev lines_told : Option (List ℕ) → List (List LaneStep)
lines_told None = []
lines_told (Some script) = lanes_of (lane_script_of script).lines

abbrev bad_told : Option (List ℕ) → Option ℕ
bad_told None = None
bad_told (Some script) = (lane_script_of script).bad

are_told : (script : Option (List ℕ)) → IfSome script (λ text. IsOfScript text (lines_told script) (bad_told script))
are_told None = tt
are_told (Some script) = record { lines_are = refl; bad_is = refl }

bad_is_told : (script : Option (List ℕ)) (line : ℕ) → IfSome script (λ text. (lane_script_of text).bad ≡ Some line) → IfSome script (λ text. IsOfScript text (lines_told script) (Some line))
bad_is_told None line is = tt
bad_is_told (Some script) line is = record { lines_are = refl; bad_is = sym is }

good_is_told : (script : Option (List ℕ)) (lanes : List (List LaneStep)) → IfSome script (λ text. (lane_script_of text).bad ≡ None) → IfSome script (λ text. lanes ≡ lanes_of (lane_script_of text).lines) → IfSome script (λ text. IsOfScript text lanes None)
good_is_told None lanes good are = tt
good_is_told (Some script) lanes good are = record { lines_are = are; bad_is = sym good }

-- no lane ran, and nothing was given
pub nothing_came : (seed : List ℕ) (script : Option (List ℕ)) (status : ℕ) (history : List DeskEntry) (given : Option (List ℕ)) → history ≡ [] → status ≢ 0 → status ≢ 4 → status ≢ 6 → ScriptRun seed script status history given given
nothing_came seed script status history given nothing unended untold unfilled = subst (λ (h : List DeskEntry). ScriptRun seed script status h given given) (sym nothing) record {
  lines = lines_told script;
  bad = bad_told script;
  of_script = are_told script;
  run = no_lane_came seed (lines_told script) (bad_told script) status given given unended unfilled (λ is _. untold is) (record { text = no_front given _; twins = λ twin _. no_front given _ });
}

-- a line was bad, and a front of its mark was given
pub mark_came : (seed : List ℕ) (script : Option (List ℕ)) (line status : ℕ) (history : List DeskEntry) (given now : Option (List ℕ)) → history ≡ [] → status ≢ 0 → status ≢ 6 → IfSome script (λ text. (lane_script_of text).bad ≡ Some line) → GivesFront given now (mark_text line) → ScriptRun seed script status history given now
mark_came seed script line status history given now nothing unended unfilled bad front = subst (λ (h : List DeskEntry). ScriptRun seed script status h given now) (sym nothing) record {
  lines = lines_told script;
  bad = Some line;
  of_script = bad_is_told script line bad;
  run = no_lane_came seed (lines_told script) (Some line) status given now unended unfilled (λ is none. absurd cc) (record { text = front; twins = λ twin _. front });
}

-- the lanes of the script ran
pub script_came : (seed : List ℕ) (script : Option (List ℕ)) (lanes : List (List LaneStep)) (status : ℕ) (history : List DeskEntry) (given now : Option (List ℕ)) → IfSome script (λ text. (lane_script_of text).bad ≡ None) → IfSome script (λ text. lanes ≡ lanes_of (lane_script_of text).lines) → LiveRun seed lanes None status history given now → ScriptRun seed script status history given now
script_came seed script lanes status history given now good are run = record { lines = lanes; bad = None; of_script = good_is_told script lanes good are; run = run }
