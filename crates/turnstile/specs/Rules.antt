-- The rule of the turn's table, and what each step tells. Word 0 counts the tickets drawn, word 1 the turns served, and word 2, the board, shows the length of the history (times 2^43) and the status after it.
use Rattle.std.specs.Prelude.{◌≡◌, ◌≢◌, ℕ, ◌+◌, ◌*◌, ◌^◌, ◌<◌, ◌≤◌, Bool, true, false, List, [], ◌∷◌, ◌++◌, map, take, length, cond, nat_lt, slice_index, Option, Some}
use mathlib.Core.Option.{some}
use mathlib.Core.Option as maybe
use lib.ListN.{get_elem?}
use Rattle.atomic_table.specs.Table.{State, Me, Step}
use Rattle.turnstile.specs.declared.machine.Entry.{Entry}
use Rattle.turnstile.specs.declared.held.Held.{Held}
use Rattle.turnstile.specs.declared.view.MadeEntry.{MadeEntry}
use Rattle.turnstile.specs.declared.view.PassView.{PassView}
use Rattle.turnstile.specs.declared.view.KnownPass.{KnownPass}
use Rattle.turnstile.specs.Numbers.{Each, NumbersDiffer, TellsPasses, RanksCounted, PassHolds}
use Rattle.turnstile.specs.declared.view.Stage.{Stage}
use Rattle.turnstile.specs.declared.view.Stage.TheVariants.{Idle, Waiting, Served, Spent}

-- each note is of a length of at most n
abbrev pub NotesWithin : ℕ → List (ℕ × ℕ) → Type 0
NotesWithin n = Each (λ (note : ℕ × ℕ). note.0 ≤ n)

-- the passes that a seat knows: its own and those that were joined into it; none once it is spent
abbrev pub known_passes : Stage → KnownPass → List KnownPass → List KnownPass
known_passes Idle p ps = p ∷ ps
known_passes (Waiting t) p ps = p ∷ ps
known_passes Served p ps = p ∷ ps
known_passes Spent p ps = []

module _ {O R : Type 0} where
  -- an entry without the number of its maker
  abbrev pub entry_in : MadeEntry O R → Entry O R
  entry_in m = record { op = m.op; outcome = m.outcome }

  -- the history without the numbers
  abbrev pub entries_of : List (MadeEntry O R) → List (Entry O R)
  entries_of log = map entry_in log

  -- an entry of the pass with this number
  abbrev pub made_by : List ℕ → Entry O R → MadeEntry O R
  made_by by e = record { op = e.op; outcome = e.outcome; by = by }

  -- the second history is a beginning of the first
  abbrev pub StartsWith : List (MadeEntry O R) → List (MadeEntry O R) → Type 0
  StartsWith log seen = (rest : List (MadeEntry O R)) × (log ≡ seen ++ rest)

  -- a note is a length and the status after that many entries
  abbrev pub IsTrueNote : (List (Entry O R) → ℕ) → List (MadeEntry O R) → ℕ × ℕ → Type 0
  IsTrueNote status log note = (note.0 ≤ length log) × (note.1 ≡ status (entries_of (take note.0 log)))

  -- every note is true of the history
  abbrev pub NotesTrue : (List (Entry O R) → ℕ) → List (MadeEntry O R) → List (ℕ × ℕ) → Type 0
  NotesTrue status log = Each (IsTrueNote status log)

  -- the first pass of a machine of this origin: its number is empty, and so is all that it knows
  abbrev pub first_view : List ℕ → PassView O R
  first_view origin = record { stage = Idle; number = []; seated = 0; mine = []; seen = []; told = []; notes = []; ended = []; origin = origin }

  -- what is left of a pass that was joined into another
  abbrev pub spent_view : PassView O R
  spent_view = record { stage = Spent; number = []; seated = 0; mine = []; seen = []; told = []; notes = []; ended = []; origin = [] }

  -- a pass as others know it
  abbrev pub known_self : PassView O R → KnownPass
  known_self v = record { number = v.number; seated = v.seated; mine = v.mine }

  -- the view after an entry of its own
  abbrev pub grown : PassView O R → Entry O R → PassView O R
  grown v e = record v { seen = v.seen ++ made_by v.number e ∷ []; mine = v.mine ++ length v.seen ∷ [] }

  -- the pass itself, and those that were joined into it
  abbrev pub passes_known : PassView O R → List KnownPass
  passes_known v = known_self v ∷ v.ended

  -- the pass after it seated one more
  abbrev pub with_new_seat : PassView O R → PassView O R
  with_new_seat v = record v { seated = v.seated + 1 }

  -- the new pass: its number is its maker's, followed by its rank; it has seen what its maker has, and made nothing
  abbrev pub new_seat : PassView O R → PassView O R
  new_seat v = record { stage = Idle; number = v.number ++ v.seated ∷ []; seated = 0; mine = []; seen = v.seen; told = []; notes = []; ended = []; origin = v.origin }

  -- the longer of two histories
  abbrev pub longer : List (MadeEntry O R) → List (MadeEntry O R) → List (MadeEntry O R)
  longer xs ys = cond (nat_lt (length xs) (length ys)) ys xs

  -- the pass after another was joined into it: what that one had seen is told, and its notes and all passes that it knew are put behind
  abbrev pub joined : PassView O R → PassView O R → PassView O R
  joined v w = record v { told = w.seen; notes = v.notes ++ w.notes; ended = v.ended ++ passes_known w }

  -- the longer of what was seen and told is seen, and begins with both
  abbrev pub Settled : PassView O R → PassView O R → Type 0
  Settled v w = (w ≡ record v { seen = longer v.seen v.told; told = [] }) × StartsWith w.seen v.seen × StartsWith w.seen v.told

  module _ (drawn turn : ℕ) (out : Bool) (log : List (MadeEntry O R)) (owner : ℕ → ℕ) (j : ℕ) (seen : List (MadeEntry O R)) where
    -- what the rule has of a seat at this stage: a ticket that waits is drawn, not yet served and the seat's own; the served one has the slot, and has seen all
    abbrev pub StageHolds : Stage → Type 0
    StageHolds Idle = Unit {0}
    StageHolds (Waiting t) = (turn ≤ t) × (t < drawn) × (owner t ≡ j) × (t ≡ turn → out ≡ false)
    StageHolds Served = (turn < drawn) × (owner turn ≡ j) × (out ≡ true) × (seen ≡ log)
    StageHolds Spent = Unit {0}

-- the pass knows the machine's origin, until it is spent
abbrev pub KnowsOrigin : List ℕ → Stage → List ℕ → Type 0
KnowsOrigin origin Idle known = known ≡ origin
KnowsOrigin origin (Waiting t) known = known ≡ origin
KnowsOrigin origin Served known = known ≡ origin
KnowsOrigin origin Spent known = Unit {0}

-- what the rule has of each seat: its stage; what it has seen and was told are beginnings of the history; its notes are true; the numbers that it knows differ, and of each the rule has `PassHolds`; and it knows the machine's origin
pub record SeatHolds {O R : Type 0} (origin : List ℕ) (status : List (Entry O R) → ℕ) (drawn turn : ℕ) (out : Bool) (log : List (MadeEntry O R)) (owner : ℕ → ℕ) (keeper count : List ℕ → ℕ) (j : ℕ) (d : PassView O R) : Type 0 where
  pub stage : StageHolds drawn turn out log owner j d.seen d.stage
  pub seen : StartsWith log d.seen
  pub told : StartsWith log d.told
  pub notes : NotesTrue status log d.notes
  pub differ : NumbersDiffer (known_passes d.stage (known_self d) d.ended)
  pub known : Each (PassHolds keeper count log j) (known_passes d.stage (known_self d) d.ended)
  pub origin_known : KnowsOrigin origin d.stage d.origin

-- the machine is of this origin, and stands for the history
abbrev pub StandsFrom : {X O R : Type 0} → (X → List (Entry O R) → Type 0) → (X → List ℕ) → List ℕ → X → List (Entry O R) → Type 0
StandsFrom stands origin_of origin machine history = stands machine history × (origin_of machine ≡ origin)

module _ {X O R : Type 0} (stands : X → List (Entry O R) → Type 0) where
  -- what lies in the slot stands for the history, and has it
  abbrev pub StandsWith : Held X O R → List (MadeEntry O R) → Type 0
  StandsWith h log = (h.history.items ≡ entries_of log) × stands h.machine (entries_of log)

  -- the slot is at home, with the machine and the history
  abbrev pub IsAtHome : List (maybe.Option (Option (Held X O R))) → List (MadeEntry O R) → Type 0
  IsAtHome homes log = (h : Held X O R) × (get_elem? homes 0 ≡ some (some (Some h))) × StandsWith h log

module _ {X O R : Type 0} (origin : List ℕ) (stands : X → List (Entry O R) → Type 0) (status : List (Entry O R) → ℕ) where
  -- the rule of the table, of a machine of this origin. `owner` says which seat has a ticket, `keeper` which seat knows a number, `count` how many passes a number has seated. The words are the tickets drawn, the turns served, and the board; the slot is at home unless the served seat has it
  pub record TurnRule (legal : List (Entry O R) → Type 0) (s : State (Option (Held X O R)) (PassView O R)) : Type 0 where
    pub drawn : ℕ
    pub turn : ℕ
    pub out : Bool
    pub log : List (MadeEntry O R)
    pub owner : ℕ → ℕ
    pub keeper : List ℕ → ℕ
    pub count : List ℕ → ℕ
    pub wide : length s.words ≡ 3
    pub single : length s.homes ≡ 1
    pub drawn_is : slice_index s.words 0 ≡ drawn
    pub turn_is : slice_index s.words 1 ≡ turn
    pub board_is : slice_index s.words 2 ≡ length log * 2 ^ 43 + status (entries_of log)
    pub bounded : drawn < 2 ^ 64
    pub behind : turn ≤ drawn
    pub short : length log ≤ 1048576
    pub low : status (entries_of log) < 2 ^ 43
    pub lawful : legal (entries_of log)
    pub busy : out ≡ true → turn < drawn
    pub home : out ≡ false → IsAtHome stands s.homes log
    pub numbered : Each (λ (m : MadeEntry O R). RanksCounted count m.by) log
    pub each_seat : (j : ℕ) (d : PassView O R) → get_elem? s.views j ≡ some d → SeatHolds origin status drawn turn out log owner keeper count j d

-- a seat at a step: what is seen of it, and the slots that it has
abbrev pub SeatState : Type 0 → Type 0 → Type 0 → Type 0
SeatState X O R = Me (Option (Held X O R)) (PassView O R)

-- a step on a word of the table
abbrev pub TableStep : Type 0 → Type 0 → Type 0 → Type 0
TableStep X O R = Step (Option (Held X O R))

module _ {X O R : Type 0} where
  -- a try that hits gives the ticket
  abbrev pub drew : TableStep X O R → SeatState X O R → ℕ → SeatState X O R → Type 0
  drew st m r m' = (r ≡ st.first → m' ≡ (record m.0 { stage = Waiting r }, m.1)) × (r ≢ st.first → m' ≡ m)

  -- the turn has come, and the slot is out with the seat
  pub record GotTurn (stands : X → List (Entry O R) → Type 0) (legal : List (Entry O R) → Type 0) (status : List (Entry O R) → ℕ) (m m' : SeatState X O R) : Type 0 where
    pub held : Held X O R
    pub slot : m'.1 ≡ (0, Some held) ∷ m.1
    pub fits : StandsWith stands held m'.0.seen
    pub served : m'.0 ≡ record m.0 { stage = Served; seen = m'.0.seen }
    pub later : StartsWith m'.0.seen m.0.seen
    pub short : length m'.0.seen ≤ 1048576
    pub lawful : legal (entries_of m'.0.seen)
    pub notes : NotesTrue status m'.0.seen m.0.notes
    pub known : TellsPasses m'.0.seen (passes_known m.0)

  -- a look at the served turn: where it is the ticket's, the turn has come, with the machine of the pass's origin
  abbrev pub looked : (List ℕ → X → List (Entry O R) → Type 0) → (List (Entry O R) → Type 0) → (List (Entry O R) → ℕ) → TableStep X O R → SeatState X O R → ℕ → SeatState X O R → Type 0
  looked stands legal status st m r m' = (m.0.stage ≡ Waiting r → GotTurn (stands m.0.origin) legal status m m') × (m.0.stage ≢ Waiting r → m' ≡ m)

  -- the history has the slot's last entry, under the pass's number
  abbrev pub Posted : SeatState X O R → SeatState X O R → Type 0
  Posted m m' = (h : Held X O R) (e : Entry O R) → m.1 ≡ (0, Some h) ∷ [] → h.history.items ≡ entries_of m.0.seen ++ e ∷ []
      → (m' ≡ (grown m.0 e, m.1)) × TellsPasses m'.0.seen (passes_known m'.0)

  -- the board is stored
  abbrev pub posted : TableStep X O R → SeatState X O R → ℕ → SeatState X O R → Type 0
  posted st m r m' = Posted m m'

  -- the turn is over: the seat has neither ticket nor slot
  abbrev pub advanced : TableStep X O R → SeatState X O R → ℕ → SeatState X O R → Type 0
  advanced st m r m' = m' ≡ (record m.0 { stage = Idle }, [])

  -- what was told is compared with what was seen
  abbrev pub settled : TableStep X O R → SeatState X O R → ℕ → SeatState X O R → Type 0
  settled st m r m' = (m'.1 ≡ m.1) × Settled m.0 m'.0

  -- the note that a glance gives
  abbrev pub glanced : (List (Entry O R) → ℕ) → TableStep X O R → SeatState X O R → ℕ → SeatState X O R → Type 0
  glanced status st m r m' = (n s : ℕ) × (r ≡ n * 2 ^ 43 + s) × (s < 2 ^ 43) × (n ≤ 1048576) × (length m.0.seen ≤ n) × NotesWithin n m.0.notes × (m' ≡ (record m.0 { notes = m.0.notes ++ (n, s) ∷ [] }, m.1))

  -- the pass has the turn, and the slot with the machine
  pub record Begun (stands : X → List (Entry O R) → Type 0) (legal : List (Entry O R) → Type 0) (status : List (Entry O R) → ℕ) (v : PassView O R) (m : SeatState X O R) : Type 0 where
    pub held : Held X O R
    pub begun : m ≡ (record v { stage = Served; seen = m.0.seen }, (0, Some held) ∷ [])
    pub fits : StandsWith stands held m.0.seen
    pub later : StartsWith m.0.seen v.seen
    pub short : length m.0.seen ≤ 1048576
    pub lawful : legal (entries_of m.0.seen)
    pub notes : NotesTrue status m.0.seen v.notes
    pub known : TellsPasses m.0.seen (passes_known v)

  -- the slot that the seat has holds a machine with this history
  abbrev pub Carries : (X → List (Entry O R) → Type 0) → SeatState X O R → List (Entry O R) → Type 0
  Carries stands m history = (h : Held X O R) × (m.1 ≡ (0, Some h) ∷ []) × (h.history.items ≡ history) × stands h.machine history
