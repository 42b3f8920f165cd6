-- A line of a lane script read from left to right, word by word.
use Rattle.std.specs.Prelude.{Bool, List, None, Option, Some, [], bytes_eq, codes, drop, false, if◌then◌else◌, take, ℕ, ◌==◌, ◌∷◌}
use Rattle.std.specs.Option.{option_map}
use Rattle.pad_words.specs.declared.numbers.Session.{Session}
use Rattle.spelled_words.specs.Tables.{value_of}
use Rattle.script_lang.specs.declared.kinds.Line.{Line}
use Rattle.script_lang.specs.declared.kinds.Line.TheVariants as line
use Rattle.script_lang.specs.declared.kinds.QuestionVerb.{QuestionVerb}
use Rattle.script_lang.specs.declared.kinds.QuestionVerb.TheVariants as question_verb
use Rattle.script_lang.specs.declared.lane_kinds.LaneId.{LaneId}
use Rattle.script_lang.specs.declared.lane_kinds.LaneId.TheVariants as lane_id
use Rattle.script_lang.specs.declared.lane_kinds.LaneLine.{LaneLine}
use Rattle.script_lang.specs.declared.lane_kinds.LaneLine.TheVariants as lane_line
use Rattle.script_lang.specs.declared.lane_kinds.LaneStep.{LaneStep}
use Rattle.script_lang.specs.declared.lane_kinds.LaneStep.TheVariants as lane_step
use Rattle.script_lang.specs.declared.lane_kinds.LaneVerb.{LaneVerb}
use Rattle.script_lang.specs.declared.lane_kinds.LaneVerb.TheVariants as lane_verb
use Rattle.script_lang.specs.Memory.{ReadsBytes, step_holds_bytes}
use Rattle.script_lang.specs.Reading.{◌>>=◌, alone, ended, line_of, read_number, read_question_verb, read_session, with_field, word_len}
use Rattle.script_lang.specs.Spelling.{is_blank}
use Rattle.script_lang.specs.LaneSpelling.{is_plain, lane_verbs}

-- ---- fields

unfoldable pub read_lane_verb : List ℕ → Option LaneVerb
read_lane_verb = value_of lane_verbs

-- this mark, and a number from 1 to high behind it
unfoldable pub read_marked : ℕ → ℕ → List ℕ → Option ℕ
read_marked mark high [] = None
read_marked mark high (c ∷ digits) = if c == mark then read_number 1 high digits else None

-- `@` and the number of a lane
abbrev pub read_lane : List ℕ → Option ℕ
read_lane = read_marked 64 16

-- `#` and the number of a Submit
abbrev pub read_nth : List ℕ → Option ℕ
read_nth = read_marked 35 4294967295

-- `0`, or `#` and the number of a Submit
unfoldable pub read_lane_id : List ℕ → Option LaneId
read_lane_id word = if bytes_eq word (codes "0") then Some lane_id.Zero
    else option_map (λ k. lane_id.Nth k) (read_nth word)

-- `entry`, or a session
unfoldable pub read_awaited : List ℕ → Option (Option Session)
read_awaited word = if bytes_eq word (codes "entry") then Some None
    else option_map (λ s. Some s) (read_session word)

-- ---- rows

-- the number of a Submit behind `reply`, and no other question
abbrev pub reply_after : QuestionVerb → List ℕ → Option ℕ
reply_after question_verb.Reply = alone read_nth
reply_after other = λ bytes. None

unfoldable pub read_reply : List ℕ → Option ℕ
read_reply = with_field read_question_verb reply_after

unfoldable pub read_lane_cancel : List ℕ → Option LaneStep
read_lane_cancel =
    with_field read_session (λ s. with_field read_lane_id (λ id. ended (lane_step.Cancel s id)))

unfoldable pub read_lane_ask : List ℕ → Option LaneStep
read_lane_ask =
    with_field read_session (λ s bytes. option_map (λ (k : ℕ). lane_step.AskReply s k) (read_reply bytes))

-- what is awaited, behind `entry` or a session
abbrev pub await_after : Option Session → List ℕ → Option LaneStep
await_after None = ended lane_step.AwaitEntry
await_after (Some s) = λ bytes. option_map (λ (k : ℕ). lane_step.AwaitReply s k) (read_reply bytes)

unfoldable pub read_await : List ℕ → Option LaneStep
read_await = with_field read_awaited await_after

-- a step that stands in lane scripts alone, behind its first word
abbrev pub own_after : LaneVerb → List ℕ → Option LaneStep
own_after lane_verb.Cancel = read_lane_cancel
own_after lane_verb.Ask = read_lane_ask
own_after lane_verb.Await = read_await

unfoldable pub read_own_step : List ℕ → Option LaneStep
read_own_step = with_field read_lane_verb own_after

-- ---- lines

-- the step of a script's line, where lanes have it
abbrev pub plain_of : Line → Option LaneStep
plain_of (line.Do s) = if is_plain s then Some (lane_step.Plain s) else None
plain_of other = None

-- a line of a script that is a step which lanes have
abbrev pub read_plain : List ℕ → Option LaneStep
read_plain bytes = line_of bytes >>= plain_of

-- the first of two readings that is there
abbrev pub first_of : {A : Type 0} → Option A → Option A → Option A
first_of (Some x) other = Some x
first_of None other = other

-- the step behind the lane's word and a space: a line of a script, or a step that stands in lane scripts alone
unfoldable pub read_lane_step : List ℕ → Option LaneStep
read_lane_step [] = None
read_lane_step (b ∷ bs) = if b == 32 then first_of (read_plain bs) (read_own_step (b ∷ bs)) else None

-- the line of a lane script that these bytes spell, if there is one
unfoldable pub lane_line_of : List ℕ → Option LaneLine
lane_line_of bytes = if is_blank bytes then Some lane_line.Blank
    else read_lane (take (word_len bytes) bytes) >>= λ lane.
    option_map (λ (s : LaneStep). lane_line.At lane s) (read_lane_step (drop (word_len bytes) bytes))

-- ---- memory

-- the step submits a command that holds bytes
abbrev pub lane_step_holds_bytes : LaneStep → Bool
lane_step_holds_bytes (lane_step.Plain s) = step_holds_bytes s
lane_step_holds_bytes other = false

-- the line holds bytes, which take memory
abbrev pub lane_holds_bytes : LaneLine → Bool
lane_holds_bytes lane_line.Blank = false
lane_holds_bytes (lane_line.At lane s) = lane_step_holds_bytes s

-- want of memory is answered for a line that holds bytes, and for no bad line
abbrev pub WantsLaneMemory : Option LaneLine → Type 0
WantsLaneMemory read = ReadsBytes lane_holds_bytes read
