-- The words of each line of a lane script.
use Rattle.std.specs.Prelude.{Bool, IsTrue, List, None, Option, Some, [], codes, false, nat_le, true, ℕ, ◌&&◌, ◌≤◌, ◌∷◌}
use Rattle.std.specs.Fmt.{decimal}
use denote.Enum.Bare.{sameb}
use Rattle.pad_words.specs.declared.numbers.Session.{Session}
use Rattle.pad_steps.specs.declared.steps.Question.{Question}
use Rattle.pad_steps.specs.declared.steps.Question.TheVariants as question
use Rattle.pad_steps.specs.declared.steps.Step.{Step}
use Rattle.pad_steps.specs.declared.steps.Step.TheVariants as step
use Rattle.pad_steps.specs.Formed.{is_well_formed}
use Rattle.spelled_words.specs.Tables.{word_of}
use Rattle.script_lang.specs.contracts.lane_kinds.LaneVerb.{the_type as lane_verb_type}
use Rattle.script_lang.specs.declared.kinds.QuestionVerb.TheVariants as question_verb
use Rattle.script_lang.specs.declared.lane_kinds.LaneId.{LaneId}
use Rattle.script_lang.specs.declared.lane_kinds.LaneId.TheVariants as lane_id
use Rattle.script_lang.specs.declared.lane_kinds.LaneLine.{LaneLine}
use Rattle.script_lang.specs.declared.lane_kinds.LaneLine.TheVariants as lane_line
use Rattle.script_lang.specs.declared.lane_kinds.LaneStep.{LaneStep}
use Rattle.script_lang.specs.declared.lane_kinds.LaneStep.TheVariants as lane_step
use Rattle.script_lang.specs.declared.lane_kinds.LaneVerb.{LaneVerb}
use Rattle.script_lang.specs.declared.lane_kinds.LaneVerb.TheVariants as lane_verb
use Rattle.script_lang.specs.Words.{Exact, Says, Word}
use Rattle.script_lang.specs.Spelling.{is_blank, question_verb_word, session_word, step_words}

-- the first words of the steps that stand in lane scripts alone
abbrev pub lane_verbs : List (LaneVerb × List ℕ)
lane_verbs =
    (lane_verb.Cancel, codes "cancel") ∷
    (lane_verb.Ask, codes "ask") ∷
    (lane_verb.Await, codes "await") ∷ []

unfoldable pub lane_verb_text : LaneVerb → List ℕ
lane_verb_text = word_of (sameb lane_verb_type) lane_verbs

abbrev pub lane_verb_word : LaneVerb → Word
lane_verb_word verb = Exact (lane_verb_text verb)

-- a mark, and decimal digits without a leading zero
abbrev pub marked_word : ℕ → ℕ → Word
marked_word mark n = Exact (mark ∷ decimal n)

-- `@` and the number of a lane
abbrev pub lane_word : ℕ → Word
lane_word = marked_word 64

-- `#` and the number of one of the lane's Submits, for the id of its request
abbrev pub nth_word : ℕ → Word
nth_word = marked_word 35

-- `0` for every request, or one
abbrev pub lane_id_word : LaneId → Word
lane_id_word lane_id.Zero = Exact (codes "0")
lane_id_word (lane_id.Nth k) = nth_word k

-- the session whose reply is awaited, or `entry` where there is none
abbrev pub awaited_word : Option Session → Word
awaited_word None = Exact (codes "entry")
awaited_word (Some s) = session_word s

-- the reply to one of the lane's Submits
abbrev pub reply_words : ℕ → List Word
reply_words k = question_verb_word question_verb.Reply ∷ nth_word k ∷ []

-- a step as scripts spell it, or one that stands in lane scripts alone
abbrev pub lane_step_words : LaneStep → List Word
lane_step_words (lane_step.Plain s) = step_words s
lane_step_words (lane_step.Cancel s id) =
    lane_verb_word lane_verb.Cancel ∷ session_word s ∷ lane_id_word id ∷ []
lane_step_words (lane_step.AskReply s k) =
    lane_verb_word lane_verb.Ask ∷ session_word s ∷ reply_words k
lane_step_words lane_step.AwaitEntry = lane_verb_word lane_verb.Await ∷ awaited_word None ∷ []
lane_step_words (lane_step.AwaitReply s k) =
    lane_verb_word lane_verb.Await ∷ awaited_word (Some s) ∷ reply_words k

-- the lane, and its step
abbrev pub lane_line_words : LaneLine → List Word
lane_line_words lane_line.Blank = []
lane_line_words (lane_line.At lane s) = lane_word lane ∷ lane_step_words s

-- all but the question of a reply, which names an id
abbrev pub has_no_id : Question → Bool
has_no_id (question.Reply id) = false
has_no_id other = true

-- a lane spells this step as a script does: it neither begins nor finishes a request, and names no id
abbrev pub is_plain : Step → Bool
is_plain step.Begin = false
is_plain step.Finish = false
is_plain (step.Cancel s id) = false
is_plain (step.Ask s asked) = has_no_id asked
is_plain other = true

-- a number from 1 to this one
abbrev pub is_counted : ℕ → ℕ → Bool
is_counted high n = nat_le 1 n && nat_le n high

-- the number of one of the lane's Submits
abbrev pub is_nth : ℕ → Bool
is_nth = is_counted 4294967295

abbrev pub is_lane_id : LaneId → Bool
is_lane_id lane_id.Zero = true
is_lane_id (lane_id.Nth k) = is_nth k

-- a step that lines of a lane script spell
abbrev pub is_lane_step : LaneStep → Bool
is_lane_step (lane_step.Plain s) = is_well_formed s && is_plain s
is_lane_step (lane_step.Cancel s id) = is_lane_id id
is_lane_step (lane_step.AskReply s k) = is_nth k
is_lane_step lane_step.AwaitEntry = true
is_lane_step (lane_step.AwaitReply s k) = is_nth k

-- the number of a lane
abbrev pub is_lane : ℕ → Bool
is_lane = is_counted 16

-- nothing, or a step of one of the sixteen lanes
abbrev pub is_lane_line : LaneLine → Bool
is_lane_line lane_line.Blank = true
is_lane_line (lane_line.At lane s) = is_lane lane && is_lane_step s

-- the bytes are the line's words with one space between two, and nothing else; any comment of at most
-- 4,096 bytes is a blank line, and lines of other kinds are shorter
abbrev pub LaneLineSays : List ℕ → LaneLine → Type 0
LaneLineSays bytes lane_line.Blank = IsTrue (is_blank bytes)
LaneLineSays bytes other = Says (32 ∷ bytes) (lane_line_words other)

-- the bytes, without their line feed, spell this line of a lane script
abbrev pub SpellsLane : List ℕ → LaneLine → Type 0
SpellsLane bytes l = IsTrue (is_lane_line l) × LaneLineSays bytes l

-- ---- what a line that is spelled gives

-- the lane is one of the sixteen
abbrev pub HasLane : LaneLine → Type 0
HasLane lane_line.Blank = Unit {0}
HasLane (lane_line.At lane s) = (1 ≤ lane) × (lane ≤ 16)

-- a step of a script is well formed
abbrev pub IsFormedStep : LaneStep → Type 0
IsFormedStep (lane_step.Plain s) = IsTrue (is_well_formed s)
IsFormedStep other = Unit {0}

abbrev pub HasFormedStep : LaneLine → Type 0
HasFormedStep lane_line.Blank = Unit {0}
HasFormedStep (lane_line.At lane s) = IsFormedStep s
