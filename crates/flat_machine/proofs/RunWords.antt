-- Words to write runs with, for the runs that are computed in the files beside this one.
use Rattle.pad_words.specs.Bytes.{zero_block}
use Rattle.flat_machine.specs.Ciphers.{Ciphers}
use Rattle.flat_machine.specs.Facts.{outs_of}
use Rattle.flat_machine.specs.Machine.{Act, fits, lines_from, next, run}
use Rattle.local_check.specs.StandardWork.{standard_rules}
use Rattle.flat_machine.specs.State.{Flat, opening}
use Rattle.flat_machine.specs.Settings.{Setting}
use Rattle.pad_steps.specs.Lines.{Line}
use Rattle.pad_steps.specs.declared.answers.Out.{Out}
use Rattle.pad_steps.specs.declared.answers.Reply.{Reply}
use Rattle.pad_steps.specs.declared.commands.Command.{Command}
use Rattle.pad_steps.specs.declared.steps.DiskWord.{DiskWord}
use Rattle.pad_steps.specs.declared.steps.Fate.{Fate}
use Rattle.pad_steps.specs.declared.steps.Step.{Step}
use Rattle.pad_words.specs.Numbers.{is_session}
use Rattle.pad_words.specs.declared.numbers.Session.{Session}
use Rattle.std.specs.Prelude.{Bool, List, None, Option, Some, [], bytes_eq, filter_map, if◌then◌else◌, refl, true, ℕ, ◌&&◌, ◌++◌, ◌∷◌}
use Rattle.pad_steps.specs.declared.answers.Out.TheVariants as out
use Rattle.pad_steps.specs.declared.answers.Reply.TheVariants as reply
use Rattle.pad_steps.specs.declared.steps.DiskWord.TheVariants as word
use Rattle.pad_steps.specs.declared.steps.Step.TheVariants as step

abbrev pub session_1 : Session
session_1 = record { number = 1; valid = is_session 1 refl }

abbrev pub session_2 : Session
session_2 = record { number = 2; valid = is_session 2 refl }

-- the zero block encrypted under the key of zeros
abbrev pub zero_encrypted : List ℕ
zero_encrypted = 0x8C ∷ 0xA6 ∷ 0x4D ∷ 0xE9 ∷ 0xC1 ∷ 0xB1 ∷ 0x23 ∷ 0xA7 ∷ []

-- the key 0123456789ABCDEF
abbrev pub counting_key : List ℕ
counting_key = 0x01 ∷ 0x23 ∷ 0x45 ∷ 0x67 ∷ 0x89 ∷ 0xAB ∷ 0xCD ∷ 0xEF ∷ []

-- the values of the cipher that are used, as FIPS 46-3 gives them: the zero block under the key of zeros, and under 0123456789ABCDEF. Other blocks stay as they are
abbrev pub known_values : List ℕ → List ℕ → List ℕ
known_values key block = if bytes_eq key zero_block && bytes_eq block zero_block then zero_encrypted
    else (if bytes_eq key counting_key && bytes_eq block zero_block then 0xD5 ∷ 0xD4 ∷ 0x4F ∷ 0xF7 ∷ 0x20 ∷ 0x68 ∷ 0x3D ∷ 0x0D ∷ [] else block)

-- the inverse at these values
abbrev pub known_values_back : List ℕ → List ℕ → List ℕ
known_values_back key block = if bytes_eq key zero_block && bytes_eq block zero_encrypted then zero_block else block

abbrev pub cipher : Ciphers
cipher = record { tdea = known_values; tdea_back = known_values_back }

-- the standard work over these values; the fill word of a number is the number
abbrev pub setting : Setting
setting = record { cipher = cipher; pin_rules = standard_rules cipher.tdea; fill_word = λ number. number }

-- a step that makes no device call
abbrev pub quiet : Step → Act
quiet taken = record { step = taken; word = word.Quiet }

-- a step with its word
abbrev pub with_word : Step → DiskWord → Act
with_word taken disk_word = record { step = taken; word = disk_word }

-- all that a run from the opening says
abbrev pub said_by : List Act → List Out
said_by acts = outs_of (lines_from setting opening acts)

-- what a run says after its first acts
abbrev pub said_after : List Act → List Act → List Out
said_after before acts = outs_of (lines_from setting (run setting before) acts)

-- every word of the run fits
abbrev pub all_fit : Flat → List Act → Bool
all_fit state [] = true
all_fit state (act ∷ acts) = fits setting state.shared act.step act.word && all_fit (next setting state act.step act.word).state acts

-- the reply of a request that ended or was refused
abbrev pub reply_in : Out → Option Reply
reply_in (out.Request session id) = None
reply_in (out.Refused session why) = Some (reply.No why)
reply_in (out.Ended session id answered) = Some answered
reply_in (out.Told session told) = None
reply_in (out.Event session heard) = None

-- the replies of a run, in order
abbrev pub replies_by : List Act → List Reply
replies_by acts = filter_map reply_in (said_by acts)

-- the fates of a run's loadings, in order
abbrev pub fates_by : List Act → List Fate
fates_by acts = filter_map (λ (line : Line). line.fate) (lines_from setting opening acts)

-- the store was loaded, with no rows, and session 1 is open
abbrev pub beginning : List Act
beginning = with_word step.Boot (word.Loaded []) ∷ quiet (step.Open session_1) ∷ []

-- the same, and session 1 listens to these classes
abbrev pub listening_to : Bool → Bool → List Act
listening_to service execute = beginning ++ quiet (step.Listen session_1 (record { service = service; execute = execute })) ∷ []

-- session 1 has a command done that makes no device call
abbrev pub done_quietly : Command → List Act
done_quietly asked = quiet (step.Submit session_1 0 asked) ∷ quiet step.Begin ∷ quiet step.Finish ∷ []

-- session 1 has a command done that calls the disk
abbrev pub done_on_disk : Command → DiskWord → List Act
done_on_disk asked disk_word = quiet (step.Submit session_1 0 asked) ∷ quiet step.Begin ∷ with_word step.Finish disk_word ∷ []
