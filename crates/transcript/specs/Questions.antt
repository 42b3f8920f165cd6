-- What a session is told: answers to questions, and to the steps that ask for no command.
use Rattle.std.specs.Prelude.{List, None, Option, Some, [], codes, flat_map, if◌then◌else◌, length, ℕ, ◌%◌, ◌++◌, ◌/◌, ◌==◌, ◌∷◌}
use Rattle.std.specs.Fmt.{decimal}
use Rattle.hex.specs.Hex.{encode_upper}
use Rattle.pad_steps.specs.declared.answers.KeyView.{KeyView}
use Rattle.pad_steps.specs.declared.answers.StatusView.{StatusView}
use Rattle.pad_steps.specs.declared.answers.Told.{Told}
use Rattle.pad_steps.specs.declared.answers.Told.TheVariants as told
use Rattle.pad_words.specs.declared.numbers.Session.{Session}
use Rattle.script_lang.specs.Words.{classes_text}
use Rattle.transcript.specs.Refusals.{refusal_text}
use Rattle.transcript.specs.Replies.{reply_text}
use Rattle.transcript.specs.Values.{yes_no_text}

-- the state of the device: off 0, ready 1, stopped 2, bad 3
unfoldable pub state_text : ℕ → List ℕ
state_text state = if state == 0 then codes "off" else if state == 1 then codes "ready" else if state == 2 then codes "stopped" else codes "bad"

-- the session that holds the lock, or 0
unfoldable pub holder_text : Option Session → List ℕ
holder_text None = codes "0"
holder_text (Some s) = decimal s.number

-- the state, the number of keys, the holder of the lock, whether an entry runs and a PIN is held, and the
-- number of the session's pending requests
unfoldable pub status_text : StatusView → List ℕ
status_text v = codes "status " ++ state_text v.state ++ codes " keys " ++ decimal v.keys ++ codes " holder " ++ holder_text v.holder ++ codes " entry " ++ yes_no_text v.entry ++ codes " pin " ++ yes_no_text v.pin ++ codes " pending " ++ decimal v.pending

-- the four hexadecimal digits of a uses word
unfoldable pub uses_text : ℕ → List ℕ
uses_text uses = encode_upper (uses / 256 ∷ uses % 256 ∷ [])

-- a key check value, or `part` where a part of the key is still missing
unfoldable pub key_check_text : Option (List ℕ) → List ℕ
key_check_text None = codes "part"
key_check_text (Some check) = encode_upper check

-- name, uses, length in bytes and check value
unfoldable pub key_view_text : KeyView → List ℕ
key_view_text v = codes "key " ++ v.name ++ codes " " ++ uses_text v.uses ++ codes " " ++ decimal v.length ++ codes " " ++ key_check_text v.check

-- a name behind a space
unfoldable pub spaced_name : List ℕ → List ℕ
spaced_name name = codes " " ++ name

-- how many names there are, and the names in order
unfoldable pub names_text : List (List ℕ) → List ℕ
names_text names = codes "names " ++ decimal (length names) ++ flat_map spaced_name names

-- what became of a step, or the answer to a question
unfoldable pub told_text : Told → List ℕ
told_text told.Opened = codes "open"
told_text told.Closed = codes "closed"
told_text (told.Listening classes) = codes "listening " ++ classes_text classes
told_text told.Granted = codes "granted"
told_text (told.Waiting holder) = codes "waiting " ++ decimal holder.number
told_text told.Released = codes "released"
told_text (told.Canceled n) = codes "cancel " ++ decimal n
told_text (told.Status v) = status_text v
told_text (told.Key v) = key_view_text v
told_text (told.Names names) = names_text names
told_text told.Pending = codes "pending"
told_text (told.Reply id r) = codes "reply " ++ decimal id ++ codes " " ++ reply_text r
told_text (told.No r) = refusal_text r
