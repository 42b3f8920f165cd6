-- Events.
use Rattle.std.specs.Prelude.{List, codes, ℕ, ◌++◌}
use Rattle.pad_steps.specs.declared.answers.Event.{Event}
use Rattle.pad_steps.specs.declared.answers.Event.TheVariants as event
use Rattle.pad_steps.specs.declared.answers.Shown.{Shown}
use Rattle.pad_steps.specs.declared.answers.Shown.TheVariants as shown
use Rattle.key_source.specs.KeyWords.{key_text}
use Rattle.transcript.specs.Refusals.{refusal_text}

-- the word of a key, or a star where the key must not be told
unfoldable pub shown_key_text : Shown → List ℕ
shown_key_text shown.Masked = codes "*"
shown_key_text (shown.Plain key) = key_text key

-- an event and what it tells
unfoldable pub event_text : Event → List ℕ
event_text event.EnterData = codes "ENTERDATA"
event_text (event.Key key) = codes "KEY " ++ shown_key_text key
event_text event.Initialized = codes "INITIALIZED"
event_text (event.IllegalKeyAccess name r) = codes "ILLEGALKEYACCESS " ++ name ++ codes " " ++ refusal_text r
