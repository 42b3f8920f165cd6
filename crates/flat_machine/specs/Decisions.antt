-- How a command is refused. Tests are chained in the order in which they apply; what passes one goes on to the next.
use Rattle.flat_machine.specs.declared.types.Work.{Work}
use Rattle.flat_machine.specs.declared.types.Work.TheVariants as work
use Rattle.key_attributes.specs.declared.Use.{Use}
use Rattle.key_table.specs.KeyRows.{KeyRows}
use Rattle.key_table.specs.Permits.{permit}
use Rattle.key_table.specs.declared.Denied.{Denied}
use Rattle.key_table.specs.declared.Denied.TheVariants as denied
use Rattle.pad_steps.specs.declared.answers.Refusal.{Refusal}
use Rattle.pad_steps.specs.declared.answers.Refusal.TheVariants as refusals
use Rattle.std.specs.Prelude.{Bool, Err, List, None, Ok, Option, Result, Some, if◌then◌else◌, ℕ}

-- refused where the test holds; no key is accused
abbrev pub unless : Bool → Refusal → Work → Work
unless test refusal rest = if test then work.Refuse refusal None else rest

-- refused where there is a refusal; no key is accused
abbrev pub unless_refused : Option Refusal → Work → Work
unless_refused None rest = rest
unless_refused (Some refusal) rest = work.Refuse refusal None

-- the value goes on, or the refusal of what went wrong, which accuses no key
abbrev pub or_refused : {A Fault : Type 0} → (Fault → Refusal) → Result A Fault → (A → Work) → Work
or_refused refusal_of (Ok value) go_on = go_on value
or_refused refusal_of (Err why) go_on = work.Refuse (refusal_of why) None

-- the refusal of a denied use
abbrev pub denial : Denied → Refusal
denial denied.KeyNotFound = refusals.KeyNotFound
denial denied.KeyNoValue = refusals.KeyNoValue
denial denied.UseViolation = refusals.UseViolation

-- the value of a key goes on, or the refusal of its use, which accuses the key (WFS_SRVE_PIN_ILLEGAL_KEY_ACCESS)
abbrev pub or_denied : List ℕ → Result (List ℕ) Denied → (List ℕ → Work) → Work
or_denied name (Ok value) go_on = go_on value
or_denied name (Err why) go_on = work.Refuse (denial why) (Some name)

-- with the value of the key of this name for this use; or KEYNOTFOUND, KEYNOVALUE or USEVIOLATION of it
abbrev pub with_key : KeyRows → List ℕ → Use → (List ℕ → Work) → Work
with_key rows name wanted go_on = or_denied name (permit rows name wanted) go_on

-- the same of a name that may be left out
abbrev pub with_key_if : KeyRows → Option (List ℕ) → Use → (Option (List ℕ) → Work) → Work
with_key_if rows None wanted go_on = go_on None
with_key_if rows (Some name) wanted go_on = with_key rows name wanted (λ value. go_on (Some value))
