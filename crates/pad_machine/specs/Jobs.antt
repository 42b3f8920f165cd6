-- The command CRYPT in work, to be run apart from the pad.
use Rattle.crypt_commands.specs.Crypts.{sealing_key}
use Rattle.crypt_commands.specs.Jobs.{CryptInputs}
use Rattle.flat_machine.specs.Crypts.{crypt_use}
use Rattle.flat_machine.specs.State.{Shared, is_ready}
use Rattle.key_attributes.specs.declared.Use.TheVariants.{SvEncKey}
use Rattle.key_attributes.specs.declared.Use.{Use}
use Rattle.key_table.specs.KeyRows.{KeyRows}
use Rattle.key_table.specs.Permits.{permit}
use Rattle.key_table.specs.declared.Denied.{Denied}
use Rattle.pad_steps.specs.declared.commands.Command.TheVariants as commands
use Rattle.pad_steps.specs.declared.commands.Command.{Command}
use Rattle.pad_steps.specs.declared.commands.CryptRequest.{CryptRequest}
use Rattle.request_queue.specs.Requests.{request_in_work}
use Rattle.request_queue.specs.declared.requests.Request.{Request}
use Rattle.std.specs.Prelude.{Err, List, None, Ok, Option, Result, Some, if◌then◌else◌, ℕ}

-- what is made of the value of a key, where its use is permitted
abbrev pub on_permit : Result (List ℕ) Denied → (List ℕ → Option CryptInputs) → Option CryptInputs
on_permit (Ok value) go_on = go_on value
on_permit (Err why) go_on = None

-- the same of a key that may be left out
abbrev pub on_permit_if : KeyRows → Option (List ℕ) → Use → (Option (List ℕ) → Option CryptInputs) → Option CryptInputs
on_permit_if rows None wanted go_on = go_on None
on_permit_if rows (Some name) wanted go_on = on_permit (permit rows name wanted) (λ value. go_on (Some value))

-- the job of a command CRYPT with this id: it has the keys, where their uses are permitted
abbrev pub crypt_job : KeyRows → ℕ → CryptRequest → Option CryptInputs
crypt_job rows id request =
    on_permit (permit rows request.key (crypt_use request.algorithm)) (λ key.
    on_permit_if rows (sealing_key request.start) SvEncKey (λ start_key.
    Some (record { id = id; request = request; key = key; start_key = start_key })))

-- the job of a command: none but CRYPT has one
abbrev pub command_job : KeyRows → ℕ → Command → Option CryptInputs
command_job rows id (commands.Crypt request) = crypt_job rows id request
command_job rows id other = None

-- the job of a request, if there is one
abbrev pub request_job : KeyRows → Option (Request Command) → Option CryptInputs
request_job rows None = None
request_job rows (Some request) = command_job rows request.id request.command

-- the job of the request in work, on a ready device
abbrev pub job_of : Shared → Option CryptInputs
job_of shared = if is_ready shared.device then request_job shared.keys (request_in_work shared.requests) else None
