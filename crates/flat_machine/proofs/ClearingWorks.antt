-- Which command a work is of, and what a Finish of it does.
use Rattle.crypt_commands.specs.Crypts.{crypt_out, sealing_key, start_block}
use Rattle.crypt_commands.specs.Faults.{wrong_length, wrong_mac_key}
use Rattle.crypt_commands.specs.declared.CryptOut.{CryptOut}
use Rattle.flat_machine.proofs.WorkChains.{holds-or_refused, holds-unless, holds-unless_refused, holds-with_key, holds-with_key_if, pin-holds}
use Rattle.flat_machine.specs.Ciphers.{Ciphers}
use Rattle.flat_machine.specs.Commands.{erase, on_device, work_of}
use Rattle.flat_machine.specs.Crypts.{answer_of, crypt_use, crypt_work}
use Rattle.flat_machine.specs.FinishSteps.{finish_with, next_finish, performs}
use Rattle.flat_machine.specs.Imports.{duplicated, import_refusal, import_work, into_slot}
use Rattle.flat_machine.specs.Settings.{Setting}
use Rattle.flat_machine.specs.State.{Shared, device_refusal, owner_of}
use Rattle.flat_machine.specs.declared.types.Work.{Work}
use Rattle.flat_machine.specs.declared.types.Work.TheVariants as work
use Rattle.key_attributes.specs.declared.KeyRow.{KeyRow}
use Rattle.key_attributes.specs.declared.Use.TheVariants as purpose
use Rattle.key_import.specs.Imports as source
use Rattle.key_table.specs.Duplicates.{duplicate}
use Rattle.key_table.specs.KeyRows.{KeyRows, find_row, slot_for, slot_of}
use Rattle.pad_steps.specs.declared.answers.Refusal.{Refusal}
use Rattle.pad_steps.specs.declared.answers.Refusal.TheVariants as refusal
use Rattle.pad_steps.specs.declared.commands.Command.{Command}
use Rattle.pad_steps.specs.declared.commands.Command.TheVariants as command
use Rattle.pad_steps.specs.declared.commands.CryptRequest.{CryptRequest}
use Rattle.pad_steps.specs.declared.commands.ImportRequest.{ImportRequest}
use Rattle.pad_steps.specs.declared.steps.DiskWord.{DiskWord}
use Rattle.request_queue.specs.Requests.{request_in_work}
use Rattle.request_queue.specs.declared.requests.Request.{Request}
use Rattle.secure_entry.specs.PartBuffers.{part_value}
use Rattle.std.proofs.Common.{ap, ◌∙◌}
use Rattle.std.specs.Prelude.{List, None, Option, Some, length, refl, ℕ, ◌≡◌}

-- what holds of each refusal, and of the row that an import keeps, holds of the import
pub import_work-holds : (Holds : Work → Type 0) → ((r : Refusal) (accused : Option (List ℕ)) → Holds (work.Refuse r accused)) → (cipher : Ciphers) (rows : KeyRows) (part : List ℕ) (r : ImportRequest)
    → ((slot : ℕ) (row : KeyRow) (check : Option (List ℕ)) → Holds (work.Keep slot row check (source.is_part r.source))) → Holds (import_work cipher rows part r)
import_work-holds Holds refused cipher rows part r kept =
    holds-with_key_if Holds refused rows (source.sealed_under r.source) purpose.KeyEncKey _ (λ kek wanted.
    holds-or_refused Holds refused import_refusal (source.decide_import cipher.tdea_back r (find_row r.name rows) kek (part_value part)) _ (λ row is.
    holds-unless_refused Holds refused (duplicated (duplicate row rows)) _
    (in_slot row (slot_for row.name rows))))
  where
    in_slot : (row : KeyRow) (o : Option ℕ) → Holds (into_slot cipher r row o)
    in_slot row None = refused refusal.TableFull None
    in_slot row (Some slot) = kept slot row _

-- the command that comes to this work, where one kind of command alone does; and an answer at once is one of CRYPT
abbrev pub FromCommand : Command → Work → Type 0
FromCommand c work.Waits = Unit {0}
FromCommand c (work.Refuse r accused) = Unit {0}
FromCommand c (work.Answer x) = (out : CryptOut) × (x ≡ answer_of out)
FromCommand c (work.Maintain on) = c ≡ command.MaintainPin on
FromCommand c (work.Keep slot row check from_part) = (r : ImportRequest) × (c ≡ command.ImportKey r) × (source.is_part r.source ≡ from_part)
FromCommand c (work.Erase slot) = Unit {0}
FromCommand c work.EraseAll = c ≡ command.Init
FromCommand c (work.Release r first second draws) = c ≡ command.Pin r
FromCommand c work.Load = c ≡ command.Reset

device-from : (c : Command) (p : Shared) (v : Work) → FromCommand c v → FromCommand c (on_device p v)
device-from c p v k = holds-unless_refused (FromCommand c) (λ r accused. tt) (device_refusal p.device) v k

crypt-from : (cipher : Ciphers) (rows : KeyRows) (r : CryptRequest) → FromCommand (command.Crypt r) (crypt_work cipher rows r)
crypt-from cipher rows r =
    let at = FromCommand (command.Crypt r) in
    let refused : (why : Refusal) (accused : Option (List ℕ)) → at (work.Refuse why accused) = λ why accused. tt in
    holds-with_key at refused rows r.key (crypt_use r.algorithm) _ (λ key.
    holds-with_key_if at refused rows (sealing_key r.start) purpose.SvEncKey _ (λ sealing sealed.
    holds-unless at refused (wrong_mac_key r.algorithm (length key)) refusal.InvalidKeyLength _ (λ right.
    holds-unless at refused (wrong_length r.direction (length r.body)) refusal.LengthError _ (λ fits. (crypt_out cipher.tdea cipher.tdea_back r r.algorithm key (start_block cipher.tdea cipher.tdea_back r.start sealing), refl)))))

erase-from : (c : Command) (o : Option ℕ) → FromCommand c (erase o)
erase-from c None = tt
erase-from c (Some slot) = tt

pub from_command : (set : Setting) (p : Shared) (n : ℕ) (c : Command) → FromCommand c (work_of set p n c)
from_command set p n (command.GetPin rules) = tt
from_command set p n (command.GetData rules) = tt
from_command set p n (command.SecureKeyEntry rules) = tt
from_command set p n (command.MaintainPin on) = device-from _ p _ refl
from_command set p n (command.Pin r) = device-from _ p _ (pin-holds (FromCommand (command.Pin r)) (λ why accused. tt) set.pin_rules p.keys n r (λ first second draws keys is. refl))
from_command set p n (command.Crypt r) = device-from _ p _ (crypt-from set.cipher p.keys r)
from_command set p n (command.ImportKey r) = device-from _ p _ (import_work-holds (FromCommand (command.ImportKey r)) (λ why accused. tt) set.cipher p.keys p.part r (λ slot row check. (r, refl, refl)))
from_command set p n (command.DeleteKey name) = device-from _ p _ (erase-from _ (slot_of name p.keys))
from_command set p n command.Init = device-from _ p _ refl
from_command set p n command.Reset = refl
from_command set p n command.RsaImport = tt

-- a Finish of the command in work is the work that it comes to
pub next_finish-work : (set : Setting) (p : Shared) (held : List ℕ) (a : Request Command) (c : Command) (w : DiskWord) → request_in_work p.requests ≡ Some a → a.command ≡ c → next_finish set p held w ≡ performs set p held (owner_of a) (work_of set p (length held) c) w
next_finish-work set p held a c w is asked = ap (λ (o : Option (Request Command)). finish_with set p held o w) is ∙ ap (λ (d : Command). performs set p held (owner_of a) (work_of set p (length held) d) w) asked
