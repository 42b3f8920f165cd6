-- What holds of each refusal, and of what passes a test, holds of the test.
use Rattle.pad_steps.specs.declared.commands.Command.TheVariants as command
use Rattle.pad_steps.specs.declared.answers.Refusal.TheVariants as refusal
use Rattle.key_attributes.specs.declared.Use.TheVariants as purpose
use Rattle.key_import.specs.Imports as source
use Rattle.pad_steps.specs.declared.commands.PinRequest.{PinRequest}
use Rattle.pad_steps.specs.declared.commands.ImportRequest.{ImportRequest}
use Rattle.pad_steps.specs.declared.commands.CryptRequest.{CryptRequest}
use Rattle.pad_steps.specs.declared.commands.Command.{Command}
use Rattle.pad_steps.specs.declared.answers.Answer.{Answer}
use Rattle.key_attributes.specs.declared.KeyRow.{KeyRow}
use Rattle.key_table.specs.Duplicates.{duplicate}
use Rattle.crypt_commands.specs.Faults.{wrong_length, wrong_mac_key}
use Rattle.crypt_commands.specs.Crypts.{sealing_key}
use Rattle.check_values.specs.CheckValues.{check_value}
use Rattle.flat_machine.specs.State.{Shared, device_refusal, is_off, is_ready}
use Rattle.flat_machine.specs.WorkFacts.{IsReleased, Suits, is_answer, is_crypt, is_done, is_load, is_management, is_reset, manages}
use Rattle.entry_core.specs.Entries.{Entry, entry_of}
use Rattle.flat_machine.specs.Commands.{erase, on_device, work_of}
use Rattle.flat_machine.specs.DiskSteps.{is_replacing}
use Rattle.flat_machine.specs.FinishSteps.{plan_of}
use Rattle.flat_machine.specs.declared.types.Device.{Device}
use Rattle.flat_machine.specs.declared.types.Device.TheVariants.{Bad, Off, Ready, Stopped}
use Rattle.std.proofs.Common.{ap, sym, ◌∙◌}
use Rattle.flat_machine.specs.Imports.{duplicated, import_refusal, import_work, into_slot}
use Rattle.secure_entry.specs.PartBuffers.{part_value}
use Rattle.flat_machine.specs.Crypts.{crypt_answer, crypt_use, crypt_work}
use Rattle.flat_machine.specs.Ciphers.{Ciphers}
use Rattle.flat_machine.specs.Settings.{Setting}
use Rattle.pin_blocks.specs.PinRules.{PinRules}
use Rattle.flat_machine.specs.PinCommands.{pin_work, ready_refusal}
use Rattle.flat_machine.specs.Decisions.{denial, or_denied, or_refused, unless, unless_refused, with_key, with_key_if}
use Rattle.flat_machine.specs.declared.types.Work.{Work}
use Rattle.flat_machine.specs.declared.types.Work.TheVariants as work
use Rattle.key_attributes.specs.declared.Use.{Use}
use Rattle.key_table.specs.KeyRows.{KeyRows, find_row, slot_for, slot_of}
use Rattle.key_table.specs.Permits.{permit}
use Rattle.key_table.specs.declared.Denied.{Denied}
use Rattle.pad_steps.specs.declared.answers.Refusal.{Refusal}
use Rattle.std.specs.Prelude.{Bool, Err, IsTrue, List, None, Ok, Option, Result, Some, false, is_some, length, option_map, refl, true, ℕ, ◌==◌, ◌≡◌}

module _ (Holds : Work → Type 0) (refused : (r : Refusal) (accused : Option (List ℕ)) → Holds (work.Refuse r accused)) where
  pub holds-unless : (b : Bool) (r : Refusal) (w : Work) → (b ≡ false → Holds w) → Holds (unless b r w)
  holds-unless true r w k = refused r None
  holds-unless false r w k = k refl

  pub holds-unless_refused : (o : Option Refusal) (w : Work) → Holds w → Holds (unless_refused o w)
  holds-unless_refused None w k = k
  holds-unless_refused (Some r) w k = refused r None

  pub holds-or_refused : {A F : Type 0} → (of : F → Refusal) (d : Result A F) (go_on : A → Work) → ((x : A) → d ≡ Ok x → Holds (go_on x)) → Holds (or_refused of d go_on)
  holds-or_refused of (Ok x) go_on k = k x refl
  holds-or_refused of (Err why) go_on k = refused (of why) None

  holds-or_denied : (name : List ℕ) (d : Result (List ℕ) Denied) (go_on : List ℕ → Work) → ((v : List ℕ) → Holds (go_on v)) → Holds (or_denied name d go_on)
  holds-or_denied name (Ok v) go_on k = k v
  holds-or_denied name (Err why) go_on k = refused (denial why) (Some name)

  pub holds-with_key : (rows : KeyRows) (name : List ℕ) (u : Use) (go_on : List ℕ → Work) → ((v : List ℕ) → Holds (go_on v)) → Holds (with_key rows name u go_on)
  holds-with_key rows name u go_on k = holds-or_denied name (permit rows name u) go_on k

  pub holds-with_key_if : (rows : KeyRows) (name : Option (List ℕ)) (u : Use) (go_on : Option (List ℕ) → Work) → ((v : Option (List ℕ)) → is_some v ≡ is_some name → Holds (go_on v)) → Holds (with_key_if rows name u go_on)
  holds-with_key_if rows None u go_on k = k None refl
  holds-with_key_if rows (Some name) u go_on k = holds-with_key rows name u (λ v. go_on (Some v)) (λ v. k (Some v) refl)

  pub pin-holds : (pin_rules : PinRules) (rows : KeyRows) (n : ℕ) (r : PinRequest) → ((first : List ℕ) (second : Option (List ℕ)) (draws : ℕ) → is_some second ≡ is_some (pin_rules.wants r).second → pin_rules.ready r n (length first) (option_map length second) ≡ Ok draws → Holds (work.Release r first second draws)) → Holds (pin_work pin_rules rows n r)
  pin-holds pin_rules rows n r k =
      holds-with_key rows (pin_rules.wants r).first (pin_rules.wants r).wanted _ (λ first.
      holds-with_key_if rows (pin_rules.wants r).second (pin_rules.wants r).wanted _ (λ second keys.
      holds-unless (n == 0) refusal.NoPin _ (λ some.
      holds-or_refused ready_refusal (pin_rules.ready r n (length first) (option_map length second)) _ (λ draws is. k first second draws keys is))))

  crypt-holds : (cipher : Ciphers) (rows : KeyRows) (r : CryptRequest) → ((x : Answer) → Holds (work.Answer x)) → Holds (crypt_work cipher rows r)
  crypt-holds cipher rows r k =
      holds-with_key rows r.key (crypt_use r.algorithm) _ (λ key.
      holds-with_key_if rows (sealing_key r.start) purpose.SvEncKey _ (λ sealing sealed.
      holds-unless (wrong_mac_key r.algorithm (length key)) refusal.InvalidKeyLength _ (λ right.
      holds-unless (wrong_length r.direction (length r.body)) refusal.LengthError _ (λ fits. k (crypt_answer cipher r key sealing)))))

  import-holds : (cipher : Ciphers) (rows : KeyRows) (part : List ℕ) (r : ImportRequest) → ((slot : ℕ) (row : KeyRow) (check : Option (List ℕ)) (from_part : Bool) → slot_for row.name rows ≡ Some slot → Holds (work.Keep slot row check from_part)) → Holds (import_work cipher rows part r)
  import-holds cipher rows part r k =
      holds-with_key_if rows (source.sealed_under r.source) purpose.KeyEncKey _ (λ kek wanted.
      holds-or_refused import_refusal (source.decide_import cipher.tdea_back r (find_row r.name rows) kek (part_value part)) _ (λ row is.
      holds-unless_refused (duplicated (duplicate row rows)) _
      (in_slot row (slot_for row.name rows) refl)))
    where
      in_slot : (row : KeyRow) (o : Option ℕ) → slot_for row.name rows ≡ o → Holds (into_slot cipher r row o)
      in_slot row None is = refused refusal.TableFull None
      in_slot row (Some slot) is = k slot row (check_value cipher.tdea r.verify row.value) (source.is_part r.source) is

  erase-holds : (o : Option ℕ) → ((slot : ℕ) → o ≡ Some slot → Holds (work.Erase slot)) → Holds (erase o)
  erase-holds None k = refused refusal.KeyNotFound None
  erase-holds (Some slot) k = k slot refl

-- what holds of each work that a command can come to
pub record Each (set : Setting) (p : Shared) (n : ℕ) (c : Command) (Holds : Work → Type 0) : Type 0 where
  pub refused : (r : Refusal) (accused : Option (List ℕ)) → Holds (work.Refuse r accused)
  pub answered : (x : Answer) → is_crypt c ≡ true → Holds (work.Answer x)
  pub maintain : (on : Bool) → manages c ≡ true → Holds (work.Maintain on)
  pub kept : (slot : ℕ) (row : KeyRow) (check : Option (List ℕ)) (from_part : Bool) → slot_for row.name p.keys ≡ Some slot → Holds (work.Keep slot row check from_part)
  pub erased : (slot : ℕ) → (name : List ℕ) × (slot_of name p.keys ≡ Some slot) → Holds (work.Erase slot)
  pub erased_all : manages c ≡ true → Holds work.EraseAll
  pub released : (r : PinRequest) (first : List ℕ) (second : Option (List ℕ)) (draws : ℕ) → IsReleased set.pin_rules n c r first second draws → Holds (work.Release r first second draws)
  pub loaded : manages c ≡ true → is_reset c ≡ true → Holds work.Load

module _ (set : Setting) (p : Shared) (n : ℕ) (Holds : Work → Type 0) where
  on : (c : Command) → Each set p n c Holds → (v : Work) → Holds v → Holds (on_device p v)
  on c each v k = holds-unless_refused Holds each.refused (device_refusal p.device) v k

  -- an entry waits; each other command comes to one of these works
  pub command-holds : (c : Command) → Each set p n c Holds → (is_some (entry_of c) ≡ true → Holds work.Waits) → Holds (work_of set p n c)
  command-holds (command.GetPin rules) each waits = waits refl
  command-holds (command.GetData rules) each waits = waits refl
  command-holds (command.SecureKeyEntry rules) each waits = waits refl
  command-holds (command.MaintainPin flag) each waits = on _ each _ (each.maintain flag refl)
  command-holds (command.Pin r) each waits = on _ each _ (pin-holds Holds each.refused set.pin_rules p.keys n r (λ first second draws keys is. each.released r first second draws (record { of = refl; keys = keys; ready = is })))
  command-holds (command.Crypt r) each waits = on _ each _ (crypt-holds Holds each.refused set.cipher p.keys r (λ x. each.answered x refl))
  command-holds (command.ImportKey r) each waits = on _ each _ (import-holds Holds each.refused set.cipher p.keys p.part r each.kept)
  command-holds (command.DeleteKey name) each waits = on _ each _ (erase-holds Holds each.refused (slot_of name p.keys) (λ slot is. each.erased slot (name, is)))
  command-holds command.Init each waits = on _ each _ (each.erased_all refl)
  command-holds command.Reset each waits = each.loaded refl refl
  command-holds command.RsaImport each waits = each.refused refusal.UnsuppCommand None

pub work_suits : (set : Setting) (p : Shared) (n : ℕ) (c : Command) → Suits set p n c (work_of set p n c)
work_suits set p n c = command-holds set p n (Suits set p n c) c (record { refused = λ r accused. tt; answered = λ x crypt. tt; maintain = λ on manages. tt; kept = λ slot row x from_part is. is; erased = λ slot found. found; erased_all = λ manages. tt; released = λ r first second draws is. is; loaded = λ manages reset. tt }) (λ is. tt)

-- a command that is no entry does not wait
pub work_ends : (set : Setting) (p : Shared) (n : ℕ) (c : Command) → entry_of c ≡ None → IsTrue (is_done (work_of set p n c))
work_ends set p n c none = command-holds set p n (λ v. IsTrue (is_done v)) c (record { refused = λ r accused. refl; answered = λ x crypt. refl; maintain = λ on manages. refl; kept = λ slot row x from_part is. refl; erased = λ slot found. refl; erased_all = λ manages. refl; released = λ r first second draws is. refl; loaded = λ manages reset. refl }) (λ is. no_entry (entry_of c) none is)
  where
    no_entry : (o : Option Entry) → o ≡ None → is_some o ≡ true → false ≡ true
    no_entry None e is = is
    no_entry (Some entry) e is = cc

-- CRYPT alone is answered at once
pub work_answers : (set : Setting) (p : Shared) (n : ℕ) (c : Command) → is_crypt c ≡ false → is_answer (work_of set p n c) ≡ false
work_answers set p n c other = command-holds set p n (λ v. is_answer v ≡ false) c (record { refused = λ r accused. refl; answered = λ x crypt. no_crypt (is_crypt c) other crypt; maintain = λ on manages. refl; kept = λ slot row x from_part is. refl; erased = λ slot found. refl; erased_all = λ manages. refl; released = λ r first second draws is. refl; loaded = λ manages reset. refl }) (λ is. refl)
  where
    no_crypt : (b : Bool) → b ≡ false → b ≡ true → true ≡ false
    no_crypt true other crypt = other
    no_crypt false other crypt = cc

-- MAINTAIN_PIN, INITIALIZATION and RESET alone come to works of their kind
pub work_manages : (set : Setting) (p : Shared) (n : ℕ) (c : Command) → manages c ≡ false → is_management (work_of set p n c) ≡ false
work_manages set p n c other = command-holds set p n (λ v. is_management v ≡ false) c (record { refused = λ r accused. refl; answered = λ x crypt. refl; maintain = λ on is. no_management (manages c) other is; kept = λ slot row x from_part is. refl; erased = λ slot found. refl; erased_all = λ is. no_management (manages c) other is; released = λ r first second draws is. refl; loaded = λ is reset. no_management (manages c) other is }) (λ is. refl)
  where
    no_management : (b : Bool) → b ≡ false → b ≡ true → true ≡ false
    no_management true other is = other
    no_management false other is = cc

-- RESET alone loads the store
pub work_loads : (set : Setting) (p : Shared) (n : ℕ) (c : Command) → is_reset c ≡ false → is_load (work_of set p n c) ≡ false
work_loads set p n c other = command-holds set p n (λ v. is_load v ≡ false) c (record { refused = λ r accused. refl; answered = λ x crypt. refl; maintain = λ on is. refl; kept = λ slot row x from_part is. refl; erased = λ slot found. refl; erased_all = λ is. refl; released = λ r first second draws is. refl; loaded = λ is reset. never (is_reset c) other reset }) (λ is. refl)
  where
    never : (b : Bool) → b ≡ false → b ≡ true → true ≡ false
    never true other reset = other
    never false other reset = cc

-- slots are replaced on a device that is ready alone

ready_on : (p : Shared) (v : Work) (d : Device) → p.device ≡ d → is_off d ≡ false → is_replacing (plan_of p (on_device p v)) ≡ true → is_ready d ≡ true
ready_on p v Off is on replaces = cc
ready_on p v Ready is on replaces = refl
ready_on p v Stopped is on replaces = sym (ap (λ (d : Device). is_replacing (plan_of p (unless_refused (device_refusal d) v))) is) ∙ replaces
ready_on p v (Bad slot) is on replaces = sym (ap (λ (d : Device). is_replacing (plan_of p (unless_refused (device_refusal d) v))) is) ∙ replaces

pub work_ready : (set : Setting) (p : Shared) (n : ℕ) (c : Command) → is_off p.device ≡ false → is_replacing (plan_of p (work_of set p n c)) ≡ true → is_ready p.device ≡ true
work_ready set p n (command.GetPin rules) on replaces = cc
work_ready set p n (command.GetData rules) on replaces = cc
work_ready set p n (command.SecureKeyEntry rules) on replaces = cc
work_ready set p n (command.MaintainPin flag) on replaces = ready_on p _ p.device refl on replaces
work_ready set p n (command.Pin r) on replaces = ready_on p _ p.device refl on replaces
work_ready set p n (command.Crypt r) on replaces = ready_on p _ p.device refl on replaces
work_ready set p n (command.ImportKey r) on replaces = ready_on p _ p.device refl on replaces
work_ready set p n (command.DeleteKey name) on replaces = ready_on p _ p.device refl on replaces
work_ready set p n command.Init on replaces = ready_on p _ p.device refl on replaces
work_ready set p n command.Reset on replaces = cc
work_ready set p n command.RsaImport on replaces = cc
