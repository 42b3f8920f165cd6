-- Words for which keys a command uses, and for what it wants to be answered.
use Rattle.crypt_commands.specs.Crypts.{sealing_key}
use Rattle.crypt_commands.specs.Faults.{wrong_length, wrong_mac_key}
use Rattle.flat_machine.specs.Crypts.{crypt_use}
use Rattle.flat_machine.specs.Settings.{Setting}
use Rattle.flat_machine.specs.State.{Shared, device_refusal}
use Rattle.key_attributes.specs.UseBits.{allows, under_construction}
use Rattle.key_attributes.specs.declared.KeyRow.{KeyRow}
use Rattle.key_attributes.specs.declared.Use.{Use}
use Rattle.key_attributes.specs.declared.Use.TheVariants as purpose
use Rattle.key_import.specs.Imports.{decide_import, sealed_under}
use Rattle.key_table.specs.Duplicates.{duplicate}
use Rattle.key_table.specs.KeyRows.{KeyRows, find_row, slot_for}
use Rattle.key_table.specs.Permits.{permit}
use Rattle.key_table.specs.declared.Denied.{Denied}
use Rattle.pad_steps.specs.declared.commands.Command.{Command}
use Rattle.pad_steps.specs.declared.commands.Command.TheVariants as commands
use Rattle.pad_steps.specs.declared.commands.CryptRequest.{CryptRequest}
use Rattle.pad_steps.specs.declared.commands.ImportRequest.{ImportRequest}
use Rattle.pad_steps.specs.declared.commands.PinRequest.{PinRequest}
use Rattle.pin_blocks.specs.PinRules.{PinRules}
use Rattle.secure_entry.specs.PartBuffers.{part_value}
use Rattle.std.specs.Prelude.{Err, List, None, Ok, Option, Result, Some, [], false, length, option_map, true, ℕ, ◌==◌, ◌∷◌, ◌≡◌}

-- a key that a command uses, and the use that it needs
pub record Need : Type 0 where
  pub name : List ℕ
  pub wanted : Use

-- of a name that may be left out
abbrev pub need_of : Use → Option (List ℕ) → List Need
need_of wanted None = []
need_of wanted (Some name) = record { name = name; wanted = wanted } ∷ []

-- the keys that a command uses: one or two of a PIN command; of CRYPT its key, and that of a sealed start value; the key-encrypting key of a sealed import
abbrev pub needs : PinRules → Command → List Need
needs pin_rules (commands.Pin request) = record { name = (pin_rules.wants request).first; wanted = (pin_rules.wants request).wanted } ∷ need_of (pin_rules.wants request).wanted (pin_rules.wants request).second
needs pin_rules (commands.Crypt request) = record { name = request.key; wanted = crypt_use request.algorithm } ∷ need_of purpose.SvEncKey (sealing_key request.start)
needs pin_rules (commands.ImportKey request) = need_of purpose.KeyEncKey (sealed_under request.source)
needs pin_rules other = []

-- the key is in the table, is complete, and has the use
pub record IsUsable (rows : KeyRows) (need : Need) : Type 0 where
  pub row : KeyRow
  pub found : find_row need.name rows ≡ Some row
  pub complete : under_construction row.uses ≡ false
  pub allowed : allows row.uses need.wanted ≡ true

-- a key's value as an optional one
abbrev pub optional : Result (List ℕ) Denied → Result (Option (List ℕ)) Denied
optional (Ok value) = Ok (Some value)
optional (Err why) = Err why

-- the value of a key whose name may be left out, or why its use is denied
abbrev pub permit_if : KeyRows → Option (List ℕ) → Use → Result (Option (List ℕ)) Denied
permit_if rows None wanted = Ok None
permit_if rows (Some name) wanted = optional (permit rows name wanted)

-- a PIN command meets none of its refusals: the device is ready, its keys may be used, a PIN is held, and the PIN work is ready at these lengths
pub record PinIsReady (set : Setting) (shared : Shared) (count : ℕ) (request : PinRequest) (first : List ℕ) (second : Option (List ℕ)) (draws : ℕ) : Type 0 where
  pub device : device_refusal shared.device ≡ None
  pub first_key : permit shared.keys (set.pin_rules.wants request).first (set.pin_rules.wants request).wanted ≡ Ok first
  pub second_key : permit_if shared.keys (set.pin_rules.wants request).second (set.pin_rules.wants request).wanted ≡ Ok second
  pub pin : (count == 0) ≡ false
  pub ready : set.pin_rules.ready request count (length first) (option_map length second) ≡ Ok draws

-- CRYPT meets none of its refusals: the device is ready, its keys may be used, and key and body have lengths that do
pub record CryptIsReady (shared : Shared) (request : CryptRequest) (key : List ℕ) (sealing : Option (List ℕ)) : Type 0 where
  pub device : device_refusal shared.device ≡ None
  pub first_key : permit shared.keys request.key (crypt_use request.algorithm) ≡ Ok key
  pub start_key : permit_if shared.keys (sealing_key request.start) purpose.SvEncKey ≡ Ok sealing
  pub key_length : wrong_mac_key request.algorithm (length key) ≡ false
  pub body_length : wrong_length request.direction (length request.body) ≡ false

-- an import meets none of its refusals: the device is ready, the key-encrypting key may be used, the source gives a row, no other key forbids it, and there is a slot
pub record ImportIsReady (set : Setting) (shared : Shared) (request : ImportRequest) (kek : Option (List ℕ)) (row : KeyRow) (slot : ℕ) : Type 0 where
  pub device : device_refusal shared.device ≡ None
  pub sealing_key : permit_if shared.keys (sealed_under request.source) purpose.KeyEncKey ≡ Ok kek
  pub gives : decide_import set.cipher.tdea_back request (find_row request.name shared.keys) kek (part_value shared.part) ≡ Ok row
  pub alone : duplicate row shared.keys ≡ None
  pub room : slot_for row.name shared.keys ≡ Some slot
