-- What the presses of an entry amount to (GET_PIN, GET_DATA, SECUREKEY_ENTRY). The digits are a function of the list of all active keys pressed since the entry began; nothing else is remembered of it.
use Rattle.entry_core.specs.declared.seen.Seen.{Seen}
use Rattle.entry_core.specs.declared.seen.Seen.TheVariants.{Ended, Ignored, Took}
use Rattle.key_source.specs.Keys.{has_key, is_empty_mask}
use Rattle.key_source.specs.declared.Key.{Key}
use Rattle.key_source.specs.declared.Mask.{Mask}
use Rattle.pad_steps.specs.declared.commands.Command.{Command}
use Rattle.pad_steps.specs.declared.answers.Completion.{Completion}
use Rattle.pad_steps.specs.declared.commands.EntryKind.{EntryKind}
use Rattle.pad_steps.specs.declared.commands.EntryRules.{EntryRules}
use Rattle.pad_steps.specs.declared.answers.Refusal.{Refusal}
use Rattle.pad_steps.specs.declared.answers.Shown.{Shown}
use Rattle.pad_steps.specs.declared.commands.Verify.{Verify}
use Rattle.std.specs.Prelude.{Bool, List, None, Option, Some, [], false, if◌then◌else◌, is_some, length, nat_le, nat_lt, not, take, true, ℕ, ◌%◌, ◌&&◌, ◌++◌, ◌+◌, ◌-◌, ◌/◌, ◌==◌, ◌||◌, ◌∷◌}
use Rattle.pad_steps.specs.declared.answers.Refusal.TheVariants as refusals
use Rattle.pad_steps.specs.declared.answers.Completion.TheVariants as completions
use Rattle.key_source.specs.declared.Key.TheVariants as keypad
use Rattle.pad_steps.specs.declared.commands.Command.TheVariants as commands
use Rattle.pad_steps.specs.declared.commands.Verify.TheVariants as verify
use Rattle.pad_steps.specs.declared.commands.EntryKind.TheVariants as entry_kind
use Rattle.pad_steps.specs.declared.answers.Shown.TheVariants as shows

-- the rules of a running entry: its kind, least and greatest number of digits, whether it ends by itself at the greatest, the active keys, the terminating keys, and the key check value that a key part answers
pub record Entry : Type 0 where
  pub kind : EntryKind
  pub least : ℕ
  pub greatest : ℕ
  pub auto_end : Bool
  pub active : Mask
  pub terminate : Mask
  pub check : Verify

-- a greatest length of 0 stands for 16
abbrev pub greatest_length : ℕ → ℕ
greatest_length most = if most == 0 then 16 else most

-- the entry of the rules of a PIN or of data
abbrev pub entry_by : EntryKind → EntryRules → Entry
entry_by kind rules = record {
  kind = kind;
  least = rules.min;
  greatest = greatest_length rules.max;
  auto_end = rules.auto_end;
  active = rules.active;
  terminate = rules.terminate;
  check = verify.Nothing;
}

-- the entry that a command asks for: GET_PIN, GET_DATA, and SECUREKEY_ENTRY, whose two lengths are its count; no other command is an entry
abbrev pub entry_of : Command → Option Entry
entry_of (commands.GetPin rules) = Some (entry_by entry_kind.Pin rules)
entry_of (commands.GetData rules) = Some (entry_by entry_kind.Figures rules)
entry_of (commands.SecureKeyEntry rules) = Some (record {
  kind = entry_kind.Part;
  least = rules.count;
  greatest = rules.count;
  auto_end = rules.auto_end;
  active = rules.active;
  terminate = rules.terminate;
  check = rules.verify;
})
entry_of (commands.MaintainPin on) = None
entry_of (commands.Pin request) = None
entry_of (commands.Crypt request) = None
entry_of (commands.ImportKey request) = None
entry_of (commands.DeleteKey name) = None
entry_of commands.Init = None
entry_of commands.Reset = None
entry_of commands.RsaImport = None

-- a PIN is entered
abbrev pub is_pin : EntryKind → Bool
is_pin entry_kind.Pin = true
is_pin entry_kind.Figures = false
is_pin entry_kind.Part = false

-- a key part is entered
abbrev pub is_key_part : EntryKind → Bool
is_key_part entry_kind.Pin = false
is_key_part entry_kind.Figures = false
is_key_part entry_kind.Part = true

-- the mask has one of the key bits 10 to 15, the digits A to F
abbrev pub has_hex_bits : Mask → Bool
has_hex_bits mask = not ((mask.keys / 1024) % 64 == 0)

-- the mask has a key bit other than 16 ENTER, 17 CANCEL and 20 HELP
abbrev pub has_unsupported_terminators : Mask → Bool
has_unsupported_terminators mask = not (mask.keys % 65536 == 0) || not ((mask.keys / 262144) % 4 == 0) || not (mask.keys / 2097152 == 0)

-- a mask has a key bit above 20, or the digits A to F outside a key part, or the terminating mask a key that cannot terminate
abbrev pub has_unsupported_keys : Entry → Bool
has_unsupported_keys entry = nat_le 2097152 entry.active.keys || nat_le 2097152 entry.terminate.keys
    || (not (is_key_part entry.kind) && (has_hex_bits entry.active || has_hex_bits entry.terminate)) || has_unsupported_terminators entry.terminate

-- why an entry is refused as it begins, in this order: MINIMUMLENGTH where the least length exceeds the greatest; NOACTIVEKEYS where no key is active; KEYNOTSUPPORTED
abbrev pub entry_refusal : Entry → Option Refusal
entry_refusal entry = if nat_lt entry.greatest entry.least then Some refusals.MinimumLength
    else (if is_empty_mask entry.active then Some refusals.NoActiveKeys
    else (if has_unsupported_keys entry then Some refusals.KeyNotSupported else None))

-- the value of a key that is a digit in this kind of entry; A to F are digits of a key part alone
abbrev pub digit_in : EntryKind → Key → Option ℕ
digit_in kind (keypad.Digit digit) = Some digit.value
digit_in kind (keypad.Hex value) = if is_key_part kind then Some value else None
digit_in kind keypad.Enter = None
digit_in kind keypad.Cancel = None
digit_in kind keypad.Clear = None
digit_in kind keypad.Backspace = None
digit_in kind keypad.Help = None
digit_in kind (keypad.Fdk number) = None

-- what a key that is no digit leaves of the digits: BACKSPACE drops the last, CLEAR and CANCEL drop all, others leave them
abbrev pub after_other : Key → List ℕ → List ℕ
after_other (keypad.Digit digit) digits = digits
after_other (keypad.Hex value) digits = digits
after_other keypad.Enter digits = digits
after_other keypad.Cancel digits = []
after_other keypad.Clear digits = []
after_other keypad.Backspace digits = take (length digits - 1) digits
after_other keypad.Help digits = digits
after_other (keypad.Fdk number) digits = digits

-- a digit is put at the end below the greatest length, and dropped at it
abbrev pub after_digit : Entry → List ℕ → ℕ → List ℕ
after_digit entry digits digit = if nat_lt (length digits) entry.greatest then digits ++ digit ∷ [] else digits

-- the digits after a key that is this digit, or none
abbrev pub after_value : Entry → Option ℕ → Key → List ℕ → List ℕ
after_value entry None key digits = after_other key digits
after_value entry (Some digit) key digits = after_digit entry digits digit

-- the digits of an entry, from all active keys pressed since it began; the latest stands first
abbrev pub entered : Entry → List Key → List ℕ
entered entry [] = []
entered entry (key ∷ earlier) = after_value entry (digit_in entry.kind key) key (entered entry earlier)

-- a terminating key ends the entry with this completion, and does nothing below the least length
abbrev pub ends_by : Entry → ℕ → Key → Completion → Seen
ends_by entry count key completion = if nat_lt count entry.least then Ignored else Ended (shows.Plain key) completion

-- what a terminating key does: CANCEL ends the entry at any length, ENTER, HELP and a function descriptor key from the least length on; no other key can terminate
abbrev pub terminator_seen : Entry → ℕ → Key → Seen
terminator_seen entry count keypad.Enter = ends_by entry count keypad.Enter completions.Enter
terminator_seen entry count keypad.Cancel = Ended (shows.Plain keypad.Cancel) completions.Cancel
terminator_seen entry count keypad.Help = ends_by entry count keypad.Help completions.Help
terminator_seen entry count (keypad.Fdk number) = ends_by entry count (keypad.Fdk number) (completions.Fdk number)
terminator_seen entry count (keypad.Digit digit) = Took (shows.Plain (keypad.Digit digit))
terminator_seen entry count (keypad.Hex value) = Took (shows.Plain (keypad.Hex value))
terminator_seen entry count keypad.Clear = Took (shows.Plain keypad.Clear)
terminator_seen entry count keypad.Backspace = Took (shows.Plain keypad.Backspace)

-- a digit is shown in a data entry, and masked in a PIN and in a key part
abbrev pub shown_digit : EntryKind → Key → Shown
shown_digit entry_kind.Pin key = shows.Masked
shown_digit entry_kind.Figures key = shows.Plain key
shown_digit entry_kind.Part key = shows.Masked

-- a digit is dropped at the greatest length; below it, it is taken, and ends an entry that ends by itself where it is the last
abbrev pub digit_seen : Entry → ℕ → Shown → Seen
digit_seen entry count shown = if nat_lt count entry.greatest then (if entry.auto_end && (count + 1 == entry.greatest) then Ended shown completions.Auto else Took shown) else Ignored

-- what a key does that is this digit, or none; a key that is active and no more is taken
abbrev pub value_seen : Entry → Option ℕ → ℕ → Key → Seen
value_seen entry None count key = if has_key entry.terminate key then terminator_seen entry count key else Took (shows.Plain key)
value_seen entry (Some digit) count key = digit_seen entry count (shown_digit entry.kind key)

-- what an active key does at this many digits. In a PIN the answer depends on no digit
abbrev pub active_seen : Entry → ℕ → Key → Seen
active_seen entry count key = value_seen entry (digit_in entry.kind key) count key

-- the key is an active digit of a PIN
abbrev pub is_secret : Entry → Key → Bool
is_secret entry key = is_pin entry.kind && is_some (digit_in entry.kind key) && has_key entry.active key
