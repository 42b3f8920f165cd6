-- Names, values and uses of key rows are valid in every run.
use Rattle.cbc_mac.specs.Modes.{blocks}
use Rattle.flat_machine.proofs.BoolLemmas.{and_of, both, or_none}
use Rattle.flat_machine.proofs.PendingPass.{working_passes}
use Rattle.flat_machine.proofs.KeyMoves.{KeyMove, KeysErased, KeysLoaded, KeysPut, KeysStay, key_moves}
use Rattle.flat_machine.proofs.KeyRowRuns.{all-erased, all-with_row}
use Rattle.flat_machine.proofs.SoundLemmas.{next_sound, opening_sound, ready_opening_sound}
use Rattle.flat_machine.specs.Ciphers.{Ciphers}
use Rattle.flat_machine.specs.Facts.{IsStart}
use Rattle.flat_machine.specs.KeyRowFacts.{KeepsBlocks, are_valid, imports_name, is_valid_row, loads_valid, submits_name}
use Rattle.flat_machine.specs.Machine.{Act, next, run_from}
use Rattle.flat_machine.specs.RequestSteps.{command_refusal, import_invalid, invalid_if}
use Rattle.des_core.specs.Bits.{bytes_of_bits}
use Rattle.des_core.specs.TripleDes.{tdea_back_bytes}
use Rattle.flat_machine.specs.Settings.{Setting, triple_des}
use Rattle.flat_machine.specs.Sound.{Sound, SubmitsOk}
use Rattle.flat_machine.specs.State.{Flat, Shared, opening, ready_opening}
use Rattle.key_attributes.specs.UseBits.{has_secure_construct, uses_valid}
use Rattle.key_attributes.specs.declared.KeyRow.{KeyRow}
use Rattle.key_import.specs.Imports.{decide_given, given_bytes, is_part, joined, longer_than_key, new_row, of_other_length, refuses_part, unfinished, unsealed, wrong_value_length}
use Rattle.key_import.specs.declared.ImportFault.{ImportFault}
use Rattle.key_import.specs.declared.ImportFault.TheVariants as fault
use Rattle.key_table.specs.KeyRows.{KeyRows, find_row}
use Rattle.pin_blocks.specs.PinRules.{PinRules}
use Rattle.pad_steps.specs.declared.commands.Command.{Command}
use Rattle.pad_steps.specs.declared.commands.Command.TheVariants as command
use Rattle.pad_steps.specs.declared.commands.ImportRequest.{ImportRequest}
use Rattle.pad_steps.specs.declared.steps.DiskWord.{DiskWord}
use Rattle.pad_steps.specs.declared.steps.Step.{Step}
use Rattle.pad_steps.specs.declared.steps.Step.TheVariants as step
use Rattle.pad_words.specs.Bytes.{exclusive_or}
use Rattle.pad_words.specs.KeyLengths.{is_key_length}
use Rattle.pad_words.specs.Names.{is_key_name}
use Rattle.secure_entry.specs.PartBuffers.{part_value}
use Rattle.std.proofs.Common.{ap, arith, inl, inr, subst, sym, ◌∙◌}
use Rattle.std.proofs.lemmas.Bool.{eqb-true}
use Rattle.std.proofs.lemmas.List.{length-append, length-drop, length-take-le}
use Rattle.std.specs.List.{concat, list_all}
use Rattle.std.specs.Prelude.{Bool, Err, IsTrue, List, None, Ok, Option, Result, Some, [], drop, false, if◌then◌else◌, length, map, not, refl, suc, take, true, zero, ℕ, ◌&&◌, ◌*◌, ◌-◌, ◌/◌, ◌==◌, ◌||◌, ◌∷◌, ◌≡◌}

-- every row is valid

-- what an import makes of a row
record Made (cipher : Ciphers) (request : ImportRequest) (old : Option KeyRow) (kek : Option (List ℕ)) (row : KeyRow) : Type 0 where
  bytes : List ℕ
  fits : wrong_value_length (length bytes) kek old ≡ false
  is : row ≡ new_row cipher.tdea_back request old kek bytes

made_given : (cipher : Ciphers) (request : ImportRequest) (old : Option KeyRow) (kek o : Option (List ℕ)) (row : KeyRow) → decide_given cipher.tdea_back request old kek o ≡ Ok row → Made cipher request old kek row
made_given cipher request old kek None row e = absurd (no_row fault.AccessDenied row e)
  where
    no_row : (why : ImportFault) (row : KeyRow) → Err why ≡ Ok row → ⊥
    no_row why row e = cc
made_given cipher request old kek (Some bytes) row e = unfaulted (refuses_part old request) (wrong_value_length (length bytes) kek old) refl e
  where
    no_row : (why : ImportFault) (row : KeyRow) → Err why ≡ Ok row → ⊥
    no_row why row e = cc

    same_row : (a b : KeyRow) (F : Result KeyRow ImportFault) → F ≡ Ok a → F ≡ Ok b → b ≡ a
    same_row a b F e f = cc

    unfaulted : (b c : Bool) → wrong_value_length (length bytes) kek old ≡ c → (if b then Err fault.AccessDenied else (if c then Err fault.InvalidKeyLength else Ok (new_row cipher.tdea_back request old kek bytes))) ≡ Ok row → Made cipher request old kek row
    unfaulted true c at e = absurd (no_row fault.AccessDenied row e)
    unfaulted false true at e = absurd (no_row fault.InvalidKeyLength row e)
    unfaulted false false at e = record { bytes = bytes; fits = at; is = same_row (new_row cipher.tdea_back request old kek bytes) row (Ok row) (sym e) refl }

-- lengths

length-exclusive_or : (xs ys : List ℕ) → length ys ≡ length xs → length (exclusive_or xs ys) ≡ length xs
unfolding exclusive_or
length-exclusive_or [] ys e = refl
length-exclusive_or (x ∷ xs) [] e = absurd (shorter (length xs) e)
  where
    shorter : (n : ℕ) → 0 ≡ suc n → ⊥
    shorter n e = omega (arith, e)
length-exclusive_or (x ∷ xs) (y ∷ ys) e =
    let rest : length (exclusive_or xs ys) ≡ length xs = length-exclusive_or xs ys (omega (arith, e)) in
    omega (arith, rest)

length-deciphered : (f : List ℕ → List ℕ) → ((block : List ℕ) → length block ≡ 8 → length (f block) ≡ 8) → (k : ℕ) (bytes : List ℕ) → length bytes ≡ 8 * k → length (concat (map f (blocks k bytes))) ≡ 8 * k
unfolding blocks
length-deciphered f keeps zero bytes e = refl
length-deciphered f keeps (suc k) bytes e =
    let first : length (take 8 bytes) ≡ 8 = length-take-le 8 bytes (omega (arith, e)) in
    let left : length (drop 8 bytes) ≡ length bytes - 8 = length-drop 8 bytes in
    let rest : length (concat (map f (blocks k (drop 8 bytes)))) ≡ 8 * k = length-deciphered f keeps k (drop 8 bytes) (omega (arith, e, left)) in
    length-append (f (take 8 bytes)) (concat (map f (blocks k (drop 8 bytes)))) ∙ omega (arith, keeps (take 8 bytes) first, rest)

-- so many whole blocks
record Whole (n : ℕ) : Type 0 where
  count : ℕ
  is : n ≡ 8 * count
  quotient : n / 8 ≡ count

whole_key : (n : ℕ) → is_key_length n ≡ true → Whole n
whole_key n h = by_length (n == 8) (n == 16) (n == 24) refl refl refl h
  where
    by_length : (b c d : Bool) → (n == 8) ≡ b → (n == 16) ≡ c → (n == 24) ≡ d → (b || c || d) ≡ true → Whole n
    by_length true c d e f g h = let at = eqb-true n 8 e in record { count = 1; is = at; quotient = ap (λ (m : ℕ). m / 8) at }
    by_length false true d e f g h = let at = eqb-true n 16 f in record { count = 2; is = at; quotient = ap (λ (m : ℕ). m / 8) at }
    by_length false false true e f g h = let at = eqb-true n 24 g in record { count = 3; is = at; quotient = ap (λ (m : ℕ). m / 8) at }
    by_length false false false e f g h = cc

length-unsealed : (cipher : Ciphers) → KeepsBlocks cipher → (kek : Option (List ℕ)) (bytes : List ℕ) → is_key_length (length bytes) ≡ true → length (unsealed cipher.tdea_back kek bytes) ≡ length bytes
length-unsealed cipher keeps None bytes h = refl
length-unsealed cipher keeps (Some kek) bytes h =
    let whole = whole_key (length bytes) h in
    ap (λ (k : ℕ). length (concat (map (cipher.tdea_back kek) (blocks k bytes)))) whole.quotient ∙ length-deciphered (cipher.tdea_back kek) (keeps kek) whole.count bytes whole.is ∙ sym whole.is

not_false : (b : Bool) → not b ≡ false → b ≡ true
not_false true h = refl
not_false false h = cc

length-joined : (old : Option KeyRow) (value : List ℕ) (size : ℕ) → length value ≡ size → of_other_length size old ≡ false → length (joined old value) ≡ size
length-joined None value size e h = e
length-joined (Some row) value size e h = length-exclusive_or value row.value (eqb-true (length row.value) size (not_false (length row.value == size) h) ∙ sym e) ∙ e

-- the name and the uses are the request's, and the value has a key's length
made_valid : (cipher : Ciphers) → KeepsBlocks cipher → (request : ImportRequest) (old : Option KeyRow) (kek : Option (List ℕ)) (row : KeyRow) → Made cipher request old kek row → is_key_name request.name ≡ true → uses_valid request.uses ≡ true → is_valid_row row ≡ true
made_valid cipher keeps request old kek row made name uses =
    let both_fit = or_none (not (is_key_length (length made.bytes)) || longer_than_key (length made.bytes) kek) (of_other_length (length made.bytes) old) made.fits in
    let key_long = not_false (is_key_length (length made.bytes)) (or_none (not (is_key_length (length made.bytes))) (longer_than_key (length made.bytes) kek) both_fit.0).0 in
    let long = length-joined old (unsealed cipher.tdea_back kek made.bytes) (length made.bytes) (length-unsealed cipher keeps kek made.bytes key_long) both_fit.1 in
    ap is_valid_row made.is ∙ and_of (is_key_name request.name && is_key_length (length (joined old (unsealed cipher.tdea_back kek made.bytes)))) (uses_valid request.uses) (and_of (is_key_name request.name) _ name (ap is_key_length long ∙ key_long)) uses

-- what pending imports ask for
abbrev import_passes : Command → Bool
import_passes (command.ImportKey request) = is_key_name request.name && uses_valid request.uses
import_passes other = true

submit_passes : (pin_rules : PinRules) (c : Command) → imports_name c ≡ true → command_refusal pin_rules c ≡ None → import_passes c ≡ true
submit_passes pin_rules (command.GetPin rules) name e = refl
submit_passes pin_rules (command.GetData rules) name e = refl
submit_passes pin_rules (command.SecureKeyEntry rules) name e = refl
submit_passes pin_rules (command.MaintainPin on) name e = refl
submit_passes pin_rules (command.Pin r) name e = refl
submit_passes pin_rules (command.Crypt r) name e = refl
submit_passes pin_rules (command.ImportKey r) name e = and_of (is_key_name r.name) (uses_valid r.uses) name (not_false (uses_valid r.uses) (or_none (not (uses_valid r.uses)) _ (or_none _ (has_secure_construct r.uses && not (is_part r.source)) (valid_import (import_invalid r) e)).0).0)
  where
    valid_import : (b : Bool) → invalid_if b ≡ None → b ≡ false
    valid_import true e = cc
    valid_import false e = refl
submit_passes pin_rules (command.DeleteKey name_of) name e = refl
submit_passes pin_rules command.Init name e = refl
submit_passes pin_rules command.Reset name e = refl
submit_passes pin_rules command.RsaImport name e = refl

submits_ok : (pin_rules : PinRules) (s : Step) → submits_name s ≡ true → SubmitsOk import_passes pin_rules s
submits_ok pin_rules (step.Open t) e = tt
submits_ok pin_rules (step.Close t) e = tt
submits_ok pin_rules (step.Listen t c) e = tt
submits_ok pin_rules (step.Lock t) e = tt
submits_ok pin_rules (step.Unlock t) e = tt
submits_ok pin_rules (step.Submit t limit c) e = submit_passes pin_rules c e
submits_ok pin_rules (step.Cancel t id) e = tt
submits_ok pin_rules step.Begin e = tt
submits_ok pin_rules step.Finish e = tt
submits_ok pin_rules (step.Press k) e = tt
submits_ok pin_rules (step.Tick n) e = tt
submits_ok pin_rules (step.Ask t q) e = tt
submits_ok pin_rules step.Off e = tt
submits_ok pin_rules step.Boot e = tt

valid_move : (set : Setting) → KeepsBlocks set.cipher → (p : Shared) (w : DiskWord) (after : KeyRows) → KeyMove set p w after → loads_valid w ≡ true → Sound import_passes p → are_valid p.keys ≡ true → are_valid after ≡ true
valid_move set keeps p w after (KeysStay e) loaded sound h = ap are_valid e ∙ h
valid_move set keeps p w after (KeysLoaded rows at e) loaded sound h = ap are_valid e ∙ sym (ap loads_valid at) ∙ loaded
valid_move set keeps p w after (KeysPut a r kek row slot in_work asked ready e) loaded sound h =
    let passes = sym (ap import_passes asked) ∙ working_passes import_passes p a sound in_work in
    let parts = both (is_key_name r.name) (uses_valid r.uses) passes in
    let made = made_given set.cipher r (unfinished (find_row r.name p.keys)) kek (given_bytes (part_value p.part) r.source) row ready.gives in
    ap are_valid e ∙ all-with_row (λ each. is_valid_row each.1) slot row p.keys (made_valid set.cipher keeps r (unfinished (find_row r.name p.keys)) kek row made parts.0 parts.1) h
valid_move set keeps p w after (KeysErased todo erases e) loaded sound h = ap are_valid e ∙ all-erased (λ each. is_valid_row each.1) todo p.keys erases h

valid_run : (set : Setting) → KeepsBlocks set.cipher → (h : Flat) (acts : List Act) → list_all (λ (a : Act). loads_valid a.word && submits_name a.step) acts ≡ true → Sound import_passes h.shared → are_valid h.shared.keys ≡ true → are_valid (run_from set h acts).shared.keys ≡ true
valid_run set keeps h [] e sound k = k
valid_run set keeps h (a ∷ acts) e sound k =
    let parts = both (loads_valid a.word && submits_name a.step) (list_all (λ (b : Act). loads_valid b.word && submits_name b.step) acts) e in
    let now = both (loads_valid a.word) (submits_name a.step) parts.0 in
    valid_run set keeps (next set h a.step a.word).state acts parts.1 (next_sound import_passes set h a.step a.word (submits_ok set.pin_rules a.step now.1) sound)
    (valid_move set keeps h.shared a.word (next set h a.step a.word).state.shared.keys (key_moves set h a.step a.word) now.0 sound k)

pub valid_runs : (set : Setting) (start : Flat) (acts : List Act) → KeepsBlocks set.cipher → IsStart start → IsTrue (list_all (λ (a : Act). loads_valid a.word && submits_name a.step) acts) → IsTrue (are_valid (run_from set start acts).shared.keys)
valid_runs set start acts keeps (inl e) fine = subst (λ (h : Flat). are_valid (run_from set h acts).shared.keys ≡ true) (sym e) (valid_run set keeps opening acts fine (opening_sound import_passes) refl)
valid_runs set start acts keeps (inr e) fine = subst (λ (h : Flat). are_valid (run_from set h acts).shared.keys ≡ true) (sym e) (valid_run set keeps ready_opening acts fine (ready_opening_sound import_passes) refl)

-- triple DES deciphers to eight bytes

length-bytes_of_bits : (count : ℕ) (bits : List ℕ) → length (bytes_of_bits count bits) ≡ count
unfolding bytes_of_bits
length-bytes_of_bits zero bits = refl
length-bytes_of_bits (suc count) bits =
    let rest : length (bytes_of_bits count (drop 8 bits)) ≡ count = length-bytes_of_bits count (drop 8 bits) in
    omega (arith, rest)

pub triple_des_keeps_blocks : KeepsBlocks triple_des
unfolding tdea_back_bytes
triple_des_keeps_blocks key block long = length-bytes_of_bits 8 _
