-- Printed words are read again: they hold no space, and say what they spell.
use Rattle.std.proofs.Common.{◌≡◌, ◌≤◌, ◌<◌, ℕ, List, [], ◌∷◌, ◌++◌, length, Option, Some, None, true, refl, arith, ◌∙◌, ◌^◌, ◌/◌, ◌%◌, map}
use Rattle.std.specs.Prelude.{◌&&◌, nat_le}
use Rattle.std.specs.List.{list_all, AllByRecursion}
use Rattle.std.specs.Fmt.{decimal}
use Rattle.std.specs.Str.{all_ascii_digits}
use Rattle.std.proofs.lemmas.Bool.Decides.{nat_tests}
use Rattle.std.proofs.lemmas.List.Folds.{list_all-append}
use Rattle.pad_words.specs.Bytes.{unpacked}
use Rattle.pad_words.specs.Names.{is_name_byte}
use Rattle.pad_words.specs.declared.bytes.Block.{Block}
use Rattle.key_source.specs.KeyWordLaws.{key_text-passes}
use Rattle.key_source.specs.declared.Key.{Key}
use Rattle.key_source.specs.declared.Mask.{Mask}
use Rattle.pad_steps.specs.declared.commands.Start.{Start}
use Rattle.pad_steps.specs.declared.commands.Start.TheVariants as started
use Rattle.script_lang.specs.Words.{Digits, Says, Tagged, Word, hex_digit, hex_value, hex_values, is_no_space, spaced, word_text}
use Rattle.script_lang.specs.Spelling.{block_word, body_word, byte_word, bytes_word, eight_values, four_values, key_word, mask_values, mask_word, name_word, nibbles_word, number_word, optional_word, start_word, uses_word}
use Rattle.script_lang.proofs.Fits.{BlockFits, IsByte, IsNibble, KeyFits, MaskFits, NameFits, OptionFits, StartFits, UsesFit}
use Rattle.script_lang.proofs.NumberLaws.{digits_decimal_all}
use Rattle.script_lang.proofs.Options.{both_true}
use Rattle.script_lang.proofs.Readers.{Prints, Spaceless}

pub says_spaced : (ws : List Word) → AllByRecursion Prints ws → Says (spaced ws) ws
says_spaced [] all = refl
says_spaced (w ∷ ws) all = (spaced ws, record { text = word_text w; parts = refl; spaceless = all.0.0; spelled = all.0.1 }, says_spaced ws all.1)

-- ---- words without spaces

is_no_space_above : (c : ℕ) → 32 < c → is_no_space c ≡ true
is_no_space_above c high = grind (arith, nat_tests)

pub digits_spaceless : (ds : List ℕ) → all_ascii_digits ds ≡ true → Spaceless ds
digits_spaceless [] all = refl
digits_spaceless (c ∷ cs) all =
    let b = both_true (nat_le 48 c && nat_le c 57) (all_ascii_digits cs) all in
    let t = both_true (nat_le 48 c) (nat_le c 57) b.0 in
    let low : 48 ≤ c = grind (arith, nat_tests, t.0) in
    rw (is_no_space_above c (omega (arith, low))) (digits_spaceless cs b.1)

pub number_prints : (n : ℕ) → n < 2 ^ 64 → Prints (number_word n)
number_prints n small = (digits_spaceless (decimal n) (digits_decimal_all n small), refl)

hex_digit_above : (v : ℕ) → 32 < hex_digit v
hex_digit_above v = grind (arith, nat_tests)

hex_spaceless : (ds : List ℕ) → Spaceless (map hex_digit ds)
hex_spaceless [] = refl
hex_spaceless (d ∷ ds) = rw (is_no_space_above (hex_digit d) (hex_digit_above d)) (hex_spaceless ds)

hex_digit-value : (v : ℕ) → v < 16 → hex_value (hex_digit v) ≡ Some v
hex_digit-value v small = grind (arith, nat_tests)

hex_values-digits : (ds : List ℕ) → AllByRecursion IsNibble ds → hex_values (map hex_digit ds) ≡ Some ds
unfolding hex_values
hex_values-digits [] all = refl
hex_values-digits (d ∷ ds) all = rw (hex_digit-value d all.0, hex_values-digits ds all.1) refl

pub digits_print : (ds : List ℕ) → AllByRecursion IsNibble ds → Prints (Digits ds)
digits_print ds all = (hex_spaceless ds, hex_values-digits ds all)

all_append : (P : ℕ → Type 0) (xs ys : List ℕ) → AllByRecursion P xs → AllByRecursion P ys → AllByRecursion P (xs ++ ys)
all_append P [] ys all more = more
all_append P (x ∷ xs) ys all more = (all.0, all_append P xs ys all.1 more)

four_values_small : (n : ℕ) → n < 65536 → AllByRecursion IsNibble (four_values n)
four_values_small n small = (omega (arith, small), (omega arith, (omega arith, (omega arith, tt))))

eight_values_small : (n : ℕ) → n < 2 ^ 32 → AllByRecursion IsNibble (eight_values n)
eight_values_small n small = all_append IsNibble (four_values (n / 65536)) (four_values (n % 65536)) (four_values_small (n / 65536) (omega (arith, small))) (four_values_small (n % 65536) (omega arith))

pub mask_prints : (m : Mask) → MaskFits m → Prints (mask_word m)
unfolding mask_values
mask_prints m fits = digits_print (eight_values m.keys ++ eight_values m.fdks) (all_append IsNibble (eight_values m.keys) (eight_values m.fdks) (eight_values_small m.keys fits.0) (eight_values_small m.fdks fits.1))

pub key_prints : (k : Key) → KeyFits k → Prints (key_word k)
key_prints k fits = (key_text-passes (list_all is_no_space) refl refl k fits, refl)

name_byte_above : (c : ℕ) → is_name_byte c ≡ true → 32 < c
name_byte_above c e = grind (arith, nat_tests)

name_spaceless : (name : List ℕ) → list_all is_name_byte name ≡ true → Spaceless name
name_spaceless [] all = refl
name_spaceless (c ∷ cs) all =
    let b = both_true (is_name_byte c) (list_all is_name_byte cs) all in
    rw (is_no_space_above c (name_byte_above c b.0)) (name_spaceless cs b.1)

pub name_prints : (name : List ℕ) → NameFits name → Prints (name_word name)
name_prints name fits = (name_spaceless name (both_true (nat_le 1 (length name) && nat_le (length name) 32) (list_all is_name_byte name) fits).1, refl)

pub optional_prints : {A : Type 0} (Fits : A → Type 0) (word : A → Word) → ((x : A) → Fits x → Prints (word x)) → (o : Option A) → OptionFits Fits o → Prints (optional_word word o)
optional_prints Fits word prints None fits = (refl, refl)
optional_prints Fits word prints (Some x) fits = prints x fits

halves_small : (bytes : List ℕ) → AllByRecursion IsByte bytes → AllByRecursion IsNibble (unpacked bytes)
halves_small [] all = tt
halves_small (b ∷ bytes) all = (omega (arith, all.0), (omega arith, halves_small bytes all.1))

pub bytes_print : (bytes : List ℕ) → AllByRecursion IsByte bytes → Prints (bytes_word bytes)
bytes_print bytes all = digits_print (unpacked bytes) (halves_small bytes all)

pub block_prints : (block : Block) → BlockFits block → Prints (block_word block)
block_prints block fits = bytes_print block.0 fits.1

pub nibbles_print : (values : List ℕ) → AllByRecursion IsNibble values → Prints (nibbles_word values)
nibbles_print [] all = (refl, refl)
nibbles_print (v ∷ vs) all = digits_print (v ∷ vs) all

pub uses_print : (uses : ℕ) → UsesFit uses → Prints (uses_word uses)
uses_print uses small = digits_print (four_values uses) (four_values_small uses small)

tagged_prints : (name ds : List ℕ) → NameFits name → AllByRecursion IsNibble ds → Prints (Tagged name ds)
tagged_prints name ds fits all =
    let digits = digits_print ds all in
    (list_all-append is_no_space name (58 ∷ map hex_digit ds) ∙ rw ((name_prints name fits).0, digits.0) refl, (map hex_digit ds, refl, digits.1))

pub start_prints : (s : Start) → StartFits s → Prints (start_word s)
start_prints started.Zero fits = (refl, refl)
start_prints (started.Clear block) fits = block_prints block fits
start_prints (started.Sealed name block) fits = tagged_prints name (unpacked block.0) fits.0 (halves_small block.0 fits.1.1)

pub byte_prints : (byte : ℕ) → IsByte byte → Prints (byte_word byte)
byte_prints byte small = bytes_print (byte ∷ []) (small, tt)

pub body_prints : (body : List ℕ) → AllByRecursion IsByte body → Prints (body_word body)
body_prints [] all = (refl, refl)
body_prints (b ∷ bytes) all = bytes_print (b ∷ bytes) all
