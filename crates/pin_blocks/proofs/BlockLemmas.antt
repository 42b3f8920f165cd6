-- The nibbles of each form: they are sixteen and small, and they fix the PIN.
use Rattle.std.proofs.Common.{◌≡◌, ℕ, suc, ◌+◌, ◌-◌, ◌<◌, ◌≤◌, List, [], ◌∷◌, ◌++◌, length, get_or, take, drop, replicate, refl, rules, sym, ap, ◌∙◌, arith, true}
use Rattle.std.specs.Bool.{IsTrue}
use Rattle.std.specs.List.{All}
use Rattle.std.specs.Prelude.{None, nat_lt, ◌%◌}
use Rattle.std.proofs.lemmas.Bool.Decides.{nat_tests}
use Rattle.std.proofs.lemmas.List.{length-append, length-map, length-take-le, places, take-take, take_at}
use Rattle.std.proofs.lemmas.List.Elements.{All-append, All-cons, All-drop, All-head, All-map, All-nil, All-replicate, All-tail, All-take, All-weaker}
use Rattle.std.proofs.lemmas.List.Sums.{AllPass-from_list_all}
use Rattle.std.proofs.lemmas.Nat.{xor_lt}
use Rattle.pad_words.specs.Bytes.{exclusive_or, packed}
use Rattle.pad_steps.specs.Accounts.{all_decimal, is_pan}
use Rattle.pad_steps.specs.declared.commands.Form.{Form}
use Rattle.pad_steps.specs.declared.commands.Form.TheVariants as forms
use Rattle.pin_blocks.proofs.Packing.{AreNibbles, packed-injective}
use Rattle.pin_blocks.specs.BlockWork.{fill_count}
use Rattle.pin_blocks.specs.Blocks.{block_nibbles, fill_nibbles, fits_form, is_supported, longest, pan_field, sixteen}
use Rattle.pin_blocks.specs.Faults.{block_fault}

abbrev pub AreDecimal : List ℕ → Type 0
AreDecimal values = All (λ value. value < 10) values

AreDecimal-all_decimal : (values : List ℕ) → all_decimal values ≡ true → AreDecimal values
AreDecimal-all_decimal values decimal =
    All-weaker (λ value. nat_lt value 10 ≡ true) (λ value. value < 10) (λ value small. grind (arith, nat_tests)) values
    (AllPass-from_list_all (λ value. nat_lt value 10) values decimal)

pub length-pan : (customer : List ℕ) → IsTrue (is_pan customer) → 12 ≤ length customer
length-pan customer pan = grind (arith, nat_tests)

AreDecimal-pan : (customer : List ℕ) → IsTrue (is_pan customer) → AreDecimal customer
AreDecimal-pan customer pan = AreDecimal-all_decimal customer (grind (arith, nat_tests))

AreNibbles-decimal : (values : List ℕ) → AreDecimal values → AreNibbles values
AreNibbles-decimal values decimal = All-weaker (λ value. value < 10) (λ value. value < 16) (λ value small. omega arith) values decimal

AreNibbles-pan_field : (customer : List ℕ) → IsTrue (is_pan customer) → AreNibbles (pan_field customer)
AreNibbles-pan_field customer pan =
    let small : ℕ → Type 0 = λ value. value < 16 in
    let start = length customer - 12 in
    let last : List ℕ = drop start customer in
    let last_small = All-drop small start customer (AreNibbles-decimal customer (AreDecimal-pan customer pan)) in
    let zero_small : 0 < 16 = omega arith in
    All-cons small 0 (0 ∷ 0 ∷ 0 ∷ last) zero_small
    (All-cons small 0 (0 ∷ 0 ∷ last) zero_small (All-cons small 0 (0 ∷ last) zero_small (All-cons small 0 last zero_small last_small)))

pub AreNibbles-exclusive_or : (xs ys : List ℕ) → AreNibbles xs → AreNibbles ys → AreNibbles (exclusive_or xs ys)
unfolding exclusive_or
AreNibbles-exclusive_or [] ys xs_small ys_small = All-nil (λ value. value < 16)
AreNibbles-exclusive_or (x ∷ xs) [] xs_small ys_small = All-nil (λ value. value < 16)
AreNibbles-exclusive_or (x ∷ xs) (y ∷ ys) xs_small ys_small =
    let small : ℕ → Type 0 = λ value. value < 16 in
    All-cons small _ (exclusive_or xs ys) (xor_lt 4 x y (All-head small x xs xs_small) (All-head small y ys ys_small))
    (AreNibbles-exclusive_or xs ys (All-tail small x xs xs_small) (All-tail small y ys ys_small))

-- the control nibble, the length and the PIN, and what fills the block
AreNibbles-with_length : (control : ℕ) (digits rest : List ℕ) → control < 16 → length digits ≤ 12 → AreDecimal digits → AreNibbles rest
    → AreNibbles (sixteen (control ∷ length digits ∷ digits ++ rest))
AreNibbles-with_length control digits rest control_small few decimal rest_small =
    let small : ℕ → Type 0 = λ value. value < 16 in
    let filled_small = All-append small digits rest (AreNibbles-decimal digits decimal) rest_small in
    All-take small 16 (control ∷ length digits ∷ digits ++ rest)
    (All-cons small control (length digits ∷ digits ++ rest) control_small (All-cons small (length digits) (digits ++ rest) (omega arith) filled_small))

AreNibbles-padded : (front digits : List ℕ) (pad : ℕ) → AreNibbles front → AreDecimal digits → pad < 16 → AreNibbles (sixteen (front ++ digits ++ replicate 16 pad))
AreNibbles-padded front digits pad front_small decimal pad_small =
    let small : ℕ → Type 0 = λ value. value < 16 in
    All-take small 16 (front ++ digits ++ replicate 16 pad)
    (All-append small (front ++ digits) (replicate 16 pad)
    (All-append small front digits front_small (AreNibbles-decimal digits decimal)) (All-replicate small 16 pad pad_small))

AreNibbles-fill : (words : List ℕ) → AreNibbles (fill_nibbles words)
AreNibbles-fill words = All-map (λ value. value < 16) (λ (word : ℕ). 10 + word % 6) words (λ k d within. omega arith)

length-pan_field : (customer : List ℕ) → IsTrue (is_pan customer) → length (pan_field customer) ≡ 16
length-pan_field customer pan =
    let long = length-pan customer pan in grind (arith, places)

pub length-exclusive_or : (xs ys : List ℕ) → length xs ≡ length ys → length (exclusive_or xs ys) ≡ length xs
unfolding exclusive_or
length-exclusive_or [] ys same = refl
length-exclusive_or (x ∷ xs) [] same = cc
length-exclusive_or (x ∷ xs) (y ∷ ys) same = ap suc (length-exclusive_or xs ys (omega arith))

length-with_length : (control : ℕ) (digits rest : List ℕ) → 14 ≤ length digits + length rest → length (sixteen (control ∷ length digits ∷ digits ++ rest)) ≡ 16
length-with_length control digits rest enough =
    let long : length (digits ++ rest) ≡ length digits + length rest = length-append digits rest in
    length-take-le 16 (control ∷ length digits ∷ digits ++ rest) (omega arith)

length-padded : (front digits : List ℕ) (pad : ℕ) → length (sixteen (front ++ digits ++ replicate 16 pad)) ≡ 16
length-padded front digits pad =
    let whole : length (front ++ digits ++ replicate 16 pad) ≡ length (front ++ digits) + 16 = length-append (front ++ digits) (replicate 16 pad) in
    length-take-le 16 (front ++ digits ++ replicate 16 pad) (omega arith)

length-with_account : (nibbles customer : List ℕ) → length nibbles ≡ 16 → IsTrue (is_pan customer) → length (exclusive_or nibbles (pan_field customer)) ≡ 16
length-with_account nibbles customer long pan =
    length-exclusive_or nibbles (pan_field customer) (long ∙ sym (length-pan_field customer pan)) ∙ long

pub length-format_0 : (digits customer : List ℕ) → IsTrue (is_pan customer)
    → length (exclusive_or (sixteen (0 ∷ length digits ∷ digits ++ replicate 16 15)) (pan_field customer)) ≡ 16
length-format_0 digits customer pan =
    length-with_account (sixteen (0 ∷ length digits ∷ digits ++ replicate 16 15)) customer (length-with_length 0 digits (replicate 16 15) (omega arith)) pan

pub AreNibbles-format_0 : (digits customer : List ℕ) → length digits ≤ 12 → AreDecimal digits → IsTrue (is_pan customer)
    → AreNibbles (exclusive_or (sixteen (0 ∷ length digits ∷ digits ++ replicate 16 15)) (pan_field customer))
AreNibbles-format_0 digits customer few decimal pan =
    AreNibbles-exclusive_or (sixteen (0 ∷ length digits ∷ digits ++ replicate 16 15)) (pan_field customer)
    (AreNibbles-with_length 0 digits (replicate 16 15) (omega arith) few decimal (All-replicate (λ value. value < 16) 16 15 (omega arith)))
    (AreNibbles-pan_field customer pan)

-- a PIN in a form that takes its length, customer data and padding nibble
pub record Fits (form : Form) (digits customer : List ℕ) (pad : ℕ) : Type 0 where
  pub supported : is_supported form ≡ true
  pub suits : fits_form form customer ≡ true
  pub nibble : pad < 16
  pub least : 4 ≤ length digits
  pub most : length digits ≤ longest form

pub Fits-block_fault : (form : Form) (digits customer : List ℕ) (pad : ℕ) → block_fault form digits customer pad ≡ None → Fits form digits customer pad
Fits-block_fault form digits customer pad none = record {
  supported = grind (arith, nat_tests, none);
  suits = grind (arith, nat_tests, none);
  nibble = grind (arith, nat_tests, none);
  least = grind (arith, nat_tests, none);
  most = grind (arith, nat_tests, none);
}

-- a block is sixteen nibbles
pub length-block : (form : Form) (digits customer fill : List ℕ) (pad : ℕ) → Fits form digits customer pad → fill_count form (length digits) ≤ length fill
    → length (block_nibbles form digits customer pad fill) ≡ 16
length-block forms.Iso0 digits customer fill pad fits enough = length-format_0 digits customer fits.suits
length-block forms.Iso1 digits customer fill pad fits enough =
    let ten : length customer ≡ 10 = grind (arith, nat_tests, fits.suits) in
    let least = fits.least in
    length-with_length 1 digits customer (omega arith)
length-block forms.Iso2 digits customer fill pad fits enough = absurd (search (rules, fits.supported))
length-block forms.Iso3 digits customer fill pad fits enough =
    let long : length (fill_nibbles fill) ≡ length fill = length-map fill _ in
    length-with_account (sixteen (3 ∷ length digits ∷ digits ++ fill_nibbles fill)) customer (length-with_length 3 digits (fill_nibbles fill) (omega arith)) fits.suits
length-block forms.Iso4 digits customer fill pad fits enough = absurd (search (rules, fits.supported))
length-block forms.Ibm3624 digits customer fill pad fits enough = length-padded [] digits pad
length-block forms.Diebold digits customer fill pad fits enough = length-padded [] digits pad
length-block forms.DieboldCo digits customer fill pad fits enough = length-padded customer digits pad

-- each nibble of a block is below 16
pub AreNibbles-block : (form : Form) (digits customer fill : List ℕ) (pad : ℕ) → Fits form digits customer pad → AreDecimal digits → AreNibbles customer
    → AreNibbles (block_nibbles form digits customer pad fill)
AreNibbles-block forms.Iso0 digits customer fill pad fits decimal small = AreNibbles-format_0 digits customer fits.most decimal fits.suits
AreNibbles-block forms.Iso1 digits customer fill pad fits decimal small = AreNibbles-with_length 1 digits customer (omega arith) fits.most decimal small
AreNibbles-block forms.Iso2 digits customer fill pad fits decimal small = All-nil (λ value. value < 16)
AreNibbles-block forms.Iso3 digits customer fill pad fits decimal small =
    AreNibbles-exclusive_or (sixteen (3 ∷ length digits ∷ digits ++ fill_nibbles fill)) (pan_field customer)
    (AreNibbles-with_length 3 digits (fill_nibbles fill) (omega arith) fits.most decimal (AreNibbles-fill fill))
    (AreNibbles-pan_field customer fits.suits)
AreNibbles-block forms.Iso4 digits customer fill pad fits decimal small = All-nil (λ value. value < 16)
AreNibbles-block forms.Ibm3624 digits customer fill pad fits decimal small = AreNibbles-padded [] digits pad (All-nil (λ value. value < 16)) decimal fits.nibble
AreNibbles-block forms.Diebold digits customer fill pad fits decimal small = AreNibbles-padded [] digits pad (All-nil (λ value. value < 16)) decimal fits.nibble
AreNibbles-block forms.DieboldCo digits customer fill pad fits decimal small = AreNibbles-padded customer digits pad small decimal fits.nibble

-- PINs of one length at the front of the same nibbles are the same
pub same_pin : (n : ℕ) (first second rest others : List ℕ) → length first ≡ length second → length first ≤ n
    → take n (first ++ rest) ≡ take n (second ++ others) → first ≡ second
same_pin n first second rest others long few same =
    sym (take-take (length first) n (first ++ rest) few ∙ take_at first rest (length first) refl)
    ∙ (ap (take (length first)) same ∙ (take-take (length first) n (second ++ others) few ∙ take_at second others (length first) (sym long)))

-- the length stands before the PIN, so the PINs need not be known to have one length
pub pin_after_length : (control : ℕ) (first second rest others : List ℕ) → length first ≤ 14
    → sixteen (control ∷ length first ∷ first ++ rest) ≡ sixteen (control ∷ length second ∷ second ++ others) → first ≡ second
pin_after_length control first second rest others few same =
    same_pin 14 first second rest others (ap (λ nibbles. get_or nibbles 1 0) same) few (ap (drop 2) same)

abbrev pub UndoesItself : Type 0
UndoesItself = (xs ys : List ℕ) → length xs ≡ length ys → exclusive_or (exclusive_or xs ys) ys ≡ xs

-- nibbles that are XORed with one account number to the same are the same
pub without_account : UndoesItself → (first second customer : List ℕ) → length first ≡ 16 → length second ≡ 16 → IsTrue (is_pan customer)
    → exclusive_or first (pan_field customer) ≡ exclusive_or second (pan_field customer) → first ≡ second
without_account undone first second customer first_long second_long pan same =
    let account = pan_field customer in
    let account_long : length account ≡ 16 = length-pan_field customer pan in
    sym (undone first account (first_long ∙ sym account_long))
    ∙ (ap (λ nibbles. exclusive_or nibbles account) same ∙ undone second account (second_long ∙ sym account_long))

pub pin_from_format_0 : UndoesItself → (first second customer : List ℕ) → length first ≤ 12 → IsTrue (is_pan customer)
    → exclusive_or (sixteen (0 ∷ length first ∷ first ++ replicate 16 15)) (pan_field customer) ≡ exclusive_or (sixteen (0 ∷ length second ∷ second ++ replicate 16 15)) (pan_field customer)
    → first ≡ second
pin_from_format_0 undone first second customer few pan same =
    pin_after_length 0 first second (replicate 16 15) (replicate 16 15) (omega arith)
    (without_account undone (sixteen (0 ∷ length first ∷ first ++ replicate 16 15)) (sixteen (0 ∷ length second ∷ second ++ replicate 16 15)) customer
    (length-with_length 0 first (replicate 16 15) (omega arith)) (length-with_length 0 second (replicate 16 15) (omega arith)) pan same)

-- format 3, whatever words fill the two blocks
pub pin_from_format_3 : UndoesItself → (first second customer fill others : List ℕ) → length first ≤ 12 → IsTrue (is_pan customer)
    → 14 - length first ≤ length fill → 14 - length second ≤ length others
    → exclusive_or (sixteen (3 ∷ length first ∷ first ++ fill_nibbles fill)) (pan_field customer) ≡ exclusive_or (sixteen (3 ∷ length second ∷ second ++ fill_nibbles others)) (pan_field customer)
    → first ≡ second
pin_from_format_3 undone first second customer fill others few pan enough others_enough same =
    let long : length (fill_nibbles fill) ≡ length fill = length-map fill _ in
    let others_long : length (fill_nibbles others) ≡ length others = length-map others _ in
    pin_after_length 3 first second (fill_nibbles fill) (fill_nibbles others) (omega arith)
    (without_account undone (sixteen (3 ∷ length first ∷ first ++ fill_nibbles fill)) (sixteen (3 ∷ length second ∷ second ++ fill_nibbles others)) customer
    (length-with_length 3 first (fill_nibbles fill) (omega arith)) (length-with_length 3 second (fill_nibbles others) (omega arith)) pan same)

-- behind a coordination number each
pub pin_after_number : (front back first second rest others : List ℕ) → length front ≡ 1 → length back ≡ 1 → length first ≡ length second → length first ≤ 12
    → sixteen (front ++ first ++ rest) ≡ sixteen (back ++ second ++ others) → first ≡ second
pin_after_number [] back first second rest others one other_one long few same = absurd (omega arith)
pin_after_number (a ∷ b ∷ front) back first second rest others one other_one long few same = absurd (omega arith)
pin_after_number (a ∷ []) [] first second rest others one other_one long few same = absurd (omega arith)
pin_after_number (a ∷ []) (b ∷ c ∷ back) first second rest others one other_one long few same = absurd (omega arith)
pin_after_number (a ∷ []) (b ∷ []) first second rest others one other_one long few same =
    same_pin 15 first second rest others long (omega arith) (ap (drop 1) same)

-- the same bytes are the same nibbles
pub same_nibbles : (form : Form) (first second customer other_customer fill other_fill : List ℕ) (pad other_pad : ℕ)
    → Fits form first customer pad → Fits form second other_customer other_pad → AreDecimal first → AreDecimal second → AreNibbles customer → AreNibbles other_customer
    → fill_count form (length first) ≤ length fill → fill_count form (length second) ≤ length other_fill
    → packed (block_nibbles form first customer pad fill) ≡ packed (block_nibbles form second other_customer other_pad other_fill)
    → block_nibbles form first customer pad fill ≡ block_nibbles form second other_customer other_pad other_fill
same_nibbles form first second customer other_customer fill other_fill pad other_pad fits others decimal other_decimal small other_small enough other_enough same =
    packed-injective (block_nibbles form first customer pad fill) (block_nibbles form second other_customer other_pad other_fill)
    (length-block form first customer fill pad fits enough ∙ sym (length-block form second other_customer other_fill other_pad others other_enough))
    (AreNibbles-block form first customer fill pad fits decimal small) (AreNibbles-block form second other_customer other_fill other_pad others other_decimal other_small) same
