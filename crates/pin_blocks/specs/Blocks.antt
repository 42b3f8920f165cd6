-- PIN blocks: formats 0, 1 and 3 of ISO 9564-1, and those of the IBM 3624 and of Diebold. A block is a list of 16 nibbles.
use Rattle.pad_words.specs.Bytes.{exclusive_or}
use Rattle.pad_steps.specs.Accounts.{all_decimal, is_pan}
use Rattle.pad_steps.specs.declared.commands.Form.{Form}
use Rattle.pad_steps.specs.declared.commands.Form.TheVariants as forms
use Rattle.std.specs.Prelude.{Bool, List, [], drop, false, length, map, replicate, take, true, ℕ, ◌%◌, ◌&&◌, ◌++◌, ◌+◌, ◌-◌, ◌==◌, ◌∷◌}

-- blocks of this form are made; those of ISO formats 2 and 4 are not
abbrev pub is_supported : Form → Bool
is_supported forms.Iso2 = false
is_supported forms.Iso4 = false
is_supported other = true

-- the customer data that a form takes: a PAN for formats 0 and 3, ten digits for format 1, one hexadecimal digit for Diebold with a coordination number, none for the others
abbrev pub fits_form : Form → List ℕ → Bool
fits_form forms.Iso0 customer = is_pan customer
fits_form forms.Iso1 customer = (length customer == 10) && all_decimal customer
fits_form forms.Iso3 customer = is_pan customer
fits_form forms.Ibm3624 customer = length customer == 0
fits_form forms.Diebold customer = length customer == 0
fits_form forms.DieboldCo customer = length customer == 1
fits_form other customer = false

-- the greatest PIN length of a form; the least is 4
abbrev pub longest : Form → ℕ
longest forms.Iso0 = 12
longest forms.Iso1 = 12
longest forms.Iso3 = 12
longest forms.Ibm3624 = 16
longest forms.Diebold = 16
longest forms.DieboldCo = 12
longest other = 0

-- the first 16 nibbles
abbrev pub sixteen : List ℕ → List ℕ
sixteen nibbles = take 16 nibbles

-- the account number field (ISO 9564-1, format 0): 0000 and the 12 rightmost digits of the PAN without its check digit
abbrev pub pan_field : List ℕ → List ℕ
pan_field pan = 0 ∷ 0 ∷ 0 ∷ 0 ∷ drop (length pan - 12) pan

-- a fill nibble is 10 and the fill word modulo 6, so it is A to F
abbrev pub fill_nibbles : List ℕ → List ℕ
fill_nibbles words = map (λ word. 10 + word % 6) words

-- the 16 nibbles of a form. Formats 0 and 3 (ISO 9564-1): control nibble, length, PIN, fill, XORed with the account number field. Format 1: control nibble, length, PIN, transaction digits. The others: the PIN, after the coordination number if there is one, and the padding nibble
abbrev pub block_nibbles : Form → List ℕ → List ℕ → ℕ → List ℕ → List ℕ
block_nibbles forms.Iso0 digits customer pad fill = exclusive_or (sixteen (0 ∷ length digits ∷ digits ++ replicate 16 15)) (pan_field customer)
block_nibbles forms.Iso1 digits customer pad fill = sixteen (1 ∷ length digits ∷ digits ++ customer)
block_nibbles forms.Iso3 digits customer pad fill = exclusive_or (sixteen (3 ∷ length digits ∷ digits ++ fill_nibbles fill)) (pan_field customer)
block_nibbles forms.Ibm3624 digits customer pad fill = sixteen (digits ++ replicate 16 pad)
block_nibbles forms.Diebold digits customer pad fill = sixteen (digits ++ replicate 16 pad)
block_nibbles forms.DieboldCo digits customer pad fill = sixteen (customer ++ digits ++ replicate 16 pad)
block_nibbles other digits customer pad fill = []
