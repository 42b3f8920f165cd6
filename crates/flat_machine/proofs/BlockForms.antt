-- A block fixes the PIN, in each form and under one key or two.
use Rattle.des_core.specs.Bits.{IsBlock}
use Rattle.des_core.specs.TripleDes.{tdea_bytes}
use Rattle.flat_machine.proofs.BoolLemmas.{both}
use Rattle.flat_machine.specs.Disclosure.{is_padded}
use Rattle.pad_steps.specs.Accounts.{all_decimal}
use Rattle.pad_steps.specs.Formed.{all_bytes, all_nibbles, is_block, is_optional_block}
use Rattle.pad_steps.specs.declared.commands.BlockRequest.{BlockRequest}
use Rattle.pad_steps.specs.declared.commands.Form.{Form}
use Rattle.pad_steps.specs.declared.commands.Form.TheVariants as form
use Rattle.pad_words.specs.Bytes.{exclusive_or, packed}
use Rattle.pad_words.specs.declared.bytes.Block.{Block}
use Rattle.pin_blocks.specs.BlockWork.{block_bytes, encrypted_again, xor_with}
use Rattle.pin_blocks.specs.Blocks.{block_nibbles, fits_form}
use Rattle.pin_blocks.specs.TakenBlocks.{AnyParts, BlockParts, FixesThePin, IsTaken, SameCustomer, SameLength, plain_block}
use Rattle.pin_blocks.specs.declared.FormFault.TheVariants as form_fault
use Rattle.std.proofs.Common.{ap, arith, sym, ◌∙◌}
use Rattle.std.proofs.lemmas.Bool.Decides.{nat_tests}
use Rattle.std.proofs.lemmas.List.Elements.{All-cons, All-head, All-nil, All-tail, All-weaker}
use Rattle.std.proofs.lemmas.List.Sums.{AllPass-from_list_all}
use Rattle.std.proofs.lemmas.Nat.{xor_lt}
use Rattle.std.specs.List.{list_all}
use Rattle.std.specs.Prelude.{All, Bool, List, None, Option, Some, [], false, if◌then◌else◌, is_some, length, nat_le, nat_lt, not, refl, suc, true, ℕ, ◌&&◌, ◌<◌, ◌==◌, ◌||◌, ◌∷◌, ◌≡◌}

-- tests as facts

pub small_each : (limit : ℕ) (xs : List ℕ) → list_all (λ x. nat_lt x limit) xs ≡ true → All (λ x. x < limit) xs
small_each limit xs h = All-weaker (λ x. nat_lt x limit ≡ true) (λ x. x < limit) (λ x small. grind (arith, nat_tests)) xs (AllPass-from_list_all (λ x. nat_lt x limit) xs h)

not_above : (n : ℕ) → nat_le n 15 ≡ true → nat_lt 15 n ≡ false
not_above n e = grind (arith, nat_tests)

eight_long : (n : ℕ) → (n == 8) ≡ true → n ≡ 8
eight_long n e = grind (arith, nat_tests)

last_holds : (a b c : Bool) → (a && b && c) ≡ true → c ≡ true
last_holds true true true e = refl
last_holds true true false e = cc
last_holds true false c e = cc
last_holds false b c e = cc

decimal_nibbles : (xs : List ℕ) → all_decimal xs ≡ true → All (λ nibble. nibble < 16) xs
decimal_nibbles xs e = All-weaker (λ x. x < 10) (λ x. x < 16) (λ x small. omega (arith, small)) xs (small_each 10 xs e)

no_nibbles : (xs : List ℕ) → (length xs == 0) ≡ true → All (λ nibble. nibble < 16) xs
no_nibbles [] e = All-nil (λ nibble. nibble < 16)
no_nibbles (x ∷ xs) e = absurd (not_none (length xs) (none_long (length (x ∷ xs)) e))
  where
    none_long : (n : ℕ) → (n == 0) ≡ true → n ≡ 0
    none_long n e = grind (arith, nat_tests)

    not_none : (n : ℕ) → suc n ≡ 0 → ⊥
    not_none n e = omega (arith, e)

-- the customer data of each form is nibbles; of a coordination number it is asked
pub customer_nibbles : (f : Form) (customer : List ℕ) → fits_form f customer ≡ true → (f ≡ form.DieboldCo → all_nibbles customer ≡ true) → All (λ nibble. nibble < 16) customer
customer_nibbles form.Iso0 customer fits k = decimal_nibbles customer (last_holds (nat_le 12 (length customer)) (nat_le (length customer) 19) (all_decimal customer) fits)
customer_nibbles form.Iso1 customer fits k = decimal_nibbles customer (both (length customer == 10) (all_decimal customer) fits).1
customer_nibbles form.Iso2 customer fits k = cc
customer_nibbles form.Iso3 customer fits k = decimal_nibbles customer (last_holds (nat_le 12 (length customer)) (nat_le (length customer) 19) (all_decimal customer) fits)
customer_nibbles form.Iso4 customer fits k = cc
customer_nibbles form.Ibm3624 customer fits k = no_nibbles customer fits
customer_nibbles form.Diebold customer fits k = no_nibbles customer fits
customer_nibbles form.DieboldCo customer fits k = small_each 16 customer (k refl)

-- the padding nibble that a form uses; 0 where it uses none
abbrev pub pad_used : Form → ℕ → ℕ
pad_used f pad = if is_padded f then pad else 0

block_nibbles-pad_used : (f : Form) (digits customer : List ℕ) (pad : ℕ) (fill : List ℕ) → block_nibbles f digits customer pad fill ≡ block_nibbles f digits customer (pad_used f pad) fill
block_nibbles-pad_used form.Iso0 digits customer pad fill = refl
block_nibbles-pad_used form.Iso1 digits customer pad fill = refl
block_nibbles-pad_used form.Iso2 digits customer pad fill = refl
block_nibbles-pad_used form.Iso3 digits customer pad fill = refl
block_nibbles-pad_used form.Iso4 digits customer pad fill = refl
block_nibbles-pad_used form.Ibm3624 digits customer pad fill = refl
block_nibbles-pad_used form.Diebold digits customer pad fill = refl
block_nibbles-pad_used form.DieboldCo digits customer pad fill = refl

pub pad_fits : (b : Bool) (pad : ℕ) → (b ≡ true → nat_le pad 15 ≡ true) → nat_lt 15 (if b then pad else 0) ≡ false
pad_fits true pad k = not_above pad (k refl)
pad_fits false pad k = refl

pub no_fault : (s f p l : Bool) → s ≡ true → f ≡ true → p ≡ false → l ≡ false → (if not s then Some form_fault.FormatNotSupported else (if not f || p then Some form_fault.InvalidData else (if l then Some form_fault.LengthError else None))) ≡ None
no_fault s f p l es ef ep el = rw (es, ef, ep, el) refl

-- what the block of a request is made of, with these digits and fill words; the padding nibble where its form uses one
abbrev pub parts_of : BlockRequest → List ℕ → List ℕ → BlockParts
parts_of b digits fill = record { digits = digits; customer = b.customer; pad = pad_used b.form b.pad; fill = fill }

-- the laws of blocks and of the cipher, as this file uses them
pub record BlockLaws : Type 0 where
  pub iso_0 : FixesThePin form.Iso0 SameCustomer
  pub iso_1 : FixesThePin form.Iso1 AnyParts
  pub iso_3 : FixesThePin form.Iso3 SameCustomer
  pub ibm_3624 : FixesThePin form.Ibm3624 SameLength
  pub diebold : FixesThePin form.Diebold SameLength
  pub diebold_co : FixesThePin form.DieboldCo SameLength
  pub eight : (f : Form) (parts : BlockParts) → IsTaken f parts → length (plain_block f parts) ≡ 8
  pub small : (f : Form) (parts : BlockParts) → IsTaken f parts → All (λ byte. byte < 256) (plain_block f parts)
  pub apart : (key first second : List ℕ) → length first ≡ 8 → length second ≡ 8 → All (λ byte. byte < 256) first → All (λ byte. byte < 256) second → tdea_bytes key first ≡ tdea_bytes key second → first ≡ second
  pub gives_a_block : (key block : List ℕ) → IsBlock (tdea_bytes key block)
  pub long : (xs ys : List ℕ) → length xs ≡ length ys → length (exclusive_or xs ys) ≡ length xs
  pub undone : (xs ys : List ℕ) → length xs ≡ length ys → exclusive_or (exclusive_or xs ys) ys ≡ xs

-- bytes XORed with bytes are bytes
bytes-exclusive_or : (xs ys : List ℕ) → All (λ byte. byte < 256) xs → All (λ byte. byte < 256) ys → All (λ byte. byte < 256) (exclusive_or xs ys)
unfolding exclusive_or
bytes-exclusive_or [] ys xs_small ys_small = All-nil (λ byte. byte < 256)
bytes-exclusive_or (x ∷ xs) [] xs_small ys_small = All-nil (λ byte. byte < 256)
bytes-exclusive_or (x ∷ xs) (y ∷ ys) xs_small ys_small =
    let small : ℕ → Type 0 = λ byte. byte < 256 in
    All-cons small _ (exclusive_or xs ys) (xor_lt 8 x y (All-head small x xs xs_small) (All-head small y ys ys_small))
    (bytes-exclusive_or xs ys (All-tail small x xs xs_small) (All-tail small y ys ys_small))

block-is_block : (block : Block) → is_block block ≡ true → IsBlock block.0
block-is_block block e =
    let facts = both (length block.0 == 8) (all_bytes block.0) e in
    (eight_long (length block.0) facts.0, small_each 256 block.0 facts.1)

module _ (laws : BlockLaws) where
  -- a block in clear fixes the PIN; a padded one, where both PINs have one length
  clear_fixes : (f : Form) (one other : BlockParts) → IsTaken f one → IsTaken f other → other.customer ≡ one.customer → (is_padded f ≡ true → length one.digits ≡ length other.digits) → plain_block f one ≡ plain_block f other → one.digits ≡ other.digits
  clear_fixes form.Iso0 one other t o customers long e = laws.iso_0 one other t o customers e
  clear_fixes form.Iso1 one other t o customers long e = laws.iso_1 one other t o tt e
  clear_fixes form.Iso2 one other t o customers long e = absurd (refused t.faultless)
    where
      refused : Some form_fault.FormatNotSupported ≡ None → ⊥
      refused e = cc
  clear_fixes form.Iso3 one other t o customers long e = laws.iso_3 one other t o customers e
  clear_fixes form.Iso4 one other t o customers long e = absurd (refused t.faultless)
    where
      refused : Some form_fault.FormatNotSupported ≡ None → ⊥
      refused e = cc
  clear_fixes form.Ibm3624 one other t o customers long e = laws.ibm_3624 one other t o (long refl) e
  clear_fixes form.Diebold one other t o customers long e = laws.diebold one other t o (long refl) e
  clear_fixes form.DieboldCo one other t o customers long e = laws.diebold_co one other t o (long refl) e

  -- two keys: what is encrypted under the second is fixed, and so is what was XORed
  xor_block : (mixed : Option Block) (bytes : List ℕ) → is_optional_block mixed ≡ true → IsBlock bytes → IsBlock (xor_with mixed bytes)
  xor_block None bytes e is = is
  xor_block (Some block) bytes e is =
      let other = block-is_block block e in
      (laws.long bytes block.0 (is.0 ∙ sym other.0) ∙ is.0, bytes-exclusive_or bytes block.0 is.1 other.1)

  xor_fixes : (mixed : Option Block) (xs ys : List ℕ) → is_optional_block mixed ≡ true → IsBlock xs → IsBlock ys → xor_with mixed xs ≡ xor_with mixed ys → xs ≡ ys
  xor_fixes None xs ys e x y same = same
  xor_fixes (Some block) xs ys e x y same =
      let other = block-is_block block e in
      sym (laws.undone xs block.0 (x.0 ∙ sym other.0)) ∙ ap (λ (zs : List ℕ). exclusive_or zs block.0) same ∙ laws.undone ys block.0 (y.0 ∙ sym other.0)

  again_fixes : (mixed : Option Block) (second : Option (List ℕ)) (xs ys : List ℕ) → (is_some second ≡ true → is_optional_block mixed ≡ true) → IsBlock xs → IsBlock ys → encrypted_again tdea_bytes mixed second xs ≡ encrypted_again tdea_bytes mixed second ys → xs ≡ ys
  again_fixes mixed None xs ys k x y same = same
  again_fixes mixed (Some key) xs ys k x y same =
      let bx = xor_block mixed xs (k refl) x in
      let by = xor_block mixed ys (k refl) y in
      xor_fixes mixed xs ys (k refl) x y (laws.apart key (xor_with mixed xs) (xor_with mixed ys) bx.0 by.0 bx.1 by.1 same)

  pub bytes_fix : (b : BlockRequest) (gd hd key : List ℕ) (second : Option (List ℕ)) (fill other_fill : List ℕ) → (is_some second ≡ true → is_optional_block b.xor ≡ true) → IsTaken b.form (parts_of b gd other_fill) → IsTaken b.form (parts_of b hd fill) → (is_padded b.form ≡ true → length gd ≡ length hd)
      → block_bytes tdea_bytes b gd key second other_fill ≡ block_bytes tdea_bytes b hd key second fill → gd ≡ hd
  bytes_fix b gd hd key second fill other_fill xor g h long e =
      let one = parts_of b gd other_fill in
      let other = parts_of b hd fill in
      let clear_g = plain_block b.form one in
      let clear_h = plain_block b.form other in
      let enciphered = λ (nibbles : List ℕ). encrypted_again tdea_bytes b.xor second (tdea_bytes key (packed nibbles)) in
      let once = again_fixes b.xor second (tdea_bytes key clear_g) (tdea_bytes key clear_h) xor (laws.gives_a_block key clear_g) (laws.gives_a_block key clear_h)
      (sym (ap enciphered (block_nibbles-pad_used b.form gd b.customer b.pad other_fill)) ∙ e ∙ ap enciphered (block_nibbles-pad_used b.form hd b.customer b.pad fill)) in
      clear_fixes b.form one other g h refl long
      (laws.apart key clear_g clear_h (laws.eight b.form one g) (laws.eight b.form other h) (laws.small b.form one g) (laws.small b.form other h) once)
