-- Bytes of two hexadecimal digits each: lists of them, and blocks.
use Rattle.std.proofs.Common.{◌≡◌, ℕ, ◌+◌, ◌*◌, ◌/◌, ◌%◌, List, [], ◌∷◌, length, Some, true, eqb, refl, sym, ap, subst, ◌∙◌, arith}
use Rattle.std.specs.Prelude.{bytes_eq, codes, nat_le, ◌&&◌}
use Rattle.std.specs.List.{AllByRecursion}
use Rattle.std.specs.Option.{option_map}
use Rattle.std.proofs.lemmas.Bool.{eqb-true}
use Rattle.std.proofs.lemmas.Bool.Decides.{nat_tests}
use Rattle.pad_words.specs.Bytes.{packed, unpacked}
use Rattle.pad_words.specs.declared.bytes.Block.{Block}
use Rattle.script_lang.specs.Words.{IsWord, hex_values}
use Rattle.script_lang.specs.Reading.{hex_bytes, read_block, read_body, read_bytes, read_optional}
use Rattle.script_lang.specs.Spelling.{block_word, body_word, bytes_word, optional_word}
use Rattle.script_lang.proofs.Fits.{BlockFits, BytesFit, IsByte, IsNibble, OptionFits}
use Rattle.script_lang.proofs.HexLaws.{digits_len, digits_small}
use Rattle.script_lang.proofs.NameLaws.{not_dash, optional_field}
use Rattle.script_lang.proofs.Options.{both_true, guard_some, mapped_some}
use Rattle.script_lang.proofs.Readers.{IsField}
use Rattle.script_lang.proofs.WordLaws.{word_cases}

pub packed-unpacked : (bytes : List ℕ) → packed (unpacked bytes) ≡ bytes
packed-unpacked [] = refl
packed-unpacked (b ∷ bytes) = let back : b / 16 * 16 + b % 16 ≡ b = omega arith in rw (back, packed-unpacked bytes) refl

length-unpacked : (bytes : List ℕ) → length (unpacked bytes) ≡ 2 * length bytes
length-unpacked [] = refl
length-unpacked (b ∷ bytes) = omega (arith, length-unpacked bytes)

-- the bytes of an even number of half bytes have these halves
packed_halves : (vs : List ℕ) → length vs % 2 ≡ 0 → AllByRecursion IsNibble vs → (unpacked (packed vs) ≡ vs) × AllByRecursion IsByte (packed vs)
packed_halves [] even all = (refl, tt)
packed_halves (v ∷ []) even all = absurd (omega (arith, even))
packed_halves (l ∷ r ∷ vs) even all =
    let rest = packed_halves vs (omega (arith, even)) all.1.1 in
    let high : (l * 16 + r) / 16 ≡ l = omega (arith, all.0, all.1.0) in
    let low : (l * 16 + r) % 16 ≡ r = omega (arith, all.0, all.1.0) in
    (rw (high, low, rest.0) refl, (omega (arith, all.0, all.1.0), rest.1))

bytes_take : (text bytes : List ℕ) → length text % 2 ≡ 0 → hex_bytes text ≡ Some bytes → (hex_values text ≡ Some (unpacked bytes)) × (length text ≡ 2 * length bytes) × AllByRecursion IsByte bytes
unfolding hex_bytes
bytes_take text bytes even e =
    let m = mapped_some (hex_values text) packed bytes e in
    let len = digits_len text m.0 m.1 in
    let p = packed_halves m.0 (omega (arith, even, len)) (digits_small text m.0 m.1) in
    let is : unpacked bytes ≡ m.0 = ap unpacked (sym m.2) ∙ p.0 in
    let says : hex_values text ≡ Some (unpacked bytes) = m.1 ∙ ap (λ (ds : List ℕ). Some ds) (sym is) in
    (says, sym (digits_len text (unpacked bytes) says) ∙ length-unpacked bytes, subst (AllByRecursion IsByte) m.2 p.1)

bytes_again : (text bytes : List ℕ) → hex_values text ≡ Some (unpacked bytes) → (hex_bytes text ≡ Some bytes) × (length text ≡ 2 * length bytes)
unfolding hex_bytes
bytes_again text bytes says = (ap (option_map packed) says ∙ ap (λ (bs : List ℕ). Some bs) (packed-unpacked bytes), sym (digits_len text (unpacked bytes) says) ∙ length-unpacked bytes)

pub bytes_field : (low high : ℕ) → IsField (read_bytes low high) (BytesFit low high) bytes_word
unfolding read_bytes
bytes_field low high = record {
  takes = λ text bytes e.
      let n = length text / 2 in
      let g = guard_some ((eqb (length text % 2) 0 && nat_le low n) && nat_le n high) (hex_bytes text) bytes e in
      let most = both_true (eqb (length text % 2) 0 && nat_le low n) (nat_le n high) g.0 in
      let least = both_true (eqb (length text % 2) 0) (nat_le low n) most.0 in
      let t = bytes_take text bytes (eqb-true (length text % 2) 0 least.0) g.1 in
      let half : length text / 2 ≡ length bytes = omega (arith, t.1) in
      ((grind (arith, nat_tests, least.1, half), grind (arith, nat_tests, most.1, half), t.2), t.0);
  again = λ text bytes fits says.
      let t = bytes_again text bytes says in
      let half : length text / 2 ≡ length bytes = omega (arith, t.1) in
      let even : eqb (length text % 2) 0 ≡ true = grind (arith, nat_tests, t.1) in
      let least : nat_le low (length text / 2) ≡ true = grind (arith, nat_tests, half, fits.0) in
      let most : nat_le (length text / 2) high ≡ true = grind (arith, nat_tests, half, fits.1) in
      rw (even, least, most) t.0;
}

pub block_field : IsField read_block BlockFits block_word
unfolding read_block
block_field = record {
  takes = λ text block e.
      let g = guard_some (eqb (length text) 16) _ block e in
      let long : length text ≡ 16 = eqb-true (length text) 16 g.0 in
      let m = mapped_some (hex_bytes text) (λ (bytes : List ℕ). record { 0 = bytes }) block g.1 in
      let t = bytes_take text m.0 (omega (arith, long)) m.1 in
      subst (λ (b : Block). BlockFits b × (hex_values text ≡ Some (unpacked b.0))) m.2 ((omega (arith, long, t.1), t.2), t.0);
  again = λ text block fits says.
      let t = bytes_again text block.0 says in
      let long : length text ≡ 16 = omega (arith, t.1, fits.0) in
      rw (long, t.0) refl;
}

pub optional_block_field : IsField (read_optional read_block) (OptionFits BlockFits) (optional_word block_word)
unfolding read_block
optional_block_field = optional_field read_block BlockFits block_word block_field refl

-- ---- bytes, or none

some_body : (text body : List ℕ) → BytesFit 1 1024 body → hex_values text ≡ Some (unpacked body) → BytesFit 0 1024 body × IsWord text (body_word body)
some_body text [] fits says = absurd (omega (arith, fits.0))
some_body text (b ∷ bytes) fits says = ((omega arith, fits.1, fits.2), says)

body_again : (text body : List ℕ) → BytesFit 0 1024 body → IsWord text (body_word body) → read_body text ≡ Some body
unfolding read_body
body_again text [] fits is = rw is refl
body_again text (b ∷ bytes) fits says =
    let found = (bytes_field 1 1024).again text (b ∷ bytes) (omega arith, fits.1, fits.2) says in
    rw (not_dash (read_bytes 1 1024) text (b ∷ bytes) (bytes_eq text (codes "-")) refl (unfold read_bytes in refl) found, found) refl

pub body_field : IsField read_body (BytesFit 0 1024) body_word
unfolding read_body
body_field = record {
  takes = λ text body e.
      word_cases text (codes "-") [] _ body (λ (body : List ℕ). BytesFit 0 1024 body × IsWord text (body_word body)) e (λ is. ((omega arith, omega arith, tt), is)) (λ e.
      let t = (bytes_field 1 1024).takes text body e in some_body text body t.0 t.1);
  again = body_again;
}
