-- The law of a start value: `-`, a block, or a name, a colon and a block.
use Rattle.std.proofs.Common.{◌≡◌, ℕ, List, [], ◌∷◌, ◌++◌, length, take, drop, Some, true, false, eqb, refl, sym, ap, subst, ◌∙◌, arith}
use Rattle.std.specs.Prelude.{IsTrue, bytes_eq, codes}
use Rattle.std.specs.List.{list_all}
use Rattle.std.specs.Option.{option_map}
use Rattle.std.proofs.lemmas.Bool.Decides.{nat_tests}
use Rattle.std.proofs.lemmas.List.{append-nil, drop_all, drop_at, take-append-drop, take_all, take_at}
use Rattle.pad_words.specs.Names.{is_name_byte}
use Rattle.pad_words.specs.declared.bytes.Block.{Block}
use Rattle.pad_steps.specs.declared.commands.Start.{Start}
use Rattle.pad_steps.specs.declared.commands.Start.TheVariants as started
use Rattle.script_lang.specs.Words.{IsWord, hex_value, hex_values}
use Rattle.script_lang.specs.Reading.{is_no_colon, read_block, read_name, read_start, read_start_block, tag_len}
use Rattle.pad_words.specs.Bytes.{unpacked}
use Rattle.script_lang.specs.Spelling.{start_word}
use Rattle.script_lang.proofs.ByteLaws.{block_field}
use Rattle.script_lang.proofs.Fits.{NameFits, StartFits}
use Rattle.script_lang.proofs.Fronts.{Stops, prefix_len-at, prefix_len-stops}
use Rattle.script_lang.proofs.HexLaws.{digits_more}
use Rattle.script_lang.proofs.NameLaws.{name_field, not_dash}
use Rattle.script_lang.proofs.Options.{bind_some, both_true, mapped_some}
use Rattle.script_lang.proofs.Readers.{IsField}
use Rattle.script_lang.proofs.WordLaws.{word_cases}

-- ---- the first colon

abbrev Colonless : List ℕ → Type 0
Colonless text = IsTrue (list_all is_no_colon text)

name_byte-no_colon : (c : ℕ) → is_name_byte c ≡ true → is_no_colon c ≡ true
name_byte-no_colon c e = grind (arith, nat_tests)

name_colonless : (name : List ℕ) → list_all is_name_byte name ≡ true → Colonless name
name_colonless [] all = refl
name_colonless (c ∷ cs) all =
    let b = both_true (is_name_byte c) (list_all is_name_byte cs) all in
    rw (name_byte-no_colon c b.0) (name_colonless cs b.1)

digit-no_colon : (c v : ℕ) → hex_value c ≡ Some v → is_no_colon c ≡ true
digit-no_colon c v e = grind (arith, nat_tests)

digits_colonless : (text ds : List ℕ) → hex_values text ≡ Some ds → Colonless text
unfolding hex_values
digits_colonless [] ds e = refl
digits_colonless (c ∷ cs) ds e =
    let d = digits_more (hex_value c) (hex_values cs) ds e in
    rw (digit-no_colon c d.0 d.2) (digits_colonless cs d.1 d.3)

colon : (c : ℕ) → is_no_colon c ≡ false → c ≡ 58
colon c stop = grind (arith, nat_tests)

-- ---- start values

start_block_takes : (text front behind : List ℕ) (s : Start) → Stops is_no_colon behind → text ≡ front ++ behind → read_start_block front behind ≡ Some s → StartFits s × IsWord text (start_word s)
unfolding read_start_block
start_block_takes text front [] s stop parts e =
    let b = mapped_some (read_block front) (λ (block : Block). started.Clear block) s e in
    let whole : text ≡ front = parts ∙ append-nil front in
    let t = block_field.takes front b.0 b.1 in
    subst (λ (s : Start). StartFits s × IsWord text (start_word s)) b.2 (t.0, ap hex_values whole ∙ t.1)
start_block_takes text front (c ∷ digits) s stop parts e =
    let is : c ≡ 58 = colon c stop in
    let n = bind_some (read_name front) (λ name. option_map (λ (block : Block). started.Sealed name block) (read_block digits)) s e in
    let b = mapped_some (read_block digits) (λ (block : Block). started.Sealed n.0 block) s n.2 in
    let name = name_field.takes front n.0 n.1 in
    let t = block_field.takes digits b.0 b.1 in
    let whole : text ≡ n.0 ++ 58 ∷ digits = parts ∙ ap (λ (c : ℕ). front ++ c ∷ digits) is ∙ ap (λ (front : List ℕ). front ++ 58 ∷ digits) name.1 in
    subst (λ (s : Start). StartFits s × IsWord text (start_word s)) b.2 ((name.0, t.0), (digits, whole, t.1))

name_byte-no_dash : (c : ℕ) → is_name_byte c ≡ true → eqb c 45 ≡ false
name_byte-no_dash c e = grind (arith, nat_tests)

-- a name and a colon are no dash
named_no_dash : (name digits : List ℕ) → NameFits name → bytes_eq (name ++ 58 ∷ digits) (codes "-") ≡ false
named_no_dash [] digits fits = refl
named_no_dash (c ∷ cs) digits fits =
    let b = both_true (is_name_byte c) (list_all is_name_byte cs) (both_true _ _ fits).1 in
    rw (name_byte-no_dash c b.0) refl

start_again : (text : List ℕ) (s : Start) → StartFits s → IsWord text (start_word s) → read_start text ≡ Some s
unfolding read_start read_start_block
start_again text started.Zero fits is = rw is refl
start_again text (started.Clear block) fits says =
    let found = block_field.again text block fits says in
    let whole : tag_len text ≡ length text = ap tag_len (sym (append-nil text)) ∙ prefix_len-at is_no_colon text [] (digits_colonless text (unpacked block.0) says) tt in
    rw (not_dash read_block text block (bytes_eq text (codes "-")) refl (unfold read_block in refl) found, whole, take_all (length text) text (omega arith), drop_all (length text) text (omega arith), found) refl
start_again text (started.Sealed name block) fits says =
    let digits = says.0 in
    let at : tag_len (name ++ 58 ∷ digits) ≡ length name = prefix_len-at is_no_colon name (58 ∷ digits) (name_colonless name (both_true _ _ fits.0).1) refl in
    let front : take (length name) (name ++ 58 ∷ digits) ≡ name = take_at name (58 ∷ digits) (length name) refl in
    let behind : drop (length name) (name ++ 58 ∷ digits) ≡ 58 ∷ digits = drop_at name (58 ∷ digits) (length name) refl in
    rw (says.1, named_no_dash name digits fits.0, at, front, behind, name_field.again name name fits.0 refl, block_field.again digits block fits.1 says.2) refl

pub start_field : IsField read_start StartFits start_word
unfolding read_start
start_field = record {
  takes = λ text s e.
      let n = tag_len text in
      word_cases text (codes "-") started.Zero _ s (λ (s : Start). StartFits s × IsWord text (start_word s)) e (λ is. (tt, is)) (λ e. start_block_takes text (take n text) (drop n text) s (prefix_len-stops is_no_colon text) (sym (take-append-drop n text)) e);
  again = start_again;
}
