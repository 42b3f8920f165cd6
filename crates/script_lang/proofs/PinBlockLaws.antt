-- The laws of what a PIN block is made of.
use Rattle.std.proofs.Common.{◌≡◌, ℕ, List, Some, refl, subst}
use Rattle.script_lang.specs.Words.{Says}
use Rattle.script_lang.specs.Reading.{read_pinblock}
use Rattle.script_lang.specs.Spelling.{block_word, block_words, form_word, name_word, nibble_word, nibbles_word, optional_word}
use Rattle.pad_steps.specs.declared.commands.BlockRequest.{BlockRequest}
use Rattle.script_lang.proofs.ByteLaws.{optional_block_field}
use Rattle.script_lang.proofs.Fits.{BlockFits, IsNibble, NameFits, NibblesFit, OptionFits, RequestFits}
use Rattle.script_lang.proofs.NameLaws.{name_field, optional_name_field}
use Rattle.script_lang.proofs.NibbleLaws.{nibble_field, nibbles_or_dash_field}
use Rattle.script_lang.proofs.Readers.{Always, Ended, Reads, Then, ended_reads, with_field_reads}
use Rattle.script_lang.proofs.RowLaws.{Spelled, says_end}
use Rattle.script_lang.proofs.WordLaws.{form_field}

abbrev BlockSaid : BlockRequest → List ℕ → Type 0
BlockSaid = Then Always form_word (λ form. Then NameFits name_word (λ key. Then (OptionFits NameFits) (optional_word name_word) (λ second. Then (OptionFits BlockFits) (optional_word block_word) (λ xor. Then (NibblesFit 0 24) nibbles_word (λ customer. Then IsNibble nibble_word (λ pad.
    Ended (record { form = form; key = key; second = second; xor = xor; customer = customer; pad = pad })))))))

block_said : Reads read_pinblock BlockSaid
unfolding read_pinblock
block_said = with_field_reads _ _ _ _ _ form_field (λ form. with_field_reads _ _ _ _ _ name_field (λ key. with_field_reads _ _ _ _ _ optional_name_field (λ second. with_field_reads _ _ _ _ _ optional_block_field (λ xor. with_field_reads _ _ _ _ _ (nibbles_or_dash_field 24) (λ customer. with_field_reads _ _ _ _ _ nibble_field (λ pad.
    ended_reads (record { form = form; key = key; second = second; xor = xor; customer = customer; pad = pad })))))))

block_takes : (bytes : List ℕ) (r : BlockRequest) → read_pinblock bytes ≡ Some r → Spelled RequestFits block_words r bytes
block_takes bytes r e =
    let s = block_said.takes bytes r e in
    let k = s.4 in let n = k.4 in let x = n.4 in let c = x.4 in let p = c.4 in
    subst (λ r. Spelled RequestFits block_words r bytes) p.4.0
    ((k.1, n.1, x.1, c.1, p.1), (s.2, s.3, (k.2, k.3, (n.2, n.3, (x.2, x.3, (c.2, c.3, (p.2, p.3, p.4.1)))))))

block_again : (bytes : List ℕ) (r : BlockRequest) → RequestFits r → Says bytes (block_words r) → read_pinblock bytes ≡ Some r
block_again bytes r fits s =
    let k = s.2 in let n = k.2 in let x = n.2 in let c = x.2 in let p = c.2 in
    block_said.again bytes r (r.form, tt, s.0, s.1, (r.key, fits.0, k.0, k.1, (r.second, fits.1, n.0, n.1, (r.xor, fits.2, x.0, x.1, (r.customer, fits.3, c.0, c.1, (r.pad, fits.4, p.0, p.1, (refl, p.2)))))))

pub block_reads : Reads read_pinblock (Spelled RequestFits block_words)
block_reads = record { takes = block_takes; again = λ bytes r s. block_again bytes r s.0 s.1; ends = λ bytes r s. says_end (block_words r) bytes s.1 }
