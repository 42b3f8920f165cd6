-- The laws of what a PIN is checked against, and of other PIN commands.
use Rattle.std.proofs.Common.{◌≡◌, ℕ, List, Some, refl, subst, arith}
use Rattle.script_lang.specs.Words.{Digits, Says}
use Rattle.script_lang.specs.Reading.{read_check, read_extra}
use Rattle.script_lang.specs.Spelling.{body_word, check_words, extra_words, name_word, nibble_word, nibbles_word, number_word, zero_word}
use Rattle.pad_steps.specs.declared.commands.CheckRequest.{CheckRequest}
use Rattle.pad_steps.specs.declared.commands.ExtraRequest.{ExtraRequest}
use Rattle.script_lang.proofs.ByteLaws.{body_field}
use Rattle.script_lang.proofs.Fits.{BytesFit, CheckFits, DecimalsFit, ExtraFits, IsNibble, NameFits, NibblesFit}
use Rattle.script_lang.proofs.NameLaws.{name_field}
use Rattle.script_lang.proofs.NibbleLaws.{nibble_field, nibbles_field, offset_field, table_field}
use Rattle.script_lang.proofs.NumberLaws.{Within, byte_number_field}
use Rattle.script_lang.proofs.Readers.{Always, Ended, Reads, Then, ended_reads, with_field_reads}
use Rattle.script_lang.proofs.RowLaws.{Spelled, says_end}
use Rattle.script_lang.proofs.WordLaws.{zero_field}

-- ---- checks

abbrev CheckSaid : CheckRequest → List ℕ → Type 0
CheckSaid = Then NameFits name_word (λ key. Then (NibblesFit 1 16) Digits (λ digits. Then IsNibble nibble_word (λ pad. Then (DecimalsFit 0 16) nibbles_word (λ offset. Then (Within 0 255) number_word (λ count. Then Always zero_word (λ no_zero. Then (DecimalsFit 16 16) Digits (λ table.
    Ended (record { key = key; validation = digits; pad = pad; offset = offset; count = count; no_zero = no_zero; table = table }))))))))

check_said : Reads read_check CheckSaid
unfolding read_check
check_said = with_field_reads _ _ _ _ _ name_field (λ key. with_field_reads _ _ _ _ _ (nibbles_field 1 16) (λ digits. with_field_reads _ _ _ _ _ nibble_field (λ pad. with_field_reads _ _ _ _ _ offset_field (λ offset. with_field_reads _ _ _ _ _ byte_number_field (λ count. with_field_reads _ _ _ _ _ zero_field (λ no_zero. with_field_reads _ _ _ _ _ table_field (λ table.
    ended_reads (record { key = key; validation = digits; pad = pad; offset = offset; count = count; no_zero = no_zero; table = table }))))))))

check_takes : (bytes : List ℕ) (r : CheckRequest) → read_check bytes ≡ Some r → Spelled CheckFits check_words r bytes
check_takes bytes r e =
    let s = check_said.takes bytes r e in
    let d = s.4 in let p = d.4 in let o = p.4 in let n = o.4 in let z = n.4 in let t = z.4 in
    subst (λ r. Spelled CheckFits check_words r bytes) t.4.0
    ((s.1, d.1, p.1, o.1, omega (arith, n.1.1), t.1), (s.2, s.3, (d.2, d.3, (p.2, p.3, (o.2, o.3, (n.2, n.3, (z.2, z.3, (t.2, t.3, t.4.1))))))))

check_again : (bytes : List ℕ) (r : CheckRequest) → CheckFits r → Says bytes (check_words r) → read_check bytes ≡ Some r
check_again bytes r fits s =
    let d = s.2 in let p = d.2 in let o = p.2 in let n = o.2 in let z = n.2 in let t = z.2 in
    check_said.again bytes r (r.key, fits.0, s.0, s.1, (r.validation, fits.1, d.0, d.1, (r.pad, fits.2, p.0, p.1, (r.offset, fits.3, o.0, o.1, (r.count, (omega arith, omega (arith, fits.4)), n.0, n.1, (r.no_zero, tt, z.0, z.1, (r.table, fits.5, t.0, t.1, (refl, t.2))))))))

pub check_reads : Reads read_check (Spelled CheckFits check_words)
check_reads = record { takes = check_takes; again = λ bytes r s. check_again bytes r s.0 s.1; ends = λ bytes r s. says_end (check_words r) bytes s.1 }

-- ---- other PIN commands

abbrev ExtraSaid : ExtraRequest → List ℕ → Type 0
ExtraSaid = Then (Within 0 255) number_word (λ kind. Then NameFits name_word (λ key. Then (BytesFit 0 1024) body_word (λ body. Ended (record { kind = kind; key = key; body = body }))))

extra_said : Reads read_extra ExtraSaid
unfolding read_extra
extra_said = with_field_reads _ _ _ _ _ byte_number_field (λ kind. with_field_reads _ _ _ _ _ name_field (λ key. with_field_reads _ _ _ _ _ body_field (λ body. ended_reads (record { kind = kind; key = key; body = body }))))

pub extra_reads : Reads read_extra (Spelled ExtraFits extra_words)
extra_reads = record {
  takes = λ bytes r e.
      let s = extra_said.takes bytes r e in
      let k = s.4 in let b = k.4 in
      subst (λ r. Spelled ExtraFits extra_words r bytes) b.4.0 ((omega (arith, s.1.1), k.1, b.1), (s.2, s.3, (k.2, k.3, (b.2, b.3, b.4.1))));
  again = λ bytes r s.
      let k = s.1.2 in let b = k.2 in
      extra_said.again bytes r (r.kind, (omega arith, omega (arith, s.0.0)), s.1.0, s.1.1, (r.key, s.0.1, k.0, k.1, (r.body, s.0.2, b.0, b.1, (refl, b.2))));
  ends = λ bytes r s. says_end (extra_words r) bytes s.1;
}
