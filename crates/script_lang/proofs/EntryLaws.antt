-- The laws of the rules of entries.
use Rattle.std.proofs.Common.{◌≡◌, ℕ, List, Some, refl, subst, arith}
use Rattle.script_lang.specs.Words.{Says}
use Rattle.script_lang.specs.Reading.{read_part, read_rules}
use Rattle.script_lang.specs.Spelling.{end_word, mask_word, number_word, part_words, rules_words, verify_word}
use Rattle.pad_steps.specs.declared.commands.EntryRules.{EntryRules}
use Rattle.pad_steps.specs.declared.commands.PartRules.{PartRules}
use Rattle.script_lang.proofs.Fits.{MaskFits, PartFits, RulesFit}
use Rattle.script_lang.proofs.HexLaws.{mask_field}
use Rattle.script_lang.proofs.NumberLaws.{Within, byte_number_field}
use Rattle.script_lang.proofs.Readers.{Always, Ended, Reads, Then, ended_reads, with_field_reads}
use Rattle.script_lang.proofs.RowLaws.{Spelled, says_end}
use Rattle.script_lang.proofs.WordLaws.{end_field, verify_field}

abbrev RulesSaid : EntryRules → List ℕ → Type 0
RulesSaid = Then (Within 0 255) number_word (λ min. Then (Within 0 255) number_word (λ max. Then Always end_word (λ e. Then MaskFits mask_word (λ a. Then MaskFits mask_word (λ t.
    Ended (record { min = min; max = max; auto_end = e; active = a; terminate = t }))))))

rules_said : Reads read_rules RulesSaid
unfolding read_rules
rules_said = with_field_reads _ _ _ _ _ byte_number_field (λ min. with_field_reads _ _ _ _ _ byte_number_field (λ max. with_field_reads _ _ _ _ _ end_field (λ e. with_field_reads _ _ _ _ _ mask_field (λ a. with_field_reads _ _ _ _ _ mask_field (λ t.
    ended_reads (record { min = min; max = max; auto_end = e; active = a; terminate = t }))))))

rules_takes : (bytes : List ℕ) (r : EntryRules) → read_rules bytes ≡ Some r → Spelled RulesFit rules_words r bytes
rules_takes bytes r e =
    let s = rules_said.takes bytes r e in
    let t = s.4 in let u = t.4 in let v = u.4 in let w = v.4 in
    subst (λ r. Spelled RulesFit rules_words r bytes) w.4.0
    ((omega (arith, s.1.1), omega (arith, t.1.1), v.1, w.1), (s.2, s.3, (t.2, t.3, (u.2, u.3, (v.2, v.3, (w.2, w.3, w.4.1))))))

rules_again : (bytes : List ℕ) (r : EntryRules) → RulesFit r → Says bytes (rules_words r) → read_rules bytes ≡ Some r
rules_again bytes r fits s =
    let t = s.2 in let u = t.2 in let v = u.2 in let w = v.2 in
    rules_said.again bytes r (r.min, (omega arith, omega (arith, fits.0)), s.0, s.1, (r.max, (omega arith, omega (arith, fits.1)), t.0, t.1, (r.auto_end, tt, u.0, u.1, (r.active, fits.2, v.0, v.1, (r.terminate, fits.3, w.0, w.1, (refl, w.2))))))

pub rules_reads : Reads read_rules (Spelled RulesFit rules_words)
rules_reads = record { takes = rules_takes; again = λ bytes r s. rules_again bytes r s.0 s.1; ends = λ bytes r s. says_end (rules_words r) bytes s.1 }

abbrev PartSaid : PartRules → List ℕ → Type 0
PartSaid = Then (Within 0 255) number_word (λ count. Then Always end_word (λ e. Then MaskFits mask_word (λ a. Then MaskFits mask_word (λ t. Then Always verify_word (λ v.
    Ended (record { count = count; auto_end = e; active = a; terminate = t; verify = v }))))))

part_said : Reads read_part PartSaid
unfolding read_part
part_said = with_field_reads _ _ _ _ _ byte_number_field (λ count. with_field_reads _ _ _ _ _ end_field (λ e. with_field_reads _ _ _ _ _ mask_field (λ a. with_field_reads _ _ _ _ _ mask_field (λ t. with_field_reads _ _ _ _ _ verify_field (λ v.
    ended_reads (record { count = count; auto_end = e; active = a; terminate = t; verify = v }))))))

part_takes : (bytes : List ℕ) (r : PartRules) → read_part bytes ≡ Some r → Spelled PartFits part_words r bytes
part_takes bytes r e =
    let s = part_said.takes bytes r e in
    let t = s.4 in let u = t.4 in let v = u.4 in let w = v.4 in
    subst (λ r. Spelled PartFits part_words r bytes) w.4.0
    ((omega (arith, s.1.1), u.1, v.1), (s.2, s.3, (t.2, t.3, (u.2, u.3, (v.2, v.3, (w.2, w.3, w.4.1))))))

part_again : (bytes : List ℕ) (r : PartRules) → PartFits r → Says bytes (part_words r) → read_part bytes ≡ Some r
part_again bytes r fits s =
    let t = s.2 in let u = t.2 in let v = u.2 in let w = v.2 in
    part_said.again bytes r (r.count, (omega arith, omega (arith, fits.0)), s.0, s.1, (r.auto_end, tt, t.0, t.1, (r.active, fits.1, u.0, u.1, (r.terminate, fits.2, v.0, v.1, (r.verify, tt, w.0, w.1, (refl, w.2))))))

pub part_reads : Reads read_part (Spelled PartFits part_words)
part_reads = record { takes = part_takes; again = λ bytes r s. part_again bytes r s.0 s.1; ends = λ bytes r s. says_end (part_words r) bytes s.1 }
