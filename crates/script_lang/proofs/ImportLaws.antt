-- The laws of an import of a key.
use Rattle.std.proofs.Common.{◌≡◌, ℕ, List, [], ◌∷◌, ◌++◌, Some, refl, sym, subst, ◌∙◌}
use Rattle.script_lang.specs.Words.{FirstWord, Says, Word}
use Rattle.script_lang.specs.Reading.{read_bytes, read_import, read_name, read_source_kind, read_sourced, source_after, with_field}
use Rattle.script_lang.specs.Spelling.{bytes_word, import_words, name_word, source_kind_word, source_words, sourced_words, uses_word, verify_word}
use Rattle.pad_steps.specs.declared.commands.ImportRequest.{ImportRequest}
use Rattle.pad_steps.specs.declared.commands.ImportSource.{ImportSource}
use Rattle.pad_steps.specs.declared.commands.ImportSource.TheVariants as origin
use Rattle.script_lang.specs.declared.kinds.SourceKind.{SourceKind}
use Rattle.script_lang.specs.declared.kinds.SourceKind.TheVariants as source_kind
use Rattle.script_lang.proofs.ByteLaws.{bytes_field}
use Rattle.script_lang.proofs.Fits.{BytesFit, ImportFits, NameFits, SourceFits, UsesFit}
use Rattle.script_lang.proofs.HexLaws.{uses_field}
use Rattle.script_lang.proofs.NameLaws.{name_field}
use Rattle.script_lang.proofs.Readers.{Always, Ended, Reads, Then, ended_reads, with_field_reads}
use Rattle.script_lang.proofs.RowLaws.{After, RowTakes, Spelled, row_at, rows_take, says_end}
use Rattle.script_lang.proofs.WordLaws.{source_kind_field, verify_field}

-- ---- the uses and the check mode behind a source

abbrev Sourced : List ℕ → ImportSource → ImportRequest → List ℕ → Type 0
Sourced name s = Then UsesFit uses_word (λ uses. Then Always verify_word (λ v. Ended (record { name = name; source = s; uses = uses; verify = v })))

sourced_reads : (name : List ℕ) (s : ImportSource) → Reads (read_sourced name s) (Sourced name s)
unfolding read_sourced
sourced_reads name s = with_field_reads _ _ _ _ _ uses_field (λ uses. with_field_reads _ _ _ _ _ verify_field (λ v. ended_reads (record { name = name; source = s; uses = uses; verify = v })))

-- a request of this name that fits but for the name
abbrev NamedFits : List ℕ → ImportRequest → Type 0
NamedFits name r = (r.name ≡ name) × SourceFits r.source × UsesFit r.uses

-- what is read behind a source, as words
sourced_says : (name : List ℕ) (s : ImportSource) (r : ImportRequest) (bytes : List ℕ) → SourceFits s → Sourced name s r bytes → NamedFits name r × (r.source ≡ s) × Says bytes (uses_word r.uses ∷ verify_word r.verify ∷ [])
sourced_says name s r bytes fits h =
    let v = h.4 in
    subst (λ r. NamedFits name r × (r.source ≡ s) × Says bytes (uses_word r.uses ∷ verify_word r.verify ∷ [])) v.4.0 ((refl, fits, h.1), refl, (h.2, h.3, (v.2, v.3, v.4.1)))

says_sourced : (r : ImportRequest) (bytes : List ℕ) → UsesFit r.uses → Says bytes (uses_word r.uses ∷ verify_word r.verify ∷ []) → Sourced r.name r.source r bytes
says_sourced r bytes small s = (r.uses, small, s.0, s.1, (r.verify, tt, s.2.0, s.2.1, (refl, s.2.2)))

-- ---- sources

clear_reads : (name : List ℕ) → Reads (with_field (read_bytes 1 64) (λ value. read_sourced name (origin.Clear value))) (Then (BytesFit 1 64) bytes_word (λ value. Sourced name (origin.Clear value)))
clear_reads name = with_field_reads _ _ _ _ _ (bytes_field 1 64) (λ value. sourced_reads name (origin.Clear value))

sealed_reads : (name : List ℕ) → Reads (with_field read_name (λ key. with_field (read_bytes 1 64) (λ value. read_sourced name (origin.Sealed key value))))
    (Then NameFits name_word (λ key. Then (BytesFit 1 64) bytes_word (λ value. Sourced name (origin.Sealed key value))))
sealed_reads name = with_field_reads _ _ _ _ _ name_field (λ key. with_field_reads _ _ _ _ _ (bytes_field 1 64) (λ value. sourced_reads name (origin.Sealed key value)))

-- the words behind a source that is known
after_source : (first : Word) (bytes : List ℕ) (r : ImportRequest) (s : ImportSource) → r.source ≡ s → After first bytes (source_words s ++ uses_word r.uses ∷ verify_word r.verify ∷ []) → After first bytes (sourced_words r)
after_source first bytes r s is after = subst (λ s. After first bytes (source_words s ++ uses_word r.uses ∷ verify_word r.verify ∷ [])) (sym is) after

rows_take_sources : (name : List ℕ) (kind : SourceKind) → RowTakes (NamedFits name) sourced_words (source_kind_word kind) (source_after name kind)
rows_take_sources name source_kind.Clear = λ bytes r e.
    let s = (clear_reads name).takes bytes r e in
    let t = sourced_says name (origin.Clear s.0) r s.2 s.1 s.4 in
    (t.0, after_source (source_kind_word source_kind.Clear) bytes r (origin.Clear s.0) t.1 (refl, (s.2, s.3, t.2)))
rows_take_sources name source_kind.Sealed = λ bytes r e.
    let k = (sealed_reads name).takes bytes r e in
    let s = k.4 in
    let source : ImportSource = origin.Sealed k.0 s.0 in
    let t = sourced_says name source r s.2 (k.1, s.1) s.4 in
    (t.0, after_source (source_kind_word source_kind.Sealed) bytes r source t.1 (refl, (k.2, k.3, (s.2, s.3, t.2))))
rows_take_sources name source_kind.Part = λ bytes r e.
    let t = sourced_says name origin.Part r bytes tt ((sourced_reads name origin.Part).takes bytes r e) in
    (t.0, after_source (source_kind_word source_kind.Part) bytes r origin.Part t.1 (refl, t.2))

source_again : (r : ImportRequest) (s : ImportSource) (bytes : List ℕ) → SourceFits s → UsesFit r.uses → Says bytes (source_words s ++ uses_word r.uses ∷ verify_word r.verify ∷ [])
    → with_field read_source_kind (source_after r.name) bytes ≡ Some (record { name = r.name; source = s; uses = r.uses; verify = r.verify })
source_again r (origin.Clear value) bytes fits small h =
    let m : ImportRequest = record { name = r.name; source = origin.Clear value; uses = r.uses; verify = r.verify } in
    row_at read_source_kind source_kind_word (source_after r.name) source_kind_field source_kind.Clear (bytes_word value ∷ uses_word r.uses ∷ verify_word r.verify ∷ []) bytes h
    ∙ (clear_reads r.name).again h.0 m (value, fits, h.2.0, h.2.1, says_sourced m h.2.0 small h.2.2)
source_again r (origin.Sealed key value) bytes fits small h =
    let m : ImportRequest = record { name = r.name; source = origin.Sealed key value; uses = r.uses; verify = r.verify } in
    let s = h.2.2 in
    row_at read_source_kind source_kind_word (source_after r.name) source_kind_field source_kind.Sealed (name_word key ∷ bytes_word value ∷ uses_word r.uses ∷ verify_word r.verify ∷ []) bytes h
    ∙ (sealed_reads r.name).again h.0 m (key, fits.0, h.2.0, h.2.1, (value, fits.1, s.0, s.1, says_sourced m s.0 small s.2))
source_again r origin.Part bytes fits small h =
    let m : ImportRequest = record { name = r.name; source = origin.Part; uses = r.uses; verify = r.verify } in
    row_at read_source_kind source_kind_word (source_after r.name) source_kind_field source_kind.Part (uses_word r.uses ∷ verify_word r.verify ∷ []) bytes h
    ∙ (sourced_reads r.name origin.Part).again h.0 m (says_sourced m h.0 small h.2)

source_reads : (name : List ℕ) → Reads (with_field read_source_kind (source_after name)) (Spelled (NamedFits name) sourced_words)
source_reads name = record {
  takes = rows_take read_source_kind source_kind_word (source_after name) source_kind_field (NamedFits name) sourced_words (rows_take_sources name);
  again = λ bytes r s. subst (λ n. with_field read_source_kind (source_after n) bytes ≡ Some r) s.0.0 (source_again r r.source bytes s.0.1 s.0.2 s.1);
  ends = λ bytes r s. says_end (sourced_words r) bytes s.1;
}

-- ---- imports

import_said : Reads read_import (Then NameFits name_word (λ name. Spelled (NamedFits name) sourced_words))
unfolding read_import
import_said = with_field_reads _ _ _ _ _ name_field source_reads

pub import_reads : Reads read_import (Spelled ImportFits import_words)
import_reads = record {
  takes = λ bytes r e.
      let s = import_said.takes bytes r e in
      let is : r.name ≡ s.0 = s.4.0.0 in
      ((subst NameFits (sym is) s.1, s.4.0.1, s.4.0.2), (s.2, subst (λ n. FirstWord bytes (name_word n) s.2) (sym is) s.3, s.4.1));
  again = λ bytes r s. import_said.again bytes r (r.name, s.0.0, s.1.0, s.1.1, ((refl, s.0.1, s.0.2), s.1.2));
  ends = λ bytes r s. says_end (import_words r) bytes s.1;
}
