-- The laws of a crypt command.
use Rattle.std.proofs.Common.{◌≡◌, ℕ, List, Some, refl, subst}
use Rattle.script_lang.specs.Words.{Says}
use Rattle.script_lang.specs.Reading.{read_crypt}
use Rattle.script_lang.specs.Spelling.{algorithm_word, body_word, byte_word, crypt_words, direction_word, name_word, start_word}
use Rattle.pad_steps.specs.declared.commands.CryptRequest.{CryptRequest}
use Rattle.script_lang.proofs.ByteLaws.{body_field}
use Rattle.script_lang.proofs.Fits.{BytesFit, CryptFits, IsByte, NameFits, StartFits}
use Rattle.script_lang.proofs.HexLaws.{byte_field}
use Rattle.script_lang.proofs.NameLaws.{name_field}
use Rattle.script_lang.proofs.Readers.{Always, Ended, Reads, Then, ended_reads, with_field_reads}
use Rattle.script_lang.proofs.RowLaws.{Spelled, says_end}
use Rattle.script_lang.proofs.StartLaws.{start_field}
use Rattle.script_lang.proofs.WordLaws.{algorithm_field, direction_field}

abbrev CryptSaid : CryptRequest → List ℕ → Type 0
CryptSaid = Then Always algorithm_word (λ a. Then Always direction_word (λ d. Then NameFits name_word (λ key. Then StartFits start_word (λ start. Then IsByte byte_word (λ pad. Then (BytesFit 0 1024) body_word (λ body.
    Ended (record { algorithm = a; direction = d; key = key; start = start; pad = pad; body = body })))))))

crypt_said : Reads read_crypt CryptSaid
unfolding read_crypt
crypt_said = with_field_reads _ _ _ _ _ algorithm_field (λ a. with_field_reads _ _ _ _ _ direction_field (λ d. with_field_reads _ _ _ _ _ name_field (λ key. with_field_reads _ _ _ _ _ start_field (λ start. with_field_reads _ _ _ _ _ byte_field (λ pad. with_field_reads _ _ _ _ _ body_field (λ body.
    ended_reads (record { algorithm = a; direction = d; key = key; start = start; pad = pad; body = body })))))))

crypt_takes : (bytes : List ℕ) (r : CryptRequest) → read_crypt bytes ≡ Some r → Spelled CryptFits crypt_words r bytes
crypt_takes bytes r e =
    let a = crypt_said.takes bytes r e in
    let d = a.4 in let k = d.4 in let s = k.4 in let p = s.4 in let b = p.4 in
    subst (λ r. Spelled CryptFits crypt_words r bytes) b.4.0
    ((k.1, s.1, p.1, b.1), (a.2, a.3, (d.2, d.3, (k.2, k.3, (s.2, s.3, (p.2, p.3, (b.2, b.3, b.4.1)))))))

crypt_again : (bytes : List ℕ) (r : CryptRequest) → CryptFits r → Says bytes (crypt_words r) → read_crypt bytes ≡ Some r
crypt_again bytes r fits a =
    let d = a.2 in let k = d.2 in let s = k.2 in let p = s.2 in let b = p.2 in
    crypt_said.again bytes r (r.algorithm, tt, a.0, a.1, (r.direction, tt, d.0, d.1, (r.key, fits.0, k.0, k.1, (r.start, fits.1, s.0, s.1, (r.pad, fits.2, p.0, p.1, (r.body, fits.3, b.0, b.1, (refl, b.2)))))))

pub crypt_reads : Reads read_crypt (Spelled CryptFits crypt_words)
crypt_reads = record { takes = crypt_takes; again = λ bytes r s. crypt_again bytes r s.0 s.1; ends = λ bytes r s. says_end (crypt_words r) bytes s.1 }
