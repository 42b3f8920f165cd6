-- The words that stand in lane scripts alone: what is read of each is spelled so, and what is spelled so is read.
use Rattle.std.proofs.Common.{◌≡◌, ◌≤◌, ◌<◌, ℕ, List, [], ◌∷◌, Option, Some, None, Bool, true, false, eqb, refl, sym, ap, subst, inl, inr, ◌∙◌, arith}
use Rattle.std.specs.Prelude.{IsTrue, bytes_eq, codes, nat_le}
use Rattle.std.proofs.lemmas.Bool.{eqb-true}
use Rattle.std.proofs.lemmas.Bool.Decides.{nat_tests}
use Rattle.std.specs.Fmt.{decimal}
use Rattle.pad_words.specs.declared.numbers.Session.{Session}
use Rattle.script_lang.specs.contracts.lane_kinds.LaneVerb.{the_type as lane_verb_type}
use Rattle.script_lang.specs.declared.lane_kinds.LaneId.{LaneId}
use Rattle.script_lang.specs.declared.lane_kinds.LaneId.TheVariants as lane_id
use Rattle.script_lang.specs.Words.{IsWord}
use Rattle.script_lang.specs.Reading.{digits_onto, has_plain_front, read_number, read_session}
use Rattle.script_lang.specs.LaneSpelling.{awaited_word, is_counted, is_lane_id, lane_id_word, lane_verb_text, lane_verb_word, lane_verbs, lane_word, marked_word, nth_word}
use Rattle.script_lang.specs.LaneReading.{read_awaited, read_lane, read_lane_id, read_lane_verb, read_marked, read_nth}
use Rattle.script_lang.proofs.NumberLaws.{Within, number_field, session_field}
use Rattle.script_lang.proofs.Options.{both_true, cases_some, guard_some, mapped_some, same_bytes, some_is}
use Rattle.script_lang.proofs.Readers.{Always, IsField}
use Rattle.script_lang.proofs.WordLaws.{enum_field}

pub lane_verb_field : IsField read_lane_verb Always lane_verb_word
unfolding read_lane_verb lane_verb_text
lane_verb_field = enum_field lane_verb_type lane_verbs tt refl

-- ---- numbers behind a mark

abbrev pub Counted : ℕ → ℕ → Type 0
Counted high n = IsTrue (is_counted high n)

counted_within : (high n : ℕ) → Counted high n → Within 1 high n
counted_within high n e = let b = both_true (nat_le 1 n) (nat_le n high) e in (grind (arith, nat_tests, b.0), grind (arith, nat_tests, b.1))

within_counted : (high n : ℕ) → Within 1 high n → Counted high n
within_counted high n h =
    let low : nat_le 1 n ≡ true = grind (arith, nat_tests, h.0) in
    let top : nat_le n high ≡ true = grind (arith, nat_tests, h.1) in
    rw (low, top) refl

marked_takes : (mark high : ℕ) → high < 10000000000 → (text : List ℕ) (n : ℕ) → read_marked mark high text ≡ Some n → Counted high n × IsWord text (marked_word mark n)
unfolding read_marked
marked_takes mark high small [] n e = absurd cc
marked_takes mark high small (c ∷ digits) n e =
    let g = guard_some (eqb c mark) (read_number 1 high digits) n e in
    let t = (number_field 1 high small).takes digits n g.1 in
    (within_counted high n t.0, rw (eqb-true c mark g.0, t.1) refl)

marked_again : (mark high : ℕ) → high < 10000000000 → (text : List ℕ) (n : ℕ) → Counted high n → IsWord text (marked_word mark n) → read_marked mark high text ≡ Some n
unfolding read_marked
marked_again mark high small text n counted is =
    let same : eqb mark mark ≡ true = grind (arith, nat_tests) in
    rw (is, same) ((number_field 1 high small).again (decimal n) n (counted_within high n counted) refl)

marked_field : (mark high : ℕ) → high < 10000000000 → IsField (read_marked mark high) (Counted high) (marked_word mark)
marked_field mark high small = record { takes = marked_takes mark high small; again = marked_again mark high small }

abbrev pub IsLane : ℕ → Type 0
IsLane = Counted 16

abbrev pub IsNth : ℕ → Type 0
IsNth = Counted 4294967295

pub lane_field : IsField read_lane IsLane lane_word
lane_field = marked_field 64 16 (omega arith)

pub nth_field : IsField read_nth IsNth nth_word
nth_field = marked_field 35 4294967295 (omega arith)

pub lane_within : (lane : ℕ) → IsLane lane → (1 ≤ lane) × (lane ≤ 16)
lane_within = counted_within 16

-- ---- one word for itself, and a reader for the others

-- what a reader reads that does not read this word is another
not_word : {A : Type 0} (f : List ℕ → Option A) (word text : List ℕ) (x : A) (b : Bool) → bytes_eq text word ≡ b → f word ≡ None → f text ≡ Some x → b ≡ false
not_word f word text x true e none found = let other : None ≡ Some x = sym none ∙ ap f (sym (same_bytes text word e)) ∙ found in absurd cc
not_word f word text x false e none found = refl

abbrev pub IdCounted : LaneId → Type 0
IdCounted id = IsTrue (is_lane_id id)

id_takes : (text : List ℕ) (id : LaneId) → read_lane_id text ≡ Some id → IdCounted id × IsWord text (lane_id_word id)
unfolding read_lane_id
id_takes text id e =
    let P : LaneId → Type 0 = λ id. IdCounted id × IsWord text (lane_id_word id) in
    elim (cases_some (bytes_eq text (codes "0")) (Some lane_id.Zero) _ id e) [
      | inl a ↦ subst P (some_is lane_id.Zero id a.1) (refl, same_bytes text (codes "0") a.0)
      | inr b ↦ let k = mapped_some (read_nth text) (λ (k : ℕ). lane_id.Nth k) id b.1 in subst P k.2 (nth_field.takes text k.0 k.1)
    ]

nth_of_zero : read_nth (codes "0") ≡ None
unfolding read_marked
nth_of_zero = refl

id_again : (text : List ℕ) (id : LaneId) → IdCounted id → IsWord text (lane_id_word id) → read_lane_id text ≡ Some id
unfolding read_lane_id
id_again text lane_id.Zero counted is = rw is refl
id_again text (lane_id.Nth k) counted is =
    let found = nth_field.again text k counted is in
    rw (not_word read_nth (codes "0") text k (bytes_eq text (codes "0")) refl nth_of_zero found, found) refl

pub lane_id_field : IsField read_lane_id IdCounted lane_id_word
lane_id_field = record { takes = id_takes; again = id_again }

awaited_takes : (text : List ℕ) (o : Option Session) → read_awaited text ≡ Some o → Unit {0} × IsWord text (awaited_word o)
unfolding read_awaited
awaited_takes text o e =
    let P : Option Session → Type 0 = λ o. Unit {0} × IsWord text (awaited_word o) in
    elim (cases_some (bytes_eq text (codes "entry")) (Some None) _ o e) [
      | inl a ↦ subst P (some_is None o a.1) (tt, same_bytes text (codes "entry") a.0)
      | inr b ↦ let s = mapped_some (read_session text) (λ (s : Session). Some s) o b.1 in subst P s.2 (session_field.takes text s.0 s.1)
    ]

session_of_entry : read_session (codes "entry") ≡ None
unfolding read_session read_number has_plain_front digits_onto
session_of_entry = refl

awaited_again : (text : List ℕ) (o : Option Session) → Unit {0} → IsWord text (awaited_word o) → read_awaited text ≡ Some o
unfolding read_awaited
awaited_again text None always is = rw is refl
awaited_again text (Some s) always is =
    let found = session_field.again text s tt is in
    rw (not_word read_session (codes "entry") text s (bytes_eq text (codes "entry")) refl session_of_entry found, found) refl

pub awaited_field : IsField read_awaited Always awaited_word
awaited_field = record { takes = awaited_takes; again = awaited_again }
