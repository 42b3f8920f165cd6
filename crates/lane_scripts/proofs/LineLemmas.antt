-- The next line of a lane script.
use Rattle.std.proofs.Common.{ap, arith, length-append, refl, ◌∙◌}
use Rattle.std.proofs.lemmas.Bool.Decides.{nat_tests}
use Rattle.std.proofs.lemmas.List.{nil_from_length}
use Rattle.std.specs.Prelude.{Bool, Err, IfSome, List, None, Option, Result, Some, [], drop, false, if◌then◌else◌, length, nat_lt, take, true, ℕ, ◌&&◌, ◌+◌, ◌++◌, ◌==◌, ◌≡◌}
use Rattle.lane_scripts.specs.LaneScripts.{lane_lines_behind}
use Rattle.lane_scripts.specs.NextLines.{IsBadNext, IsNext}
use Rattle.lane_scripts.specs.declared.reading.ScriptFault.{ScriptFault}
use Rattle.lane_scripts.specs.declared.reading.ScriptFault.TheVariants.{BadLine}
use Rattle.script_lang.specs.LaneReading.{lane_line_of}
use Rattle.script_lang.specs.Lines.{CutEnd, LeavesTaken, Reader, Shows, cut_of, rest_of}
use Rattle.script_lang.specs.Scripts.{IsReadLineByLine, with_line as line_first}
use Rattle.script_lang.specs.declared.lane_kinds.LaneLine.{LaneLine}
use Rattle.script_lang.specs.declared.line_reader.Taken.{Taken}
use Rattle.script_lang.specs.declared.line_reader.Taken.TheVariants as taken

-- what a reader took is this line, or the end
abbrev pub Reads : Taken → Option LaneLine → Type 0
Reads (taken.Line text) (Some line) = lane_line_of text.now ≡ Some line
Reads taken.End None = Unit {0}
Reads other something = ⊥

-- what a reader took is a bad line
abbrev pub ReadsBad : Taken → Type 0
ReadsBad (taken.Line text) = lane_line_of text.now ≡ None
ReadsBad taken.End = ⊥
ReadsBad taken.Bad = Unit {0}

-- the laws of scripts
abbrev ReadsOn : Type 0
ReadsOn = (n : ℕ) (text : List ℕ) → IsReadLineByLine lane_line_of n text

abbrev CutsEnd : Type 0
CutsEnd = (n : ℕ) (text : List ℕ) → cut_of n text ≡ CutEnd → text ≡ []

module _ (count : ℕ) (text : List ℕ) (reading : IsReadLineByLine lane_line_of count text) where
  found : (cut_of count text ≡ CutEnd → text ≡ []) → (after : Option (List ℕ)) (old new : Reader) (took : Taken) (next : Option LaneLine) → old.lines ≡ count → Shows (cut_of count text) took → LeavesTaken (Some text) after old new took → Reads took next → IsNext count text after next
  found ends after old new (taken.Line bytes) (Some line) at shows leaves reads = record {
    rest = shows.0;
    left = leaves.rest ∙ ap (λ (n : ℕ). rest_of (cut_of n text)) at ∙ ap rest_of shows.1;
    are = reading.line bytes.now shows.0 shows.1 ∙ ap (λ (l : Option LaneLine). line_first (count + 1) l (lane_lines_behind (count + 1) shows.0)) reads;
  }
  found ends after old new (taken.Line bytes) None at shows leaves reads = absurd reads
  found ends after old new taken.End None at shows leaves reads = record { left = leaves.0.text ∙ ap (λ (t : List ℕ). Some t) (ends shows); are = reading.end shows }
  found ends after old new taken.End (Some line) at shows leaves reads = absurd reads
  found ends after old new taken.Bad None at shows leaves reads = absurd reads
  found ends after old new taken.Bad (Some line) at shows leaves reads = absurd reads

  found-bad : (took : Taken) → Shows (cut_of count text) took → ReadsBad took → IsBadNext count text
  found-bad (taken.Line bytes) shows reads = reading.line bytes.now shows.0 shows.1 ∙ ap (λ (l : Option LaneLine). line_first (count + 1) l (lane_lines_behind (count + 1) shows.0)) reads
  found-bad taken.End shows reads = absurd reads
  found-bad taken.Bad shows reads = reading.bad shows

-- what a reader took of what was told comes next
pub next-found : (ends : CutsEnd) (reads_on : ReadsOn) (told after : Option (List ℕ)) (old new : Reader) (took : Taken) (next : Option LaneLine) → IfSome told (λ text. Shows (cut_of old.lines text) took) → LeavesTaken told after old new took → Reads took next
    → IfSome told (λ text. IsNext old.lines text after next)
next-found ends reads_on None after old new took next shows leaves reads = tt
next-found ends reads_on (Some text) after old new took next shows leaves reads = found old.lines text (reads_on old.lines text) (ends old.lines text) after old new took next refl shows leaves reads

-- faults and numbers of the same
pub same-fault : {A : Type 0} (fault other : ScriptFault) → ◌≡◌ {A = Result A ScriptFault} (Err fault) (Err other) → fault ≡ other
same-fault fault other same = cc

pub same-number : {A : Type 0} (number other : ℕ) → ◌≡◌ {A = Result A ScriptFault} (Err (BadLine number)) (Err (BadLine other)) → number ≡ other
same-number number other same = cc

-- a bad line that a reader took of what was told has this number
pub bad-found : (reads_on : ReadsOn) (told : Option (List ℕ)) (old : Reader) (took : Taken) (number n : ℕ) → number ≡ old.lines + 1 → n ≡ number → IfSome told (λ text. Shows (cut_of old.lines text) took) → ReadsBad took
    → IfSome told (λ text. (n ≡ old.lines + 1) × IsBadNext old.lines text)
bad-found reads_on None old took number n at same shows reads = tt
bad-found reads_on (Some text) old took number n at same shows reads = (same ∙ at, found-bad old.lines text (reads_on old.lines text) took shows reads)
