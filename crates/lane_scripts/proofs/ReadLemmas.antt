-- The lines of a lane script that were read.
use Rattle.std.proofs.Common.{ap, refl, subst, sym, ◌∙◌}
use Rattle.std.proofs.lemmas.List.{append_assoc}
use Rattle.std.specs.Prelude.{Err, IfSome, IsErrAnd, List, None, Ok, Option, Result, Some, [], ℕ, ◌++◌, ◌+◌, ◌∷◌, ◌≡◌}
use Rattle.lane_scripts.proofs.LaneLemmas.{lanes_of-line}
use Rattle.lane_scripts.proofs.LineLemmas.{same-fault}
use Rattle.lane_scripts.specs.LaneScripts.{LaneScript, lane_lines_behind, lane_script_of, lanes_of, with_last_line}
use Rattle.lane_scripts.specs.NextLines.{IsBadNext, IsFirstLine, IsNext, IsRead}
use Rattle.lane_scripts.specs.declared.reading.ScriptFault.{ScriptFault}
use Rattle.script_lang.specs.LaneSpelling.{HasLane}
use Rattle.script_lang.specs.Scripts.{lines_before}
use Rattle.script_lang.specs.declared.lane_kinds.LaneLine.{LaneLine}
use Rattle.script_lang.specs.declared.lane_kinds.LaneStep.{LaneStep}

-- facts of what is told
pub if_some-some : {A : Type 0} (o : Option A) {P : A → Type 0} → ((x : A) → o ≡ Some x → P x) → IfSome o P
if_some-some None all = tt
if_some-some (Some x) all = all x refl

pub if_some-then : {A : Type 0} (o : Option A) {P Q : A → Type 0} → ((x : A) → P x → Q x) → IfSome o P → IfSome o Q
if_some-then None follows holds = tt
if_some-then (Some x) follows holds = follows x holds

pub text-fact : (told : Option (List ℕ)) (text : List ℕ) (P : List ℕ → Type 0) → told ≡ Some text → IfSome told P → P text
text-fact told text P is fact = subst (λ (found : Option (List ℕ)). IfSome found P) is fact

-- what comes next of the rest of a script
pub next-fact : (told after : Option (List ℕ)) (text : List ℕ) (lines count : ℕ) (next : Option LaneLine) → told ≡ Some text → lines ≡ count → IfSome told (λ text. IsNext lines text after next) → IsNext count text after next
next-fact told after text lines count next is at fact = subst (λ (n : ℕ). IsNext n text after next) at (text-fact told text (λ text. IsNext lines text after next) is fact)

pub bad-fact : (told : Option (List ℕ)) (text : List ℕ) (lines count n : ℕ) → told ≡ Some text → lines ≡ count → IfSome told (λ text. (n ≡ lines + 1) × IsBadNext lines text) → (n ≡ count + 1) × IsBadNext count text
bad-fact told text lines count n is at fact = subst (λ (lines : ℕ). (n ≡ lines + 1) × IsBadNext lines text) at (text-fact told text (λ text. (n ≡ lines + 1) × IsBadNext lines text) is fact)

-- the fault that is handed on
pub handed-fault : {A : Type 0} (result : Result A ScriptFault) (fault other : ScriptFault) → IsErrAnd result (λ e. e ≡ fault) → result ≡ Err other → fault ≡ other
handed-fault (Ok a) fault other handed is = absurd cc
handed-fault (Err e) fault other handed is = sym handed ∙ same-fault e other is

-- no line was read
pub read-none : (script : List ℕ) (left : Option (List ℕ)) (lanes : List (List LaneStep)) → left ≡ Some script → lanes ≡ lanes_of [] → IsRead script 0 left lanes
read-none script left lanes told none = record { lines = []; rest = script; told = told; are = refl; steps = none }

-- one line more was read
pub read-line : (script : List ℕ) (count : ℕ) (before after : Option (List ℕ)) (lanes new : List (List LaneStep)) (line : LaneLine) (read : IsRead script count before lanes) → IsFirstLine count read.rest after line → HasLane line → new ≡ with_last_line lanes line
    → IsRead script (count + 1) after new
read-line script count before after lanes new line read first lane is = record {
  lines = read.lines ++ line ∷ [];
  rest = first.rest;
  told = first.left;
  are = read.are ∙ ap (λ (rest : LaneScript). lines_before read.lines rest) first.are ∙ ap (λ (lines : List LaneLine). record { lines = lines; bad = (lane_lines_behind (count + 1) first.rest).bad }) (sym (append_assoc read.lines (line ∷ []) (lane_lines_behind (count + 1) first.rest).lines));
  steps = is ∙ ap (λ (ls : List (List LaneStep)). with_last_line ls line) read.steps ∙ sym (lanes_of-line read.lines line lane);
}

-- a bad line comes behind those that were read
pub read-bad : (script : List ℕ) (count n : ℕ) (before : Option (List ℕ)) (lanes : List (List LaneStep)) (read : IsRead script count before lanes) → n ≡ count + 1 → IsBadNext count read.rest → (lane_script_of script).bad ≡ Some n
read-bad script count n before lanes read at bad = ap (λ (all : LaneScript). all.bad) read.are ∙ ap (λ (all : LaneScript). all.bad) bad ∙ ap (λ (number : ℕ). Some number) (sym at)
