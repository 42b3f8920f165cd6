-- The lanes of lines and of one line more.
use Rattle.std.proofs.Common.{ap, arith, refl, sym, ◌∙◌}
use Rattle.std.proofs.lemmas.Bool.Decides.{nat_tests}
use Rattle.std.proofs.lemmas.List.{append-nil, append_assoc, get_or-map, length-set, map-set}
use Rattle.std.proofs.lemmas.List.Elements.{All-append, All-replicate, All-set}
use Rattle.std.specs.Global.{Vec}
use Rattle.std.specs.Prelude.{All, Err, List, Ok, OnOk, Result, [], get_or, if◌then◌else◌, length, map, replicate, set, suc, true, false, zero, ℕ, ◌++◌, ◌+◌, ◌-◌, ◌<◌, ◌==◌, ◌∷◌, ◌≡◌, ◌≢◌}
use Rattle.lane_scripts.specs.LaneScripts.{lane_of, lanes_from, lanes_of, steps_in, with_last_line}
use Rattle.lane_scripts.specs.NextLines.{AreFormed}
use Rattle.script_lang.specs.LaneSpelling.{HasFormedStep, HasLane, IsFormedStep}
use Rattle.script_lang.specs.declared.lane_kinds.LaneLine.{LaneLine}
use Rattle.script_lang.specs.declared.lane_kinds.LaneLine.TheVariants as lane_line
use Rattle.script_lang.specs.declared.lane_kinds.LaneStep.{LaneStep}

-- ---- one lane

lane_of-line : (lane : ℕ) (lines : List LaneLine) (line : LaneLine) → lane_of lane (lines ++ line ∷ []) ≡ lane_of lane lines ++ steps_in lane line
lane_of-line lane [] line = append-nil (steps_in lane line)
lane_of-line lane (first ∷ lines) line = ap (λ (steps : List LaneStep). steps_in lane first ++ steps) (lane_of-line lane lines line) ∙ sym (append_assoc (steps_in lane first) (lane_of lane lines) (steps_in lane line))

-- a line of the lane, of another, and a blank one
steps_in-same : (lane : ℕ) (step : LaneStep) → steps_in lane (lane_line.At lane step) ≡ step ∷ []
steps_in-same lane step = let same : (lane == lane) ≡ true = grind (arith, nat_tests) in ap (λ is. if is then step ∷ [] else []) same

steps_in-other : (lane other : ℕ) (step : LaneStep) → other ≢ lane → steps_in lane (lane_line.At other step) ≡ []
steps_in-other lane other step apart = let not_same : (other == lane) ≡ false = grind (arith, nat_tests, apart) in ap (λ is. if is then step ∷ [] else []) not_same

lane_of-same : (lane : ℕ) (lines : List LaneLine) (step : LaneStep) → lane_of lane (lines ++ lane_line.At lane step ∷ []) ≡ lane_of lane lines ++ step ∷ []
lane_of-same lane lines step = lane_of-line lane lines (lane_line.At lane step) ∙ ap (λ (steps : List LaneStep). lane_of lane lines ++ steps) (steps_in-same lane step)

lane_of-unchanged : (lane : ℕ) (lines : List LaneLine) (line : LaneLine) → steps_in lane line ≡ [] → lane_of lane (lines ++ line ∷ []) ≡ lane_of lane lines
lane_of-unchanged lane lines line none = lane_of-line lane lines line ∙ ap (λ (steps : List LaneStep). lane_of lane lines ++ steps) none ∙ append-nil (lane_of lane lines)

-- ---- lanes

both : (first second : List LaneStep) (more others : List (List LaneStep)) → first ≡ second → more ≡ others → (first ∷ more) ≡ second ∷ others
both first second more others is are = cc

-- a blank line, and a line of a lane before the first of these
lanes_from-blank : (more first : ℕ) (lines : List LaneLine) → lanes_from first more (lines ++ lane_line.Blank ∷ []) ≡ lanes_from first more lines
unfolding lanes_from
lanes_from-blank zero first lines = refl
lanes_from-blank (suc more) first lines = both _ _ _ _ (lane_of-unchanged first lines lane_line.Blank refl) (lanes_from-blank more (suc first) lines)

lanes_from-before : (more first lane : ℕ) (lines : List LaneLine) (step : LaneStep) → lane < first → lanes_from first more (lines ++ lane_line.At lane step ∷ []) ≡ lanes_from first more lines
unfolding lanes_from
lanes_from-before zero first lane lines step before = refl
lanes_from-before (suc more) first lane lines step before = both _ _ _ _ (lane_of-unchanged first lines (lane_line.At lane step) (steps_in-other first lane step (omega (arith, before)))) (lanes_from-before more (suc first) lane lines step (omega (arith, before)))

-- a line of the lane at this place
abbrev with_step : List (List LaneStep) → ℕ → LaneStep → List (List LaneStep)
with_step lanes place step = set lanes place (get_or lanes place [] ++ step ∷ [])

lanes_from-at : (place more first lane : ℕ) (lines : List LaneLine) (step : LaneStep) → place < more → lane ≡ place + first → lanes_from first more (lines ++ lane_line.At lane step ∷ []) ≡ with_step (lanes_from first more lines) place step
unfolding lanes_from
lanes_from-at place zero first lane lines step few at = absurd (omega (arith, few))
lanes_from-at zero (suc more) first lane lines step few at =
    let here : lane ≡ first = omega (arith, at) in
    both _ _ _ _ (ap (λ (number : ℕ). lane_of first (lines ++ lane_line.At number step ∷ [])) here ∙ lane_of-same first lines step) (lanes_from-before more (suc first) lane lines step (omega (arith, here)))
lanes_from-at (suc place) (suc more) first lane lines step few at = both _ _ _ _ (lane_of-unchanged first lines (lane_line.At lane step) (steps_in-other first lane step (omega (arith, at)))) (lanes_from-at place more (suc first) lane lines step (omega (arith, few)) (omega (arith, at)))

-- the lanes of lines and one more
pub lanes_of-line : (lines : List LaneLine) (line : LaneLine) → HasLane line → lanes_of (lines ++ line ∷ []) ≡ with_last_line (lanes_of lines) line
lanes_of-line lines lane_line.Blank lane = lanes_from-blank 16 1 lines
lanes_of-line lines (lane_line.At number step) lane = lanes_from-at (number - 1) 16 1 number lines step (omega (arith, lane)) (omega (arith, lane))

-- the lanes of no lines
lanes_from-none : (more first : ℕ) → lanes_from first more [] ≡ replicate more []
unfolding lanes_from
lanes_from-none zero first = refl
lanes_from-none (suc more) first = both _ _ _ _ refl (lanes_from-none more (suc first))

pub lanes_of-none : lanes_of [] ≡ replicate 16 []
lanes_of-none = lanes_from-none 16 1

-- ---- well-formed steps

pub formed-none : AreFormed (replicate 16 [])
formed-none = All-replicate (λ (lane : List LaneStep). All IsFormedStep lane) 16 [] (λ k d few. absurd (omega (arith, few)))

pub formed-line : (lanes : List (List LaneStep)) (line : LaneLine) → length lanes ≡ 16 → HasLane line → HasFormedStep line → AreFormed lanes → AreFormed (with_last_line lanes line)
formed-line lanes lane_line.Blank size lane formed all = all
formed-line lanes (lane_line.At number step) size lane formed all =
    All-set (λ (lane : List LaneStep). All IsFormedStep lane) lanes (number - 1) _ (All-append IsFormedStep (get_or lanes (number - 1) []) (step ∷ []) (all (number - 1) [] (omega (arith, size, lane))) (one step formed)) all
  where
    one : (step : LaneStep) → IsFormedStep step → All IsFormedStep (step ∷ [])
    one step formed zero d few = formed
    one step formed (suc k) d few = absurd (omega (arith, few))

pub length-line : (lanes : List (List LaneStep)) (line : LaneLine) → length (with_last_line lanes line) ≡ length lanes
length-line lanes lane_line.Blank = refl
length-line lanes (lane_line.At number step) = length-set lanes (number - 1) _

-- ---- lists of a program

pub on_ok-then : {A E : Type 0} (result : Result A E) {P Q : Type 0} → (P → Q) → OnOk result P → OnOk result Q
on_ok-then (Ok a) follows holds = follows holds
on_ok-then (Err e) follows holds = tt

-- a step is put behind those of one list
pub map-step : (lists : List (Vec LaneStep)) (place : ℕ) (old new : Vec LaneStep) (step : LaneStep) → place < length lists → new.items ≡ (get_or lists place old).items ++ step ∷ []
    → map (λ (lane : Vec LaneStep). lane.items) (set lists place new) ≡ set (map (λ (lane : Vec LaneStep). lane.items) lists) place (get_or (map (λ (lane : Vec LaneStep). lane.items) lists) place [] ++ step ∷ [])
map-step lists place old new step few is =
    map-set (λ (lane : Vec LaneStep). lane.items) lists place new
    ∙ ap (λ (steps : List LaneStep). set (map (λ (lane : Vec LaneStep). lane.items) lists) place steps) (is ∙ ap (λ (steps : List LaneStep). steps ++ step ∷ []) (sym (get_or-map (λ (lane : Vec LaneStep). lane.items) lists place old [] few)))
