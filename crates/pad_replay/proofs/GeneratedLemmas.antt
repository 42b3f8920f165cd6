-- The lines of the generated script.
use Rattle.pad_replay.specs.Generated.{cut_lines, generated_lines, head_lines, lines_behind_round, round_lines, rounds_from}
use Rattle.pad_replay.specs.Generators.{lines_behind_part, lines_left, part_lines}
use Rattle.pad_replay.specs.declared.generated.GeneratedLines.{GeneratedLines}
use Rattle.pad_replay.specs.declared.generated.Part.{Part}
use Rattle.pad_replay.specs.declared.generated.Part.TheVariants as parts
use Rattle.script_lang.specs.declared.kinds.Line.{Line}
use Rattle.std.proofs.Common.{ap, arith, length-append, refl, sym, ◌∙◌}
use Rattle.std.specs.Prelude.{Bool, List, [], drop, false, if◌then◌else◌, length, suc, true, zero, ℕ, ◌%◌, ◌*◌, ◌+◌, ◌++◌, ◌-◌, ◌<◌, ◌==◌, ◌≡◌, ◌≤◌}

-- no round
pub rounds_from-none : (round : ℕ) → rounds_from round 0 ≡ []
unfolding rounds_from
rounds_from-none round = refl

-- a round, and the others behind it
pub rounds_from-first : (round more : ℕ) → 0 < more → rounds_from round more ≡ round_lines round ++ lines_behind_round round ++ rounds_from (round + 1) (more - 1)
unfolding rounds_from
rounds_from-first round zero some = absurd (omega (arith, some))
rounds_from-first round (suc more) some =
    let less : suc more - 1 ≡ more = omega arith in
    ap (λ (n : ℕ). round_lines round ++ lines_behind_round round ++ rounds_from (round + 1) n) (sym less)

-- a part is over: what is behind it comes next
over-part : (part : Part) (place : ℕ) → place ≡ length (part_lines part) → drop place (part_lines part) ≡ []
over-part parts.Head place over = ap (λ (n : ℕ). drop n head_lines) over
over-part (parts.Round round) place over = ap (λ (n : ℕ). drop n (round_lines round)) over
over-part parts.Cut place over = ap (λ (n : ℕ). drop n cut_lines) over

module _ (script : GeneratedLines) (over : script.place ≡ length (part_lines script.part)) where
  left-behind : (behind : List Line) → lines_behind_part script.part ≡ behind → lines_left script ≡ behind ++ rounds_from script.next script.left
  left-behind behind is = ap (λ (first : List Line). first ++ lines_behind_part script.part ++ rounds_from script.next script.left) (over-part script.part script.place over)
      ∙ ap (λ (between : List Line). between ++ rounds_from script.next script.left) is

  pub next-cut : lines_behind_part script.part ≡ cut_lines → cut_lines ++ rounds_from script.next script.left ≡ lines_left script
  next-cut is = sym (left-behind cut_lines is)

  pub next-round : lines_behind_part script.part ≡ [] → 0 < script.left
      → round_lines script.next ++ lines_behind_round script.next ++ rounds_from (script.next + 1) (script.left - 1) ≡ lines_left script
  next-round is some = sym (left-behind [] is ∙ rounds_from-first script.next script.left some)

  pub next-none : lines_behind_part script.part ≡ [] → script.left ≡ 0 → lines_left script ≡ []
  next-none is none = left-behind [] is ∙ ap (rounds_from script.next) none ∙ rounds_from-none script.next

-- a round has at most 14 lines
length-behind : (b : Bool) (lines : List Line) → length lines ≡ 4 → length (if b then lines else []) ≤ 4
length-behind true lines four = omega (arith, four)
length-behind false lines four = omega arith

length-rounds : (round more : ℕ) → length (rounds_from round more) ≤ 14 * more
unfolding rounds_from
length-rounds round zero = omega arith
length-rounds round (suc more) = omega (arith, length-append (lines_behind_round round) (rounds_from (round + 1) more), length-behind (round % 4 == 3) cut_lines refl, length-rounds (round + 1) more)

-- a script of at most 5,000 rounds has at most 100,000 lines
pub length-generated : (rounds : ℕ) → rounds ≤ 5000 → length (generated_lines rounds) ≤ 100000
length-generated rounds few = omega (arith, few, length-rounds 0 rounds)
