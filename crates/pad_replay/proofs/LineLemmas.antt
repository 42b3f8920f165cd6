-- Lines run one after another, as values.
use Rattle.std.proofs.Common.{ap, append-nil, append_assoc, arith, length-append, refl, subst, sym, ◌∙◌}
use Rattle.std.proofs.lemmas.List.{take-append-le}
use Rattle.std.proofs.Math.Seq.{take-length}
use Rattle.std.specs.Prelude.{Bool, List, [], false, length, take, true, ℕ, ◌+◌, ◌++◌, ◌∷◌, ◌≡◌, ◌≤◌}
use Rattle.flat_machine.specs.Deeds.{Deed, DueFrom, acts_in}
use Rattle.flat_machine.specs.Machine.{lines_from}
use Rattle.flat_machine.specs.State.{Flat, opening}
use Rattle.pad_machine.specs.Stands.{StandsFor}
use Rattle.pad_steps.specs.declared.steps.DiskWord.{DiskWord}
use Rattle.pad_replay.proofs.DiskLemmas.{Unloaded, runs-on}
use Rattle.pad_replay.proofs.RunLemmas.{Joins, OnDisk, after_all, broke-none, broke-then, play_then-append, ran-none, ran-then, took-then, wordless-mark, wordless-play}
use Rattle.pad_replay.specs.Endings.{LinesEnd}
use Rattle.pad_replay.specs.Outcomes.{RanEach, RanSoMany}
use Rattle.pad_replay.specs.Parts.{BreaksPart, BrokeOff, Progress, Ran, RanFront, RunsOnDisk, RunsPart, TakesPart}
use Rattle.pad_replay.specs.Runs.{Played, Player, line_then, play, play_any, play_end, play_then, printed_by, program_setting}
use Rattle.pad_replay.specs.Tallies.{tally_after}
use Rattle.pad_replay.specs.declared.script_run.Course.{Course}
use Rattle.pad_replay.specs.declared.script_run.End.{End}
use Rattle.pad_replay.specs.declared.script_run.End.TheVariants as ends
use Rattle.script_lang.specs.declared.kinds.Line.{Line}

-- lines in front of more lines
take-front : (lines more : List Line) (count : ℕ) → length lines ≡ count → take count (lines ++ more) ≡ lines
take-front lines more count many =
    ap (λ (n : ℕ). take n (lines ++ more)) (sym many) ∙ take-append-le (length lines) lines more (omega arith) ∙ take-length lines

-- words behind none
pub words-all : (before after : Progress) (more : List DiskWord) → before.words ≡ [] → after.words ≡ before.words ++ more → after.words ≡ more
words-all before after more fresh told = told ∙ ap (λ (words : List DiskWord). words ++ more) fresh

-- no line was run
pub front-none : (seed : List ℕ) (lines : List Line) (before : Progress) → StandsFor before.pad seed opening → OnDisk seed opening [] before.disk before.disk → RanFront seed lines lines 0 before before
front-none seed lines before stands nothing = record {
  front = [];
  parts = refl;
  many = refl;
  ran = λ others. ran-none seed opening before before others stands refl refl refl nothing;
}

-- what was run of lines, so many of them
module _ (seed : List ℕ) (lines left : List Line) (count : ℕ) (before now : Progress) (fresh : before.words ≡ []) (ranf : RanFront seed lines left count before now) where
  -- what is left comes behind what was run
  whole-is : (rest : Player) → play_then seed lines rest ≡ play_then seed ranf.front (play_then seed left rest)
  whole-is rest = ap (λ (all : List Line). play_then seed all rest) ranf.parts ∙ play_then-append seed ranf.front left rest

  pub front-ran : (rest : Player) → Ran seed opening (play_then seed lines rest) (play_then seed left rest) before now
  front-ran rest = subst (λ (player : Player). Ran seed opening player (play_then seed left rest) before now) (sym (whole-is rest)) (ranf.ran (play_then seed left rest))

  pub front-taken : take count lines ≡ ranf.front
  front-taken = ap (take count) ranf.parts ∙ take-front ranf.front left count ranf.many

  -- the words are one for each step of these lines
  pub front-whole-words : (play seed (take count lines) opening now.words).whole ≡ true
  front-whole-words = let ran = ranf.ran play_end in
      ap (λ (all : List Line). (play seed all opening now.words).whole) front-taken
      ∙ ap (λ (words : List DiskWord). (play seed ranf.front opening words).whole) (words-all before now ran.took.more fresh ran.took.told_more ∙ sym (append-nil ran.took.more))
      ∙ ap (λ (played : Played). played.whole) (ran.took.played [])

  front-within : count ≤ length lines
  front-within = omega (arith, ranf.many, ap length ranf.parts, length-append ranf.front left)

  pub front-many : RanSoMany seed lines now.words count
  front-many = record { within = front-within; front = now.words; back = []; parts = sym (append-nil now.words); whole = front-whole-words; few = λ some. absurd (omega (arith, some)) }

  -- where nothing more was run
  stopped-broke : ((state : Flat) → OnDisk seed state [] now.disk now.disk) → Joins seed opening before.disk now.disk now.disk → BrokeOff seed opening (play seed lines) true before now
  stopped-broke nothing joins = broke-then seed opening (play seed lines) (play seed left) true before now now joins (front-ran play_end)
      (λ state stands. broke-none seed state now now (play seed left) true (wordless-play seed left play_end (wordless-mark [])) (λ not_all. absurd cc) refl refl (nothing state))

  -- the disk has what the deeds of a run did that broke off
  pub broke-deeds : (after : Progress) (is_taken : Bool) → Unloaded seed before.disk after.disk → BrokeOff seed opening (play seed lines) is_taken before after
      → RunsOnDisk seed (play seed lines opening after.words).deeds before.disk after.disk
  broke-deeds after is_taken unloaded broke = runs-on seed (play seed lines opening after.words).deeds broke.done broke.left before.disk after.disk
      (ap (λ (words : List DiskWord). (play seed lines opening words).deeds) (words-all before after broke.more fresh broke.told_more) ∙ broke.parts)
      broke.armings unloaded broke.on_disk

  pub stopped-deeds : Unloaded seed before.disk now.disk → ((state : Flat) → OnDisk seed state [] now.disk now.disk) → Joins seed opening before.disk now.disk now.disk
      → RunsOnDisk seed (play seed lines opening now.words).deeds before.disk now.disk
  stopped-deeds unloaded nothing joins = broke-deeds now true unloaded (stopped-broke nothing joins)

  -- where no line is left
  module _ (none : left ≡ []) where
    ended-ran : Ran seed opening (play seed lines) play_end before now
    ended-ran = subst (λ (all : List Line). Ran seed opening (play seed lines) (play seed all) before now) none (front-ran play_end)

    ended-played : play seed lines opening now.words ≡ record { deeds = ended-ran.took.done; whole = true; mark = [] }
    ended-played = ap (play seed lines opening) (words-all before now ended-ran.took.more fresh ended-ran.took.told_more ∙ sym (append-nil ended-ran.took.more))
        ∙ ended-ran.took.played [] ∙ ap (λ (deeds : List Deed). record { deeds = deeds; whole = true; mark = [] }) (append-nil ended-ran.took.done)

    pub ended-each : RanEach seed lines now.words count before.disk now.disk
    ended-each = record {
      count = sym ranf.many ∙ ap length (sym (append-nil ranf.front) ∙ ap (λ (all : List Line). ranf.front ++ all) (sym none) ∙ sym ranf.parts);
      whole = ap (λ (played : Played). played.whole) ended-played;
      due = subst (λ (played : Played). DueFrom (program_setting seed) opening played.deeds before.disk.armed now.disk.armed) (sym ended-played) ended-ran.took.on_disk.due;
    }

    pub ended-counted : now.tally ≡ tally_after before.tally (printed_by seed lines now.words)
    ended-counted = ended-ran.took.tally ∙ ap (λ (played : Played). tally_after before.tally (lines_from (program_setting seed) opening (acts_in played.deeds))) (sym ended-played)

-- one more line
module _ (seed : List ℕ) (lines : List Line) (line : Line) (left : List Line) (count : ℕ) (before now after : Progress) (joins : Joins seed opening before.disk now.disk after.disk)
    (ranf : RanFront seed lines (line ∷ left) count before now) where
  more-parts : lines ≡ (ranf.front ++ line ∷ []) ++ left
  more-parts = ranf.parts ∙ sym (append_assoc ranf.front (line ∷ []) left)

  more-many : length (ranf.front ++ line ∷ []) ≡ count + 1
  more-many = omega (arith, length-append ranf.front (line ∷ []), ranf.many)

  more-taken : take (count + 1) lines ≡ ranf.front ++ line ∷ []
  more-taken = ap (take (count + 1)) more-parts ∙ take-front (ranf.front ++ line ∷ []) left (count + 1) more-many

  more-within : count + 1 ≤ length lines
  more-within = omega (arith, more-many, ap length more-parts, length-append (ranf.front ++ line ∷ []) left)

  more-played : (others : Player) → play_then seed (ranf.front ++ line ∷ []) others ≡ play_then seed ranf.front (line_then seed line others)
  more-played others = play_then-append seed ranf.front (line ∷ []) others

  -- one more line was run
  pub front-line : RunsPart (λ s. line_then s line) now after → RanFront seed lines left (count + 1) before after
  front-line runs = record {
    front = ranf.front ++ line ∷ [];
    parts = more-parts;
    many = more-many;
    ran = λ others. subst (λ (player : Player). Ran seed opening player others before after) (sym (more-played others))
        (ran-then seed opening (play_then seed ranf.front (line_then seed line others)) (line_then seed line others) others before now after joins (ranf.ran (line_then seed line others)) (λ state stands. runs seed state others stands));
  }

  -- one more line was taken whole
  more-whole : before.words ≡ [] → TakesPart (λ s. line_then s line) now after → (play seed (take (count + 1) lines) opening after.words).whole ≡ true
  more-whole fresh takes =
      let took = took-then seed opening (play_then seed ranf.front (line_then seed line play_end)) (line_then seed line play_end) play_end before now after joins (ranf.ran (line_then seed line play_end)).took (λ state stands. takes seed state play_end stands) in
      ap (λ (all : List Line). (play seed all opening after.words).whole) more-taken
      ∙ ap (λ (player : Player). (player opening after.words).whole) (more-played play_end)
      ∙ ap (λ (words : List DiskWord). (play_then seed ranf.front (line_then seed line play_end) opening words).whole) (words-all before after took.more fresh took.told_more ∙ sym (append-nil took.more))
      ∙ ap (λ (played : Played). played.whole) (took.played [])

  -- the words are too few for one more line
  more-few : before.words ≡ [] → BreaksPart (λ s. line_then s line) false now after → (play_then seed (take (count + 1) lines) play_any opening after.words).whole ≡ false
  more-few fresh breaks =
      let broke = broke-then seed opening (play_then seed ranf.front (line_then seed line play_any)) (line_then seed line play_any) false before now after joins (ranf.ran (line_then seed line play_any)) (λ state stands. breaks seed state play_any (λ later. refl) stands) in
      ap (λ (all : List Line). (play_then seed all play_any opening after.words).whole) more-taken
      ∙ ap (λ (player : Player). (player opening after.words).whole) (more-played play_any)
      ∙ ap (λ (words : List DiskWord). (play_then seed ranf.front (line_then seed line play_any) opening words).whole) (words-all before after broke.more fresh broke.told_more)
      ∙ broke.few refl

  -- a run broke off in one more line: so many were run
  line-many : (is_taken : Bool) (at : ℕ) → before.words ≡ [] → (is_taken ≡ true → at ≡ count + 1) → (is_taken ≡ false → at ≡ count)
      → BreaksPart (λ s. line_then s line) is_taken now after → (is_taken ≡ true → TakesPart (λ s. line_then s line) now after) → ((state : Flat) → StandsFor now.pad seed state → (more : List DiskWord) × (after.words ≡ now.words ++ more))
      → RanSoMany seed lines after.words at
  line-many true at fresh if_taken if_not breaks takes told =
      subst (λ (n : ℕ). RanSoMany seed lines after.words n) (sym (if_taken refl))
      (record { within = more-within; front = after.words; back = []; parts = sym (append-nil after.words); whole = more-whole fresh (takes refl); few = λ some. absurd (omega (arith, some)) })
  line-many false at fresh if_taken if_not breaks takes told =
      let more = told (after_all seed opening (ranf.ran play_end).took.done) (ranf.ran play_end).took.stands in
      subst (λ (n : ℕ). RanSoMany seed lines after.words n) (sym (if_not refl))
      (record { within = front-within seed lines (line ∷ left) count before now fresh ranf; front = now.words; back = more.0; parts = more.1; whole = front-whole-words seed lines (line ∷ left) count before now fresh ranf; few = λ some. more-few fresh breaks })

  pub broke-many : (is_taken : Bool) (at : ℕ) → before.words ≡ [] → (is_taken ≡ true → at ≡ count + 1) → (is_taken ≡ false → at ≡ count)
      → BreaksPart (λ s. line_then s line) is_taken now after → (is_taken ≡ true → TakesPart (λ s. line_then s line) now after)
      → RanSoMany seed lines after.words at
  broke-many is_taken at fresh if_taken if_not breaks takes = line-many is_taken at fresh if_taken if_not breaks takes
      (λ state stands. let b = breaks seed state play_end (wordless-mark []) stands in (b.more, b.told_more))

  -- and the disk has what its deeds did
  pub broke-line : (is_taken : Bool) → before.words ≡ [] → Unloaded seed before.disk after.disk → BreaksPart (λ s. line_then s line) is_taken now after
      → RunsOnDisk seed (play seed lines opening after.words).deeds before.disk after.disk
  broke-line is_taken fresh unloaded breaks = broke-deeds seed lines (line ∷ left) count before now fresh ranf after is_taken unloaded
      (broke-then seed opening (play seed lines) (play seed (line ∷ left)) is_taken before now after joins (front-ran seed lines (line ∷ left) count before now fresh ranf play_end)
      (λ state stands. breaks seed state (play seed left) (wordless-play seed left play_end (wordless-mark [])) stands))

-- a run for which memory was wanting did not end whole
not-whole : (end : End) → end ≡ ends.NoMemory → end ≡ ends.Whole → ⊥
not-whole end is whole = cc

pub ends-broken : (seed : List ℕ) (lines : List Line) (course : Course) (before after : Progress) → course.end ≡ ends.NoMemory → RanSoMany seed lines after.words course.line
    → RunsOnDisk seed (play seed lines opening after.words).deeds before.disk after.disk → LinesEnd seed lines course before after
ends-broken seed lines course before after broken many on_disk = record {
  whole = λ is. absurd (not-whole course.end broken is);
  counted = λ is. absurd (not-whole course.end broken is);
  many = many;
  on_disk = on_disk;
}
