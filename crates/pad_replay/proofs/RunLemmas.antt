-- Parts of a run, one after another.
use Rattle.script_lang.specs.declared.kinds.Line.TheVariants as lines
use Rattle.std.proofs.Common.{ap, append-nil, append_assoc, arith, length-append, subst, sym, ◌∙◌}
use Rattle.std.proofs.lemmas.Bool.Decides.{nat_tests}
use Rattle.std.proofs.lemmas.List.{append_cancel_left, take-append-le}
use Rattle.std.proofs.Math.Seq.{take-append-add, take-length}
use Rattle.std.specs.Prelude.{Bool, IsSome, IsTrue, List, None, Option, Some, [], false, length, refl, take, true, ℕ, ◌++◌, ◌+◌, ◌∷◌, ◌≡◌, nat_le, ◌&&◌, ◌≤◌}
use Rattle.disk_core.specs.DiskStates.{DiskState}
use Rattle.disk_core.specs.Streams.{GivesFront, with_more}
use Rattle.disk_core.specs.declared.disk.Strike.{Strike}
use Rattle.flat_machine.specs.Deeds.{Arms, Deed, Takes, acts_in, after_deeds}
use Rattle.flat_machine.specs.DiskRuns.{RunOnDisk}
use Rattle.flat_machine.specs.DiskSteps.{StepOnDisk}
use Rattle.flat_machine.specs.KeyLayout.{key_layout}
use Rattle.flat_machine.specs.Kept.{Kept}
use Rattle.flat_machine.specs.Machine.{Act, line_of, is_masked, lines_from, next, next_work, shown_step}
use Rattle.flat_machine.specs.Power.{word_fate}
use Rattle.flat_machine.specs.State.{Flat}
use Rattle.pad_machine.specs.Runs.{IsMachineStep, PadStepOnDisk}
use Rattle.pad_machine.specs.Stands.{StandsFor}
use Rattle.pad_machine.specs.declared.pad.Stepped.{Stepped}
use Rattle.pad_steps.specs.declared.answers.Out.{Out}
use Rattle.pad_steps.specs.declared.steps.DiskWord.{DiskWord}
use Rattle.pad_steps.specs.declared.steps.Fate.{Fate}
use Rattle.pad_steps.specs.declared.steps.Step.{Step}
use Rattle.des_core.specs.TripleDes.{tdea_bytes}
use Rattle.local_check.specs.StandardWork.{standard_rules}
use Rattle.pad_replay.proofs.TallyLemmas.{tally-then}
use Rattle.pad_replay.proofs.TieLemmas.{stood-step}
use Rattle.pad_replay.specs.Parts.{BrokeOff, Progress, Ran, Took}
use Rattle.pad_replay.specs.Runs.{Played, Player, Wordless, arm_then, auto_then, line_then, play_mark, play_then, played_text, program_setting, step_then, text_from, unless_due, with_deeds}
use Rattle.pad_replay.specs.Tallies.{tally_after}
use Rattle.script_lang.specs.Spelling.{is_spelled, is_strike}
use Rattle.script_lang.specs.declared.kinds.Line.{Line}
use Rattle.transcript.specs.PrintedLines.{line_of_step, line_text}

-- what was given is given, and more
pub with_more-none : (given : Option (List ℕ)) → given ≡ with_more given []
with_more-none None = refl
with_more-none (Some bytes) = ap (λ (all : List ℕ). Some all) (sym (append-nil bytes))

pub with_more-with_more : (given : Option (List ℕ)) (first second : List ℕ) → with_more (with_more given first) second ≡ with_more given (first ++ second)
with_more-with_more None first second = refl
with_more-with_more (Some bytes) first second = ap (λ (all : List ℕ). Some all) (append_assoc bytes first second)

-- the whole of a text is a front of it
pub front-whole : (given now : Option (List ℕ)) (text : List ℕ) → now ≡ with_more given text → GivesFront given now text
front-whole given now text printed = (length text, omega arith, printed ∙ ap (with_more given) (sym (take-length text)))

-- a front after a whole, and a front of a longer text
front-after : (given between now : Option (List ℕ)) (text rest : List ℕ) → between ≡ with_more given text → GivesFront between now rest → GivesFront given now (text ++ rest)
front-after given between now text rest printed front = (
  length text + front.0,
  omega (arith, front.1, length-append text rest),
  front.2 ∙ ap (λ (g : Option (List ℕ)). with_more g (take front.0 rest)) printed ∙ with_more-with_more given text (take front.0 rest)
      ∙ ap (with_more given) (sym (take-append-add text rest front.0)),
)

front-longer : (given now : Option (List ℕ)) (text more all : List ℕ) → text ++ more ≡ all → GivesFront given now text → GivesFront given now all
front-longer given now text more all is front = (
  front.0,
  omega (arith, front.1, length-append text more, ap length is),
  front.2 ∙ ap (with_more given) (sym (take-append-le front.0 text more front.1) ∙ ap (take front.0) is),
)

-- what the code prints of a step is the machine's line
pub line_of_step-is : (seed : List ℕ) (state : Flat) (step : Step) (word : DiskWord) (fate : Option Fate) (hides : Bool) (outs : List Out) → fate ≡ word_fate state.shared word → hides ≡ is_masked state.shared step
    → outs ≡ (next (program_setting seed) state step word).outs
    → line_text (line_of_step step hides word fate outs) ≡ line_text (line_of (program_setting seed) state (record { step = step; word = word }))
line_of_step-is seed state step word fate hides outs told hidden said =
    ap (λ (m : Bool). line_text (line_of_step step m word fate outs)) hidden
    ∙ ap (λ (o : List Out). line_text (line_of_step step (is_masked state.shared step) word fate o)) said
    ∙ ap (λ (f : Option Fate). line_text (line_of_step step (is_masked state.shared step) word f (next (program_setting seed) state step word).outs)) told

-- a call that a line arms is the next one or a later one
at-least-one : (call : ℕ) (last strike : Bool) → (nat_le 1 call && last && strike) ≡ true → 1 ≤ call
at-least-one call last strike is = let first : nat_le 1 call ≡ true = (both_true (nat_le 1 call) last (both_true (nat_le 1 call && last) strike is).0).0 in grind (arith, nat_tests, first)
  where
    both_true : (a b : Bool) → (a && b) ≡ true → (a ≡ true) × (b ≡ true)
    both_true true true is = (refl, refl)
    both_true true false is = absurd cc
    both_true false b is = absurd cc

pub arms-later : (line : Line) (call : ℕ) (strike : Strike) → line ≡ lines.Arm call strike → IsTrue (is_spelled line) → 1 ≤ call
arms-later line call strike is spelled = at-least-one call (nat_le call 1000) (is_strike strike) (subst (λ (l : Line). IsTrue (is_spelled l)) is spelled)

-- the steps of deeds and more deeds
pub acts_in-append : (firsts others : List Deed) → acts_in (firsts ++ others) ≡ acts_in firsts ++ acts_in others
acts_in-append [] others = refl
acts_in-append (Takes act ∷ firsts) others = ap (λ (acts : List Act). act ∷ acts) (acts_in-append firsts others)
acts_in-append (Arms call strike ∷ firsts) others = acts_in-append firsts others

-- deeds and more deeds lead where the one leads after the other
pub after-append : (seed : List ℕ) (start : Flat) (firsts others : List Deed) → after_deeds (program_setting seed) (after_deeds (program_setting seed) start firsts) others ≡ after_deeds (program_setting seed) start (firsts ++ others)
after-append seed start [] others = refl
after-append seed start (Takes act ∷ firsts) others = after-append seed (next (program_setting seed) start act.step act.word).state firsts others
after-append seed start (Arms call strike ∷ firsts) others = after-append seed start firsts others

-- without a word no step is played
pub wordless-mark : (mark : List ℕ) → Wordless (play_mark mark)
wordless-mark mark state = refl

pub wordless-step : (seed : List ℕ) (step : Step) (rest : Player) → Wordless (step_then seed step rest)
wordless-step seed step rest state = refl

wordless-unless : (due : Option Step) (played : Played) → acts_in played.deeds ≡ [] → acts_in (unless_due due played).deeds ≡ []
wordless-unless None played none = none
wordless-unless (Some step) played none = refl

pub wordless-auto : (seed : List ℕ) (rest : Player) → Wordless rest → Wordless (auto_then seed rest)
wordless-auto seed rest none state = wordless-unless (next_work state.shared) (rest state []) (none state)

wordless-line : (seed : List ℕ) (line : Line) (rest : Player) → Wordless rest → Wordless (line_then seed line rest)
wordless-line seed lines.Blank rest none = none
wordless-line seed lines.Auto rest none = wordless-auto seed rest none
wordless-line seed (lines.Do step) rest none = wordless-step seed step rest
wordless-line seed (lines.Arm call strike) rest none = none

pub wordless-play : (seed : List ℕ) (all : List Line) (rest : Player) → Wordless rest → Wordless (play_then seed all rest)
wordless-play seed [] rest none = none
wordless-play seed (line ∷ all) rest none = wordless-line seed line (play_then seed all rest) (wordless-play seed all rest none)

-- a step that is due comes first, and where none is the rest comes
pub auto_then-due : (seed : List ℕ) (rest : Player) (state : Flat) (step : Step) (words : List DiskWord) → next_work state.shared ≡ Some step → auto_then seed rest state words ≡ step_then seed step (auto_then seed rest) state words
auto_then-due seed rest state step [] due = rw due refl
auto_then-due seed rest state step (word ∷ words) due = rw due refl

pub auto_then-over : (seed : List ℕ) (rest : Player) (state : Flat) (words : List DiskWord) → next_work state.shared ≡ None → auto_then seed rest state words ≡ rest state words
auto_then-over seed rest state [] none = rw none refl
auto_then-over seed rest state (word ∷ words) none = rw none refl

-- where a step is due the words ran out too early
some-unless : (due : Option Step) (played : Played) → IsSome due → (unless_due due played).whole ≡ false
some-unless None played due = absurd (no_step due)
  where
    no_step : IsSome {T = Step} None → ⊥
    no_step due = cc
some-unless (Some step) played due = refl

pub auto_then-few : (seed : List ℕ) (rest : Player) (state : Flat) → IsSome (next_work state.shared) → (auto_then seed rest state []).whole ≡ false
auto_then-few seed rest state due = some-unless (next_work state.shared) (rest state []) due

-- lines and more lines
pub play_then-append : (seed : List ℕ) (lines others : List Line) (rest : Player) → play_then seed (lines ++ others) rest ≡ play_then seed lines (play_then seed others rest)
play_then-append seed [] others rest = refl
play_then-append seed (first ∷ lines) others rest = ap (line_then seed first) (play_then-append seed lines others rest)

module _ (seed : List ℕ) where
  -- the state after deeds
  abbrev pub after_all : Flat → List Deed → Flat
  after_all state deeds = after_deeds (program_setting seed) state deeds

  -- what deeds do to a disk
  abbrev pub OnDisk : Flat → List Deed → DiskState → DiskState → Type 0
  OnDisk state deeds s t = RunOnDisk key_layout (program_setting seed) state deeds s t

  -- two runs on a disk, one after the other, are one
  abbrev pub Joins : Flat → DiskState → DiskState → DiskState → Type 0
  Joins start s t u = (firsts others : List Deed) → OnDisk start firsts s t → OnDisk (after_all start firsts) others t u → OnDisk start (firsts ++ others) s u

module _ (seed : List ℕ) (start : Flat) (whole between rest : Player) (one two three : Progress) (joins : Joins seed start one.disk two.disk three.disk) where
  -- a part was taken after another
  abbrev took-after : (first : Took seed start whole between one two) → Took seed (after_all seed start first.done) between rest two three → Took seed start whole rest one three
  took-after first second = record {
    more = first.more ++ second.more;
    told_more = second.told_more ∙ ap (λ (told : List DiskWord). told ++ second.more) first.told_more ∙ append_assoc one.words first.more second.more;
    done = first.done ++ second.done;
    stands = subst (λ (state : Flat). StandsFor three.pad seed state) (after-append seed start first.done second.done) second.stands;
    played = λ tail.
        ap (whole start) (append_assoc first.more second.more tail) ∙ first.played (second.more ++ tail) ∙ ap (with_deeds first.done) (second.played tail)
        ∙ ap (λ (deeds : List Deed). record { deeds = deeds; whole = (rest (after_all seed (after_all seed start first.done) second.done) tail).whole; mark = (rest (after_all seed (after_all seed start first.done) second.done) tail).mark })
        (sym (append_assoc first.done second.done (rest (after_all seed (after_all seed start first.done) second.done) tail).deeds))
        ∙ ap (λ (state : Flat). with_deeds (first.done ++ second.done) (rest state tail)) (after-append seed start first.done second.done);
    tally = tally-then seed start (acts_in first.done) (acts_in second.done) one.tally two.tally three.tally first.tally second.tally
        ∙ ap (λ (acts : List Act). tally_after one.tally (lines_from (program_setting seed) start acts)) (sym (acts_in-append first.done second.done));
    on_disk = joins first.done second.done first.on_disk second.on_disk;
  }

  pub took-then : Took seed start whole between one two → ((state : Flat) → StandsFor two.pad seed state → Took seed state between rest two three) → Took seed start whole rest one three
  took-then first goes_on = took-after first (goes_on (after_all seed start first.done) first.stands)

  -- a part was run after another
  pub ran-then : Ran seed start whole between one two → ((state : Flat) → StandsFor two.pad seed state → Ran seed state between rest two three) → Ran seed start whole rest one three
  ran-then first goes_on =
      let middle : Flat = after_all seed start first.took.done in
      let second : Ran seed middle between rest two three = goes_on middle first.took.stands in
      let firsts : List Act = acts_in first.took.done in
      let seconds : List Act = acts_in second.took.done in
      record {
        took = took-after first.took second.took;
        text = first.text ++ second.text;
        printed = second.printed ∙ ap (λ (g : Option (List ℕ)). with_more g second.text) first.printed ∙ with_more-with_more one.given first.text second.text;
        spelled = λ others.
            ap (λ (acts : List Act). text_from seed start (acts ++ others)) (acts_in-append first.took.done second.took.done)
            ∙ ap (text_from seed start) (append_assoc firsts seconds others) ∙ first.spelled (seconds ++ others) ∙ ap (λ (t : List ℕ). first.text ++ t) (second.spelled others)
            ∙ sym (append_assoc first.text second.text (text_from seed (after_all seed middle second.took.done) others))
            ∙ ap (λ (state : Flat). (first.text ++ second.text) ++ text_from seed state others) (after-append seed start first.took.done second.took.done);
      }

module _ (seed : List ℕ) (start : Flat) (whole between : Player) (is_taken : Bool) (one two three : Progress) (joins : Joins seed start one.disk two.disk three.disk) where
  -- a run broke off in a part after another
  pub broke-then : Ran seed start whole between one two → ((state : Flat) → StandsFor two.pad seed state → BrokeOff seed state between is_taken two three) → BrokeOff seed start whole is_taken one three
  broke-then first goes_on =
      let middle : Flat = after_all seed start first.took.done in
      let second : BrokeOff seed middle between is_taken two three = goes_on middle first.took.stands in
      let rest : Played = between middle second.more in
      let is : whole start (first.took.more ++ second.more) ≡ with_deeds first.took.done rest = first.took.played second.more in
      let text : played_text seed start (whole start (first.took.more ++ second.more)) ≡ first.text ++ played_text seed middle rest =
      ap (played_text seed start) is ∙ ap (λ (acts : List Act). text_from seed start acts ++ rest.mark) (acts_in-append first.took.done rest.deeds)
      ∙ ap (λ (t : List ℕ). t ++ rest.mark) (first.spelled (acts_in rest.deeds)) ∙ append_assoc first.text (text_from seed middle (acts_in rest.deeds)) rest.mark in
      record {
        more = first.took.more ++ second.more;
        told_more = second.told_more ∙ ap (λ (told : List DiskWord). told ++ second.more) first.took.told_more ∙ append_assoc one.words first.took.more second.more;
        done = first.took.done ++ second.done;
        left = second.left;
        parts = ap (λ (played : Played). played.deeds) is ∙ ap (λ (all : List Deed). first.took.done ++ all) second.parts ∙ sym (append_assoc first.took.done second.done second.left);
        armings = second.armings;
        on_disk = joins first.took.done second.done first.took.on_disk second.on_disk;
        front = subst (λ (t : List ℕ). GivesFront one.given three.given t) (sym text) (front-after one.given two.given three.given first.text (played_text seed middle rest) first.printed second.front);
        few = λ not_all. ap (λ (played : Played). played.whole) is ∙ second.few not_all;
      }

module _ (seed : List ℕ) (start : Flat) (before after : Progress) where
  -- nothing was played: the words are told already, or none were told
  abbrev pub took-none : (player : Player) → StandsFor after.pad seed start → after.words ≡ before.words → after.tally ≡ before.tally → OnDisk seed start [] before.disk after.disk → Took seed start player player before after
  took-none player stands told counted nothing = record { more = []; told_more = told ∙ sym (append-nil before.words); done = []; stands = stands; played = λ tail. refl; tally = counted; on_disk = nothing }

  pub ran-none : (player : Player) → StandsFor after.pad seed start → after.words ≡ before.words → after.tally ≡ before.tally → after.given ≡ before.given → OnDisk seed start [] before.disk after.disk → Ran seed start player player before after
  ran-none player stands told counted given nothing = record { took = took-none player stands told counted nothing; text = []; printed = given ∙ with_more-none before.given; spelled = λ others. refl }

  pub broke-none : (player : Player) (is_taken : Bool) → Wordless player → (is_taken ≡ false → (player start []).whole ≡ false) → after.words ≡ before.words → after.given ≡ before.given → OnDisk seed start [] before.disk after.disk → BrokeOff seed start player is_taken before after
  broke-none player is_taken none few told given nothing = record {
    more = [];
    told_more = told ∙ sym (append-nil before.words);
    done = [];
    left = (player start []).deeds;
    parts = refl;
    armings = none start;
    on_disk = nothing;
    front = (0, omega arith, given ∙ with_more-none before.given);
    few = few;
  }

  -- a call was armed
  pub ran-arm : (call : ℕ) (strike : Strike) (rest : Player) → StandsFor after.pad seed start → after.words ≡ before.words → after.tally ≡ before.tally → after.given ≡ before.given → OnDisk seed start (Arms call strike ∷ []) before.disk after.disk
      → Ran seed start (arm_then call strike rest) rest before after
  ran-arm call strike rest stands told counted given on = record {
    took = record { more = []; told_more = told ∙ sym (append-nil before.words); done = Arms call strike ∷ []; stands = stands; played = λ tail. refl; tally = counted; on_disk = on };
    text = [];
    printed = given ∙ with_more-none before.given;
    spelled = λ others. refl;
  }

  -- a step was taken, and this is its text
  pub record StepTaken (step : Step) (word : DiskWord) (text : List ℕ) : Type 0 where
    pub stands : StandsFor after.pad seed (next (program_setting seed) start step word).state
    pub told : after.words ≡ before.words ++ word ∷ []
    pub tally : after.tally ≡ tally_after before.tally (line_of (program_setting seed) start (record { step = step; word = word }) ∷ [])
    pub spelled : text ≡ line_text (line_of (program_setting seed) start (record { step = step; word = word }))
    pub on_disk : OnDisk seed start (Takes (record { step = step; word = word }) ∷ []) before.disk after.disk

  abbrev pub took-step : (step : Step) (word : DiskWord) (text : List ℕ) (rest : Player) → StepTaken step word text → Took seed start (step_then seed step rest) rest before after
  took-step step word text rest taken = record { more = word ∷ []; told_more = taken.told; done = Takes (record { step = step; word = word }) ∷ []; stands = taken.stands; played = λ tail. refl; tally = taken.tally; on_disk = taken.on_disk }

  pub ran-step : (step : Step) (word : DiskWord) (text : List ℕ) (rest : Player) → StepTaken step word text → after.given ≡ with_more before.given text → Ran seed start (step_then seed step rest) rest before after
  ran-step step word text rest taken printed = record {
    took = took-step step word text rest taken;
    text = text;
    printed = printed;
    spelled = λ others. ap (λ (t : List ℕ). t ++ text_from seed (next (program_setting seed) start step word).state others) (sym taken.spelled);
  }

  -- a step was taken, and a front of its text was given
  pub broke-step : (step : Step) (word : DiskWord) (text : List ℕ) (rest : Player) → Wordless rest → StepTaken step word text → GivesFront before.given after.given text → BrokeOff seed start (step_then seed step rest) true before after
  broke-step step word text rest none taken front =
      let behind : Flat = (next (program_setting seed) start step word).state in
      record {
        more = word ∷ [];
        told_more = taken.told;
        done = Takes (record { step = step; word = word }) ∷ [];
        left = (rest behind []).deeds;
        parts = refl;
        armings = none behind;
        on_disk = taken.on_disk;
        front = front-longer before.given after.given text (text_from seed behind (acts_in (rest behind []).deeds) ++ (rest behind []).mark) _
            (ap (λ (t : List ℕ). t ++ (text_from seed behind (acts_in (rest behind []).deeds) ++ (rest behind []).mark)) taken.spelled
            ∙ sym (append_assoc (line_text (line_of (program_setting seed) start (record { step = step; word = word }))) (text_from seed behind (acts_in (rest behind []).deeds)) (rest behind []).mark)) front;
        few = λ not_all. absurd cc;
      }

  -- where another player plays the same from there
  abbrev pub took-as : (one two rest : Player) → Took seed start one rest before after → ((ws : List DiskWord) → two start ws ≡ one start ws) → Took seed start two rest before after
  took-as one two rest took same = record { more = took.more; told_more = took.told_more; done = took.done; stands = took.stands; played = λ tail. same (took.more ++ tail) ∙ took.played tail; tally = took.tally; on_disk = took.on_disk }

  pub ran-as : (one two rest : Player) → Ran seed start one rest before after → ((ws : List DiskWord) → two start ws ≡ one start ws) → Ran seed start two rest before after
  ran-as one two rest ran same = record { took = took-as one two rest ran.took same; text = ran.text; printed = ran.printed; spelled = ran.spelled }

  pub broke-as : (one two : Player) (is_taken : Bool) → BrokeOff seed start one is_taken before after → ((ws : List DiskWord) → two start ws ≡ one start ws) → BrokeOff seed start two is_taken before after
  broke-as one two is_taken broke same = record {
    more = broke.more;
    told_more = broke.told_more;
    done = broke.done;
    left = broke.left;
    armings = broke.armings;
    on_disk = broke.on_disk;
    parts = ap (λ (played : Played). played.deeds) (same broke.more) ∙ broke.parts;
    front = subst (λ (played : Played). GivesFront before.given after.given (played_text seed start played)) (sym (same broke.more)) broke.front;
    few = λ not_all. ap (λ (played : Played). played.whole) (same broke.more) ∙ broke.few not_all;
  }

  -- where another player plays the same behind it
  abbrev pub took-over : (whole one two : Player) → Took seed start whole one before after → ((later : Flat) (ws : List DiskWord) → StandsFor after.pad seed later → one later ws ≡ two later ws) → Took seed start whole two before after
  took-over whole one two took same = record { more = took.more; told_more = took.told_more; done = took.done; stands = took.stands; played = λ tail. took.played tail ∙ ap (with_deeds took.done) (same (after_all seed start took.done) tail took.stands); tally = took.tally; on_disk = took.on_disk }

  pub ran-over : (whole one two : Player) → Ran seed start whole one before after → ((later : Flat) (ws : List DiskWord) → StandsFor after.pad seed later → one later ws ≡ two later ws) → Ran seed start whole two before after
  ran-over whole one two ran same = record { took = took-over whole one two ran.took same; text = ran.text; printed = ran.printed; spelled = ran.spelled }

  -- all steps that are left to play are too many for no words
  pub broke-few : (whole rest : Player) → BrokeOff seed start whole true before after → Took seed start whole rest before after → ((later : Flat) → StandsFor after.pad seed later → (rest later []).whole ≡ false) → BrokeOff seed start whole false before after
  broke-few whole rest broke took none = record {
    more = broke.more;
    told_more = broke.told_more;
    done = broke.done;
    left = broke.left;
    parts = broke.parts;
    armings = broke.armings;
    on_disk = broke.on_disk;
    front = broke.front;
    few = λ not_all.
        ap (λ (ws : List DiskWord). (whole start ws).whole) (append_cancel_left before.words broke.more took.more (sym broke.told_more ∙ took.told_more) ∙ sym (append-nil took.more))
        ∙ ap (λ (played : Played). played.whole) (took.played []) ∙ none (after_all seed start took.done) took.stands;
  }

-- what the pad's step says of itself is that a step was taken
pub step-taken : (seed : List ℕ) (start : Flat) (before after : Progress) (step : Step) (stepped : Stepped) (hides : Bool) (none outs : List Out) → StandsFor before.pad seed start
    → IsMachineStep (standard_rules tdea_bytes) after.pad none outs step stepped seed start → none ≡ [] → hides ≡ is_masked start.shared step
    → PadStepOnDisk (standard_rules tdea_bytes) before.pad after.pad step stepped.word before.disk after.disk
    → (StepOnDisk key_layout (program_setting seed) start.shared (next (program_setting seed) start step stepped.word).state.shared step stepped.word before.disk after.disk
    → OnDisk seed start (Takes (record { step = step; word = stepped.word }) ∷ []) before.disk after.disk)
    → after.words ≡ before.words ++ stepped.word ∷ []
    → ((shown : Option Step) (fate : Option Fate) → after.tally ≡ tally_after before.tally (record { shown = shown; word = stepped.word; fate = fate; outs = outs } ∷ []))
    → StepTaken seed start before after step stepped.word (line_text (line_of_step step hides stepped.word stepped.fate outs))
step-taken seed start before after step stepped hides none outs stands machine empty masked on joined told counted = record {
  stands = machine.stands;
  told = told;
  tally = counted (shown_step start.shared step) (word_fate start.shared stepped.word)
      ∙ ap (λ (said : List Out). tally_after before.tally (record { shown = shown_step start.shared step; word = stepped.word; fate = word_fate start.shared stepped.word; outs = said } ∷ []))
      (machine.outs ∙ ap (λ (first : List Out). first ++ (next (program_setting seed) start step stepped.word).outs) empty);
  spelled = line_of_step-is seed start step stepped.word stepped.fate hides outs machine.fate masked
      (machine.outs ∙ ap (λ (first : List Out). first ++ (next (program_setting seed) start step stepped.word).outs) empty);
  on_disk = joined (stood-step (standard_rules tdea_bytes) seed start (next (program_setting seed) start step stepped.word).state before.pad after.pad step stepped.word before.disk after.disk stands machine.stands on);
}

-- the pad has the shared part of each state that it stands for
pub next_work-stands : (seed : List ℕ) (after : Progress) (later : Flat) → StandsFor after.pad seed later → next_work after.pad.kept.shared ≡ next_work later.shared
next_work-stands seed after later stands = ap (λ (k : Kept). next_work k.shared) stands

module _ (seed : List ℕ) (start : Flat) (rest : Player) (step : Step) (one two three : Progress) (joins : Joins seed start one.disk two.disk three.disk)
    (ran : Ran seed start (auto_then seed rest) (auto_then seed rest) one two) (due : (state : Flat) → StandsFor two.pad seed state → next_work state.shared ≡ Some step) where
  due-as : (state : Flat) → StandsFor two.pad seed state → (ws : List DiskWord) → auto_then seed rest state ws ≡ step_then seed step (auto_then seed rest) state ws
  due-as state stands ws = auto_then-due seed rest state step ws (due state stands)

  -- one more step that was due was run
  pub due-ran : ((state : Flat) → StandsFor two.pad seed state → Ran seed state (step_then seed step (auto_then seed rest)) (auto_then seed rest) two three) → Ran seed start (auto_then seed rest) (auto_then seed rest) one three
  due-ran goes_on = ran-then seed start (auto_then seed rest) (auto_then seed rest) (auto_then seed rest) one two three joins ran
      (λ state stands. ran-as seed state two three (step_then seed step (auto_then seed rest)) (auto_then seed rest) (auto_then seed rest) (goes_on state stands) (due-as state stands))

  -- one more step that was due was taken
  pub due-took : ((state : Flat) → StandsFor two.pad seed state → Took seed state (step_then seed step (auto_then seed rest)) (auto_then seed rest) two three) → Took seed start (auto_then seed rest) (auto_then seed rest) one three
  due-took goes_on = took-then seed start (auto_then seed rest) (auto_then seed rest) (auto_then seed rest) one two three joins ran.took
      (λ state stands. took-as seed state two three (step_then seed step (auto_then seed rest)) (auto_then seed rest) (auto_then seed rest) (goes_on state stands) (due-as state stands))

  -- it was the last that was due
  pub due-last : ((state : Flat) → StandsFor two.pad seed state → Took seed state (step_then seed step (auto_then seed rest)) (auto_then seed rest) two three) → next_work three.pad.kept.shared ≡ None → Took seed start (auto_then seed rest) rest one three
  due-last goes_on none = took-over seed start one three (auto_then seed rest) (auto_then seed rest) rest (due-took goes_on)
      (λ later ws stands. auto_then-over seed rest later ws (sym (next_work-stands seed three later stands) ∙ none))

  broke-due : (is_taken : Bool) → ((state : Flat) → StandsFor two.pad seed state → BrokeOff seed state (step_then seed step (auto_then seed rest)) is_taken two three) → BrokeOff seed start (auto_then seed rest) is_taken one three
  broke-due is_taken breaks = broke-then seed start (auto_then seed rest) (auto_then seed rest) is_taken one two three joins ran
      (λ state stands. broke-as seed state two three (step_then seed step (auto_then seed rest)) (auto_then seed rest) is_taken (breaks state stands) (due-as state stands))

  -- a run broke off at a step that was due
  pub due-broke : (step_taken all_taken : Bool) → ((state : Flat) → StandsFor two.pad seed state → BrokeOff seed state (step_then seed step (auto_then seed rest)) step_taken two three)
      → (step_taken ≡ true → (state : Flat) → StandsFor two.pad seed state → Took seed state (step_then seed step (auto_then seed rest)) (auto_then seed rest) two three)
      → (all_taken ≡ true → step_taken ≡ true) → (all_taken ≡ false → step_taken ≡ true → IsSome (next_work three.pad.kept.shared))
      → BrokeOff seed start (auto_then seed rest) all_taken one three
  due-broke false false breaks takes all left = broke-due false breaks
  due-broke false true breaks takes all left = absurd (no_step (all refl))
    where
      no_step : false ≡ true → ⊥
      no_step is = cc
  due-broke true true breaks takes all left = broke-due true breaks
  due-broke true false breaks takes all left = broke-few seed start one three (auto_then seed rest) (auto_then seed rest) (broke-due true breaks) (due-took (takes refl))
      (λ later stands. auto_then-few seed rest later (subst (λ (found : Option Step). IsSome found) (next_work-stands seed three later stands) (left refl refl)))
