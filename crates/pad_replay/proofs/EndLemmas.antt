-- How the run of a script ends.
use Rattle.std.proofs.Common.{ap, append-nil, append_assoc, arith, length-append, refl, subst, sym, ◌∙◌}
use Rattle.std.specs.Prelude.{Bool, IfSome, List, None, Option, Some, [], false, length, take, true, ℕ, ◌+◌, ◌++◌, ◌∷◌, ◌≡◌, ◌≢◌}
use Rattle.disk_core.specs.DiskStates.{DiskState}
use Rattle.disk_core.specs.Streams.{GivesFront, with_more}
use Rattle.flat_machine.specs.Deeds.{Deed, DueFrom, acts_in}
use Rattle.flat_machine.specs.Machine.{Act, lines_from}
use Rattle.flat_machine.specs.State.{Flat, opening}
use Rattle.flat_machine.specs.Twins.{Twins}
use Rattle.pad_steps.specs.Lines.{Line as PrintedLine}
use Rattle.pad_steps.specs.declared.steps.DiskWord.{DiskWord}
use Rattle.pad_replay.proofs.DiskLemmas.{Unloaded, runs-on}
use Rattle.pad_replay.proofs.LineLemmas.{broke-many, front-many, front-taken, front-whole-words, words-all}
use Rattle.pad_replay.proofs.RunLemmas.{Joins, after_all, acts_in-append, OnDisk, broke-none, broke-then, front-whole, play_then-append, ran-none, ran-then, with_more-none, with_more-with_more, wordless-mark, wordless-play}
use Rattle.pad_machine.specs.Stands.{StandsFor}
use Rattle.pad_replay.proofs.ScriptLemmas.{feeds_in-append, some-same}
use Rattle.pad_replay.specs.Endings.{RunEnds}
use Rattle.pad_replay.specs.NextLines.{IsFirstLine}
use Rattle.pad_replay.specs.Outcomes.{EndsUnread, GaveFront, RanAll, RanSoMany}
use Rattle.pad_replay.specs.Parts.{BreaksPart, BrokeOff, Progress, Ran, RanFront, RanLines, RunsOnDisk, RunsPart, TakesPart}
use Rattle.pad_replay.specs.Runs.{Played, Player, deeds_of, line_then, mark_in, mark_of, play, play_end, play_mark, play_script, play_then, played_by, played_text, program_setting, steps_of, text_from, text_of}
use Rattle.pad_replay.specs.Script.{IsTaken, ScriptLines, feeds_in, lines_behind, lines_of}
use Rattle.script_lang.specs.Scripts.{lines_before}
use Rattle.pad_replay.specs.declared.script_run.Course.{Course}
use Rattle.pad_replay.specs.declared.script_run.End.{End}
use Rattle.pad_replay.specs.declared.script_run.End.TheVariants as ends
use Rattle.script_lang.specs.Lines.{still}
use Rattle.script_lang.specs.declared.kinds.Line.{Line}
use Rattle.transcript.specs.PrintedLines.{lines_text, mark_text}

-- twins print alike
abbrev pub Alike : List ℕ → Type 0
Alike seed = (acts twin : List Act) → Twins (program_setting seed) opening acts twin → lines_from (program_setting seed) opening twin ≡ lines_from (program_setting seed) opening acts

-- a whole run, and a mark given behind it
pub record AllPlayed (seed script : List ℕ) (before after : Progress) (mark : List ℕ) : Type 0 where
  pub done : List Deed
  pub played : play_script seed (lines_of script) opening after.words ≡ record { deeds = done; whole = true; mark = mark }
  pub on_disk : OnDisk seed opening done before.disk after.disk
  pub printed : after.given ≡ with_more before.given (text_from seed opening (acts_in done) ++ mark)

module _ (seed script : List ℕ) (alike : Alike seed) (before after : Progress) (fresh : before.words ≡ []) where
  -- what was given, where it is what the words play
  gave-front : GivesFront before.given after.given (played_text seed opening (play_script seed (lines_of script) opening after.words)) → GaveFront seed script after.words before.given after.given
  unfolding played_by
  gave-front front = record {
    text = front;
    twins = λ twin twins. subst (λ (lines : List PrintedLine). GivesFront before.given after.given (lines_text lines ++ mark_in seed script after.words)) (sym (alike (steps_of seed script after.words) twin twins)) front;
  }

  -- a run that broke off gave a front of the text
  pub broke-front : (is_taken : Bool) → BrokeOff seed opening (play_script seed (lines_of script)) is_taken before after → GaveFront seed script after.words before.given after.given
  broke-front is_taken broke = gave-front (subst (λ (words : List DiskWord). GivesFront before.given after.given (played_text seed opening (play_script seed (lines_of script) opening words)))
      (sym (words-all before after broke.more fresh broke.told_more)) broke.front)

  -- and the disk has what its deeds did
  pub broke-disk : (is_taken : Bool) → Unloaded seed before.disk after.disk → BrokeOff seed opening (play_script seed (lines_of script)) is_taken before after → RunsOnDisk seed (deeds_of seed script after.words) before.disk after.disk
  unfolding played_by
  broke-disk is_taken unloaded broke = runs-on seed (deeds_of seed script after.words) broke.done broke.left before.disk after.disk
      (ap (λ (words : List DiskWord). (play_script seed (lines_of script) opening words).deeds) (words-all before after broke.more fresh broke.told_more) ∙ broke.parts)
      broke.armings unloaded broke.on_disk

  pub all-ran : (mark : List ℕ) → AllPlayed seed script before after mark → RanAll seed script after.words before.given after.given before.disk after.disk
  unfolding played_by
  all-ran mark all =
      let printed : after.given ≡ with_more before.given (text_of seed (steps_of seed script after.words) (mark_in seed script after.words)) =
      all.printed ∙ ap (λ (played : Played). with_more before.given (text_of seed (acts_in played.deeds) played.mark)) (sym all.played) in
      record {
        whole = ap (λ (played : Played). played.whole) all.played;
        printed = printed;
        twins = λ twin twins. printed ∙ ap (λ (lines : List PrintedLine). with_more before.given (lines_text lines ++ mark_in seed script after.words)) (sym (alike (steps_of seed script after.words) twin twins));
        due = subst (λ (played : Played). DueFrom (program_setting seed) opening played.deeds before.disk.armed after.disk.armed) (sym all.played) all.on_disk.due;
      }

  pub all-front : (mark : List ℕ) → AllPlayed seed script before after mark → GaveFront seed script after.words before.given after.given
  all-front mark all = gave-front (front-whole before.given after.given (played_text seed opening (play_script seed (lines_of script) opening after.words))
      (all.printed ∙ ap (λ (played : Played). with_more before.given (played_text seed opening played)) (sym all.played)))

  pub all-disk : (mark : List ℕ) → Unloaded seed before.disk after.disk → AllPlayed seed script before after mark → RunsOnDisk seed (deeds_of seed script after.words) before.disk after.disk
  unfolding played_by
  all-disk mark unloaded all = runs-on seed (deeds_of seed script after.words) all.done [] before.disk after.disk
      (ap (λ (played : Played). played.deeds) all.played ∙ sym (append-nil all.done)) refl unloaded all.on_disk

-- what was run of a script behind so many lines
module _ (seed script : List ℕ) (count : ℕ) (rest : List ℕ) (before now : Progress) (fresh : before.words ≡ []) (ranl : RanLines seed script count rest before now) where
  -- the player of what is left
  abbrev Left : Player
  Left = play_script seed (lines_behind count rest)

  whole-is : play_script seed (lines_of script) ≡ play_then seed ranl.lines Left
  whole-is = ap (play_script seed) ranl.are ∙ play_then-append seed ranl.lines (lines_behind count rest).lines (play_mark (mark_of (lines_behind count rest).bad))

  pub whole-ran : Ran seed opening (play_script seed (lines_of script)) Left before now
  whole-ran = subst (λ (player : Player). Ran seed opening player Left before now) (sym whole-is) (ranl.ran Left)

  -- the lines that were run, in front of those that are left
  behind-front : RanFront seed (lines_of script).lines (lines_behind count rest).lines count before now
  behind-front = record { front = ranl.lines; parts = ap (λ (all : ScriptLines). all.lines) ranl.are; many = ranl.many; ran = ranl.ran }

  taken-lines : take count (lines_of script).lines ≡ ranl.lines
  unfolding behind-front
  taken-lines = front-taken seed (lines_of script).lines (lines_behind count rest).lines count before now fresh behind-front

  -- the words are one for each step of these lines
  lines-whole : (play seed (take count (lines_of script).lines) opening now.words).whole ≡ true
  lines-whole = front-whole-words seed (lines_of script).lines (lines_behind count rest).lines count before now fresh behind-front

  pub so-many : RanSoMany seed (lines_of script).lines now.words count
  so-many = front-many seed (lines_of script).lines (lines_behind count rest).lines count before now fresh behind-front

  -- where no line is left, a mark may follow
  pub all-played : (after : Progress) (bad : Option ℕ) → lines_behind count rest ≡ record { lines = []; bad = bad } → after.words ≡ now.words → after.disk ≡ now.disk → after.given ≡ with_more now.given (mark_of bad)
      → AllPlayed seed script before after (mark_of bad)
  all-played after bad none told same given =
      let ran : Ran seed opening (play_script seed (lines_of script)) (play_mark (mark_of bad)) before now =
      subst (λ (all : ScriptLines). Ran seed opening (play_script seed (lines_of script)) (play_script seed all) before now) none whole-ran in
      let words : after.words ≡ ran.took.more ++ [] = told ∙ words-all before now ran.took.more fresh ran.took.told_more ∙ sym (append-nil ran.took.more) in
      record {
        done = ran.took.done;
        played = ap (play_script seed (lines_of script) opening) words ∙ ran.took.played [] ∙ ap (λ (deeds : List Deed). record { deeds = deeds; whole = true; mark = mark_of bad }) (append-nil ran.took.done);
        on_disk = subst (λ (disk : DiskState). OnDisk seed opening ran.took.done before.disk disk) (sym same) ran.took.on_disk;
        printed = given ∙ ap (λ (g : Option (List ℕ)). with_more g (mark_of bad)) ran.printed ∙ with_more-with_more before.given ran.text (mark_of bad)
            ∙ ap (λ (text : List ℕ). with_more before.given (text ++ mark_of bad)) (sym (append-nil ran.text) ∙ sym (ran.spelled []) ∙ ap (text_from seed opening) (append-nil (acts_in ran.took.done)));
      }

  -- where a front of the mark was given
  pub mark-broke : (after : Progress) (bad : Option ℕ) → Joins seed opening before.disk now.disk after.disk → ((state : Flat) → OnDisk seed state [] now.disk after.disk)
      → lines_behind count rest ≡ record { lines = []; bad = bad } → after.words ≡ now.words → GivesFront now.given after.given (mark_of bad)
      → BrokeOff seed opening (play_script seed (lines_of script)) true before after
  mark-broke after bad joins nothing none told front =
      broke-then seed opening (play_script seed (lines_of script)) (play_mark (mark_of bad)) true before now after joins
      (subst (λ (all : ScriptLines). Ran seed opening (play_script seed (lines_of script)) (play_script seed all) before now) none whole-ran)
      (λ state stands. record {
        more = [];
        told_more = told ∙ sym (append-nil now.words);
        done = [];
        left = [];
        parts = refl;
        armings = refl;
        on_disk = nothing state;
        front = front;
        few = λ not_all. absurd cc;
      })

  -- where nothing more was read
  pub unread-broke : ((state : Flat) → OnDisk seed state [] now.disk now.disk) → Joins seed opening before.disk now.disk now.disk → BrokeOff seed opening (play_script seed (lines_of script)) true before now
  unread-broke nothing joins = broke-then seed opening (play_script seed (lines_of script)) Left true before now now joins whole-ran
      (λ state stands. broke-none seed state now now Left true (wordless-play seed (lines_behind count rest).lines (play_mark (mark_of (lines_behind count rest).bad)) (wordless-mark (mark_of (lines_behind count rest).bad)))
      (λ not_all. absurd cc) refl refl (nothing state))

  unread-text : text_of seed (acts_in (play_script seed (lines_of script) opening now.words).deeds) [] ≡ whole-ran.text
  unread-text =
      let took = whole-ran.took in
      let behind : Flat = after_all seed opening took.done in
      let none : acts_in (Left behind []).deeds ≡ [] = wordless-play seed (lines_behind count rest).lines (play_mark (mark_of (lines_behind count rest).bad)) (wordless-mark (mark_of (lines_behind count rest).bad)) behind in
      let words : now.words ≡ took.more ++ [] = words-all before now took.more fresh took.told_more ∙ sym (append-nil took.more) in
      append-nil (text_from seed opening (acts_in (play_script seed (lines_of script) opening now.words).deeds))
      ∙ ap (λ (ws : List DiskWord). text_from seed opening (acts_in (play_script seed (lines_of script) opening ws).deeds)) words
      ∙ ap (λ (played : Played). text_from seed opening (acts_in played.deeds)) (took.played [])
      ∙ ap (text_from seed opening) (acts_in-append took.done (Left behind []).deeds ∙ ap (λ (acts : List Act). acts_in took.done ++ acts) none)
      ∙ whole-ran.spelled [] ∙ append-nil whole-ran.text

  -- what was run and given, and no more
  pub ends-unread : (left : Option (List ℕ)) → IsTaken script left count → EndsUnread seed script now.words count left before.given now.given before.disk now.disk
  unfolding played_by
  ends-unread left taken =
      let ran = ranl.ran play_end in
      let words : now.words ≡ ran.took.more ++ [] = words-all before now ran.took.more fresh ran.took.told_more ∙ sym (append-nil ran.took.more) in
      let deeds : (play seed (take count (lines_of script).lines) opening now.words).deeds ≡ ran.took.done =
      ap (λ (lines : List Line). (play seed lines opening now.words).deeds) taken-lines ∙ ap (λ (ws : List DiskWord). (play seed ranl.lines opening ws).deeds) words
      ∙ ap (λ (played : Played). played.deeds) (ran.took.played []) ∙ append-nil ran.took.done in
      record {
        whole = lines-whole;
        printed = whole-ran.printed ∙ ap (with_more before.given) (sym unread-text);
        due = subst (λ (all : List Deed). DueFrom (program_setting seed) opening all before.disk.armed now.disk.armed) (sym deeds) ran.took.on_disk.due;
        taken = taken;
      }

-- ---- the ends of a run

module _ (seed script : List ℕ) (alike : Alike seed) (count : ℕ) (rest : List ℕ) (before now after : Progress) (fresh : before.words ≡ []) (ranl : RanLines seed script count rest before now)
    (course : Course) (left : Option (List ℕ)) (unloaded : Unloaded seed before.disk after.disk) where
  -- the script ended
  pub end-whole : course.end ≡ ends.Whole → course.line ≡ count → lines_behind count rest ≡ record { lines = []; bad = None } → left ≡ Some [] → after.words ≡ now.words → after.disk ≡ now.disk → after.given ≡ now.given
      → RunEnds seed script course left before after
  end-whole is at none read told same given =
      let all = all-played seed script count rest before now fresh ranl after None none told same (given ∙ with_more-none now.given) in
      let so : RanSoMany seed (lines_of script).lines now.words count = so-many seed script count rest before now fresh ranl in
      record {
        whole = λ _. record {
          good = ap (λ (lines : ScriptLines). lines.bad) (ranl.are ∙ ap (lines_before ranl.lines) none);
          lines = at ∙ sym ranl.many ∙ ap length (sym (append-nil ranl.lines)) ∙ ap (λ (lines : ScriptLines). length lines.lines) (sym (ranl.are ∙ ap (lines_before ranl.lines) none));
          read = read;
          ran = all-ran seed script alike before after fresh [] all;
        };
        bad_line = λ bad. absurd (cc);
        unread = λ bad. absurd (cc);
        front = all-front seed script alike before after fresh [] all;
        lines = λ _. subst (λ (n : ℕ). RanSoMany seed (lines_of script).lines after.words n) (sym at) (subst (λ (words : List DiskWord). RanSoMany seed (lines_of script).lines words count) (sym told) so);
        on_disk = all-disk seed script alike before after fresh [] unloaded all;
      }

  -- a bad line came, and its mark was given
  pub end-marked : course.end ≡ ends.BadLine → course.line ≡ count + 1 → lines_behind count rest ≡ record { lines = []; bad = Some (count + 1) } → after.words ≡ now.words → after.disk ≡ now.disk → after.given ≡ with_more now.given (mark_of (Some (count + 1)))
      → RunEnds seed script course left before after
  end-marked is at bad told same given =
      let all = all-played seed script count rest before now fresh ranl after (Some (count + 1)) bad told same given in
      record {
        whole = λ other. absurd (cc);
        bad_line = λ _. record {
          bad = ap (λ (lines : ScriptLines). lines.bad) (ranl.are ∙ ap (lines_before ranl.lines) bad) ∙ ap (λ (n : ℕ). Some n) (sym at);
          ran = all-ran seed script alike before after fresh (mark_of (Some (count + 1))) all;
        };
        unread = λ other. absurd (cc);
        front = all-front seed script alike before after fresh (mark_of (Some (count + 1))) all;
        lines = λ other. absurd (other is);
        on_disk = all-disk seed script alike before after fresh (mark_of (Some (count + 1))) unloaded all;
      }

  -- a run that broke off behind these lines
  pub end-broken : (is_taken : Bool) → course.end ≢ ends.Whole → course.end ≢ ends.BadLine → (course.end ≡ ends.SourceFailed → EndsUnread seed script after.words course.line left before.given after.given before.disk after.disk)
      → BrokeOff seed opening (play_script seed (lines_of script)) is_taken before after → RanSoMany seed (lines_of script).lines after.words course.line → RunEnds seed script course left before after
  end-broken is_taken no_end no_mark unread broke many = record {
    whole = λ is. absurd (no_end is);
    bad_line = λ is. absurd (no_mark is);
    unread = unread;
    front = broke-front seed script alike before after fresh is_taken broke;
    lines = λ _. many;
    on_disk = broke-disk seed script alike before after fresh is_taken unloaded broke;
  }

-- ---- the loop over lines

-- a fact of the text that is told
pub text-fact : (told : Option (List ℕ)) (text : List ℕ) (P : List ℕ → Type 0) → told ≡ Some text → IfSome told P → P text
text-fact told text P is fact = subst (λ (found : Option (List ℕ)). IfSome found P) is fact

-- no line was run
pub ran-no_line : (seed script : List ℕ) (before : Progress) → StandsFor before.pad seed opening → OnDisk seed opening [] before.disk before.disk → RanLines seed script 0 script before before
ran-no_line seed script before stands nothing = record {
  cut = [];
  parts = refl;
  feeds = refl;
  lines = [];
  many = refl;
  are = refl;
  ran = λ others. ran-none seed opening before before others stands refl refl refl nothing;
}

module _ (seed script : List ℕ) (count : ℕ) (rest : List ℕ) (line : Line) (still_cut : Option (List ℕ)) (before now after : Progress) (joins : Joins seed opening before.disk now.disk after.disk)
    (ranl : RanLines seed script count rest before now) (first : IsFirstLine count rest still_cut line) where
  -- the lines of the script, with this one
  more-lines : lines_of script ≡ lines_before (ranl.lines ++ line ∷ []) (lines_behind (count + 1) first.rest)
  more-lines = ranl.are ∙ ap (lines_before ranl.lines) first.are
      ∙ ap (λ (lines : List Line). record { lines = lines; bad = (lines_behind (count + 1) first.rest).bad }) (sym (append_assoc ranl.lines (line ∷ []) (lines_behind (count + 1) first.rest).lines))

  more-many : length (ranl.lines ++ line ∷ []) ≡ count + 1
  more-many = omega (arith, length-append ranl.lines (line ∷ []), ranl.many)

  more-played : (others : Player) → play_then seed (ranl.lines ++ line ∷ []) others ≡ play_then seed ranl.lines (line_then seed line others)
  more-played others = play_then-append seed ranl.lines (line ∷ []) others

  -- one more line was run
  pub ran-line : RunsPart (λ s. line_then s line) now after → RanLines seed script (count + 1) first.rest before after
  ran-line runs = record {
    cut = ranl.cut ++ first.cut;
    parts = ranl.parts ∙ ap (λ (text : List ℕ). ranl.cut ++ text) first.parts ∙ sym (append_assoc ranl.cut first.cut first.rest);
    feeds = omega (arith, feeds_in-append ranl.cut first.cut, ranl.feeds, first.feeds);
    lines = ranl.lines ++ line ∷ [];
    many = more-many;
    are = more-lines;
    ran = λ others. subst (λ (player : Player). Ran seed opening player others before after) (sym (more-played others))
        (ran-then seed opening (play_then seed ranl.lines (line_then seed line others)) (line_then seed line others) others before now after joins (ranl.ran (line_then seed line others)) (λ state stands. runs seed state others stands));
  }

  -- this line comes first of those that are left
  behind-line : RanFront seed (lines_of script).lines (line ∷ (lines_behind (count + 1) first.rest).lines) count before now
  behind-line = record { front = ranl.lines; parts = ap (λ (all : ScriptLines). all.lines) (ranl.are ∙ ap (lines_before ranl.lines) first.are); many = ranl.many; ran = ranl.ran }

  -- a run broke off in one more line
  pub ends-in-line : (is_taken : Bool) (alike : Alike seed) (course : Course) (left : Option (List ℕ)) → before.words ≡ [] → Unloaded seed before.disk after.disk
      → course.end ≢ ends.Whole → course.end ≢ ends.BadLine → course.end ≢ ends.SourceFailed → (is_taken ≡ true → course.line ≡ count + 1) → (is_taken ≡ false → course.line ≡ count)
      → BreaksPart (λ s. line_then s line) is_taken now after → (is_taken ≡ true → TakesPart (λ s. line_then s line) now after)
      → RunEnds seed script course left before after
  ends-in-line is_taken alike course left fresh unloaded no_end no_mark no_fault if_taken if_not breaks takes =
      let behind : ScriptLines = lines_behind (count + 1) first.rest in
      let broke : BrokeOff seed opening (play_script seed (lines_of script)) is_taken before after =
      broke-then seed opening (play_script seed (lines_of script)) (play_script seed (lines_behind count rest)) is_taken before now after joins (whole-ran seed script count rest before now fresh ranl)
      (λ state stands. subst (λ (all : ScriptLines). BrokeOff seed state (play_script seed all) is_taken now after) (sym first.are)
      (breaks seed state (play_script seed behind) (wordless-play seed behind.lines (play_mark (mark_of behind.bad)) (wordless-mark (mark_of behind.bad))) stands)) in
      end-broken seed script alike count rest before now after fresh ranl course left unloaded is_taken no_end no_mark (λ is. absurd (no_fault is)) broke
      (broke-many seed (lines_of script).lines line (lines_behind (count + 1) first.rest).lines count before now after joins behind-line is_taken course.line fresh if_taken if_not breaks takes)

module _ (seed script : List ℕ) (count : ℕ) (rest : List ℕ) (before now after : Progress) (joins : Joins seed opening before.disk now.disk after.disk) (ranl : RanLines seed script count rest before now)
    (alike : Alike seed) (course : Course) (left : Option (List ℕ)) (fresh : before.words ≡ []) (unloaded : Unloaded seed before.disk after.disk) (told : after.words ≡ now.words) (same : after.disk ≡ now.disk)
    (nothing : (state : Flat) → OnDisk seed state [] now.disk after.disk) where
  so-many-after : course.line ≡ count → RanSoMany seed (lines_of script).lines after.words course.line
  so-many-after at = subst (λ (n : ℕ). RanSoMany seed (lines_of script).lines after.words n) (sym at)
      (subst (λ (words : List DiskWord). RanSoMany seed (lines_of script).lines words count) (sym told) (so-many seed script count rest before now fresh ranl))

  mark-lost : course.end ≢ ends.BadLine → lines_behind count rest ≡ record { lines = []; bad = Some (count + 1) } → course.end ≢ ends.Whole → course.end ≢ ends.SourceFailed
      → (course.end ≢ ends.BadLine → (course.line ≡ count) × GivesFront now.given after.given (mark_text (count + 1)))
      → RunEnds seed script course left before after
  mark-lost no_mark bad no_end no_fault broke =
      end-broken seed script alike count rest before now after fresh ranl course left unloaded true no_end no_mark (λ is. absurd (no_fault is))
      (mark-broke seed script count rest before now fresh ranl after (Some (count + 1)) joins nothing bad told (broke no_mark).1) (so-many-after (broke no_mark).0)

  -- a bad line came: its mark was given, or a front of it
  pub ends-at-bad-line : (end : End) → course.end ≡ end → lines_behind count rest ≡ record { lines = []; bad = Some (count + 1) } → course.end ≢ ends.Whole → course.end ≢ ends.SourceFailed
      → (course.end ≡ ends.BadLine → (course.line ≡ count + 1) × (after.given ≡ with_more now.given (mark_text (count + 1))))
      → (course.end ≢ ends.BadLine → (course.line ≡ count) × GivesFront now.given after.given (mark_text (count + 1)))
      → RunEnds seed script course left before after
  ends-at-bad-line ends.BadLine is bad no_end no_fault marked broke =
      end-marked seed script alike count rest before now after fresh ranl course left unloaded is (marked is).0 bad told same (marked is).1
  ends-at-bad-line ends.Whole is bad no_end no_fault marked broke = absurd (no_end is)
  ends-at-bad-line ends.SourceFailed is bad no_end no_fault marked broke = absurd (no_fault is)
  ends-at-bad-line ends.SinkFailed is bad no_end no_fault marked broke = mark-lost (λ mark. cc) bad no_end no_fault broke
  ends-at-bad-line ends.NoMemory is bad no_end no_fault marked broke = mark-lost (λ mark. cc) bad no_end no_fault broke

-- the bytes of the lines and those that are kept were taken
pub taken-of : (script rest kept cut : List ℕ) (left : Option (List ℕ)) (count : ℕ) → script ≡ cut ++ rest → feeds_in cut ≡ count → still kept left ≡ Some rest → feeds_in kept ≡ 0 → IsTaken script left count
taken-of script rest kept cut None count parts feeds is none = absurd (no_text is)
  where
    no_text : still kept None ≡ Some rest → ⊥
    no_text is = cc
taken-of script rest kept cut (Some more) count parts feeds is none = record {
  taken = cut ++ kept;
  rest = more;
  told = refl;
  parts = parts ∙ ap (λ (text : List ℕ). cut ++ text) (sym (some-same (kept ++ more) rest is)) ∙ sym (append_assoc cut kept more);
  feeds = omega (arith, feeds_in-append cut kept, feeds, none);
}

module _ (seed script : List ℕ) (count : ℕ) (rest : List ℕ) (before now : Progress) (joins : Joins seed opening before.disk now.disk now.disk) (ranl : RanLines seed script count rest before now)
    (alike : Alike seed) (course : Course) (left : Option (List ℕ)) (fresh : before.words ≡ []) (unloaded : Unloaded seed before.disk now.disk)
    (nothing : (state : Flat) → OnDisk seed state [] now.disk now.disk) where
  -- a line could not be read
  pub ends-unread-at : course.end ≢ ends.Whole → course.end ≢ ends.BadLine → course.line ≡ count → (course.end ≡ ends.SourceFailed → IsTaken script left count) → RunEnds seed script course left before now
  ends-unread-at no_end no_mark at taken =
      end-broken seed script alike count rest before now now fresh ranl course left unloaded true no_end no_mark
      (λ failed. subst (λ (n : ℕ). EndsUnread seed script now.words n left before.given now.given before.disk now.disk) (sym at) (ends-unread seed script count rest before now fresh ranl left (taken failed)))
      (unread-broke seed script count rest before now fresh ranl nothing joins)
      (subst (λ (n : ℕ). RanSoMany seed (lines_of script).lines now.words n) (sym at) (so-many seed script count rest before now fresh ranl))

-- where nothing was run the disk is as it was
module _ (seed : List ℕ) (s : DiskState) (unloaded : Unloaded seed s s) (nothing : OnDisk seed opening [] s s) where
  nothing-done : (script : List ℕ) (words : List DiskWord) → words ≡ [] → RunsOnDisk seed (deeds_of seed script words) s s
  unfolding played_by
  nothing-done script words none = runs-on seed (deeds_of seed script words) [] (deeds_of seed script words) s s refl
      (rw none (wordless-play seed (lines_of script).lines (play_mark (mark_of (lines_of script).bad)) (wordless-mark (mark_of (lines_of script).bad)) opening)) unloaded nothing

  pub nothing-ran : (told : Option (List ℕ)) (words : List DiskWord) → words ≡ [] → IfSome told (λ script. RunsOnDisk seed (deeds_of seed script words) s s)
  nothing-ran None words none = tt
  nothing-ran (Some script) words none = nothing-done script words none
