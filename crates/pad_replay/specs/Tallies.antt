-- What a run counts, and the line of its summary.
use Rattle.flat_machine.specs.DiskSteps.{is_cut}
use Rattle.pad_replay.specs.declared.tally.Tally.{Tally}
use Rattle.pad_steps.specs.Lines.{Line as PrintedLine}
use Rattle.pad_steps.specs.declared.answers.Answer.TheVariants as answers
use Rattle.pad_steps.specs.declared.answers.Out.{Out}
use Rattle.pad_steps.specs.declared.answers.Out.TheVariants as outs
use Rattle.pad_steps.specs.declared.answers.Reply.{Reply}
use Rattle.pad_steps.specs.declared.answers.Reply.TheVariants as replies
use Rattle.std.specs.Fmt.{decimal}
use Rattle.std.specs.Prelude.{Bool, List, [], codes, count_by, false, if◌then◌else◌, min, true, ℕ, ◌++◌, ◌+◌, ◌-◌, ◌^◌, ◌∷◌}

-- a request was taken, and has a number
abbrev pub is_request : Out → Bool
is_request (outs.Request session id) = true
is_request other = false

-- the reply is an answer
abbrev pub is_ok : Reply → Bool
is_ok (replies.Ok answer) = true
is_ok (replies.No refusal) = false

-- a request ended with an answer
abbrev pub is_answer : Out → Bool
is_answer (outs.Ended session id reply) = is_ok reply
is_answer other = false

-- the reply is a refusal
abbrev pub is_no : Reply → Bool
is_no (replies.Ok answer) = false
is_no (replies.No refusal) = true

-- a request was not taken, or ended without an answer
abbrev pub is_refusal : Out → Bool
is_refusal (outs.Refused session refusal) = true
is_refusal (outs.Ended session id reply) = is_no reply
is_refusal other = false

-- the reply says that a PIN checks out
abbrev pub checks_out : Reply → Bool
checks_out (replies.Ok (answers.Checked holds)) = holds
checks_out other = false

-- a check of a PIN ended with yes
abbrev pub is_yes : Out → Bool
is_yes (outs.Ended session id reply) = checks_out reply
is_yes other = false

-- ---- counts of a run, from its lines

-- how many outs of a line are such
abbrev pub outs_in : (Out → Bool) → PrintedLine → ℕ
outs_in is_such line = count_by is_such line.outs

-- one for each line: it is a step
abbrev pub step_in : PrintedLine → ℕ
step_in line = 1

-- one for a line whose word says that the power was cut
abbrev pub cut_in : PrintedLine → ℕ
cut_in line = if is_cut line.word then 1 else 0

-- the sum of a count over the lines
abbrev pub counted : (PrintedLine → ℕ) → List PrintedLine → ℕ
counted count [] = 0
counted count (line ∷ lines) = count line + counted count lines

-- ---- counts of 64 bits

-- a count that stands still at 2^64 - 1
abbrev pub capped : ℕ → ℕ
capped count = min count (2 ^ 64 - 1)

-- a count after more lines
abbrev pub count_after : (PrintedLine → ℕ) → ℕ → List PrintedLine → ℕ
count_after count before [] = before
count_after count before (line ∷ lines) = count_after count (capped (before + count line)) lines

-- the counts before a run
abbrev pub no_counts : Tally
no_counts = record { steps = 0; requests = 0; answers = 0; refusals = 0; yes = 0; cuts = 0 }

-- the counts after more lines
abbrev pub tally_after : Tally → List PrintedLine → Tally
tally_after tally lines = record {
  steps = count_after step_in tally.steps lines;
  requests = count_after (outs_in is_request) tally.requests lines;
  answers = count_after (outs_in is_answer) tally.answers lines;
  refusals = count_after (outs_in is_refusal) tally.refusals lines;
  yes = count_after (outs_in is_yes) tally.yes lines;
  cuts = count_after cut_in tally.cuts lines;
}

-- ---- the summary

-- the line of a summary with these counts
unfoldable pub tally_text : ℕ → Tally → List ℕ
tally_text rounds tally = codes "rounds " ++ decimal rounds
    ++ codes " steps " ++ decimal tally.steps
    ++ codes " requests " ++ decimal tally.requests
    ++ codes " ok " ++ decimal tally.answers
    ++ codes " refused " ++ decimal tally.refusals
    ++ codes " yes " ++ decimal tally.yes
    ++ codes " cuts " ++ decimal tally.cuts ++ codes "\n"

-- the counts of a run with these lines, each at most 2^64 - 1
abbrev pub tally_of : List PrintedLine → Tally
tally_of lines = record {
  steps = capped (counted step_in lines);
  requests = capped (counted (outs_in is_request) lines);
  answers = capped (counted (outs_in is_answer) lines);
  refusals = capped (counted (outs_in is_refusal) lines);
  yes = capped (counted (outs_in is_yes) lines);
  cuts = capped (counted cut_in lines);
}

-- the one line that sums up a run of so many rounds with these lines
abbrev pub summary_text : ℕ → List PrintedLine → List ℕ
summary_text rounds lines = tally_text rounds (tally_of lines)
