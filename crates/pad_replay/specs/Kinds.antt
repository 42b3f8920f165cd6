-- What is counted of the outs of a step.
use Rattle.pad_replay.specs.Tallies.{is_answer, is_refusal, is_request, is_yes}
use Rattle.pad_replay.specs.declared.tally.Kind.{Kind}
use Rattle.pad_replay.specs.declared.tally.Kind.TheVariants as kinds
use Rattle.pad_steps.specs.declared.answers.Out.{Out}
use Rattle.std.specs.Prelude.{Bool}

-- the out is of this kind
abbrev pub is_of : Kind → Out → Bool
is_of kinds.Request = is_request
is_of kinds.Answer = is_answer
is_of kinds.Refusal = is_refusal
is_of kinds.Yes = is_yes
