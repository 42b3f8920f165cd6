use Rattle.std.proofs.Common.{◌≡◌, ◌++◌, flat_map, take}
use Rattle.transcript.specs.Questions.{spaced_name}
use Rattle.transcript.proofs.questions.put_spaced_names.Given as goal

abbrev pub invariant-loop-name : goal.invariant-loop-name
invariant-loop-name l = l.text ≡ l.fn.text ++ flat_map spaced_name (take l.name-index l.names)
