use Rattle.std.specs.Prelude.{Err, IfOk, Ok, OnOk, Result}
use Rattle.pad_machine.proofs.pad.Pad.step_done.Goals as goal

all_ok : {T E : Type 0} (First Second Answers All : T → Type 0) (Outs : Type 0) (result : Result T E) → ((x : T) → First x → Second x → Outs → Answers x → All x)
    → IfOk result First → IfOk result Second → OnOk result Outs → IfOk result Answers → IfOk result All
all_ok First Second Answers All Outs (Ok x) gives first second outs answers = gives x first second outs answers
all_ok First Second Answers All Outs (Err why) gives first second outs answers = tt

pub returns-clause-told : goal.returns-clause-told
returns-clause-told g c = let twice = c.take_twice.ensures in
    all_ok _ _ _ _ _ c.take_twice.result (λ both first second outs answers. record { first = first; second = second; outs = outs; answers = answers }) twice.first twice.second twice.outs twice.answers
