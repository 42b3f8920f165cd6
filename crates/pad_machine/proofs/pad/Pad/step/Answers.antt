use Rattle.std.specs.Prelude.{Err, IfOk, Ok, OnOk, Result}
use Rattle.pad_machine.proofs.pad.Pad.step.Goals as goal

on_ok : {T E : Type 0} (P : T → Type 0) (Q : Type 0) (result : Result T E) → ((x : T) → P x → Q) → IfOk result P → OnOk result Q
on_ok P Q (Ok x) gives held = gives x held
on_ok P Q (Err why) gives held = tt

pub returns-clause-less : goal.returns-clause-less
returns-clause-less g c = on_ok _ _ c.take_step.result (λ stepped done. done.less) c.take_step.ensures.step
