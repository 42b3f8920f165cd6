use Rattle.std.proofs.Common.{subst, ◌≡◌, true}
use Rattle.pad_steps.specs.Formed.{is_well_formed_command-submit, is_well_formed}
use Rattle.pad_steps.specs.declared.steps.Step.{Step}
use Rattle.script_lang.proofs.composing.put_step.Goals as goal

pub put_command-requires : goal.put_command-requires
put_command-requires c =
    is_well_formed_command-submit c.in-Submit.session c.in-Submit.limit c.in-Submit.command (subst (λ (s : Step). is_well_formed s ≡ true) c.in-Submit.is c.requires)
