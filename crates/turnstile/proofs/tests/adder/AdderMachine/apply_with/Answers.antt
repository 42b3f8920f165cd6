use Rattle.std.proofs.Common.{ap, ◌%◌, ◌+◌, ◌^◌, ◌∙◌, ℕ}
use Rattle.turnstile.specs.RunningSums.{running_sums-more}
use Rattle.turnstile.proofs.tests.adder.AdderMachine.apply_with.Goals as goal

pub returns-clause-entered : goal.returns-clause-entered
returns-clause-entered c = λ h st. running_sums-more 0 h c.args.op.now _ st.0 (c.total_after-self.ensures ∙ ap (λ (t : ℕ). (t + c.args.op.now) % 2 ^ 64) st.1)
