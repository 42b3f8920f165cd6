use Rattle.std.proofs.Common.{drop, length, map, ◌++◌, ◌-◌, ◌≡◌, ◌≤◌}
use Rattle.pad_steps.specs.declared.answers.Out.TheVariants.{Event as EventOf}
use Rattle.pad_machine.proofs.saying.announce_to.Given as goal

abbrev pub invariant-loop-session : goal.invariant-loop-session
invariant-loop-session l = record {
  room : length l.sessions - l.session-index ≤ l.out.spare;
  said : l.out.items ++ map (λ session. EventOf session l.event) (drop l.session-index l.sessions) ≡ l.fn.out.items ++ map (λ session. EventOf session l.event) l.sessions;
}
