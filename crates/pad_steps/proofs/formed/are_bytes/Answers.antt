use Rattle.std.proofs.Common.{get_or, rules, sym, ℕ, ◌<◌}
use Rattle.pad_steps.proofs.ByteLemmas.{all_bytes-true}
use Rattle.pad_steps.proofs.formed.are_bytes.Goals as goal

pub returns : goal.returns
returns c =
    let small : (i : ℕ) → get_or c.args.values.now i 0 < 256 = search rules in
    sym (all_bytes-true c.args.values.now small)
