use Rattle.std.proofs.Common.{◌≡◌, ℕ, take, drop, ap, ◌∙◌}
use Rattle.des_core.proofs.TripleLemmas.{key_of-8, key_of-16, key_of-24}
use Rattle.des_core.proofs.triple.Tdea.new.Goals as goal
use Rattle.des_core.proofs.triple.Tdea.new.Goals.{in-8, in-16, in-24}

pub returns-clause-value : goal.returns-clause-value
returns-clause-value c =
    let key = c.args.key.now in
    let places = c.match-key_length.second_at in
    let first : c.new.result ≡ take 8 key = c.new.ensures ∙ c.block_at.ensures in
    let second : c.new-2.result ≡ take 8 (drop places.0 key) = c.new-2.ensures ∙ c.block_at-2.ensures in
    let third : c.new-3.result ≡ take 8 (drop places.1 key) = c.new-3.ensures ∙ c.block_at-3.ensures in
    elim c.match-key_length.branch [
      | in-8 w ↦ key_of-8 key c.new.result c.new-2.result c.new-3.result w.in-8.is first
      | in-16 w ↦
          key_of-16 key c.new.result c.new-2.result c.new-3.result w.in-16.is first
          (second ∙ ap (λ (p : ℕ × ℕ). take 8 (drop p.0 key)) w.second_at-is)
      | in-24 w ↦
          key_of-24 key c.new.result c.new-2.result c.new-3.result w.in-24.is first
          (second ∙ ap (λ (p : ℕ × ℕ). take 8 (drop p.0 key)) w.second_at-is)
          (third ∙ ap (λ (p : ℕ × ℕ). take 8 (drop p.1 key)) w.second_at-is)
    ]
