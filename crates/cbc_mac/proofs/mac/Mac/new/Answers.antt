use Rattle.std.proofs.Common.{List, ap, length, refl, rules, subst, sym, take, ◌≡◌, ◌∙◌, ℕ}
use Rattle.cbc_mac.specs.Macs.{IsKept}
use Rattle.cbc_mac.proofs.MacLemmas.{fed_single, fed_retail, kept_none}
use Rattle.cbc_mac.proofs.mac.Mac.new.Goals as goal
use Rattle.cbc_mac.proofs.mac.Mac.new.Goals.{in-Single, in-Retail}

pub invariant_of-result : goal.invariant_of-result
invariant_of-result c =
    let eight : length c.new-2.result ≡ 8 = ap length c.new-2.ensures ∙ search rules in
    let P : List ℕ → Type 0 = λ chained. IsKept c.new-2.result chained _ 0 c.empty.result.bytes in
    subst P (sym c.new-3.ensures) (kept_none c.new-2.result _ c.empty.result.bytes eight refl c.empty.ensures)

pub returns-clause-value : goal.returns-clause-value
returns-clause-value c =
    let key = c.args.key.now in
    let left : c.new-2.result ≡ take 8 key = c.new-2.ensures ∙ c.block_at-2.ensures in
    elim c.match-kind.branch [
      | in-Single w ↦ fed_single c.args.kind c.new-2.result key c.empty.result.bytes c.match-kind.right w.in-Single.is w.right-is w.if-key-eq8.true left c.empty.ensures
      | in-Retail w ↦
          fed_retail c.args.kind c.new-2.result key c.empty.result.bytes w.new.result c.match-kind.right w.in-Retail.is w.right-is w.if-key-eq16.true left
          (w.new.ensures ∙ w.block_at.ensures) c.empty.ensures
    ]
