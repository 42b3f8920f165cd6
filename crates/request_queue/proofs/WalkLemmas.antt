-- A walk along the whole chain, that looks for a request that is due.
use Rattle.std.proofs.Common.{arith, ap, inl, inr, sym, ◌∙◌}
use Rattle.std.proofs.lemmas.Bool.{cases_eq, cases_lt}
use Rattle.std.proofs.lemmas.Option.{same_Some}
use Rattle.std.specs.Prelude.{List, Some, false, length, ℕ, ◌+◌, ◌<◌, ◌≡◌, ◌≤◌}
use Rattle.slab.specs.Slab.{Slab}
use Rattle.request_queue.specs.Chains.{IsNext}
use Rattle.request_queue.specs.Nodes.{In, IsFirstDue, node_at}
use Rattle.request_queue.specs.Requests.{is_due}
use Rattle.request_queue.specs.declared.nodes.Node.{Node}
use Rattle.request_queue.specs.declared.nodes.Place.{Place}
use Rattle.request_queue.proofs.FindLemmas.{id-pos}
use Rattle.request_queue.proofs.RowLemmas.{node-below}

module _ {C R : Type 0} (nodes : Slab (Node C)) (places : List (Place R)) where
  in-all : (k : ℕ) (n : Node C) → node_at nodes places k ≡ Some n → In (node_at nodes places) 0 k
  in-all k n e = record { node = n; found = e; chain = λ h. absurd (omega (arith, h)) }

  pub walk-misses : (now at next : ℕ) (node : Node C) → node_at nodes places at ≡ Some node → is_due now node.request ≡ false → IsNext (In (node_at nodes places) 0) at next
      → ((k : ℕ) (n : Node C) → node_at nodes places k ≡ Some n → (0 < at → k < at) → is_due now n.request ≡ false)
      → (k : ℕ) (n : Node C) → node_at nodes places k ≡ Some n → (0 < next → k < next) → is_due now n.request ≡ false
  walk-misses now at next node is not_due from miss k n e lt = elim (cases_lt k at) [
    | inl before ↦ miss k n e (λ _. before)
    | inr later ↦ elim (cases_eq k at) [
      | inl same ↦
          let one : n ≡ node = same_Some _ _ (sym e ∙ ap (λ (j : ℕ). node_at nodes places j) same ∙ is) in
          ap (λ (x : Node C). is_due now x.request) one ∙ not_due
      | inr differs ↦
          let past : (0 < next) × (next ≤ k) = from.first k (in-all k n e) (omega (arith, later, differs)) in
          absurd (omega (arith, past.1, lt past.0))
    ]
  ]

  pub walk-grows : (at next counter : ℕ) (node : Node C) → node_at nodes places at ≡ Some node → IsNext (In (node_at nodes places) 0) at next → (0 < at → counter < at) → 0 < next → counter + 1 < next
  walk-grows at next counter node is from grows pos =
      let at_pos : 0 < at = id-pos nodes places at node is in
      omega (arith, grows at_pos, (from.found pos).1)

  pub walk-first : (now head k : ℕ) (n : Node C) → IsNext (In (node_at nodes places) 0) 0 head → node_at nodes places k ≡ Some n → (0 < head → k < head) → is_due now n.request ≡ false
  walk-first now head k n from e lt =
      let past : (0 < head) × (head ≤ k) = from.first k (in-all k n e) (node-below nodes places k n e).0 in
      absurd (omega (arith, past.1, lt past.0))

  pub walk-over : (now at counter : ℕ) → (0 < at → In (node_at nodes places) 0 at) → (0 < at → counter < at)
      → ((k : ℕ) (n : Node C) → node_at nodes places k ≡ Some n → (0 < at → k < at) → is_due now n.request ≡ false)
      → length places ≤ counter → IsFirstDue (node_at nodes places) now 0
  walk-over now at counter inside grows miss over = record {
    inside = λ h. absurd (omega (arith, h));
    hit = λ n e. absurd (omega (arith, id-pos nodes places 0 n e));
    miss = λ k n e lt. miss k n e (λ h.
        let there : In (node_at nodes places) 0 at = inside h in
        absurd (omega (arith, grows h, over, (node-below nodes places at there.node there.found).1)));
  }
