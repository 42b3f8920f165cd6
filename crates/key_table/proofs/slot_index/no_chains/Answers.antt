use Rattle.std.proofs.Common.{ap, ◌∙◌}
use Rattle.std.proofs.lemmas.List.{get_or-replicate}
use Rattle.std.specs.Prelude.{List, slice_index, ℕ}
use Rattle.key_table.proofs.slot_index.no_chains.Goals as goal

pub returns : goal.returns
returns c = record {
  first = λ chain below. ap (λ (l : List ℕ). slice_index l chain) c.no_slots.ensures ∙ get_or-replicate 32 chain 64 0 below;
  next = tt;
  places = tt;
}
