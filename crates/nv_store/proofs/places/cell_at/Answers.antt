use Rattle.nv_store.proofs.PlaceLemmas.{from_match, first_is}
use Rattle.nv_store.proofs.places.cell_at.Goals as goal

pub returns : goal.returns
returns c = first_is c.args.bytes.now c.unwrap.result.now c.args.at ((from_match c.first_chunk.result _ _ c.unwrap.result c.unwrap.ensures c.first_chunk.ensures.cases).same)
