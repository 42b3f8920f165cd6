use Rattle.pin_blocks.specs.Blocks.{block_nibbles}
use Rattle.pin_blocks.proofs.BlockLemmas.{AreNibbles-block, Fits-block_fault, length-block}
use Rattle.pin_blocks.proofs.Packing.{length-packed, packed-small}
use Rattle.pin_blocks.proofs.laws.blocks_are_eight_bytes.Goals as goal

pub returns-clause-eight : goal.returns-clause-eight
returns-clause-eight c form parts taken =
    length-packed (block_nibbles form parts.digits parts.customer parts.pad parts.fill) 8
    (length-block form parts.digits parts.customer parts.fill parts.pad (Fits-block_fault form parts.digits parts.customer parts.pad taken.faultless) taken.filled)

pub returns-clause-small : goal.returns-clause-small
returns-clause-small c form parts taken =
    packed-small (block_nibbles form parts.digits parts.customer parts.pad parts.fill)
    (AreNibbles-block form parts.digits parts.customer parts.fill parts.pad (Fits-block_fault form parts.digits parts.customer parts.pad taken.faultless) taken.decimal taken.nibbles)
