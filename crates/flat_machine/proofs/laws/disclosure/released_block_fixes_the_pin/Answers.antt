use Rattle.flat_machine.proofs.BlockReleases as lemma
use Rattle.flat_machine.proofs.laws.disclosure.released_block_fixes_the_pin.Goals as goal

pub returns-clause-held : goal.returns-clause-held
returns-clause-held c = lemma.block_fixes (record {
  iso_0 = c.blocks_fix_the_pin.ensures.format_0;
  iso_1 = c.blocks_fix_the_pin.ensures.format_1;
  iso_3 = c.blocks_fix_the_pin.ensures.format_3;
  ibm_3624 = c.blocks_fix_the_pin.ensures.ibm_3624;
  diebold = c.blocks_fix_the_pin.ensures.diebold;
  diebold_co = c.blocks_fix_the_pin.ensures.diebold_with_coordination_number;
  eight = c.blocks_are_eight_bytes.ensures.eight;
  small = c.blocks_are_eight_bytes.ensures.small;
  apart = c.triple_encryption_tells_blocks_apart.ensures;
  gives_a_block = c.triple_encryption_of_blocks.ensures.gives_a_block;
  long = c.exclusive_or_undoes_itself.ensures.long;
  undone = c.exclusive_or_undoes_itself.ensures.undone;
})

pub returns-clause-runs : goal.returns-clause-runs
returns-clause-runs c = lemma.run_fixes (returns-clause-held c)

pub returns-clause-formed : goal.returns-clause-formed
returns-clause-formed c = lemma.request_formed
