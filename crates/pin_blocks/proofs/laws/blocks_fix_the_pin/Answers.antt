use Rattle.std.proofs.Common.{ap, arith, length, replicate, subst, ◌≡◌, ◌∙◌}
use Rattle.std.proofs.lemmas.Bool.Decides.{nat_tests}
use Rattle.std.specs.Prelude.{List, ℕ}
use Rattle.pad_steps.specs.declared.commands.Form.{Form}
use Rattle.pad_steps.specs.declared.commands.Form.TheVariants as forms
use Rattle.pin_blocks.specs.Blocks.{block_nibbles}
use Rattle.pin_blocks.specs.TakenBlocks.{BlockParts, IsTaken, plain_block}
use Rattle.pin_blocks.proofs.BlockLemmas.{Fits, Fits-block_fault, pin_after_length, pin_after_number, pin_from_format_0, pin_from_format_3, same_nibbles, same_pin}
use Rattle.pin_blocks.proofs.laws.blocks_fix_the_pin.Goals as goal

taken-fits : (form : Form) (parts : BlockParts) → IsTaken form parts → Fits form parts.digits parts.customer parts.pad
taken-fits form parts taken = Fits-block_fault form parts.digits parts.customer parts.pad taken.faultless

abbrev nibbles_of : Form → BlockParts → List ℕ
nibbles_of form parts = block_nibbles form parts.digits parts.customer parts.pad parts.fill

-- blocks that are the same have the same nibbles
taken-nibbles : (form : Form) (first second : BlockParts) → IsTaken form first → IsTaken form second → plain_block form first ≡ plain_block form second → nibbles_of form first ≡ nibbles_of form second
taken-nibbles form first second taken other same =
    same_nibbles form first.digits second.digits first.customer second.customer first.fill second.fill first.pad second.pad
    (taken-fits form first taken) (taken-fits form second other) taken.decimal other.decimal taken.nibbles other.nibbles taken.filled other.filled same

-- of a form whose blocks fix the PIN for one customer data
for_one_customer : (form : Form) → ((first : BlockParts) (digits : List ℕ) (pad : ℕ) (fill : List ℕ) → IsTaken form first → IsTaken form (record { digits = digits; customer = first.customer; pad = pad; fill = fill })
    → nibbles_of form first ≡ block_nibbles form digits first.customer pad fill → first.digits ≡ digits)
    → (first second : BlockParts) → IsTaken form first → IsTaken form second → second.customer ≡ first.customer → plain_block form first ≡ plain_block form second → first.digits ≡ second.digits
for_one_customer form fixes first second taken other customers same =
    fixes first second.digits second.pad second.fill taken
    (subst (λ (customer : List ℕ). IsTaken form (record { digits = second.digits; customer = customer; pad = second.pad; fill = second.fill })) customers other)
    (taken-nibbles form first second taken other same ∙ ap (λ (customer : List ℕ). block_nibbles form second.digits customer second.pad second.fill) customers)

pub returns-clause-format_0 : goal.returns-clause-format_0
returns-clause-format_0 c = for_one_customer forms.Iso0 (λ first digits pad fill taken other same.
    let fits = taken-fits forms.Iso0 first taken in
    pin_from_format_0 c.exclusive_or_undoes_itself.ensures.undone first.digits digits first.customer fits.most fits.suits same)

pub returns-clause-format_1 : goal.returns-clause-format_1
returns-clause-format_1 c first second taken other any same =
    let most = (taken-fits forms.Iso1 first taken).most in
    pin_after_length 1 first.digits second.digits first.customer second.customer (omega arith) (taken-nibbles forms.Iso1 first second taken other same)

pub returns-clause-format_3 : goal.returns-clause-format_3
returns-clause-format_3 c = for_one_customer forms.Iso3 (λ first digits pad fill taken other same.
    let fits = taken-fits forms.Iso3 first taken in
    pin_from_format_3 c.exclusive_or_undoes_itself.ensures.undone first.digits digits first.customer first.fill fill fits.most fits.suits taken.filled other.filled same)

pub returns-clause-ibm_3624 : goal.returns-clause-ibm_3624
returns-clause-ibm_3624 c first second taken other long same =
    same_pin 16 first.digits second.digits (replicate 16 first.pad) (replicate 16 second.pad) long (taken-fits forms.Ibm3624 first taken).most (taken-nibbles forms.Ibm3624 first second taken other same)

pub returns-clause-diebold : goal.returns-clause-diebold
returns-clause-diebold c first second taken other long same =
    same_pin 16 first.digits second.digits (replicate 16 first.pad) (replicate 16 second.pad) long (taken-fits forms.Diebold first taken).most (taken-nibbles forms.Diebold first second taken other same)

pub returns-clause-diebold_with_coordination_number : goal.returns-clause-diebold_with_coordination_number
returns-clause-diebold_with_coordination_number c first second taken other long same =
    let fits = taken-fits forms.DieboldCo first taken in
    let others = taken-fits forms.DieboldCo second other in
    let one : length first.customer ≡ 1 = grind (arith, nat_tests, fits.suits) in
    let other_one : length second.customer ≡ 1 = grind (arith, nat_tests, others.suits) in
    pin_after_number first.customer second.customer first.digits second.digits (replicate 16 first.pad) (replicate 16 second.pad) one other_one long fits.most
    (taken-nibbles forms.DieboldCo first second taken other same)
