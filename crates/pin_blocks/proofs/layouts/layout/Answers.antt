use Rattle.std.proofs.Common.{◌∙◌, ap, map, sym}
use Rattle.pad_steps.specs.declared.commands.Form.{Form}
use Rattle.pad_words.specs.declared.numbers.Digit.{Digit}
use Rattle.pin_blocks.specs.Blocks.{block_nibbles}
use Rattle.pin_blocks.proofs.layouts.layout.Goals as goal

pub returns-in-Iso0-clause-nibbles : goal.returns-in-Iso0-clause-nibbles
returns-in-Iso0-clause-nibbles c =
    c.iso_0.ensures.nibbles c.args.pad c.args.fill.now
    ∙ ap (λ (form : Form). block_nibbles form (map (λ (digit : Digit). digit.value) c.args.digits.now) c.args.customer.now c.args.pad c.args.fill.now) (sym c.in-Iso0.is)

pub returns-in-Iso1-clause-nibbles : goal.returns-in-Iso1-clause-nibbles
returns-in-Iso1-clause-nibbles c =
    c.iso_1.ensures.nibbles c.args.pad c.args.fill.now
    ∙ ap (λ (form : Form). block_nibbles form (map (λ (digit : Digit). digit.value) c.args.digits.now) c.args.customer.now c.args.pad c.args.fill.now) (sym c.in-Iso1.is)

pub returns-in-Iso3-clause-nibbles : goal.returns-in-Iso3-clause-nibbles
returns-in-Iso3-clause-nibbles c =
    c.iso_3.ensures.nibbles c.args.pad
    ∙ ap (λ (form : Form). block_nibbles form (map (λ (digit : Digit). digit.value) c.args.digits.now) c.args.customer.now c.args.pad c.args.fill.now) (sym c.in-Iso3.is)
