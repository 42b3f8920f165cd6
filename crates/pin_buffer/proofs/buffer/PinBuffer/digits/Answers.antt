use Rattle.std.proofs.Common.{ap, sym, ◌∙◌}
use Rattle.std.proofs.lemmas.List.{take-map}
use Rattle.pad_words.specs.declared.numbers.Digit.{Digit}
use Rattle.pin_buffer.specs.PinMemory.{PinMemory}
use Rattle.pin_buffer.proofs.buffer.PinBuffer.digits.Goals as goal

pub returns-clause-digits : goal.returns-clause-digits
returns-clause-digits c =
    sym (take-map (λ (d : Digit). d.value) c.self.inside.count c.self.inside.places)
    ∙ ap (λ (m : PinMemory). m.digits) c.self.view_is
