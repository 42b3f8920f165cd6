use Rattle.std.proofs.Common.{ap}
use Rattle.key_source.specs.declared.Key.TheVariants as keypad
use Rattle.pad_replay.specs.Generated.{last_digit}
use Rattle.pad_steps.specs.declared.steps.Step.TheVariants as steps
use Rattle.pad_words.specs.Numbers.{digit_eq}
use Rattle.pad_words.specs.declared.numbers.Digit.{Digit}
use Rattle.script_lang.specs.declared.kinds.Line.TheVariants as line
use Rattle.pad_replay.proofs.generated.press.Goals as goal

pub returns : goal.returns
returns c = ap (λ (digit : Digit). line.Do (steps.Press (keypad.Digit digit))) (digit_eq c.in-Some.digit (last_digit c.args.number) c.in-Some.ensures.value)
