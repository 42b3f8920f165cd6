use Rattle.pad_words.specs.Numbers.{digit_some}
use Rattle.pad_words.proofs.numbers.Digit.new.Goals as goal

pub returns-then-v-lt10-clause-exact : goal.returns-then-v-lt10-clause-exact
returns-then-v-lt10-clause-exact c = digit_some _
