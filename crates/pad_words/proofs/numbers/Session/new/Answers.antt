use Rattle.pad_words.specs.Numbers.{session_some}
use Rattle.pad_words.proofs.numbers.Session.new.Goals as goal

pub returns-then-v-le16-clause-exact : goal.returns-then-v-le16-clause-exact
returns-then-v-le16-clause-exact c = session_some _
