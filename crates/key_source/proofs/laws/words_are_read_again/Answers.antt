use Rattle.std.proofs.Common.{ap, ◌∙◌}
use Rattle.key_source.specs.KeyWords.{read_key}
use Rattle.key_source.specs.KeyWordLaws.{key_again, key_takes}
use Rattle.key_source.proofs.laws.words_are_read_again.Goals as goal

pub returns-clause-again : goal.returns-clause-again
returns-clause-again c = key_again

pub returns-clause-exact : goal.returns-clause-exact
returns-clause-exact c = λ word key. (key_takes word key, λ is. ap read_key is.1 ∙ key_again key is.0)
