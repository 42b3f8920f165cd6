use Rattle.flat_machine.proofs.AnswersAlone as lemma
use Rattle.flat_machine.proofs.laws.disclosure.answers_alone_show_digits.Goals as goal

pub returns : goal.returns
returns c = lemma.say_alike
