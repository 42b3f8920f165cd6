use Rattle.flat_machine.proofs.Completeness as lemma
use Rattle.flat_machine.proofs.laws.completeness.finish_is_complete.Goals as goal

pub returns-clause-any : goal.returns-clause-any
returns-clause-any c = lemma.finish_complete

pub returns-clause-pin : goal.returns-clause-pin
returns-clause-pin c = λ set h w a r first second draws is. lemma.pin_complete set h w a r first second draws is.works is.asks

pub returns-clause-crypt : goal.returns-clause-crypt
returns-clause-crypt c = λ set h w a r key sealing is. lemma.crypt_complete set h w a r key sealing is.works is.asks

pub returns-clause-imported : goal.returns-clause-imported
returns-clause-imported c = λ set h w a r kek row slot is. lemma.import_complete set h w a r kek row slot is.works is.asks

pub returns-clause-deletion : goal.returns-clause-deletion
returns-clause-deletion c = λ set h w a name slot is. lemma.deletion_complete set h w a name slot is.works is.asks

pub returns-clause-initialization : goal.returns-clause-initialization
returns-clause-initialization c = λ set h w a is. lemma.initialization_complete set h w a is.works is.asks

pub returns-clause-maintain : goal.returns-clause-maintain
returns-clause-maintain c = λ set h w a on is. lemma.maintain_complete set h w a on is.works is.asks

pub returns-clause-reset : goal.returns-clause-reset
returns-clause-reset c = λ set h rows a is. lemma.reset_complete set h rows a is.works is.asks
