use Rattle.std.proofs.Common.{sym, ◌∙◌}
use Rattle.pad_machine.proofs.NamedLemmas.{few_named, found_named, id_of_found, no_owner, other_owner}
use Rattle.pad_machine.proofs.endings.named.Goals as goal

pub returns-in-Some-clause-first : goal.returns-in-Some-clause-first
returns-in-Some-clause-first c = id_of_found c.args.session c.args.floor c.args.id c.requires c.one_after_another.ensures.less c.args.requests.now.rows c.last_id-last.ensures.ids
    c.in-Some.owner (sym c.owner.ensures ∙ c.in-Some.is) (sym c.is_above.ensures ∙ c.if-is_above.true)

pub returns-in-Some-clause-same : goal.returns-in-Some-clause-same
returns-in-Some-clause-same c = sym (found_named c.args.session c.args.floor c.args.id c.requires c.one_after_another.ensures.less c.args.requests.now.rows c.last_id-last.ensures.ids
    c.in-Some.owner (sym c.owner.ensures ∙ c.in-Some.is) (sym c.is_above.ensures ∙ c.if-is_above.true))

pub returns-in-Some-clause-few : goal.returns-in-Some-clause-few
returns-in-Some-clause-few c = few_named c.args.session c.args.floor c.args.id c.requires c.one_after_another.ensures.less c.args.requests.now.rows c.last_id-last.ensures.ids

pub returns-in_default-clause-first : goal.returns-in_default-clause-first
returns-in_default-clause-first c = other_owner c.args.session c.args.floor c.args.id c.requires c.one_after_another.ensures.less c.args.requests.now.rows c.last_id-last.ensures.ids
    c.in-Some.owner (sym c.owner.ensures ∙ c.in-Some.is) (sym c.is_above.ensures ∙ c.if-is_above.false)

pub returns-in_default-clause-few : goal.returns-in_default-clause-few
returns-in_default-clause-few c = few_named c.args.session c.args.floor c.args.id c.requires c.one_after_another.ensures.less c.args.requests.now.rows c.last_id-last.ensures.ids

pub returns-in_default-2-clause-first : goal.returns-in_default-2-clause-first
returns-in_default-2-clause-first c = no_owner c.args.session c.args.floor c.args.id c.requires c.one_after_another.ensures.less c.args.requests.now.rows c.last_id-last.ensures.ids
    (sym c.owner.ensures ∙ c.in_default.is)

pub returns-in_default-2-clause-few : goal.returns-in_default-2-clause-few
returns-in_default-2-clause-few c = few_named c.args.session c.args.floor c.args.id c.requires c.one_after_another.ensures.less c.args.requests.now.rows c.last_id-last.ensures.ids
