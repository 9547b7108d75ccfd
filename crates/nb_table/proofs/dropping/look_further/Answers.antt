use Rattle.std.proofs.Common.{ℕ, ap, ◌∙◌, Option, None}
use Rattle.nb_table.proofs.Common.{next_in, give_broken, not_data, tested_on, none_some, looks_then}
use Rattle.nb_table.proofs.dropping.look_further.Goals as goal

pub returns-in_err-data_read-clause-test : goal.returns-in_err-data_read-clause-test
returns-in_err-data_read-clause-test g c t tells is =
    let cause = not_data t.base.image c.args.owner c.args.number in
    tested_on (Unit {0}) (Option ℕ × ℕ) _ _ cause cause c.from_residual.ensures (λ r e. e) (c.in_err-data_read.ensures.reads t tells is).test

pub returns-in_err-here-clause-test : goal.returns-in_err-here-clause-test
returns-in_err-here-clause-test g c t tells is =
    tested_on (Option ℕ) (Option ℕ × ℕ) _ _ None (not_data t.base.image c.args.owner c.args.number) c.from_residual-in_err-here.ensures (λ r e. absurd (none_some r e)) tt

pub returns-clause-test : goal.returns-clause-test
returns-clause-test g c t tells is = (c.in_ok-data_read.ensures.reads t tells is).test

pub returns-clause-lacking : goal.returns-clause-lacking
returns-clause-lacking g c t pages tells is e =
    c.lower.ensures pages (give_broken t.base.image c.args.number) e (c.in_ok-here.ensures.value t tells (c.in_ok-data_read.ensures.looks.opened t tells is))

pub returns-clause-next : goal.returns-clause-next
returns-clause-next g c t tells is = c.get-next.ensures.value ∙ ap next_in ((c.in_ok-data_read.ensures.reads t tells is).page)

pub returns-in_err-here-clause-looks : goal.returns-in_err-here-clause-looks
returns-in_err-here-clause-looks g c = looks_then c.in_ok-data_read.ensures.looks c.in_err-here.ensures.looks

pub returns-clause-looks : goal.returns-clause-looks
returns-clause-looks g c = looks_then c.in_ok-data_read.ensures.looks c.in_ok-here.ensures.looks
