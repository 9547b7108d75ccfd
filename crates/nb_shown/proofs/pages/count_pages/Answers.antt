use Rattle.nb_shown.proofs.Common.{all_needed, pages_turn, not_of_form, goes_nowhere, seeing, tested_does, valued_does, PageCounts, pages_shown}
use Rattle.nb_shown.proofs.TurnLaws.{pages_refused, pages_says}
use Rattle.nb_shown.proofs.pages.count_pages.Goals as goal

pub returns-in_err-counts-clause-turn : goal.returns-in_err-counts-clause-turn
returns-in_err-counts-clause-turn g c s t tells same is =
    let counted = c.in_err-counts.ensures in
    tested_does PageCounts PageCounts pages_shown _ _ _ _ _ _ t s pages_turn (not_of_form (all_needed t.base.image)) c.from_residual.ensures same counted.looks.same counted.looks.quiet is (counted.looks.opened t tells is) (counted.test t tells is)
    (λ r e. pages_refused (seeing s t.base) r e)

pub returns-clause-turn : goal.returns-clause-turn
returns-clause-turn g c s t tells same is =
    let counted = c.in_ok-counts.ensures in
    valued_does pages_shown c.in_ok-counts.counts _ _ _ _ t s pages_turn same counted.looks.same counted.looks.quiet is (counted.looks.opened t tells is)
    (pages_says (seeing s t.base) c.in_ok-counts.counts (counted.test t tells is) (counted.counts t tells is))

pub returns-in_err-counts-clause-goes : goal.returns-in_err-counts-clause-goes
returns-in_err-counts-clause-goes g c = goes_nowhere _ _ c.in_err-counts.ensures.looks.same

pub returns-clause-goes : goal.returns-clause-goes
returns-clause-goes g c = goes_nowhere _ _ c.in_ok-counts.ensures.looks.same
