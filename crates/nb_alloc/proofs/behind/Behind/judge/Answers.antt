use Rattle.std.proofs.Common.{◌++◌, nat_lt}
use Rattle.nb_alloc.proofs.Common.{page_if}
use Rattle.nb_alloc.proofs.BehindLaws.{value_chain, alike_chain}
use Rattle.nb_alloc.proofs.behind.Behind.judge.Goals as goal

pub returns-clause-test : goal.returns-clause-test
returns-clause-test c pages full tested =
    c.with_page.ensures.test (page_if (nat_lt 0 c.args.self.now.entry) c.args.self.now.entry ++ pages) full (c.with_page-of_entry.ensures.test pages full tested)

pub returns-clause-value : goal.returns-clause-value
returns-clause-value c = value_chain c.args.found c.with_page-of_entry.result c.with_page.result c.with_page-of_entry.ensures.value c.with_page.ensures.value

pub returns-clause-kept : goal.returns-clause-kept
returns-clause-kept c = c.with_page.ensures.none

pub returns-clause-ended : goal.returns-clause-ended
returns-clause-ended c = alike_chain c.args.found c.with_page-of_entry.result c.with_page.result c.with_page-of_entry.ensures.ended c.with_page.ensures.ended

pub returns-clause-cause : goal.returns-clause-cause
returns-clause-cause c old new counts = c.with_page.ensures.cause old new (c.with_page-of_entry.ensures.cause old new counts)
