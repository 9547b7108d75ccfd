use Rattle.std.proofs.Common.{length, refl, arith}
use Rattle.nb_inplace.proofs.Common.{size_facts, overwrites_page, overwrites_first, put_on_ok}
use Rattle.nb_change.proofs.ResultLaws.{on_ok_then}
use Rattle.nb_inplace.proofs.RecordLaws.{half_none, half_record}
use Rattle.nb_inplace.proofs.records.put_page.Goals as goal

pub returns-then-number-eq0-clause-left : goal.returns-then-number-eq0-clause-left
returns-then-number-eq0-clause-left g c tells records there = half_none _ _ records _ (g.met.H.Host.timely _)

pub returns-then-number-eq0-clause-pages : goal.returns-then-number-eq0-clause-pages
returns-then-number-eq0-clause-pages g c tells = overwrites_first _ _ _ _ _ _ c.if-number-eq0.true refl c.copy_from_slice.ensures.after

pub returns-clause-left : goal.returns-clause-left
returns-clause-left g c tells records there =
    let write = c.write_page.ensures in
    let wide = (size_facts (length c.args.page.now) c.requires.size).at_least in
    half_record _ _ _ _ _ _ _ records tells (omega (arith, c.if-number-eq0.false)) c.requires.below (omega (arith, wide)) there (g.met.H.Host.timely _) write.files write.log.said write.time

pub returns-clause-pages : goal.returns-clause-pages
returns-clause-pages g c tells =
    on_ok_then c.write_page.result (λ put. overwrites_page _ _ _ _ _ _ (omega (arith, c.if-number-eq0.false)) c.requires.below refl put)
    (put_on_ok _ c.write_page.result _ _ _ _ _ tells c.write_page.ensures.files)
