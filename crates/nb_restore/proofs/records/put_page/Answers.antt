use Rattle.std.proofs.Common.{refl, arith}
use Rattle.nb_restore.proofs.Common.{size_facts, on_ok_then}
use Rattle.nb_restore.proofs.CopiedLaws.{overwrites_page, overwrites_first}
use Rattle.nb_restore.proofs.FrontLaws.{front_begun, front_page, put_on_ok}
use Rattle.nb_restore.proofs.records.put_page.Goals as goal

pub returns-then-number-eq0-clause-left : goal.returns-then-number-eq0-clause-left
returns-then-number-eq0-clause-left g c tells = front_begun _ _ (g.met.H.Host.timely _)

pub returns-then-number-eq0-clause-pages : goal.returns-then-number-eq0-clause-pages
returns-then-number-eq0-clause-pages g c tells = overwrites_first _ _ _ _ _ _ c.if-number-eq0.true refl c.copy_from_slice.ensures.after

pub returns-clause-left : goal.returns-clause-left
returns-clause-left g c tells =
    let write = c.write_page.ensures in
    front_page _ _ _ _ _ _ _ tells (omega (arith, c.if-number-eq0.false)) (size_facts _ c.requires.size).at_least (g.met.H.Host.timely _) write.files write.log.said write.time

pub returns-clause-pages : goal.returns-clause-pages
returns-clause-pages g c tells =
    on_ok_then c.write_page.result (λ put. overwrites_page _ _ _ _ _ _ (omega (arith, c.if-number-eq0.false)) c.requires.below refl put)
    (put_on_ok _ c.write_page.result _ _ _ _ _ tells c.write_page.ensures.files)
