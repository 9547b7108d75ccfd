use Rattle.nb_base.proofs.Common.{on_ok_weaker, whole_on_ok}
use Rattle.nb_base.proofs.TouchLaws.{page_touched}
use Rattle.nb_base.proofs.HiddenLaws.{hides, struck_hidden, hidden_seen}
use Rattle.std.proofs.Common.{refl}
use Rattle.nb_base.proofs.StaysLaws.{page_within}
use Rattle.nb_base.proofs.writes.write_hidden.Goals as goal

pub returns-clause-takes : goal.returns-clause-takes
returns-clause-takes g c t k tells seen is merges at =
    let old = g.H.Host.world c.args.host.now in
    let mid = g.H.Host.world c.write_page.new.self in
    let may = hides t c.args.number c.args.page.now is in
    let timely = g.met.H.Host.timely c.args.host.now in
    let left = struck_hidden t c.args.number c.args.page.now may merges c.args.name.now k at old mid timely seen g.H.Host.tells c.write_page.result tells c.write_page.ensures.files c.write_page.ensures.log.said c.write_page.ensures.time in
    record {
      left = left;
      done = on_ok_weaker c.write_page.result (λ put. hidden_seen t c.args.number c.args.page.now may merges c.args.name.now k at old mid timely seen put left) (whole_on_ok c.write_page.result _ _ _ (c.write_page.ensures.files.files tells));
    }

pub returns-clause-touches : goal.returns-clause-touches
returns-clause-touches g c tells =
    page_touched g.H.Host.tells c.write_page.result (g.H.Host.world c.args.host.now) (g.H.Host.world c.write_page.new.self) c.args.name.now _ c.args.page.now tells (g.met.H.Host.timely c.args.host.now) c.write_page.ensures.files c.write_page.ensures.log.said c.write_page.ensures.time

pub returns-clause-put : goal.returns-clause-put
returns-clause-put g c tells = whole_on_ok c.write_page.result _ _ _ (c.write_page.ensures.files.files tells)

pub returns-clause-within : goal.returns-clause-within
returns-clause-within g c most tells low = page_within g.H.Host.tells c.write_page.result (g.H.Host.world c.args.host.now) (g.H.Host.world c.write_page.new.self) c.args.name.now c.args.number most _ c.args.page.now tells (g.met.H.Host.timely c.args.host.now) c.write_page.ensures.files c.write_page.ensures.time refl low
