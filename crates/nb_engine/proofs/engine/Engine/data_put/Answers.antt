use Rattle.std.proofs.Common.{sym, subst}
use Rattle.nb_engine.proofs.Common.{with_part, page_at, Held, IsOpen, data_cause, put_data, Tries}
use Rattle.nb_engine.proofs.engine.Engine.data_put.Goals as goal

pub returns-clause-tries : goal.returns-clause-tries
returns-clause-tries g c t tells is =
    let w = g.H.Host.world c.args.host.now in
    let here = subst (λ (h : Held). IsOpen w h t) (sym c.self.view_is) is in
    let new = g.H.Host.world c.change_data.new.host in
    subst (λ (h : Held). Tries c.change_data.result w new h c.change_data.new.store t (data_cause t.base.image c.args.number) (put_data c.args.number (with_part c.args.at c.args.bytes.now (page_at t.base.image c.args.number)) t.base.image).strokes) c.self.view_is (c.change_data.ensures.tries t tells here)
