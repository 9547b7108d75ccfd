use Rattle.std.proofs.Common.{sym, subst}
use Rattle.nb_engine.proofs.Common.{Held, IsOpen, data_cause, put_data, Tries}
use Rattle.nb_engine.proofs.engine.Engine.data_write.Goals as goal

pub returns-clause-tries : goal.returns-clause-tries
returns-clause-tries g c t tells is =
    let w = g.H.Host.world c.args.host.now in
    let here = subst (λ (h : Held). IsOpen w h t) (sym c.self.view_is) is in
    let new = g.H.Host.world c.write_data.new.host in
    subst (λ (h : Held). Tries c.write_data.result w new h c.write_data.new.store t (data_cause t.base.image c.args.number) (put_data c.args.number c.args.page.now t.base.image).strokes) c.self.view_is (c.write_data.ensures.tries t tells here)
