use Rattle.std.proofs.Common.{sym, subst}
use Rattle.nb_engine.proofs.Common.{drafted, give_page, Held, IsOpen, mark_cause, Tries}
use Rattle.nb_engine.proofs.engine.Engine.data_free.Goals as goal

pub returns-clause-tries : goal.returns-clause-tries
returns-clause-tries g c t tells is =
    let w = g.H.Host.world c.args.host.now in
    let here = subst (λ (h : Held). IsOpen w h t) (sym c.self.view_is) is in
    let new = g.H.Host.world c.mark.new.host in
    subst (λ (h : Held). Tries c.mark.result w new h c.mark.new.store t (mark_cause t.base.image c.args.number) (give_page c.args.number (drafted t.base.image)).strokes) c.self.view_is (c.mark.ensures.tries t tells here)
