use Rattle.std.proofs.Common.{ap, sym, subst, ◌∙◌}
use Rattle.nb_engine.proofs.Common.{end_scn, end_turn, Held, IsOpen, DoesEnd}
use Rattle.nb_engine.proofs.BackupLaws.{does_end}
use Rattle.nb_engine.proofs.engine.Engine.end.Goals as goal

pub returns-clause-turn : goal.returns-clause-turn
returns-clause-turn g c s t tells same runs is =
    let old = g.H.Host.world c.args.host.now in
    let new = g.H.Host.world c.end.new.host in
    let here = subst (λ (h : Held). IsOpen old h t) (sym c.self.view_is) is in
    subst (λ (h : Held). DoesEnd c.end.result old new h c.end.new.self t (end_scn t.base.image) (end_turn s c.args.session)) c.self.view_is
    (does_end old new c.self.inside.store c.end.new.self t s here c.end.result c.args.session same (ap (λ (h : Held). h.running) c.self.view_is ∙ runs) (c.end.ensures.ends t tells here))
