use Rattle.std.proofs.Common.{sym, subst}
use Rattle.nb_engine.proofs.Common.{IfOk-weaker, Held, IsOpen, entry_broken, lacking_cause}
use Rattle.nb_engine.proofs.engine.Engine.data_ready.Goals as goal

pub returns-clause-value : goal.returns-clause-value
returns-clause-value g c t tells is =
    let here = subst (λ (h : Held). IsOpen (g.H.Host.world c.args.host.now) h t) (sym c.self.view_is) is in
    IfOk-weaker c.find_lacking.result _ _ (λ lacking found. lacking_cause lacking (entry_broken t.base.image c.args.number) found) (c.find_lacking.ensures.value t tells here)
