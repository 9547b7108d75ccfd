use Rattle.std.proofs.Common.{sym, ap, subst}
use Rattle.nb_engine.proofs.Common.{backup_spot, Held, IsOpen, Walked}
use Rattle.nb_engine.proofs.engine.Engine.history_last.Goals as goal

pub returns-clause-row : goal.returns-clause-row
unfolding backup_spot
returns-clause-row g c t tells is =
    let here = subst (λ (h : Held). IsOpen (g.H.Host.world c.args.host.now) h t) (sym c.self.view_is) is in
    ap (λ (x : Walked). x.row) (c.in_ok-walked.ensures.walked t tells here)
