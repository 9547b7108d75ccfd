use Rattle.std.proofs.Common.{ap, sym, subst}
use Rattle.nb_state.proofs.Common.{Held, IsOpen}
use Rattle.nb_state.proofs.MakesLaws.{open_still}
use Rattle.nb_state.proofs.store.Store.read_main.Goals as goal

pub returns-clause-open : goal.returns-clause-open
returns-clause-open g c t tells given =
    let old = g.H.Host.world c.args.host.now in
    let is = subst (λ (h : Held). IsOpen old h t) (sym c.self.view_is) given in
    open_still old (g.H.Host.world c.read_main.new.host) _ _ t
    (ap (λ (p : Rattle.nb_owner.specs.Open.Held). record { files = p.files; scn = c.self.inside.scn; guid = c.self.inside.guid; read_only = c.self.inside.read_only; running = c.self.inside.running; merged = c.self.inside.merged; pages = p.pages; cap = p.cap })
    c.read_main.ensures.same) c.read_main.ensures.quiet is
