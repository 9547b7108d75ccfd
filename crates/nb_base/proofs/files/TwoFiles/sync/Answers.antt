use Rattle.std.proofs.Common.{ℕ, List, sym, subst, ap, ◌∙◌, not}
use Rattle.nb_base.proofs.Common.{ne_eqb, IsDurable, settled, ShowsIn, Held, Agrees, IsOpen}
use Rattle.nb_base.proofs.SyncLaws.{both_settled}
use Rattle.nb_base.proofs.files.TwoFiles.sync.Goals as goal

pub returns-clause-kept : goal.returns-clause-kept
returns-clause-kept g c b tells agrees none reads =
    let old = g.H.Host.world c.args.host.now in
    let new = g.H.Host.world c.sync_both.new.host in
    subst (λ (h : Held). IsOpen new h (settled b)) c.self.view_is
    (both_settled old new _ b c.sync_both.ensures.quiet.still (subst (λ (h : Held). Agrees h b) (sym c.self.view_is) agrees) (ap (λ (h : Held). h.drafted) c.self.view_is ∙ none) (subst (λ (h : Held). ShowsIn h.name b old.files) (sym c.self.view_is) reads)
    (c.in_ok-sync_both.ensures.main tells) (λ ne. subst (λ (d : List ℕ). IsDurable new d (new.files d)) c.delta.ensures (c.in_ok-sync_both.ensures.delta tells (ap not (ne_eqb c.self.inside.state 0 ne)))))

pub returns-clause-settled : goal.returns-clause-settled
returns-clause-settled g c t tells open_ = returns-clause-kept g c t.base tells open_.agrees open_.drafted open_.shows
