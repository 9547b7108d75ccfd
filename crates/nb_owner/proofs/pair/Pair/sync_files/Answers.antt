use Rattle.std.proofs.Common.{sym, subst}
use Rattle.nb_owner.proofs.Common.{on_ok_weaker, settled, AreMerged, NoneWaits, Held, IsOpen, the_view}
use Rattle.nb_owner.proofs.WaitLaws.{files_still, files_open, open_settled}
use Rattle.nb_owner.proofs.pair.Pair.sync_files.Goals as goal

pub returns-clause-open : goal.returns-clause-open
returns-clause-open g c t tells given =
    let old = g.H.Host.world c.args.host.now in
    let new = g.H.Host.world c.sync.new.host in
    let is = subst (λ (h : Held). IsOpen old h t) (sym c.self.view_is) given in
    files_still old new (the_view c.self.inside) t c.sync.new.self c.sync.ensures.same c.sync.ensures.quiet.still is

pub returns-clause-settled : goal.returns-clause-settled
returns-clause-settled g c t tells given =
    let old = g.H.Host.world c.args.host.now in
    let new = g.H.Host.world c.sync.new.host in
    let is = subst (λ (h : Held). IsOpen old h t) (sym c.self.view_is) given in
    let none = subst (λ (h : Held). NoneWaits h.pages) (sym c.self.view_is) c.requires.none in
    let now : Held = record { files = c.sync.new.self; pages = c.self.inside.cache.pages; cap = c.self.inside.cache.cap } in
    on_ok_weaker c.sync.result (λ opened. open_settled new now (settled t.base) none opened is.pages) (c.sync.ensures.settled t tells (files_open old (the_view c.self.inside) t none is))

pub returns-clause-merged : goal.returns-clause-merged
returns-clause-merged g c k merged = c.sync.ensures.merged k (subst (λ (h : Held). AreMerged (g.H.Host.world c.args.host.now) h.files k) (sym c.self.view_is) merged)
