use Rattle.std.proofs.Common.{sym, subst}
use Rattle.nb_owner.proofs.Common.{on_ok_weaker, Only, begun, settled, IsFirm, StandsIn, IsOnTheWay, Held, GoesOut, NoScnWaits, the_view}
use Rattle.nb_base.specs.Open.{IsOpen as AreOpen}
use Rattle.nb_owner.proofs.OutLaws.{start_way, start_firm, synced_firm, reads_agree, none_scn, quiet_more}
use Rattle.nb_base.proofs.StaysLaws.{begun_keeps, quiet_keeps, keeps_joined}
use Rattle.nb_owner.proofs.pair.Pair.flush_first.Goals as goal

pub returns-in_err-flush_scn_pages-in-Some-clause-left : goal.returns-in_err-flush_scn_pages-in-Some-clause-left
returns-in_err-flush_scn_pages-in-Some-clause-left g c t tells is unsettled normal =
    c.flush_scn_pages.ensures.left is.sees t tells (start_way (g.H.Host.world c.args.host.now) c.args.self.now t is normal) unsettled

pub returns-in_ok-flush_scn_pages-in-Some-clause-left : goal.returns-in_ok-flush_scn_pages-in-Some-clause-left
returns-in_ok-flush_scn_pages-in-Some-clause-left g c t tells is unsettled normal =
    quiet_more (g.H.Host.world c.args.host.now) (g.H.Host.world c.flush_scn_pages.new.host) (g.H.Host.world c.sync.new.host) (Only c.args.self.now.files.name) (StandsIn c.args.self.now.files.name t)
    (c.flush_scn_pages.ensures.left is.sees t tells (start_way (g.H.Host.world c.args.host.now) c.args.self.now t is normal) unsettled) c.sync.ensures.quiet

pub returns-in_ok-flush_scn_pages-in-Some-clause-out : goal.returns-in_ok-flush_scn_pages-in-Some-clause-out
returns-in_ok-flush_scn_pages-in-Some-clause-out g c t is tells unsettled normal =
    let mid = g.H.Host.world c.flush_scn_pages.new.host in
    let new = g.H.Host.world c.sync.new.host in
    let held = the_view c.self.inside in
    let both = c.in_ok-flush_scn_pages-in-Some.ensures.out is.sees t tells (start_way (g.H.Host.world c.args.host.now) c.args.self.now t is normal) unsettled in
    let out = subst (λ (h : Held). GoesOut mid h is.sees t (IsOnTheWay is.sees t)) (sym c.self.view_is) both.0 in
    let none = subst (λ (h : Held). NoScnWaits t h.pages) (sym c.self.view_is) both.1 in
    on_ok_weaker c.sync.result
    (λ kept.
    let firm = synced_firm mid new held is.sees t out unsettled none (subst (λ (f : Rattle.nb_base.specs.Open.Held). AreOpen new f (settled out.reads.base)) c.sync.ensures.same kept) in (
      subst (λ (f : Rattle.nb_base.specs.Open.Held). let h : Held = record { files = f; pages = c.self.inside.cache.pages; cap = c.self.inside.cache.cap } in GoesOut new h is.sees t (IsFirm t)) (sym c.sync.ensures.same) firm,
      none,
    ))
    (c.sync.ensures.kept out.reads.base tells (reads_agree mid held is.sees t (IsOnTheWay is.sees t) out) out.drafted out.reads.opens)

pub returns-in-None-clause-left : goal.returns-in-None-clause-left
returns-in-None-clause-left g c t tells is unsettled normal =
    begun (g.H.Host.world c.args.host.now) (Only c.args.self.now.files.name) (StandsIn c.args.self.now.files.name t) (g.met.H.Host.timely c.args.host.now) is.left

pub returns-in-None-clause-out : goal.returns-in-None-clause-out
returns-in-None-clause-out g c t is tells unsettled normal =
    let none = none_scn t c.args.self.now.pages normal is.waits.each c.in-None.ensures in
    (start_firm (g.H.Host.world c.args.host.now) c.args.self.now t is normal none, none)

pub returns-in_err-flush_scn_pages-in-Some-clause-within : goal.returns-in_err-flush_scn_pages-in-Some-clause-within
returns-in_err-flush_scn_pages-in-Some-clause-within g c most tells below = c.flush_scn_pages.ensures.within most tells below

pub returns-in_ok-flush_scn_pages-in-Some-clause-within : goal.returns-in_ok-flush_scn_pages-in-Some-clause-within
returns-in_ok-flush_scn_pages-in-Some-clause-within g c most tells below =
    keeps_joined _ _ _ c.args.self.now.files.name _ (c.flush_scn_pages.ensures.within most tells below) (quiet_keeps (g.H.Host.world c.flush_scn_pages.new.host) (g.H.Host.world c.sync.new.host) c.args.self.now.files.name _ c.sync.ensures.quiet)

pub returns-in-None-clause-within : goal.returns-in-None-clause-within
returns-in-None-clause-within g c most tells below = begun_keeps (g.H.Host.world c.args.host.now) c.args.self.now.files.name _ (g.met.H.Host.timely c.args.host.now)
