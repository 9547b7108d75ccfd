use Rattle.std.proofs.Common.{◌*◌, ◌<◌, sym, subst, ap}
use Rattle.nb_owner.proofs.Common.{IsOnTheWay, Held, GoesOut}
use Rattle.nb_owner.proofs.KeepLaws.{keeps_begun, keeps_on, below_on}
use Rattle.nb_owner.proofs.RankLaws.{waiting_count, fewer_wait}
use Rattle.nb_owner.proofs.OutLaws.{way_begun, way_changes, way_more, none_scn}
use Rattle.nb_base.specs.Stays.{KeepsFile, EndsWithin}
use Rattle.nb_owner.specs.Open.{AreBelow}
use Rattle.nb_base.proofs.StaysLaws.{begun_keeps, keeps_joined}
use Rattle.nb_owner.proofs.pair.Pair.flush_scn_pages.Goals as goal

pub loop-number-init : goal.loop-number-init
loop-number-init g c = record {
  keeps = keeps_begun (g.H.Host.world c.args.host.now) c.args.self.now (g.H.Host.faults c.args.host.now);
  out = λ f t tells given cond. (way_begun (g.H.Host.world c.args.host.now) c.args.self.now f t given cond (g.met.H.Host.timely c.args.host.now), given);
  grows = λ most tells below. (below, begun_keeps (g.H.Host.world c.args.host.now) c.args.self.now.files.name _ (g.met.H.Host.timely c.args.host.now));
}

pub loop-number-smaller : goal.loop-number-smaller
loop-number-smaller g c =
    subst (λ (h : Held). waiting_count h.pages < waiting_count c.loop-number.self.pages) (sym c.in_ok-flush_next.ensures.done)
    (fewer_wait c.in-Some.number c.in-Some.ensures.0 c.loop-number.self.pages c.in-Some.ensures.1)

pub loop-number-preserved : goal.loop-number-preserved
loop-number-preserved g c =
    let new = g.H.Host.world c.flush_next.new.host in
    let loop = c.loop-number.invariant in
    let ok = c.in_ok-flush_next.ensures in
    record {
      keeps = keeps_on _ _ _ _ c.loop-number.self _ _ _ _ c.in-Some.number loop.keeps ok.done ok.gave ok.reads ok.cause;
      out = λ f t tells given cond.
          let so = loop.out f t tells given cond in
          let by = c.flush_next.ensures.left t tells so.1.pages in
          let size = c.flush_next.ensures.long t so.1.pages in (
            way_changes _ c.loop-number.self f t so.1 cond new c.in-Some.number c.in-Some.ensures.0 c.in-Some.ensures.1 c.in-Some.ensures.2 size by _ c.args.self.now.files.name (ap (λ f. f.name) loop.keeps.files) so.0,
            subst (λ (h : Held). GoesOut new h f t (IsOnTheWay f t)) (sym ok.done)
                (way_more _ c.loop-number.self f t so.1 cond new c.in-Some.number c.in-Some.ensures.0 c.in-Some.ensures.1 c.in-Some.ensures.2 size by (λ b shows may. ok.put t b tells so.1.pages shows may)),
          );
      grows = λ most tells below.
          let so = loop.grows most tells below in (
            subst (λ (h : Held). AreBelow most h.pages) (sym ok.done) (below_on most c.in-Some.number c.in-Some.ensures.0 c.loop-number.self.pages c.in-Some.ensures.1 so.0),
            keeps_joined _ (g.H.Host.world c.loop-number.host) (g.H.Host.world c.flush_next.new.host) c.args.self.now.files.name _ so.1
                (subst (λ (f : Rattle.nb_base.specs.Open.Held). KeepsFile (g.H.Host.world c.loop-number.host) (g.H.Host.world c.flush_next.new.host) f.name (EndsWithin (most * f.page_size))) loop.keeps.files
                (c.flush_next.ensures.within most tells (so.0 c.in-Some.number c.in-Some.ensures.0 c.in-Some.ensures.1))),
          );
    }

pub returns-in_err-flush_next-clause-left : goal.returns-in_err-flush_next-clause-left
returns-in_err-flush_next-clause-left g c f t tells given cond =
    let loop = c.loop-number.invariant in
    let so = loop.out f t tells given cond in
    way_changes _ c.loop-number.self f t so.1 cond (g.H.Host.world c.flush_next.new.host) c.in-Some.number c.in-Some.ensures.0 c.in-Some.ensures.1 c.in-Some.ensures.2 (c.flush_next.ensures.long t so.1.pages) (c.flush_next.ensures.left t tells so.1.pages) _
    c.args.self.now.files.name (ap (λ f. f.name) loop.keeps.files) so.0

pub returns-clause-left : goal.returns-clause-left
returns-clause-left g c f t tells given cond = (c.loop-number.invariant.out f t tells given cond).0

pub returns-clause-out : goal.returns-clause-out
returns-clause-out g c f t tells given cond =
    let so = c.loop-number.invariant.out f t tells given cond in
    (so.1, none_scn t c.loop-number.self.pages so.1.normal so.1.each c.in_default.ensures)

pub returns-in_err-flush_next-clause-within : goal.returns-in_err-flush_next-clause-within
returns-in_err-flush_next-clause-within g c most tells below =
    let loop = c.loop-number.invariant in
    let so = loop.grows most tells below in
    keeps_joined _ (g.H.Host.world c.loop-number.host) (g.H.Host.world c.flush_next.new.host) c.args.self.now.files.name _ so.1
    (subst (λ (f : Rattle.nb_base.specs.Open.Held). KeepsFile (g.H.Host.world c.loop-number.host) (g.H.Host.world c.flush_next.new.host) f.name (EndsWithin (most * f.page_size))) loop.keeps.files
    (c.flush_next.ensures.within most tells (so.0 c.in-Some.number c.in-Some.ensures.0 c.in-Some.ensures.1)))

pub returns-clause-within : goal.returns-clause-within
returns-clause-within g c most tells below = (c.loop-number.invariant.grows most tells below).1
