use Rattle.std.proofs.Common.{◌*◌, sym, subst}
use Rattle.nb_base.proofs.Common.{on_ok_weaker, Only, Changes, whole_on_ok, page, on_base, ShowsIn, Held, PutLeft}
use Rattle.nb_base.proofs.PutLaws.{put_left, put_shown}
use Rattle.nb_base.specs.Stays.{KeepsFile, EndsWithin}
use Rattle.nb_base.proofs.StaysLaws.{page_within}
use Rattle.nb_base.proofs.files.TwoFiles.put_out.Goals as goal

pub returns-clause-left : goal.returns-clause-left
returns-clause-left g c tells =
    let old = g.H.Host.world c.args.host.now in
    let new = g.H.Host.world c.write_page.new.self in
    subst (λ (h : Held). Changes old new (Only h.name) (PutLeft old h.name c.args.number c.args.page.now)) c.self.view_is
    (put_left c.self.inside.name c.args.number c.args.page.now old new g.H.Host.tells c.write_page.result tells (g.met.H.Host.timely c.args.host.now) c.write_page.ensures.files c.write_page.ensures.log.said c.write_page.ensures.time)

pub returns-clause-put : goal.returns-clause-put
returns-clause-put g c b tells reads may =
    let old = g.H.Host.world c.args.host.now in
    let new = g.H.Host.world c.write_page.new.self in
    on_ok_weaker c.write_page.result
    (λ put. subst (λ (h : Held). ShowsIn h.name (on_base (page c.args.number c.args.page.now) b) new.files) c.self.view_is
    (put_shown c.self.inside.name c.args.number c.args.page.now old new put b (subst (λ (h : Held). ShowsIn h.name b old.files) (sym c.self.view_is) reads) may))
    (whole_on_ok c.write_page.result _ _ _ (c.write_page.ensures.files.files tells))

pub returns-clause-within : goal.returns-clause-within
returns-clause-within g c most tells low =
    let old = g.H.Host.world c.args.host.now in
    let new = g.H.Host.world c.write_page.new.self in
    subst (λ (h : Held). KeepsFile old new h.name (EndsWithin (most * c.args.self.now.page_size))) c.self.view_is
    (page_within g.H.Host.tells c.write_page.result old new c.self.inside.name c.args.number most _ c.args.page.now tells (g.met.H.Host.timely c.args.host.now) c.write_page.ensures.files c.write_page.ensures.time c.requires.size low)
