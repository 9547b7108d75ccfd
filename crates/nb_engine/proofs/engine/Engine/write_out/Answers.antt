use Rattle.std.proofs.Common.{[], sym, subst}
use Rattle.nb_engine.proofs.Common.{Held, IsOpen, name_of}
use Rattle.nb_base.specs.Stays.{GrowsWithin}
use Rattle.nb_engine.proofs.engine.Engine.write_out.Goals as goal

pub returns-clause-long : goal.returns-clause-long
returns-clause-long g c t tells is =
    let old = g.H.Host.world c.args.host.now in
    let here = subst (λ (h : Held). IsOpen old h t) (sym c.self.view_is) is in
    subst (λ (h : Held). GrowsWithin old (g.H.Host.world c.write_out.new.host) (name_of h) h.files.page_size t []) c.self.view_is (c.write_out.ensures.long t tells here)
