use Rattle.std.proofs.Common.{[], refl, sym, subst}
use Rattle.nb_state.proofs.Common.{on_ok_weaker, settled, Held, IsOpen, name_of, OfFiles, StrikesIn, WrittenIn, GrowsWithin}
use Rattle.nb_state.proofs.TurnLaws.{open_out}
use Rattle.nb_base.proofs.TouchLaws.{narrowed}
use Rattle.nb_state.proofs.store.Store.sync.Goals as goal

pub returns-clause-takes : goal.returns-clause-takes
returns-clause-takes g c t tells given =
    let old = g.H.Host.world c.args.host.now in
    let new = g.H.Host.world c.sync.new.host in
    let is = subst (λ (h : Held). IsOpen old h t) (sym c.self.view_is) given in
    let takes = c.sync.ensures.takes t tells is.files in
    record {
      left = subst (λ (h : Held). StrikesIn old new h.files.state (name_of h) t []) c.self.view_is
          (narrowed old new (OfFiles c.self.inside.pair.files.name) (WrittenIn c.self.inside.pair.files.state c.self.inside.pair.files.name) _ takes.left (c.sync.ensures.touches t tells is.files));
      done = on_ok_weaker c.sync.result (λ opened. open_out old new _ c.sync.new.self t t is refl c.sync.ensures.files opened (c.sync.ensures.merged _)) takes.done;
    }

pub returns-clause-settled : goal.returns-clause-settled
returns-clause-settled g c t tells given =
    let old = g.H.Host.world c.args.host.now in
    let new = g.H.Host.world c.sync.new.host in
    let is = subst (λ (h : Held). IsOpen old h t) (sym c.self.view_is) given in
    on_ok_weaker c.sync.result (λ opened. open_out old new _ c.sync.new.self t (settled t.base) is refl c.sync.ensures.files opened (c.sync.ensures.merged _)) (c.sync.ensures.settled t tells is.files)

pub returns-clause-long : goal.returns-clause-long
returns-clause-long g c t tells given =
    let old = g.H.Host.world c.args.host.now in
    let new = g.H.Host.world c.sync.new.host in
    let is = subst (λ (h : Held). IsOpen old h t) (sym c.self.view_is) given in
    subst (λ (h : Held). GrowsWithin old new (name_of h) h.files.page_size t []) c.self.view_is (c.sync.ensures.within t tells is.files)
