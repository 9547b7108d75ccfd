use Rattle.std.proofs.Common.{[], ◌∷◌, sym, ap, subst, arith, refl, ◌≡◌}
use Rattle.nb_state.proofs.Common.{World, begin, Strikes, not_done, Held, IsOpen, name_of, GrowsWithin, FileIs}
use Rattle.nb_state.proofs.TurnLaws.{open_begun}
use Rattle.nb_base.proofs.StaysLaws.{durable_file}
use Rattle.nb_state.proofs.store.Store.begin_with.Goals as goal

pub returns-in_err-begin-clause-takes : goal.returns-in_err-begin-clause-takes
returns-in_err-begin-clause-takes g c t ask tells given =
    let old : World = g.H.Host.world c.args.host.now in
    let new : World = g.H.Host.world c.begin.new.host in
    let is = subst (λ (h : Held). IsOpen old h t) (sym c.self.view_is) given in
    let takes = c.begin.ensures.takes t ask tells is.files (omega (arith, c.requires.scn, given.agrees.scn)) in
    record {
      left = subst (λ (h : Held). Strikes old new (name_of h) t (begin c.args.guid.now ask ∷ [])) c.self.view_is takes.left;
      done = not_done c.from_residual.result _ c.from_residual.ensures.0;
    }

pub returns-clause-takes : goal.returns-clause-takes
returns-clause-takes g c t ask tells given =
    let old : World = g.H.Host.world c.args.host.now in
    let new : World = g.H.Host.world c.begin.new.host in
    let is = subst (λ (h : Held). IsOpen old h t) (sym c.self.view_is) given in
    let takes = c.in_ok-begin.ensures.takes t ask tells is.files (omega (arith, c.requires.scn, given.agrees.scn)) in
    record {
      left = subst (λ (h : Held). Strikes old new (name_of h) t (begin c.args.guid.now ask ∷ [])) c.self.view_is takes.left;
      done = open_begun old new _ t is c.begin.new.self c.args.guid.now ask c.told-guid (omega (arith, c.requires.scn, ap (λ (h : Held). h.scn) c.self.view_is)) takes.done;
    }

pub returns-in_err-begin-clause-long : goal.returns-in_err-begin-clause-long
returns-in_err-begin-clause-long g c t tells given =
    let old : World = g.H.Host.world c.args.host.now in
    let new : World = g.H.Host.world c.begin.new.host in
    let is = subst (λ (h : Held). IsOpen old h t) (sym c.self.view_is) given in
    subst (λ (h : Held). GrowsWithin old new (name_of h) h.files.page_size t []) c.self.view_is (c.begin.ensures.within t tells is.files)

pub returns-clause-long : goal.returns-clause-long
returns-clause-long g c t tells given =
    let old : World = g.H.Host.world c.args.host.now in
    let new : World = g.H.Host.world c.begin.new.host in
    let is = subst (λ (h : Held). IsOpen old h t) (sym c.self.view_is) given in
    subst (λ (h : Held). GrowsWithin old new (name_of h) h.files.page_size t []) c.self.view_is (c.begin.ensures.within t tells is.files)

pub returns-clause-frozen : goal.returns-clause-frozen
returns-clause-frozen g c tells =
    let new : World = g.H.Host.world c.begin.new.host in
    subst (λ (h : Held). FileIs new (name_of h) (λ file. file ≡ new.files (name_of h))) c.self.view_is (durable_file new c.self.inside.pair.files.name _ refl (c.in_ok-begin.ensures.durable tells))
