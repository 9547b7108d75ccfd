use Rattle.std.proofs.Common.{[], ◌∷◌, sym, ap, subst, ◌∙◌}
use Rattle.nb_state.proofs.Common.{World, ends, Strikes, not_done, Held, IsOpen, name_of, GrowsWithin, KeepsFile, HasAfterFirst}
use Rattle.nb_state.proofs.TurnLaws.{open_ended, end_room}
use Rattle.nb_state.proofs.store.Store.end_stalled.Goals as goal

pub returns-in_err-end-clause-takes : goal.returns-in_err-end-clause-takes
returns-in_err-end-clause-takes g c t tells given =
    let old : World = g.H.Host.world c.args.host.now in
    let new : World = g.H.Host.world c.end.new.host in
    let is = subst (λ (h : Held). IsOpen old h t) (sym c.self.view_is) given in
    record {
      left = subst (λ (h : Held). Strikes old new (name_of h) t (ends ∷ [])) c.self.view_is (c.end.ensures.takes t tells is.files).left;
      done = not_done c.from_residual.result _ c.from_residual.ensures.0;
    }

pub returns-clause-takes : goal.returns-clause-takes
returns-clause-takes g c t tells given =
    let old : World = g.H.Host.world c.args.host.now in
    let new : World = g.H.Host.world c.end.new.host in
    let is = subst (λ (h : Held). IsOpen old h t) (sym c.self.view_is) given in
    let stalled = ap (λ (h : Held). h.files.state) c.self.view_is ∙ c.requires.stalled in
    let takes = c.in_ok-end.ensures.takes t tells is.files in
    record {
      left = subst (λ (h : Held). Strikes old new (name_of h) t (ends ∷ [])) c.self.view_is takes.left;
      done = open_ended old new _ t is c.end.new.self c.args.session c.self.told stalled takes.done c.next_scn-scn.result
          (c.next_scn-scn.ensures (end_room old new _ t is c.end.new.self c.args.session c.self.told stalled takes.done));
    }

pub returns-in_err-end-clause-long : goal.returns-in_err-end-clause-long
returns-in_err-end-clause-long g c t tells given =
    let old : World = g.H.Host.world c.args.host.now in
    let new : World = g.H.Host.world c.end.new.host in
    let is = subst (λ (h : Held). IsOpen old h t) (sym c.self.view_is) given in
    subst (λ (h : Held). GrowsWithin old new (name_of h) h.files.page_size t []) c.self.view_is (c.end.ensures.within t tells is.files)

pub returns-clause-long : goal.returns-clause-long
returns-clause-long g c t tells given =
    let old : World = g.H.Host.world c.args.host.now in
    let new : World = g.H.Host.world c.end.new.host in
    let is = subst (λ (h : Held). IsOpen old h t) (sym c.self.view_is) given in
    subst (λ (h : Held). GrowsWithin old new (name_of h) h.files.page_size t []) c.self.view_is (c.end.ensures.within t tells is.files)

pub returns-in_err-end-clause-rest : goal.returns-in_err-end-clause-rest
returns-in_err-end-clause-rest g c t bytes tells given =
    let old : World = g.H.Host.world c.args.host.now in
    let new : World = g.H.Host.world c.end.new.host in
    let is = subst (λ (h : Held). IsOpen old h t) (sym c.self.view_is) given in
    subst (λ (h : Held). KeepsFile old new (name_of h) (HasAfterFirst h.files.page_size bytes)) c.self.view_is (c.end.ensures.rest t bytes tells is.files)

pub returns-clause-rest : goal.returns-clause-rest
returns-clause-rest g c t bytes tells given =
    let old : World = g.H.Host.world c.args.host.now in
    let new : World = g.H.Host.world c.end.new.host in
    let is = subst (λ (h : Held). IsOpen old h t) (sym c.self.view_is) given in
    subst (λ (h : Held). KeepsFile old new (name_of h) (HasAfterFirst h.files.page_size bytes)) c.self.view_is (c.end.ensures.rest t bytes tells is.files)
