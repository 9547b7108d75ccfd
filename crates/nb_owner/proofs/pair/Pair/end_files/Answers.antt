use Rattle.std.proofs.Common.{arith, ◌*◌, [], ◌∷◌, refl, sym, subst, ◌∙◌}
use Rattle.nb_owner.proofs.Common.{ends, after_stroke, Strikes, strikes_left, not_done, NoneWaits, Held, Pages, IsOpen, AreOf, the_view, some_page}
use Rattle.nb_owner.proofs.RankLaws.{none_found}
use Rattle.nb_owner.proofs.OpenLaws.{of_ended, gone_behind, valid_gone, none_gone}
use Rattle.nb_owner.proofs.WaitLaws.{files_open, open_settled}
use Rattle.nb_base.specs.Stays.{KeepsFile, EndsWithin, HasAfterFirst}
use Rattle.nb_owner.proofs.pair.Pair.end_files.Goals as goal

pub returns-in_err-end-clause-takes : goal.returns-in_err-end-clause-takes
returns-in_err-end-clause-takes g c t tells given =
    let old = g.H.Host.world c.args.host.now in
    let new = g.H.Host.world c.end.new.host in
    let is = subst (λ (h : Held). IsOpen old h t) (sym c.self.view_is) given in
    let none = subst (λ (h : Held). NoneWaits h.pages) (sym c.self.view_is) c.requires.none in
    record {
      left = subst (λ (h : Held). Strikes old new h.files.name t (ends ∷ [])) c.self.view_is
          (strikes_left old new c.self.inside.files.name t (ends ∷ []) (c.end.ensures.takes t tells (files_open old (the_view c.self.inside) t none is)).left);
      done = not_done c.from_residual.result _ c.from_residual.ensures.0;
    }

pub drop_page-requires : goal.drop_page-requires
drop_page-requires g c = none_found c.self.inside.cache.pages (subst (λ (h : Held). NoneWaits h.pages) (sym c.self.view_is) c.requires.none) 0

pub invariant_of-self-2 : goal.invariant_of-self-2
invariant_of-self-2 g c =
    let none = subst (λ (h : Held). NoneWaits h.pages) (sym c.self.view_is) c.requires.none in (
      valid_gone c.self.inside.cache c.drop_page.new.self c.self.inside.files.page_size c.end.new.self.page_size c.self.invariant.0 c.end.ensures.page_size c.drop_page.ensures,
      c.self.invariant.1 ∙ sym c.end.ensures.page_size,
      (λ stalled. none_gone c.self.inside.cache c.drop_page.new.self c.self.inside.files.page_size c.self.inside.files.page_size c.self.invariant.0 refl c.drop_page.ensures none),
    )

pub returns-clause-takes : goal.returns-clause-takes
returns-clause-takes g c t tells given =
    let old = g.H.Host.world c.args.host.now in
    let new = g.H.Host.world c.end.new.host in
    let is = subst (λ (h : Held). IsOpen old h t) (sym c.self.view_is) given in
    let none = subst (λ (h : Held). NoneWaits h.pages) (sym c.self.view_is) c.requires.none in
    let takes = c.in_ok-end.ensures.takes t tells (files_open old (the_view c.self.inside) t none is) in
    let gone = gone_behind c.self.inside.cache c.drop_page.new.self c.self.inside.files.page_size c.self.inside.files.page_size c.self.invariant.0 refl c.drop_page.ensures in
    let now : Held = record { files = c.end.new.self; pages = c.drop_page.new.self.pages; cap = c.drop_page.new.self.cap } in
    record {
      left = subst (λ (h : Held). Strikes old new h.files.name t (ends ∷ [])) c.self.view_is
          (strikes_left old new c.self.inside.files.name t (ends ∷ []) takes.left);
      done = open_settled new now (after_stroke (ends) t) (none_gone c.self.inside.cache c.drop_page.new.self c.self.inside.files.page_size c.self.inside.files.page_size c.self.invariant.0 refl c.drop_page.ensures none) takes.done
          (subst (λ (ps : Pages). AreOf (after_stroke (ends) t).base.image ps) (sym gone) (of_ended c.self.inside.cache.pages c.self.invariant.0.once t is.pages));
    }

pub returns-in_err-end-clause-within : goal.returns-in_err-end-clause-within
returns-in_err-end-clause-within g c t tells given most within =
    let old = g.H.Host.world c.args.host.now in
    let new = g.H.Host.world c.end.new.host in
    let is = subst (λ (h : Held). IsOpen old h t) (sym c.self.view_is) given in
    subst (λ (h : Held). KeepsFile old new h.files.name (EndsWithin (most * h.files.page_size))) c.self.view_is (c.end.ensures.within most tells (omega (arith, some_page t.base.image is.agrees.header, within)))

pub returns-clause-within : goal.returns-clause-within
returns-clause-within g c t tells given most within =
    let old = g.H.Host.world c.args.host.now in
    let new = g.H.Host.world c.end.new.host in
    let is = subst (λ (h : Held). IsOpen old h t) (sym c.self.view_is) given in
    subst (λ (h : Held). KeepsFile old new h.files.name (EndsWithin (most * h.files.page_size))) c.self.view_is (c.end.ensures.within most tells (omega (arith, some_page t.base.image is.agrees.header, within)))

pub returns-in_err-end-clause-rest : goal.returns-in_err-end-clause-rest
returns-in_err-end-clause-rest g c t bytes tells given =
    subst (λ (h : Held). KeepsFile (g.H.Host.world c.args.host.now) (g.H.Host.world c.end.new.host) h.files.name (HasAfterFirst h.files.page_size bytes)) c.self.view_is (c.end.ensures.rest bytes tells)

pub returns-clause-rest : goal.returns-clause-rest
returns-clause-rest g c t bytes tells given =
    subst (λ (h : Held). KeepsFile (g.H.Host.world c.args.host.now) (g.H.Host.world c.end.new.host) h.files.name (HasAfterFirst h.files.page_size bytes)) c.self.view_is (c.end.ensures.rest bytes tells)
