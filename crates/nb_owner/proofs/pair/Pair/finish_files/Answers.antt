use Rattle.std.proofs.Common.{arith, ◌*◌, [], ◌∷◌, length, refl, ap, sym, subst, ◌∙◌}
use Rattle.nb_owner.proofs.Common.{finish, AreMerged, Strikes, strikes_left, not_done, Held, IsOpen, the_view, some_page}
use Rattle.nb_owner.proofs.RankLaws.{none_found}
use Rattle.nb_owner.proofs.OpenLaws.{valid_gone, none_gone}
use Rattle.nb_owner.proofs.WaitLaws.{files_open}
use Rattle.nb_base.specs.Stays.{KeepsFile, EndsWithin}
use Rattle.nb_owner.proofs.pair.Pair.finish_files.Goals as goal

pub returns-in_err-finish-clause-takes : goal.returns-in_err-finish-clause-takes
returns-in_err-finish-clause-takes g c t tells given merged =
    let old = g.H.Host.world c.args.host.now in
    let new = g.H.Host.world c.finish.new.host in
    let is = subst (λ (h : Held). IsOpen old h t) (sym c.self.view_is) given in
    let none = c.self.invariant.2 (ap (λ (h : Held). h.files.state) c.self.view_is ∙ c.requires.merge) in
    record {
      left = subst (λ (h : Held). Strikes old new h.files.name t (finish ∷ [])) c.self.view_is
          (strikes_left old new c.self.inside.files.name t (finish ∷ []) (c.finish.ensures.takes t tells (files_open old (the_view c.self.inside) t none is) (subst (λ (h : Held). AreMerged old h.files (length h.files.entries)) (sym c.self.view_is) merged)).left);
      done = not_done c.from_residual.result _ c.from_residual.ensures.0;
    }

pub drop_page-requires : goal.drop_page-requires
drop_page-requires g c = none_found c.self.inside.cache.pages (c.self.invariant.2 (ap (λ (h : Held). h.files.state) c.self.view_is ∙ c.requires.merge)) 0

pub invariant_of-self-2 : goal.invariant_of-self-2
invariant_of-self-2 g c =
    let none = c.self.invariant.2 (ap (λ (h : Held). h.files.state) c.self.view_is ∙ c.requires.merge) in (
      valid_gone c.self.inside.cache c.drop_page.new.self c.self.inside.files.page_size c.finish.new.self.page_size c.self.invariant.0 c.finish.ensures.page_size c.drop_page.ensures,
      c.self.invariant.1 ∙ sym c.finish.ensures.page_size,
      (λ stalled. none_gone c.self.inside.cache c.drop_page.new.self c.self.inside.files.page_size c.self.inside.files.page_size c.self.invariant.0 refl c.drop_page.ensures none),
    )

pub returns-clause-takes : goal.returns-clause-takes
returns-clause-takes g c t tells given merged =
    let old = g.H.Host.world c.args.host.now in
    let new = g.H.Host.world c.finish.new.host in
    let is = subst (λ (h : Held). IsOpen old h t) (sym c.self.view_is) given in
    let none = c.self.invariant.2 (ap (λ (h : Held). h.files.state) c.self.view_is ∙ c.requires.merge) in
    let takes = c.in_ok-finish.ensures.takes t tells (files_open old (the_view c.self.inside) t none is) (subst (λ (h : Held). AreMerged old h.files (length h.files.entries)) (sym c.self.view_is) merged) in
    record {
      left = subst (λ (h : Held). Strikes old new h.files.name t (finish ∷ [])) c.self.view_is (strikes_left old new c.self.inside.files.name t (finish ∷ []) takes.left);
      done = takes.done;
    }

pub returns-clause-none : goal.returns-clause-none
returns-clause-none g c =
    let none = c.self.invariant.2 (ap (λ (h : Held). h.files.state) c.self.view_is ∙ c.requires.merge) in
    none_gone c.self.inside.cache c.drop_page.new.self c.self.inside.files.page_size c.self.inside.files.page_size c.self.invariant.0 refl c.drop_page.ensures none

pub returns-in_err-finish-clause-within : goal.returns-in_err-finish-clause-within
returns-in_err-finish-clause-within g c t tells given most within =
    let old = g.H.Host.world c.args.host.now in
    let new = g.H.Host.world c.finish.new.host in
    let is = subst (λ (h : Held). IsOpen old h t) (sym c.self.view_is) given in
    subst (λ (h : Held). KeepsFile old new h.files.name (EndsWithin (most * h.files.page_size))) c.self.view_is (c.finish.ensures.within most tells (omega (arith, some_page t.base.image is.agrees.header, within)))

pub returns-clause-within : goal.returns-clause-within
returns-clause-within g c t tells given most within =
    let old = g.H.Host.world c.args.host.now in
    let new = g.H.Host.world c.finish.new.host in
    let is = subst (λ (h : Held). IsOpen old h t) (sym c.self.view_is) given in
    subst (λ (h : Held). KeepsFile old new h.files.name (EndsWithin (most * h.files.page_size))) c.self.view_is (c.finish.ensures.within most tells (omega (arith, some_page t.base.image is.agrees.header, within)))
