use Rattle.std.proofs.Common.{arith, ◌*◌, [], ◌∷◌, refl, sym, subst, ◌∙◌}
use Rattle.nb_owner.proofs.Common.{begin, after_stroke, Strikes, strikes_left, not_done, NoneWaits, Held, Pages, IsOpen, AreOf, the_view, some_page}
use Rattle.nb_owner.proofs.RankLaws.{none_found}
use Rattle.nb_owner.proofs.OpenLaws.{of_begun, gone_behind, valid_gone, none_gone}
use Rattle.nb_owner.proofs.WaitLaws.{files_open, open_settled}
use Rattle.nb_base.specs.Stays.{KeepsFile, EndsWithin}
use Rattle.nb_host.specs.Crash.{IsDurable}
use Rattle.nb_owner.proofs.pair.Pair.begin_files.Goals as goal

pub returns-in_err-begin-clause-takes : goal.returns-in_err-begin-clause-takes
returns-in_err-begin-clause-takes g c t ask tells given low =
    let old = g.H.Host.world c.args.host.now in
    let new = g.H.Host.world c.begin.new.host in
    let is = subst (λ (h : Held). IsOpen old h t) (sym c.self.view_is) given in
    let none = subst (λ (h : Held). NoneWaits h.pages) (sym c.self.view_is) c.requires.none in
    record {
      left = subst (λ (h : Held). Strikes old new h.files.name t (begin c.args.guid.now ask ∷ [])) c.self.view_is
          (strikes_left old new c.self.inside.files.name t (begin c.args.guid.now ask ∷ []) (c.begin.ensures.takes t ask tells (files_open old (the_view c.self.inside) t none is) low).left);
      done = not_done c.from_residual.result _ c.from_residual.ensures.0;
    }

pub drop_page-requires : goal.drop_page-requires
drop_page-requires g c = none_found c.self.inside.cache.pages (subst (λ (h : Held). NoneWaits h.pages) (sym c.self.view_is) c.requires.none) 0

pub invariant_of-self-2 : goal.invariant_of-self-2
invariant_of-self-2 g c =
    let none = subst (λ (h : Held). NoneWaits h.pages) (sym c.self.view_is) c.requires.none in (
      valid_gone c.self.inside.cache c.drop_page.new.self c.self.inside.files.page_size c.begin.new.self.page_size c.self.invariant.0 c.begin.ensures.page_size c.drop_page.ensures,
      c.self.invariant.1 ∙ sym c.begin.ensures.page_size,
      (λ stalled. none_gone c.self.inside.cache c.drop_page.new.self c.self.inside.files.page_size c.self.inside.files.page_size c.self.invariant.0 refl c.drop_page.ensures none),
    )

pub returns-clause-takes : goal.returns-clause-takes
returns-clause-takes g c t ask tells given low =
    let old = g.H.Host.world c.args.host.now in
    let new = g.H.Host.world c.begin.new.host in
    let is = subst (λ (h : Held). IsOpen old h t) (sym c.self.view_is) given in
    let none = subst (λ (h : Held). NoneWaits h.pages) (sym c.self.view_is) c.requires.none in
    let takes = c.in_ok-begin.ensures.takes t ask tells (files_open old (the_view c.self.inside) t none is) low in
    let gone = gone_behind c.self.inside.cache c.drop_page.new.self c.self.inside.files.page_size c.self.inside.files.page_size c.self.invariant.0 refl c.drop_page.ensures in
    let now : Held = record { files = c.begin.new.self; pages = c.drop_page.new.self.pages; cap = c.drop_page.new.self.cap } in
    record {
      left = subst (λ (h : Held). Strikes old new h.files.name t (begin c.args.guid.now ask ∷ [])) c.self.view_is
          (strikes_left old new c.self.inside.files.name t (begin c.args.guid.now ask ∷ []) takes.left);
      done = open_settled new now (after_stroke (begin c.args.guid.now ask) t) (none_gone c.self.inside.cache c.drop_page.new.self c.self.inside.files.page_size c.self.inside.files.page_size c.self.invariant.0 refl c.drop_page.ensures none) takes.done
          (subst (λ (ps : Pages). AreOf (after_stroke (begin c.args.guid.now ask) t).base.image ps) (sym gone) (of_begun c.self.inside.cache.pages c.self.invariant.0.once t c.args.guid.now ask is.pages));
    }

pub returns-in_err-begin-clause-within : goal.returns-in_err-begin-clause-within
returns-in_err-begin-clause-within g c t tells given most within =
    let old = g.H.Host.world c.args.host.now in
    let new = g.H.Host.world c.begin.new.host in
    let is = subst (λ (h : Held). IsOpen old h t) (sym c.self.view_is) given in
    subst (λ (h : Held). KeepsFile old new h.files.name (EndsWithin (most * h.files.page_size))) c.self.view_is (c.begin.ensures.within most tells (omega (arith, some_page t.base.image is.agrees.header, within)))

pub returns-clause-within : goal.returns-clause-within
returns-clause-within g c t tells given most within =
    let old = g.H.Host.world c.args.host.now in
    let new = g.H.Host.world c.begin.new.host in
    let is = subst (λ (h : Held). IsOpen old h t) (sym c.self.view_is) given in
    subst (λ (h : Held). KeepsFile old new h.files.name (EndsWithin (most * h.files.page_size))) c.self.view_is (c.begin.ensures.within most tells (omega (arith, some_page t.base.image is.agrees.header, within)))

pub returns-clause-durable : goal.returns-clause-durable
returns-clause-durable g c tells =
    let new = g.H.Host.world c.begin.new.host in subst (λ (h : Held). IsDurable new h.files.name (new.files h.files.name)) c.self.view_is (c.in_ok-begin.ensures.durable tells)
