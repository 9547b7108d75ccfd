use Rattle.std.proofs.Common.{◌*◌, [], ◌∷◌, refl, ap, sym, subst, ◌∙◌}
use Rattle.nb_owner.proofs.Common.{page, after_stroke, Strikes, WritesIn, strikes_left, not_done, NoneWaits, rank_of, Held, Pages, IsOpen, AreOf, bare, used, the_view}
use Rattle.nb_owner.proofs.OpenLaws.{of_written, none_dropped, none_waits_kept, kept_pages, valid_kept, bare_put}
use Rattle.nb_owner.proofs.WaitLaws.{files_open, open_settled}
use Rattle.nb_base.specs.Stays.{KeepsFile, EndsWithin}
use Rattle.nb_base.proofs.StaysLaws.{written_within}
use Rattle.nb_owner.proofs.pair.Pair.write_through.Goals as goal

pub returns-in_err-write-clause-takes : goal.returns-in_err-write-clause-takes
returns-in_err-write-clause-takes g c t tells given fits =
    let old = g.H.Host.world c.args.host.now in
    let new = g.H.Host.world c.write.new.host in
    let is = subst (λ (h : Held). IsOpen old h t) (sym c.self.view_is) given in
    let none = subst (λ (h : Held). NoneWaits h.pages) (sym c.self.view_is) c.requires.none in
    record {
      left = subst (λ (h : Held). Strikes old new h.files.name t (page c.args.number c.args.page.now ∷ [])) c.self.view_is
          (strikes_left old new c.self.inside.files.name t (page c.args.number c.args.page.now ∷ []) (c.write.ensures.takes t tells (files_open old (the_view c.self.inside) t none is) fits).left);
      done = not_done c.from_residual.result _ c.from_residual.ensures.0;
    }

pub keep-requires-clause-drops_none : goal.keep-requires-clause-drops_none
keep-requires-clause-drops_none g c = none_dropped c.self.inside.cache c.args.number (subst (λ (h : Held). NoneWaits h.pages) (sym c.self.view_is) c.requires.none)

pub invariant_of-self-2 : goal.invariant_of-self-2
invariant_of-self-2 g c =
    let none = subst (λ (h : Held). NoneWaits h.pages) (sym c.self.view_is) c.requires.none in (
      valid_kept c.self.inside.cache c.keep.new.self c.self.inside.files.page_size c.write.new.self.page_size c.self.invariant.0 c.write.ensures.page_size c.args.number _ c.keep.ensures,
      c.self.invariant.1 ∙ sym c.write.ensures.page_size,
      (λ stalled. subst (λ (ps : Pages). NoneWaits ps) (sym (kept_pages c.self.inside.cache c.keep.new.self c.self.inside.files.page_size c.self.inside.files.page_size c.self.invariant.0 refl c.args.number _ c.keep.ensures))
          (none_waits_kept c.self.inside.cache.pages c.self.invariant.0.once c.self.inside.cache.cap c.args.number c.args.page.now none)),
    )

pub returns-clause-takes : goal.returns-clause-takes
returns-clause-takes g c t tells given fits =
    let old = g.H.Host.world c.args.host.now in
    let new = g.H.Host.world c.write.new.host in
    let is = subst (λ (h : Held). IsOpen old h t) (sym c.self.view_is) given in
    let none = subst (λ (h : Held). NoneWaits h.pages) (sym c.self.view_is) c.requires.none in
    let takes = c.in_ok-write.ensures.takes t tells (files_open old (the_view c.self.inside) t none is) fits in
    let kept = kept_pages c.self.inside.cache c.keep.new.self c.self.inside.files.page_size c.self.inside.files.page_size c.self.invariant.0 refl c.args.number _ c.keep.ensures in
    let now : Held = record { files = c.write.new.self; pages = c.keep.new.self.pages; cap = c.keep.new.self.cap } in
    record {
      left = subst (λ (h : Held). Strikes old new h.files.name t (page c.args.number c.args.page.now ∷ [])) c.self.view_is
          (strikes_left old new c.self.inside.files.name t (page c.args.number c.args.page.now ∷ []) takes.left);
      done = open_settled new now (after_stroke (page c.args.number c.args.page.now) t)
          (subst (λ (ps : Pages). NoneWaits ps) (sym kept) (none_waits_kept c.self.inside.cache.pages c.self.invariant.0.once c.self.inside.cache.cap c.args.number c.args.page.now none)) takes.done
          (subst (λ (ps : Pages). AreOf (after_stroke (page c.args.number c.args.page.now) t).base.image ps) (sym kept)
          (of_written c.self.inside.cache.pages c.self.invariant.0.once t c.self.inside.cache.cap c.args.number c.args.page.now (rank_of c.self.inside.cache.pages c.args.number) fits is.pages));
    }

pub returns-clause-merged : goal.returns-clause-merged
returns-clause-merged g c t k tells given fits merges merged =
    let old = g.H.Host.world c.args.host.now in
    let is = subst (λ (h : Held). IsOpen old h t) (sym c.self.view_is) given in
    let none = subst (λ (h : Held). NoneWaits h.pages) (sym c.self.view_is) c.requires.none in
    c.in_ok-write.ensures.merged t k tells (files_open old (the_view c.self.inside) t none is) fits (ap (λ (h : Held). h.files.state) c.self.view_is ∙ merges)
    (subst (λ (h : Held). Rattle.nb_base.specs.Open.AreMerged old h.files k) (sym c.self.view_is) merged)

pub returns-clause-used : goal.returns-clause-used
returns-clause-used g c =
    ap (λ (ps : Pages). bare ps) (kept_pages c.self.inside.cache c.keep.new.self c.self.inside.files.page_size c.self.inside.files.page_size c.self.invariant.0 refl c.args.number _ c.keep.ensures)
    ∙ bare_put c.args.number c.self.inside.cache.cap (record { bytes = c.args.page.now; rank = rank_of c.self.inside.cache.pages c.args.number }) c.self.inside.cache.pages
    ∙ ap (λ (h : Held). used (bare h.pages) h.cap c.args.number c.args.page.now) c.self.view_is

pub returns-clause-none : goal.returns-clause-none
returns-clause-none g c =
    let none = subst (λ (h : Held). NoneWaits h.pages) (sym c.self.view_is) c.requires.none in
    subst (λ (ps : Pages). NoneWaits ps) (sym (kept_pages c.self.inside.cache c.keep.new.self c.self.inside.files.page_size c.self.inside.files.page_size c.self.invariant.0 refl c.args.number _ c.keep.ensures))
    (none_waits_kept c.self.inside.cache.pages c.self.invariant.0.once c.self.inside.cache.cap c.args.number c.args.page.now none)

pub returns-in_err-write-clause-touches : goal.returns-in_err-write-clause-touches
returns-in_err-write-clause-touches g c t tells given =
    let old = g.H.Host.world c.args.host.now in
    let new = g.H.Host.world c.write.new.host in
    let is = subst (λ (h : Held). IsOpen old h t) (sym c.self.view_is) given in
    let none = subst (λ (h : Held). NoneWaits h.pages) (sym c.self.view_is) c.requires.none in
    subst (λ (h : Held). WritesIn old new h.files.state h.files.name) c.self.view_is (c.write.ensures.touches t tells (files_open old (the_view c.self.inside) t none is))

pub returns-clause-touches : goal.returns-clause-touches
returns-clause-touches g c t tells given =
    let old = g.H.Host.world c.args.host.now in
    let new = g.H.Host.world c.write.new.host in
    let is = subst (λ (h : Held). IsOpen old h t) (sym c.self.view_is) given in
    let none = subst (λ (h : Held). NoneWaits h.pages) (sym c.self.view_is) c.requires.none in
    subst (λ (h : Held). WritesIn old new h.files.state h.files.name) c.self.view_is (c.write.ensures.touches t tells (files_open old (the_view c.self.inside) t none is))

pub returns-in_err-write-clause-within : goal.returns-in_err-write-clause-within
returns-in_err-write-clause-within g c t tells given fits most within =
    let old = g.H.Host.world c.args.host.now in
    let new = g.H.Host.world c.write.new.host in
    let is = subst (λ (h : Held). IsOpen old h t) (sym c.self.view_is) given in
    let none = subst (λ (h : Held). NoneWaits h.pages) (sym c.self.view_is) c.requires.none in
    subst (λ (h : Held). KeepsFile old new h.files.name (EndsWithin (most * h.files.page_size))) c.self.view_is (c.write.ensures.within t most tells (files_open old (the_view c.self.inside) t none is) (written_within most t c.args.number c.args.page.now fits.low within))

pub returns-clause-within : goal.returns-clause-within
returns-clause-within g c t tells given fits most within =
    let old = g.H.Host.world c.args.host.now in
    let new = g.H.Host.world c.write.new.host in
    let is = subst (λ (h : Held). IsOpen old h t) (sym c.self.view_is) given in
    let none = subst (λ (h : Held). NoneWaits h.pages) (sym c.self.view_is) c.requires.none in
    subst (λ (h : Held). KeepsFile old new h.files.name (EndsWithin (most * h.files.page_size))) c.self.view_is (c.write.ensures.within t most tells (files_open old (the_view c.self.inside) t none is) (written_within most t c.args.number c.args.page.now fits.low within))
