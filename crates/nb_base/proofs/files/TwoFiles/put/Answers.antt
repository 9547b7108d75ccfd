use Rattle.std.proofs.Common.{◌≡◌, ◌*◌, length, refl, sym, subst, ap, ◌∙◌}
use Rattle.nb_base.proofs.Common.{true≢false, on_ok_weaker, Known, noted, Held, IsOpen, AreMerged, noted_in, WritesIn, the_view}
use Rattle.nb_base.proofs.AgreeLaws.{open_seen, takes_named}
use Rattle.nb_base.proofs.TouchLaws.{delta_in}
use Rattle.nb_base.proofs.WriteLaws.{takes_passed, takes_done, seen_table, no_entries}
use Rattle.nb_base.specs.Stays.{KeepsFile, EndsWithin}
use Rattle.nb_base.proofs.StaysLaws.{frozen_keeps, keeps_sized}
use Rattle.nb_base.proofs.files.TwoFiles.put.Goals as goal

pub returns-in_err-write_plain-clause-takes : goal.returns-in_err-write_plain-clause-takes
returns-in_err-write_plain-clause-takes g c t tells open_ is must =
    let old = g.H.Host.world c.args.host.now in
    let new = g.H.Host.world c.write_plain.new.host in
    let o = subst (λ (h : Held). IsOpen old h t) (sym c.self.view_is) open_ in
    takes_named c.from_residual.result old new _ _ t _ c.self.view_is
    (takes_passed c.write_plain.result c.from_residual.result old old new c.self.inside.name _ _ t _ refl
    (c.write_plain.ensures.takes t tells (open_seen old _ t o) is (λ e. true≢false (sym (c.is_diverted.ensures.1 (o.agrees.state ∙ e)) ∙ c.if-is_diverted.false)) (sym o.agrees.entries) c.self.invariant.5 must)
    c.from_residual.ensures.0)

pub returns-then-is_diverted-clause-takes : goal.returns-then-is_diverted-clause-takes
returns-then-is_diverted-clause-takes g c t tells open_ is must =
    let old = g.H.Host.world c.args.host.now in
    let new = g.H.Host.world c.write_stalled.new.host in
    let o = subst (λ (h : Held). IsOpen old h t) (sym c.self.view_is) open_ in
    takes_named c.write_stalled.result old new _ _ t _ c.self.view_is
    (c.write_stalled.ensures.takes t c.self.inside.name tells (open_seen old _ t o) is (sym o.agrees.state ∙ c.is_diverted.ensures.0 c.if-is_diverted.true) (sym o.agrees.entries) c.self.invariant.5 must)

pub returns-then-is_diverted-clause-known : goal.returns-then-is_diverted-clause-known
returns-then-is_diverted-clause-known g c =
    let stalled = c.is_diverted.ensures.0 c.if-is_diverted.true in
    on_ok_weaker c.write_stalled.result
    (λ (known : c.write_stalled.new.delta ≡ record c.self.inside.delta { entries = noted c.args.number c.self.inside.delta.entries }).
    ap (λ (d : Known). record { name = c.self.inside.name; page_size = d.page_size; state = c.self.inside.state; forced = c.self.inside.forced; count = c.self.inside.count; main_count = c.self.inside.main_count; entries = d.entries; drafted = d.drafted }) known
    ∙ ap (λ n. record (the_view c.self.inside) { entries = noted_in n c.args.number c.self.inside.delta.entries }) (sym stalled)
    ∙ ap (λ (h : Held). record h { entries = noted_in h.state c.args.number h.entries }) c.self.view_is)
    c.write_stalled.ensures.known

pub returns-in_ok-write_plain-clause-takes : goal.returns-in_ok-write_plain-clause-takes
returns-in_ok-write_plain-clause-takes g c t tells open_ is must =
    let old = g.H.Host.world c.args.host.now in
    let new = g.H.Host.world c.write_plain.new.host in
    let o = subst (λ (h : Held). IsOpen old h t) (sym c.self.view_is) open_ in
    takes_named _ old new _ _ t _ c.self.view_is
    (takes_done _ _ old old new c.self.inside.name _ t _ refl
    (c.in_ok-write_plain.ensures.takes t tells (open_seen old _ t o) is (λ e. true≢false (sym (c.is_diverted.ensures.1 (o.agrees.state ∙ e)) ∙ c.if-is_diverted.false)) (sym o.agrees.entries) c.self.invariant.5 must))

pub returns-in_ok-write_plain-clause-merged : goal.returns-in_ok-write_plain-clause-merged
returns-in_ok-write_plain-clause-merged g c t k tells open_ is merges merged =
    let old = g.H.Host.world c.args.host.now in
    let new = g.H.Host.world c.write_plain.new.host in
    let o = subst (λ (h : Held). IsOpen old h t) (sym c.self.view_is) open_ in
    let state = ap (λ (h : Held). h.state) c.self.view_is ∙ merges in
    subst (λ (h : Held). AreMerged new h k) c.self.view_is
    (c.in_ok-write_plain.ensures.merged t _ k tells (open_seen old _ t o) is (sym o.agrees.state ∙ state) (sym o.agrees.entries) refl refl c.self.invariant.5 refl
    (subst (λ (h : Held). AreMerged old h k) (sym c.self.view_is) merged))

pub returns-then-is_diverted-clause-touches : goal.returns-then-is_diverted-clause-touches
returns-then-is_diverted-clause-touches g c t tells open_ =
    let old = g.H.Host.world c.args.host.now in
    let new = g.H.Host.world c.write_stalled.new.host in
    let o = subst (λ (h : Held). IsOpen old h t) (sym c.self.view_is) open_ in
    let stalled = c.is_diverted.ensures.0 c.if-is_diverted.true in
    subst (λ (h : Held). WritesIn old new h.state h.name) c.self.view_is
    (delta_in old new c.self.inside.state c.self.inside.name c.self.inside.delta.name stalled c.self.invariant.5
    (c.write_stalled.ensures.touches tells (seen_table c.self.inside.name t old (open_seen old _ t o) (sym o.agrees.state ∙ stalled) _ _ _ c.self.invariant.5 o.agrees.page_size (sym o.agrees.entries))))

pub returns-in_err-write_plain-clause-touches : goal.returns-in_err-write_plain-clause-touches
returns-in_err-write_plain-clause-touches g c t tells open_ =
    let old = g.H.Host.world c.args.host.now in
    let new = g.H.Host.world c.write_plain.new.host in
    let o = subst (λ (h : Held). IsOpen old h t) (sym c.self.view_is) open_ in
    subst (λ (h : Held). WritesIn old new h.state h.name) c.self.view_is
    (c.write_plain.ensures.touches tells (λ normal. o.agrees.entries ∙ no_entries c.self.inside.name t old (open_seen old _ t o) (sym o.agrees.state ∙ normal)) c.self.invariant.5)

pub returns-in_ok-write_plain-clause-touches : goal.returns-in_ok-write_plain-clause-touches
returns-in_ok-write_plain-clause-touches g c t tells open_ =
    let old = g.H.Host.world c.args.host.now in
    let new = g.H.Host.world c.write_plain.new.host in
    let o = subst (λ (h : Held). IsOpen old h t) (sym c.self.view_is) open_ in
    subst (λ (h : Held). WritesIn old new h.state h.name) c.self.view_is
    (c.write_plain.ensures.touches tells (λ normal. o.agrees.entries ∙ no_entries c.self.inside.name t old (open_seen old _ t o) (sym o.agrees.state ∙ normal)) c.self.invariant.5)

pub returns-then-is_diverted-clause-within : goal.returns-then-is_diverted-clause-within
returns-then-is_diverted-clause-within g c t most tells open_ low =
    let old = g.H.Host.world c.args.host.now in
    let new = g.H.Host.world c.write_stalled.new.host in
    let o = subst (λ (h : Held). IsOpen old h t) (sym c.self.view_is) open_ in
    let stalled = c.is_diverted.ensures.0 c.if-is_diverted.true in
    subst (λ (h : Held). KeepsFile old new h.name (EndsWithin (most * h.page_size))) c.self.view_is
    (frozen_keeps old new c.self.inside.state c.self.inside.name _ stalled
    (delta_in old new c.self.inside.state c.self.inside.name c.self.inside.delta.name stalled c.self.invariant.5
    (c.write_stalled.ensures.touches tells (seen_table c.self.inside.name t old (open_seen old _ t o) (sym o.agrees.state ∙ stalled) _ _ _ c.self.invariant.5 o.agrees.page_size (sym o.agrees.entries)))))

pub returns-in_err-write_plain-clause-within : goal.returns-in_err-write_plain-clause-within
returns-in_err-write_plain-clause-within g c t most tells open_ low =
    let old = g.H.Host.world c.args.host.now in
    let new = g.H.Host.world c.write_plain.new.host in
    keeps_sized old new c.args.self.now.name most _ _ c.requires.size
    (subst (λ (h : Held). KeepsFile old new h.name (EndsWithin (most * length c.args.page.now))) c.self.view_is (c.write_plain.ensures.within most tells c.self.invariant.5 low))

pub returns-in_ok-write_plain-clause-within : goal.returns-in_ok-write_plain-clause-within
returns-in_ok-write_plain-clause-within g c t most tells open_ low =
    let old = g.H.Host.world c.args.host.now in
    let new = g.H.Host.world c.write_plain.new.host in
    keeps_sized old new c.args.self.now.name most _ _ c.requires.size
    (subst (λ (h : Held). KeepsFile old new h.name (EndsWithin (most * length c.args.page.now))) c.self.view_is (c.write_plain.ensures.within most tells c.self.invariant.5 low))
