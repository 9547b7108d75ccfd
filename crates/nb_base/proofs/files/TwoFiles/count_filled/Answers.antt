use Rattle.std.proofs.Common.{sym, ap, subst, ◌∙◌}
use Rattle.nb_base.proofs.Common.{Known, entry_for, Held, IsOpen, the_view}
use Rattle.nb_base.proofs.FilledLaws.{none_cut}
use Rattle.nb_base.proofs.PlaceLaws.{none_found}
use Rattle.nb_base.proofs.files.TwoFiles.count_filled.Goals as goal

pub returns-in_ok-count-in-Some-clause-count : goal.returns-in_ok-count-in-Some-clause-count
returns-in_ok-count-in-Some-clause-count g c t tells given =
    let is = subst (λ (h : Held). IsOpen (g.H.Host.world c.args.host.now) h t) (sym c.self.view_is) given in
    let here = subst (λ (h : _). IsOpen (g.H.Host.world h) (the_view c.self.inside) t) (sym c.slot_of.ensures.no_call) is in
    let same = ap (λ (d : Known). record { name = c.self.inside.name; page_size = d.page_size; state = c.self.inside.state; forced = c.self.inside.forced; count = c.self.inside.count; main_count = c.self.inside.main_count; entries = d.entries; drafted = d.drafted }) (sym c.slot_of.ensures.same) in
    c.in_ok-count-in-Some.ensures.count t tells (subst (λ (h : Held). IsOpen (g.H.Host.world c.slot_of.new._host) h t) same here)

pub returns-in-None-clause-count : goal.returns-in-None-clause-count
returns-in-None-clause-count g c t tells given =
    let old = g.H.Host.world c.args.host.now in
    let is = subst (λ (h : Held). IsOpen old h t) (sym c.self.view_is) given in
    none_cut old (the_view c.self.inside) t is
    (ap (λ n. entry_for n c.self.inside.delta.entries) (sym c.saturating_sub.ensures) ∙ none_found _ c.self.inside.delta.entries (c.in_ok-slot_of.ensures.none c.in-None.is))
