use Rattle.std.proofs.Common.{sym, ap, subst, ◌∙◌}
use Rattle.nb_base.proofs.Common.{on_ok_weaker, Only, Changes, Known, slot_place, delta_name, entry_for, StandsIn, Held, GoesIn, the_view, none_there}
use Rattle.nb_base.proofs.PlaceLaws.{slot_answered, none_found}
use Rattle.nb_base.proofs.SlotLaws.{slot_changes, slot_puts, slot_left, slot_goes}
use Rattle.nb_base.proofs.files.TwoFiles.put_slot.Goals as goal

pub returns-in-Some-clause-left : goal.returns-in-Some-clause-left
returns-in-Some-clause-left g c f t waits tells given may =
    let old = g.H.Host.world c.args.host.now in
    let new = g.H.Host.world c.rewrite.new.host in
    let goes = subst (λ (h : Held). GoesIn old h f t waits) (sym c.self.view_is) given in
    let slot = slot_answered c.slot_of.result c.self.inside.delta.page_size c.in-Some.slot c.args.number c.self.inside.delta.entries c.in_ok-slot.field-0 c.in_ok-slot.was c.slot_of.ensures.slot c.in-Some.is in
    let changes = slot_changes old _ new c.self.inside.name _ c.self.inside.delta slot.k c.args.page.now (ap g.H.Host.world c.slot_of.ensures.no_call) c.slot_of.ensures.same c.self.invariant.5
    (c.rewrite.ensures.changes tells slot.k (slot.place ∙ ap (λ (d : Known). slot_place d.page_size slot.k) (sym c.slot_of.ensures.same))) in
    subst (λ (h : Held). Changes old new (Only (delta_name h.name)) (StandsIn h.name t)) c.self.view_is
    (slot_left old new (the_view c.self.inside) f t waits goes c.args.number slot.k c.args.page.now may (ap (entry_for c.args.number) (sym goes.agrees.entries) ∙ slot.at) changes (g.met.H.Host.timely c.args.host.now))

pub returns-in-Some-clause-put : goal.returns-in-Some-clause-put
returns-in-Some-clause-put g c f t waits later tells given may as_before =
    let old = g.H.Host.world c.args.host.now in
    let new = g.H.Host.world c.rewrite.new.host in
    let goes = subst (λ (h : Held). GoesIn old h f t waits) (sym c.self.view_is) given in
    let slot = slot_answered c.slot_of.result c.self.inside.delta.page_size c.in-Some.slot c.args.number c.self.inside.delta.entries c.in_ok-slot.field-0 c.in_ok-slot.was c.slot_of.ensures.slot c.in-Some.is in
    let place = slot.place ∙ ap (λ (d : Known). slot_place d.page_size slot.k) (sym c.slot_of.ensures.same) in
    let still = ap g.H.Host.world c.slot_of.ensures.no_call in
    let changes = slot_changes old _ new c.self.inside.name _ c.self.inside.delta slot.k c.args.page.now still c.slot_of.ensures.same c.self.invariant.5 (c.rewrite.ensures.changes tells slot.k place) in
    on_ok_weaker c.rewrite.result
    (λ written. subst (λ (d : Known). let h : Held = record { name = c.self.inside.name; page_size = d.page_size; state = c.self.inside.state; forced = c.self.inside.forced; count = c.self.inside.count; main_count = c.self.inside.main_count; entries = d.entries; drafted = d.drafted } in GoesIn new h f t later)
    (sym (c.rewrite.ensures.same ∙ c.slot_of.ensures.same))
    (slot_goes old new (the_view c.self.inside) f t waits goes c.args.number slot.k c.args.page.now may (ap (entry_for c.args.number) (sym goes.agrees.entries) ∙ slot.at) changes (g.met.H.Host.timely c.args.host.now)
    (slot_puts old _ new c.self.inside.name _ c.self.inside.delta slot.k c.args.page.now still c.slot_of.ensures.same c.self.invariant.5 written) later as_before))
    (c.rewrite.ensures.put tells slot.k place)

pub returns-in-None-clause-left : goal.returns-in-None-clause-left
returns-in-None-clause-left g c f t waits tells given may =
    let goes = subst (λ (h : Held). GoesIn (g.H.Host.world c.args.host.now) h f t waits) (sym c.self.view_is) given in
    absurd (none_there (sym (none_found c.args.number c.self.inside.delta.entries (c.in_ok-slot.ensures.none c.in-None.is)) ∙ ap (entry_for c.args.number) goes.agrees.entries ∙ may.named.1))

pub returns-in-None-clause-put : goal.returns-in-None-clause-put
returns-in-None-clause-put g c f t waits later tells given may as_before =
    let goes = subst (λ (h : Held). GoesIn (g.H.Host.world c.args.host.now) h f t waits) (sym c.self.view_is) given in
    absurd (none_there (sym (none_found c.args.number c.self.inside.delta.entries (c.in_ok-slot.ensures.none c.in-None.is)) ∙ ap (entry_for c.args.number) goes.agrees.entries ∙ may.named.1))
