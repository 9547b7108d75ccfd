use Rattle.std.proofs.Common.{sym, subst, ap, ◌∙◌}
use Rattle.nb_base.proofs.Common.{on_ok_weaker, World, slot_place, Known, entry_for, AreMerged, IsSeen, WritesIn}
use Rattle.nb_cases.proofs.SyncLaws.{main_if_kept}
use Rattle.nb_base.proofs.MergedLaws.{plain_after}
use Rattle.nb_base.proofs.PlaceLaws.{slot_answered, none_found}
use Rattle.nb_base.proofs.TouchLaws.{main_in, both_in}
use Rattle.nb_base.proofs.WriteLaws.{takes_from, merges_where, none_at}
use Rattle.nb_base.proofs.StaysLaws.{keeps_from}
use Rattle.nb_base.proofs.writes.write_plain.Goals as goal

pub returns-in-Some-clause-takes : goal.returns-in-Some-clause-takes
returns-in-Some-clause-takes g c t tells seen is other entries named must =
    let same = ap g.H.Host.world c.slot_of.ensures.no_call in
    let slot = slot_answered c.slot_of.result c.args.delta.now.page_size c.in-Some.slot c.args.number c.args.delta.now.entries c.in_ok-slot.field-0 c.in_ok-slot.was c.slot_of.ensures.slot c.in-Some.is in
    let at = ap (entry_for c.args.number) entries ∙ slot.at in
    takes_from c.write_both.result (g.H.Host.world c.args.host.now) (g.H.Host.world c.slot_of.new._host) (g.H.Host.world c.write_both.new.host) c.args.name.now _ t _ same
    (c.write_both.ensures.takes t slot.k tells (subst (λ (w : World). IsSeen w c.args.name.now t) (sym same) seen) is (merges_where c.args.name.now t (g.H.Host.world c.args.host.now) seen other c.args.number slot.k at) at
    (ap (λ (k : Known). k.name) c.slot_of.ensures.same ∙ named) (slot.place ∙ ap (λ (k : Known). slot_place k.page_size slot.k) (sym c.slot_of.ensures.same)) (c.syncs_of-syncs.ensures.slot ∙ must))

pub returns-in-None-clause-takes : goal.returns-in-None-clause-takes
returns-in-None-clause-takes g c t tells seen is other entries named must =
    let same = ap g.H.Host.world c.slot_of.ensures.no_call in
    let none = ap (entry_for c.args.number) entries ∙ none_found c.args.number c.args.delta.now.entries (c.in_ok-slot.ensures.none c.in-None.is) in
    takes_from c.write_main.result (g.H.Host.world c.args.host.now) (g.H.Host.world c.slot_of.new._host) (g.H.Host.world c.write_main.new.host) c.args.name.now _ t _ same
    (c.write_main.ensures.takes t tells (subst (λ (w : World). IsSeen w c.args.name.now t) (sym same) seen) is other none (main_if_kept c.args.state c.args.synced _ c.requires.plain c.syncs_of-syncs-in-None.ensures ∙ must))

pub returns-in-Some-clause-merged : goal.returns-in-Some-clause-merged
returns-in-Some-clause-merged g c t held n tells seen is merges entries named sized beside knows merged =
    let same = ap g.H.Host.world c.slot_of.ensures.no_call in
    let slot = slot_answered c.slot_of.result c.args.delta.now.page_size c.in-Some.slot c.args.number c.args.delta.now.entries c.in_ok-slot.field-0 c.in_ok-slot.was c.slot_of.ensures.slot c.in-Some.is in
    c.write_both.ensures.merged t held n slot.k tells (subst (λ (w : World). IsSeen w held.name t) (sym same) seen) is merges entries named
    (sized ∙ ap (λ (k : Known). k.page_size) (sym c.slot_of.ensures.same)) (ap (λ (k : Known). k.name) c.slot_of.ensures.same ∙ beside) (ap (entry_for c.args.number) knows ∙ slot.at)
    (slot.place ∙ ap (λ (k : Known). slot_place k.page_size slot.k) (sym c.slot_of.ensures.same)) (subst (λ (w : World). AreMerged w held n) (sym same) merged)

pub returns-in-None-clause-merged : goal.returns-in-None-clause-merged
returns-in-None-clause-merged g c t held n tells seen is merges entries named sized beside knows merged =
    let same = ap g.H.Host.world c.slot_of.ensures.no_call in
    let none = ap (entry_for c.args.number) knows ∙ none_found c.args.number c.args.delta.now.entries (c.in_ok-slot.ensures.none c.in-None.is) in
    on_ok_weaker c.write_main.result
    (λ put. plain_after (g.H.Host.world c.slot_of.new._host) held t c.args.number c.args.page.now is (subst (λ (w : World). IsSeen w held.name t) (sym same) seen) merges entries c.args.name.now c.args.delta.now.name c.args.delta.now.page_size
    named sized beside c.requires.size c.requires.page (g.H.Host.world c.write_main.new.host) none put n (subst (λ (w : World). AreMerged w held n) (sym same) merged))
    (c.write_main.ensures.put tells)

pub returns-in-Some-clause-touches : goal.returns-in-Some-clause-touches
returns-in-Some-clause-touches g c tells empty named =
    let new = g.H.Host.world c.write_both.new.host in
    let slot = slot_answered c.slot_of.result c.args.delta.now.page_size c.in-Some.slot c.args.number c.args.delta.now.entries c.in_ok-slot.field-0 c.in_ok-slot.was c.slot_of.ensures.slot c.in-Some.is in
    subst (λ (w : World). WritesIn w new c.args.state c.args.name.now) (ap g.H.Host.world c.slot_of.ensures.no_call)
    (both_in (g.H.Host.world c.slot_of.new._host) new c.args.state c.args.name.now (λ normal. none_at c.args.number slot.k c.args.delta.now.entries (empty normal) slot.at) c.requires.plain
    (c.write_both.ensures.touches tells slot.k (ap (λ (k : Known). k.name) c.slot_of.ensures.same ∙ named) (slot.place ∙ ap (λ (k : Known). slot_place k.page_size slot.k) (sym c.slot_of.ensures.same))))

pub returns-in-None-clause-touches : goal.returns-in-None-clause-touches
returns-in-None-clause-touches g c tells empty named =
    let new = g.H.Host.world c.write_main.new.host in
    subst (λ (w : World). WritesIn w new c.args.state c.args.name.now) (ap g.H.Host.world c.slot_of.ensures.no_call)
    (main_in (g.H.Host.world c.slot_of.new._host) new c.args.state c.args.name.now c.requires.plain (c.write_main.ensures.touches tells))

pub returns-in-Some-clause-within : goal.returns-in-Some-clause-within
returns-in-Some-clause-within g c most tells named low =
    let slot = slot_answered c.slot_of.result c.args.delta.now.page_size c.in-Some.slot c.args.number c.args.delta.now.entries c.in_ok-slot.field-0 c.in_ok-slot.was c.slot_of.ensures.slot c.in-Some.is in
    keeps_from _ _ (g.H.Host.world c.write_both.new.host) c.args.name.now _ (ap g.H.Host.world c.slot_of.ensures.no_call)
    (c.write_both.ensures.within most slot.k tells (ap (λ (k : Known). k.name) c.slot_of.ensures.same ∙ named) (slot.place ∙ ap (λ (k : Known). slot_place k.page_size slot.k) (sym c.slot_of.ensures.same)) low)

pub returns-in-None-clause-within : goal.returns-in-None-clause-within
returns-in-None-clause-within g c most tells named low =
    keeps_from _ _ (g.H.Host.world c.write_main.new.host) c.args.name.now _ (ap g.H.Host.world c.slot_of.ensures.no_call) (c.write_main.ensures.within most tells low)
