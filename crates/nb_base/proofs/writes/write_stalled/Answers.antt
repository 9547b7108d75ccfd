use Rattle.std.proofs.Common.{sym, subst, ap, ◌∙◌, arith}
use Rattle.nb_base.proofs.Common.{World, slot_place, Known, HasTable, noted, entry_for, IsSeen}
use Rattle.nb_base.proofs.LeftLaws.{noted-there, noted-new}
use Rattle.nb_base.proofs.PlaceLaws.{slot_answered, none_found, kept_entries, more_entries, kept_more}
use Rattle.nb_base.proofs.TouchLaws.{touched_from}
use Rattle.nb_base.proofs.WriteLaws.{takes_passed, takes_done}
use Rattle.nb_base.proofs.writes.write_stalled.Goals as goal

pub returns-in_err-write_slot-in-Some-clause-takes : goal.returns-in_err-write_slot-in-Some-clause-takes
returns-in_err-write_slot-in-Some-clause-takes g c t name tells seen is stalled entries named must =
    let same = ap g.H.Host.world c.slot_of.ensures.no_call in
    let slot = slot_answered c.slot_of.result c.args.delta.now.page_size c.in-Some.slot c.args.number c.args.delta.now.entries c.in_ok-slot.field-0 c.in_ok-slot.was c.slot_of.ensures.slot c.in-Some.is in
    takes_passed c.write_slot.result c.from_residual-in_err-write_slot-in-Some.result (g.H.Host.world c.args.host.now) (g.H.Host.world c.slot_of.new._host) (g.H.Host.world c.write_slot.new.host) name _ _ t _ same
    (c.write_slot.ensures.takes t name c.args.number slot.k tells (subst (λ (w : World). IsSeen w name t) (sym same) seen) is (omega (arith, stalled)) (ap (entry_for c.args.number) entries ∙ slot.at)
    (ap (λ (k : Known). k.name) c.slot_of.ensures.same ∙ named) (slot.place ∙ ap (λ (k : Known). slot_place k.page_size slot.k) (sym c.slot_of.ensures.same)) (c.syncs_of-syncs.ensures.slot ∙ must))
    c.from_residual-in_err-write_slot-in-Some.ensures.0

pub returns-in_err-add_entry-in-None-clause-takes : goal.returns-in_err-add_entry-in-None-clause-takes
returns-in_err-add_entry-in-None-clause-takes g c t name tells seen is stalled entries named must =
    let same = ap g.H.Host.world c.slot_of.ensures.no_call in
    takes_passed c.add_entry.result c.from_residual-in_err-add_entry-in-None.result (g.H.Host.world c.args.host.now) (g.H.Host.world c.slot_of.new._host) (g.H.Host.world c.add_entry.new.host) name _ _ t _ same
    (c.add_entry.ensures.takes t name tells (subst (λ (w : World). IsSeen w name t) (sym same) seen) is stalled (entries ∙ ap (λ (k : Known). k.entries) (sym c.slot_of.ensures.same))
    (ap (λ (k : Known). k.name) c.slot_of.ensures.same ∙ named) (c.syncs_of-syncs-in-None.ensures.table ∙ must))
    c.from_residual-in_err-add_entry-in-None.ensures.0

pub returns-in_ok-write_slot-in-Some-clause-takes : goal.returns-in_ok-write_slot-in-Some-clause-takes
returns-in_ok-write_slot-in-Some-clause-takes g c t name tells seen is stalled entries named must =
    let same = ap g.H.Host.world c.slot_of.ensures.no_call in
    let slot = slot_answered c.slot_of.result c.args.delta.now.page_size c.in-Some.slot c.args.number c.args.delta.now.entries c.in_ok-slot.field-0 c.in_ok-slot.was c.slot_of.ensures.slot c.in-Some.is in
    takes_done _ _ (g.H.Host.world c.args.host.now) (g.H.Host.world c.slot_of.new._host) (g.H.Host.world c.write_slot.new.host) name _ t _ same
    (c.in_ok-write_slot-in-Some.ensures.takes t name c.args.number slot.k tells (subst (λ (w : World). IsSeen w name t) (sym same) seen) is (omega (arith, stalled)) (ap (entry_for c.args.number) entries ∙ slot.at)
    (ap (λ (k : Known). k.name) c.slot_of.ensures.same ∙ named) (slot.place ∙ ap (λ (k : Known). slot_place k.page_size slot.k) (sym c.slot_of.ensures.same)) (c.syncs_of-syncs.ensures.slot ∙ must))

pub returns-in_ok-write_slot-in-Some-clause-known : goal.returns-in_ok-write_slot-in-Some-clause-known
returns-in_ok-write_slot-in-Some-clause-known g c =
    let slot = slot_answered c.slot_of.result c.args.delta.now.page_size c.in-Some.slot c.args.number c.args.delta.now.entries c.in_ok-slot.field-0 c.in_ok-slot.was c.slot_of.ensures.slot c.in-Some.is in
    c.write_slot.ensures.same ∙ c.slot_of.ensures.same ∙ kept_entries c.args.delta.now (noted c.args.number c.args.delta.now.entries) (sym (noted-there c.args.number c.args.delta.now.entries slot.k slot.at))

pub returns-in_ok-add_entry-in-None-clause-takes : goal.returns-in_ok-add_entry-in-None-clause-takes
returns-in_ok-add_entry-in-None-clause-takes g c t name tells seen is stalled entries named must =
    let same = ap g.H.Host.world c.slot_of.ensures.no_call in
    takes_done _ _ (g.H.Host.world c.args.host.now) (g.H.Host.world c.slot_of.new._host) (g.H.Host.world c.add_entry.new.host) name _ t _ same
    (c.in_ok-add_entry-in-None.ensures.takes t name tells (subst (λ (w : World). IsSeen w name t) (sym same) seen) is stalled (entries ∙ ap (λ (k : Known). k.entries) (sym c.slot_of.ensures.same))
    (ap (λ (k : Known). k.name) c.slot_of.ensures.same ∙ named) (c.syncs_of-syncs-in-None.ensures.table ∙ must))

pub returns-in_ok-add_entry-in-None-clause-known : goal.returns-in_ok-add_entry-in-None-clause-known
returns-in_ok-add_entry-in-None-clause-known g c =
    c.in_ok-add_entry-in-None.ensures.known ∙ more_entries c.slot_of.new.self c.args.delta.now c.args.number c.slot_of.ensures.same
    ∙ kept_more c.args.delta.now c.args.number (noted-new c.args.number c.args.delta.now.entries (none_found c.args.number c.args.delta.now.entries (c.in_ok-slot.ensures.none c.in-None.is)))

pub returns-in_err-write_slot-in-Some-clause-touches : goal.returns-in_err-write_slot-in-Some-clause-touches
returns-in_err-write_slot-in-Some-clause-touches g c tells table =
    let slot = slot_answered c.slot_of.result c.args.delta.now.page_size c.in-Some.slot c.args.number c.args.delta.now.entries c.in_ok-slot.field-0 c.in_ok-slot.was c.slot_of.ensures.slot c.in-Some.is in
    touched_from (g.H.Host.world c.args.host.now) (g.H.Host.world c.slot_of.new._host) (g.H.Host.world c.write_slot.new.host) _ _ (ap g.H.Host.world c.slot_of.ensures.no_call) (ap (λ (k : Known). k.name) c.slot_of.ensures.same)
    (c.write_slot.ensures.touches tells slot.k (slot.place ∙ ap (λ (k : Known). slot_place k.page_size slot.k) (sym c.slot_of.ensures.same)))

pub returns-in_ok-write_slot-in-Some-clause-touches : goal.returns-in_ok-write_slot-in-Some-clause-touches
returns-in_ok-write_slot-in-Some-clause-touches g c tells table =
    let slot = slot_answered c.slot_of.result c.args.delta.now.page_size c.in-Some.slot c.args.number c.args.delta.now.entries c.in_ok-slot.field-0 c.in_ok-slot.was c.slot_of.ensures.slot c.in-Some.is in
    touched_from (g.H.Host.world c.args.host.now) (g.H.Host.world c.slot_of.new._host) (g.H.Host.world c.write_slot.new.host) _ _ (ap g.H.Host.world c.slot_of.ensures.no_call) (ap (λ (k : Known). k.name) c.slot_of.ensures.same)
    (c.write_slot.ensures.touches tells slot.k (slot.place ∙ ap (λ (k : Known). slot_place k.page_size slot.k) (sym c.slot_of.ensures.same)))

pub returns-in_err-add_entry-in-None-clause-touches : goal.returns-in_err-add_entry-in-None-clause-touches
returns-in_err-add_entry-in-None-clause-touches g c tells table =
    let same = ap g.H.Host.world c.slot_of.ensures.no_call in
    touched_from (g.H.Host.world c.args.host.now) (g.H.Host.world c.slot_of.new._host) (g.H.Host.world c.add_entry.new.host) _ _ same (ap (λ (k : Known). k.name) c.slot_of.ensures.same)
    (c.add_entry.ensures.touches tells
    (subst (λ (w : World). HasTable c.slot_of.new.self.page_size (w.files c.slot_of.new.self.name) c.slot_of.new.self.entries) (sym same)
    (subst (λ (k : Known). HasTable k.page_size ((g.H.Host.world c.args.host.now).files k.name) k.entries) (sym c.slot_of.ensures.same) table)))

pub returns-in_ok-add_entry-in-None-clause-touches : goal.returns-in_ok-add_entry-in-None-clause-touches
returns-in_ok-add_entry-in-None-clause-touches g c tells table =
    let same = ap g.H.Host.world c.slot_of.ensures.no_call in
    touched_from (g.H.Host.world c.args.host.now) (g.H.Host.world c.slot_of.new._host) (g.H.Host.world c.add_entry.new.host) _ _ same (ap (λ (k : Known). k.name) c.slot_of.ensures.same)
    (c.add_entry.ensures.touches tells
    (subst (λ (w : World). HasTable c.slot_of.new.self.page_size (w.files c.slot_of.new.self.name) c.slot_of.new.self.entries) (sym same)
    (subst (λ (k : Known). HasTable k.page_size ((g.H.Host.world c.args.host.now).files k.name) k.entries) (sym c.slot_of.ensures.same) table)))
