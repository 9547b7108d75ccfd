use Rattle.std.proofs.Common.{◌≡◌, sym, subst, ap, ◌∙◌}
use Rattle.nb_base.proofs.Common.{Files, bytes_of, slot_place, Known, image_in, delta_name, owned_page}
use Rattle.nb_base.proofs.PlaceLaws.{slot_answered, none_found}
use Rattle.nb_base.proofs.PageReads.{long_enough, first_owned, later_owned, main_owned, got_slot}
use Rattle.nb_base.proofs.reads.read_owned.Goals as goal

pub returns-in_ok-read_front-in-Some-clause-page : goal.returns-in_ok-read_front-in-Some-clause-page
returns-in_ok-read_front-in-Some-clause-page g c bytes tells there formed size named =
    let old = g.H.Host.world c.args.host.now in
    let knows = c.slot_of.ensures.same in
    let known = c.args.delta.now in
    let slot = slot_answered c.slot_of.result known.page_size c.in-Some.slot c.args.number known.entries c.in_ok-slot.field-0 c.in_ok-slot.was c.slot_of.ensures.slot c.in-Some.is in
    let same = ap (λ h. (g.H.Host.world h).files) c.slot_of.ensures.no_call in
    let place = slot.place ∙ ap (λ (k : Known). slot_place k.page_size slot.k) (sym knows) in
    let got = got_slot _ c.args.name.now old.files _ known c.slot_of.new.self slot.k c.read_slot.new.into same knows c.requires.size named (c.in_ok-read_slot-in-Some.ensures.page tells slot.k place) in
    let there_ = ap (λ (f : Files). f c.args.name.now) (c.read_slot.ensures.quiet.still.files ∙ same) ∙ there in
    let front = c.in_ok-read_front-in-Some.ensures.page bytes tells there_ (long_enough bytes formed 0 known.entries known.entries) in
    let zero = c.if-number-eq0.true in
    first_owned bytes formed _ (bytes_of (old.files (delta_name c.args.name.now))) known.entries slot.k (subst (λ n. Rattle.nb_model.specs.Owner.entry_for n known.entries ≡ Rattle.std.proofs.Common.Some slot.k) zero slot.at) _ c.read_slot.new.into got front
    ∙ ap (owned_page _ (image_in bytes) (bytes_of (old.files (delta_name c.args.name.now))) known.entries) (sym zero)

pub returns-else-number-eq0-clause-page : goal.returns-else-number-eq0-clause-page
returns-else-number-eq0-clause-page g c bytes tells there formed size named =
    let old = g.H.Host.world c.args.host.now in
    let knows = c.slot_of.ensures.same in
    let known = c.args.delta.now in
    let slot = slot_answered c.slot_of.result known.page_size c.in-Some.slot c.args.number known.entries c.in_ok-slot.field-0 c.in_ok-slot.was c.slot_of.ensures.slot c.in-Some.is in
    let same = ap (λ h. (g.H.Host.world h).files) c.slot_of.ensures.no_call in
    let place = slot.place ∙ ap (λ (k : Known). slot_place k.page_size slot.k) (sym knows) in
    let got = got_slot _ c.args.name.now old.files _ known c.slot_of.new.self slot.k c.read_slot.new.into same knows c.requires.size named (c.in_ok-read_slot-in-Some.ensures.page tells slot.k place) in
    later_owned bytes formed _ (bytes_of (old.files (delta_name c.args.name.now))) known.entries c.args.number slot.k c.if-number-eq0.false slot.at c.read_slot.new.into got

pub returns-in_ok-read_page-in-None-clause-page : goal.returns-in_ok-read_page-in-None-clause-page
returns-in_ok-read_page-in-None-clause-page g c bytes tells there formed size named =
    let old = g.H.Host.world c.args.host.now in
    let known = c.args.delta.now in
    let same = ap (λ h. (g.H.Host.world h).files) c.slot_of.ensures.no_call in
    let read = c.in_ok-read_page-in-None.ensures.page bytes tells (ap (λ (f : Files). f c.args.name.now) same ∙ there) formed size in
    main_owned bytes formed _ (bytes_of (old.files (delta_name c.args.name.now))) known.entries c.args.number (none_found c.args.number known.entries (c.in_ok-slot.ensures.none c.in-None.is)) c.read_page.new.into read
