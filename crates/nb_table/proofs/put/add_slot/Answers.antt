use Rattle.std.proofs.Common.{ℕ, List, sym, ◌∙◌, Ok, Err}
use Rattle.nb_table.proofs.Common.{drafted, found_pages, place_slot, Tries, tries_passed, place_cause}
use Rattle.nb_table.proofs.PlaceLaws.{place_kind, there_tries, behind_tries, last_is_data}
use Rattle.nb_table.proofs.put.add_slot.Goals as goal

pub returns-in-Some-clause-tries : goal.returns-in-Some-clause-tries
returns-in-Some-clause-tries g c t chain tells is owner formed room last =
    let bytes : List ℕ = c.args.bytes.now in
    let free = sym c.in-Some.is ∙ room in
    there_tries t.base.image chain formed bytes c.in-Some.place free c.put_slot.result _ _ _ _ t (c.put_slot.ensures.tries t tells is (place_kind t.base.image chain formed bytes c.in-Some.place free))

pub returns-in_err-data_grow-in-None-clause-tries : goal.returns-in_err-data_grow-in-None-clause-tries
returns-in_err-data_grow-in-None-clause-tries g c t chain tells is owner formed room last =
    let image = t.base.image in
    let bytes : List ℕ = c.args.bytes.now in
    let pages : List ℕ = found_pages chain image in
    let fault = c.in_err-data_grow-in-None.field-0.0 in
    tries_passed c.from_residual.result fault (λ r. Tries r (g.H.Host.world c.args.host.now) (g.H.Host.world c.data_grow.new.host) c.args.engine.now c.data_grow.new.self t (place_cause chain image bytes) (place_slot chain pages bytes (drafted image)).strokes) c.from_residual.ensures
    (behind_tries image chain formed bytes (sym c.in-None.is ∙ room) (Err fault) _ _ _ _ t (c.in_err-data_grow-in-None.ensures.makes t chain pages tells is owner last (last_is_data chain image formed c.args.last last)))

pub returns-in_ok-data_grow-in-None-clause-tries : goal.returns-in_ok-data_grow-in-None-clause-tries
returns-in_ok-data_grow-in-None-clause-tries g c t chain tells is owner formed room last =
    let image = t.base.image in
    let bytes : List ℕ = c.args.bytes.now in
    behind_tries image chain formed bytes (sym c.in-None.is ∙ room) (Ok c.in_ok-data_grow-in-None.field-0) _ _ _ _ t
    (c.in_ok-data_grow-in-None.ensures.makes t chain (found_pages chain image) tells is owner last (last_is_data chain image formed c.args.last last))
