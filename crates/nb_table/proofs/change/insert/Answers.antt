use Rattle.std.proofs.Common.{◌≡◌, ℕ, List, refl, sym, ◌∙◌, true, false, is_some}
use Rattle.nb_table.proofs.Common.{KeyExists, Done, read_only, too_long, RowsFrom, Slot, found_pages, spots, row_spot, row_slot, place_slot, drafted, Seen, insert_turn, done, seeing, refused_does, tested_does, tries_does, tries_stops, not_passed, tries_after, Rows, rows_cause, place_cause, spot_of}
use Rattle.nb_table.proofs.InTableLaws.{chain_formed_from}
use Rattle.nb_table.proofs.ChangeLaws.{said, key_known, key_new, walked_room, walked_key, insert_refused, insert_goes}
use Rattle.nb_table.proofs.change.insert.Goals as goal

pub returns-in_err-rows-clause-turn : goal.returns-in_err-rows-clause-turn
returns-in_err-rows-clause-turn g c s t tells same is =
    let image = t.base.image in
    let table : List ℕ = c.args.table.now in
    let text : List ℕ = c.args.text.now in
    let found = c.in_err-rows.ensures in
    tested_does Rows (Unit {0}) done _ _ _ _ _ _ t s (λ (x : Seen). insert_turn x table c.args.key text) (rows_cause image (read_only image) table (too_long text)) c.from_residual.ensures same found.looks.same found.looks.quiet is (found.looks.opened t tells is)
    (found.test t tells is) (insert_refused (seeing s t.base) table c.args.key text)

pub returns-then-is_some-clause-turn : goal.returns-then-is_some-clause-turn
returns-then-is_some-clause-turn g c s t tells same is =
    let image = t.base.image in
    let table : List ℕ = c.args.table.now in
    let text : List ℕ = c.args.text.now in
    let key : ℕ = c.args.key in
    let found = c.in_ok-rows.ensures in
    let rows = c.in_ok-rows.rows in
    let bytes : Slot = row_slot key text in
    let known : is_some (row_spot key (spots (RowsFrom rows.first) image)) ≡ true =
    sym (walked_key rows.first key (spots (RowsFrom rows.first) image) rows.walked (found.walked t tells is)) ∙ sym c.is_some.ensures ∙ c.if-is_some.true in
    refused_does done (KeyExists key) _ _ _ _ t s (λ (x : Seen). insert_turn x table key text) same found.looks.same found.looks.quiet is (found.looks.opened t tells is)
    (insert_goes (seeing s t.base) table key text (found.test t tells is) (spot_of rows.table) (found.table t tells is) rows.first found.first bytes refl ∙ key_known (seeing s t.base) (RowsFrom rows.first) key bytes known)

pub returns-clause-turn : goal.returns-clause-turn
returns-clause-turn g c s t tells same is =
    let image = t.base.image in
    let table : List ℕ = c.args.table.now in
    let text : List ℕ = c.args.text.now in
    let key : ℕ = c.args.key in
    let found = c.in_ok-rows.ensures in
    let rows = c.in_ok-rows.rows in
    let chain = RowsFrom rows.first in
    let are = found.walked t tells is in
    let none = found.test t tells is in
    let at = found.table t tells is in
    let bytes : Slot = c.row_bytes-bytes.result in
    let formed = chain_formed_from image (read_only image) table (too_long text) none (spot_of rows.table) at rows.first found.first in
    let new : is_some (row_spot key (spots chain image)) ≡ false = sym (walked_key rows.first key (spots chain image) rows.walked are) ∙ sym c.is_some.ensures ∙ c.if-is_some.false in
    let room = walked_room rows.first key (spots chain image) rows.walked are in
    let turn = insert_goes (seeing s t.base) table key text none (spot_of rows.table) at rows.first found.first bytes c.row_bytes-bytes.ensures ∙ key_new (seeing s t.base) chain key bytes new in
    let into = place_slot chain (found_pages chain image) bytes (drafted image) in
    tries_does done c.add_slot.result _ _ _ _ t s (λ (x : Seen). insert_turn x table key text) (place_cause chain image bytes) Done refl into.strokes same turn (said c.add_slot.result)
    (tries_after c.add_slot.result _ _ _ _ _ _ t (place_cause chain image bytes) into.strokes found.looks.same found.looks.quiet is (c.add_slot.ensures.tries t chain tells (found.looks.opened t tells is) refl formed room (found.last t tells is)))

pub returns-in_err-rows-clause-on_memory : goal.returns-in_err-rows-clause-on_memory
returns-in_err-rows-clause-on_memory g c s t tells same is = not_passed c.from_residual.result c.in_err-rows.field-0.0 _ c.from_residual.ensures c.in_err-rows.ensures.takes_none

pub returns-clause-on_memory : goal.returns-clause-on_memory
returns-clause-on_memory g c s t tells same is =
    let image = t.base.image in
    let table : List ℕ = c.args.table.now in
    let text : List ℕ = c.args.text.now in
    let key : ℕ = c.args.key in
    let found = c.in_ok-rows.ensures in
    let rows = c.in_ok-rows.rows in
    let chain = RowsFrom rows.first in
    let are = found.walked t tells is in
    let none = found.test t tells is in
    let at = found.table t tells is in
    let bytes : Slot = c.row_bytes-bytes.result in
    let formed = chain_formed_from image (read_only image) table (too_long text) none (spot_of rows.table) at rows.first found.first in
    let new : is_some (row_spot key (spots chain image)) ≡ false = sym (walked_key rows.first key (spots chain image) rows.walked are) ∙ sym c.is_some.ensures ∙ c.if-is_some.false in
    let room = walked_room rows.first key (spots chain image) rows.walked are in
    let turn = insert_goes (seeing s t.base) table key text none (spot_of rows.table) at rows.first found.first bytes c.row_bytes-bytes.ensures ∙ key_new (seeing s t.base) chain key bytes new in
    let into = place_slot chain (found_pages chain image) bytes (drafted image) in
    tries_stops c.add_slot.result _ _ _ _ t s (λ (x : Seen). insert_turn x table key text) (place_cause chain image bytes) Done into.strokes same turn
    (tries_after c.add_slot.result _ _ _ _ _ _ t (place_cause chain image bytes) into.strokes found.looks.same found.looks.quiet is (c.add_slot.ensures.tries t chain tells (found.looks.opened t tells is) refl formed room (found.last t tells is)))

pub returns-then-is_some-clause-on_memory : goal.returns-then-is_some-clause-on_memory
returns-then-is_some-clause-on_memory g c s t tells same is = tt
