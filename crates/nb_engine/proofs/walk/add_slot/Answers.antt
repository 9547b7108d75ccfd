use Rattle.std.proofs.Common.{◌≡◌, ◌≢◌, sym, ap, ◌∙◌, true, Some, not, slice_index}
use Rattle.nb_engine.proofs.Common.{false≢true, eqb-true, History, Slot, Spot, is_slot, used_of, filled_of, HistoryRow, meets}
use Rattle.nb_engine.proofs.SlotLaws.{walked_of, free_first, free_more, used_met, used_other}
use Rattle.nb_engine.proofs.walk.add_slot.Goals as goal

-- the first byte of a slot of the form that isn't free
used_one : (slot : Slot) → is_slot History slot ≡ true → slice_index slot 0 ≢ 0 → slice_index slot 0 ≡ 1
used_one slot form some = eqb-true (slice_index slot 0) 1 (used_of History slot form some)

pub returns-then-is_none-clause-walked : goal.returns-then-is_none-clause-walked
returns-then-is_none-clause-walked c ss is =
    let s : Spot = record { page = c.args.place.page; slot = c.args.place.slot; bytes = c.args.slot.now } in
    free_first c.args.wanted.now ss s c.args.walked.now is (c.is_none.ensures ∙ ap not c.if-is_none.true) (sym c.use_of.ensures ∙ c.if-use_of-eq0.true)

pub returns-else-is_none-clause-walked : goal.returns-else-is_none-clause-walked
returns-else-is_none-clause-walked c ss is =
    let s : Spot = record { page = c.args.place.page; slot = c.args.place.slot; bytes = c.args.slot.now } in
    free_more c.args.wanted.now ss s c.args.walked.now is (c.is_none.ensures ∙ ap not c.if-is_none.false) (sym c.use_of.ensures ∙ c.if-use_of-eq0.true)

pub returns-in_default-clause-walked : goal.returns-in_default-clause-walked
returns-in_default-clause-walked c ss is =
    absurd (false≢true (c.in_default.ensures.exact ∙ filled_of History c.args.slot.now c.requires.form (λ e. c.if-use_of-eq0.false (c.use_of.ensures ∙ e))))

pub returns-then-is_met_by-clause-walked : goal.returns-then-is_met_by-clause-walked
returns-then-is_met_by-clause-walked c ss is =
    let s : Spot = record { page = c.args.place.page; slot = c.args.place.slot; bytes = c.args.slot.now } in
    let one = used_one c.args.slot.now c.requires.form (λ e. c.if-use_of-eq0.false (c.use_of.ensures ∙ e)) in
    ap (λ (r : HistoryRow). walked_of (Some r) c.args.walked.now.room) c.in-Some.ensures.row
    ∙ used_met c.args.wanted.now ss s c.args.walked.now is one (sym (c.is_met_by.ensures ∙ ap (meets c.args.wanted.now) c.in-Some.ensures.row) ∙ c.if-is_met_by.true)

pub returns-else-is_met_by-clause-walked : goal.returns-else-is_met_by-clause-walked
returns-else-is_met_by-clause-walked c ss is =
    let s : Spot = record { page = c.args.place.page; slot = c.args.place.slot; bytes = c.args.slot.now } in
    let one = used_one c.args.slot.now c.requires.form (λ e. c.if-use_of-eq0.false (c.use_of.ensures ∙ e)) in
    used_other c.args.wanted.now ss s c.args.walked.now is one (sym (c.is_met_by.ensures ∙ ap (meets c.args.wanted.now) c.in-Some.ensures.row) ∙ c.if-is_met_by.false)
