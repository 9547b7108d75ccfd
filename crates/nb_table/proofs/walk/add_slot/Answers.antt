use Rattle.std.proofs.Common.{sym, ap, ◌∙◌, Some, not, min}
use Rattle.nb_table.proofs.Common.{Spot, is_filled, Found, chain_of, used_of, filled_of}
use Rattle.nb_table.proofs.GatherLaws.{walked_of, found_is, free_first, free_more, counted, used_hit, used_miss, used_more_of}
use Rattle.nb_table.proofs.walk.add_slot.Goals as goal
use Rattle.nb_table.proofs.walk.add_slot.Goals.{else-is_none-2-via-then-is_none-2+else-is_in, else-is_none-2-via-else-is_none-2}

pub returns-then-is_none-clause-walked : goal.returns-then-is_none-clause-walked
returns-then-is_none-clause-walked c ss is =
    let s : Spot = record { page = c.args.place.page; slot = c.args.place.slot; bytes = c.args.slot.now } in
    free_first c.args.sought.now ss s c.args.walked.now is (sym c.use_of.ensures ∙ c.if-use_of-eq0.true) (c.is_none.ensures ∙ ap not c.if-is_none.true)

pub returns-else-is_none-clause-walked : goal.returns-else-is_none-clause-walked
returns-else-is_none-clause-walked c ss is =
    let s : Spot = record { page = c.args.place.page; slot = c.args.place.slot; bytes = c.args.slot.now } in
    free_more c.args.sought.now ss s c.args.walked.now is (sym c.use_of.ensures ∙ c.if-use_of-eq0.true) (c.is_none.ensures ∙ ap not c.if-is_none.false)

pub is_in-requires-clause-filled : goal.is_in-requires-clause-filled
is_in-requires-clause-filled c = filled_of (chain_of c.args.sought.now) c.args.slot.now c.requires.form (λ e. c.if-use_of-eq0.false (c.use_of.ensures ∙ e))

pub returns-then-is_in-clause-walked : goal.returns-then-is_in-clause-walked
returns-then-is_in-clause-walked c ss is =
    let s : Spot = record { page = c.args.place.page; slot = c.args.place.slot; bytes = c.args.slot.now } in
    let sought = c.args.sought.now in
    let old = c.args.walked.now in
    let one = used_of (chain_of sought) c.args.slot.now c.requires.form (λ e. c.if-use_of-eq0.false (c.use_of.ensures ∙ e)) in
    let many = counted sought ss s old is one c.min-walked.result (c.min-walked.ensures ∙ ap (min 12) c.saturating_add.ensures) in
    ap (λ (f : Found). walked_of (Some f) old.room c.min-walked.result) (found_is c.found.result c.args.place c.args.slot.now c.found.ensures.place c.found.ensures.bytes)
    ∙ used_hit sought ss s old is one c.min-walked.result many (c.is_none-2.ensures ∙ ap not c.if-is_none-2.true) (sym c.is_in.ensures ∙ c.if-is_in.true)

pub returns-then-is_in-clause-filled : goal.returns-then-is_in-clause-filled
returns-then-is_in-clause-filled c filled =
    let sought = c.args.sought.now in
    ap (is_filled (chain_of sought)) c.found.ensures.bytes ∙ filled_of (chain_of sought) c.args.slot.now c.requires.form (λ e. c.if-use_of-eq0.false (c.use_of.ensures ∙ e))

pub returns-else-is_none-2-clause-walked : goal.returns-else-is_none-2-clause-walked
returns-else-is_none-2-clause-walked c ss is =
    let s : Spot = record { page = c.args.place.page; slot = c.args.place.slot; bytes = c.args.slot.now } in
    let sought = c.args.sought.now in
    let old = c.args.walked.now in
    let one = used_of (chain_of sought) c.args.slot.now c.requires.form (λ e. c.if-use_of-eq0.false (c.use_of.ensures ∙ e)) in
    let many = counted sought ss s old is one c.min-walked.result (c.min-walked.ensures ∙ ap (min 12) c.saturating_add.ensures) in
    elim c.else-is_none-2.branch [
      | else-is_none-2-via-then-is_none-2+else-is_in w ↦ used_miss sought ss s old is one c.min-walked.result many (sym w.is_in.ensures ∙ w.if-is_in.false)
      | else-is_none-2-via-else-is_none-2 w ↦ used_more_of sought ss s old is one c.min-walked.result many (c.is_none-2.ensures ∙ ap not w.if-is_none-2.false)
    ]
