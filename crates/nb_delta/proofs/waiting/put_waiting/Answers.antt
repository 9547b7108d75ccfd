use Rattle.std.proofs.Common.{◌≡◌, ℕ, ◌*◌, ◌<◌, length, sym, subst, arith}
use Rattle.nb_delta.proofs.Common.{on_ok_weaker, slots_in}
use Rattle.nb_delta.proofs.StepLaws.{some_slots}
use Rattle.nb_delta.proofs.FrontLaws.{groups_inside}
use Rattle.nb_delta.proofs.DraftedLaws.{ready, noted, has_all, zeros}
use Rattle.nb_delta.proofs.waiting.put_waiting.Goals as goal

pub note_all-requires-clause-inside : goal.note_all-requires-clause-inside
note_all-requires-clause-inside g c h low =
    let size : ℕ = length c.args.page.now in
    let same : length c.make_ready.new.page ≡ size = c.make_ready.auto.page in
    subst (λ (n : ℕ). h * slots_in n < length c.args.entries.now) (sym same)
    (groups_inside (slots_in size) (length c.args.entries.now) c.slots_in-room.result c.len-count.result h c.slots_in-room.ensures.value c.len-count.ensures.value (some_slots size c.requires.size) (omega arith) low)

pub returns-in_err-make_ready-clause-changes : goal.returns-in_err-make_ready-clause-changes
returns-in_err-make_ready-clause-changes g c tells table waiting waits =
    ready _ c.slots_in-room.result c.len-count.result _ _ _ _ _ c.requires.size c.slots_in-room.ensures.value c.len-count.ensures.value c.len-count.ensures.apart c.requires.some waits _ _ _ (c.make_ready.ensures.changes tells)

pub returns-clause-changes : goal.returns-clause-changes
returns-clause-changes g c tells table waiting waits =
    noted _ c.slots_in-room.result c.len-count.result _ _ _ _ _ c.requires.size c.slots_in-room.ensures.value c.len-count.ensures.value c.len-count.ensures.apart c.requires.some waits _ _ _ (c.make_ready.ensures.changes tells) _ _
    c.make_ready.auto.page (c.in_ok-make_ready.ensures.emptied tells) (c.in_ok-make_ready.ensures.durable tells) (c.note_all.ensures.changes tells)

pub returns-clause-written : goal.returns-clause-written
returns-clause-written g c tells table waiting waits =
    on_ok_weaker c.note_all.result (has_all _ c.slots_in-room.result c.len-count.result _ _ _ _ _ c.requires.size c.slots_in-room.ensures.value c.len-count.ensures.value c.len-count.ensures.apart c.requires.some waits _ _ _
    c.make_ready.auto.page (c.in_ok-make_ready.ensures.emptied tells)) (c.note_all.ensures.noted tells)

pub returns-clause-zeros : goal.returns-clause-zeros
returns-clause-zeros g c tells table waiting waits =
    on_ok_weaker c.note_all.result (zeros _ c.slots_in-room.result c.len-count.result _ _ _ _ _ c.requires.size c.slots_in-room.ensures.value c.len-count.ensures.value c.len-count.ensures.apart c.requires.some waits _ _ _
    c.make_ready.auto.page (c.in_ok-make_ready.ensures.emptied tells)) (c.note_all.ensures.noted tells)
