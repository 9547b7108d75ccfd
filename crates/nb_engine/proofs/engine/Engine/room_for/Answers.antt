use Rattle.std.proofs.Common.{ℕ, sym, ap, ◌∙◌, arith, Some}
use Rattle.nb_engine.proofs.Common.{NotDatabase, second_data, new_of, tested_on, behind_short, behind_long}
use Rattle.nb_engine.proofs.NewTurn.{ready_of, count_of}
use Rattle.nb_engine.proofs.engine.Engine.room_for.Goals as goal

pub returns-then-count-lt-FIRST_TO_GIVE-clause-one : goal.returns-then-count-lt-FIRST_TO_GIVE-clause-one
returns-then-count-lt-FIRST_TO_GIVE-clause-one g c t first tells is short is_data count_is =
    let count = count_of _ _ _ t c.count-count.result c.self.view_is is c.count-count.ensures.value in
    behind_short t.base.image (new_of 5 first t.base.image).0 c.args.behind (omega (arith, count, c.if-count-lt-FIRST_TO_GIVE.true)) ∙ ap (λ (n : ℕ). Some (NotDatabase n)) (sym count)

pub returns-in_err-check_rooms-clause-one : goal.returns-in_err-check_rooms-clause-one
returns-in_err-check_rooms-clause-one g c t first tells is short is_data count_is =
    let ready = ready_of _ _ _ t c.count-count.result c.self.view_is is c.self.invariant.0 c.count-count.ensures.value (omega (arith, c.if-count-lt-FIRST_TO_GIVE.false)) in
    tested_on ℕ (Unit {0}) _ _ _ _ c.from_residual.ensures (λ r e. behind_long t.base.image (new_of 5 first t.base.image).0 c.args.behind ready.1.long ∙ e) (c.in_err-check_rooms.ensures.one t first tells ready.0 ready.1 short is_data count_is)

pub returns-clause-one : goal.returns-clause-one
returns-clause-one g c t first tells is short is_data count_is =
    let ready = ready_of _ _ _ t c.count-count.result c.self.view_is is c.self.invariant.0 c.count-count.ensures.value (omega (arith, c.if-count-lt-FIRST_TO_GIVE.false)) in
    behind_long t.base.image (new_of 5 first t.base.image).0 c.args.behind ready.1.long ∙ c.in_ok-check_rooms.ensures.one t first tells ready.0 ready.1 short is_data count_is

pub returns-then-count-lt-FIRST_TO_GIVE-clause-two : goal.returns-then-count-lt-FIRST_TO_GIVE-clause-two
returns-then-count-lt-FIRST_TO_GIVE-clause-two g c t first second tells is short small is_data count_is =
    let count = count_of _ _ _ t c.count-count.result c.self.view_is is c.count-count.ensures.value in
    behind_short t.base.image (second_data first second t.base.image).0 c.args.behind (omega (arith, count, c.if-count-lt-FIRST_TO_GIVE.true)) ∙ ap (λ (n : ℕ). Some (NotDatabase n)) (sym count)

pub returns-in_err-check_rooms-clause-two : goal.returns-in_err-check_rooms-clause-two
returns-in_err-check_rooms-clause-two g c t first second tells is short small is_data count_is =
    let ready = ready_of _ _ _ t c.count-count.result c.self.view_is is c.self.invariant.0 c.count-count.ensures.value (omega (arith, c.if-count-lt-FIRST_TO_GIVE.false)) in
    tested_on ℕ (Unit {0}) _ _ _ _ c.from_residual.ensures (λ r e. behind_long t.base.image (second_data first second t.base.image).0 c.args.behind ready.1.long ∙ e) (c.in_err-check_rooms.ensures.two t first second tells ready.0 ready.1 short small is_data count_is)

pub returns-clause-two : goal.returns-clause-two
returns-clause-two g c t first second tells is short small is_data count_is =
    let ready = ready_of _ _ _ t c.count-count.result c.self.view_is is c.self.invariant.0 c.count-count.ensures.value (omega (arith, c.if-count-lt-FIRST_TO_GIVE.false)) in
    behind_long t.base.image (second_data first second t.base.image).0 c.args.behind ready.1.long ∙ c.in_ok-check_rooms.ensures.two t first second tells ready.0 ready.1 short small is_data count_is

pub returns-clause-still : goal.returns-clause-still
returns-clause-still g c t first tells is short is_data count_is =
    let ready = ready_of _ _ _ t c.count-count.result c.self.view_is is c.self.invariant.0 c.count-count.ensures.value (omega (arith, c.if-count-lt-FIRST_TO_GIVE.false)) in
    c.in_ok-check_rooms.ensures.still t first tells ready.0 ready.1 short is_data count_is
