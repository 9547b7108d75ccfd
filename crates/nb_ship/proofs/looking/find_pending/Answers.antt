use Rattle.std.proofs.Common.{◌≡◌, sym, ap, ◌∙◌, not, ◌||◌, Bool, true, false}
use Rattle.nb_ship.proofs.Common.{Files, same_name, head_of, read_in, or_from}
use Rattle.nb_ship.proofs.ReadLaws.{another, pending_by, some_head}
use Rattle.nb_ship.proofs.looking.find_pending.Goals.{then-ne-via-then-ne, then-ne-via-else-ne+then-ne-2}
use Rattle.nb_ship.proofs.looking.find_pending.Goals as goal

pub returns-then-ne-clause-answer : goal.returns-then-ne-clause-answer
returns-then-ne-clause-answer g c tells bytes same =
    let files : Files = (g.H.Host.world c.args.host.now).files in
    let header = c.args.standby.now in
    let head = c.in-Some.head in
    let is = some_head _ c.in_ok-head.field-0 head c.in-Some.is (c.in_ok-head.ensures.answer tells) in
    let other : Bool = not (same_name header.guid head.previous) in
    let test : another header (head_of head) ≡ true = elim c.then-ne.branch [
      | then-ne-via-then-ne w ↦ ap (λ (t : Bool). t || other) (sym c.ne.ensures ∙ w.if-ne.true)
      | then-ne-via-else-ne+then-ne-2 w ↦ ap (λ (t : Bool). t || other) (sym c.ne.ensures ∙ w.if-ne.false) ∙ sym w.ne-else-ne.ensures ∙ w.if-ne-2.true
    ] in
    pending_by bytes (read_in files c.args.ship.now) header head true same is test

pub returns-clause-answer : goal.returns-clause-answer
returns-clause-answer g c tells bytes same =
    let files : Files = (g.H.Host.world c.args.host.now).files in
    let header = c.args.standby.now in
    let head = c.in-Some.head in
    let is = some_head _ c.in_ok-head.field-0 head c.in-Some.is (c.in_ok-head.ensures.answer tells) in
    pending_by bytes (read_in files c.args.ship.now) header head false same is (or_from _ _ (sym c.ne.ensures ∙ c.if-ne.false) (sym c.ne-else-ne.ensures ∙ c.if-ne-2.false))
