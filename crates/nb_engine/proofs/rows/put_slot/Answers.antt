use Rattle.std.proofs.Common.{◌+◌, ◌-◌, ◌*◌, ℕ, List, length, ap, ◌∙◌, arith}
use Rattle.nb_engine.proofs.Common.{put_mid, put_mid-with_part, backup_slot}
use Rattle.nb_engine.proofs.rows.put_slot.Goals as goal

pub returns : goal.returns
returns c =
    let row = c.args.row.now in
    let at : ℕ = 32 + 256 * c.args.number in
    let bytes : List ℕ = backup_slot row.level row.scn row.time row.guid row.name in
    ap (λ (xs : List ℕ). put_mid at (at + 256 - at) c.args.page.now xs) c.put_row.ensures
    ∙ put_mid-with_part at (at + 256 - at) bytes c.args.page.now (omega (arith, ap length c.put_row.ensures, c.put_row.auto.slot))
