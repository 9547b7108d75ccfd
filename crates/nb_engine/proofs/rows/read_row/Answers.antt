use Rattle.std.proofs.Common.{◌∙◌}
use Rattle.nb_engine.proofs.Common.{byte_at}
use Rattle.nb_engine.proofs.SlotLaws.{row_is}
use Rattle.nb_engine.proofs.rows.read_row.Goals as goal

pub returns-clause-row : goal.returns-clause-row
returns-clause-row c = row_is c.args.slot.now _ _ _ _ _ c.get-time.ensures.value (c.get-level.ensures.value ∙ byte_at 1 c.args.slot.now) c.get-guid.ensures c.get-scn.ensures.value c.in_ok-name.ensures.same
