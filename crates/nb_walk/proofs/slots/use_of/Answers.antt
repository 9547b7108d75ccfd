use Rattle.std.proofs.Common.{◌∙◌}
use Rattle.nb_walk.proofs.SlotLaws.{byte_at}
use Rattle.nb_walk.proofs.slots.use_of.Goals as goal

pub returns : goal.returns
returns c = c.get.ensures.value ∙ byte_at 0 c.args.slot.now
