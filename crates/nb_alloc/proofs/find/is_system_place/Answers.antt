use Rattle.std.proofs.Common.{sym, ◌∙◌}
use Rattle.nb_alloc.proofs.PlaceTests.{system_first, system_second}
use Rattle.nb_alloc.proofs.find.is_system_place.Goals as goal

pub returns-then-is_place : goal.returns-then-is_place
returns-then-is_place c = c.if-is_place.true ∙ system_first c.args.page_size c.args.number (sym c.is_place.ensures.value ∙ c.if-is_place.true)

pub returns-else-is_place : goal.returns-else-is_place
returns-else-is_place c = c.is_place-else-is_place.ensures.value ∙ system_second c.args.page_size c.args.number (sym c.is_place.ensures.value ∙ c.if-is_place.false)
