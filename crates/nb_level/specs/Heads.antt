-- The head of a level file, as the program has it.
use Rattle.nb_model.specs.Levels.{Head}
use Rattle.nb_level.specs.declared.head.LevelHead.{LevelHead}

-- what a head says
abbrev pub head_of : LevelHead → Head
head_of h = record { level = h.level; guid = h.guid; previous = h.previous; size = h.page_size; scn = h.scn; previous_scn = h.previous_scn }
