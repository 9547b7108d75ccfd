-- What the turns of a copier answer.
use Rattle.std.specs.Prelude.{◌≡◌, ◌+◌, ◌<◌, Bool, true, false, Result, Ok, Err}
use Rattle.nb_host.specs.World.{World}
use Rattle.nb_host.specs.declared.faults.HostFault.{HostFault}
use Rattle.nb_state.specs.declared.turns.Progress.{Progress}
use Rattle.nb_state.specs.declared.turns.Progress.TheVariants.{More, Finished}
use Rattle.nb_model.specs.Image.{Page, Image, page_at}
use Rattle.nb_model.specs.Levels.{joined, may_have_changed}
use Rattle.nb_gather.specs.Making.{IsKept}
use Rattle.nb_copy.specs.Copying.{Copying, IsCopying}
use Rattle.nb_copy.specs.LevelCopying.{LevelCopying, IsLevelCopying, whole_level}

-- what a turn of a copy answers: one page more was dealt with, or all were before and the file is whole and kept for good
abbrev pub CopyTurn : Result Progress HostFault → (new : World) (before after : Copying) (frozen : Image) → Type 0
CopyTurn (Ok More) new before after frozen = IsCopying new after frozen
CopyTurn (Ok Finished) new before after frozen = IsKept new before.name (joined frozen)
CopyTurn (Err fault) new before after frozen = Unit {0}

-- whether a page was left, and that the next one follows
abbrev pub CopyCounts : Result Progress HostFault → (before after : Copying) → Type 0
CopyCounts (Ok More) before after = (before.next < before.count) × (after ≡ record before { next = before.next + 1; first = after.first })
CopyCounts (Ok Finished) before after = (before.next ≡ before.count) × (after ≡ before)
CopyCounts (Err fault) before after = Unit {0}

-- what a turn of a level answers, likewise
abbrev pub LevelTurn : Result Progress HostFault → (new : World) (before after : LevelCopying) (frozen : Image) → Type 0
LevelTurn (Ok More) new before after frozen = IsLevelCopying new after frozen
LevelTurn (Ok Finished) new before after frozen = IsKept new before.file.name (whole_level before frozen)
LevelTurn (Err fault) new before after frozen = Unit {0}

-- whether a page was left, and that the next one follows
abbrev pub LevelCounts : Result Progress HostFault → (before after : LevelCopying) → Type 0
LevelCounts (Ok More) before after =
    (before.next < before.count)
    × (after ≡ record { file = record before.file { written = after.file.written; run = after.file.run }; count = before.count; next = before.next + 1; scn_page = after.scn_page; page = after.page })
LevelCounts (Ok Finished) before after = (before.next ≡ before.count) × (after ≡ record before { file = record before.file { run = after.file.run } })
LevelCounts (Err fault) before after = Unit {0}

-- the page that is dealt with may have changed since the earlier backup and was read, or it may not
abbrev pub Fetched : Result Bool HostFault → (before : LevelCopying) (page : Page) (frozen : Image) → Type 0
Fetched (Ok true) before page frozen = (may_have_changed frozen before.file.head.previous_scn before.next ≡ true) × (page ≡ page_at frozen before.next)
Fetched (Ok false) before page frozen = may_have_changed frozen before.file.head.previous_scn before.next ≡ false
Fetched (Err fault) before page frozen = Unit {0}
