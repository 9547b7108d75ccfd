-- Which of its two files a call may touch, by the backup state.
use Rattle.std.specs.Prelude.{ℕ, zero, suc, List}
use Rattle.nb_host.specs.World.{World}
use Rattle.nb_change.specs.Changes.{Names, Only, Touches}
use Rattle.nb_model.specs.Owner.{delta_name}
use Rattle.nb_base.specs.Open.{OfFiles}

-- the files that pages are written to in that state: the main file in the normal one, the difference file in the stalled one, where the
-- main file is frozen, and both in the merge
abbrev pub WrittenIn : (state : ℕ) (name : List ℕ) → Names
WrittenIn zero name = Only name
WrittenIn (suc zero) name = Only (delta_name name)
WrittenIn (suc (suc later)) name = OfFiles name

-- no file is touched but those
abbrev pub WritesIn : (old new : World) (state : ℕ) (name : List ℕ) → Type 0
WritesIn old new state name = Touches old new (WrittenIn state name)
