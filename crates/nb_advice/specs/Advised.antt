-- The refusals about which something is said.
use Rattle.std.specs.Prelude.{◌≡◌, ◌≢◌, ℕ, List, [], ◌∷◌, ◌++◌, codes, String, Option, None, Some}
use Rattle.std.specs.Global.{Global}
use Rattle.std.specs.List.{AllByRecursion}
use Rattle.nb_model.specs.declared.job.Ask.{Ask}
use Rattle.nb_model.specs.declared.job.Ask.TheVariants.{Stat, Check, Reclaim, Backup, BackupSince, Lock, LockWithSize, Unlock, Activate}
use Rattle.nb_model.specs.declared.job.Deed.{Deed}
use Rattle.nb_model.specs.declared.job.Deed.TheVariants.{Restore, Fixup, Apply, Fold, Plan as PlanFiles}
use Rattle.nb_model.specs.declared.job.Job.{Job}
use Rattle.nb_model.specs.declared.job.Job.TheVariants.{Run, Gen, Attach, Turn, Plan as PlanOf, Ship}

-- a database that isn't opened
abbrev pub of_opening : List (List ℕ)
of_opening = codes "NoFile" ∷ codes "BadDelta" ∷ codes "NotDatabase" ∷ codes "Unfinished" ∷ []

-- a check, and a reclaim
abbrev pub of_check : List (List ℕ)
of_check = codes "Unsound" ∷ of_opening

abbrev pub of_reclaim : List (List ℕ)
of_reclaim = codes "Access" ∷ of_check

-- a backup that doesn't begin, isn't made, or doesn't end
abbrev pub of_lock : List (List ℕ)
of_lock = codes "WrongState" ∷ codes "Access" ∷ codes "ScnExhausted" ∷ of_opening

abbrev pub of_backup : List (List ℕ)
of_backup = codes "FileExists" ∷ codes "NoHistory" ∷ codes "NoGuid" ∷ codes "Full" ∷ of_lock

abbrev pub of_unlock : List (List ℕ)
of_unlock = codes "WrongState" ∷ of_opening

-- files that are no chain, whatever is to be made of them
abbrev pub of_files : List (List ℕ)
of_files = codes "FileExists" ∷ codes "NoFile" ∷ codes "BadLevel" ∷ codes "ChainGuid" ∷ codes "ChainSize" ∷ codes "ChainScn" ∷ []

abbrev pub of_chain : List (List ℕ)
of_chain = codes "ChainLevel" ∷ of_files

-- files that aren't planned for
abbrev pub of_plan : List (List ℕ)
of_plan = codes "NoFile" ∷ codes "BadLevel" ∷ codes "ScriptLong" ∷ codes "BadScript" ∷ []

-- a copy that isn't made a database, and a level that isn't merged
abbrev pub of_fixup : List (List ℕ)
of_fixup = codes "NoFile" ∷ codes "NotDatabase" ∷ codes "DeltaPresent" ∷ codes "WrongState" ∷ []

abbrev pub of_merge : List (List ℕ)
of_merge =
    codes "NoFile" ∷ codes "NotDatabase" ∷ codes "WrongState" ∷ codes "BadLevel" ∷ codes "Unfinished" ∷ codes "ChainGuid" ∷ codes "ChainSize" ∷ codes "ChainScn" ∷ codes "Access" ∷ []

-- a ship: the primary can't be backed up, or nothing can be merged into the standby
abbrev pub of_ship : List (List ℕ)
of_ship = codes "FileExists" ∷ codes "NoGuid" ∷ codes "Full" ∷ codes "BadLevel" ∷ codes "ChainGuid" ∷ codes "ChainSize" ∷ codes "ChainScn" ∷ of_lock

-- what a database may refuse that is asked this
abbrev pub of_ask : Ask → List (List ℕ)
of_ask Stat = of_opening
of_ask Check = of_check
of_ask Reclaim = of_reclaim
of_ask (Backup level file) = of_backup
of_ask (BackupSince guid file) = of_backup
of_ask Lock = of_lock
of_ask LockWithSize = of_lock
of_ask Unlock = of_unlock
of_ask Activate = of_opening

abbrev pub of_deed : Deed → List (List ℕ)
of_deed (Restore db files) = of_chain
of_deed (Fixup db) = of_fixup
of_deed (Apply db file) = of_merge
of_deed (Fold out files) = of_chain
of_deed (PlanFiles keep files) = []

-- a script that isn't written, and one that isn't read
abbrev pub of_gen : List (List ℕ)
of_gen = codes "FileExists" ∷ []

abbrev pub of_run : List (List ℕ)
of_run = codes "ScriptLong" ∷ []

-- the refusals of a job about which something is said
abbrev pub of_job : Job → List (List ℕ)
of_job (Run script) = of_run
of_job (Gen number script) = of_gen
of_job (Attach db ask) = of_ask ask
of_job (Turn deed) = of_deed deed
of_job (PlanOf keep list) = of_plan
of_job (Ship primary standby) = of_ship

-- something is said, unless the refusal has none of these names
abbrev pub SaysOf : (names : List (List ℕ)) (name : List ℕ) → Option (String Global) → Type 0
SaysOf names name (Some text) = Unit {0}
SaysOf names name None = AllByRecursion (λ (other : List ℕ). name ≢ other) names
