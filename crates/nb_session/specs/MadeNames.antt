-- The names of the files that sessions may make.
use Rattle.std.specs.Prelude.{◌≡◌, ◌⊎◌, List, [], ◌∷◌}
use Rattle.nb_change.specs.Changes.{Names}
use Rattle.nb_model.specs.declared.statement.Statement.{Statement}
use Rattle.nb_model.specs.declared.statement.Statement.TheVariants.{Backup as BackupTo, BackupSince, CopyTo}
use Rattle.nb_script.specs.Scripts.{Plan}

-- a statement asks for a backup, or for a copy, into a file of that name
abbrev pub Asks : Statement → Names
Asks (BackupTo level name) m = m ≡ name
Asks (BackupSince guid name) m = m ≡ name
Asks (CopyTo name) m = m ≡ name
Asks other m = ⊥

-- one of these statements does
abbrev pub AnyAsks : List Statement → Names
AnyAsks [] m = ⊥
AnyAsks (statement ∷ statements) m = Asks statement m ⊎ AnyAsks statements m

-- one of the statements of sessions
abbrev pub AnySessionAsks : List (List Statement) → Names
AnySessionAsks [] m = ⊥
AnySessionAsks (statements ∷ others) m = AnyAsks statements m ⊎ AnySessionAsks others m

-- one of the statements of a script does
abbrev pub ScriptMakes : Plan → Names
ScriptMakes plan = AnySessionAsks plan.sessions
