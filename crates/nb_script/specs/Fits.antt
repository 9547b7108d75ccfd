-- What a line can spell.
use Rattle.std.specs.Prelude.{◌≡◌, ℕ, ◌^◌, ◌<◌, ◌≤◌, true, List, length}
use Rattle.std.specs.List.{list_all, AllByRecursion}
use Rattle.nb_host.specs.Files.{is_page_size}
use Rattle.nb_model.specs.declared.statement.Statement.{Statement}
use Rattle.nb_model.specs.declared.statement.Statement.TheVariants.{CreateDb, OpenDb, Write, Read, Free, Backup, BackupSince, Activate, CopyTo, CreateTable, DropTable, Insert, Update, Delete, Get, Scan}
use Rattle.nb_model.specs.TableNames.{is_table_name}
use Rattle.nb_script.specs.Words.{Bytes, is_text_byte, is_given}

-- a session of a script, 1 to 16
abbrev pub IsSession : ℕ → Type 0
IsSession session = (1 ≤ session) × (session ≤ 16)

-- bytes that may stand between quotes
abbrev pub IsText : Bytes → Type 0
IsText text = list_all is_text_byte text ≡ true

-- a name that a user may give to a file that is made
abbrev pub IsFile : Bytes → Type 0
IsFile name = is_given 100 name ≡ true

-- a name that a database may have
abbrev pub IsBase : Bytes → Type 0
IsBase name = is_given 94 name ≡ true

abbrev pub IsTable : Bytes → Type 0
IsTable table = is_table_name table ≡ true

-- the values of a statement that a further line can spell
abbrev pub Fits : Statement → Type 0
Fits (CreateDb name page_size raw cache) = ⊥
Fits (OpenDb name cache) = ⊥
Fits (Write page text) = (page < 2 ^ 32) × IsText text
Fits (Read page) = page < 2 ^ 32
Fits (Free page) = page < 2 ^ 32
Fits (Backup level name) = (level ≤ 9) × IsFile name
Fits (BackupSince guid name) = ⊥
Fits Activate = ⊥
Fits (CopyTo name) = IsFile name
Fits (CreateTable table) = IsTable table
Fits (DropTable table) = IsTable table
Fits (Insert table key text) = IsTable table × (key < 2 ^ 64) × IsText text
Fits (Update table key text) = IsTable table × (key < 2 ^ 64) × IsText text
Fits (Delete table key) = IsTable table × (key < 2 ^ 64)
Fits (Get table key) = IsTable table × (key < 2 ^ 64)
Fits (Scan table) = IsTable table
Fits other = Unit {0}

-- the values of a further statement that can be asked: by a line, or by words of the command line alone
abbrev pub FitsAsked : Statement → Type 0
FitsAsked (BackupSince guid name) = IsFile name
FitsAsked Activate = Unit {0}
FitsAsked other = Fits other

-- the values of a statement that a first line can spell
abbrev pub FitsFirst : Statement → Type 0
FitsFirst (CreateDb name page_size raw cache) = IsBase name × (is_page_size page_size ≡ true) × (raw ≤ 65535) × (1 ≤ cache) × (cache ≤ 4096)
FitsFirst (OpenDb name cache) = IsBase name × (1 ≤ cache) × (cache ≤ 4096)
FitsFirst other = ⊥

-- an order of turns that a line can give, or none
pub record FitsOrder (order : List ℕ) : Type 0 where
  pub few : length order ≤ 4096
  pub each : AllByRecursion IsSession order
