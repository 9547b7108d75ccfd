-- How a script is written: one line for each statement.
use Rattle.std.specs.Prelude.{ℕ, ◌+◌, true, false, List, [], ◌∷◌, ◌++◌, length, ◌==◌, if◌then◌else◌, codes}
use Rattle.std.specs.Fmt.{decimal}
use Rattle.nb_model.specs.declared.statement.Statement.{Statement}
use Rattle.nb_model.specs.declared.statement.Statement.TheVariants.{CreateDb, OpenDb, PageNew, Write, Read, Free, BeginBackup, EndBackup, Activate, Backup, BackupSince, CopyTo, CreateTable, DropTable, Insert, Update, Delete, Get, Scan, Forced, Access, Sync, Check, Reclaim, ShowHeader, ShowPages, ShowImage, ShowCache}
use Rattle.nb_script.specs.Words.{Bytes}
use Rattle.nb_script.specs.Scripts.{Plan}

-- a name or a text between quotes
abbrev pub quoted : Bytes → Bytes
quoted bytes = codes "'" ++ (bytes ++ codes "'")

-- ` cache C`
abbrev pub cache_text : ℕ → Bytes
cache_text cache = codes " cache " ++ decimal cache

-- ` page_size P raw N`
abbrev pub sizes_text : ℕ → ℕ → Bytes
sizes_text page_size raw = codes " page_size " ++ (decimal page_size ++ (codes " raw " ++ decimal raw))

-- `T K`
abbrev pub row_text_of : Bytes → ℕ → Bytes
row_text_of table key = table ++ (codes " " ++ decimal key)

-- what stands after the session
abbrev pub command_text : Statement → Bytes
command_text (CreateDb name page_size raw cache) = codes "create database " ++ (quoted name ++ (sizes_text page_size raw ++ cache_text cache))
command_text (OpenDb name cache) = codes "open " ++ (quoted name ++ cache_text cache)
command_text PageNew = codes "page new"
command_text (Write page text) = codes "write " ++ (decimal page ++ (codes " " ++ quoted text))
command_text (Read page) = codes "read " ++ decimal page
command_text (Free page) = codes "free " ++ decimal page
command_text BeginBackup = codes "alter database begin backup"
command_text EndBackup = codes "alter database end backup"
command_text (Backup level name) = codes "backup " ++ (decimal level ++ (codes " to " ++ quoted name))
-- no script asks for it
command_text (BackupSince guid name) = []
command_text Activate = []
command_text (CopyTo name) = codes "copy to " ++ quoted name
command_text (CreateTable table) = codes "create table " ++ table
command_text (DropTable table) = codes "drop table " ++ table
command_text (Insert table key text) = codes "insert " ++ (row_text_of table key ++ (codes " " ++ quoted text))
command_text (Update table key text) = codes "update " ++ (row_text_of table key ++ (codes " " ++ quoted text))
command_text (Delete table key) = codes "delete " ++ row_text_of table key
command_text (Get table key) = codes "get " ++ row_text_of table key
command_text (Scan table) = codes "scan " ++ table
command_text (Forced true) = codes "forced writes on"
command_text (Forced false) = codes "forced writes off"
command_text (Access true) = codes "access read_only"
command_text (Access false) = codes "access read_write"
command_text Sync = codes "sync"
command_text Check = codes "check"
command_text Reclaim = codes "reclaim"
command_text ShowHeader = codes "show header"
command_text ShowPages = codes "show pages"
command_text ShowImage = codes "show image"
command_text ShowCache = codes "show cache"

-- the line of a session's statement, without its end
unfoldable pub line_text : ℕ → Statement → Bytes
line_text session statement = decimal session ++ (codes ": " ++ command_text statement)

-- each session with a space before it
unfoldable pub spaced_sessions : List ℕ → Bytes
spaced_sessions [] = []
spaced_sessions (session ∷ others) = codes " " ++ (decimal session ++ spaced_sessions others)

-- the line of an order of turns, ended by a line feed; none where there is no order
unfoldable pub schedule_text : List ℕ → Bytes
schedule_text sessions = if length sessions == 0 then [] else codes "schedule" ++ (spaced_sessions sessions ++ 10 ∷ [])

-- the lines of a session's statements, each ended by a line feed
unfoldable pub statements_text : ℕ → List Statement → Bytes
statements_text session [] = []
statements_text session (statement ∷ others) = line_text session statement ++ 10 ∷ statements_text session others

-- the lines of the sessions from this one on
unfoldable pub sessions_text : ℕ → List (List Statement) → Bytes
sessions_text session [] = []
sessions_text session (statements ∷ others) = statements_text session statements ++ sessions_text (session + 1) others

-- the whole text of a script
unfoldable pub script_text : Plan → Bytes
script_text plan = line_text plan.first_session plan.first ++ 10 ∷ (schedule_text plan.schedule ++ sessions_text 1 plan.sessions)
