-- The lines of statements.
use Rattle.std.specs.Prelude.{ℕ, ◌==◌, true, false, length, Option, Some, None, if◌then◌else◌, option_map, codes}
use Rattle.std.specs.Str.{bytes_eq}
use Rattle.nb_model.specs.declared.statement.Statement.{Statement}
use Rattle.nb_model.specs.declared.statement.Statement.TheVariants.{PageNew, Write, Read, Free, BeginBackup, EndBackup, Backup, CopyTo, CreateTable, DropTable, Insert, Update, Delete, Get, Scan, Forced, Access, Sync, Check, Reclaim, ShowHeader, ShowPages, ShowImage, ShowCache}
use Rattle.nb_script.specs.Words.{Bytes, ◌>>=◌, after, number_at, within, session_at, page_at, text_at, name_at, table_at, alone}

-- what a word's rest gives, where the line begins with that word; otherwise what is next
abbrev pub or_next : Option Bytes → (Bytes → Option Statement) → Option Statement → Option Statement
or_next None read next = next
or_next (Some rest) read next = read rest

-- `N` at the end of the line
unfoldable pub last_page : Bytes → Option ℕ
last_page bytes = page_at bytes >>= alone

-- `N 'TEXT'`
unfoldable pub page_text : Bytes → Option (ℕ × Bytes)
page_text bytes = do
  page ← page_at bytes
  rest ← after (codes " ") page.1
  text ← text_at rest
  Some (page.0, text)

-- `'NAME'` at the end of the line
unfoldable pub last_name : Bytes → Option Bytes
last_name bytes = name_at 100 bytes >>= alone

-- `L to 'NAME'`
unfoldable pub backup_at : Bytes → Option Statement
backup_at bytes = do
  level ← within 0 9 bytes
  rest ← after (codes " to ") level.1
  name ← last_name rest
  Some (Backup level.0 name)

-- `T` at the end of the line
unfoldable pub last_table : Bytes → Option Bytes
last_table bytes = table_at bytes >>= alone

-- `T K`
unfoldable pub row_at : Bytes → Option (Bytes × ℕ × Bytes)
row_at bytes = do
  table ← table_at bytes
  rest ← after (codes " ") table.1
  key ← number_at rest
  Some (table.0, key.0, key.1)

-- `T K` at the end of the line
unfoldable pub last_row : Bytes → Option (Bytes × ℕ)
last_row bytes = do
  row ← row_at bytes
  if length row.2 == 0 then Some (row.0, row.1) else None

-- `T K 'TEXT'`
unfoldable pub row_text : Bytes → Option (Bytes × ℕ × Bytes)
row_text bytes = do
  row ← row_at bytes
  rest ← after (codes " ") row.2
  text ← text_at rest
  Some (row.0, row.1, text)

-- the statements of no value
unfoldable pub fixed : Bytes → Option Statement
fixed bytes =
    if bytes_eq bytes (codes "page new") then Some PageNew
    else if bytes_eq bytes (codes "alter database begin backup") then Some BeginBackup
    else if bytes_eq bytes (codes "alter database end backup") then Some EndBackup
    else if bytes_eq bytes (codes "forced writes on") then Some (Forced true)
    else if bytes_eq bytes (codes "forced writes off") then Some (Forced false)
    else if bytes_eq bytes (codes "access read_only") then Some (Access true)
    else if bytes_eq bytes (codes "access read_write") then Some (Access false)
    else if bytes_eq bytes (codes "sync") then Some Sync
    else if bytes_eq bytes (codes "check") then Some Check
    else if bytes_eq bytes (codes "reclaim") then Some Reclaim
    else if bytes_eq bytes (codes "show header") then Some ShowHeader
    else if bytes_eq bytes (codes "show pages") then Some ShowPages
    else if bytes_eq bytes (codes "show image") then Some ShowImage
    else if bytes_eq bytes (codes "show cache") then Some ShowCache
    else None

-- `read N` and `free N`
unfoldable pub of_page : Bytes → Option Statement
of_page bytes =
    or_next (after (codes "read ") bytes) (λ rest. option_map Read (last_page rest))
    (or_next (after (codes "free ") bytes) (λ rest. option_map Free (last_page rest)) None)

-- `backup L to 'NAME'` and `copy to 'NAME'`
unfoldable pub of_file : Bytes → Option Statement
of_file bytes =
    or_next (after (codes "backup ") bytes) backup_at
    (or_next (after (codes "copy to ") bytes) (λ rest. option_map CopyTo (last_name rest)) None)

-- `create table T` and `drop table T`
unfoldable pub of_table : Bytes → Option Statement
of_table bytes =
    or_next (after (codes "create table ") bytes) (λ rest. option_map CreateTable (last_table rest))
    (or_next (after (codes "drop table ") bytes) (λ rest. option_map DropTable (last_table rest)) None)

-- `scan T`
unfoldable pub scan_at : Bytes → Option Statement
scan_at bytes = option_map Scan (after (codes "scan ") bytes >>= last_table)

-- `delete T K` and `get T K`
unfoldable pub of_row : Bytes → Option Statement
of_row bytes =
    or_next (after (codes "delete ") bytes) (λ rest. option_map (λ row. Delete row.0 row.1) (last_row rest))
    (or_next (after (codes "get ") bytes) (λ rest. option_map (λ row. Get row.0 row.1) (last_row rest)) None)

-- the first that gives a statement
abbrev pub or_else : Option Statement → Option Statement → Option Statement
or_else None next = next
or_else (Some statement) next = Some statement

-- the statements that have no text
unfoldable pub without_text : Bytes → Option Statement
without_text bytes = or_else (of_page bytes) (or_else (of_file bytes) (or_else (of_table bytes) (or_else (scan_at bytes) (or_else (of_row bytes) (fixed bytes)))))

-- a statement
unfoldable pub command_at : Bytes → Option Statement
command_at bytes =
    or_next (after (codes "write ") bytes) (λ rest. option_map (λ page. Write page.0 page.1) (page_text rest))
    (or_next (after (codes "insert ") bytes) (λ rest. option_map (λ row. Insert row.0 row.1 row.2) (row_text rest))
    (or_next (after (codes "update ") bytes) (λ rest. option_map (λ row. Update row.0 row.1 row.2) (row_text rest))
    (without_text bytes)))

-- `S: ` and what follows
unfoldable pub session_line : Bytes → Option (ℕ × Bytes)
session_line line = do
  session ← session_at line
  rest ← after (codes ": ") session.1
  Some (session.0, rest)

-- the session and the statement of a line
unfoldable pub statement_at : Bytes → Option (ℕ × Statement)
statement_at line = do
  session ← session_line line
  statement ← command_at session.1
  Some (session.0, statement)
