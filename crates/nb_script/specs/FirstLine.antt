-- The first line: which database it is about.
use Rattle.std.specs.Prelude.{ℕ, ◌==◌, length, Option, Some, None, if◌then◌else◌, codes}
use Rattle.nb_host.specs.Files.{is_page_size}
use Rattle.nb_model.specs.declared.statement.Statement.{Statement}
use Rattle.nb_model.specs.declared.statement.Statement.TheVariants.{CreateDb, OpenDb}
use Rattle.nb_script.specs.Words.{Bytes, ◌>>=◌, after, within, name_at, alone}
use Rattle.nb_script.specs.Statements.{or_next, session_line}

-- ` cache C` or nothing, to the end of the line; nothing means 64
unfoldable pub cache_at : Bytes → Option ℕ
cache_at rest = if length rest == 0 then Some 64 else after (codes " cache ") rest >>= within 1 4096 >>= alone

-- one of the six page sizes
unfoldable pub page_size_at : Bytes → Option (ℕ × Bytes)
page_size_at bytes = do
  size ← within 1024 32768 bytes
  if is_page_size size.0 then Some size else None

-- ` page_size P raw N`
unfoldable pub sizes_at : Bytes → Option (ℕ × ℕ × Bytes)
sizes_at bytes = do
  size_word ← after (codes " page_size ") bytes
  size ← page_size_at size_word
  raw_word ← after (codes " raw ") size.1
  raw ← within 0 65535 raw_word
  Some (size.0, raw.0, raw.1)

-- `'NAME' page_size P raw N` and the cache
unfoldable pub create_at : Bytes → Option Statement
create_at bytes = do
  name ← name_at 94 bytes
  sizes ← sizes_at name.1
  cache ← cache_at sizes.2
  Some (CreateDb name.0 sizes.0 sizes.1 cache)

-- `'NAME'` and the cache
unfoldable pub open_at : Bytes → Option Statement
open_at bytes = do
  name ← name_at 94 bytes
  cache ← cache_at name.1
  Some (OpenDb name.0 cache)

-- `create database ..` or `open ..`
unfoldable pub database_at : Bytes → Option Statement
database_at bytes =
    or_next (after (codes "create database ") bytes) create_at
    (after (codes "open ") bytes >>= open_at)

-- the session and the statement that a line spells
unfoldable pub first_at : Bytes → Option (ℕ × Statement)
first_at line = do
  session ← session_line line
  statement ← database_at session.1
  Some (session.0, statement)
