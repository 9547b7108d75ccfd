-- Which statements may write the database: its pages, or what waits to be written.
use Rattle.std.specs.Prelude.{Bool, true, false}
use Rattle.nb_model.specs.declared.statement.Statement.{Statement}
use Rattle.nb_model.specs.declared.statement.Statement.TheVariants.{OpenDb, Read, CopyTo, Get, Scan, Check, ShowHeader, ShowPages, ShowImage, ShowCache}
use Rattle.nb_model.specs.Outcomes.{Turn, Begins, Copies, ClosesBackup, ClosesCopy, Ends, Merges, Finishes}

-- the statement may write the database: each does that isn't one of these, which only read it
abbrev pub statement_writes : Statement → Bool
statement_writes (OpenDb name cache) = false
statement_writes (Read p) = false
statement_writes (CopyTo name) = false
statement_writes (Get table key) = false
statement_writes (Scan table) = false
statement_writes Check = false
statement_writes ShowHeader = false
statement_writes ShowPages = false
statement_writes ShowImage = false
statement_writes ShowCache = false
statement_writes other = true

-- so may the turn: of those that no statement begins only a copy's turns don't
abbrev pub turn_writes : Turn → Bool
turn_writes (Begins statement) = statement_writes statement
turn_writes Copies = false
turn_writes (ClosesBackup backing) = true
turn_writes (ClosesCopy name) = false
turn_writes (Ends reply) = true
turn_writes Merges = true
turn_writes (Finishes reply) = true
