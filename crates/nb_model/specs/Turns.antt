-- The table of turns: what one turn of a session writes, says and leaves to do.
use Rattle.std.specs.Prelude.{ℕ, [], ◌∷◌, Some, None}
use Rattle.nb_model.specs.declared.reply.Reply.TheVariants.{Done}
use Rattle.nb_model.specs.declared.statement.Statement.{Statement}
use Rattle.nb_model.specs.declared.statement.Statement.TheVariants.{CreateDb, OpenDb, PageNew, Write, Read, Free, BeginBackup, EndBackup, Activate, Backup, BackupSince, CopyTo, CreateTable, DropTable, Insert, Update, Delete, Get, Scan, Forced, Access, Sync, Check, Reclaim, ShowHeader, ShowPages, ShowImage, ShowCache}
use Rattle.nb_model.specs.Strokes.{finish}
use Rattle.nb_model.specs.Outcomes.{Turn, Begins, Copies, ClosesBackup, ClosesCopy, Ends, Merges, Finishes, Seen, Outcome, says, passes}
use Rattle.nb_model.specs.Pages.{new_turn, write_turn, read_turn, free_turn, begin_turn, end_turn, activate_turn, ends_by, forced_turn, access_turn, header_turn, image_turn, cache_turn}
use Rattle.nb_model.specs.Tables.{create_turn, drop_turn, insert_turn, update_turn, delete_turn, get_turn, scan_turn}
use Rattle.nb_model.specs.Checks.{check_turn, reclaim_turn}
use Rattle.nb_model.specs.Backups.{backup_turn, since_turn, close_backup, copy_turn, close_copy, pages_turn}

-- The first turn of a statement. Creating and opening stand in front of all turns: no session asks for them here.
unfoldable pub first_turn : Seen → (session : ℕ) → Statement → Outcome
first_turn s session (CreateDb name size raw cache) = passes s
first_turn s session (OpenDb name cache) = passes s
first_turn s session PageNew = new_turn s
first_turn s session (Write p text) = write_turn s p text
first_turn s session (Read p) = read_turn s p
first_turn s session (Free p) = free_turn s p
first_turn s session BeginBackup = begin_turn s
first_turn s session EndBackup = end_turn s session
first_turn s session Activate = activate_turn s session
first_turn s session (Backup level name) = backup_turn s session level name
first_turn s session (BackupSince guid name) = since_turn s session guid name
first_turn s session (CopyTo name) = copy_turn s session name
first_turn s session (CreateTable table) = create_turn s table
first_turn s session (DropTable table) = drop_turn s table
first_turn s session (Insert table key text) = insert_turn s table key text
first_turn s session (Update table key text) = update_turn s table key text
first_turn s session (Delete table key) = delete_turn s table key
first_turn s session (Get table key) = get_turn s table key
first_turn s session (Scan table) = scan_turn s table
first_turn s session (Forced on) = forced_turn s on
first_turn s session (Access closed) = access_turn s closed
first_turn s session Sync = says s Done []
first_turn s session Check = check_turn s
first_turn s session Reclaim = reclaim_turn s
first_turn s session ShowHeader = header_turn s
first_turn s session ShowPages = pages_turn s
first_turn s session ShowImage = image_turn s
first_turn s session ShowCache = cache_turn s

-- One turn of a session. Copying and merging change nothing that the model knows of: the frozen image stays, and a merged page is
-- the image's page before and after.
unfoldable pub turn : Seen → (session : ℕ) → Turn → Outcome
turn s session (Begins statement) = first_turn s session statement
turn s session Copies = passes s
turn s session (ClosesBackup backing) = close_backup s backing
turn s session (ClosesCopy name) = close_copy s name
turn s session (Ends reply) = ends_by s session reply
turn s session Merges = passes s
turn s session (Finishes reply) = record { strokes = finish ∷ []; reply = Some reply; next = []; running = None; made = None; given = s.given }
