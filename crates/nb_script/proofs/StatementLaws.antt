-- The line of a statement is read as that statement.
use Rattle.std.proofs.Common.{◌≡◌, ℕ, ◌^◌, ◌<◌, ◌≤◌, ◌==◌, true, false, [], ◌++◌, length, Option, Some, None, if◌then◌else◌, codes, refl, ap, sym, ◌∙◌, append_assoc, arith}
use Rattle.nb_script.proofs.Common.{decimal, append-nil, Statement, CreateDb, OpenDb, Write, Read, Free, Backup, BackupSince, Activate, CopyTo, CreateTable, DropTable, Insert, Update, Delete, Get, Scan, Forced, Access, Bytes, ◌>>=◌, after, number_at, page_at, text_at, table_at, alone, digit_count, last_page, page_text, last_name, backup_at, last_table, row_at, last_row, row_text, fixed, of_page, of_file, of_table, scan_at, of_row, without_text, command_at, session_line, statement_at, quoted, row_text_of, command_text, line_text, Fits, IsText, IsFile, IsTable}
use Rattle.nb_script.proofs.WordLaws.{number_again, within_again, text_again, name_again, table_again}

-- a page number, and what stands after it
page_again : (page : ℕ) (rest : Bytes) → page < 2 ^ 32 → digit_count rest ≡ 0 → page_at (decimal page ++ rest) ≡ Some (page, rest)
page_again page rest small none = within_again 0 4294967295 page rest (omega arith) (omega arith) (omega arith) none

last_page_again : (page : ℕ) → page < 2 ^ 32 → last_page (decimal page) ≡ Some page
unfolding last_page
last_page_again page small = ap (λ b. page_at b >>= alone) (sym (append-nil (decimal page))) ∙ ap (λ o. o >>= alone) (page_again page [] small refl)

page_text_again : (page : ℕ) (text : Bytes) → page < 2 ^ 32 → IsText text → page_text (decimal page ++ (codes " " ++ quoted text)) ≡ Some (page, text)
unfolding page_text after
page_text_again page text small all =
    ap (λ o. o >>= (λ (p : ℕ × Bytes). after (codes " ") p.1 >>= (λ (r : Bytes). text_at r >>= (λ (t : Bytes). Some (p.0, t))))) (page_again page (codes " " ++ quoted text) small refl)
    ∙ ap (λ o. o >>= (λ (t : Bytes). Some (page, t))) (text_again text all)

last_name_again : (name : Bytes) → IsFile name → last_name (quoted name) ≡ Some name
unfolding last_name
last_name_again name given = ap (λ o. o >>= alone) (name_again 100 name [] given)

backup_again : (level : ℕ) (name : Bytes) → level ≤ 9 → IsFile name → backup_at (decimal level ++ (codes " to " ++ quoted name)) ≡ Some (Backup level name)
unfolding backup_at after
backup_again level name small given =
    ap (λ o. o >>= (λ (l : ℕ × Bytes). after (codes " to ") l.1 >>= (λ (r : Bytes). last_name r >>= (λ (n : Bytes). Some (Backup l.0 n))))) (within_again 0 9 level (codes " to " ++ quoted name) (omega arith) (omega arith) small refl)
    ∙ ap (λ o. o >>= (λ (n : Bytes). Some (Backup level n))) (last_name_again name given)

last_table_again : (table : Bytes) → IsTable table → last_table table ≡ Some table
unfolding last_table
last_table_again table given = ap (λ b. table_at b >>= alone) (sym (append-nil table)) ∙ ap (λ o. o >>= alone) (table_again table [] given refl)

row_again : (table : Bytes) (key : ℕ) (rest : Bytes) → IsTable table → key < 2 ^ 64 → digit_count rest ≡ 0 → row_at (row_text_of table key ++ rest) ≡ Some (table, key, rest)
unfolding row_at after
row_again table key rest given small none =
    ap row_at (append_assoc table (codes " " ++ decimal key) rest)
    ∙ ap (λ o. o >>= (λ (t : Bytes × Bytes). after (codes " ") t.1 >>= (λ (r : Bytes). number_at r >>= (λ (k : ℕ × Bytes). Some (t.0, k.0, k.1))))) (table_again table (codes " " ++ (decimal key ++ rest)) given refl)
    ∙ ap (λ o. o >>= (λ (k : ℕ × Bytes). Some (table, k.0, k.1))) (number_again key rest small none)

last_row_again : (table : Bytes) (key : ℕ) → IsTable table → key < 2 ^ 64 → last_row (row_text_of table key) ≡ Some (table, key)
unfolding last_row
last_row_again table key given small =
    ap last_row (sym (append-nil (row_text_of table key)))
    ∙ ap (λ o. o >>= (λ (row : Bytes × ℕ × Bytes). if length row.2 == 0 then Some (row.0, row.1) else None)) (row_again table key [] given small refl)

row_text_again : (table : Bytes) (key : ℕ) (text : Bytes) → IsTable table → key < 2 ^ 64 → IsText text → row_text (row_text_of table key ++ (codes " " ++ quoted text)) ≡ Some (table, key, text)
unfolding row_text after
row_text_again table key text given small all =
    ap (λ o. o >>= (λ (row : Bytes × ℕ × Bytes). after (codes " ") row.2 >>= (λ (r : Bytes). text_at r >>= (λ (t : Bytes). Some (row.0, row.1, t))))) (row_again table key (codes " " ++ quoted text) given small refl)
    ∙ ap (λ o. o >>= (λ (t : Bytes). Some (table, key, t))) (text_again text all)

pub command_again : (s : Statement) → Fits s → command_at (command_text s) ≡ Some s
unfolding command_at without_text of_page of_file of_table scan_at of_row fixed after
command_again (CreateDb name page_size raw cache) h = absurd h
command_again (OpenDb name cache) h = absurd h
command_again (Write page text) h = rw (page_text_again page text h.0 h.1) refl
command_again (Read page) h = rw (last_page_again page h) refl
command_again (Free page) h = rw (last_page_again page h) refl
command_again (Backup level name) h = rw (backup_again level name h.0 h.1) refl
command_again (BackupSince guid name) h = absurd h
command_again Activate h = absurd h
command_again (CopyTo name) h = rw (last_name_again name h) refl
command_again (CreateTable table) h = rw (last_table_again table h) refl
command_again (DropTable table) h = rw (last_table_again table h) refl
command_again (Insert table key text) h = rw (row_text_again table key text h.0 h.1 h.2) refl
command_again (Update table key text) h = rw (row_text_again table key text h.0 h.1 h.2) refl
command_again (Delete table key) h = rw (last_row_again table key h.0 h.1) refl
command_again (Get table key) h = rw (last_row_again table key h.0 h.1) refl
command_again (Scan table) h = rw (last_table_again table h) refl
command_again (Forced true) h = refl
command_again (Forced false) h = refl
command_again (Access true) h = refl
command_again (Access false) h = refl
command_again other h = refl

-- the session of a line, and what stands after it
session_again : (session : ℕ) (rest : Bytes) → 1 ≤ session → session ≤ 16 → session_line (decimal session ++ (codes ": " ++ rest)) ≡ Some (session, rest)
unfolding session_line after
session_again session rest low high =
    ap (λ o. o >>= (λ (s : ℕ × Bytes). after (codes ": ") s.1 >>= (λ (r : Bytes). Some (s.0, r)))) (within_again 1 16 session (codes ": " ++ rest) (omega arith) low high refl)

-- A line, whose statement is what stands after its session.
module _ (read_at : Bytes → Option Statement) where
  abbrev pub line_by : Bytes → Option (ℕ × Statement)
  line_by line = session_line line >>= (λ (x : ℕ × Bytes). read_at x.1 >>= (λ (k : Statement). Some (x.0, k)))

  -- it is none where it names no session
  pub none_by : (line : Bytes) → None ≡ session_line line → None ≡ line_by line
  none_by line none = ap (λ o. o >>= (λ (x : ℕ × Bytes). read_at x.1 >>= (λ (k : Statement). Some (x.0, k)))) none

  -- of any other it is what stands after the session
  pub its_by : (line : Bytes) (session : ℕ) (rest : Bytes) (read : Option Statement) → Some (session, rest) ≡ session_line line → read ≡ read_at rest → (read >>= (λ (k : Statement). Some (session, k))) ≡ line_by line
  its_by line session rest read first second =
      ap (λ o. o >>= (λ (k : Statement). Some (session, k))) second ∙ ap (λ o. o >>= (λ (x : ℕ × Bytes). read_at x.1 >>= (λ (k : Statement). Some (x.0, k)))) first

  pub again_by : (session : ℕ) (s : Statement) → 1 ≤ session → session ≤ 16 → read_at (command_text s) ≡ Some s → line_by (line_text session s) ≡ Some (session, s)
  unfolding line_text
  again_by session s low high again =
      ap (λ o. o >>= (λ (x : ℕ × Bytes). read_at x.1 >>= (λ (k : Statement). Some (x.0, k)))) (session_again session (command_text s) low high)
      ∙ ap (λ o. o >>= (λ (k : Statement). Some (session, k))) again

pub no_session : (line : Bytes) → None ≡ session_line line → None ≡ statement_at line
unfolding statement_at
no_session line none = none_by command_at line none

pub its_statement : (line : Bytes) (session : ℕ) (rest : Bytes) (read : Option Statement) → Some (session, rest) ≡ session_line line → read ≡ command_at rest → (read >>= (λ (k : Statement). Some (session, k))) ≡ statement_at line
unfolding statement_at
its_statement line session rest read first second = its_by command_at line session rest read first second

pub statement_again : (session : ℕ) (s : Statement) → 1 ≤ session → session ≤ 16 → Fits s → statement_at (line_text session s) ≡ Some (session, s)
unfolding statement_at
statement_again session s low high fits = again_by command_at session s low high (command_again s fits)
