-- A line that is written has no line feed in it.
use Rattle.std.proofs.Common.{◌≡◌, ℕ, ◌^◌, ◌<◌, ◌≤◌, ◌==◌, ◌&&◌, not, Bool, true, false, nat_lt, nat_le, List, [], ◌∷◌, ◌++◌, length, codes, refl, sym, ◌∙◌, ap, inl, inr, arith}
use Rattle.nb_script.proofs.Common.{decimal, list_all, AllByRecursion, cases_Bool, and_parts, and_from, eqb-true, not_from_false, is_name, is_name_byte, is_page_size, Statement, CreateDb, OpenDb, Write, Read, Free, Backup, BackupSince, Activate, CopyTo, CreateTable, DropTable, Insert, Update, Delete, Get, Scan, Forced, Access, is_table_byte, Bytes, is_digit, is_text_byte, is_given, quoted, cache_text, sizes_text, row_text_of, command_text, line_text, spaced_sessions, Fits, FitsFirst, IsText, IsTable, IsSession}
use Rattle.std.proofs.lemmas.List.Folds.{list_all-append}
use Rattle.nb_script.proofs.WordLaws.{digits_of}
use Rattle.nb_script.proofs.FirstLaws.{one_of}

-- a byte that passes a test is none that fails it
pub unlike : (p : ℕ → Bool) (b n : ℕ) → p n ≡ false → p b ≡ true → (b == n) ≡ false
unlike p b n fails passes = elim (cases_Bool (b == n)) [
  | inl same ↦ let bad : false ≡ true = sym fails ∙ ap p (sym (eqb-true b n same)) ∙ passes in cc
  | inr other ↦ other
]

abbrev is_inner : ℕ → Bool
is_inner b = not (b == 10)

-- no byte of it ends a line
abbrev pub Unbroken : Bytes → Type 0
Unbroken bytes = list_all is_inner bytes ≡ true

joined : (xs ys : Bytes) → Unbroken xs → Unbroken ys → Unbroken (xs ++ ys)
joined xs ys here there = list_all-append is_inner xs ys ∙ and_from (list_all is_inner xs) (list_all is_inner ys) here there

-- bytes of a class without the line feed
of_class : (p : ℕ → Bool) (bytes : Bytes) → p 10 ≡ false → list_all p bytes ≡ true → Unbroken bytes
of_class p [] fails all = refl
of_class p (b ∷ bytes) fails all =
    let parts = and_parts (p b) (list_all p bytes) all in
    and_from (is_inner b) (list_all is_inner bytes) (not_from_false (b == 10) (unlike p b 10 fails parts.0)) (of_class p bytes fails parts.1)

number_unbroken : (n : ℕ) → n < 2 ^ 64 → Unbroken (decimal n)
number_unbroken n small = of_class is_digit (decimal n) refl (digits_of n small)

quoted_unbroken : (bytes : Bytes) → Unbroken bytes → Unbroken (quoted bytes)
quoted_unbroken bytes is = joined (codes "'") (bytes ++ codes "'") refl (joined bytes (codes "'") is refl)

text_unbroken : (text : Bytes) → IsText text → Unbroken (quoted text)
text_unbroken text all = quoted_unbroken text (of_class is_text_byte text refl all)

name_unbroken : (most : ℕ) (name : Bytes) → is_given most name ≡ true → Unbroken (quoted name)
name_unbroken most name given =
    let whole = and_parts (nat_lt 0 (length name) && nat_le (length name) 100) (list_all is_name_byte name) (and_parts (is_name name) _ (and_parts (is_name name && nat_le (length name) most) _ given).0).0 in
    quoted_unbroken name (of_class is_name_byte name refl whole.1)

table_unbroken : (table : Bytes) → IsTable table → Unbroken table
table_unbroken table given = of_class is_table_byte table refl (and_parts _ (list_all is_table_byte table) given).1

row_unbroken : (table : Bytes) (key : ℕ) → IsTable table → key < 2 ^ 64 → Unbroken (row_text_of table key)
row_unbroken table key given small = joined table (codes " " ++ decimal key) (table_unbroken table given) (joined (codes " ") (decimal key) refl (number_unbroken key small))

row_text_unbroken : (table : Bytes) (key : ℕ) (text : Bytes) → IsTable table → key < 2 ^ 64 → IsText text → Unbroken (row_text_of table key ++ (codes " " ++ quoted text))
row_text_unbroken table key text given small all =
    joined (row_text_of table key) (codes " " ++ quoted text) (row_unbroken table key given small) (joined (codes " ") (quoted text) refl (text_unbroken text all))

cache_unbroken : (cache : ℕ) → cache ≤ 4096 → Unbroken (cache_text cache)
cache_unbroken cache small = joined (codes " cache ") (decimal cache) refl (number_unbroken cache (omega arith))

sizes_unbroken : (page_size raw : ℕ) → is_page_size page_size ≡ true → raw ≤ 65535 → Unbroken (sizes_text page_size raw)
sizes_unbroken page_size raw is small =
    let range = one_of page_size is in
    joined (codes " page_size ") (decimal page_size ++ (codes " raw " ++ decimal raw)) refl
    (joined (decimal page_size) (codes " raw " ++ decimal raw) (number_unbroken page_size (omega arith)) (joined (codes " raw ") (decimal raw) refl (number_unbroken raw (omega arith))))

command_unbroken : (s : Statement) → Fits s → Unbroken (command_text s)
command_unbroken (CreateDb name page_size raw cache) fits = absurd fits
command_unbroken (OpenDb name cache) fits = absurd fits
command_unbroken (Write page text) fits =
    joined (codes "write ") (decimal page ++ (codes " " ++ quoted text)) refl
    (joined (decimal page) (codes " " ++ quoted text) (number_unbroken page (omega (arith, fits.0))) (joined (codes " ") (quoted text) refl (text_unbroken text fits.1)))
command_unbroken (Read page) fits = joined (codes "read ") (decimal page) refl (number_unbroken page (omega arith))
command_unbroken (Free page) fits = joined (codes "free ") (decimal page) refl (number_unbroken page (omega arith))
command_unbroken (Backup level name) fits =
    joined (codes "backup ") (decimal level ++ (codes " to " ++ quoted name)) refl
    (joined (decimal level) (codes " to " ++ quoted name) (number_unbroken level (omega (arith, fits.0))) (joined (codes " to ") (quoted name) refl (name_unbroken 100 name fits.1)))
command_unbroken (BackupSince guid name) fits = absurd fits
command_unbroken Activate fits = absurd fits
command_unbroken (CopyTo name) fits = joined (codes "copy to ") (quoted name) refl (name_unbroken 100 name fits)
command_unbroken (CreateTable table) fits = joined (codes "create table ") table refl (table_unbroken table fits)
command_unbroken (DropTable table) fits = joined (codes "drop table ") table refl (table_unbroken table fits)
command_unbroken (Insert table key text) fits = joined (codes "insert ") (row_text_of table key ++ (codes " " ++ quoted text)) refl (row_text_unbroken table key text fits.0 fits.1 fits.2)
command_unbroken (Update table key text) fits = joined (codes "update ") (row_text_of table key ++ (codes " " ++ quoted text)) refl (row_text_unbroken table key text fits.0 fits.1 fits.2)
command_unbroken (Delete table key) fits = joined (codes "delete ") (row_text_of table key) refl (row_unbroken table key fits.0 fits.1)
command_unbroken (Get table key) fits = joined (codes "get ") (row_text_of table key) refl (row_unbroken table key fits.0 fits.1)
command_unbroken (Scan table) fits = joined (codes "scan ") table refl (table_unbroken table fits)
command_unbroken (Forced true) fits = refl
command_unbroken (Forced false) fits = refl
command_unbroken (Access true) fits = refl
command_unbroken (Access false) fits = refl
command_unbroken other fits = refl

database_unbroken : (s : Statement) → FitsFirst s → Unbroken (command_text s)
database_unbroken (CreateDb name page_size raw cache) fits =
    joined (codes "create database ") (quoted name ++ (sizes_text page_size raw ++ cache_text cache)) refl
    (joined (quoted name) (sizes_text page_size raw ++ cache_text cache) (name_unbroken 94 name fits.0) (joined (sizes_text page_size raw) (cache_text cache) (sizes_unbroken page_size raw fits.1 fits.2) (cache_unbroken cache fits.4)))
database_unbroken (OpenDb name cache) fits = joined (codes "open ") (quoted name ++ cache_text cache) refl (joined (quoted name) (cache_text cache) (name_unbroken 94 name fits.0) (cache_unbroken cache fits.2))
database_unbroken other fits = absurd fits

after_session : (session : ℕ) (command : Bytes) → session ≤ 16 → Unbroken command → Unbroken (decimal session ++ (codes ": " ++ command))
after_session session command small is = joined (decimal session) (codes ": " ++ command) (number_unbroken session (omega arith)) (joined (codes ": ") command refl is)

pub line_unbroken : (session : ℕ) (s : Statement) → session ≤ 16 → Fits s → Unbroken (line_text session s)
unfolding line_text
line_unbroken session s small fits = after_session session (command_text s) small (command_unbroken s fits)

pub first_line_unbroken : (session : ℕ) (s : Statement) → session ≤ 16 → FitsFirst s → Unbroken (line_text session s)
unfolding line_text
first_line_unbroken session s small fits = after_session session (command_text s) small (database_unbroken s fits)

sessions_unbroken : (order : List ℕ) → AllByRecursion IsSession order → Unbroken (spaced_sessions order)
unfolding spaced_sessions
sessions_unbroken [] all = refl
sessions_unbroken (session ∷ others) all =
    joined (codes " ") (decimal session ++ spaced_sessions others) refl (joined (decimal session) (spaced_sessions others) (number_unbroken session (omega (arith, all.0.1))) (sessions_unbroken others all.1))

pub order_unbroken : (order : List ℕ) → AllByRecursion IsSession order → Unbroken (codes "schedule" ++ spaced_sessions order)
order_unbroken order all = joined (codes "schedule") (spaced_sessions order) refl (sessions_unbroken order all)
