-- Which job the words of the command line name, and on which database.
use Rattle.std.specs.Prelude.{ℕ, ◌-◌, ◌^◌, Bool, true, false, ◌&&◌, ◌||◌, ◌==◌, not, nat_le, nat_lt, nat_eq, List, [], ◌∷◌, ◌++◌, length, drop, slice_index, Option, None, Some, codes}
use Rattle.std.specs.List.{list_all, list_any}
use Rattle.std.specs.Str.Parse.{digits_value}
use Rattle.uuid.specs.Text.{parsed_hyphenated}
use Rattle.nb_host.specs.Names.{is_name, is_delta, same_name}
use Rattle.nb_model.specs.declared.job.Ask.{Ask}
use Rattle.nb_model.specs.declared.job.Ask.TheVariants.{Stat, Check, Reclaim, Backup, BackupSince, Lock, LockWithSize, Unlock, Activate}
use Rattle.nb_model.specs.declared.job.Deed.{Deed}
use Rattle.nb_model.specs.declared.job.Deed.TheVariants.{Restore, Fixup, Apply, Fold, Plan as PlanFiles}
use Rattle.nb_model.specs.declared.job.Job.{Job}
use Rattle.nb_model.specs.declared.job.Job.TheVariants.{Run, Gen, Attach, Turn, Plan, Ship}

abbrev pub Word : Type 0
Word = List ℕ

-- the letters of the flags that were given, in order, and the plain words
pub record Read : Type 0 where
  pub flags : List ℕ
  pub plain : List Word

-- a word of two or more bytes that begins with a dash
abbrev pub is_flags : Word → Bool
is_flags word = nat_le 2 (length word) && slice_index word 0 == 45

-- one of B, R, L, S, N, F and I
abbrev pub is_flag : ℕ → Bool
is_flag letter = list_any (nat_eq letter) (codes "BRLSNFI")

abbrev pub with_flags : List ℕ → Option Read → Option Read
with_flags letters None = None
with_flags letters (Some r) = Some (record { flags = letters ++ r.flags; plain = r.plain })

abbrev pub with_word : Word → Option Read → Option Read
with_word word None = None
with_word word (Some r) = Some (record { flags = r.flags; plain = word ∷ r.plain })

-- Flags may stand before, between and after plain words, until the first word `--`, which is dropped and after which all words
-- are plain. A letter that is no flag leaves nothing.
unfoldable pub read_words : List Word → Option Read
read_words [] = Some (record { flags = []; plain = [] })
read_words (w ∷ ws) = elim (same_name w (codes "--")) [
  | true ↦ Some (record { flags = []; plain = ws })
  | false ↦ elim (is_flags w) [
    | false ↦ with_word w (read_words ws)
    | true ↦ elim (list_all is_flag (drop 1 w)) [ true ↦ with_flags (drop 1 w) (read_words ws) | false ↦ None ]
  ]
]

-- these flags were given, each once, and no other
abbrev pub are_flags : List ℕ → List ℕ → Bool
are_flags given wanted = length given == length wanted && list_all (λ letter. list_any (nat_eq letter) given) wanted

-- the name of a file that a user may give
abbrev pub is_file : Word → Bool
is_file word = is_name word && not (is_delta word)

-- of a database: the name of its difference file has to be a name too
abbrev pub is_database : Word → Bool
is_database word = is_file word && nat_le (length word) 94

-- decimal digits without a needless zero in front, below 2 ^ 64
unfoldable pub number_in_word : Word → Option ℕ
number_in_word word = elim (
    nat_lt 0 (length word) && (list_all (λ b. nat_le 48 b && nat_le b 57) word && ((length word == 1 || not (slice_index word 0 == 48)) && nat_lt (digits_value 10 word) (2 ^ 64)))) [
      | true ↦ Some (digits_value 10 word)
      | false ↦ None
    ]

-- a number of 32 bits
abbrev pub count_in_word : Word → Option ℕ
count_in_word word = elim (number_in_word word) [ None ↦ None | Some n ↦ elim (nat_le n 4294967295) [ true ↦ Some n | false ↦ None ] ]

-- a job where a test holds
abbrev pub job_if : Bool → Job → Option Job
job_if true job = Some job
job_if false job = None

-- what the first word asks to be changed of one database: its leaked pages are given back, or its backup is ended
abbrev pub asks_change : (verb name : Word) → Option Job
asks_change verb name = elim (same_name verb (codes "reclaim")) [ true ↦ Some (Attach name Reclaim) | false ↦ job_if (same_name verb (codes "activate")) (Attach name Activate) ]

-- what it asks of one database: its statistics, a check, or such a change
abbrev pub asks_one : (verb name : Word) → Option Job
asks_one verb name = elim (same_name verb (codes "stat")) [
  | true ↦ Some (Attach name Stat)
  | false ↦ elim (same_name verb (codes "check")) [ true ↦ Some (Attach name Check) | false ↦ asks_change verb name ]
]

-- the run of a script, or a job on one database that is named by its first word
abbrev pub named_job : List Word → Option Job
named_job (verb ∷ name ∷ []) = elim (same_name verb (codes "run")) [
  | true ↦ job_if (is_file name) (Run name)
  | false ↦ elim (is_database name) [ true ↦ asks_one verb name | false ↦ None ]
]
named_job other = None

-- the script of a number
abbrev pub gen_job : (number name : Word) → Option Job
gen_job number name = elim (number_in_word number) [ None ↦ None | Some n ↦ job_if (is_file name) (Gen n name) ]

-- which files of a list so many restore points need
abbrev pub plan_job : (keep list : Word) → Option Job
plan_job keep list = elim (count_in_word keep) [ None ↦ None | Some k ↦ job_if (is_file list) (Plan k list) ]

-- a standby is brought up to the state of a primary
abbrev pub ship_job : (primary standby : Word) → Option Job
ship_job primary standby = job_if (is_database primary && is_database standby) (Ship primary standby)

-- what the first of three words names
abbrev pub job_of_three : List Word → Option Job
job_of_three (verb ∷ one ∷ other ∷ []) = elim (same_name verb (codes "gen")) [
  | true ↦ gen_job one other
  | false ↦ elim (same_name verb (codes "plan")) [
    | true ↦ plan_job one other
    | false ↦ elim (same_name verb (codes "ship")) [ true ↦ ship_job one other | false ↦ None ]
  ]
]
job_of_three other = None

-- 2 to 9 files are folded into one
abbrev pub fold_job : List Word → Option Job
fold_job (verb ∷ out ∷ files) = job_if (same_name verb (codes "fold") && is_file out && nat_le 2 (length files) && nat_le (length files) 9 && list_all is_file files) (Turn (Fold out files))
fold_job other = None

-- what the first word names where no flag is given
abbrev pub plain_job : List Word → Option Job
plain_job (verb ∷ name ∷ []) = named_job (verb ∷ name ∷ [])
plain_job (verb ∷ one ∷ other ∷ []) = job_of_three (verb ∷ one ∷ other ∷ [])
plain_job (verb ∷ out ∷ file ∷ other ∷ files) = fold_job (verb ∷ out ∷ file ∷ other ∷ files)
plain_job other = None

-- a backup of a level, or since a GUID
abbrev pub backup_job : List Word → Option Job
backup_job (since ∷ db ∷ file ∷ []) = elim (parsed_hyphenated since) [
  | Some guid ↦ job_if (is_database db && is_file file) (Attach db (BackupSince guid file))
  | None ↦ job_if (length since == 1 && (nat_le 48 (slice_index since 0) && nat_le (slice_index since 0) 57) && is_database db && is_file file) (Attach db (Backup (slice_index since 0 - 48) file))
]
backup_job other = None

abbrev pub restore_job : List Word → Option Job
restore_job (db ∷ files) = job_if (is_database db && nat_le 1 (length files) && nat_le (length files) 10 && list_all is_file files) (Turn (Restore db files))
restore_job other = None

abbrev pub apply_job : List Word → Option Job
apply_job (db ∷ file ∷ []) = job_if (is_database db && is_file file) (Turn (Apply db file))
apply_job other = None

-- one database is opened, and asked this
abbrev pub ask_job : Ask → List Word → Option Job
ask_job ask (db ∷ []) = job_if (is_database db) (Attach db ask)
ask_job ask other = None

-- one copy becomes a database
abbrev pub fixup_job : List Word → Option Job
fixup_job (db ∷ []) = job_if (is_database db) (Turn (Fixup db))
fixup_job other = None

-- the first whose flags were given
unfoldable pub job_of_flags : (given : List ℕ) → List (List ℕ × Option Job) → Option Job
job_of_flags given [] = None
job_of_flags given (row ∷ rows) = elim (are_flags given row.0) [ true ↦ row.1 | false ↦ job_of_flags given rows ]

-- by the flags
unfoldable pub job_read : Read → Option Job
job_read r = job_of_flags r.flags (
    (codes "", plain_job r.plain)
    ∷ (codes "B", backup_job r.plain)
    ∷ (codes "R", restore_job r.plain)
    ∷ (codes "IR", apply_job r.plain)
    ∷ (codes "L", ask_job Lock r.plain)
    ∷ (codes "LS", ask_job LockWithSize r.plain)
    ∷ (codes "N", ask_job Unlock r.plain)
    ∷ (codes "F", fixup_job r.plain)
    ∷ [])

-- the job that the words name
unfoldable pub job_of : List Word → Option Job
job_of words = elim (read_words words) [ None ↦ None | Some read ↦ job_read read ]

-- the file that a deed makes or changes, if it does so to one
abbrev pub deed_file : Deed → Option Word
deed_file (Restore db files) = Some db
deed_file (Fixup db) = Some db
deed_file (Apply db file) = Some db
deed_file (Fold out files) = Some out
deed_file (PlanFiles keep files) = None

-- the same, where that is a database
abbrev pub deed_database : Deed → Option Word
deed_database (Restore db files) = Some db
deed_database (Fixup db) = Some db
deed_database (Apply db file) = Some db
deed_database (Fold out files) = None
deed_database (PlanFiles keep files) = None
