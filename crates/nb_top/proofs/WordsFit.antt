-- What words name fits: its names are those that words may give, by the rows of the grammar.
use Rattle.std.proofs.Common.{◌≡◌, ℕ, ◌-◌, List, [], ◌∷◌, length, true, false, refl, subst, arith, Bool, ◌&&◌, ◌==◌, nat_le, slice_index, codes, Option, Some, None}
use Rattle.nb_top.proofs.Common.{AllByRecursion, list_all, and_parts, leb-true, same_name, Ask, Stat, Check, Reclaim, Backup, BackupSince, Lock, LockWithSize, Unlock, Activate, Restore, Fixup, Apply, Fold, Job, Run, Gen, Attach, Turn, Ship, Word, are_flags, is_database, is_file, job_if, number_in_word, count_in_word, asks_change, asks_one, named_job, gen_job, plan_job, ship_job, job_of_three, fold_job, plain_job, backup_job, restore_job, apply_job, ask_job, fixup_job, read_words, job_of_flags, job_read, job_of, FitsAsk, FitsJob}
use Rattle.nb_model.specs.declared.job.Job.TheVariants.{Plan as PlanOf}
use Rattle.nb_model.specs.Words.{Read}

-- The names of a job that words give.
abbrev IfJob : Option Job → Type 0
IfJob None = Unit {0}
IfJob (Some job) = FitsJob job

if_fits : (b : Bool) (job : Job) → (b ≡ true → FitsJob job) → IfJob (job_if b job)
if_fits true job fits = fits refl
if_fits false job fits = tt

ask_fits : (ask : Ask) → FitsAsk ask → (plain : List Word) → IfJob (ask_job ask plain)
ask_fits ask fits [] = tt
ask_fits ask fits (db ∷ []) = if_fits (is_database db) (Attach db ask) (λ is. (is, fits))
ask_fits ask fits (db ∷ w ∷ ws) = tt

fixup_fits : (plain : List Word) → IfJob (fixup_job plain)
fixup_fits [] = tt
fixup_fits (db ∷ []) = if_fits (is_database db) (Turn (Fixup db)) (λ is. is)
fixup_fits (db ∷ w ∷ ws) = tt

apply_fits : (plain : List Word) → IfJob (apply_job plain)
apply_fits [] = tt
apply_fits (db ∷ []) = tt
apply_fits (db ∷ file ∷ []) = if_fits (is_database db && is_file file) (Turn (Apply db file)) (λ is. and_parts (is_database db) (is_file file) is)
apply_fits (db ∷ file ∷ w ∷ ws) = tt

restore_fits : (plain : List Word) → IfJob (restore_job plain)
restore_fits [] = tt
restore_fits (db ∷ files) = if_fits (is_database db && nat_le 1 (length files) && nat_le (length files) 10 && list_all is_file files) (Turn (Restore db files)) fits
  where
    fits : (is_database db && nat_le 1 (length files) && nat_le (length files) 10 && list_all is_file files) ≡ true → FitsJob (Turn (Restore db files))
    fits is =
        let all = and_parts (is_database db && nat_le 1 (length files) && nat_le (length files) 10) (list_all is_file files) is in
        let few = and_parts (is_database db && nat_le 1 (length files)) (nat_le (length files) 10) all.0 in
        let some = and_parts (is_database db) (nat_le 1 (length files)) few.0 in
        (some.0, leb-true 1 (length files) some.1, leb-true (length files) 10 few.1, all.1)

backup_fits : (plain : List Word) → IfJob (backup_job plain)
backup_fits [] = tt
backup_fits (since ∷ []) = tt
backup_fits (since ∷ db ∷ []) = tt
backup_fits (since ∷ db ∷ file ∷ []) = by _
  where
    is_level : Bool
    is_level = length since == 1 && (nat_le 48 (slice_index since 0) && nat_le (slice_index since 0) 57) && is_database db && is_file file

    fits : is_level ≡ true → FitsJob (Attach db (Backup (slice_index since 0 - 48) file))
    fits is =
        let all = and_parts (length since == 1 && (nat_le 48 (slice_index since 0) && nat_le (slice_index since 0) 57) && is_database db) (is_file file) is in
        let names = and_parts (length since == 1 && (nat_le 48 (slice_index since 0) && nat_le (slice_index since 0) 57)) (is_database db) all.0 in
        let digit = and_parts (length since == 1) (nat_le 48 (slice_index since 0) && nat_le (slice_index since 0) 57) names.0 in
        let most = leb-true (slice_index since 0) 57 (and_parts (nat_le 48 (slice_index since 0)) (nat_le (slice_index since 0) 57) digit.1).1 in
        (names.1, (omega (arith, most), all.1))

    by : (guid : Option (List ℕ)) → IfJob (elim guid as (λ z. Option Job) [ Some g ↦ job_if (is_database db && is_file file) (Attach db (BackupSince g file)) | None ↦ job_if is_level (Attach db (Backup (slice_index since 0 - 48) file)) ])
    by (Some g) = if_fits (is_database db && is_file file) (Attach db (BackupSince g file)) (λ is. and_parts (is_database db) (is_file file) is)
    by None = if_fits is_level (Attach db (Backup (slice_index since 0 - 48) file)) fits
backup_fits (since ∷ db ∷ file ∷ w ∷ ws) = tt

change_fits : (verb name : Word) → is_database name ≡ true → IfJob (asks_change verb name)
change_fits verb name is = by (same_name verb (codes "reclaim"))
  where
    by : (r : Bool) → IfJob (elim r as (λ z. Option Job) [ true ↦ Some (Attach name Reclaim) | false ↦ job_if (same_name verb (codes "activate")) (Attach name Activate) ])
    by true = (is, tt)
    by false = if_fits (same_name verb (codes "activate")) (Attach name Activate) (λ yes. (is, tt))

one_fits : (verb name : Word) → is_database name ≡ true → IfJob (asks_one verb name)
one_fits verb name is = by (same_name verb (codes "stat")) (same_name verb (codes "check"))
  where
    by : (s c : Bool) → IfJob (elim s as (λ z. Option Job) [ true ↦ Some (Attach name Stat) | false ↦ elim c as (λ z. Option Job) [ true ↦ Some (Attach name Check) | false ↦ asks_change verb name ] ])
    by true c = (is, tt)
    by false true = (is, tt)
    by false false = change_fits verb name is

named_fits : (plain : List Word) → IfJob (named_job plain)
named_fits [] = tt
named_fits (verb ∷ []) = tt
named_fits (verb ∷ name ∷ []) = by (same_name verb (codes "run")) (is_database name) refl
  where
    by : (b d : Bool) → is_database name ≡ d → IfJob (elim b as (λ z. Option Job) [ true ↦ job_if (is_file name) (Run name) | false ↦ elim d as (λ z. Option Job) [ true ↦ asks_one verb name | false ↦ None ] ])
    by true d is = if_fits (is_file name) (Run name) (λ yes. tt)
    by false true is = one_fits verb name is
    by false false is = tt
named_fits (verb ∷ name ∷ w ∷ ws) = tt

gen_fits : (number name : Word) → IfJob (gen_job number name)
gen_fits number name = by (number_in_word number)
  where
    by : (n : Option ℕ) → IfJob (elim n as (λ z. Option Job) [ None ↦ None | Some k ↦ job_if (is_file name) (Gen k name) ])
    by None = tt
    by (Some k) = if_fits (is_file name) (Gen k name) (λ is. is)

plan_fits : (keep list : Word) → IfJob (plan_job keep list)
plan_fits keep list = by (count_in_word keep)
  where
    by : (n : Option ℕ) → IfJob (elim n as (λ z. Option Job) [ None ↦ None | Some k ↦ job_if (is_file list) (PlanOf k list) ])
    by None = tt
    by (Some k) = if_fits (is_file list) (PlanOf k list) (λ is. tt)

ship_fits : (primary standby : Word) → IfJob (ship_job primary standby)
ship_fits primary standby = if_fits (is_database primary && is_database standby) (Ship primary standby) (λ is. and_parts (is_database primary) (is_database standby) is)

three_fits : (plain : List Word) → IfJob (job_of_three plain)
three_fits [] = tt
three_fits (verb ∷ []) = tt
three_fits (verb ∷ name ∷ []) = tt
three_fits (verb ∷ one ∷ other ∷ []) = by (same_name verb (codes "gen")) (same_name verb (codes "plan")) (same_name verb (codes "ship"))
  where
    by : (a b c : Bool)
        → IfJob (elim a as (λ z. Option Job) [ true ↦ gen_job one other | false ↦ elim b as (λ z. Option Job) [ true ↦ plan_job one other | false ↦ elim c as (λ z. Option Job) [ true ↦ ship_job one other | false ↦ None ] ] ])
    by true b c = gen_fits one other
    by false true c = plan_fits one other
    by false false true = ship_fits one other
    by false false false = tt
three_fits (verb ∷ one ∷ other ∷ w ∷ ws) = tt

fold_fits : (plain : List Word) → IfJob (fold_job plain)
fold_fits [] = tt
fold_fits (verb ∷ []) = tt
fold_fits (verb ∷ out ∷ files) = if_fits (same_name verb (codes "fold") && is_file out && nat_le 2 (length files) && nat_le (length files) 9 && list_all is_file files) (Turn (Fold out files)) fits
  where
    fits : (same_name verb (codes "fold") && is_file out && nat_le 2 (length files) && nat_le (length files) 9 && list_all is_file files) ≡ true → FitsJob (Turn (Fold out files))
    fits is =
        let all = and_parts (same_name verb (codes "fold") && is_file out && nat_le 2 (length files) && nat_le (length files) 9) (list_all is_file files) is in
        let few = and_parts (same_name verb (codes "fold") && is_file out && nat_le 2 (length files)) (nat_le (length files) 9) all.0 in
        let some = and_parts (same_name verb (codes "fold") && is_file out) (nat_le 2 (length files)) few.0 in
        ((and_parts (same_name verb (codes "fold")) (is_file out) some.0).1, leb-true 2 (length files) some.1, leb-true (length files) 9 few.1, all.1)

plain_fits : (plain : List Word) → IfJob (plain_job plain)
plain_fits [] = tt
plain_fits (verb ∷ []) = tt
plain_fits (verb ∷ name ∷ []) = named_fits (verb ∷ name ∷ [])
plain_fits (verb ∷ one ∷ other ∷ []) = three_fits (verb ∷ one ∷ other ∷ [])
plain_fits (verb ∷ out ∷ file ∷ other ∷ files) = fold_fits (verb ∷ out ∷ file ∷ other ∷ files)

flags_fit : (flags : List ℕ) (rows : List (List ℕ × Option Job)) → AllByRecursion (λ (row : List ℕ × Option Job). IfJob row.1) rows → IfJob (job_of_flags flags rows)
unfolding job_of_flags
flags_fit flags [] all = tt
flags_fit flags (row ∷ rows) all = by (are_flags flags row.0) (flags_fit flags rows all.1)
  where
    by : (b : Bool) → IfJob (job_of_flags flags rows) → IfJob (elim b as (λ z. Option Job) [ true ↦ row.1 | false ↦ job_of_flags flags rows ])
    by true later = all.0
    by false later = later

flags_fits : (read : Read) → IfJob (job_read read)
unfolding job_read
flags_fits read = flags_fit read.flags _
    (plain_fits read.plain, (backup_fits read.plain, (restore_fits read.plain, (apply_fits read.plain, (ask_fits Lock tt read.plain, (ask_fits LockWithSize tt read.plain, (ask_fits Unlock tt read.plain, (fixup_fits read.plain, tt))))))))

words_fit : (words : List Word) → IfJob (job_of words)
unfolding job_of
words_fit words = by (read_words words)
  where
    by : (read : Option Read) → IfJob (elim read as (λ z. Option Job) [ None ↦ None | Some r ↦ job_read r ])
    by None = tt
    by (Some r) = flags_fits r

pub fits_words : (words : List Word) (job : Job) → job_of words ≡ Some job → FitsJob job
fits_words words job is = subst IfJob is (words_fit words)
