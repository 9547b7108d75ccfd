-- The table is the definition's choice: for any flags and plain words the cell stands for the job that they name.
use Rattle.std.proofs.Common.{◌≡◌, ◌∙◌, ◌≤◌, ℕ, zero, suc, ◌==◌, ◌&&◌, Bool, true, false, min, List, [], ◌∷◌, length, drop, slice_index, Option, None, refl, ap, sym, codes, nat_le, arith}
use Rattle.nb_words.proofs.Common.{same_name, list_all, position_or_len, slice_index_or, and_left, and_right, and_parts, eqb-true, lt-leb, Word, are_flags, job_read, job_of_flags, job_if, plain_job, fold_job, backup_job, restore_job, apply_job, ask_job, fixup_job, is_database, is_file, Lock, LockWithSize, Unlock, Restore, Fold, Job, Turn, IsTheChoice, choices, column_of, job_in}

-- from a column on a row has zeros
zero_from : (row : List ℕ) (k i : ℕ) → list_all (λ c. c == 0) (drop k row) ≡ true → k ≤ i → slice_index row i ≡ 0
zero_from [] k i zeros le = refl
zero_from (c ∷ cs) zero zero zeros le = eqb-true c 0 (and_parts (c == 0) (list_all (λ d. d == 0) cs) zeros).0
zero_from (c ∷ cs) zero (suc i) zeros le = zero_from cs 0 i (and_parts (c == 0) (list_all (λ d. d == 0) cs) zeros).1 (omega arith)
zero_from (c ∷ cs) (suc k) zero zeros le = absurd (omega (arith, le))
zero_from (c ∷ cs) (suc k) (suc i) zeros le = zero_from cs k i zeros (omega (arith, le))

-- a row of the table
abbrev cells : ℕ → List ℕ
cells k = slice_index_or choices k []

-- the cells of a row, as jobs
abbrev at : List ℕ → List Word → Option Job
at row plain = job_in (slice_index row (column_of plain)) plain

past : (row : List ℕ) (k : ℕ) (plain : List Word) → list_all (λ c. c == 0) (drop k row) ≡ true → k ≤ 12 → k ≤ length plain → at row plain ≡ None
past row k plain zeros in_row le = ap (λ c. job_in c plain) (zero_from row k (min (length plain) 12) zeros (omega (arith, in_row, le)))

-- a test of five parts fails by its fourth
fourth_fails : (a b c d e : Bool) → d ≡ false → (a && b && c && d && e) ≡ false
fourth_fails a b c d e f = rw f (and_left (a && b && c && false) e (and_right (a && b && c) false refl))

over_nine : (verb out : Word) (files : List Word) → 10 ≤ length files → None ≡ fold_job (verb ∷ out ∷ files)
over_nine verb out files le =
    sym (ap (λ b. job_if b (Turn (Fold out files))) (fourth_fails (same_name verb (codes "fold")) (is_file out) (nat_le 2 (length files)) (nat_le (length files) 9) (list_all is_file files) (lt-leb (length files) 9 (omega (arith, le)))))

plain_row : (plain : List Word) → at (cells 0) plain ≡ plain_job plain
plain_row [] = refl
plain_row (a ∷ []) = refl
plain_row (a ∷ b ∷ []) = refl
plain_row (a ∷ b ∷ c ∷ []) = refl
plain_row (a ∷ b ∷ c ∷ d ∷ []) = refl
plain_row (a ∷ b ∷ c ∷ d ∷ e ∷ []) = refl
plain_row (a ∷ b ∷ c ∷ d ∷ e ∷ f ∷ []) = refl
plain_row (a ∷ b ∷ c ∷ d ∷ e ∷ f ∷ g ∷ []) = refl
plain_row (a ∷ b ∷ c ∷ d ∷ e ∷ f ∷ g ∷ h ∷ []) = refl
plain_row (a ∷ b ∷ c ∷ d ∷ e ∷ f ∷ g ∷ h ∷ i ∷ []) = refl
plain_row (a ∷ b ∷ c ∷ d ∷ e ∷ f ∷ g ∷ h ∷ i ∷ j ∷ []) = refl
plain_row (a ∷ b ∷ c ∷ d ∷ e ∷ f ∷ g ∷ h ∷ i ∷ j ∷ k ∷ []) = refl
plain_row (a ∷ b ∷ c ∷ d ∷ e ∷ f ∷ g ∷ h ∷ i ∷ j ∷ k ∷ l ∷ rest) =
    past (cells 0) 12 (a ∷ b ∷ c ∷ d ∷ e ∷ f ∷ g ∷ h ∷ i ∷ j ∷ k ∷ l ∷ rest) refl (omega arith) (omega arith)
    ∙ over_nine a b (c ∷ d ∷ e ∷ f ∷ g ∷ h ∷ i ∷ j ∷ k ∷ l ∷ rest) (omega arith)

backup_row : (plain : List Word) → at (cells 1) plain ≡ backup_job plain
backup_row [] = refl
backup_row (a ∷ []) = refl
backup_row (a ∷ b ∷ []) = refl
backup_row (a ∷ b ∷ c ∷ []) = refl
backup_row (a ∷ b ∷ c ∷ d ∷ rest) = past (cells 1) 4 (a ∷ b ∷ c ∷ d ∷ rest) refl (omega arith) (omega arith)

too_many : (db : Word) (files : List Word) → 11 ≤ length files → None ≡ restore_job (db ∷ files)
too_many db files le = sym (ap (λ b. job_if b (Turn (Restore db files))) (past_ten (is_database db) (nat_le 1 (length files)) (nat_le (length files) 10) (list_all is_file files) (lt-leb (length files) 10 (omega (arith, le))))) where
  past_ten : (a b c d : Bool) → c ≡ false → (a && b && c && d) ≡ false
  past_ten a b c d e = rw e (and_left (a && b && false) d (and_right (a && b) false refl))

too_few : (db : Word) → None ≡ restore_job (db ∷ [])
too_few db = sym (ap (λ b. job_if b (Turn (Restore db []))) (none_given (is_database db))) where
  none_given : (a : Bool) → (a && false && true && true) ≡ false
  none_given true = refl
  none_given false = refl

restore_row : (plain : List Word) → at (cells 2) plain ≡ restore_job plain
restore_row [] = refl
restore_row (db ∷ []) = too_few db
restore_row (db ∷ a ∷ []) = refl
restore_row (db ∷ a ∷ b ∷ []) = refl
restore_row (db ∷ a ∷ b ∷ c ∷ []) = refl
restore_row (db ∷ a ∷ b ∷ c ∷ d ∷ []) = refl
restore_row (db ∷ a ∷ b ∷ c ∷ d ∷ e ∷ []) = refl
restore_row (db ∷ a ∷ b ∷ c ∷ d ∷ e ∷ f ∷ []) = refl
restore_row (db ∷ a ∷ b ∷ c ∷ d ∷ e ∷ f ∷ g ∷ []) = refl
restore_row (db ∷ a ∷ b ∷ c ∷ d ∷ e ∷ f ∷ g ∷ h ∷ []) = refl
restore_row (db ∷ a ∷ b ∷ c ∷ d ∷ e ∷ f ∷ g ∷ h ∷ i ∷ []) = refl
restore_row (db ∷ a ∷ b ∷ c ∷ d ∷ e ∷ f ∷ g ∷ h ∷ i ∷ j ∷ []) = refl
restore_row (db ∷ a ∷ b ∷ c ∷ d ∷ e ∷ f ∷ g ∷ h ∷ i ∷ j ∷ k ∷ rest) =
    past (cells 2) 12 (db ∷ a ∷ b ∷ c ∷ d ∷ e ∷ f ∷ g ∷ h ∷ i ∷ j ∷ k ∷ rest) refl (omega arith) (omega arith)
    ∙ too_many db (a ∷ b ∷ c ∷ d ∷ e ∷ f ∷ g ∷ h ∷ i ∷ j ∷ k ∷ rest) (omega arith)

apply_row : (plain : List Word) → at (cells 3) plain ≡ apply_job plain
apply_row [] = refl
apply_row (a ∷ []) = refl
apply_row (a ∷ b ∷ []) = refl
apply_row (a ∷ b ∷ c ∷ rest) = past (cells 3) 3 (a ∷ b ∷ c ∷ rest) refl (omega arith) (omega arith)

lock_row : (plain : List Word) → at (cells 4) plain ≡ ask_job Lock plain
lock_row [] = refl
lock_row (a ∷ []) = refl
lock_row (a ∷ b ∷ rest) = past (cells 4) 2 (a ∷ b ∷ rest) refl (omega arith) (omega arith)

size_row : (plain : List Word) → at (cells 5) plain ≡ ask_job LockWithSize plain
size_row [] = refl
size_row (a ∷ []) = refl
size_row (a ∷ b ∷ rest) = past (cells 5) 2 (a ∷ b ∷ rest) refl (omega arith) (omega arith)

unlock_row : (plain : List Word) → at (cells 6) plain ≡ ask_job Unlock plain
unlock_row [] = refl
unlock_row (a ∷ []) = refl
unlock_row (a ∷ b ∷ rest) = past (cells 6) 2 (a ∷ b ∷ rest) refl (omega arith) (omega arith)

fixup_row : (plain : List Word) → at (cells 7) plain ≡ fixup_job plain
fixup_row [] = refl
fixup_row (a ∷ []) = refl
fixup_row (a ∷ b ∷ rest) = past (cells 7) 2 (a ∷ b ∷ rest) refl (omega arith) (omega arith)

other_row : (plain : List Word) → at (cells 8) plain ≡ None
other_row plain = past (cells 8) 0 plain refl (omega arith) (omega arith)

-- ---- the rows

-- the job of the first row whose test holds
abbrev pub picked : List Bool → List (Option Job) → Option Job
picked [] jobs = None
picked (b ∷ bs) [] = None
picked (b ∷ bs) (job ∷ jobs) = elim b [ true ↦ job | false ↦ picked bs jobs ]

cells_by : (plain : List Word) (a b c d e f g h : Bool) → at (cells (position_or_len (λ t. t) (a ∷ b ∷ c ∷ d ∷ e ∷ f ∷ g ∷ h ∷ []))) plain
    ≡ picked (a ∷ b ∷ c ∷ d ∷ e ∷ f ∷ g ∷ h ∷ []) (plain_job plain ∷ backup_job plain ∷ restore_job plain ∷ apply_job plain ∷ ask_job Lock plain ∷ ask_job LockWithSize plain ∷ ask_job Unlock plain ∷ fixup_job plain ∷ [])
cells_by plain true b c d e f g h = plain_row plain
cells_by plain false true c d e f g h = backup_row plain
cells_by plain false false true d e f g h = restore_row plain
cells_by plain false false false true e f g h = apply_row plain
cells_by plain false false false false true f g h = lock_row plain
cells_by plain false false false false false true g h = size_row plain
cells_by plain false false false false false false true h = unlock_row plain
cells_by plain false false false false false false false true = fixup_row plain
cells_by plain false false false false false false false false = other_row plain

pub is_the_choice : IsTheChoice choices
unfolding job_read job_of_flags
is_the_choice flags plain =
    cells_by plain (are_flags flags (codes "")) (are_flags flags (codes "B")) (are_flags flags (codes "R")) (are_flags flags (codes "IR"))
    (are_flags flags (codes "L")) (are_flags flags (codes "LS")) (are_flags flags (codes "N")) (are_flags flags (codes "F"))
