-- The jobs of the cells, by the words that they ask for.
use Rattle.std.proofs.Common.{drop, nat_le, take, ◌++◌, ◌-◌, ap₂, slice_index, ◌≡◌, ◌∙◌, ◌+◌, ◌<◌, ◌≤◌, ℕ, zero, suc, ◌&&◌, Bool, true, false, List, [], ◌∷◌, length, get_or, Option, Some, None, refl, ap, sym, subst, cond, arith, Bor, codes}
use Rattle.nb_words.proofs.Common.{parsed_hyphenated, Backup, BackupSince, Fold, Restore, Run, Attach, Turn, take_more, take_all, map-append, get_or_default, length-map, list_all, and_left, and_right, and_from, le-leb, same_name, Word, is_database, is_file, job_if, asks_one, named_job, backup_job, fold_job, restore_job, Job, is_level, named, words_of, some_same}

refused : (b : Bool) (w : Word) → cond b (Some w) None ≡ None → b ≡ false
refused true w e = absurd (cc)
refused false w e = refl

-- ---- a database that is named by its verb

pub asked_by_name : (verb name db : Word) (asked : Option Job) → same_name verb (codes "run") ≡ false → cond (is_database name) (Some name) None ≡ Some db → asked ≡ asks_one verb db → asked ≡ named_job (verb ∷ name ∷ [])
asked_by_name verb name db asked other is asks =
    subst (λ (b : Bool). asked ≡ elim b [ true ↦ job_if (is_file name) (Run name) | false ↦ elim (is_database name) [ true ↦ asks_one verb name | false ↦ None ] ]) (sym other) (by (is_database name) is)
  where
    by : (b : Bool) → cond b (Some name) None ≡ Some db → asked ≡ elim b [ true ↦ asks_one verb name | false ↦ None ]
    by true e = asks ∙ ap (λ (n : Word). asks_one verb n) (sym (some_same name db e))
    by false e = absurd (cc e)

-- ---- files

-- one word that is no name of a file
pub one_fails : (words : List (Bor Word)) (i : ℕ) (w : Bor Word) → i < length words → w ≡ get_or words i w → is_file w.now ≡ false → list_all is_file (words_of words) ≡ false
one_fails [] i w within is fails = absurd (omega (arith, within))
one_fails (v ∷ vs) zero w within is fails = and_left (is_file v.now) (list_all is_file (words_of vs)) (sym (ap (λ (x : Bor Word). is_file x.now) is) ∙ fails)
one_fails (v ∷ vs) (suc i) w within is fails = and_right (is_file v.now) (list_all is_file (words_of vs)) (one_fails vs i w (omega (arith, within)) is fails)

-- ---- a backup, of names that are read first

abbrev pair_if : Bool → Word × Word → Option (Word × Word)
pair_if b p = elim b [ true ↦ Some p | false ↦ None ]

unnamed : (d f : Bool) (p : Word × Word) → pair_if (d && f) p ≡ None → (d && f) ≡ false
unnamed true true p e = absurd (cc)
unnamed true false p e = refl
unnamed false f p e = refl

-- a backup since a GUID, or of a level
abbrev backup_by : Option (List ℕ) → Bool → Bool → (List ℕ → Job) → Job → Option Job
backup_by g named level since at = elim g [ Some guid ↦ job_if named (since guid) | None ↦ job_if level at ]

no_job : (g : Option (List ℕ)) (v d f : Bool) (since : List ℕ → Job) (level : Job) → (d && f) ≡ false → None ≡ backup_by g (d && f) (v && d && f) since level
no_job (Some guid) v d f since level e = sym (ap (λ b. job_if b (since guid)) e)
no_job None true d f since level e = sym (ap (λ b. job_if b level) e)
no_job None false d f since level e = refl

pub backup_unnamed : (since db file : Word) → named db file ≡ None → None ≡ backup_job (since ∷ db ∷ file ∷ [])
backup_unnamed since db file e =
    no_job (parsed_hyphenated since) (is_level since) (is_database db) (is_file file) (λ guid. Attach db (BackupSince guid file)) (Attach db (Backup (slice_index since 0 - 48) file)) (unnamed (is_database db) (is_file file) (db, file) e)

levelled : (v d f : Bool) (db file : Word) (n l : ℕ) (p : Word × Word) → pair_if (d && f) (db, file) ≡ Some p → cond v (Some n) None ≡ Some l → Some (Attach p.0 (Backup l p.1)) ≡ job_if (v && d && f) (Attach db (Backup n file))
levelled true true true db file n l p e h = ap₂ (λ (k : ℕ) (q : Word × Word). Some (Attach q.0 (Backup k q.1))) (sym (some_same n l h)) (sym (some_same {X = Word × Word} (db, file) p e))
levelled true true false db file n l p e h = absurd (cc)
levelled true false f db file n l p e h = absurd (cc)
levelled false d f db file n l p e h = absurd (cc)

pub backup_of_level : (since db file : Word) (l : ℕ) (p : Word × Word) → named db file ≡ Some p → parsed_hyphenated since ≡ None → cond (is_level since) (Some (slice_index since 0 - 48)) None ≡ Some l
    → Some (Attach p.0 (Backup l p.1)) ≡ backup_job (since ∷ db ∷ file ∷ [])
backup_of_level since db file l p e g h =
    levelled (is_level since) (is_database db) (is_file file) db file (slice_index since 0 - 48) l p e h
    ∙ sym (ap (λ (o : Option (List ℕ)). backup_by o (is_database db && is_file file) (is_level since && is_database db && is_file file) (λ guid. Attach db (BackupSince guid file)) (Attach db (Backup (slice_index since 0 - 48) file))) g)

-- ---- names, one after another

all_and_one : (xs : List Word) (w : Word) → list_all is_file (xs ++ w ∷ []) ≡ (list_all is_file xs && is_file w)
all_and_one [] w = and-true (is_file w) where
  and-true : (b : Bool) → (b && true) ≡ b
  and-true true = refl
  and-true false = refl
all_and_one (x ∷ xs) w = ap (λ b. is_file x && b) (all_and_one xs w) ∙ regrouped (is_file x) (list_all is_file xs) (is_file w) where
  regrouped : (a b c : Bool) → (a && (b && c)) ≡ (a && b && c)
  regrouped true b c = refl
  regrouped false b c = refl

-- the words that were taken, and that each is the name of a file
pub record Taken (words : List (Bor Word)) (i : ℕ) (names : List Word) : Type 0 where
  pub same : names ≡ words_of (take i words)
  pub all : list_all is_file (words_of (take i words)) ≡ true

one_word_more : (words : List (Bor Word)) (i : ℕ) (w : Bor Word) → i < length words → w ≡ get_or words i w → words_of (take (i + 1) words) ≡ words_of (take i words) ++ w.now ∷ []
one_word_more words i w within is =
    ap words_of (take_more words i w within) ∙ map-append (λ (s : Bor Word). s.now) (take i words) (get_or words i w ∷ []) ∙ ap (λ (s : Bor Word). words_of (take i words) ++ s.now ∷ []) (sym is)

pub taken_more : (words : List (Bor Word)) (i : ℕ) (w : Bor Word) (names more : List Word) → i < length words → w ≡ get_or words i w → is_file w.now ≡ true → Taken words i names → more ≡ names ++ w.now ∷ [] → Taken words (i + 1) more
taken_more words i w names more within is file t e =
    let grown = one_word_more words i w within is in
    record {
      same = e ∙ ap (λ (n : List Word). n ++ w.now ∷ []) t.same ∙ sym grown;
      all = ap (list_all is_file) grown ∙ all_and_one (words_of (take i words)) w.now ∙ ap₂ (λ a b. a && b) t.all file;
    }

pub nothing_taken : (words : List (Bor Word)) → Taken words 0 []
nothing_taken words = record { same = refl; all = refl }

-- all of them
pub taken_all : (words : List (Bor Word)) (i : ℕ) (names : List Word) → length words ≤ i → Taken words i names → Some names ≡ cond (list_all is_file (words_of words)) (Some (words_of words)) None
taken_all words i names past t =
    let whole = take_all i words past in
    let all : list_all is_file (words_of words) ≡ true = sym (ap (λ (w : List (Bor Word)). list_all is_file (words_of w)) whole) ∙ t.all in
    ap (λ (n : List Word). Some n) (t.same ∙ ap words_of whole) ∙ sym (ap (λ (b : Bool). cond b (Some (words_of words)) None) all)

is_some_of : {A : Type 0} (b : Bool) (w name : A) → cond b (Some w) None ≡ Some name → (b ≡ true) × (name ≡ w)
is_some_of true w name e = (refl, cc)
is_some_of false w name e = absurd (cc)

-- not all of them
pub not_all : (words : List (Bor Word)) (i : ℕ) (d : Bor Word) → i < length words → cond (is_file (get_or words i d).now) (Some (get_or words i d).now) None ≡ None → None ≡ cond (list_all is_file (words_of words)) (Some (words_of words)) None
not_all words i d within none =
    let w = get_or words i d in
    sym (ap (λ (b : Bool). cond b (Some (words_of words)) None) (one_fails words i w within (get_or_default words i d w within) (refused (is_file w.now) w.now none)))

-- one word more
pub one_taken : (words : List (Bor Word)) (i : ℕ) (d : Bor Word) (names more : List Word) (name : Word) → i < length words → cond (is_file (get_or words i d).now) (Some (get_or words i d).now) None ≡ Some name → Taken words i names → more ≡ names ++ name ∷ [] → Taken words (i + 1) more
one_taken words i d names more name within is t e =
    let w = get_or words i d in
    let n = is_some_of (is_file w.now) w.now name is in
    taken_more words i w names more within (get_or_default words i d w within) n.0 t (e ∙ ap (λ (x : Word). names ++ x ∷ []) n.1)

-- ---- the words by their places

-- ---- restoring

all_four : (a b c d : Bool) → a ≡ true → b ≡ true → c ≡ true → d ≡ true → (a && b && c && d) ≡ true
all_four a b c d e f g h = and_from (a && b && c) d (and_from (a && b) c (and_from a b e f) g) h

pub restored : (words : List (Bor Word)) (d : Bor Word) (db : Word) (files : List Word) → 2 ≤ length words → length words ≤ 11
    → cond (is_database (get_or words 0 d).now) (Some (get_or words 0 d).now) None ≡ Some db
    → cond (list_all is_file (words_of (take (length words - 1) (drop 1 words)))) (Some (words_of (take (length words - 1) (drop 1 words)))) None ≡ Some files
    → Some (Turn (Restore db files)) ≡ restore_job (words_of words)
restored [] d db files least most named all = absurd (omega (arith, least))
restored (w ∷ ws) d db files least most named all =
    let first = is_some_of (is_database w.now) w.now db named in
    let behind : take (length (w ∷ ws) - 1) ws ≡ ws = take_all (length (w ∷ ws) - 1) ws (omega arith) in
    let rest = is_some_of (list_all is_file (words_of ws)) (words_of ws) files (subst (λ (r : List (Bor Word)). cond (list_all is_file (words_of r)) (Some (words_of r)) None ≡ Some files) behind all) in
    let count : length (words_of ws) ≡ length ws = length-map ws (λ (s : Bor Word). s.now) in
    let test = all_four (is_database w.now) (nat_le 1 (length (words_of ws))) (nat_le (length (words_of ws)) 10) (list_all is_file (words_of ws)) first.0 (le-leb 1 (length (words_of ws)) (omega (arith, count, least))) (le-leb (length (words_of ws)) 10 (omega (arith, count, most))) rest.0 in
    ap₂ (λ (n : Word) (f : List Word). Some (Turn (Restore n f))) first.1 rest.1 ∙ sym (ap (λ (b : Bool). job_if b (Turn (Restore w.now (words_of ws)))) test)

-- ---- folding

all_five : (a b c d e : Bool) → a ≡ true → b ≡ true → c ≡ true → d ≡ true → e ≡ true → (a && b && c && d && e) ≡ true
all_five a b c d e f g h i j = and_from (a && b && c && d) e (all_four a b c d f g h i) j

pub folded : (verb word : Word) (words : List (Bor Word)) (out : Word) (files : List Word) → same_name verb (codes "fold") ≡ true → 2 ≤ length words → length words ≤ 9
    → cond (is_file word) (Some word) None ≡ Some out
    → cond (list_all is_file (words_of words)) (Some (words_of words)) None ≡ Some files
    → Some (Turn (Fold out files)) ≡ fold_job (verb ∷ word ∷ words_of words)
folded verb word words out files is least most named all =
    let first = is_some_of (is_file word) word out named in
    let rest = is_some_of (list_all is_file (words_of words)) (words_of words) files all in
    let count : length (words_of words) ≡ length words = length-map words (λ (s : Bor Word). s.now) in
    let test = all_five (same_name verb (codes "fold")) (is_file word) (nat_le 2 (length (words_of words))) (nat_le (length (words_of words)) 9) (list_all is_file (words_of words)) is first.0
    (le-leb 2 (length (words_of words)) (omega (arith, count, least))) (le-leb (length (words_of words)) 9 (omega (arith, count, most))) rest.0 in
    ap₂ (λ (n : Word) (f : List Word). Some (Turn (Fold n f))) first.1 rest.1 ∙ sym (ap (λ (b : Bool). job_if b (Turn (Fold word (words_of words)))) test)
