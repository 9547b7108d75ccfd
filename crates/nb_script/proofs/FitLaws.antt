-- What is read of a line is what a line can spell.
use Rattle.std.proofs.Common.{◌≡◌, ℕ, zero, suc, ◌+◌, ◌^◌, ◌<◌, ◌≤◌, ◌==◌, ◌&&◌, Bool, true, false, nat_lt, nat_le, List, [], ◌∷◌, length, take, drop, slice_index, refl, ◌∙◌, ap, subst, inl, inr, arith, Option, Some, None, if◌then◌else◌, option_map, codes}
use Rattle.nb_script.proofs.Common.{AllByRecursion, list_all, prefix_len, digits_value, cases_Bool, and_parts, cond-true, cond-false, ltb-true, leb-true, and_from, is_page_size, Statement, PageNew, Write, Read, Free, BeginBackup, EndBackup, CopyTo, CreateTable, DropTable, Insert, Update, Delete, Get, Scan, Forced, Access, Sync, Check, Reclaim, ShowHeader, ShowPages, ShowImage, ShowCache, is_table_name, is_table_byte, Bytes, ◌>>=◌, after, digit_count, is_plain, value_of, number_at, within, page_at, is_text_byte, closed, text_at, name_len, is_given, named, name_at, table_at, alone, or_next, or_else, command_at, without_text, fixed, of_page, of_file, of_table, of_row, scan_at, backup_at, last_page, last_name, last_table, row_at, last_row, row_text, page_text, seeded, stepped, session_of, spaced_session, sessions_at, seed_at, order_at, database_at, create_at, open_at, page_size_at, sizes_at, cache_at, Fits, FitsFirst, FitsOrder, IsSession, IsText, IsFile, IsTable}

-- where something was read, it has P
pub record If {A : Type 0} (P : A → Type 0) (o : Option A) : Type 0 where
  pub holds : (x : A) → o ≡ Some x → P x

module _ {A : Type 0} {P : A → Type 0} where
  pub nothing : If P None
  nothing = record { holds = λ x is. let bad : None ≡ Some x = is in cc }

  pub just : (x : A) → P x → If P (Some x)
  just x has = record { holds = λ y same. let e : x ≡ y = cc in subst P e has }

  pub either : (first next : Option A) (b : Bool) → (b ≡ true → If P first) → (b ≡ false → If P next) → If P (if b then first else next)
  either first next true here there = here refl
  either first next false here there = there refl

  pub tested : (o : Option A) (b : Bool) → (b ≡ true → If P o) → If P (if b then o else None)
  tested o b here = either o None b here (λ _. nothing)

  module _ {B : Type 0} {Q : B → Type 0} where
    pub follows : (o : Option A) (f : A → Option B) → If P o → ((x : A) → P x → If Q (f x)) → If Q (o >>= f)
    follows None f has next = record { holds = λ x is. let bad : None ≡ Some x = is in cc }
    follows (Some x) f has next = next x (has.holds x refl)

    pub mapped : (f : A → B) (o : Option A) → If P o → ((x : A) → P x → Q (f x)) → If Q (option_map f o)
    mapped f None has next = record { holds = λ x is. let bad : None ≡ Some x = is in cc }
    mapped f (Some x) has next = record { holds = λ y same. let e : f x ≡ y = cc in subst Q e (next x (has.holds x refl)) }

-- nothing is known of what was read
pub any : {A : Type 0} (o : Option A) → If (λ (x : A). Unit {0}) o
any o = record { holds = λ x is. tt }

-- what stands before the first that fails passes
all_before : (p : ℕ → Bool) (xs : Bytes) → list_all p (take (prefix_len p xs) xs) ≡ true
all_before p [] = refl
all_before p (x ∷ xs) = elim (cases_Bool (p x)) [
  | inl passes ↦
      let more : 1 + prefix_len p xs ≡ suc (prefix_len p xs) = omega arith in
      ap (λ n. list_all p (take n (x ∷ xs))) (cond-true (p x) (1 + prefix_len p xs) 0 passes ∙ more) ∙ and_from (p x) _ passes (all_before p xs)
  | inr fails ↦ ap (λ n. list_all p (take n (x ∷ xs))) (cond-false (p x) (1 + prefix_len p xs) 0 fails)
]

value_fits : (digits : Bytes) → If (λ v. v < 2 ^ 64) (value_of digits)
value_fits digits = tested _ (nat_lt (digits_value 10 digits) (2 ^ 64)) (λ small. just _ (ltb-true _ _ small))

pub number_fits : (bytes : Bytes) → If (λ (x : ℕ × Bytes). x.0 < 2 ^ 64) (number_at bytes)
unfolding number_at
number_fits bytes =
    let n : ℕ = digit_count bytes in
    tested _ (is_plain (take n bytes)) (λ _. mapped _ (value_of (take n bytes)) (value_fits (take n bytes)) (λ v small. small))

pub within_fits : (least most : ℕ) (bytes : Bytes) → If (λ (x : ℕ × Bytes). (least ≤ x.0) × (x.0 ≤ most)) (within least most bytes)
unfolding within
within_fits least most bytes =
    follows (number_at bytes) _ (any _)
    (λ n _. tested (Some n) (nat_le least n.0 && nat_le n.0 most) (λ both. let parts = and_parts (nat_le least n.0) (nat_le n.0 most) both in just n (leb-true least n.0 parts.0, leb-true n.0 most parts.1)))

page_fits : (bytes : Bytes) → If (λ (x : ℕ × Bytes). x.0 < 2 ^ 32) (page_at bytes)
page_fits bytes = record { holds = λ x is. let range = (within_fits 0 4294967295 bytes).holds x is in omega (arith, range.1) }

closed_fits : (bytes : Bytes) → If IsText (closed bytes)
unfolding closed
closed_fits bytes =
    let n : ℕ = prefix_len is_text_byte bytes in
    tested (Some (take n bytes)) (length bytes == n + 1 && slice_index bytes n == 39) (λ _. just (take n bytes) (all_before is_text_byte bytes))

text_fits : (bytes : Bytes) → If IsText (text_at bytes)
text_fits bytes = follows (after (codes "'") bytes) _ (any _) (λ rest _. closed_fits rest)

named_fits : (most : ℕ) (bytes : Bytes) → If (λ (x : Bytes × Bytes). is_given most x.0 ≡ true) (named most bytes)
unfolding named
named_fits most bytes =
    let n : ℕ = name_len bytes in
    tested _ (is_given most (take n bytes)) (λ given. mapped _ (after (codes "'") (drop n bytes)) (any _) (λ rest _. given))

name_fits : (most : ℕ) (bytes : Bytes) → If (λ (x : Bytes × Bytes). is_given most x.0 ≡ true) (name_at most bytes)
unfolding name_at
name_fits most bytes = follows (after (codes "'") bytes) _ (any _) (λ rest _. named_fits most rest)

table_fits : (bytes : Bytes) → If (λ (x : Bytes × Bytes). IsTable x.0) (table_at bytes)
unfolding table_at
table_fits bytes =
    let n : ℕ = prefix_len is_table_byte bytes in
    tested (Some (take n bytes, drop n bytes)) (is_table_name (take n bytes)) (λ given. just (take n bytes, drop n bytes) given)

-- what stands alone is what was read
alone_fits : {A : Type 0} {P : A → Type 0} (x : A × Bytes) → P x.0 → If P (alone x)
alone_fits x has = tested _ (length x.1 == 0) (λ _. just x.0 has)

last_page_fits : (bytes : Bytes) → If (λ n. n < 2 ^ 32) (last_page bytes)
unfolding last_page
last_page_fits bytes = follows (page_at bytes) _ (page_fits bytes) (λ x small. alone_fits x small)

page_text_fits : (bytes : Bytes) → If (λ (x : ℕ × Bytes). (x.0 < 2 ^ 32) × IsText x.1) (page_text bytes)
unfolding page_text
page_text_fits bytes =
    follows (page_at bytes) _ (page_fits bytes) (λ page small. follows (after (codes " ") page.1) _ (any _) (λ rest _. follows (text_at rest) _ (text_fits rest) (λ text printable. just _ (small, printable))))

last_name_fits : (bytes : Bytes) → If IsFile (last_name bytes)
unfolding last_name
last_name_fits bytes = follows (name_at 100 bytes) _ (name_fits 100 bytes) (λ x given. alone_fits x given)

backup_fits : (bytes : Bytes) → If Fits (backup_at bytes)
unfolding backup_at
backup_fits bytes =
    follows (within 0 9 bytes) _ (within_fits 0 9 bytes)
    (λ level range. follows (after (codes " to ") level.1) _ (any _) (λ rest _. follows (last_name rest) _ (last_name_fits rest) (λ name given. just _ (range.1, given))))

last_table_fits : (bytes : Bytes) → If IsTable (last_table bytes)
unfolding last_table
last_table_fits bytes = follows (table_at bytes) _ (table_fits bytes) (λ x given. alone_fits x given)

row_fits : (bytes : Bytes) → If (λ (x : Bytes × ℕ × Bytes). IsTable x.0 × (x.1 < 2 ^ 64)) (row_at bytes)
unfolding row_at
row_fits bytes =
    follows (table_at bytes) _ (table_fits bytes) (λ table given. follows (after (codes " ") table.1) _ (any _) (λ rest _. follows (number_at rest) _ (number_fits rest) (λ key small. just _ (given, small))))

last_row_fits : (bytes : Bytes) → If (λ (x : Bytes × ℕ). IsTable x.0 × (x.1 < 2 ^ 64)) (last_row bytes)
unfolding last_row
last_row_fits bytes = follows (row_at bytes) _ (row_fits bytes) (λ row is. tested _ (length row.2 == 0) (λ _. just _ is))

row_text_fits : (bytes : Bytes) → If (λ (x : Bytes × ℕ × Bytes). IsTable x.0 × (x.1 < 2 ^ 64) × IsText x.2) (row_text bytes)
unfolding row_text
row_text_fits bytes =
    follows (row_at bytes) _ (row_fits bytes) (λ row is. follows (after (codes " ") row.2) _ (any _) (λ rest _. follows (text_at rest) _ (text_fits rest) (λ text printable. just _ (is.0, is.1, printable))))

-- what a word's rest gives, or what is next
next_fits : {P : Statement → Type 0} (rest : Option Bytes) (read : Bytes → Option Statement) (next : Option Statement) → ((r : Bytes) → If P (read r)) → If P next → If P (or_next rest read next)
next_fits None read next here there = there
next_fits (Some r) read next here there = here r

else_fits : (first next : Option Statement) → If Fits first → If Fits next → If Fits (or_else first next)
else_fits None next here there = there
else_fits (Some s) next here there = here

fixed_one : (b : Bool) (s : Statement) (next : Option Statement) → Fits s → If Fits next → If Fits (if b then Some s else next)
fixed_one b s next fits there = either (Some s) next b (λ _. just s fits) (λ _. there)

fixed_fits : (bytes : Bytes) → If Fits (fixed bytes)
unfolding fixed
fixed_fits bytes =
    fixed_one _ PageNew _ tt (fixed_one _ BeginBackup _ tt (fixed_one _ EndBackup _ tt (fixed_one _ (Forced true) _ tt (fixed_one _ (Forced false) _ tt (fixed_one _ (Access true) _ tt
    (fixed_one _ (Access false) _ tt (fixed_one _ Sync _ tt (fixed_one _ Check _ tt (fixed_one _ Reclaim _ tt (fixed_one _ ShowHeader _ tt (fixed_one _ ShowPages _ tt (fixed_one _ ShowImage _ tt (fixed_one _ ShowCache _ tt nothing)))))))))))))

of_page_fits : (bytes : Bytes) → If Fits (of_page bytes)
unfolding of_page
of_page_fits bytes =
    next_fits _ _ _ (λ rest. mapped Read (last_page rest) (last_page_fits rest) (λ page small. small))
    (next_fits _ _ _ (λ rest. mapped Free (last_page rest) (last_page_fits rest) (λ page small. small)) nothing)

of_file_fits : (bytes : Bytes) → If Fits (of_file bytes)
unfolding of_file
of_file_fits bytes = next_fits _ _ _ backup_fits (next_fits _ _ _ (λ rest. mapped CopyTo (last_name rest) (last_name_fits rest) (λ name given. given)) nothing)

of_table_fits : (bytes : Bytes) → If Fits (of_table bytes)
unfolding of_table
of_table_fits bytes =
    next_fits _ _ _ (λ rest. mapped CreateTable (last_table rest) (last_table_fits rest) (λ table given. given))
    (next_fits _ _ _ (λ rest. mapped DropTable (last_table rest) (last_table_fits rest) (λ table given. given)) nothing)

scan_fits : (bytes : Bytes) → If Fits (scan_at bytes)
unfolding scan_at
scan_fits bytes = mapped Scan _ (follows (after (codes "scan ") bytes) _ (any _) (λ rest _. last_table_fits rest)) (λ table given. given)

of_row_fits : (bytes : Bytes) → If Fits (of_row bytes)
unfolding of_row
of_row_fits bytes =
    next_fits _ _ _ (λ rest. mapped (λ row. Delete row.0 row.1) (last_row rest) (last_row_fits rest) (λ row is. is))
    (next_fits _ _ _ (λ rest. mapped (λ row. Get row.0 row.1) (last_row rest) (last_row_fits rest) (λ row is. is)) nothing)

textless_fits : (bytes : Bytes) → If Fits (without_text bytes)
unfolding without_text
textless_fits bytes =
    else_fits _ _ (of_page_fits bytes) (else_fits _ _ (of_file_fits bytes) (else_fits _ _ (of_table_fits bytes) (else_fits _ _ (scan_fits bytes) (else_fits _ _ (of_row_fits bytes) (fixed_fits bytes)))))

-- the statement of a further line
pub command_fits : (bytes : Bytes) → If Fits (command_at bytes)
unfolding command_at
command_fits bytes =
    next_fits _ _ _ (λ rest. mapped (λ page. Write page.0 page.1) (page_text rest) (page_text_fits rest) (λ page is. is))
    (next_fits _ _ _ (λ rest. mapped (λ row. Insert row.0 row.1 row.2) (row_text rest) (row_text_fits rest) (λ row is. is))
    (next_fits _ _ _ (λ rest. mapped (λ row. Update row.0 row.1 row.2) (row_text rest) (row_text_fits rest) (λ row is. is)) (textless_fits bytes)))

cache_fits : (rest : Bytes) → If (λ c. (1 ≤ c) × (c ≤ 4096)) (cache_at rest)
unfolding cache_at
cache_fits rest =
    either _ _ (length rest == 0) (λ _. just 64 (omega arith, omega arith))
    (λ _. follows _ _ (follows (after (codes " cache ") rest) _ (any _) (λ r _. within_fits 1 4096 r)) (λ x range. alone_fits x range))

page_size_fits : (bytes : Bytes) → If (λ (x : ℕ × Bytes). is_page_size x.0 ≡ true) (page_size_at bytes)
unfolding page_size_at
page_size_fits bytes = follows (within 1024 32768 bytes) _ (any _) (λ size _. tested (Some size) (is_page_size size.0) (λ is. just size is))

sizes_fits : (bytes : Bytes) → If (λ (x : ℕ × ℕ × Bytes). (is_page_size x.0 ≡ true) × (x.1 ≤ 65535)) (sizes_at bytes)
unfolding sizes_at
sizes_fits bytes =
    follows (after (codes " page_size ") bytes) _ (any _)
    (λ word _. follows (page_size_at word) _ (page_size_fits word) (λ size is. follows (after (codes " raw ") size.1) _ (any _) (λ rest _. follows (within 0 65535 rest) _ (within_fits 0 65535 rest) (λ raw range. just _ (is, range.1)))))

create_fits : (bytes : Bytes) → If FitsFirst (create_at bytes)
unfolding create_at
create_fits bytes =
    follows (name_at 94 bytes) _ (name_fits 94 bytes)
    (λ name given. follows (sizes_at name.1) _ (sizes_fits name.1) (λ sizes is. follows (cache_at sizes.2) _ (cache_fits sizes.2) (λ cache range. just _ (given, is.0, is.1, range.0, range.1))))

open_fits : (bytes : Bytes) → If FitsFirst (open_at bytes)
unfolding open_at
open_fits bytes = follows (name_at 94 bytes) _ (name_fits 94 bytes) (λ name given. follows (cache_at name.1) _ (cache_fits name.1) (λ cache range. just _ (given, range.0, range.1)))

-- the statement of a first line
pub database_fits : (bytes : Bytes) → If FitsFirst (database_at bytes)
unfolding database_at
database_fits bytes = next_fits _ _ _ create_fits (follows (after (codes "open ") bytes) _ (any _) (λ rest _. open_fits rest))

-- an order that is read names sessions, few enough
each_read : (most : ℕ) (bytes : Bytes) → If (λ (order : List ℕ). (length order ≤ most) × AllByRecursion IsSession order) (sessions_at most bytes)
unfolding sessions_at spaced_session
each_read zero bytes = nothing
each_read (suc most) bytes =
    follows _ _ (follows (after (codes " ") bytes) _ (any _) (λ rest _. within_fits 1 16 rest))
    (λ session range. either _ _ (length session.1 == 0) (λ _. just (session.0 ∷ []) (omega arith, (range, tt)))
    (λ _. mapped (λ others. session.0 ∷ others) (sessions_at most session.1) (each_read most session.1) (λ others is. (omega (arith, is.0), (range, is.1)))))

-- so does one that is made of a seed
length_seeded : (count x : ℕ) → length (seeded count x) ≡ count
unfolding seeded
length_seeded zero x = refl
length_seeded (suc count) x = ap suc (length_seeded count (stepped x))

each_seeded : (count x : ℕ) → AllByRecursion IsSession (seeded count x)
unfolding seeded session_of
each_seeded zero x = tt
each_seeded (suc count) x = ((omega arith, omega arith), each_seeded count (stepped x))

-- the order of turns of a line
pub order_fits : (line : Bytes) → If FitsOrder (order_at line)
unfolding order_at
order_fits line = by_word (after (codes "schedule") line)
  where
    by_word : (word : Option Bytes) → If FitsOrder (elim word [ Some rest ↦ sessions_at 4096 rest | None ↦ option_map (seeded 4096) (after (codes "seed ") line >>= seed_at) ])
    by_word (Some rest) = record { holds = λ order is. let read = (each_read 4096 rest).holds order is in record { few = read.0; each = read.1 } }
    by_word None = mapped (seeded 4096) _ (any _) (λ seed _. record { few = omega (arith, length_seeded 4096 seed); each = each_seeded 4096 seed })
