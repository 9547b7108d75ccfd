-- Names with a suffix: that of a difference file, and that of a ship file.
use Rattle.std.proofs.Common.{◌≡◌, ◌≢◌, ℕ, suc, ◌+◌, ◌-◌, ◌<◌, ◌≤◌, List, [], ◌∷◌, ◌++◌, length, drop, true, false, refl, sym, ap, ◌∙◌, arith, length-append, Bool, ◌&&◌, not, nat_eq, nat_le, nat_lt}
use Rattle.std.proofs.lemmas.Bool.{ltb-true}
use Rattle.std.specs.Cmp.Lexicographic.{pointwise}
use Rattle.nb_top.proofs.Common.{list_all, and_from, and_parts, le-leb, leb-true, lt-ltb, delta_suffix, is_delta, is_name, is_name_byte, delta_name, is_database, is_file}
use Rattle.nb_ship.specs.Names.{ship_of, ship_suffix}
use Rattle.nb_top.proofs.WordNames.{database_named}

all_append : (xs ys : List ℕ) → list_all is_name_byte xs ≡ true → list_all is_name_byte ys ≡ true → list_all is_name_byte (xs ++ ys) ≡ true
all_append [] ys all more = more
all_append (x ∷ xs) ys all more = let both = and_parts (is_name_byte x) (list_all is_name_byte xs) all in and_from (is_name_byte x) (list_all is_name_byte (xs ++ ys)) both.0 (all_append xs ys both.1 more)

some_bytes : (name : List ℕ) → is_name name ≡ true → 0 < length name
some_bytes name named = ltb-true 0 (length name) (and_parts (nat_lt 0 (length name)) (nat_le (length name) 100) (and_parts (nat_lt 0 (length name) && nat_le (length name) 100) (list_all is_name_byte name) named).0).0

longer_named : (name suffix : List ℕ) → is_name name ≡ true → list_all is_name_byte suffix ≡ true → length name + length suffix ≤ 100 → is_name (name ++ suffix) ≡ true
longer_named name suffix named bytes few =
    let some = some_bytes name named in
    let long : length (name ++ suffix) ≡ length name + length suffix = length-append name suffix in
    and_from (nat_lt 0 (length (name ++ suffix)) && nat_le (length (name ++ suffix)) 100) (list_all is_name_byte (name ++ suffix))
    (and_from (nat_lt 0 (length (name ++ suffix))) (nat_le (length (name ++ suffix)) 100) (lt-ltb 0 (length (name ++ suffix)) (omega (arith, long, some))) (le-leb (length (name ++ suffix)) 100 (omega (arith, long, few))))
    (all_append name suffix (and_parts (nat_lt 0 (length name) && nat_le (length name) 100) (list_all is_name_byte name) named).1 bytes)

-- A host may give the name of a database's difference file, and that of a standby's ship file.
pub delta_is_name : (name : List ℕ) → is_name name ≡ true → nat_le (length name) 94 ≡ true → is_name (delta_name name) ≡ true
delta_is_name name named few = longer_named name delta_suffix named refl (let short = leb-true (length name) 94 few in let six : length delta_suffix ≡ 6 = refl in omega (arith, short, six))

pub ship_is_name : (standby : List ℕ) → is_name standby ≡ true → nat_le (length standby) 94 ≡ true → is_name (ship_of standby) ≡ true
ship_is_name standby named few = longer_named standby ship_suffix named refl (let short = leb-true (length standby) 94 few in let five : length ship_suffix ≡ 5 = refl in omega (arith, short, five))

-- ---- a ship file is no difference file

-- the last byte of a name, and what follows it
last_and : (name suffix : List ℕ) → 0 < length name → (x : ℕ) × (drop (length name - 1) (name ++ suffix) ≡ x ∷ suffix)
last_and [] suffix some = absurd (omega (arith, some))
last_and (x ∷ []) suffix some = (x, refl)
last_and (x ∷ y ∷ ys) suffix some =
    let later = last_and (y ∷ ys) suffix (omega arith) in
    let place : length (x ∷ (y ∷ ys)) - 1 ≡ suc (length (y ∷ ys) - 1) = omega arith in
    (later.0, ap (λ (k : ℕ). drop k (x ∷ ((y ∷ ys) ++ suffix))) place ∙ later.1)

never_both : (b : Bool) → (b && false) ≡ false
never_both true = refl
never_both false = refl

ship_plain : (standby : List ℕ) → 0 < length standby → is_delta (ship_of standby) ≡ false
ship_plain standby some =
    let last = last_and standby ship_suffix some in
    let place : length (ship_of standby) - length delta_suffix ≡ length standby - 1 = (let long : length (standby ++ ship_suffix) ≡ length standby + length ship_suffix = length-append standby ship_suffix in
    let five : length ship_suffix ≡ 5 = refl in let six : length delta_suffix ≡ 6 = refl in omega (arith, long, five, six)) in
    ap (λ (k : ℕ). pointwise nat_eq delta_suffix (drop k (ship_of standby))) place ∙ ap (pointwise nat_eq delta_suffix) last.1 ∙ never_both (nat_eq 46 last.0)

-- so words may give its name
pub ship_file : (standby : List ℕ) → is_database standby ≡ true → is_file (ship_of standby) ≡ true
ship_file standby fits =
    let named = database_named standby fits in
    and_from (is_name (ship_of standby)) (not (is_delta (ship_of standby))) (ship_is_name standby named (and_parts (is_file standby) (nat_le (length standby) 94) fits).1) (ap not (ship_plain standby (some_bytes standby named)))

-- and it is another file than the standby
pub ship_apart : (standby : List ℕ) → ship_of standby ≢ standby
ship_apart standby same =
    let long : length (standby ++ ship_suffix) ≡ length standby + length ship_suffix = length-append standby ship_suffix in
    let five : length ship_suffix ≡ 5 = refl in
    absurd (omega (arith, ap length same, long, five))

-- a ship file can be named after it
pub database_short : (name : List ℕ) → is_database name ≡ true → length name ≤ 94
database_short name fits = leb-true (length name) 94 (and_parts (is_file name) (nat_le (length name) 94) fits).1
