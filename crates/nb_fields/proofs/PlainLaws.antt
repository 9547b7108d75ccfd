-- The places of raw pages in a new database: as many as were asked for, and no system place among them.
use Rattle.std.proofs.Common.{◌≡◌, ℕ, zero, suc, ◌+◌, ◌-◌, ◌*◌, ◌/◌, ◌%◌, ◌<◌, ◌≤◌, ◌⊎◌, inl, inr, ⊎_elim, true, false, ap, ◌∙◌, arith, IsTrue, ◌==◌, ◌||◌, ◌&&◌, nat_lt, if◌then◌else◌}
use Rattle.nb_fields.proofs.Common.{mul-mod_left, eqb-true, or_cases, and_parts, cases_Bool, cond-true, cond-false, false_from_ne_true, is_page_size, entries_in, bits_in, is_inventory_place, is_scn_place, is_system_place, plain_places, next_plain, length_after, fresh_count}
use Rattle.std.proofs.lemmas.Nat.{mod-mul-add}
use Rattle.nb_fields.proofs.PlaceLaws.{entries-least}

-- a number after a multiple
mod-next : (x k s : ℕ) → x % s ≡ 0 → k < s → (x + k) % s ≡ k
mod-next x k s whole small =
    let same : x + k ≡ x / s * s + k = omega arith in
    ap (λ n. n % s) same ∙ mod-mul-add (x / s) s k small

-- a system place is a multiple of the number of entries, or stands before one
system_near : (size p : ℕ) → IsTrue (is_page_size size) → 3 ≤ p → is_system_place size p ≡ true → (p % entries_in size ≡ 0) ⊎ ((p + 1) % entries_in size ≡ 0)
unfolding is_system_place is_inventory_place is_scn_place
system_near size p is far at =
    let least = entries-least size is in
    let some : 0 < bits_in size = omega arith in
    ⊎_elim
    (λ inventory. ⊎_elim
    (λ first. let one = eqb-true p 1 first in absurd (omega arith))
    (λ multiple.
    let none = eqb-true ((p + 1) % bits_in size) 0 multiple in
    let q : ℕ = (p + 1) / bits_in size in
    let whole : bits_in size * q + (p + 1) % bits_in size ≡ p + 1 = omega arith in
    let as_entries : p + 1 ≡ 32 * q * entries_in size = omega arith in
    inr (ap (λ n. n % entries_in size) as_entries ∙ mul-mod_left (32 * q) (entries_in size)))
    (or_cases (p == 1) ((p + 1) % bits_in size == 0) inventory))
    (λ scn. ⊎_elim
    (λ second. let two = eqb-true p 2 second in absurd (omega arith))
    (λ multiple. inl (eqb-true (p % entries_in size) 0 (and_parts (nat_lt 0 p) (p % entries_in size == 0) multiple).1))
    (or_cases (p == 2) (nat_lt 0 p && p % entries_in size == 0) scn))
    (or_cases (p == 1 || (p + 1) % bits_in size == 0) (p == 2 || (nat_lt 0 p && p % entries_in size == 0)) at)

-- of three places side by side one is no system place
third_plain : (size p : ℕ) → IsTrue (is_page_size size) → 3 ≤ p → is_system_place size p ≡ true → is_system_place size (p + 1) ≡ true → is_system_place size (p + 2) ≡ true → ⊥
third_plain size p is far first second third =
    let s : ℕ = entries_in size in
    let least = entries-least size is in
    ⊎_elim
    (λ here.
    let one = mod-next p 1 s here (omega arith) in
    let two : (p + 1 + 1) % s ≡ 2 = ap (λ n. n % s) (let e : p + 1 + 1 ≡ p + 2 = omega arith in e) ∙ mod-next p 2 s here (omega arith) in
    ⊎_elim (λ a. absurd (omega arith)) (λ b. absurd (omega arith)) (system_near size (p + 1) is (omega arith) second))
    (λ next.
    let one : (p + 2) % s ≡ 1 = ap (λ n. n % s) (let e : p + 2 ≡ p + 1 + 1 = omega arith in e) ∙ mod-next (p + 1) 1 s next (omega arith) in
    let two : (p + 2 + 1) % s ≡ 2 = ap (λ n. n % s) (let e : p + 2 + 1 ≡ p + 1 + 2 = omega arith in e) ∙ mod-next (p + 1) 2 s next (omega arith) in
    ⊎_elim (λ a. absurd (omega arith)) (λ b. absurd (omega arith)) (system_near size (p + 2) is (omega arith) third))
    (system_near size p is far first)

-- the next plain place, by how far it is
data Next (size p : ℕ) : Type 0 where
  here : is_system_place size p ≡ false → next_plain size p ≡ p → Next size p
  one_on : is_system_place size p ≡ true → is_system_place size (p + 1) ≡ false → next_plain size p ≡ p + 1 → Next size p
  two_on : is_system_place size p ≡ true → is_system_place size (p + 1) ≡ true → is_system_place size (p + 2) ≡ false → next_plain size p ≡ p + 2 → Next size p

next_plain-is : (size p : ℕ) → IsTrue (is_page_size size) → 3 ≤ p → Next size p
unfolding next_plain
next_plain-is size p is far = ⊎_elim
    (λ system. ⊎_elim
    (λ next. two_on system next (false_from_ne_true (is_system_place size (p + 2)) (third_plain size p is far system next))
    (cond-true (is_system_place size p) _ _ system ∙ cond-true (is_system_place size (p + 1)) _ _ next))
    (λ plain. one_on system plain (cond-true (is_system_place size p) _ _ system ∙ cond-false (is_system_place size (p + 1)) _ _ plain))
    (cases_Bool (is_system_place size (p + 1))))
    (λ plain. here plain (cond-false (is_system_place size p) _ _ plain))
    (cases_Bool (is_system_place size p))

-- up to it and with it there is one plain place
one_plain : (size p : ℕ) → Next size p → plain_places size p (next_plain size p + 1 - p) ≡ 1
unfolding plain_places
one_plain size p (here plain at) =
    ap (plain_places size p) (let e : next_plain size p + 1 - p ≡ 1 = omega arith in e) ∙ ap (λ n. n + 0) (cond-false (is_system_place size p) 0 1 plain)
one_plain size p (one_on system plain at) =
    ap (plain_places size p) (let e : next_plain size p + 1 - p ≡ 2 = omega arith in e)
    ∙ ap (λ n. n + ((if is_system_place size (p + 1) then 0 else 1) + 0)) (cond-true (is_system_place size p) 0 1 system)
    ∙ ap (λ n. 0 + (n + 0)) (cond-false (is_system_place size (p + 1)) 0 1 plain)
one_plain size p (two_on system next plain at) =
    let third : is_system_place size (p + 1 + 1) ≡ false = ap (is_system_place size) (let e : p + 1 + 1 ≡ p + 2 = omega arith in e) ∙ plain in
    ap (plain_places size p) (let e : next_plain size p + 1 - p ≡ 3 = omega arith in e)
    ∙ ap (λ n. n + ((if is_system_place size (p + 1) then 0 else 1) + ((if is_system_place size (p + 1 + 1) then 0 else 1) + 0))) (cond-true (is_system_place size p) 0 1 system)
    ∙ ap (λ n. 0 + (n + ((if is_system_place size (p + 1 + 1) then 0 else 1) + 0))) (cond-true (is_system_place size (p + 1)) 0 1 next)
    ∙ ap (λ n. 0 + (0 + (n + 0))) (cond-false (is_system_place size (p + 1 + 1)) 0 1 third)

next_plain-least : (size p : ℕ) → Next size p → p ≤ next_plain size p
next_plain-least size p (here plain at) = omega arith
next_plain-least size p (one_on system plain at) = omega arith
next_plain-least size p (two_on system next plain at) = omega arith

-- places after places
plain_places-add : (size from m n : ℕ) → plain_places size from (m + n) ≡ plain_places size from m + plain_places size (from + m) n
unfolding plain_places
plain_places-add size from zero n =
    ap (plain_places size from) (let e : 0 + n ≡ n = omega arith in e) ∙ ap (λ at. plain_places size at n) (let e : from ≡ from + 0 = omega arith in e) ∙ (let z : plain_places size (from + 0) n ≡ 0 + plain_places size (from + 0) n = omega arith in z)
plain_places-add size from (suc m) n =
    let this : ℕ = if is_system_place size from then 0 else 1 in
    let rest = plain_places-add size (from + 1) m n in
    let moved : plain_places size (from + 1 + m) n ≡ plain_places size (from + suc m) n = ap (λ at. plain_places size at n) (let e : from + 1 + m ≡ from + suc m = omega arith in e) in
    ap (plain_places size from) (let e : suc m + n ≡ suc (m + n) = omega arith in e) ∙ ap (λ k. this + k) rest ∙ (let z : this + (plain_places size (from + 1) m + plain_places size (from + 1 + m) n) ≡ this + plain_places size (from + 1) m + plain_places size (from + suc m) n = omega arith in z)

length_after-least : (size raw p : ℕ) → IsTrue (is_page_size size) → 3 ≤ p → p ≤ length_after size raw p
unfolding length_after
length_after-least size zero p is far = omega arith
length_after-least size (suc raw) p is far =
    let next = next_plain-least size p (next_plain-is size p is far) in
    let rest = length_after-least size raw (next_plain size p + 1) is (omega arith) in
    omega arith

-- as many plain places as raw pages
plain_after : (size raw p : ℕ) → IsTrue (is_page_size size) → 3 ≤ p → plain_places size p (length_after size raw p - p) ≡ raw
unfolding length_after plain_places
plain_after size zero p is far = ap (plain_places size p) (let e : p - p ≡ 0 = omega arith in e)
plain_after size (suc raw) p is far =
    let found = next_plain-is size p is far in
    let next = next_plain-least size p found in
    let q : ℕ = next_plain size p + 1 in
    let end : ℕ = length_after size raw q in
    let more = length_after-least size raw q is (omega arith) in
    let rest = plain_after size raw q is (omega arith) in
    let one = one_plain size p found in
    ap (plain_places size p) (let e : end - p ≡ (q - p) + (end - q) = omega arith in e)
    ∙ plain_places-add size p (q - p) (end - q)
    ∙ ap (λ at. plain_places size p (q - p) + plain_places size at (end - q)) (let e : p + (q - p) ≡ q = omega arith in e)
    ∙ (let z : plain_places size p (q - p) + plain_places size q (end - q) ≡ suc raw = omega arith in z)

pub fresh_count-plain : (size raw : ℕ) → IsTrue (is_page_size size) → plain_places size 5 (fresh_count size raw - 5) ≡ raw
unfolding fresh_count
fresh_count-plain size raw is = plain_after size raw 5 is (omega arith)

-- the last page of a new database is a raw one
last_plain : (size raw p : ℕ) → IsTrue (is_page_size size) → 3 ≤ p → is_system_place size (length_after size (suc raw) p - 1) ≡ false
unfolding length_after
last_plain size zero p is far = next_not_system (next_plain-is size p is far)
  where
    next_not_system : Next size p → is_system_place size (next_plain size p + 1 - 1) ≡ false
    next_not_system (here plain at) = ap (is_system_place size) (let e : next_plain size p + 1 - 1 ≡ p = omega arith in e) ∙ plain
    next_not_system (one_on system plain at) = ap (is_system_place size) (let e : next_plain size p + 1 - 1 ≡ p + 1 = omega arith in e) ∙ plain
    next_not_system (two_on system next plain at) = ap (is_system_place size) (let e : next_plain size p + 1 - 1 ≡ p + 2 = omega arith in e) ∙ plain
last_plain size (suc raw) p is far =
    let next = next_plain-least size p (next_plain-is size p is far) in
    last_plain size raw (next_plain size p + 1) is (omega arith)

pub fresh_count-last : (size raw : ℕ) → IsTrue (is_page_size size) → 0 < raw → is_system_place size (fresh_count size raw - 1) ≡ false
unfolding fresh_count
fresh_count-last size zero is some = absurd (omega arith)
fresh_count-last size (suc raw) is some = last_plain size raw 5 is (omega arith)
