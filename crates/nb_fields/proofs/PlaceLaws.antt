-- The places of the system pages, for the six page sizes.
use Rattle.std.proofs.Common.{◌≡◌, ℕ, zero, suc, ◌+◌, ◌*◌, ◌/◌, ◌%◌, ◌<◌, ◌≤◌, true, sym, ap, ◌∙◌, arith, IsTrue, ◌==◌, ◌||◌, ◌&&◌, nat_lt}
use Rattle.nb_fields.proofs.Common.{mul-div_cancel, mul-mod_left, div-eq_of_lt, mul-add-mod_self_right, mod-eq_of_lt, eq-eqb, ne_eqb, lt-ltb, cond-true, cond-false, or_from, or_right, or_left, and_from, is_page_size, entries_in, bits_in, inventory_place, scn_place, is_inventory_place, is_scn_place, fresh_kind}
use Rattle.nb_fields.specs.declared.kinds.PageKind.TheVariants.{Inventory, ScnInventory}
use Rattle.nb_fields.proofs.SizeLaws.{size_facts}

-- how many entries and bits there are at least
pub entries-least : (size : ℕ) → IsTrue (is_page_size size) → 248 ≤ entries_in size
entries-least size is = let facts = size_facts size is in omega arith

pub bits-least : (size : ℕ) → IsTrue (is_page_size size) → 7936 ≤ bits_in size
bits-least size is = let least = entries-least size is in omega arith

-- the number of the inventory page that stands at a place
pub inventory_index : (size k p : ℕ) → IsTrue (is_page_size size) → inventory_place size k ≡ p → (p + 1) / bits_in size ≡ k
inventory_index size zero p is at =
    let least = bits-least size is in
    let small : p + 1 < bits_in size = omega arith in
    div-eq_of_lt small
inventory_index size (suc k) p is at =
    let least = bits-least size is in
    let some : 0 < bits_in size = omega arith in
    let more : bits_in size ≤ suc k * bits_in size = omega arith in
    let next : p + 1 ≡ suc k * bits_in size = omega arith in
    ap (λ n. n / bits_in size) next ∙ mul-div_cancel (suc k) some

is_inventory_place-at : (size k p : ℕ) → IsTrue (is_page_size size) → inventory_place size k ≡ p → is_inventory_place size p ≡ true
unfolding is_inventory_place
is_inventory_place-at size zero p is at = or_left (p == 1) ((p + 1) % bits_in size == 0) (eq-eqb p 1 (sym at))
is_inventory_place-at size (suc k) p is at =
    let least = bits-least size is in
    let more : bits_in size ≤ suc k * bits_in size = omega arith in
    let next : p + 1 ≡ suc k * bits_in size = omega arith in
    or_right (p == 1) ((p + 1) % bits_in size == 0) (eq-eqb ((p + 1) % bits_in size) 0 (ap (λ n. n % bits_in size) next ∙ mul-mod_left (suc k) (bits_in size)))

pub inventory_place-some : (size k : ℕ) → IsTrue (is_page_size size) → 0 < inventory_place size k
inventory_place-some size zero is = omega arith
inventory_place-some size (suc k) is =
    let least = bits-least size is in
    let more : bits_in size ≤ suc k * bits_in size = omega arith in
    omega arith

-- an inventory page stands at its place
pub fresh_kind-inventory : (size k p : ℕ) → IsTrue (is_page_size size) → inventory_place size k ≡ p → fresh_kind size p ≡ Inventory
unfolding fresh_kind
fresh_kind-inventory size k p is at =
    let some = inventory_place-some size k is in
    let not_first : p ≡ 0 → ⊥ = λ e. absurd (omega (arith, at, e, some)) in
    cond-false (p == 0) _ _ (ne_eqb p 0 not_first) ∙ cond-true (is_inventory_place size p) _ _ (is_inventory_place-at size k p is at)

is_scn_place-at : (size k p : ℕ) → IsTrue (is_page_size size) → scn_place size k ≡ p → is_scn_place size p ≡ true
unfolding is_scn_place
is_scn_place-at size zero p is at = or_left (p == 2) (nat_lt 0 p && p % entries_in size == 0) (eq-eqb p 2 (sym at))
is_scn_place-at size (suc k) p is at =
    let least = entries-least size is in
    let more : entries_in size ≤ suc k * entries_in size = omega arith in
    or_right (p == 2) (nat_lt 0 p && p % entries_in size == 0)
    (and_from (nat_lt 0 p) (p % entries_in size == 0) (lt-ltb 0 p (omega arith)) (eq-eqb (p % entries_in size) 0 (ap (λ n. n % entries_in size) (sym at) ∙ mul-mod_left (suc k) (entries_in size))))

-- no inventory page stands there
scn_place-apart : (size k p : ℕ) → IsTrue (is_page_size size) → scn_place size k ≡ p → (p + 1) % bits_in size ≡ 0 → ⊥
scn_place-apart size zero p is at none =
    let least = bits-least size is in
    let small : p + 1 < bits_in size = omega arith in
    let same : (p + 1) % bits_in size ≡ p + 1 = mod-eq_of_lt small in
    absurd (omega arith)
scn_place-apart size (suc k) p is at none =
    let least = entries-least size is in
    let some : 0 < bits_in size = omega arith in
    let q : ℕ = (p + 1) / bits_in size in
    let whole : bits_in size * q + (p + 1) % bits_in size ≡ p + 1 = omega arith in
    let as_entries : p + 1 ≡ 32 * q * entries_in size = omega arith in
    let one : (p + 1) % entries_in size ≡ 1 % entries_in size = ap (λ n. (n + 1) % entries_in size) (sym at) ∙ mul-add-mod_self_right (suc k) (entries_in size) 1 in
    let below : 1 < entries_in size = omega arith in
    let is_one : 1 % entries_in size ≡ 1 = mod-eq_of_lt below in
    let zero_too : (p + 1) % entries_in size ≡ 0 = ap (λ n. n % entries_in size) as_entries ∙ mul-mod_left (32 * q) (entries_in size) in
    absurd (omega arith)

pub scn_place-some : (size k : ℕ) → IsTrue (is_page_size size) → 2 ≤ scn_place size k
scn_place-some size zero is = omega arith
scn_place-some size (suc k) is =
    let least = entries-least size is in
    let more : entries_in size ≤ suc k * entries_in size = omega arith in
    omega arith

-- an SCN inventory page stands at its place
pub fresh_kind-scn : (size k p : ℕ) → IsTrue (is_page_size size) → scn_place size k ≡ p → fresh_kind size p ≡ ScnInventory
unfolding fresh_kind is_inventory_place
fresh_kind-scn size k p is at =
    let some = scn_place-some size k is in
    let not_first : p ≡ 0 → ⊥ = λ e. absurd (omega (arith, at, e, some)) in
    let not_second : p ≡ 1 → ⊥ = λ e. absurd (omega (arith, at, e, some)) in
    cond-false (p == 0) _ _ (ne_eqb p 0 not_first)
    ∙ cond-false (p == 1 || (p + 1) % bits_in size == 0) _ _ (or_from (p == 1) ((p + 1) % bits_in size == 0) (ne_eqb p 1 not_second) (ne_eqb ((p + 1) % bits_in size) 0 (scn_place-apart size k p is at)))
    ∙ cond-true (is_scn_place size p) _ _ (is_scn_place-at size k p is at)
