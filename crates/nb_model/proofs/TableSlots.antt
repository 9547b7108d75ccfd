-- What the slot of a table tells.
use Rattle.std.proofs.Common.{◌≡◌, ℕ, ◌-◌, ◌<◌, ◌≤◌, List, ◌∷◌, ◌++◌, length, take, drop, replicate, refl, sym, ap, ◌∙◌, arith, Bool, true, false, ◌&&◌, ◌||◌, ◌==◌, nat_le, slice_index}
use Rattle.nb_model.proofs.Common.{and_from, le-leb, take_at, bytes_of, number_in, padded, number_of-bytes_of, Catalogue, is_used, is_slot, length_in, table_of, first_in, table_slot, is_table_name}

pub table_used : (name : List ℕ) (first : ℕ) → is_used (table_slot name first) ≡ true
unfolding table_slot padded
table_used name first = refl

name_length : (name : List ℕ) (first : ℕ) → length name ≤ 30 → length_in (table_slot name first) ≡ length name
unfolding table_slot padded number_in bytes_of
name_length name first short = number_of-bytes_of 2 (length name) (omega (arith, short))

pub table_first : (name : List ℕ) (first : ℕ) → first < 4294967296 → first_in (table_slot name first) ≡ first
unfolding table_slot padded number_in bytes_of
table_first name first low = number_of-bytes_of 4 first (omega (arith, low))

name_rest : (name : List ℕ) (first n : ℕ) → length name ≡ n → take n (drop 16 (table_slot name first)) ≡ name
unfolding table_slot padded bytes_of
name_rest name first n long = take_at name (replicate (256 - length (1 ∷ 0 ∷ (bytes_of 2 (length name) ++ (bytes_of 4 first ++ (replicate 8 0 ++ name))))) 0) n long

pub table_name : (name : List ℕ) (first : ℕ) → length name ≤ 30 → table_of (table_slot name first) ≡ name
table_name name first short = name_rest name first (length_in (table_slot name first)) (sym (name_length name first short))

pub table_is_slot : (name : List ℕ) (first : ℕ) → length name ≤ 30 → is_table_name name ≡ true → is_slot Catalogue (table_slot name first) ≡ true
unfolding is_slot
table_is_slot name first short is =
    either (slice_index (table_slot name first) 0 == 0) (and_from (is_used (table_slot name first)) _ (table_used name first)
    (and_from (nat_le (length_in (table_slot name first)) 30) _ (le-leb (length_in (table_slot name first)) 30 (omega (arith, name_length name first short, short))) (ap is_table_name (table_name name first short) ∙ is)))
  where
    either : (t : Bool) → (is_used (table_slot name first) && (nat_le (length_in (table_slot name first)) 30 && is_table_name (table_of (table_slot name first)))) ≡ true
        → (t || (is_used (table_slot name first) && (nat_le (length_in (table_slot name first)) 30 && is_table_name (table_of (table_slot name first))))) ≡ true
    either true e = refl
    either false e = e
