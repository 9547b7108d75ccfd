-- What the slot of a row tells, and a free slot.
use Rattle.std.proofs.Common.{◌≡◌, ℕ, ◌-◌, ◌<◌, ◌≤◌, List, ◌∷◌, ◌++◌, length, take, drop, replicate, refl, sym, arith, Bool, true, false, ◌&&◌, ◌||◌, ◌==◌, nat_le, slice_index}
use Rattle.nb_model.proofs.Common.{and_from, le-leb, eq-eqb, take_at, bytes_of, number_in, padded, number_of-bytes_of, Chain, RowsFrom, is_used, is_slot, length_in, key_of, text_in, row_slot, free_slot}
use Rattle.nb_model.proofs.SpotMaps.{has_key}

pub row_used : (key : ℕ) (text : List ℕ) → is_used (row_slot key text) ≡ true
unfolding row_slot padded
row_used key text = refl

pub row_text_length : (key : ℕ) (text : List ℕ) → length text ≤ 200 → length_in (row_slot key text) ≡ length text
unfolding row_slot padded number_in bytes_of
row_text_length key text short = number_of-bytes_of 2 (length text) (omega (arith, short))

pub row_key : (key : ℕ) (text : List ℕ) → key < 18446744073709551616 → key_of (row_slot key text) ≡ key
unfolding row_slot padded number_in bytes_of
row_key key text low = number_of-bytes_of 8 key (omega (arith, low))

row_rest : (key n : ℕ) (text : List ℕ) → length text ≡ n → take n (drop 16 (row_slot key text)) ≡ text
unfolding row_slot padded bytes_of
row_rest key n text long = take_at text (replicate (256 - length (1 ∷ 0 ∷ (bytes_of 2 (length text) ++ (replicate 4 0 ++ (bytes_of 8 key ++ text))))) 0) n long

pub row_text : (key : ℕ) (text : List ℕ) → length text ≤ 200 → text_in (row_slot key text) ≡ text
row_text key text short = row_rest key (length_in (row_slot key text)) text (sym (row_text_length key text short))

pub row_is_slot : (first key : ℕ) (text : List ℕ) → length text ≤ 200 → is_slot (RowsFrom first) (row_slot key text) ≡ true
unfolding is_slot
row_is_slot first key text short = by (row_used key text) (le-leb (length_in (row_slot key text)) 200 (omega (arith, row_text_length key text short, short)))
  where
    by : is_used (row_slot key text) ≡ true → nat_le (length_in (row_slot key text)) 200 ≡ true → is_slot (RowsFrom first) (row_slot key text) ≡ true
    by one two = either (and_from (is_used (row_slot key text)) _ one two) (slice_index (row_slot key text) 0 == 0)
      where
        either : (is_used (row_slot key text) && nat_le (length_in (row_slot key text)) 200) ≡ true → (t : Bool) → (t || (is_used (row_slot key text) && nat_le (length_in (row_slot key text)) 200)) ≡ true
        either e true = refl
        either e false = e

pub row_has_key : (key page slot : ℕ) (text : List ℕ) → key < 18446744073709551616 → has_key key (record { page = page; slot = slot; bytes = row_slot key text }) ≡ true
row_has_key key page slot text low = and_from (is_used (row_slot key text)) _ (row_used key text) (eq-eqb (key_of (row_slot key text)) key (row_key key text low))

pub free_not_used : is_used free_slot ≡ false
free_not_used = refl

pub free_is_slot : (chain : Chain) → is_slot chain free_slot ≡ true
unfolding is_slot
free_is_slot chain = refl
