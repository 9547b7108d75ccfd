-- A page of a chain is written, in any database.
use Rattle.std.proofs.Common.{◌≡◌, ℕ, ◌+◌, ◌-◌, ◌*◌, ◌<◌, ◌≤◌, List, [], ◌∷◌, ◌++◌, length, take, drop, sym, ap, ◌∙◌, arith, length-drop, Some, None, nat_le, IsTrue}
use Rattle.nb_engine.proofs.Common.{NotDatabase, take-append-drop, with_part, with_payload, is_page_size, part-with_part_before, padded_whole, Image, page_at, image_size, Base, drafted, Slot, put_slot, when, le_no, entry_cause, page_strokes, write_cause, page_strokes_are, applies, first_here, first_next, le_yes, when_false, one_cause}

-- bytes after the head of a page were written
module _ (at : ℕ) (bytes old : List ℕ) (low : 16 ≤ at) (before : at ≤ length old) (long : length (with_part at bytes old) ≡ length old) where
  abbrev now : List ℕ
  now = with_part at bytes old

  pub written_payload : now ≡ with_payload old (drop 16 now)
  unfolding with_payload
  written_payload =
      let head : take 16 now ≡ take 16 old = part-with_part_before at 0 16 bytes old before (omega (arith, low)) in
      let rest : length (drop 16 now) ≡ length old - 16 = length-drop 16 now ∙ ap (λ (n : ℕ). n - 16) long in
      sym (take-append-drop 16 now) ∙ ap (λ (xs : List ℕ). xs ++ drop 16 now) head ∙ ap (λ (xs : List ℕ). take 16 old ++ xs) (sym (padded_whole (length old - 16) (drop 16 now) rest))

  pub payload_inside : 16 + length (drop 16 now) ≤ length old
  payload_inside = omega (arith, length-drop 16 now, long, low, before)

-- the strokes of a slot
pub slot_strokes : (b : Base) (p slot : ℕ) (bytes : Slot) → IsTrue (is_page_size (image_size b.image)) → entry_cause b.image p ≡ None
    → page_strokes b.image p 5 (drop 16 (with_part (32 + 256 * slot) bytes (page_at b.image p))) ≡ (put_slot p slot bytes (drafted b.image)).strokes
unfolding put_slot
slot_strokes b p slot bytes size none = page_strokes_are b p 5 (drop 16 (with_part (32 + 256 * slot) bytes (page_at b.image p))) size none

-- why a page isn't written
pub write_low : (image : Image) (p : ℕ) → p < length image → entry_cause image p ≡ write_cause image p
write_low image p low = sym (first_next (when (nat_le (length image) p) (NotDatabase p)) (entry_cause image p ∷ []) (when_false _ _ (le_no (length image) p low)) ∙ one_cause (entry_cause image p))

pub write_past : (image : Image) (p : ℕ) → length image ≤ p → write_cause image p ≡ Some (NotDatabase p)
write_past image p far = first_here (when (nat_le (length image) p) (NotDatabase p)) (entry_cause image p ∷ []) (NotDatabase p) (applies _ _ (le_yes (length image) p far))
