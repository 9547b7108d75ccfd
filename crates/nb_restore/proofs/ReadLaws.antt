-- What is read of a level file where a head was written.
use Rattle.std.proofs.Common.{◌≡◌, ℕ, zero, suc, ◌+◌, ◌*◌, ◌/◌, ◌%◌, List, ◌∷◌, length, take, refl, ap, ◌∙◌, arith}
use Rattle.nb_restore.proofs.Common.{take_at, drop_at, number_of, number_in, Numbered, Head, head_then, head_in, level_bytes}
use Rattle.nb_fields.specs.Bytes.{bytes_of}

-- the lowest bytes of a number spell them again
pub bytes_again : (w v : ℕ) → bytes_of w (number_of (bytes_of w v)) ≡ bytes_of w v
unfolding bytes_of number_of
bytes_again zero v = refl
bytes_again (suc w) v =
    let m : ℕ = number_of (bytes_of w (v / 256)) in
    let low : (v % 256 + 256 * m) % 256 ≡ v % 256 = omega arith in
    let high : (v % 256 + 256 * m) / 256 ≡ m = omega arith in
    ap (λ (b : ℕ). b ∷ bytes_of w ((v % 256 + 256 * m) / 256)) low ∙ ap (λ (n : ℕ). v % 256 ∷ bytes_of w n) high ∙ ap (λ (bs : List ℕ). v % 256 ∷ bs) (bytes_again w (v / 256))

module _ (version : ℕ) (h : Head) (rs : List Numbered) where
  -- the level's two bytes are read back, and spell it again
  pub reads_level : bytes_of 2 (head_in (level_bytes version h rs)).level ≡ bytes_of 2 h.level
  unfolding head_in level_bytes head_then number_in bytes_of
  reads_level = bytes_again 2 h.level

  -- so is the GUID of the file before
  pub reads_previous : length h.guid ≡ 16 → length h.previous ≡ 16 → (head_in (level_bytes version h rs)).previous ≡ h.previous
  unfolding head_in level_bytes head_then bytes_of
  reads_previous guid previous = ap (take 16) (drop_at h.guid _ 16 guid) ∙ take_at h.previous _ 16 previous
