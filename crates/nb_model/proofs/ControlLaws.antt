-- Page 0 with another state, SCN and GUID: what it tells then, and that an image stays sound with it.
use Rattle.std.proofs.Common.{◌≡◌, inl, inr, ℕ, ◌+◌, ◌%◌, ◌^◌, ◌<◌, ◌≤◌, List, length, refl, ap, ◌∙◌, arith, Bool, true, ◌==◌, ◌&&◌}
use Rattle.nb_model.proofs.Common.{and_parts, bytes_of, with_part, part, number_in, AreApart, signature, version, is_marked, is_sound, is_header, state_of, size_of, scn_of, guid_of, stamp_of, is_header-long, length-bytes_of, length-with_part, part-with_part, part-with_part_other, number_in-with_part, number_in-with_part_other, normal_state, Page, controlled}
use Rattle.nb_model.proofs.HeaderLaws.{form}

-- the four fields and the GUID of page 0
module _ (state scn : ℕ) (guid : List ℕ) (p : Page) (long : 64 ≤ length p) (sixteen : length guid ≡ 16) where
  abbrev generation : ℕ
  generation = (number_in 4 4 p + 1) % 2 ^ 32

  abbrev with_guid : Page
  with_guid = with_part 32 guid p

  abbrev with_scn : Page
  with_scn = with_part 28 (bytes_of 4 scn) with_guid

  abbrev with_state : Page
  with_state = with_part 22 (bytes_of 2 state) with_scn

  abbrev with_stamp : Page
  with_stamp = with_part 8 (bytes_of 4 scn) with_state

  controlled_is : controlled state scn guid p ≡ with_part 4 (bytes_of 4 generation) with_stamp
  unfolding controlled
  controlled_is = refl

  guid_length : length with_guid ≡ length p
  guid_length = length-with_part 32 guid p (omega arith)

  scn_length : length with_scn ≡ length p
  scn_length = length-with_part 28 (bytes_of 4 scn) with_guid (omega (arith, length-bytes_of 4 scn, guid_length)) ∙ guid_length

  state_length : length with_state ≡ length p
  state_length = length-with_part 22 (bytes_of 2 state) with_scn (omega (arith, length-bytes_of 2 state, scn_length)) ∙ scn_length

  stamp_length : length with_stamp ≡ length p
  stamp_length = length-with_part 8 (bytes_of 4 scn) with_state (omega (arith, length-bytes_of 4 scn, state_length)) ∙ state_length

  pub control_length : length (controlled state scn guid p) ≡ length p
  control_length = ap length controlled_is ∙ length-with_part 4 (bytes_of 4 generation) with_stamp (omega (arith, length-bytes_of 4 generation, stamp_length)) ∙ stamp_length

  -- any other field stays
  pub control_other : (by v : ℕ) → AreApart 4 4 by v → AreApart 8 4 by v → AreApart 22 2 by v → AreApart 28 4 by v → AreApart 32 16 by v
      → number_in by v (controlled state scn guid p) ≡ number_in by v p
  control_other by v a b c d e =
      ap (number_in by v) controlled_is
      ∙ number_in-with_part_other 4 4 by v (bytes_of 4 generation) with_stamp (length-bytes_of 4 generation) (omega (arith, stamp_length)) a
      ∙ number_in-with_part_other 8 4 by v (bytes_of 4 scn) with_state (length-bytes_of 4 scn) (omega (arith, state_length)) b
      ∙ number_in-with_part_other 22 2 by v (bytes_of 2 state) with_scn (length-bytes_of 2 state) (omega (arith, scn_length)) c
      ∙ number_in-with_part_other 28 4 by v (bytes_of 4 scn) with_guid (length-bytes_of 4 scn) (omega (arith, guid_length)) d
      ∙ number_in-with_part_other 32 16 by v guid p sixteen (omega arith) e

  pub control_size : size_of (controlled state scn guid p) ≡ size_of p
  control_size = control_other 24 4 (inl (omega arith)) (inl (omega arith)) (inl (omega arith)) (inr (omega arith)) (inr (omega arith))

  pub control_stamp : scn < 4294967296 → stamp_of (controlled state scn guid p) ≡ scn
  control_stamp low =
      ap (number_in 8 4) controlled_is
      ∙ number_in-with_part_other 4 4 8 4 (bytes_of 4 generation) with_stamp (length-bytes_of 4 generation) (omega (arith, stamp_length)) (inl (omega arith))
      ∙ number_in-with_part 8 4 scn with_state low (omega (arith, state_length))

  pub control_state : state < 65536 → state_of (controlled state scn guid p) ≡ state
  control_state low =
      ap (number_in 22 2) controlled_is
      ∙ number_in-with_part_other 4 4 22 2 (bytes_of 4 generation) with_stamp (length-bytes_of 4 generation) (omega (arith, stamp_length)) (inl (omega arith))
      ∙ number_in-with_part_other 8 4 22 2 (bytes_of 4 scn) with_state (length-bytes_of 4 scn) (omega (arith, state_length)) (inl (omega arith))
      ∙ number_in-with_part 22 2 state with_scn low (omega (arith, scn_length))

  pub control_scn : scn < 4294967296 → scn_of (controlled state scn guid p) ≡ scn
  control_scn low =
      ap (number_in 28 4) controlled_is
      ∙ number_in-with_part_other 4 4 28 4 (bytes_of 4 generation) with_stamp (length-bytes_of 4 generation) (omega (arith, stamp_length)) (inl (omega arith))
      ∙ number_in-with_part_other 8 4 28 4 (bytes_of 4 scn) with_state (length-bytes_of 4 scn) (omega (arith, state_length)) (inl (omega arith))
      ∙ number_in-with_part_other 22 2 28 4 (bytes_of 2 state) with_scn (length-bytes_of 2 state) (omega (arith, scn_length)) (inl (omega arith))
      ∙ number_in-with_part 28 4 scn with_guid low (omega (arith, guid_length))

  pub control_guid : guid_of (controlled state scn guid p) ≡ guid
  control_guid =
      ap (part 32 16) controlled_is
      ∙ part-with_part_other 4 4 32 16 (bytes_of 4 generation) with_stamp (length-bytes_of 4 generation) (omega (arith, stamp_length)) (inl (omega arith))
      ∙ part-with_part_other 8 4 32 16 (bytes_of 4 scn) with_state (length-bytes_of 4 scn) (omega (arith, state_length)) (inl (omega arith))
      ∙ part-with_part_other 22 2 32 16 (bytes_of 2 state) with_scn (length-bytes_of 2 state) (omega (arith, scn_length)) (inl (omega arith))
      ∙ part-with_part_other 28 4 32 16 (bytes_of 4 scn) with_guid (length-bytes_of 4 scn) (omega (arith, guid_length)) (inl (omega arith))
      ∙ part-with_part 32 16 guid p sixteen (omega arith)

  marks_stay : is_marked (controlled state scn guid p) ≡ is_marked p
  unfolding is_marked
  marks_stay =
      ap (λ (n : ℕ). n == 1 && number_in 12 4 (controlled state scn guid p) == 0 && number_in 16 4 (controlled state scn guid p) == signature && number_in 20 2 (controlled state scn guid p) == version)
      (control_other normal_state 1 (inr (omega arith)) (inr (omega arith)) (inr (omega arith)) (inr (omega arith)) (inr (omega arith)))
      ∙ ap (λ (n : ℕ). number_in 0 1 p == 1 && n == 0 && number_in 16 4 (controlled state scn guid p) == signature && number_in 20 2 (controlled state scn guid p) == version)
      (control_other 12 4 (inl (omega arith)) (inl (omega arith)) (inr (omega arith)) (inr (omega arith)) (inr (omega arith)))
      ∙ ap (λ (n : ℕ). number_in 0 1 p == 1 && number_in 12 4 p == 0 && n == signature && number_in 20 2 (controlled state scn guid p) == version)
      (control_other 16 4 (inl (omega arith)) (inl (omega arith)) (inr (omega arith)) (inr (omega arith)) (inr (omega arith)))
      ∙ ap (λ (n : ℕ). number_in 0 1 p == 1 && number_in 12 4 p == 0 && number_in 16 4 p == signature && n == version)
      (control_other 20 2 (inl (omega arith)) (inl (omega arith)) (inr (omega arith)) (inr (omega arith)) (inr (omega arith)))

  -- so it is a header where its state and its SCN may be
  pub control_header : is_header p ≡ true → is_sound state (size_of p) scn ≡ true → state < 65536 → scn < 4294967296 → is_header (controlled state scn guid p) ≡ true
  control_header header sound low_state low =
      is_header-long (controlled state scn guid p) (omega (arith, control_length))
      ∙ ap (λ (t : Bool). t && is_sound (state_of (controlled state scn guid p)) (size_of (controlled state scn guid p)) (scn_of (controlled state scn guid p))) (marks_stay ∙ (and_parts (is_marked p) _ (form p header)).0)
      ∙ ap (λ (n : ℕ). is_sound n (size_of (controlled state scn guid p)) (scn_of (controlled state scn guid p))) (control_state low_state)
      ∙ ap (λ (n : ℕ). is_sound state n (scn_of (controlled state scn guid p))) control_size ∙ ap (is_sound state (size_of p)) (control_scn low) ∙ sound
