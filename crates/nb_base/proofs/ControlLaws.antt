-- Page 0 with another control block: its fields, that the first 64 bytes decide it, and what is owned then.
use Rattle.std.proofs.Common.{◌≡◌, ◌≢◌, inl, inr, ℕ, zero, suc, ◌+◌, ◌%◌, ◌^◌, ◌<◌, ◌≤◌, List, [], ◌∷◌, ◌++◌, length, take, drop, refl, sym, ap, ◌∙◌, arith, append_assoc, Bool, true, IsTrue, ◌&&◌, ◌||◌, ◌==◌, not, nat_lt, Option, Some, None, max}
use Rattle.nb_base.proofs.Common.{eqb_tells, leb_tells, take-append-le, take_at, take-append-drop, length-take-le, number_in, with_part, is_header, is_sound, size_of, is_page_size, page_in, slot_place, length-with_part, number_in-take, stalled_state, Page, Image, page_at, first_page, controlled, with_control, entry_for, behind_entries, main_page, owned_page, owned, header-size, main_here, main_past, owned_length, owned_at, control_length, control_header, or_right, le_yes, owned-none}
use Rattle.nb_fields.specs.Bytes.{bytes_of}
use Rattle.nb_fields.proofs.NumberLaws.{length-bytes_of}
use Rattle.nb_model.specs.Owner.{slot_page}
use Rattle.nb_base.proofs.OwnedLaws.{is_owned, owned-entry}

-- a part within the front
part_in_front : (at : ℕ) (x f r : List ℕ) → at + length x ≤ length f → with_part at x (f ++ r) ≡ with_part at x f ++ r
part_in_front at x f r within =
    ap (λ (y : List ℕ). y ++ (x ++ drop (at + length x) (f ++ r))) (take-append-le at f r (omega (arith, within)))
    ∙ ap (λ (y : List ℕ). take at f ++ (x ++ y)) (drop-append-le (at + length x) f r within)
    ∙ ap (λ (y : List ℕ). take at f ++ y) (sym (append_assoc x (drop (at + length x) f) r)) ∙ sym (append_assoc (take at f) (x ++ drop (at + length x) f) r)
  where
    drop-append-le : (n : ℕ) (xs ys : List ℕ) → n ≤ length xs → drop n (xs ++ ys) ≡ drop n xs ++ ys
    drop-append-le zero xs ys h = refl
    drop-append-le (suc n) [] ys h = absurd (omega (arith, h))
    drop-append-le (suc n) (y ∷ xs) ys h = drop-append-le n xs ys (omega (arith, h))

-- The header keeps its form.
pub controlled-header : (state scn : ℕ) (guid : List ℕ) → length guid ≡ 16 → (p : Page) → 64 ≤ length p → is_header p ≡ true → state ≤ 3 → 1 ≤ scn → scn < 4294967296 → (state ≡ stalled_state → scn < 4294967295) → is_header (controlled state scn guid p) ≡ true
controlled-header state scn guid sixteen p long header low some most room = control_header state scn guid p long sixteen header (sound (header-size p header)) (omega (arith, low)) most
  where
    open_room : (not (state == stalled_state) || nat_lt scn 4294967295) ≡ true
    open_room = elim (eqb_tells state 1) [
      | inl w ↦ or_right (not (state == stalled_state)) (nat_lt scn 4294967295) (le_yes (suc scn) 4294967295 (room w.1))
      | inr w ↦ ap (λ (t : Bool). not t || nat_lt scn 4294967295) w.0
    ]

    sound : IsTrue (is_page_size (size_of p)) → is_sound state (size_of p) scn ≡ true
    sound size = all_four _ _ _ _ (le_yes state 3 low) size (le_yes 1 scn some) open_room
      where
        all_four : (a b c d : Bool) → a ≡ true → b ≡ true → c ≡ true → d ≡ true → (a && b && c && d) ≡ true
        all_four a b c d e f g h = rw (e, f, g, h) refl

-- What stands after the first 64 bytes has no part in it.
pub controlled-front : (state scn : ℕ) (guid f r : List ℕ) → length guid ≡ 16 → length f ≡ 64 → controlled state scn guid (f ++ r) ≡ controlled state scn guid f ++ r
unfolding controlled
controlled-front state scn guid f r sixteen long =
    let g : List ℕ = bytes_of 4 ((number_in 4 4 (f ++ r) + 1) % 2 ^ 32) in
    let q1 : List ℕ = with_part 32 guid f in
    let q2 : List ℕ = with_part 28 (bytes_of 4 scn) q1 in
    let q3 : List ℕ = with_part 22 (bytes_of 2 state) q2 in
    let q4 : List ℕ = with_part 8 (bytes_of 4 scn) q3 in
    let n1 : length q1 ≡ 64 = length-with_part 32 guid f (omega (arith, sixteen, long)) ∙ long in
    let n2 : length q2 ≡ 64 = length-with_part 28 (bytes_of 4 scn) q1 (omega (arith, length-bytes_of 4 scn, n1)) ∙ n1 in
    let n3 : length q3 ≡ 64 = length-with_part 22 (bytes_of 2 state) q2 (omega (arith, length-bytes_of 2 state, n2)) ∙ n2 in
    let n4 : length q4 ≡ 64 = length-with_part 8 (bytes_of 4 scn) q3 (omega (arith, length-bytes_of 4 scn, n3)) ∙ n3 in
    let e1 : with_part 32 guid (f ++ r) ≡ q1 ++ r = part_in_front 32 guid f r (omega (arith, sixteen, long)) in
    let e2 : with_part 28 (bytes_of 4 scn) (q1 ++ r) ≡ q2 ++ r = part_in_front 28 (bytes_of 4 scn) q1 r (omega (arith, length-bytes_of 4 scn, n1)) in
    let e3 : with_part 22 (bytes_of 2 state) (q2 ++ r) ≡ q3 ++ r = part_in_front 22 (bytes_of 2 state) q2 r (omega (arith, length-bytes_of 2 state, n2)) in
    let e4 : with_part 8 (bytes_of 4 scn) (q3 ++ r) ≡ q4 ++ r = part_in_front 8 (bytes_of 4 scn) q3 r (omega (arith, length-bytes_of 4 scn, n3)) in
    let e5 : with_part 4 g (q4 ++ r) ≡ with_part 4 g q4 ++ r = part_in_front 4 g q4 r (omega (arith, length-bytes_of 4 ((number_in 4 4 (f ++ r) + 1) % 2 ^ 32), n4)) in
    let same : g ≡ bytes_of 4 ((number_in 4 4 f + 1) % 2 ^ 32) = ap (λ n. bytes_of 4 ((n + 1) % 2 ^ 32)) (number_in-front 4 4 f r (omega (arith, long))) in
    ap (λ (x : List ℕ). with_part 4 g (with_part 8 (bytes_of 4 scn) (with_part 22 (bytes_of 2 state) (with_part 28 (bytes_of 4 scn) x)))) e1
    ∙ ap (λ (x : List ℕ). with_part 4 g (with_part 8 (bytes_of 4 scn) (with_part 22 (bytes_of 2 state) x))) e2 ∙ ap (λ (x : List ℕ). with_part 4 g (with_part 8 (bytes_of 4 scn) x)) e3 ∙ ap (λ (x : List ℕ). with_part 4 g x) e4 ∙ e5
    ∙ ap (λ (x : List ℕ). with_part 4 x q4 ++ r) same
  where
    number_in-front : (at w : ℕ) (f r : List ℕ) → at + w ≤ length f → number_in at w (f ++ r) ≡ number_in at w f
    number_in-front at w f r within = sym (number_in-take (length f) at w (f ++ r) within) ∙ ap (number_in at w) (take_at f r (length f) refl)

-- Page 0 of an image with another control block.
with_control-cons : (state scn : ℕ) (guid : List ℕ) (p : Page) (ps : Image) → with_control state scn guid (p ∷ ps) ≡ controlled state scn guid p ∷ ps
unfolding with_control
with_control-cons state scn guid p ps = refl

module _ (state scn : ℕ) (guid : List ℕ) where
  pub with_control-length : (image : Image) → length (with_control state scn guid image) ≡ length image
  unfolding with_control
  with_control-length [] = refl
  with_control-length (p ∷ ps) = refl

  pub with_control-first : (image : Image) → 1 ≤ length image → first_page (with_control state scn guid image) ≡ controlled state scn guid (first_page image)
  with_control-first [] some = absurd (omega (arith, some))
  with_control-first (p ∷ ps) some = ap first_page (with_control-cons state scn guid p ps)

  pub with_control-behind : (image : Image) (q : ℕ) → q ≢ 0 → page_at (with_control state scn guid image) q ≡ page_at image q
  unfolding with_control
  with_control-behind [] q other = refl
  with_control-behind (p ∷ ps) zero other = absurd (other refl)
  with_control-behind (p ∷ ps) (suc q) other = refl

  -- The image of two files, where the main file's page 0 has another control block.
  module _ (size : ℕ) (main : Image) (delta table : List ℕ) (some : 1 ≤ length main) (long : 64 ≤ length (first_page main)) (sixteen : length guid ≡ 16) where
    abbrev new : Image
    new = with_control state scn guid main

    new_length : length new ≡ length main
    new_length = with_control-length main

    front : length (take 64 (first_page main)) ≡ 64
    front = length-take-le 64 (first_page main) long

    split : first_page main ≡ take 64 (first_page main) ++ drop 64 (first_page main)
    split = sym (take-append-drop 64 (first_page main))

    fronts : take 64 (controlled state scn guid (first_page main)) ≡ controlled state scn guid (take 64 (first_page main))
    fronts =
        ap (λ (x : Page). take 64 (controlled state scn guid x)) split ∙ ap (take 64) (controlled-front state scn guid (take 64 (first_page main)) (drop 64 (first_page main)) sixteen front)
        ∙ take_at (controlled state scn guid (take 64 (first_page main))) (drop 64 (first_page main)) 64 (control_length state scn guid (take 64 (first_page main)) (omega (arith, front)) sixteen ∙ front)

    -- the slot of page 0
    slot_zero : (k : ℕ) → slot_page size (with_control state scn guid main) delta 0 k ≡ controlled state scn guid (slot_page size main delta 0 k)
    unfolding slot_page
    slot_zero k =
        ap (λ (x : Page). take 64 x ++ drop 64 (page_in size delta (slot_place size k))) (with_control-first main some) ∙ ap (λ (x : Page). x ++ drop 64 (page_in size delta (slot_place size k))) fronts
        ∙ sym (controlled-front state scn guid (take 64 (first_page main)) (drop 64 (page_in size delta (slot_place size k))) sixteen front)

    slot_behind : (q k : ℕ) → slot_page size (with_control state scn guid main) delta (suc q) k ≡ slot_page size main delta (suc q) k
    unfolding slot_page
    slot_behind q k = refl

    main_behind : (q : ℕ) → main_page size (with_control state scn guid main) (suc q) ≡ main_page size main (suc q)
    main_behind q = elim (leb_tells (suc (suc q)) (length main)) [
      | inl w ↦ main_here size new (suc q) (omega (arith, w.1, new_length)) ∙ with_control-behind main (suc q) (λ e. absurd (omega (arith, e))) ∙ sym (main_here size main (suc q) w.1)
      | inr w ↦ main_past size new (suc q) (omega (arith, w.1, new_length)) ∙ sym (main_past size main (suc q) (omega (arith, w.1)))
    ]

    page_zero : (x : Option ℕ) → entry_for 0 table ≡ x → owned_page size new delta table 0 ≡ controlled state scn guid (owned_page size main delta table 0)
    page_zero None e =
        owned-none size new delta table 0 e ∙ main_here size new 0 (omega (arith, new_length, some)) ∙ with_control-first main some
        ∙ ap (controlled state scn guid) (sym (owned-none size main delta table 0 e ∙ main_here size main 0 some))
    page_zero (Some k) e = owned-entry size new delta table 0 k e ∙ slot_zero k ∙ ap (controlled state scn guid) (sym (owned-entry size main delta table 0 k e))

    page_behind : (q : ℕ) (x : Option ℕ) → entry_for (suc q) table ≡ x → owned_page size new delta table (suc q) ≡ owned_page size main delta table (suc q)
    page_behind q None e = owned-none size new delta table (suc q) e ∙ main_behind q ∙ sym (owned-none size main delta table (suc q) e)
    page_behind q (Some k) e = owned-entry size new delta table (suc q) k e ∙ slot_behind q k ∙ sym (owned-entry size main delta table (suc q) k e)

    pub owned-control : owned size (with_control state scn guid main) delta table ≡ with_control state scn guid (owned size main delta table)
    owned-control =
        let image : Image = owned size main delta table in
        let has : length image ≡ max (length main) (behind_entries table) = owned_length size main delta table in
        let all : length (with_control state scn guid image) ≡ length image = with_control-length image in
        sym (is_owned size new delta table (with_control state scn guid image) (omega (arith, has, all, new_length)) (each image has all))
      where
        each : (image : Image) → length image ≡ max (length main) (behind_entries table) → length (with_control state scn guid image) ≡ length image → (p : ℕ) → p < length (with_control state scn guid (owned size main delta table))
            → page_at (with_control state scn guid (owned size main delta table)) p ≡ owned_page size new delta table p
        each image has all zero low =
            with_control-first (owned size main delta table) (omega (arith, some, owned_length size main delta table)) ∙ ap (controlled state scn guid) (owned_at size main delta table 0 (omega (arith, some, owned_length size main delta table)))
            ∙ sym (page_zero (entry_for 0 table) refl)
        each image has all (suc q) low =
            with_control-behind (owned size main delta table) (suc q) (λ e. absurd (omega (arith, e))) ∙ owned_at size main delta table (suc q) (omega (arith, low, with_control-length (owned size main delta table)))
            ∙ sym (page_behind q (entry_for (suc q) table) refl)

-- the fields set one after another
pub block_set : (state scn generation s1 s2 s3 : ℕ) (guid p a b c d e : List ℕ) → a ≡ with_part 32 guid p → b ≡ with_part 28 (bytes_of 4 s1) a → c ≡ with_part 22 (bytes_of 2 s2) b → d ≡ with_part 8 (bytes_of 4 s3) c
    → e ≡ with_part 4 (bytes_of 4 generation) d → s1 ≡ scn → s2 ≡ state → s3 ≡ scn → generation ≡ (number_in 4 4 p + 1) % 2 ^ 32 → e ≡ controlled state scn guid p
unfolding controlled
block_set state scn generation s1 s2 s3 guid p a b c d e ea eb ec ed ee e1 e2 e3 eg =
    let b_is : b ≡ with_part 28 (bytes_of 4 scn) (with_part 32 guid p) = eb ∙ ap (λ n. with_part 28 (bytes_of 4 n) a) e1 ∙ ap (λ (x : List ℕ). with_part 28 (bytes_of 4 scn) x) ea in
    let c_is : c ≡ with_part 22 (bytes_of 2 state) (with_part 28 (bytes_of 4 scn) (with_part 32 guid p)) = ec ∙ ap (λ n. with_part 22 (bytes_of 2 n) b) e2 ∙ ap (λ (x : List ℕ). with_part 22 (bytes_of 2 state) x) b_is in
    let d_is : d ≡ with_part 8 (bytes_of 4 scn) (with_part 22 (bytes_of 2 state) (with_part 28 (bytes_of 4 scn) (with_part 32 guid p))) = ed ∙ ap (λ n. with_part 8 (bytes_of 4 n) c) e3 ∙ ap (λ (x : List ℕ). with_part 8 (bytes_of 4 scn) x) c_is in
    ee ∙ ap (λ n. with_part 4 (bytes_of 4 n) d) eg ∙ ap (λ (x : List ℕ). with_part 4 (bytes_of 4 ((number_in 4 4 p + 1) % 2 ^ 32)) x) d_is
