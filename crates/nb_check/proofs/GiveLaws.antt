-- A page of a sound image is given back: its bit says free then, and every other bit is as it was, before and after the entry of its inventory page.
use Rattle.std.proofs.Common.{◌≡◌, ◌≢◌, inl, inr, ℕ, ◌+◌, ◌/◌, ◌%◌, ◌<◌, ◌≤◌, length, drop, sym, ap, subst, ◌∙◌, arith, true, false, ◌==◌}
use Rattle.nb_check.proofs.Common.{eqb_tells, bit_of, bits_in, entries_in, inventory_place, is_scn_place, is_system_place, bits-least, SizeFacts, size_facts, inventory_kind, Base, base_of, Draft, drafted, old_page, put, raised, give_page, is_free_page, inventory_of, bit_number, with_bit, Page, Image, page_at, image_size, image_scn, Along, put_along, bit_put, IsWhole, Fits, fits_first, IsPlace, Raises, is_raised, old_there, AnyPage, no_place, bit_by, kind_found, raises, put_here, put_long, put_inventory, all_at, inventory_there, inventory_place_some, scn_page_there, bit_inventory, bit_size, bit_plain}
use Rattle.nb_model.proofs.BitLaws.{bit_here, bit_else, bit_behind, one_bit, with_bit_length}
use Rattle.nb_model.proofs.HeldLaws.{set_bit_is}
use Rattle.nb_model.proofs.NewSound.{places_apart}

module _ (x : Image) (h : IsWhole x) (p : ℕ) (two : 2 ≤ p) (low : p < length x) where
  abbrev i : ℕ
  i = inventory_of x p

  abbrev row : Page
  row = with_bit (bit_number x p) 1 (page_at x i)

  -- as it is behind
  abbrev pub given : Image
  given = (give_page p (drafted x)).image

  -- and before its inventory page is written
  abbrev pub between : Image
  between = (raised i (drafted x)).image

  i_low : i < length x
  i_low = bit_inventory x h 1 p two low

  i_place : IsPlace x i
  i_place = record { behind = inventory_place_some (image_size x) (p / bits_in (image_size x)) h.fields.size; there = omega (arith, i_low); most = let most = h.sound.most in omega (arith, i_low, most) }

  give_is : give_page p (drafted x) ≡ put i inventory_kind (drop 16 row) (drafted x)
  give_is = set_bit_is 1 p x (kind_found x inventory_kind i i_low (h.sound.sound.system.inventories i i_low (inventory_there (image_size x) (p / bits_in (image_size x)) h.fields.size)))

  pub given_size : image_size given ≡ image_size x
  given_size = bit_size x h 1 p two low

  pub given_length : length given ≡ length x
  given_length = ap (λ (d : Draft). length d.image) give_is ∙ put_long x h i i_place 2 (drop 16 row) i_low

  pub given_plain : (q : ℕ) → is_system_place (image_size x) q ≡ false → page_at given q ≡ page_at x q
  given_plain q plain = bit_plain x h 1 p two low q plain

  pub given_fits : Fits AnyPage (base_of x) (give_page p (drafted x))
  given_fits = (bit_put AnyPage (λ bytes e. tt) (λ bytes e. tt) (base_of x) 1 p (drafted x) (omega arith) (fits_first AnyPage (base_of x) h) low i_low).fits

  i_long : length (page_at x i) ≡ image_size x
  i_long = all_at (λ page. length page ≡ image_size x) x h.sound.sizes i i_low

  -- a bit of that inventory page
  row_bit : (j : ℕ) → bit_of (page_at (put i inventory_kind (drop 16 row) (drafted x)).image i) j ≡ bit_of row j
  row_bit j =
      let facts : SizeFacts (image_size x) = size_facts (image_size x) h.fields.size in
      let old_is : old_page i x ≡ page_at x i = old_there x i i_low in
      ap (λ (page : Page). bit_of page j) (put_here x h i i_place 2 (drop 16 row))
      ∙ bit_behind (old_page i x) 2 (image_scn x) i j row (with_bit_length (bit_number x p) 1 (page_at x i) ∙ ap length (sym old_is)) (omega (arith, facts.at_least, i_long, ap length old_is))

  inside : 32 + bit_number x p / 8 < length (page_at x i)
  inside =
      let facts : SizeFacts (image_size x) = size_facts (image_size x) h.fields.size in
      let least = bits-least (image_size x) h.fields.size in
      let below : bit_number x p < bits_in (image_size x) = omega (arith, least) in
      omega (arith, facts.at_least, i_long, below)

  pub free_then : is_free_page given p ≡ true
  unfolding is_free_page
  free_then =
      let bit : bit_of (page_at (put i inventory_kind (drop 16 row) (drafted x)).image i) (bit_number x p) ≡ 1 = row_bit (bit_number x p) ∙ bit_here (bit_number x p) 1 (page_at x i) (omega arith) inside in
      ap (λ (s : ℕ). bit_of (page_at given (inventory_place s (p / bits_in s))) (p % bits_in s) == 1) given_size
      ∙ ap (λ (d : Draft). bit_of (page_at d.image i) (bit_number x p) == 1) give_is ∙ ap (λ (n : ℕ). n == 1) bit

  pub other_then : (q : ℕ) → q ≢ p → is_free_page given q ≡ is_free_page x q
  unfolding is_free_page
  other_then q other =
      ap (λ (s : ℕ). bit_of (page_at given (inventory_place s (q / bits_in s))) (q % bits_in s) == 1) given_size
      ∙ ap (λ (d : Draft). bit_of (page_at d.image (inventory_of x q)) (bit_number x q) == 1) give_is ∙ ap (λ (n : ℕ). n == 1) by
    where
      by : bit_of (page_at (put i inventory_kind (drop 16 row) (drafted x)).image (inventory_of x q)) (bit_number x q) ≡ bit_of (page_at x (inventory_of x q)) (bit_number x q)
      by = elim (eqb_tells (inventory_of x q) i) [
        | inl w ↦
            ap (λ (n : ℕ). bit_of (page_at (put i inventory_kind (drop 16 row) (drafted x)).image n) (bit_number x q)) w.1 ∙ row_bit (bit_number x q)
            ∙ bit_else (bit_number x p) (bit_number x q) 1 (page_at x i) (omega arith) inside (λ e. other (one_bit (image_size x) p q h.fields.size w.1 e))
            ∙ ap (λ (n : ℕ). bit_of (page_at x n) (bit_number x q)) (sym w.1)
        | inr w ↦ ap (λ (page : Page). bit_of page (bit_number x q)) (put_inventory x h i i_place 2 (drop 16 row) (q / bits_in (image_size x)) w.1)
      ]

  -- Before that only the SCN page of its inventory page changes.
  r : Raises x between i
  r = raises x h i i_place

  pub between_whole : IsWhole between
  between_whole = (is_raised AnyPage (λ bytes e. tt) (base_of x) i (drafted x) (fits_first AnyPage (base_of x) h) i_place).fits.whole

  pub between_size : image_size between ≡ image_size x
  between_size = r.size

  pub between_length : length between ≡ length x
  between_length = r.long

  pub between_plain : (q : ℕ) → is_system_place (image_size x) q ≡ false → page_at between q ≡ page_at x q
  between_plain q plain = r.others q ((no_place x h q plain).1 (i / entries_in (image_size x)))

  pub between_bit : (q : ℕ) → is_free_page between q ≡ is_free_page x q
  between_bit q = bit_by x between q r.size (r.others (inventory_of x q) (λ e.
      places_apart (image_size x) (inventory_of x q) h.fields.size (inventory_there (image_size x) (q / bits_in (image_size x)) h.fields.size)
      (subst (λ (n : ℕ). is_scn_place (image_size x) n ≡ true) (sym e) (scn_page_there (image_size x) (i / entries_in (image_size x)) h.fields.size))))

  -- What holds before, between and after holds along its strokes.
  pub give_along : (Q : Image → Type 0) (b : Base) → b.image ≡ x → Q x → Q between → Q given → Along Q b (give_page p (drafted x)).strokes
  give_along Q b e before mid after =
      subst (λ (d : Draft). Along Q b d.strokes) (sym give_is) (put_along Q b x i 2 (drop 16 row) e before mid (subst (λ (d : Draft). Q d.image) give_is after))
