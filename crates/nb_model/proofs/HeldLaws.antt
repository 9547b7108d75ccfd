-- A page that is taken, and no system page, stays as it is where other pages are written, made and given back.
use Rattle.std.proofs.Common.{◌≡◌, ◌≢◌, ◌⊎◌, inl, inr, ℕ, zero, suc, ◌+◌, ◌-◌, ◌/◌, ◌%◌, ◌<◌, ◌≤◌, List, length, drop, refl, sym, ap, subst, ◌∙◌, arith, Bool, true, false, ◌==◌}
use Rattle.nb_model.proofs.Common.{true≢false, or_parts, eqb_tells, kind_of, bit_of, bits_in, entries_in, inventory_place, is_inventory_place, is_system_place, bits-least, SizeFacts, size_facts, inventory_kind, data_kind, owner_in, Draft, drafted, old_page, is_kind, put, set_bit, with_bit, take_page, is_free_page, inventory_of, bit_number, free_from, lowest_free, system_page, system_kind, system_payload, new_within, Page, Image, page_at, image_size, image_scn, with_page}
use Rattle.nb_model.proofs.BitLaws.{bit_else, bit_behind, one_bit, with_bit_length}
use Rattle.nb_model.proofs.DraftJoin.{joined_new}
use Rattle.nb_model.proofs.FitLaws.{IsWhole, form_page}
use Rattle.nb_model.proofs.NewSound.{inventory_before}
use Rattle.nb_model.proofs.PutSound.{IsPlace}
use Rattle.nb_model.proofs.RoomLaws.{old_there}
use Rattle.nb_model.proofs.RoundLaws.{IsFound, round, no_place, bit_by, kind_found, needs_found, put_longer, put_size, put_here, put_other, put_inventory, take_here, system_well, system_low, round_image, round_well, plain_well, plain_low, last_image, last_same, found, new_more, new_last}
use Rattle.nb_model.proofs.SoundLaws.{FitsAt, all_at, inventory_there, inventory_place_some, size_stays, written_other, with_page_length}

-- The page holds these bytes, is no system page, and is taken.
pub record IsHeld (q : ℕ) (bytes : Page) (image : Image) : Type 0 where
  pub is : page_at image q ≡ bytes
  pub behind : 1 ≤ q
  pub below : q < length image
  pub plain : is_system_place (image_size image) q ≡ false
  pub taken : is_free_page image q ≡ false

-- a data page of the history
pub record IsOfHistory (bytes : Page) : Type 0 where
  pub of_kind : kind_of bytes ≡ data_kind
  pub owner : owner_in bytes ≡ 1

-- So it does in another image that has that page and its bit.
pub held_by : (q : ℕ) (bytes : Page) (old new : Image) → image_size new ≡ image_size old → length old ≤ length new → page_at new q ≡ page_at old q → is_free_page new q ≡ is_free_page old q → IsHeld q bytes old → IsHeld q bytes new
held_by q bytes old new size longer same bit h = record {
  is = same ∙ h.is;
  behind = h.behind;
  below = let low = h.below in omega (arith, low, longer);
  plain = ap (λ (s : ℕ). is_system_place s q) size ∙ h.plain;
  taken = bit ∙ h.taken;
}

bit_by_bit : (image after : Image) (q : ℕ) → image_size after ≡ image_size image → bit_of (page_at after (inventory_of image q)) (bit_number image q) ≡ bit_of (page_at image (inventory_of image q)) (bit_number image q)
    → is_free_page after q ≡ is_free_page image q
unfolding is_free_page
bit_by_bit image after q size same = ap (λ (s : ℕ). bit_of (page_at after (inventory_place s (q / bits_in s))) (q % bits_in s) == 1) size ∙ ap (λ (n : ℕ). n == 1) same

pub set_bit_is : (bit p : ℕ) (image : Image) → is_kind image inventory_kind (inventory_of image p) ≡ true
    → set_bit bit p (drafted image) ≡ put (inventory_of image p) inventory_kind (drop 16 (with_bit (bit_number image p) bit (page_at image (inventory_of image p)))) (drafted image)
unfolding set_bit
set_bit_is bit p image is = ap (put (inventory_of image p) inventory_kind (drop 16 (with_bit (bit_number image p) bit (page_at image (inventory_of image p))))) (needs_found image 2 (inventory_of image p) is)

module _ (q : ℕ) (bytes : Page) where
  -- Another page is written that isn't the inventory page of it.
  pub held_write : (image : Image) (p : ℕ) (page : Page) → IsWhole image → FitsAt image p page → q ≢ p → inventory_of image q ≢ p → IsHeld q bytes image → IsHeld q bytes (with_page p page image)
  held_write image p page h fits other apart held =
      held_by q bytes image (with_page p page image) (size_stays image p page h.fields h.sound fits) (omega (arith, with_page_length p page image fits.there)) (written_other image p page h.fields h.sound fits q other)
      (bit_by image (with_page p page image) q (size_stays image p page h.fields h.sound fits) (written_other image p page h.fields h.sound fits (inventory_of image q) apart)) held

  held_two : (image : Image) → IsWhole image → IsHeld q bytes image → 2 ≤ q
  held_two image h held = let some = held.behind in let other = (no_place image h q held.plain).0 0 in omega (arith, some, other)

  -- A page is put elsewhere, with its entry first, which leaves the bit as it was.
  pub held_put : (image : Image) → IsWhole image → (p kind : ℕ) (payload : List ℕ) → IsPlace image p → q ≢ p
      → (inventory_of image q ≡ p → bit_of (form_page p kind payload image) (bit_number image q) ≡ bit_of (page_at image p) (bit_number image q))
      → IsHeld q bytes image → IsHeld q bytes (put p kind payload (drafted image)).image
  held_put image h p kind payload at other bits held = held_by q bytes image new size (put_longer image h p at kind payload) (put_other image h p at kind payload q other ((no_place image h q held.plain).1 (p / entries_in (image_size image)))) bit held
    where
      new : Image
      new = (put p kind payload (drafted image)).image

      size : image_size new ≡ image_size image
      size = put_size image h p at kind payload

      bit : is_free_page new q ≡ is_free_page image q
      bit = elim (eqb_tells (inventory_of image q) p) [
        | inl w ↦ bit_by_bit image new q size (ap (λ (n : ℕ). bit_of (page_at new n) (bit_number image q)) w.1 ∙ ap (λ (x : Page). bit_of x (bit_number image q)) (put_here image h p at kind payload) ∙ bits w.1 ∙ ap (λ (n : ℕ). bit_of (page_at image n) (bit_number image q)) (sym w.1))
        | inr w ↦ bit_by image new q size (put_inventory image h p at kind payload (q / bits_in (image_size image)) w.1)
      ]

  -- The bit of another page is written.
  pub held_bit : (image : Image) → IsWhole image → (bit p : ℕ) → bit ≤ 1 → 2 ≤ p → p < length image → q ≢ p → IsHeld q bytes image → IsHeld q bytes (set_bit bit p (drafted image)).image
  held_bit image h bit p small two low other held =
      subst (λ (d : Draft). IsHeld q bytes d.image) (sym set_is)
      (held_put image h i 2 (drop 16 row) i_place (λ e. (no_place image h q held.plain).0 (p / bits_in (image_size image)) e) same_bit held)
    where
      i : ℕ
      i = inventory_of image p

      row : Page
      row = with_bit (bit_number image p) bit (page_at image i)

      i_low : i < length image
      i_low = let before = inventory_before (image_size image) p h.fields.size two in omega (arith, before, low)

      i_place : IsPlace image i
      i_place = record { behind = inventory_place_some (image_size image) (p / bits_in (image_size image)) h.fields.size; there = omega (arith, i_low); most = let most = h.sound.most in omega (arith, i_low, most) }

      i_found : is_kind image inventory_kind i ≡ true
      i_found = kind_found image inventory_kind i i_low (h.sound.sound.system.inventories i i_low (inventory_there (image_size image) (p / bits_in (image_size image)) h.fields.size))

      set_is : set_bit bit p (drafted image) ≡ put i inventory_kind (drop 16 row) (drafted image)
      set_is = set_bit_is bit p image i_found

      facts : SizeFacts (image_size image)
      facts = size_facts (image_size image) h.fields.size

      i_long : length (page_at image i) ≡ image_size image
      i_long = all_at (λ x. length x ≡ image_size image) image h.sound.sizes i i_low

      same_bit : inventory_of image q ≡ i → bit_of (form_page i inventory_kind (drop 16 row) image) (bit_number image q) ≡ bit_of (page_at image i) (bit_number image q)
      same_bit at =
          let least = bits-least (image_size image) h.fields.size in
          let below : bit_number image p < bits_in (image_size image) = omega (arith, least) in
          let old_is : old_page i image ≡ page_at image i = old_there image i i_low in
          bit_behind (old_page i image) 2 (image_scn image) i (bit_number image q) row (with_bit_length (bit_number image p) bit (page_at image i) ∙ ap length (sym old_is)) (omega (arith, facts.at_least, i_long, ap length old_is))
          ∙ bit_else (bit_number image p) (bit_number image q) bit (page_at image i) small (omega (arith, facts.at_least, i_long, below)) (λ e. other (one_bit (image_size image) p q h.fields.size at e))

  -- a system page that wasn't there
  pub held_system : (image : Image) (h : IsWhole image) (p : ℕ) (at : IsPlace image p) (place : is_system_place (image_size image) p ≡ true) → IsHeld q bytes image → IsHeld q bytes (system_page p (drafted image)).image
  unfolding system_page
  held_system image h p at place held = by (is_kind image (system_kind image p) p) refl
    where
      other : q ≢ p
      other e = true≢false (sym place ∙ ap (is_system_place (image_size image)) (sym e) ∙ held.plain)

      by : (t : Bool) → is_kind image (system_kind image p) p ≡ t → IsHeld q bytes (elim t as (λ z. Draft) [ true ↦ drafted image | false ↦ put p (system_kind image p) (system_payload image p) (drafted image) ]).image
      by true is = held
      by false is = held_put image h p (system_kind image p) (system_payload image p) at other (λ e. absurd (true≢false (sym (kind_of_inventory e) ∙ is))) held
        where
          kind_of_inventory : inventory_of image q ≡ p → is_kind image (system_kind image p) p ≡ true
          kind_of_inventory e =
              let inventory : is_inventory_place (image_size image) p ≡ true = subst (λ (n : ℕ). is_inventory_place (image_size image) n ≡ true) e (inventory_there (image_size image) (q / bits_in (image_size image)) h.fields.size) in
              let before = inventory_before (image_size image) q h.fields.size (held_two image h held) in
              let low : p < length image = let below = held.below in omega (arith, before, below, e) in
              ap (λ (t : Bool). is_kind image (elim t as (λ z. ℕ) [ true ↦ 2 | false ↦ 10 ]) p) inventory ∙ kind_found image inventory_kind p low (h.sound.sound.system.inventories p low inventory)

  -- A round of the search for a new page, and its end.
  pub held_round : (image : Image) (h : IsWhole image) (p : ℕ) (at : IsPlace image p) (place : is_system_place (image_size image) p ≡ true) → 2 ≤ p → IsHeld q bytes image → IsHeld q bytes (round p image).image
  held_round image h p at place two held =
      subst (IsHeld q bytes) (sym (round_image image h p at place two))
      (held_bit (system_page p (drafted image)).image (system_well image h p at place) 0 p (omega arith) two (system_low image h p at place)
      (λ e. true≢false (sym place ∙ ap (is_system_place (image_size image)) (sym e) ∙ held.plain)) (held_system image h p at place held))

  held_last : (image : Image) (h : IsWhole image) (p kind : ℕ) (payload : List ℕ) (at : IsPlace image p) (plain : is_system_place (image_size image) p ≡ false) (some : (kind == 0) ≡ false) (room : length payload ≤ 1008) → 2 ≤ p → q ≢ p
      → IsHeld q bytes image → IsHeld q bytes (take_page p (put p kind payload (drafted image))).image
  held_last image h p kind payload at plain some room two other held =
      subst (IsHeld q bytes) (sym (last_image image h p kind payload at plain some room two))
      (held_bit (put p kind payload (drafted image)).image (plain_well image h p kind payload at plain some room) 0 p (omega arith) two (plain_low image h p kind payload at plain some room) other
      (held_put image h p kind payload at other (λ e. absurd ((no_place image h p plain).0 (q / bits_in (image_size image)) (sym e))) held))

-- the lowest free page is free, or the one after the last
free_found : (left p : ℕ) (image : Image) → (is_free_page image (free_from left p image) ≡ true) ⊎ (free_from left p image ≡ p + left)
unfolding free_from
free_found zero p image = inr (omega arith)
free_found (suc left) p image = by (free_found left (p + 1) image) (is_free_page image p) refl
  where
    by : (is_free_page image (free_from left (p + 1) image) ≡ true) ⊎ (free_from left (p + 1) image ≡ p + 1 + left) → (t : Bool) → is_free_page image p ≡ t
        → (is_free_page image (elim t as (λ z. ℕ) [ true ↦ p | false ↦ free_from left (p + 1) image ]) ≡ true) ⊎ ((elim t as (λ z. ℕ) [ true ↦ p | false ↦ free_from left (p + 1) image ]) ≡ p + suc left)
    by rest true is = inl is
    by (inl free) false is = inl free
    by (inr end) false is = inr (omega (arith, end))

-- so no page that is held is found
pub lowest_other : (q : ℕ) (bytes : Page) (image : Image) → IsWhole image → IsHeld q bytes image → q ≢ lowest_free image
unfolding lowest_free
lowest_other q bytes image h held e = elim (free_found (length image - 5) 5 image) [
  | inl free ↦ true≢false (sym free ∙ ap (is_free_page image) (sym e) ∙ held.taken)
  | inr end ↦ absurd (let low = held.below in let least = h.sound.least in omega (arith, e, end, low, least))
]

-- A new page is taken, holds its payload, is none that is held, and keeps each of those.
pub record IsMade (image : Image) (kind : ℕ) (payload : ℕ → List ℕ) (made : Draft × ℕ) : Type 0 where
  pub taken : is_free_page made.0.image made.1 ≡ false
  pub of : (x : Image) × (page_at made.0.image made.1 ≡ form_page made.1 kind (payload made.1) x)
  pub of_whole : IsWhole of.0
  pub other : (q : ℕ) (bytes : Page) → IsHeld q bytes image → q ≢ made.1
  pub keeps : (q : ℕ) (bytes : Page) → IsHeld q bytes image → IsHeld q bytes made.0.image

pub new_is_made : (tries kind : ℕ) (payload : ℕ → List ℕ) (image : Image) → IsWhole image → (kind == 0) ≡ false → ((p : ℕ) → length (payload p) ≤ 1008)
    → (new_within tries kind payload (drafted image)).0.full ≡ false → IsMade image kind payload (new_within tries kind payload (drafted image))
new_is_made zero kind payload image h some room left = absurd (omega (arith, (found image h kind payload zero left).tries_is))
new_is_made (suc tries) kind payload image h some room left = by (λ x well full. new_is_made tries kind payload x well some room full) (is_system_place (image_size image) p) refl
  where
    p : ℕ
    p = lowest_free image

    f : IsFound image (suc tries) p
    f = found image h kind payload (suc tries) left

    two : 2 ≤ p
    two = omega (arith, f.five)

    new : Draft × ℕ
    new = new_within (suc tries) kind payload (drafted image)

    more : Draft × ℕ
    more = new_within tries kind payload (drafted (round p image).image)

    by : ((x : Image) → IsWhole x → (new_within tries kind payload (drafted x)).0.full ≡ false → IsMade x kind payload (new_within tries kind payload (drafted x))) → (t : Bool) → is_system_place (image_size image) p ≡ t → IsMade image kind payload new
    by rest true place =
        let e : new ≡ joined_new (round p image) more = new_more image h kind payload tries f.at.most place in
        let full : more.0.full ≡ false = (or_parts more.0.full (round p image).full (ap (λ (x : Draft × ℕ). x.0.full) (sym e) ∙ left)).0 in
        let one : IsMade (round p image).image kind payload more = rest (round p image).image (round_well image h p f.at place two) full in
        subst (IsMade image kind payload) (sym e) (record { taken = one.taken; of = one.of; of_whole = one.of_whole; other = λ q bytes held. one.other q bytes (held_round q bytes image h p f.at place two held); keeps = λ q bytes held. one.keeps q bytes (held_round q bytes image h p f.at place two held) })
    by rest false place = subst (IsMade image kind payload) (sym (new_last image h kind payload tries f.at.most place)) (record {
      taken = ap (λ (x : Image). is_free_page x p) (last_image image h p kind (payload p) f.at place some (room p) two)
          ∙ take_here (put p kind (payload p) (drafted image)).image (plain_well image h p kind (payload p) f.at place some (room p)) p two (plain_low image h p kind (payload p) f.at place some (room p));
      of = (image, last_same image h p kind (payload p) f.at place some (room p) two p place ∙ put_here image h p f.at kind (payload p));
      of_whole = h;
      other = λ q bytes held. lowest_other q bytes image h held;
      keeps = λ q bytes held. held_last q bytes image h p kind (payload p) f.at place some (room p) two (lowest_other q bytes image h held) held;
    })
