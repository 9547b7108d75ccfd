-- Laws of mixtures: what they share with what was seen last, and that a mixture of sound images is sound.
use Rattle.std.proofs.Common.{◌≡◌, ℕ, zero, suc, ◌/◌, ◌%◌, ◌<◌, List, [], ◌∷◌, length, take, drop, refl, sym, ap, subst, ◌∙◌, arith, Bool, true, false, not, ◌==◌, ◌||◌, Contains}
use Rattle.nb_model.proofs.Common.{is_zeros, number_in, is_inventory_place, is_scn_place, inventory_place, scn_place, bits_in, entries_in, bit_of, entry_of, kind_of, stamp_of, state_of, size_of, scn_of, guid_of, stalled_state, Page, Image, page_at, first_page, image_size, image_state, image_scn, image_guid, is_forced, is_read_only, Base, inventory_of, scn_page_of, bit_number, entry_number, scn_entry, is_free_page, has_entry, SoundInventory, HasSystemPages, HasBitsBelow, HasEntries, HasStamps, IsSoundImage, IsMixed, IsRaised, IsPagewise, images, IsMixture, IsEarlier}
use Rattle.nb_model.proofs.SoundLaws.{all_from, all_at}

-- where bits and entries stand goes by the page size alone
module _ (a b : Image) (size : image_size a ≡ image_size b) (p : ℕ) where
  pub has_same : has_entry a p ≡ has_entry b p
  unfolding has_entry
  has_same = ap (λ (s : ℕ). elim (p == 0 || is_scn_place s p) as (λ z. Bool) [ true ↦ false | false ↦ true ]) size

  pub scn_page_same : scn_page_of a p ≡ scn_page_of b p
  scn_page_same = ap (λ (s : ℕ). scn_place s (p / entries_in s)) size

  pub inventory_same : inventory_of a p ≡ inventory_of b p
  inventory_same = ap (λ (s : ℕ). inventory_place s (p / bits_in s)) size

  pub entry_same : page_at a (scn_page_of b p) ≡ page_at b (scn_page_of b p) → scn_entry a p ≡ scn_entry b p
  unfolding scn_entry
  entry_same same = ap (λ (s : ℕ). entry_of (page_at a (scn_place s (p / entries_in s))) (p % entries_in s)) size ∙ ap (λ (x : Page). entry_of x (entry_number b p)) same

  pub free_same : page_at a (inventory_of b p) ≡ page_at b (inventory_of b p) → is_free_page a p ≡ is_free_page b p
  unfolding is_free_page
  free_same same = ap (λ (s : ℕ). bit_of (page_at a (inventory_place s (p / bits_in s))) (p % bits_in s) == 1) size ∙ ap (λ (x : Page). bit_of x (bit_number b p) == 1) same

pub image_there : (bases : List Base) (b : Base) → Contains bases b → Contains (images bases) b.image
image_there [] b (k, low, is) = absurd (omega (arith, low))
image_there (x ∷ xs) b (zero, low, is) = (zero, omega arith, ap (λ (c : Base). c.image) is)
image_there (x ∷ xs) b (suc k, low, is) =
    let old = image_there xs b (k, omega (arith, low), is) in
    (suc old.0, omega (arith, old.1), old.2)

pub all_images : (P : Image → Type 0) (bases : List Base) → ((b : Base) → Contains bases b → P b.image) → (m : Image) → Contains (images bases) m → P m
all_images P [] all m (k, low, is) = absurd (omega (arith, low))
all_images P (x ∷ xs) all m (zero, low, is) = subst P is (all x (zero, omega arith, refl))
all_images P (x ∷ xs) all m (suc k, low, is) = all_images P xs (λ b there. all b (suc there.0, omega (arith, there.1), there.2)) m (k, omega (arith, low), is)

-- A mixture and what was seen last.
module _ (bases : List Base) (now : Base) (image : Image) (mixed : IsMixture bases now.image image) where
  -- page 0 is the same, and so are its fields
  pub mixed_size : image_size image ≡ image_size now.image
  mixed_size = ap size_of mixed.first

  pub mixed_scn : image_scn image ≡ image_scn now.image
  mixed_scn = ap scn_of mixed.first

  pub mixed_state : image_state image ≡ image_state now.image
  mixed_state = ap state_of mixed.first

  pub mixed_guid : image_guid image ≡ image_guid now.image
  mixed_guid = ap guid_of mixed.first

  pub mixed_forced : is_forced image ≡ is_forced now.image
  mixed_forced = ap (λ (x : Page). not (number_in 64 1 x == 0)) mixed.first

  pub mixed_read_only : is_read_only image ≡ is_read_only now.image
  mixed_read_only = ap (λ (x : Page). not (number_in 65 1 x == 0)) mixed.first

  module _ (there : Contains bases now) where
    -- it is pagewise
    pub mixture_pagewise : (diverted : List ℕ) → SoundInventory image → (image_state image ≡ stalled_state → IsRaised image diverted) → IsPagewise (images bases) image diverted
    mixture_pagewise diverted sound raised = record {
      control = record { image = now.image; there = image_there bases now there; passes = (mixed.long, ap (take 64) mixed.first) };
      header = record { image = now.image; there = image_there bases now there; passes = ap (drop 64) mixed.first };
      each = λ p some low. let has = mixed.each p low in record { image = has.base.image; there = image_there bases has.base has.there; passes = (has.below, has.same) };
      sound = sound;
      raised = raised;
    }

    -- and mixed as lineage asks for it
    pub mixture_mixed : (s : ℕ) → s < stamp_of (first_page now.image) → IsMixed (images bases) s image
    mixture_mixed s head = record {
      as_long = (now.image, image_there bases now there, mixed.long);
      head = subst (λ (x : Page). s < stamp_of x) (sym mixed.first) head;
      each = λ p some low. let has = mixed.each p low in (has.base.image, image_there bases has.base has.there, has.below, has.same);
    }

-- the image is sound and was before `now`
pub record IsSoundBefore (now image : Image) : Type 0 where
  pub sound : IsSoundImage image
  pub earlier : IsEarlier image now

-- A mixture of sound images that were before the last is sound, where its entries cover its pages.
module _ (bases : List Base) (now : Base) (image : Image) (before : (m : Base) → Contains bases m → IsSoundBefore now.image m.image)
    (sound : IsSoundImage now.image) (entries : HasEntries image) (mixed : IsMixture bases now.image image) where
  size_is : image_size image ≡ image_size now.image
  size_is = mixed_size bases now image mixed

  scn_is : image_scn image ≡ image_scn now.image
  scn_is = mixed_scn bases now image mixed

  -- the image that page p is of
  abbrev of_ : (p : ℕ) → p < length image → Image
  of_ p low = (mixed.each p low).base.image

  is_of : (p : ℕ) (low : p < length image) → page_at image p ≡ page_at (of_ p low) p
  is_of p low = (mixed.each p low).same

  below : (p : ℕ) (low : p < length image) → p < length (of_ p low)
  below p low = (mixed.each p low).below

  sound_of : (p : ℕ) (low : p < length image) → SoundInventory (of_ p low)
  sound_of p low = (before (mixed.each p low).base (mixed.each p low).there).sound.sound

  earlier_of : (p : ℕ) (low : p < length image) → IsEarlier (of_ p low) now.image
  earlier_of p low = (before (mixed.each p low).base (mixed.each p low).there).earlier

  size_of_ : (p : ℕ) (low : p < length image) → image_size (of_ p low) ≡ image_size image
  size_of_ p low = (earlier_of p low).size ∙ sym size_is

  -- what holds of each page of each image
  each_page : (P : Page → Type 0) → ((p : ℕ) (low : p < length image) → P (page_at (of_ p low) p)) → (p : ℕ) → p < length image → P (page_at image p)
  each_page P h p low = subst P (sym (is_of p low)) (h p low)

  mixed_system : HasSystemPages image
  mixed_system = record {
    inventories = λ p low at. ap kind_of (is_of p low) ∙ (sound_of p low).system.inventories p (below p low) (subst (λ (s : ℕ). is_inventory_place s p ≡ true) (sym (size_of_ p low)) at);
    scn_pages = λ p low at. ap kind_of (is_of p low) ∙ (sound_of p low).system.scn_pages p (below p low) (subst (λ (s : ℕ). is_scn_place s p ≡ true) (sym (size_of_ p low)) at);
  }

  mixed_bits : HasBitsBelow image
  mixed_bits p low taken =
      let i : ℕ = inventory_of image p in
      let m : Image = of_ i low in
      let size : image_size m ≡ image_size image = size_of_ i low in
      let place : inventory_of m p ≡ i = inventory_same m image size p in
      let inside : p < length m = (sound_of i low).bits p (omega (arith, place, below i low)) (free_same m image size p (sym (is_of i low)) ∙ taken) in
      omega (arith, inside, (earlier_of i low).long, mixed.long)

  mixed_stamps : HasStamps image
  mixed_stamps = record {
    no_later = λ p low. omega (arith, ap stamp_of (is_of p low), (sound_of p low).stamps.no_later p (below p low), (earlier_of p low).scn, scn_is);
    head = ap stamp_of mixed.first ∙ sound.sound.stamps.head ∙ sym scn_is;
  }

  pub mixture_sound : IsSoundImage image
  mixture_sound = record {
    sound = record {
      no_zeros = all_from (λ (x : Page). is_zeros x ≡ false) image (each_page (λ (x : Page). is_zeros x ≡ false) (λ p low. all_at (λ (x : Page). is_zeros x ≡ false) (of_ p low) (sound_of p low).no_zeros p (below p low)));
      system = mixed_system;
      bits = mixed_bits;
      entries = entries;
      stamps = mixed_stamps;
    };
    least = omega (arith, mixed.long, sound.least);
    most = omega (arith, mixed.long, sound.most);
    sizes = all_from (λ (x : Page). length x ≡ image_size image) image (each_page (λ (x : Page). length x ≡ image_size image)
        (λ p low. all_at (λ (x : Page). length x ≡ image_size (of_ p low)) (of_ p low) (before (mixed.each p low).base (mixed.each p low).there).sound.sizes p (below p low) ∙ size_of_ p low));
  }
