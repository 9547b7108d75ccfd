-- How far a search for new pages has come, told on the image as it stood before, and what a new page needs of the page that it comes to next.
use Rattle.std.specs.Prelude.{◌≡◌, ℕ, ◌+◌, ◌-◌, ◌/◌, List, [], ◌++◌, length, true, false, ◌&&◌, ◌==◌, nat_lt}
use Rattle.nb_fields.specs.Places.{bits_in, is_inventory_place, is_scn_place, most_pages}
use Rattle.nb_fields.specs.Kinds.{inventory_kind, scn_kind}
use Rattle.nb_model.specs.Image.{Image, image_size}
use Rattle.nb_model.specs.Forms.{is_kind, inventory_of, scn_page_of, free_from, Need, maps_from, entry_page, is_kept}

-- The search goes on at page `from`. It went past places without their system pages, which will be made: the last of an SCN page is `made`, the
-- last of an inventory page `fresh`, 0 for none. In a fresh inventory page each page is free.
abbrev pub next_place : (image : Image) (from fresh : ℕ) → ℕ
next_place image from fresh = elim (inventory_of image from == fresh) [ true ↦ from | false ↦ free_from (length image - from) from image ]

-- the inventory pages from that of one page on up to that of another
abbrev pub maps_up_to : Image → (from p : ℕ) → List Need
maps_up_to image from p = maps_from (image_size image) (p / bits_in (image_size image) + 1 - from / bits_in (image_size image)) (from / bits_in (image_size image))

-- those that it reads to come to page p
abbrev pub maps_on : (image : Image) (from fresh p : ℕ) → List Need
maps_on image from fresh p = elim (inventory_of image from == fresh) [ true ↦ [] | false ↦ maps_up_to image from p ]

-- the SCN page of page q, unless it is made on the way
abbrev pub entry_on : (image : Image) (made q : ℕ) → List Need
entry_on image made q = elim (scn_page_of image q == made) [ true ↦ [] | false ↦ entry_page image q ]

-- that of the inventory page of page p, unless it was asked for where the search was before
abbrev pub map_entry_on : (image : Image) (from made p : ℕ) → List Need
map_entry_on image from made p = elim (nat_lt 5 from && inventory_of image p == inventory_of image (from - 1)) [ true ↦ [] | false ↦ entry_on image made (inventory_of image p) ]

-- that of page p, unless a system page of its kind stands there
abbrev pub own_entry_on : (image : Image) (made p : ℕ) → List Need
own_entry_on image made p = elim (is_kept image p) [ true ↦ [] | false ↦ entry_on image made p ]

-- all that a new page needs of page p, where the search comes to it next
abbrev pub needed_on : (image : Image) (from made fresh p : ℕ) → List Need
needed_on image from made fresh p = maps_on image from fresh p ++ elim (p == most_pages) [ true ↦ [] | false ↦ map_entry_on image from made p ++ own_entry_on image made p ]

-- the SCN place that was passed last without its page, after page p: the same, or p
pub data IsMadeBehind (image : Image) (p made m : ℕ) : Type 0 where
  same_made : m ≡ made → (is_scn_place (image_size image) p ≡ true → is_kind image scn_kind p ≡ true) → IsMadeBehind image p made m
  made_here : m ≡ p → is_scn_place (image_size image) p ≡ true → is_kind image scn_kind p ≡ false → IsMadeBehind image p made m

-- and the place of an inventory page
pub data IsFreshBehind (image : Image) (p fresh f : ℕ) : Type 0 where
  same_fresh : f ≡ fresh → (is_inventory_place (image_size image) p ≡ true → is_kind image inventory_kind p ≡ true) → IsFreshBehind image p fresh f
  fresh_here : f ≡ p → is_inventory_place (image_size image) p ≡ true → is_kind image inventory_kind p ≡ false → IsFreshBehind image p fresh f
