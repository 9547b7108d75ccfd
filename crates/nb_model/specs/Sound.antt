-- The inventories of an image agree with its pages.
use Rattle.std.specs.Prelude.{◌≡◌, ℕ, ◌<◌, ◌≤◌, length, true, false}
use Rattle.std.specs.List.{AllByRecursion}
use Rattle.nb_fields.specs.Bytes.{is_zeros}
use Rattle.nb_fields.specs.Places.{is_inventory_place, is_scn_place, most_pages}
use Rattle.nb_fields.specs.Header.{is_header}
use Rattle.nb_fields.specs.Page.{kind_of, stamp_of}
use Rattle.nb_fields.specs.Kinds.{inventory_kind, scn_kind}
use Rattle.nb_model.specs.Image.{Image, page_at, first_page, image_size, image_scn}
use Rattle.nb_model.specs.Forms.{inventory_of, scn_page_of, scn_entry, has_entry, is_free_page}

-- page 0 is a header, and its SCN has four bytes
pub record HasHeader (image : Image) : Type 0 where
  pub header : is_header (first_page image) ≡ true
  pub scn : image_scn image < 4294967296

-- no page is all zeros
abbrev pub HasNoZeros : Image → Type 0
HasNoZeros = AllByRecursion (λ page. is_zeros page ≡ false)

-- each page has that many bytes
abbrev pub IsOfSize : ℕ → Image → Type 0
IsOfSize size = AllByRecursion (λ page. length page ≡ size)

-- each system place below the length holds its system page
pub record HasSystemPages (image : Image) : Type 0 where
  pub inventories : (p : ℕ) → p < length image → is_inventory_place (image_size image) p ≡ true → kind_of (page_at image p) ≡ inventory_kind
  pub scn_pages : (p : ℕ) → p < length image → is_scn_place (image_size image) p ≡ true → kind_of (page_at image p) ≡ scn_kind

-- a taken bit is that of a page below the length
abbrev pub HasBitsBelow : Image → Type 0
HasBitsBelow image = (p : ℕ) → inventory_of image p < length image → is_free_page image p ≡ false → p < length image

-- the SCN entries: at least the stamp of its page, and at most the current SCN, also where the page is past the end
pub record HasEntries (image : Image) : Type 0 where
  pub there : (p : ℕ) → p < length image → has_entry image p ≡ true → scn_page_of image p < length image
  pub no_lower : (p : ℕ) → p < length image → has_entry image p ≡ true → stamp_of (page_at image p) ≤ scn_entry image p
  pub no_later : (p : ℕ) → scn_page_of image p < length image → has_entry image p ≡ true → scn_entry image p ≤ image_scn image

-- no stamp is above the current SCN, and page 0 has it
pub record HasStamps (image : Image) : Type 0 where
  pub no_later : (p : ℕ) → p < length image → stamp_of (page_at image p) ≤ image_scn image
  pub head : stamp_of (first_page image) ≡ image_scn image

-- the facts on inventories
pub record SoundInventory (image : Image) : Type 0 where
  pub no_zeros : HasNoZeros image
  pub system : HasSystemPages image
  pub bits : HasBitsBelow image
  pub entries : HasEntries image
  pub stamps : HasStamps image

-- an image that is sound, and as long as a database may be, of pages of the size that its header names
pub record IsSoundImage (image : Image) : Type 0 where
  pub sound : SoundInventory image
  pub least : 5 ≤ length image
  pub most : length image ≤ most_pages
  pub sizes : IsOfSize (image_size image) image
