-- What a pass over the pages of an image, in rising order, has found so far.
use Rattle.std.specs.Prelude.{◌≡◌, ◌⊎◌, ℕ, ◌<◌, List, length, Option, Some, None, true, false, ◌&&◌, nat_lt}
use Rattle.nb_model.specs.Image.{Page, Image, page_at, image_size, image_scn}
use Rattle.nb_model.specs.Forms.{inventory_of, scn_page_of}
use Rattle.nb_model.specs.declared.fact.Fact.{Fact}
use Rattle.nb_check.specs.declared.facts.Broken.{Broken}
use Rattle.nb_check.specs.declared.facts.Extent.{Extent}
use Rattle.nb_model.specs.Facts.{breaks, number_of}
use Rattle.nb_model.specs.Leaks.{is_taken_data}
use Rattle.nb_check.specs.Sets.{has}

-- the image has pages of that size, so many of them, and that current SCN
pub record IsOf (image : Image) (page_size : ℕ) (extent : Extent) : Type 0 where
  pub size : page_size ≡ image_size image
  pub count : extent.count ≡ length image
  pub scn : extent.scn ≡ image_scn image

-- the lowest fact that page p breaks
abbrev pub IsLowestAt : Image → (p : ℕ) → Option Fact → Type 0
IsLowestAt image p None = (f : Fact) → breaks image f p ≡ false
IsLowestAt image p (Some fact) = (breaks image fact p ≡ true) × ((f : Fact) → number_of f < number_of fact → breaks image f p ≡ false)

-- a fact comes before another, and of the same fact a lower page
abbrev pub IsBefore : Fact → (p : ℕ) → Broken → Type 0
IsBefore f p broken = (number_of f < number_of broken.fact) ⊎ ((f ≡ broken.fact) × (p < broken.page))

-- the first that the pages below n break
abbrev pub IsFirstBelow : Image → (n : ℕ) → Option Broken → Type 0
IsFirstBelow image n None = (f : Fact) (p : ℕ) → p < n → breaks image f p ≡ false
IsFirstBelow image n (Some broken) =
    (breaks image broken.fact broken.page ≡ true) × (broken.page < n) × ((f : Fact) (p : ℕ) → p < n → IsBefore f p broken → breaks image f p ≡ false)

-- the data pages below n that are taken
abbrev pub HoldsTaken : Image → (n : ℕ) → (set : List ℕ) → Type 0
HoldsTaken image n set = (p : ℕ) → has set p ≡ (nat_lt p n && is_taken_data image p)

-- the pages below n have that many bytes
abbrev pub AreSized : Image → (n size : ℕ) → Type 0
AreSized image n size = (p : ℕ) → p < n → length (page_at image p) ≡ size

-- the page inventory page of page p, where the image has one
abbrev pub IsMapOf : Image → (p : ℕ) → Page → Type 0
IsMapOf image p map = 1 < length image → map ≡ page_at image (inventory_of image p)

-- and its SCN page
abbrev pub HasEntryOf : Image → (p : ℕ) → Page → Type 0
HasEntryOf image p entries = 2 < length image → entries ≡ page_at image (scn_page_of image p)
