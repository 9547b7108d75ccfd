-- The facts that sound inventories have, and the first of them that an image breaks.
use Rattle.std.specs.Prelude.{ℕ, zero, suc, ◌+◌, List, [], ◌∷◌, length, Option, Some, None, Bool, true, false, ◌&&◌, ◌||◌, ◌==◌, not, nat_le, nat_lt}
use Rattle.nb_fields.specs.Bytes.{is_zeros}
use Rattle.nb_fields.specs.Page.{kind_of, stamp_of}
use Rattle.nb_fields.specs.Places.{bits_in, is_inventory_place, is_scn_place}
use Rattle.nb_fields.specs.Kinds.{inventory_kind, scn_kind}
use Rattle.nb_model.specs.Image.{Image, page_at, first_page, image_size, image_scn}
use Rattle.nb_model.specs.Forms.{inventory_of, scn_page_of, scn_entry, has_entry, is_free_page}
use Rattle.nb_model.specs.declared.fact.Fact.{Fact}
use Rattle.nb_model.specs.declared.fact.Fact.TheVariants.{BlankPage, SystemPlace, TakenPast, LateStamp, WrongEntry, HeaderStamp}

-- page p is all zeros
abbrev pub is_blank : Image → (p : ℕ) → Bool
is_blank image p = nat_lt p (length image) && is_zeros (page_at image p)

-- page p is at a system place, and isn't its system page
abbrev pub lacks_system : Image → (p : ℕ) → Bool
lacks_system image p =
    nat_lt p (length image)
    && ((is_inventory_place (image_size image) p && not (kind_of (page_at image p) == inventory_kind)) || (is_scn_place (image_size image) p && not (kind_of (page_at image p) == scn_kind)))

-- page p is at or past the end, and taken
abbrev pub is_taken_past : Image → (p : ℕ) → Bool
is_taken_past image p = nat_le (length image) p && (nat_lt (inventory_of image p) (length image) && not (is_free_page image p))

-- page p has a stamp above the current SCN
abbrev pub is_stamped_late : Image → (p : ℕ) → Bool
is_stamped_late image p = nat_lt p (length image) && nat_lt (image_scn image) (stamp_of (page_at image p))

-- page p is below the length, and its SCN entry isn't there or is below its stamp
abbrev pub is_entry_low : Image → (p : ℕ) → Bool
is_entry_low image p = nat_lt p (length image) && (nat_le (length image) (scn_page_of image p) || nat_lt (scn_entry image p) (stamp_of (page_at image p)))

-- the SCN entry of page p is above the current SCN, also where the page is past the end
abbrev pub is_entry_late : Image → (p : ℕ) → Bool
is_entry_late image p = nat_lt (scn_page_of image p) (length image) && nat_lt (image_scn image) (scn_entry image p)

-- page p is the header, and its stamp isn't the current SCN
abbrev pub is_header_off : Image → (p : ℕ) → Bool
is_header_off image p = p == 0 && not (stamp_of (first_page image) == image_scn image)

-- page p breaks the fact
unfoldable pub breaks : Image → Fact → (p : ℕ) → Bool
breaks image BlankPage p = is_blank image p
breaks image SystemPlace p = lacks_system image p
breaks image TakenPast p = is_taken_past image p
breaks image LateStamp p = is_stamped_late image p
breaks image WrongEntry p = has_entry image p && (is_entry_low image p || is_entry_late image p)
breaks image HeaderStamp p = is_header_off image p

-- the number of a fact
abbrev pub number_of : Fact → ℕ
number_of BlankPage = 1
number_of SystemPlace = 2
number_of TakenPast = 3
number_of LateStamp = 4
number_of WrongEntry = 5
number_of HeaderStamp = 6

-- all of them, by their numbers
abbrev pub facts : List Fact
facts = BlankPage ∷ SystemPlace ∷ TakenPast ∷ LateStamp ∷ WrongEntry ∷ HeaderStamp ∷ []

-- the lowest of so many pages from p on that passes a test
unfoldable pub first_from : (left p : ℕ) → (ℕ → Bool) → Option ℕ
first_from zero p test = None
first_from (suc left) p test = elim (test p) [ true ↦ Some p | false ↦ first_from left (p + 1) test ]

-- Each bit and each entry of an image is that of a page below this number.
abbrev pub covered : Image → ℕ
covered image = length image + bits_in (image_size image)

-- the first of these facts that is broken, and the lowest page that breaks it
unfoldable pub first_broken : Image → List Fact → Option (ℕ × ℕ)
first_broken image [] = None
first_broken image (f ∷ fs) = elim (first_from (covered image) 0 (breaks image f)) [ Some p ↦ Some (number_of f, p) | None ↦ first_broken image fs ]

-- why the inventories aren't sound: the lowest fact, and then the lowest page
unfoldable pub unsound : Image → Option (ℕ × ℕ)
unsound image = first_broken image facts
