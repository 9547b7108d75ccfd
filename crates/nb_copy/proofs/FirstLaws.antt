-- Page 0 stays where room is made in the history.
use Rattle.std.proofs.Common.{◌≡◌, ℕ, zero, suc, ◌+◌, ◌/◌, ◌≤◌, List, [], ◌∷◌, ◌++◌, length, refl, sym, ap, subst, arith, Bool, true, false, ◌==◌, ◌-◌, nat_lt, slice_set, IsTrue}
use Rattle.nb_copy.proofs.Common.{size_of, is_page_size, entries_in, bits_in, is_system_place, most_pages, Page, Image, first_page, image_size, image_scn, with_page, Draft, wrote, written, needs, is_kind, has_entry, scn_page_of, scn_entry, entry_written, entry_raised, raised, put, set_bit, is_free_page, free_from, lowest_free, first_not, needed_at, system_kind, system_page, new_within, either, needs_image, inventory_place_some, either_page, either_need}
use Rattle.nb_fields.proofs.PlaceLaws.{scn_place-some}

-- the search begins after page 0
free_least : (left p : ℕ) (image : Image) → p ≤ free_from left p image
unfolding free_from
free_least zero p image = omega arith
free_least (suc left) p image = by (is_free_page image p) (free_least left (p + 1) image)
  where
    by : (t : Bool) → p + 1 ≤ free_from left (p + 1) image → p ≤ elim t as (λ z. ℕ) [ true ↦ p | false ↦ free_from left (p + 1) image ]
    by true more = omega arith
    by false more = omega (arith, more)

lowest_least : (image : Image) → 5 ≤ lowest_free image
unfolding lowest_free
lowest_least image = free_least (length image - 5) 5 image

-- an image begins with itself
pub record Starts (f : Page) (image : Image) : Type 0 where
  pub rest : Image
  pub is : image ≡ f ∷ rest

pub starts_itself : (image : Image) → 1 ≤ length image → Starts (first_page image) image
starts_itself [] some = absurd (omega (arith, some))
starts_itself (p ∷ ps) some = record { rest = ps; is = refl }

pub first_is : (f : Page) (image : Image) → Starts f image → first_page image ≡ f
first_is f image h = ap first_page h.is

-- Only pages after page 0 are written.
module _ (f : Page) (size : IsTrue (is_page_size (size_of f))) where
  chosen : (q : ℕ) (bytes : Page) (rest : Image) (t : Bool) → Starts f (elim t as (λ z. Image) [ true ↦ slice_set (f ∷ rest) (suc q) bytes | false ↦ (f ∷ rest) ++ bytes ∷ [] ])
  chosen q bytes rest true = record { rest = slice_set rest q bytes; is = refl }
  chosen q bytes rest false = record { rest = rest ++ bytes ∷ []; is = refl }

  with_later : (q : ℕ) (bytes : Page) (rest : Image) → Starts f (with_page (suc q) bytes (f ∷ rest))
  unfolding with_page
  with_later q bytes rest = chosen q bytes rest (nat_lt (suc q) (length (f ∷ rest)))

  with_first : (p : ℕ) (bytes : Page) (image : Image) → 1 ≤ p → Starts f image → Starts f (with_page p bytes image)
  with_first zero bytes image some h = absurd (omega (arith, some))
  with_first (suc q) bytes image some h = subst (λ (x : Image). Starts f (with_page (suc q) bytes x)) (sym h.is) (with_later q bytes h.rest)

  abbrev Begins : Draft → Type 0
  Begins d = Starts f d.image

  sized : (d : Draft) → Begins d → IsTrue (is_page_size (image_size d.image))
  sized d h = subst (λ (n : ℕ). IsTrue (is_page_size n)) (sym (ap image_size h.is)) size

  written_begins : (p kind : ℕ) (payload : List ℕ) (d : Draft) → 1 ≤ p → Begins d → Begins (written p kind payload d)
  unfolding written wrote
  written_begins p kind payload d some h = with_first p _ d.image some h

  needs_begins : (kind p : ℕ) (d : Draft) → Begins d → Begins (needs kind p d)
  needs_begins kind p d h = subst (Starts f) (sym (needs_image kind p d)) h

  scn_behind : (p : ℕ) (d : Draft) → Begins d → 1 ≤ scn_page_of d.image p
  scn_behind p d h = let two = scn_place-some (image_size d.image) (p / entries_in (image_size d.image)) (sized d h) in omega (arith, two)

  entry_begins : (p : ℕ) (d : Draft) → Begins d → Begins (entry_raised p d)
  unfolding entry_raised entry_written
  entry_begins p d h = either Begins (nat_lt (scn_entry d.image p) (image_scn d.image)) _ _ (written_begins _ 10 _ d (scn_behind p d h) h) h

  raised_begins : (p : ℕ) (d : Draft) → Begins d → Begins (raised p d)
  unfolding raised
  raised_begins p d h = either Begins (has_entry d.image p) _ _ (entry_begins p _ (needs_begins 10 _ d h)) h

  pub put_begins : (p kind : ℕ) (payload : List ℕ) (d : Draft) → 1 ≤ p → Begins d → Begins (put p kind payload d)
  unfolding put
  put_begins p kind payload d some h = written_begins p kind payload _ some (raised_begins p d h)

  bit_begins : (bit p : ℕ) (d : Draft) → Begins d → Begins (set_bit bit p d)
  unfolding set_bit
  bit_begins bit p d h = put_begins _ 2 _ _ (inventory_place_some (image_size d.image) (p / bits_in (image_size d.image)) (sized d h)) (needs_begins 2 _ d h)

  system_begins : (p : ℕ) (d : Draft) → 1 ≤ p → Begins d → Begins (system_page p d)
  unfolding system_page
  system_begins p d some h = either Begins (is_kind d.image (system_kind d.image p) p) _ _ h (put_begins p _ _ d some h)

  pub new_begins : (tries kind : ℕ) (payload : ℕ → List ℕ) (d : Draft) → Begins d → Begins (new_within tries kind payload d).0
  unfolding new_within
  new_begins zero kind payload d h = h
  new_begins (suc tries) kind payload d h =
      let p : ℕ = lowest_free d.image in
      let least = lowest_least d.image in
      let some : 1 ≤ p = omega (arith, least) in
      either_need Begins (first_not d.image (needed_at d.image p)) _ _ (λ q. h)
      (either_page Begins (p == most_pages) _ _ h
      (either_page Begins (is_system_place (image_size d.image) p) _ _
      (new_begins tries kind payload _ (bit_begins 0 p _ (system_begins p d some h)))
      (bit_begins 0 p _ (put_begins p kind (payload p) d some h))))
