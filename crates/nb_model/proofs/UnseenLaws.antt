-- Under a name that is free no database was seen.
use Rattle.std.proofs.Common.{◌≡◌, ◌⊎◌, inl, inr, ℕ, zero, suc, ◌≤◌, List, [], ◌∷◌, length, take, drop, refl, sym, ap, subst, ◌∙◌, arith, length-take-le, take-take, Bool, true, false, Some, Ok}
use Rattle.nb_model.proofs.Common.{leb_tells, is_zeros, is_free_file, is_header, size_of, state_of, applying_state, File, Entry, Missing, Plain, IsBase, is_free_entry, Page, Image, first_page, image_state, image_in, cut, trimmed, owner, base_in, and_parts, false_true}
use Rattle.nb_model.proofs.FreeLaws.{free_header}
use Rattle.nb_model.proofs.HeaderLaws.{header-long, same-header, same-number}
use Rattle.nb_model.proofs.MainLaws.{some_page}
use Rattle.nb_model.proofs.OpenedLaws.{HasMain, has_main, main_header, same_state}
use Rattle.nb_model.proofs.ImageLaws.{trimmed-none}

-- page 0 stays where pages of zeros are cut off, or none does
trimmed_first : (p : Page) (ps : List Page) → (first_page (trimmed (p ∷ ps)) ≡ p) ⊎ (trimmed (p ∷ ps) ≡ [])
unfolding trimmed
trimmed_first p ps = by (trimmed ps) (is_zeros p)
  where
    by : (rest : Image) (zeros : Bool)
        → (first_page (elim rest as (λ z. Image) [ [] ↦ elim zeros as (λ z. Image) [ true ↦ [] | false ↦ p ∷ [] ] | q ∷ qs ↦ p ∷ q ∷ qs ]) ≡ p)
        ⊎ (elim rest as (λ z. Image) [ [] ↦ elim zeros as (λ z. Image) [ true ↦ [] | false ↦ p ∷ [] ] | q ∷ qs ↦ p ∷ q ∷ qs ] ≡ [])
    by [] true = inr refl
    by [] false = inl refl
    by (q ∷ qs) zeros = inl refl

no_header : is_header (first_page []) ≡ true → ⊥
no_header h = absurd (let some = some_page [] h in omega arith)

-- Where the image of a file's bytes has a header, it is the front of the file.
image_front : (bytes : List ℕ) → is_header (first_page (image_in bytes)) ≡ true → take 64 (first_page (image_in bytes)) ≡ take 64 bytes
unfolding image_in cut
image_front bytes header = by (length bytes) header
  where
    size : ℕ
    size = size_of bytes

    none : is_header (first_page (trimmed [])) ≡ true → ⊥
    none h = no_header (ap (λ (x : Image). is_header (first_page x)) (sym trimmed-none) ∙ h)

    wide : size ≤ length bytes → is_header (take size bytes) ≡ true → 64 ≤ size
    wide low h = omega (arith, header-long (take size bytes) h, length-take-le size bytes low)

    first : (ps : List Page) → size ≤ length bytes → is_header (first_page (trimmed (take size bytes ∷ ps))) ≡ true → take 64 (first_page (trimmed (take size bytes ∷ ps))) ≡ take 64 bytes
    first ps low h = elim (trimmed_first (take size bytes) ps) [
      | inl same ↦ ap (take 64) same ∙ take-take 64 size bytes (wide low (ap is_header (sym same) ∙ h))
      | inr gone ↦ absurd (no_header (ap (λ (x : Image). is_header (first_page x)) (sym gone) ∙ h))
    ]

    by : (most : ℕ) → is_header (first_page (trimmed (cut size most bytes))) ≡ true → take 64 (first_page (trimmed (cut size most bytes))) ≡ take 64 bytes
    by zero h = absurd (none h)
    by (suc most) h = elim (leb_tells size (length bytes)) [
      | inl w ↦ rw (w.0, cut) (first (cut size most (drop size bytes)) w.1 (subst (λ (t : Bool). is_header (first_page (trimmed (elim t as (λ z. List Page) [ true ↦ take size bytes ∷ cut size most (drop size bytes) | false ↦ [] ]))) ≡ true) w.0 h))
      | inr w ↦ absurd (none (subst (λ (t : Bool). is_header (first_page (trimmed (elim t as (λ z. List Page) [ true ↦ take size bytes ∷ cut size most (drop size bytes) | false ↦ [] ]))) ≡ true) w.0 h))
    ]

-- What stands under a free name is no database in one of the three states.
pub free_unseen : (entry : Entry) → is_free_entry entry ≡ true → is_header (first_page (base_in entry).image) ≡ true → image_state (base_in entry).image ≤ 2 → ⊥
unfolding is_free_entry base_in
free_unseen (Missing delta) free header state = no_header header
free_unseen (Plain bytes delta) free header state =
    let front : take 64 (first_page (image_in bytes)) ≡ take 64 bytes = image_front bytes header in
    let same : state_of (first_page (image_in bytes)) ≡ state_of bytes = same-number (first_page (image_in bytes)) bytes front 22 2 (omega arith) in
    let three : state_of bytes ≡ applying_state = (free_header bytes (and_parts _ (is_free_file (Some bytes)) free).1 (sym (same-header (first_page (image_in bytes)) bytes front) ∙ header)).0 in
    absurd (omega (arith, same, three, state))
free_unseen (IsBase b) free header state = false_true free

-- So no two files show one there.
pub unseen : (name : List ℕ) (entry : Entry) (m d : File) → is_free_entry entry ≡ true → owner name m d ≡ Ok (base_in entry) → ⊥
unseen name entry m d free opens =
    let main : HasMain (base_in entry) m = has_main name (base_in entry) m d opens in
    free_unseen entry free (main_header (base_in entry) m main) (omega (arith, same_state (base_in entry) m main, main.state))
