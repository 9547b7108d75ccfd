-- Laws of strokes.
use Rattle.std.proofs.Common.{◌≡◌, ◌≢◌, inl, inr, ℕ, zero, suc, ◌≤◌, List, [], ◌∷◌, ◌++◌, length, get_or, take, drop, refl, sym, ap, ◌∙◌, arith, length-append, get_or-set_other, append_assoc, get_or-set_same, ◌+◌, Option, Bool, true, false}
use Rattle.nb_model.proofs.Common.{get_or_append_left, leb_tells, bytes_of, Page, Image, page_at, first_page, with_page, Base, Kept, Stroke, page, on_base, records_of, base_after, records_after, merged_page, fixed, stalled_state, image_scn, Ask, begin, with_control, merge_state, image_guid, ends, eqb_tells, image_state, noted}

-- strokes after strokes
pub base_after-append : (b : Base) (xs ys : List Stroke) → base_after b (xs ++ ys) ≡ base_after (base_after b xs) ys
unfolding base_after
base_after-append b [] ys = refl
base_after-append b (x ∷ xs) ys = base_after-append (on_base x b) xs ys

pub records_after-append : (b : Base) (xs ys : List Stroke) → records_after b (xs ++ ys) ≡ records_after b xs ++ records_after (base_after b xs) ys
unfolding records_after base_after
records_after-append b [] ys = refl
records_after-append b (x ∷ xs) ys = ap (λ (rs : List Kept). records_of x b ++ rs) (records_after-append (on_base x b) xs ys) ∙ sym (append_assoc (records_of x b) _ _)

-- no other page changes where one is written
pub with_page_other : (p q : ℕ) (bytes : Page) (image : Image) → p ≤ length image → q ≢ p → page_at (with_page p bytes image) q ≡ page_at image q
unfolding with_page
with_page_other p q bytes image low ne = elim (leb_tells (suc p) (length image)) [
  | inl w ↦ rw (w.0, with_page) (get_or-set_other image p q bytes [] ne)
  | inr w ↦ rw (w.0, with_page) (added (omega arith))
]
  where
    past : (xs : Image) (n : ℕ) → length xs ≤ n → get_or xs n [] ≡ []
    past [] n h = none n
      where
        none : (n : ℕ) → get_or {A = Page} [] n [] ≡ []
        none zero = refl
        none (suc n) = refl
    past (x ∷ xs) zero h = absurd (omega arith)
    past (x ∷ xs) (suc n) h = past xs n (omega arith)

    added : p ≡ length image → page_at (image ++ bytes ∷ []) q ≡ page_at image q
    added e = elim (leb_tells (suc q) (length image)) [
      | inl w ↦ get_or_append_left image (bytes ∷ []) [] q w.1
      | inr w ↦ past (image ++ bytes ∷ []) q (omega (arith, length-append image (bytes ∷ []))) ∙ sym (past image q (omega arith))
    ]

-- the page itself is what was written
pub with_page_same : (p : ℕ) (bytes : Page) (image : Image) → p ≤ length image → page_at (with_page p bytes image) p ≡ bytes
unfolding with_page
with_page_same p bytes image low = elim (leb_tells (suc p) (length image)) [
  | inl w ↦ rw (w.0, with_page) (get_or-set_same image p bytes [] w.1)
  | inr w ↦ rw (w.0, with_page) (added image p (omega arith))
]
  where
    added : (xs : Image) (n : ℕ) → n ≡ length xs → get_or (xs ++ bytes ∷ []) n [] ≡ bytes
    added [] zero e = refl
    added [] (suc n) e = absurd (omega arith)
    added (x ∷ xs) zero e = absurd (omega arith)
    added (x ∷ xs) (suc n) e = added xs n (omega arith)

-- page 0 keeps its first 64 bytes
pub with_page_front : (p : ℕ) (bytes : Page) (image : Image) → p ≤ length image → (p ≡ 0 → take 64 bytes ≡ take 64 (first_page image)) → take 64 (first_page (with_page p bytes image)) ≡ take 64 (first_page image)
with_page_front zero bytes image low head = ap (take 64) (with_page_same 0 bytes image low) ∙ head refl
with_page_front (suc p) bytes image low head = ap (take 64) (with_page_other (suc p) 0 bytes image low (omega arith))

-- a page stroke changes one page
pub stroke_page : (b : Base) (p : ℕ) (bytes : Page) → (on_base (page p bytes) b).image ≡ with_page p (merged_page p bytes b.image) b.image
unfolding on_base
stroke_page b p bytes = refl

pub stroke-frozen : (b : Base) (p : ℕ) (bytes : Page) → (on_base (page p bytes) b).frozen ≡ b.frozen
unfolding on_base
stroke-frozen b p bytes = refl

-- outside the stalled state no entry is noted
pub stroke-diverted : (b : Base) (p : ℕ) (bytes : Page) → image_state b.image ≢ stalled_state → (on_base (page p bytes) b).diverted ≡ b.diverted
unfolding on_base
stroke-diverted b p bytes main = elim (eqb_tells (image_state b.image) 1) [
  | inl w ↦ absurd (main w.1)
  | inr w ↦ ap (λ (t : Bool). elim t as (λ z. List ℕ) [ true ↦ noted p b.diverted | false ↦ b.diverted ]) w.0
]

pub stroke_same : (b : Base) (p : ℕ) (bytes : Page) → p ≤ length b.image → page_at (on_base (page p bytes) b).image p ≡ merged_page p bytes b.image
stroke_same b p bytes h = ap (λ (x : Image). page_at x p) (stroke_page b p bytes) ∙ with_page_same p (merged_page p bytes b.image) b.image h

pub stroke_other : (b : Base) (p q : ℕ) (bytes : Page) → p ≤ length b.image → q ≢ p → page_at (on_base (page p bytes) b).image q ≡ page_at b.image q
stroke_other b p q bytes h ne = ap (λ (x : Image). page_at x q) (stroke_page b p bytes) ∙ with_page_other p q (merged_page p bytes b.image) b.image h ne

-- a page that isn't page 0 is written whole
pub whole_page : (p : ℕ) (bytes : Page) (image : Image) → 1 ≤ p → merged_page p bytes image ≡ bytes
unfolding merged_page
whole_page zero bytes image some = absurd (omega arith)
whole_page (suc p) bytes image some = refl

-- a fixup writes two bytes
pub fixed_page : (p : Page) (ps : Image) → fixed (p ∷ ps) ≡ (take 22 p ++ 0 ∷ 0 ∷ drop 24 p) ∷ ps
unfolding fixed bytes_of
fixed_page p ps = refl

-- what a begin and an end leave
pub begun_image : (b : Base) (guid : List ℕ) (ask : Option Ask) → (on_base (begin guid ask) b).image ≡ with_control stalled_state (image_scn b.image + 1) guid b.image
unfolding on_base
begun_image b guid ask = refl

pub ended_image : (b : Base) → (on_base ends b).image ≡ with_control merge_state (image_scn b.image + 1) (image_guid b.image) b.image
unfolding on_base
ended_image b = refl
