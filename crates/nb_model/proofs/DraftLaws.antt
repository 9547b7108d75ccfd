-- What one write of the short forms keeps, every form keeps.
use Rattle.std.proofs.Common.{◌≡◌, ℕ, zero, suc, List, [], ◌∷◌, refl, ap, ◌∙◌, Bool, Option, Some, None, true, false, ◌==◌, nat_lt}
use Rattle.nb_model.proofs.Common.{is_system_place, most_pages, Page, Image, image_size, image_scn, with_page, Base, Chain, Slot, Spot, spots_of, free_spot, put_slot, last_of, grown, place_at, place_slot, all_given, page, base_after, on_base, merged_page, Draft, drafted, wrote, written, needs, is_kind, has_entry, scn_entry, entry_written, entry_raised, raised, put, set_bit, give_page, lowest_free, first_not, needed_at, system_kind, system_page, no_page, new_within}
use Rattle.nb_model.proofs.StrokeLaws.{base_after-append}

-- What is kept by each write, and says nothing of what was read.
pub record IsKept (P : Draft → Type 0) : Type 0 where
  pub writes : (p kind : ℕ) (payload : List ℕ) (d : Draft) → P d → P (written p kind payload d)
  pub reads : (broken : List ℕ) (d : Draft) → P d → P (record d { broken = broken })
  pub fills : (d : Draft) → P d → P (no_page d)

-- what two drafts have, the one that a test picks has
pub either : (P : Draft → Type 0) (t : Bool) (x y : Draft) → P x → P y → P (elim t as (λ z. Draft) [ true ↦ x | false ↦ y ])
either P true x y px py = px
either P false x y px py = py

pub either_page : (P : Draft → Type 0) (t : Bool) (x y : Draft × ℕ) → P x.0 → P y.0 → P (elim t as (λ z. Draft × ℕ) [ true ↦ x | false ↦ y ]).0
either_page P true x y px py = px
either_page P false x y px py = py

pub either_need : (P : Draft → Type 0) (o : Option ℕ) (stop : ℕ → Draft × ℕ) (go : Draft × ℕ) → ((q : ℕ) → P (stop q).0) → P go.0 → P (elim o as (λ z. Draft × ℕ) [ Some q ↦ stop q | None ↦ go ]).0
either_need P None stop go ps pg = pg
either_need P (Some q) stop go ps pg = ps q

module _ (P : Draft → Type 0) (kept : IsKept P) where
  pub needs_keeps : (kind p : ℕ) (d : Draft) → P d → P (needs kind p d)
  unfolding needs
  needs_keeps kind p d h = either P _ _ _ h (kept.reads _ d h)

  entry_keeps : (p : ℕ) (d : Draft) → P d → P (entry_raised p d)
  unfolding entry_raised entry_written
  entry_keeps p d h = either P (nat_lt (scn_entry d.image p) (image_scn d.image)) _ _ (kept.writes _ 10 _ d h) h

  pub raised_keeps : (p : ℕ) (d : Draft) → P d → P (raised p d)
  unfolding raised
  raised_keeps p d h = either P (has_entry d.image p) _ _ (entry_keeps p _ (needs_keeps 10 _ d h)) h

  pub put_keeps : (p kind : ℕ) (payload : List ℕ) (d : Draft) → P d → P (put p kind payload d)
  unfolding put
  put_keeps p kind payload d h = kept.writes p kind payload _ (raised_keeps p d h)

  pub set_bit_keeps : (bit p : ℕ) (d : Draft) → P d → P (set_bit bit p d)
  unfolding set_bit
  set_bit_keeps bit p d h = put_keeps _ 2 _ _ (needs_keeps 2 _ d h)

  pub system_keeps : (p : ℕ) (d : Draft) → P d → P (system_page p d)
  unfolding system_page
  system_keeps p d h = either P (is_kind d.image (system_kind d.image p) p) _ _ h (put_keeps p _ _ d h)

  pub new_keeps : (tries kind : ℕ) (payload : ℕ → List ℕ) (d : Draft) → P d → P (new_within tries kind payload d).0
  unfolding new_within
  new_keeps zero kind payload d h = kept.fills d h
  new_keeps (suc tries) kind payload d h =
      let p : ℕ = lowest_free d.image in
      either_need P (first_not d.image (needed_at d.image p)) _ _ (λ q. kept.reads (q ∷ d.broken) d h)
      (either_page P (p == most_pages) _ _ (kept.fills d h)
      (either_page P (is_system_place (image_size d.image) p) _ _
      (new_keeps tries kind payload _ (set_bit_keeps 0 p _ (system_keeps p d h)))
      (set_bit_keeps 0 p _ (put_keeps p kind (payload p) d h))))

-- so do those on chains of data pages
module _ (P : Draft → Type 0) (kept : IsKept P) where
  pub slot_keeps : (p slot : ℕ) (bytes : Slot) (d : Draft) → P d → P (put_slot p slot bytes d)
  unfolding put_slot
  slot_keeps p slot bytes d h = put_keeps P kept p 5 _ d h

  pub grown_keeps : (chain : Chain) (pages : List ℕ) (bytes : Slot) (d : Draft) → P d → P (grown chain pages bytes d).0
  unfolding grown
  grown_keeps chain pages bytes d h = kept.reads _ _ (put_keeps P kept (last_of pages) 5 _ _ (new_keeps P kept _ 5 _ d h))

  pub at_keeps : (chain : Chain) (room : Option Spot) (pages : List ℕ) (bytes : Slot) (d : Draft) → P d → P (place_at chain room pages bytes d)
  at_keeps chain (Some s) pages bytes d h = kept.reads _ _ (slot_keeps s.page s.slot bytes d h)
  at_keeps chain None pages bytes d h = grown_keeps chain pages bytes d h

  pub place_keeps : (chain : Chain) (pages : List ℕ) (bytes : Slot) (d : Draft) → P d → P (place_slot chain pages bytes d)
  unfolding place_slot
  place_keeps chain pages bytes d h = at_keeps chain (free_spot (spots_of d.image pages)) pages bytes d h

  pub given_keeps : (ps : List ℕ) (d : Draft) → P d → P (all_given ps d)
  unfolding all_given
  given_keeps [] d h = h
  given_keeps (p ∷ ps) d h = given_keeps ps (give_page p d) (set_bit_keeps P kept 1 p d h)

-- The draft's image is that of the database after its strokes.
pub record IsOf (b : Base) (d : Draft) : Type 0 where
  pub is : (base_after b d.strokes).image ≡ d.image

pub drafted_is : (b : Base) → IsOf b (drafted b.image)
unfolding base_after
drafted_is b = record { is = refl }

pub page_image : (b : Base) (p : ℕ) (bytes : Page) → (base_after b (page p bytes ∷ [])).image ≡ with_page p (merged_page p bytes b.image) b.image
unfolding base_after on_base
page_image b p bytes = refl

wrote_is : (b : Base) (p : ℕ) (bytes : Page) (d : Draft) → IsOf b d → IsOf b (wrote p bytes d)
unfolding wrote
wrote_is b p bytes d h = record {
  is = ap (λ (x : Base). x.image) (base_after-append b d.strokes (page p bytes ∷ [])) ∙ page_image (base_after b d.strokes) p bytes
      ∙ ap (λ (x : Image). with_page p (merged_page p bytes x) x) h.is;
}

written_is : (b : Base) (p kind : ℕ) (payload : List ℕ) (d : Draft) → IsOf b d → IsOf b (written p kind payload d)
unfolding written
written_is b p kind payload d h = wrote_is b p _ d h

pub drafts_are : (b : Base) → IsKept (IsOf b)
drafts_are b = record {
  writes = written_is b;
  reads = λ broken d h. record { is = h.is };
  fills = λ d h. record { is = h.is };
}
