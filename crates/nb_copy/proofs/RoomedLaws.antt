-- A database after the strokes that make room in the history.
use Rattle.std.proofs.Common.{◌≡◌, ℕ, zero, suc, ◌+◌, ◌≤◌, List, [], length, refl, sym, ap, subst, ◌∙◌, arith, Option, Some, None}
use Rattle.nb_copy.proofs.Common.{kind_of, Base, Image, page_at, first_page, Trail, Draft, drafted, needs, put, inventory_of, scn_page_of, broken_at, History, Spot, pages_of, found_pages, spots, free_spot, last_of, grown, Room, room_in, needs_taken, HasHeader, drafts_are, drafted_is, needs_keeps, grown_keeps, header-size, some_page, needs_image, kind_of_header, after_strokes, after_base, no_rows, linked_payload, IsData, last_data, taken_keeps}
use Rattle.nb_fields.specs.Kinds.{data_kind}
use Rattle.nb_model.proofs.DraftLaws.{IsOf}
use Rattle.nb_model.proofs.DraftJoin.{join_put}
use Rattle.nb_engine.specs.Make.{new_of}
use Rattle.nb_alloc.proofs.NewLaws.{told}
use Rattle.nb_copy.proofs.FirstLaws.{Starts, starts_itself, first_is, put_begins, new_begins}
use Rattle.nb_model.proofs.HeldRoom.{needs_image_same}

-- the new page of the history, and its number
abbrev new_link : Image → Draft × ℕ
new_link image = new_of 5 (λ p. no_rows) image

-- the room, by the first free slot
abbrev taken_at : Image → Spot → Draft
taken_at image s = needs_taken s.page (needs 10 (scn_page_of image s.page) (needs 2 (inventory_of image s.page) (drafted image)))

abbrev grows : Image → Draft × ℕ
grows image = grown History (found_pages History image) [] (drafted image)

abbrev room_by : Image → Option Spot → Room
room_by image o = elim o [
  | Some s ↦ record { draft = taken_at image s; page = s.page; slot = s.slot }
  | None ↦ record { draft = (grows image).0; page = (grows image).1; slot = 0 }
]

room_is : (image : Image) → room_in image ≡ room_by image (free_spot (spots History image))
unfolding room_in
room_is image = refl

-- its draft is of the image
room_keeps : (b : Base) (o : Option Spot) → IsOf b (room_by b.image o).draft
room_keeps b (Some s) = taken_keeps (IsOf b) (drafts_are b) s.page _ (needs_keeps (IsOf b) (drafts_are b) 10 _ _ (needs_keeps (IsOf b) (drafts_are b) 2 _ _ (drafted_is b)))
room_keeps b None = grown_keeps (IsOf b) (drafts_are b) History (found_pages History b.image) [] (drafted b.image) (drafted_is b)

-- so its image is that after its strokes
pub roomed_is : (t : Trail) → (after_strokes t (room_in t.base.image).draft.strokes).base.image ≡ (room_in t.base.image).draft.image
roomed_is t =
    ap (λ (b : Base). b.image) (after_base t (room_in t.base.image).draft.strokes)
    ∙ (subst (λ (r : Room). IsOf t.base r.draft) (sym (room_is t.base.image)) (room_keeps t.base (free_spot (spots History t.base.image)))).is

taken_same : (image : Image) (s : Spot) → (taken_at image s).image ≡ image
taken_same image s =
    needs_image_same s.page (needs 10 (scn_page_of image s.page) (needs 2 (inventory_of image s.page) (drafted image)))
    ∙ needs_image 10 (scn_page_of image s.page) (needs 2 (inventory_of image s.page) (drafted image)) ∙ needs_image 2 (inventory_of image s.page) (drafted image)

module _ (image : Image) (h : HasHeader image) (linked : broken_at (pages_of History image) ≡ None) where
  abbrev last : ℕ
  last = last_of (found_pages History image)

  data_page : IsData image last
  data_page = last_data image linked

  five_one : ◌≡◌ {A = ℕ} 5 1 → ⊥
  five_one e = absurd (omega (arith, e))

  behind : 1 ≤ last
  behind = by last refl
    where
      by : (n : ℕ) → last ≡ n → 1 ≤ n
      by zero e = absurd (five_one (sym (ap (λ (p : ℕ). kind_of (page_at image p)) (sym e) ∙ data_page.kind) ∙ kind_of_header (first_page image) h.header))
      by (suc n) e = omega arith

  abbrev y : Image
  y = (new_link image).0.image

  y_starts : Starts (first_page image) y
  y_starts = new_begins (first_page image) (header-size (first_page image) h.header) (length image + 4) 5 (told no_rows) (drafted image) (starts_itself image (some_page image h.header))

  abbrev payload : List ℕ
  payload = linked_payload y last (new_link image).1

  link_starts : Starts (first_page image) (put last data_kind payload (drafted y)).image
  link_starts = put_begins (first_page image) (header-size (first_page image) h.header) last 5 payload (drafted y) behind y_starts

  grown_image : (grows image).0.image ≡ (put last data_kind payload (drafted y)).image
  unfolding grown
  grown_image = ap (λ (d : Draft). d.image) (join_put last 5 payload (new_link image).0)

  first_by : (o : Option Spot) → first_page (room_by image o).draft.image ≡ first_page image
  first_by (Some s) = ap first_page (taken_same image s)
  first_by None = ap first_page grown_image ∙ first_is (first_page image) _ link_starts

  -- page 0 stays
  pub roomed_first : first_page (room_in image).draft.image ≡ first_page image
  roomed_first = subst (λ (r : Room). first_page r.draft.image ≡ first_page image) (sym (room_is image)) (first_by (free_spot (spots History image)))
