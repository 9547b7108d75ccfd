-- Writing the bit of a page: the inventory page's bytes, the strokes, and why they are refused.
use Rattle.std.proofs.Common.{◌≡◌, ◌≢◌, ℕ, ◌+◌, ◌/◌, ◌<◌, List, [], ◌∷◌, ◌++◌, length, drop, refl, sym, ap, subst, ◌∙◌, arith, Bool, true, IsTrue, Some, None}
use Rattle.nb_alloc.proofs.Common.{take-set-le, number_in, is_page_size, entries_in, kind_of, stamped, generation_of, number_in-take, entries-least, inventory_kind, scn_kind, Refusal, NotDatabase, Page, Image, page_at, image_size, image_scn, Base, page, Draft, drafted, put, set_bit, with_bit, is_kind, inventory_of, bit_number, Cause, not_kind, not_of_form, no_room, kind_parts, entry_cause, raise_strokes, put_stroke, bit_for, mark_cause, bit_stroke, mark_stroke, mark_strokes, first_here, first_next, needs_found, is_so, one_cause}
use Rattle.nb_pip.specs.Bits.{with_bit as with_bit_at}
use Rattle.nb_model.proofs.BitLaws.{with_bit_length}
use Rattle.nb_alloc.proofs.PutLaws.{Keeps, put_stroke-after, put_strokes, put_form, put_room, put_refused}
use Rattle.nb_alloc.proofs.RaiseLaws.{stamped-over}

-- the bit that says whether a page is free
pub bit_written : (index : ℕ) (free value : Bool) (old new : Page) → free ≡ value → new ≡ with_bit_at index (bit_for value) old → new ≡ with_bit index (bit_for free) old
unfolding with_bit
bit_written index free value old new same put = put ∙ ap (λ (t : Bool). with_bit index (bit_for t) old) (sym same)

-- a bit stands after the head
bit_generation : (index bit : ℕ) (old : Page) → generation_of (with_bit index bit old) ≡ generation_of old
unfolding with_bit
bit_generation index bit old =
    sym (number_in-take 16 4 4 (with_bit index bit old) (omega arith))
    ∙ ap (λ (x : Page). number_in 4 4 x) (take-set-le 16 old (32 + index / 8) _ (omega arith))
    ∙ number_in-take 16 4 4 old (omega arith)

-- the page that a bit and then a stamp make
pub with_it : (old written new : Page) (index bit code scn place : ℕ) → written ≡ with_bit index bit old → new ≡ stamped written code (drop 16 written) scn place → code ≡ 2
    → new ≡ stamped old inventory_kind (drop 16 (with_bit index bit old)) scn place
with_it old written new index bit code scn place put stamp inventory =
    let marked : Page = with_bit index bit old in
    stamp ∙ ap (λ (k : ℕ). stamped written k (drop 16 written) scn place) inventory ∙ ap (λ (x : Page). stamped x inventory_kind (drop 16 x) scn place) put
    ∙ stamped-over old marked 2 (drop 16 marked) scn place (with_bit_length index bit old) (bit_generation index bit old)

-- so it is that of the stroke
pub bit_stroke-is : (image : Image) (place index bit scn : ℕ) (old new : Page) → old ≡ page_at image place → scn ≡ image_scn image → new ≡ stamped old inventory_kind (drop 16 (with_bit index bit old)) scn place
    → page place new ≡ bit_stroke image place index bit
bit_stroke-is image place index bit scn old new is now made =
    ap (λ (x : Page). page place x) made
    ∙ ap (λ (x : Page). page place (stamped x inventory_kind (drop 16 (with_bit index bit x)) scn place)) is
    ∙ ap (λ (n : ℕ). page place (stamped (page_at image place) inventory_kind (drop 16 (with_bit index bit (page_at image place))) n place)) now

module _ (b : Base) (p : ℕ) where
  abbrev place : ℕ
  place = inventory_of b.image p

  -- the inventory page isn't of the form
  pub mark_other : (r : Refusal) → not_kind b.image inventory_kind place ≡ Some r → mark_cause b.image p ≡ Some r
  mark_other r e = first_here _ _ r e

  module _ (form : not_kind b.image inventory_kind place ≡ None) where
    found : is_kind b.image inventory_kind place ≡ true
    found = is_so (is_kind b.image inventory_kind place) (NotDatabase place) form

    pub there : place < length b.image
    there = (kind_parts b.image inventory_kind place found).0

    pub plain : kind_of (page_at b.image place) ≢ scn_kind
    plain = λ e. absurd (omega (arith, e, (kind_parts b.image inventory_kind place found).1))

    -- then the SCN page decides
    pub mark_cause-is : mark_cause b.image p ≡ entry_cause b.image place
    mark_cause-is = first_next _ _ form ∙ one_cause (entry_cause b.image place)

    module _ (bit : ℕ) where
      abbrev payload : List ℕ
      payload = drop 16 (with_bit (bit_number b.image p) bit (page_at b.image place))

      abbrev draft : Draft
      draft = set_bit bit p (drafted b.image)

      draft-is : draft ≡ put place inventory_kind payload (drafted b.image)
      unfolding set_bit
      draft-is = ap (λ (d : Draft). put place inventory_kind payload d) (needs_found b.image 2 place found)

      -- the table refuses it by this alone, and asks for no page
      pub mark_form : not_of_form draft ≡ mark_cause b.image p
      mark_form = ap (λ (d : Draft). not_of_form d) draft-is ∙ by (entry_cause b.image place) refl ∙ sym mark_cause-is
        where
          by : (c : Cause) → entry_cause b.image place ≡ c → not_of_form (put place inventory_kind payload (drafted b.image)) ≡ entry_cause b.image place
          by None e = put_form b place 2 payload e ∙ sym e
          by (Some r) e = put_refused b place 2 payload r e ∙ sym e

      pub mark_room : mark_cause b.image p ≡ None → no_room draft ≡ None
      mark_room none = ap (λ (d : Draft). no_room d) draft-is ∙ put_room b place 2 payload (sym mark_cause-is ∙ none)

      -- its strokes: the entry, and then the bit
      pub marked-is : mark_cause b.image p ≡ None → 0 < entries_in (image_size b.image) → mark_strokes b.image p bit ≡ raise_strokes b.image place ++ mark_stroke b.image p bit ∷ []
      marked-is none some =
          ap (λ (d : Draft). d.strokes) draft-is
          ∙ put_strokes b place 2 payload there plain some (sym mark_cause-is ∙ none)

-- The raise of its entry keeps the inventory page, so the bit is written after it as it would be before.
pub mark_stroke-after : (image after : Image) (p bit : ℕ) → Keeps image (inventory_of image p) after → bit_stroke after (inventory_of image p) (bit_number image p) bit ≡ mark_stroke image p bit
mark_stroke-after image after p bit keeps =
    let place : ℕ = inventory_of image p in
    ap (λ (x : Page). put_stroke after place 2 (drop 16 (with_bit (bit_number image p) bit x))) keeps.same
    ∙ put_stroke-after image after place 2 (drop 16 (with_bit (bit_number image p) bit (page_at image place))) keeps

pub entries_some : (size : ℕ) (image : Image) → IsTrue (is_page_size size) → size ≡ image_size image → 0 < entries_in (image_size image)
entries_some size image is same = subst (λ (n : ℕ). 0 < entries_in n) same (let least = entries-least size is in omega (arith, least))
