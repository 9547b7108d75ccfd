-- The causes of a page that is tested.
use Rattle.std.proofs.Common.{◌≡◌, ◌≢◌, ◌↔◌, inl, inr, ℕ, ◌/◌, ◌%◌, ◌<◌, ◌≤◌, List, [], ◌∷◌, ◌++◌, length, get_or, take, drop, refl, sym, ap, ◌∙◌, subst, arith, Bool, true, false, not, ◌&&◌, ◌==◌, nat_le, Some, None, Result, Ok, Err, IsOk, IsTrue, OnOk}
use Rattle.nb_alloc.proofs.Common.{leb_tells, length-take, take_at, bits_in, inventory_place, kind_of, bit_of, text_length, text_of, inventory_kind, raw_kind, Refusal, NotDatabase, PageRange, NotAllocated, SystemPage, Access, TextLong, bits, get_or-bits, Page, Image, page_at, image_size, is_read_only, is_kind, is_free_page, inventory_of, bit_number, Cause, first_cause, when, read_only, too_long, past_end, not_kind, not_raw, no_text, Value, Seen, says, le_no, lt_no, lt_yes, eq_no, eq_yes, not_taken, applies, first_here, first_next, le_yes, never, no_cause, when_false}
use Rattle.std.proofs.lemmas.Nat.Bits.{bit_at-lt}
use Rattle.nb_page.specs.declared.page.PageHead.{PageHead}
use Rattle.nb_page.specs.Head.{head_in}
use Rattle.nb_model.specs.declared.reply.Reply.TheVariants.{Refused as RefusedBy}
use Rattle.nb_model.specs.Pages.{read_turn}
use Rattle.nb_alloc.proofs.CauseLaws.{first_front, first_rest, unless_refused, unless_allowed}

pub le_from : (a b : ℕ) → true ≡ nat_le a b → a ≤ b
le_from a b e = elim (leb_tells a b) [ inl w ↦ w.1 | inr w ↦ absurd (never (sym w.0 ∙ sym e)) ]

pub lt_from : (a b : ℕ) → false ≡ nat_le a b → b < a
lt_from a b e = elim (leb_tells a b) [ inl w ↦ absurd (never (e ∙ w.0)) | inr w ↦ omega (arith, w.1) ]

-- what holds under Ok, at Ok
pub at_ok : {T E P : Type 0} (result : Result T E) → IsOk result → OnOk result P → P
at_ok (Ok value) is p = p
at_ok (Err e) is p = absurd (never is)

-- a slice of all the elements of a vector, after which it has room
pub vec_whole : (deref items rest : List ℕ) (n : ℕ) → deref ≡ take n (items ++ rest) → length items ≡ n → deref ≡ items
vec_whole deref items rest n is long = is ∙ take_at items rest n long

-- the kind in the head that was read of page p
pub kind_read : (head : PageHead) (page : Page) (image : Image) (p : ℕ) → head ≡ head_in page → page ≡ page_at image p → head.kind ≡ kind_of (page_at image p)
unfolding head_in
kind_read head page image p read is = ap (λ (h : PageHead). h.kind) read ∙ ap kind_of is

-- whether there is a page of that kind
module _ (image : Image) (kind p : ℕ) where
  pub kind_past_end : length image ≤ p → is_kind image kind p ≡ false
  unfolding is_kind
  kind_past_end far = ap (λ (t : Bool). t && kind_of (page_at image p) == kind) (lt_no p (length image) far)

  pub kind_below : p < length image → is_kind image kind p ≡ (kind_of (page_at image p) == kind)
  unfolding is_kind
  kind_below low = ap (λ (t : Bool). t && kind_of (page_at image p) == kind) (lt_yes p (length image) low)

  -- there is no page
  pub kind_past : length image ≤ p → not_kind image kind p ≡ Some (NotDatabase p)
  kind_past far = applies _ _ (ap not (kind_past_end far))

  -- the page is of another kind
  pub kind_other : p < length image → kind_of (page_at image p) ≢ kind → not_kind image kind p ≡ Some (NotDatabase p)
  kind_other low other = applies _ _ (ap not (kind_below low ∙ eq_no _ kind other))

  -- the page is of that kind
  pub kind_is : p < length image → kind_of (page_at image p) ≡ kind → not_kind image kind p ≡ None
  kind_is low same = when_false _ _ (ap not (kind_below low ∙ eq_yes _ kind same))

-- the place of the inventory page of page p
pub inventory_place_is : (image : Image) (size p place k : ℕ) → place ≡ inventory_place size k → k ≡ p / bits_in size → size ≡ image_size image → place ≡ inventory_of image p
inventory_place_is image size p place k at number same =
    at ∙ ap (inventory_place size) number ∙ ap (λ (n : ℕ). inventory_place n (p / bits_in n)) same

-- The inventory page of page p was read and is of the form, and the bit of page p there is that one.
pub record ReadsBit (image : Image) (p : ℕ) (map : Page) (bit : ℕ) : Type 0 where
  pub form : not_kind image inventory_kind (inventory_of image p) ≡ None
  pub page : map ≡ page_at image (inventory_of image p)
  pub number : bit ≡ bit_number image p
  pub inside : bit < bits_in (length map)

pub reads_bit : (image : Image) (size p place : ℕ) (map : Page) (bit : ℕ) → place ≡ inventory_of image p → size ≡ image_size image → length map ≡ size
    → not_kind image inventory_kind place ≡ None → map ≡ page_at image place → bit ≡ p % bits_in size → bit < bits_in size → ReadsBit image p map bit
reads_bit image size p place map bit there same long form page number inside = record {
  form = ap (λ (q : ℕ). not_kind image inventory_kind q) (sym there) ∙ form;
  page = page ∙ ap (page_at image) there;
  number = number ∙ ap (λ (n : ℕ). p % bits_in n) same;
  inside = subst (λ (n : ℕ). bit < bits_in n) (sym long) inside;
}

module _ (image : Image) (p : ℕ) where
  abbrev inventory : Page
  inventory = page_at image (inventory_of image p)

  -- the bit that was read is that of page p
  bit_read : (map : Page) (bit : ℕ) → ReadsBit image p map bit → get_or (bits map) bit 0 ≡ bit_of inventory (bit_number image p)
  bit_read map bit reads = get_or-bits map bit 0 reads.inside ∙ ap (λ (m : Page). bit_of m bit) reads.page ∙ ap (bit_of inventory) reads.number

  -- whether it is free, as the bit tells
  pub free_is : (map : Page) (bit : ℕ) → ReadsBit image p map bit → (used : Bool) → (IsTrue used ↔ (get_or (bits map) bit 0 ≡ 0)) → not used ≡ is_free_page image p
  unfolding is_free_page
  free_is map bit reads true tells =
      let read : bit_of inventory (bit_number image p) ≡ 0 = sym (bit_read map bit reads) ∙ tells.0 refl in
      sym (eq_no _ 1 (λ e. absurd (omega (arith, e, read))))
  free_is map bit reads false tells =
      let small : bit_of inventory (bit_number image p) < 2 = bit_at-lt _ _ in
      let other : bit_of inventory (bit_number image p) ≢ 0 = λ e. never (tells.1 (bit_read map bit reads ∙ e)) in
      sym (eq_yes _ 1 (omega (arith, small, other)))

  abbrev untaken : List Cause
  untaken = not_kind image inventory_kind (inventory_of image p) ∷ when (is_free_page image p) (NotAllocated p) ∷ []

  abbrev system : Cause
  system = when (not (kind_of (page_at image p) == raw_kind)) (SystemPage p)

  -- why page p isn't taken, and where it is
  pub taken_other : (r : Refusal) → not_kind image inventory_kind (inventory_of image p) ≡ Some r → not_taken image p ≡ Some r
  taken_other r e = first_here _ _ r e

  pub taken_free : not_kind image inventory_kind (inventory_of image p) ≡ None → is_free_page image p ≡ true → not_taken image p ≡ Some (NotAllocated p)
  taken_free form free = first_next _ _ form ∙ first_here _ [] _ (applies _ _ free)

  pub taken_is : not_kind image inventory_kind (inventory_of image p) ≡ None → is_free_page image p ≡ false → not_taken image p ≡ None
  taken_is form used = first_next _ _ form ∙ first_next _ [] (when_false _ _ used) ∙ no_cause

  not_raw-below : p < length image → not_raw image p ≡ first_cause (untaken ++ system ∷ [])
  unfolding not_raw
  not_raw-below low = first_next (past_end image p) _ (when_false _ _ (le_no (length image) p low))

  -- why page p is no taken raw page, and where it is one
  pub raw_past : length image ≤ p → not_raw image p ≡ Some (PageRange p (length image))
  unfolding not_raw
  raw_past far = first_here (past_end image p) _ _ (applies _ _ (le_yes (length image) p far))

  pub raw_untaken : p < length image → (r : Refusal) → not_taken image p ≡ Some r → not_raw image p ≡ Some r
  raw_untaken low r e = not_raw-below low ∙ first_front untaken (system ∷ []) r e

  pub raw_system : p < length image → not_taken image p ≡ None → kind_of (page_at image p) ≢ raw_kind → not_raw image p ≡ Some (SystemPage p)
  raw_system low taken other = not_raw-below low ∙ first_rest untaken (system ∷ []) taken ∙ first_here system [] _ (applies _ _ (ap not (eq_no _ 8 other)))

  pub raw_is : p < length image → not_taken image p ≡ None → kind_of (page_at image p) ≡ raw_kind → not_raw image p ≡ None
  raw_is low taken same = not_raw-below low ∙ first_rest untaken (system ∷ []) taken ∙ first_next system [] (when_false _ _ (ap not (eq_yes _ 8 same))) ∙ no_cause

-- a text is no longer than the length before it
pub text_short : (page : Page) → text_length page ≤ 200 → length (text_of page) ≤ 200
text_short page short = let long = length-take (text_length page) (drop 18 page) in omega (arith, long, short)

-- whether the database may be changed, and then whether the text fits
module _ (image : Image) (text : List ℕ) where
  pub write_closed : is_read_only image ≡ true → first_cause (read_only image ∷ too_long text ∷ []) ≡ Some (Access 1)
  write_closed closed = first_here _ _ _ (applies _ _ closed)

  pub write_long : is_read_only image ≡ false → 200 < length text → first_cause (read_only image ∷ too_long text ∷ []) ≡ Some (TextLong (length text))
  write_long free long = first_next _ _ (when_false _ _ free) ∙ first_here _ [] _ (applies _ _ (lt_yes 200 (length text) long))

  pub write_fits : is_read_only image ≡ false → length text ≤ 200 → first_cause (read_only image ∷ too_long text ∷ []) ≡ None
  write_fits free short = first_next _ _ (when_false _ _ free) ∙ first_next _ [] (when_false _ _ (lt_no 200 (length text) short)) ∙ no_cause

-- what reading page p says
module _ (s : Seen) (p : ℕ) where
  abbrev page : Page
  page = page_at s.base.image p

  pub read_refused : (r : Refusal) → not_raw s.base.image p ≡ Some r → read_turn s p ≡ says s (RefusedBy r) []
  unfolding read_turn
  read_refused r e = unless_refused s _ _ r (first_here _ (no_text s.base.image p ∷ []) r e)

  pub read_broken : not_raw s.base.image p ≡ None → 200 < text_length page → read_turn s p ≡ says s (RefusedBy (NotDatabase p)) []
  unfolding read_turn
  read_broken raw long = unless_refused s _ _ _ (first_next _ (no_text s.base.image p ∷ []) raw ∙ first_here _ [] _ (applies _ _ (lt_yes 200 (text_length page) long)))

  pub read_says : not_raw s.base.image p ≡ None → text_length page ≤ 200 → read_turn s p ≡ says s (Value (text_of page)) []
  unfolding read_turn
  read_says raw short = unless_allowed s _ _ (first_next _ (no_text s.base.image p ∷ []) raw ∙ first_next _ [] (when_false _ _ (lt_no 200 (text_length page) short)) ∙ no_cause)
