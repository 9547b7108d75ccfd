-- A table that is made: its first page, and then its slot in the catalogue.
use Rattle.std.proofs.Common.{◌≡◌, inl, inr, ℕ, suc, ◌+◌, ◌*◌, ◌≤◌, List, [], ◌∷◌, ◌++◌, length, drop, refl, sym, ap, subst, ◌∙◌, arith, Bool, true, not, None, Result, Ok, Err}
use Rattle.nb_table.proofs.Common.{leb_tells, with_part, data_kind, World, Fault, NotDatabase, not_kind, not_of_form, no_room, too_short, when, Catalogue, Slot, found_pages, last_of, put_slot, grown, table_slot, Draft, drafted, is_kind, Image, page_at, Stroke, Trail, IsOf, drafted_is, drafts_are, new_keeps, no_first, draft_cause, after_strokes, Held, IsOpen, Makes, behind_cause, second_data, unmade, unmade_behind, entry_cause, StopsShort, Tries, WhereMemory, tries_front, tries_then, sure_of, tries_opened, tries_named, image_is, IsFreeBehind, free_behind, grown_named, slot_named, unmade_is, joined_clear, lt_no, Place, first_made, created_in, created_behind, table_length, first_next, when_false, unless_none, some_none, one_cause}
use Rattle.nb_fields.specs.Payloads.{data_payload}
use Rattle.nb_model.proofs.DraftJoin.{joined, join_put}
use Rattle.nb_model.proofs.PlaceTurns.{join_at}
use Rattle.nb_engine.specs.Search.{IsShort}
use Rattle.nb_alloc.proofs.ContentLaws.{data_short}
use Rattle.nb_engine.proofs.GrowLaws.{new_longer}
use Rattle.nb_table.proofs.PlaceLaws.{unnumbered, unnumbered_tries}

-- what the first page holds
abbrev pub first : ℕ → List ℕ
first p = data_payload 0 p []

pub first_short : IsShort first
first_short p = data_short p [] (omega arith)

-- nothing keeps pages from being made with a page after them
pub record IsClearBehind (image : Image) (d : Draft) (p : ℕ) : Type 0 where
  pub long : too_short image ≡ None
  pub free : IsFreeBehind d p

pub clear_behind : (image : Image) (d : Draft) (p : ℕ) → unmade_behind image d p ≡ None → IsClearBehind image d p
clear_behind image d p none =
    let parts = no_first (too_short image) (behind_cause d p ∷ []) none in
    record { long = parts.0; free = free_behind d p (sym (one_cause (behind_cause d p)) ∙ parts.1) }

-- a draft that is made
clear_made : (image : Image) (d : Draft) → too_short image ≡ None → draft_cause d ≡ None → unmade image d ≡ None
clear_made image d long none = unmade_is image d ∙ first_next (too_short image) (draft_cause d ∷ []) long ∙ one_cause (draft_cause d) ∙ none

module _ (image : Image) where
  abbrev made : Draft × ℕ
  made = first_made image

  abbrev y : Image
  y = made.0.image

  -- The slot at a place.
  module _ (table : List ℕ) (place : Place) where
    abbrev bytes : Slot
    bytes = table_slot table made.1

    abbrev slot_put : Draft
    slot_put = put_slot place.page place.slot bytes (drafted y)

    pub in_strokes : (created_in image table place).strokes ≡ made.0.strokes ++ slot_put.strokes
    unfolding put_slot
    in_strokes = ap (λ (d : Draft). d.strokes) (join_put place.page 5 (drop 16 (with_part (32 + 256 * place.slot) bytes (page_at y place.page))) made.0)

    pub in_named : unmade image (created_in image table place) ≡ unmade_behind image made.0 place.page
    in_named = slot_named image place.page place.slot bytes made.0

  -- The slot in a new page after the last.
  module _ (table : List ℕ) where
    abbrev slots : Slot
    slots = table_slot table made.1

    abbrev pages : List ℕ
    pages = found_pages Catalogue image

    abbrev pub second : ℕ → List ℕ
    second p = data_payload 0 0 slots

    abbrev grows : Draft
    grows = (grown Catalogue pages slots (drafted y)).0

    behind_joined : created_behind image table ≡ joined made.0 grows
    behind_joined = join_at Catalogue None pages slots made.0

    pub behind_strokes : (created_behind image table).strokes ≡ made.0.strokes ++ grows.strokes
    behind_strokes = ap (λ (d : Draft). d.strokes) behind_joined

    pub second_short : length table ≤ 240 → IsShort second
    second_short name = λ p. data_short 0 slots (omega (arith, table_length table made.1 name))

    behind_named : unmade image (created_behind image table) ≡ unmade_behind image (second_data first second image).0 (last_of pages)
    behind_named = grown_named image Catalogue pages slots made.0

    -- what is tested of it, with the last page of the catalogue
    pub behind_by : (last : ℕ) → last ≡ last_of pages → unmade image (created_behind image table) ≡ unmade_behind image (second_data first second image).0 last
    behind_by last is = behind_named ∙ ap (unmade_behind image (second_data first second image).0) (sym is)

    -- where both pages can be made, the first one can, and the second after it
    pub both_made : unmade image (created_behind image table) ≡ None → (draft_cause made.0 ≡ None) × (draft_cause grows ≡ None)
    both_made none =
        let parts = no_first (too_short image) (draft_cause (created_behind image table) ∷ []) (sym (unmade_is image (created_behind image table)) ∙ none) in
        joined_clear made.0 grows (sym (ap draft_cause behind_joined) ∙ sym (one_cause (draft_cause (created_behind image table))) ∙ parts.1)

-- What the calls do of it.
module _ (t : Trail) (table : List ℕ) where
  abbrev x : Image
  x = t.base.image

  abbrev new_first : Draft × ℕ
  new_first = first_made x

  abbrev xs : List Stroke
  xs = new_first.0.strokes

  abbrev u : Trail
  u = after_strokes t xs

  pub image_then : u.base.image ≡ new_first.0.image
  image_then = image_is t 0 new_first.0 (new_keeps (IsOf t.base) (drafts_are t.base) (length x + 4) 5 first (drafted x) (drafted_is t.base)) xs refl

  -- the last page is a data page still
  pub data_then : (last : ℕ) → is_kind new_first.0.image data_kind last ≡ true → is_kind u.base.image data_kind last ≡ true
  data_then last kind = ap (λ (z : Image). is_kind z data_kind last) image_then ∙ kind

  -- at a place
  module _ (place : Place) (none : unmade_behind x new_first.0 place.page ≡ None) where
    abbrev ys_with : Slot → List Stroke
    ys_with bytes = (put_slot place.page place.slot bytes (drafted u.base.image)).strokes

    abbrev ys : (first : ℕ) → List Stroke
    ys n = ys_with (table_slot table n)

    clear : IsClearBehind x new_first.0 place.page
    clear = clear_behind x new_first.0 place.page none

    pub in_none : unmade x (created_in x table place) ≡ None
    in_none = in_named x table place ∙ none

    first_none : unmade x new_first.0 ≡ None
    first_none = clear_made x new_first.0 clear.long clear.free.clear

    pub kind_then : not_kind u.base.image data_kind place.page ≡ None
    kind_then = ap (λ (t : Bool). when (not t) (NotDatabase place.page)) (ap (λ (z : Image). is_kind z data_kind place.page) image_then ∙ clear.free.kind)

    entry_then : entry_cause u.base.image place.page ≡ None
    entry_then = ap (λ (z : Image). entry_cause z place.page) image_then ∙ clear.free.entry

    pub in_front : (fault : Fault) (old new : World) (a b : Held) → Tries {T = ℕ} (Err fault) old new a b t (unmade x new_first.0) xs
        → Tries {T = Unit {0}} (Err fault) old new a b t (unmade x (created_in x table place)) (created_in x table place).strokes
    in_front fault old new a b tries =
        tries_named {T = Unit {0}} (Err fault) old new a b t (unmade x new_first.0) (unmade x (created_in x table place)) (xs ++ (slot_put x table place).strokes) (created_in x table place).strokes (first_none ∙ sym in_none)
        (sym (in_strokes x table place)) (tries_front ℕ (Unit {0}) fault old new a b t (unmade x new_first.0) xs (slot_put x table place).strokes tries)

    -- The slot is written, whatever that answers.
    pub in_then : (n : ℕ) (result : Result (Unit {0}) Fault) (old mid new : World) (a b c : Held) → Tries (Ok n) old mid a b t (unmade x new_first.0) xs → n ≡ new_first.1 → (slot : Slot) → slot ≡ table_slot table n
        → (IsOpen mid b u → Tries result mid new b c u (entry_cause u.base.image place.page) (ys_with slot)) → Tries result old new a c t (unmade x (created_in x table place)) (created_in x table place).strokes
    in_then n result old mid new a b c one same slot are call =
        let two : Tries result mid new b c u (entry_cause u.base.image place.page) (ys n) =
        subst (λ (bs : Slot). Tries result mid new b c u (entry_cause u.base.image place.page) (ys_with bs)) are (call (tries_opened n old mid a b t (unmade x new_first.0) xs one)) in
        let put_is : xs ++ ys n ≡ (created_in x table place).strokes =
        ap (λ (k : ℕ). xs ++ ys k) same ∙ ap (λ (z : Image). xs ++ (put_slot place.page place.slot (table_slot table new_first.1) (drafted z)).strokes) image_then ∙ sym (in_strokes x table place) in
        let these = unless_none (entry_cause u.base.image place.page) (ys n) entry_then in
        let makes : Makes result mid new b c u (ys n) = subst (λ (ss : List Stroke). Makes result mid new b c u ss) these two.makes in
        tries_named result old new a c t (unmade x new_first.0) (unmade x (created_in x table place)) (xs ++ ys n) (created_in x table place).strokes (first_none ∙ sym in_none) put_is
        (tries_then n result old mid new a b c t (unmade x new_first.0) xs (ys n) one (sure_of result (entry_cause u.base.image place.page) entry_then two.test) makes
        (subst (λ (ss : List Stroke). WhereMemory result (StopsShort mid new b c u ss)) these two.stops))

  -- in a new page
  module _ (none : unmade x (created_behind x table) ≡ None) where
    abbrev grows_with : Slot → Draft
    grows_with bytes = (grown Catalogue (found_pages Catalogue x) bytes (drafted u.base.image)).0

    abbrev grows_by : (first : ℕ) → Draft
    grows_by n = grows_with (table_slot table n)

    both : (draft_cause new_first.0 ≡ None) × (draft_cause (grows x table) ≡ None)
    both = both_made x table none

    long : too_short x ≡ None
    long = (no_first (too_short x) (not_of_form (created_behind x table) ∷ no_room (created_behind x table) ∷ []) none).0

    front_none : unmade x new_first.0 ≡ None
    front_none = clear_made x new_first.0 long both.0

    pub behind_front : (fault : Fault) (old new : World) (a b : Held) → Tries {T = ℕ} (Err fault) old new a b t (unmade x new_first.0) xs
        → Tries {T = Unit {0}} (Err fault) old new a b t (unmade x (created_behind x table)) (created_behind x table).strokes
    behind_front fault old new a b tries =
        tries_named {T = Unit {0}} (Err fault) old new a b t (unmade x new_first.0) (unmade x (created_behind x table)) (xs ++ (grows x table).strokes) (created_behind x table).strokes
        (front_none ∙ sym none) (sym (behind_strokes x table))
        (tries_front ℕ (Unit {0}) fault old new a b t (unmade x new_first.0) xs (grows x table).strokes tries)

    grows_are : (n : ℕ) → n ≡ new_first.1 → grows_by n ≡ grows x table
    grows_are n same =
        ap grows_by same ∙ ap (λ (z : Image). (grown Catalogue (found_pages Catalogue x) (table_slot table new_first.1) (drafted z)).0) image_then

    five : 5 ≤ length x
    five = elim (leb_tells (suc (length x)) 5) [
      | inl w ↦ absurd (some_none (NotDatabase (length x)) (sym (ap (λ (t : Bool). when t (NotDatabase (length x))) w.0) ∙ long))
      | inr w ↦ omega (arith, w.1)
    ]

    long_then : too_short u.base.image ≡ None
    long_then = when_false _ _ (lt_no (length u.base.image) 5 (omega (arith, five, new_longer 5 first x, ap length image_then)))

    free : (n : ℕ) → n ≡ new_first.1 → unmade u.base.image (grows_by n) ≡ None
    free n same = clear_made u.base.image (grows_by n) long_then (ap draft_cause (grows_are n same) ∙ both.1)

    -- The second page is made, whatever that answers.
    pub behind_then : (n : ℕ) (result : Result ℕ Fault) (old mid new : World) (a b c : Held) → Tries (Ok n) old mid a b t (unmade x new_first.0) xs → n ≡ new_first.1 → (slot : Slot) → slot ≡ table_slot table n
        → (IsOpen mid b u → Tries result mid new b c u (unmade u.base.image (grows_with slot)) (grows_with slot).strokes) → Tries (unnumbered result) old new a c t (unmade x (created_behind x table)) (created_behind x table).strokes
    behind_then n result old mid new a b c one same slot are call =
        let tries : Tries result mid new b c u (unmade u.base.image (grows_by n)) (grows_by n).strokes =
        subst (λ (bs : Slot). Tries result mid new b c u (unmade u.base.image (grows_with bs)) (grows_with bs).strokes) are (call (tries_opened n old mid a b t (unmade x new_first.0) xs one)) in
        let two = unnumbered_tries result mid new b c u (unmade u.base.image (grows_by n)) (grows_by n).strokes tries in
        let these = unless_none (unmade u.base.image (grows_by n)) (grows_by n).strokes (free n same) in
        let makes : Makes (unnumbered result) mid new b c u (grows_by n).strokes =
        subst (λ (ss : List Stroke). Makes (unnumbered result) mid new b c u ss) these two.makes in
        tries_named (unnumbered result) old new a c t (unmade x new_first.0) (unmade x (created_behind x table)) (xs ++ (grows_by n).strokes) (created_behind x table).strokes (front_none ∙ sym none)
        (ap (λ (d : Draft). xs ++ d.strokes) (grows_are n same) ∙ sym (behind_strokes x table))
        (tries_then n (unnumbered result) old mid new a b c t (unmade x new_first.0) xs (grows_by n).strokes one (sure_of (unnumbered result) (unmade u.base.image (grows_by n)) (free n same) two.test) makes
        (subst (λ (ss : List Stroke). WhereMemory (unnumbered result) (StopsShort mid new b c u ss)) these two.stops))
