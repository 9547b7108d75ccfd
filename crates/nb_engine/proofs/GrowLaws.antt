-- A chain grows by a page: the new page, and then the link to it.
use Rattle.std.proofs.Common.{◌≡◌, ℕ, ◌+◌, ◌<◌, ◌≤◌, List, [], ◌∷◌, ◌++◌, length, refl, sym, ap, subst, ◌∙◌, arith, length-append, Bool, true, false, IsTrue, nat_lt, slice_set, Some, None, Result, Ok, Err}
use Rattle.nb_engine.proofs.Common.{length-set, bytes_of, data_payload, World, Fault, Refusal, stamped, Page, Image, image_size, image_scn, with_page, Stroke, merged_page, Trail, is_page_size, data_kind, draft_cause, kind_parts, entry_cause, page_strokes_are, IsFreeBehind, Draft, is_kind, drafted, old_page, put, wrote, written, Cause, first_cause, not_of_form, no_room, no_scn, Chain, History, owner_of, last_of, grown, after_strokes, Held, new_behind, page_strokes, new_of, no_rows, linked_payload, write_cause, grow_cause, Tries, tries_other, tries_valued, tries_front, tries_next, tries_named, told, image_is, first_here, first_next, no_cause}
use Rattle.nb_model.proofs.DraftLaws.{IsKept, IsOf, drafts_are, drafted_is, put_keeps, new_keeps}
use Rattle.nb_model.proofs.DraftJoin.{join_put}
use Rattle.nb_engine.proofs.LinkLaws.{write_low}

-- the bytes of a page of the history without a row
pub rows_are : 0 ∷ 0 ∷ 0 ∷ 0 ∷ 1 ∷ 0 ∷ 0 ∷ 0 ∷ 0 ∷ 0 ∷ 0 ∷ 0 ∷ 0 ∷ 0 ∷ 0 ∷ 0 ∷ [] ≡ no_rows
unfolding data_payload bytes_of
rows_are = refl

pub no_rows_short : length no_rows ≤ 1008
no_rows_short = omega (arith, ap length (sym rows_are))

-- a draft is never shorter than what it began with
long_by : (image : Image) (p : ℕ) (bytes : Page) (t : Bool) → length image ≤ length (elim t as (λ z. Image) [ true ↦ slice_set image p bytes | false ↦ image ++ bytes ∷ [] ])
long_by image p bytes true = omega (arith, length-set image p bytes)
long_by image p bytes false = omega (arith, length-append image (bytes ∷ []))

long_page : (image : Image) (p : ℕ) (bytes : Page) → length image ≤ length (with_page p bytes image)
unfolding with_page
long_page image p bytes = long_by image p bytes (nat_lt p (length image))

long_written : (n p kind : ℕ) (payload : List ℕ) (d : Draft) → n ≤ length d.image → n ≤ length (written p kind payload d).image
unfolding written wrote
long_written n p kind payload d long = omega (arith, long, long_page d.image p (merged_page p (stamped (old_page p d.image) kind payload (image_scn d.image) p) d.image))

long_kept : (n : ℕ) → IsKept (λ d. n ≤ length d.image)
long_kept n = record { writes = long_written n; reads = λ broken d long. long; fills = λ d long. long }

pub new_longer : (kind : ℕ) (payload : ℕ → List ℕ) (image : Image) → length image ≤ length (new_of kind payload image).0.image
new_longer kind payload image = new_keeps (λ d. length image ≤ length d.image) (long_kept (length image)) (length image + 4) kind payload (drafted image) (omega arith)

-- A chain grows by a page with these slots.
module _ (chain : Chain) (slots : List ℕ) where
  abbrev payload : ℕ → List ℕ
  payload = told (data_payload 0 (owner_of chain) slots)

  abbrev made_behind : Image → Draft × ℕ
  made_behind image = new_behind chain slots image

  -- the strokes of it
  pub grown_strokes : (image : Image) (pages : List ℕ)
      → (grown chain pages slots (drafted image)).0.strokes
      ≡ (made_behind image).0.strokes ++ (put (last_of pages) data_kind (linked_payload (made_behind image).0.image (last_of pages) (made_behind image).1) (drafted (made_behind image).0.image)).strokes
  unfolding grown
  grown_strokes image pages =
      ap (λ (d : Draft). d.strokes) (join_put (last_of pages) 5 (linked_payload (made_behind image).0.image (last_of pages) (made_behind image).1) (made_behind image).0)

  pub grown_number : (image : Image) (pages : List ℕ) → (grown chain pages slots (drafted image)).1 ≡ (made_behind image).1
  unfolding grown
  grown_number image pages = refl

  pub grown_below : (image : Image) (pages : List ℕ) (number : ℕ) → number < length (made_behind image).0.image → number < length (grown chain pages slots (drafted image)).0.image
  unfolding grown
  grown_below image pages number low =
      let n : ℕ = length (made_behind image).0.image in
      let long =
      put_keeps (λ d. n ≤ length d.image) (long_kept n) (last_of pages) 5 (linked_payload (made_behind image).0.image (last_of pages) (made_behind image).1) (made_behind image).0 (omega arith) in
      omega (arith, low, long)

  -- the new page failed
  pub grown_front : (t : Trail) (pages : List ℕ) (fault : Fault) (old new : World) (a b : Held) → Tries {T = ℕ} (Err fault) old new a b t None (made_behind t.base.image).0.strokes
      → Tries {T = ℕ} (Err fault) old new a b t None (grown chain pages slots (drafted t.base.image)).0.strokes
  grown_front t pages fault old new a b first =
      subst (λ (ss : List Stroke). Tries {T = ℕ} (Err fault) old new a b t None ss) (sym (grown_strokes t.base.image pages)) (tries_front ℕ ℕ fault old new a b t None (made_behind t.base.image).0.strokes _ first)

  -- The link after the new page.
  module _ (t : Trail) (pages : List ℕ) (last : ℕ) (free : IsFreeBehind (made_behind t.base.image).0 last) (size : IsTrue (is_page_size (image_size (after_strokes t (made_behind t.base.image).0.strokes).base.image))) (last_is : last ≡ last_of pages) where
    abbrev image : Image
    image = t.base.image

    abbrev xs : List Stroke
    xs = (made_behind image).0.strokes

    abbrev u : Trail
    u = after_strokes t xs

    of : IsOf t.base (made_behind image).0
    of = new_keeps (IsOf t.base) (drafts_are t.base) (length image + 4) 5 payload (drafted image) (drafted_is t.base)

    seen : u.base.image ≡ (made_behind image).0.image
    seen = image_is t last (made_behind image).0 of xs refl

    entry : entry_cause u.base.image last ≡ None
    entry = ap (λ (x : Image). entry_cause x last) seen ∙ free.entry

    after_long : last < length u.base.image
    after_long = (kind_parts u.base.image data_kind last (ap (λ (x : Image). is_kind x data_kind last) seen ∙ free.kind)).0

    pub link_free : write_cause u.base.image last ≡ None
    link_free = sym (write_low u.base.image last after_long) ∙ entry

    pub strokes_are : (number : ℕ) → number ≡ (made_behind image).1 → xs ++ page_strokes u.base.image last 5 (linked_payload u.base.image last number) ≡ (grown chain pages slots (drafted image)).0.strokes
    strokes_are number same =
        ap (λ (ss : List Stroke). xs ++ ss) (page_strokes_are u.base last 5 (linked_payload u.base.image last number) size entry)
        ∙ ap (λ (x : Image). xs ++ (put last data_kind (linked_payload x last number) (drafted x)).strokes) seen
        ∙ ap (λ (n : ℕ). xs ++ (put last data_kind (linked_payload (made_behind image).0.image last n) (drafted (made_behind image).0.image)).strokes) same
        ∙ ap (λ (n : ℕ). xs ++ (put n data_kind (linked_payload (made_behind image).0.image n (made_behind image).1) (drafted (made_behind image).0.image)).strokes) last_is ∙ sym (grown_strokes image pages)

    abbrev all : List Stroke
    all = (grown chain pages slots (drafted image)).0.strokes

    abbrev links : ℕ → List Stroke
    links number = page_strokes u.base.image last 5 (linked_payload u.base.image last number)

    grown_all : (number : ℕ) (result : Result ℕ Fault) (old mid new : World) (a b c : Held) → number ≡ (made_behind image).1 → Tries (Ok number) old mid a b t None xs → Tries result mid new b c u (write_cause u.base.image last) (links number)
        → Tries result old new a c t None all
    grown_all number result old mid new a b c same first tries =
        subst (λ (ss : List Stroke). Tries result old new a c t None ss) (strokes_are number same)
        (tries_next number result old mid new a b c t xs (links number) first (tries_named result mid new b c u (write_cause u.base.image last) None (links number) (links number) link_free refl tries))

    -- the link failed
    pub grown_failed : (number : ℕ) (fault : Fault) (old mid new : World) (a b c : Held) → number ≡ (made_behind image).1 → Tries (Ok number) old mid a b t None xs
        → Tries {T = Unit {0}} (Err fault) mid new b c u (write_cause u.base.image last) (links number) → Tries {T = ℕ} (Err fault) old new a c t None all
    grown_failed number fault old mid new a b c same first tries =
        grown_all number (Err fault) old mid new a b c same first (tries_other (Unit {0}) ℕ fault mid new b c u (write_cause u.base.image last) (links number) tries)

    -- or is made
    pub grown_done : (number : ℕ) (old mid new : World) (a b c : Held) → number ≡ (made_behind image).1 → Tries (Ok number) old mid a b t None xs
        → Tries {T = Unit {0}} (Ok tt) mid new b c u (write_cause u.base.image last) (links number) → Tries (Ok number) old new a c t None all
    grown_done number old mid new a b c same first tries =
        grown_all number (Ok number) old mid new a b c same first (tries_valued {S = Unit {0}} tt number mid new b c u (write_cause u.base.image last) (links number) tries)

-- the new page is below the length
pub new_below : (t : Trail) (kind : ℕ) (payload : ℕ → List ℕ) (number : ℕ) → number < length (after_strokes t (new_of kind payload t.base.image).0.strokes).base.image → number < length (new_of kind payload t.base.image).0.image
new_below t kind payload number low =
    let of : IsOf t.base (new_of kind payload t.base.image).0 = new_keeps (IsOf t.base) (drafts_are t.base) (length t.base.image + 4) kind payload (drafted t.base.image) (drafted_is t.base) in
    subst (λ (x : Image). number < length x) (image_is t 0 (new_of kind payload t.base.image).0 of (new_of kind payload t.base.image).0.strokes refl) low

first_grouped : (a b c : Cause) → first_cause (a ∷ b ∷ c ∷ []) ≡ first_cause (first_cause (a ∷ b ∷ []) ∷ c ∷ [])
unfolding first_cause
first_grouped None None c = refl
first_grouped None (Some r) c = refl
first_grouped (Some r) b c = refl

-- why the history doesn't grow
module _ (image : Image) (pages : List ℕ) where
  abbrev history : Draft
  history = (grown History pages [] (drafted image)).0

  grow_is : grow_cause image pages ≡ first_cause (draft_cause history ∷ no_scn image ∷ [])
  grow_is = first_grouped (not_of_form history) (no_room history) (no_scn image)

  pub grow_refused : (r : Refusal) → draft_cause history ≡ Some r → grow_cause image pages ≡ Some r
  grow_refused r e = grow_is ∙ first_here (draft_cause history) (no_scn image ∷ []) r e

  pub grow_spent : draft_cause history ≡ None → (r : Refusal) → no_scn image ≡ Some r → grow_cause image pages ≡ Some r
  grow_spent room r e = grow_is ∙ first_next (draft_cause history) (no_scn image ∷ []) room ∙ first_here (no_scn image) [] r e

  pub grow_free : draft_cause history ≡ None → no_scn image ≡ None → grow_cause image pages ≡ None
  grow_free room scn = grow_is ∙ first_next (draft_cause history) (no_scn image ∷ []) room ∙ first_next (no_scn image) [] scn ∙ no_cause
