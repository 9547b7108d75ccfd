-- Pages of an image that aren't of their kind, where pages are written one after the other: each draft notes the same ones, whatever was written
-- before, since a page changes its kind only where it was noted.
use Rattle.std.proofs.Common.{◌≡◌, ◌≢◌, ◌⊎◌, inl, inr, ℕ, suc, ◌+◌, ◌*◌, ◌/◌, ◌<◌, ◌≤◌, List, [], ◌∷◌, ◌++◌, length, drop, refl, sym, ap, subst, ◌∙◌, arith, append_assoc, length-drop, Bool, true, false, not, ◌==◌, ◌&&◌, ◌||◌, nat_lt, min, Some, None}
use Rattle.nb_engine.proofs.Common.{eqb_tells, leb_tells, bytes_of, with_part, entries_in, bits_in, inventory_place, scn_place, is_scn_place, kind_of, length-bytes_of, length-with_part, entries-least, scn_place-some, SizeFacts, size_facts, inventory_kind, data_kind, scn_kind, NotDatabase, not_kind, when, lowest_of, lowest_broken, Page, Image, page_at, image_size, image_scn, HasItsEntry, Draft, drafted, is_kind, other_kind, needs, has_entry, inventory_of, scn_page_of, bit_number, entry_number, scn_entry, entry_written, entry_raised, raised, written, wrote, put, with_bit, set_bit, give_page, needs_image, all_at, inventory_place_some, scn_place_before, IsShaped, IsWritten, Puts, form_written, kind_parts, written_size, written_shaped, inventory_has, put_on, entry_broken, give_broken, entry_cause, mark_cause, entry_by, other_by, inventory_most, needs_broken, no_entry_broken, first_next, append_none, kind_found, needs_found, no_cause}
use Rattle.nb_model.proofs.BitLaws.{with_bit_length}
use Rattle.nb_model.proofs.RoomThere.{other_met}

-- the page is one of these
abbrev pub In : ℕ → List ℕ → Type 0
In r [] = ⊥
In r (p ∷ ps) = (r ≡ p) ⊎ In r ps

in_left : (r : ℕ) (xs ys : List ℕ) → In r xs → In r (xs ++ ys)
in_left r [] ys is = absurd is
in_left r (x ∷ xs) ys (inl e) = inl e
in_left r (x ∷ xs) ys (inr i) = inr (in_left r xs ys i)

in_right : (r : ℕ) (xs ys : List ℕ) → In r ys → In r (xs ++ ys)
in_right r [] ys is = is
in_right r (x ∷ xs) ys is = inr (in_right r xs ys is)

in_either : (r : ℕ) (xs ys : List ℕ) → In r (xs ++ ys) → In r xs ⊎ In r ys
in_either r [] ys is = inr is
in_either r (x ∷ xs) ys (inl e) = inl (inl e)
in_either r (x ∷ xs) ys (inr i) = elim (in_either r xs ys i) [ inl a ↦ inl (inr a) | inr b ↦ inr b ]

-- Lists of the same pages have the same lowest.
lowest_is : (p : ℕ) (ps : List ℕ) → In (lowest_of p ps) (p ∷ ps)
lowest_is p [] = inl refl
lowest_is p (q ∷ qs) = elim (lowest_is (min p q) qs) [
  | inl e ↦ elim (leb_tells p q) [ inl w ↦ inl (omega (arith, e, w.1)) | inr w ↦ inr (inl (omega (arith, e, w.1))) ]
  | inr i ↦ inr (inr i)
]

lowest_least : (r p : ℕ) (ps : List ℕ) → In r (p ∷ ps) → lowest_of p ps ≤ r
lowest_least r p [] (inl e) = omega (arith, e)
lowest_least r p [] (inr i) = absurd i
lowest_least r p (q ∷ qs) (inl e) = let low = lowest_least (min p q) (min p q) qs (inl refl) in omega (arith, low, e)
lowest_least r p (q ∷ qs) (inr (inl e)) = let low = lowest_least (min p q) (min p q) qs (inl refl) in omega (arith, low, e)
lowest_least r p (q ∷ qs) (inr (inr i)) = lowest_least r (min p q) qs (inr i)

pub lowest_same : (xs ys : List ℕ) → ((r : ℕ) → In r xs → In r ys) → ((r : ℕ) → In r ys → In r xs) → lowest_broken xs ≡ lowest_broken ys
unfolding lowest_broken
lowest_same [] [] to back = refl
lowest_same [] (y ∷ ys) to back = absurd (back y (inl refl))
lowest_same (x ∷ xs) [] to back = absurd (to x (inl refl))
lowest_same (x ∷ xs) (y ∷ ys) to back =
    let a = lowest_least (lowest_of x xs) y ys (to (lowest_of x xs) (lowest_is x xs)) in
    let b = lowest_least (lowest_of y ys) x xs (back (lowest_of y ys) (lowest_is y ys)) in
    ap (λ (n : ℕ). Some (NotDatabase n)) (let same : lowest_of x xs ≡ lowest_of y ys = omega (arith, a, b) in same)

-- what is noted of a page
noted_other : (x : Image) (kind p r : ℕ) → In r (other_kind x kind p) → (r ≡ p) × (is_kind x kind p ≡ false)
unfolding other_kind
noted_other x kind p r is = by (is_kind x kind p) refl is
  where
    by : (t : Bool) → is_kind x kind p ≡ t → In r (elim t as (λ z. List ℕ) [ true ↦ [] | false ↦ p ∷ [] ]) → (r ≡ p) × (is_kind x kind p ≡ false)
    by true e i = absurd i
    by false e (inl same) = (same, e)
    by false e (inr i) = absurd i

other_noted : (x : Image) (kind p : ℕ) → is_kind x kind p ≡ false → In p (other_kind x kind p)
unfolding other_kind
other_noted x kind p other = subst (λ (t : Bool). In p (elim t as (λ z. List ℕ) [ true ↦ [] | false ↦ p ∷ [] ])) (sym other) (inl refl)

-- A draft notes the pages of that list that aren't of their kind in an image, and no other; where a page's kind is another than there, it is noted.
pub record Notes (x : Image) (d : Draft) (ps : List ℕ) : Type 0 where
  pub shaped : IsShaped d.image
  pub size : image_size d.image ≡ image_size x
  pub long : length d.image ≡ length x
  pub kinds : (kind r : ℕ) → (is_kind d.image kind r ≡ is_kind x kind r) ⊎ In r d.broken
  pub to : (r : ℕ) → In r d.broken → In r ps
  pub back : (r : ℕ) → In r ps → In r d.broken

pub notes_none : (x : Image) → IsShaped x → Notes x (drafted x) []
notes_none x shaped = record { shaped = shaped; size = refl; long = refl; kinds = λ kind r. inl refl; to = λ r is. is; back = λ r is. is }

-- a page is looked at
notes_needs : (x : Image) (d : Draft) (ps : List ℕ) (kind p : ℕ) → Notes x d ps → Notes x (needs kind p d) (other_kind x kind p ++ ps)
notes_needs x d ps kind p h = record {
  shaped = subst IsShaped (sym image) h.shaped;
  size = ap image_size image ∙ h.size;
  long = ap length image ∙ h.long;
  kinds = λ k r. elim (h.kinds k r) [
    | inl e ↦ inl (ap (λ (y : Image). is_kind y k r) image ∙ e)
    | inr i ↦ inr (subst (In r) (sym noted) (in_right r (other_kind d.image kind p) d.broken i))
  ];
  to = λ r is. elim (in_either r (other_kind d.image kind p) d.broken (subst (In r) noted is)) [
    | inl a ↦
        let e = noted_other d.image kind p r a in
        elim (h.kinds kind p) [
          | inl same ↦ in_left r (other_kind x kind p) ps (subst (λ (n : ℕ). In n (other_kind x kind p)) (sym e.0) (other_noted x kind p (sym same ∙ e.1)))
          | inr i ↦ in_right r (other_kind x kind p) ps (subst (λ (n : ℕ). In n ps) (sym e.0) (h.to p i))
        ]
    | inr b ↦ in_right r (other_kind x kind p) ps (h.to r b)
  ];
  back = λ r is. subst (In r) (sym noted) (elim (in_either r (other_kind x kind p) ps is) [
    | inl a ↦
        let e = noted_other x kind p r a in
        elim (h.kinds kind p) [
          | inl same ↦ in_left r (other_kind d.image kind p) d.broken (subst (λ (n : ℕ). In n (other_kind d.image kind p)) (sym e.0) (other_noted d.image kind p (same ∙ e.1)))
          | inr i ↦ in_right r (other_kind d.image kind p) d.broken (subst (λ (n : ℕ). In n d.broken) (sym e.0) i)
        ]
    | inr b ↦ in_right r (other_kind d.image kind p) d.broken (h.back r b)
  ]);
}
  where
    image : (needs kind p d).image ≡ d.image
    image = needs_image kind p d

    noted : (needs kind p d).broken ≡ other_kind d.image kind p ++ d.broken
    noted = needs_broken kind p d

needs_met : (kind p : ℕ) (d : Draft) → (is_kind (needs kind p d).image kind p ≡ true) ⊎ In p (needs kind p d).broken
needs_met kind p d = by (is_kind d.image kind p) refl
  where
    by : (t : Bool) → is_kind d.image kind p ≡ t → (is_kind (needs kind p d).image kind p ≡ true) ⊎ In p (needs kind p d).broken
    by true e = inl (ap (λ (y : Image). is_kind y kind p) (needs_image kind p d) ∙ e)
    by false e = inr (subst (In p) (sym (needs_broken kind p d)) (in_left p (other_kind d.image kind p) d.broken (other_noted d.image kind p e)))

-- pages of one kind are alike
kind_is : (x : Image) (kind k p : ℕ) → is_kind x kind p ≡ true → is_kind x k p ≡ (kind == k)
unfolding is_kind
kind_is x kind k p is =
    let parts = kind_parts x kind p is in
    ap (λ (t : Bool). t && kind_of (page_at x p) == k) (elim (leb_tells (suc p) (length x)) [ inl w ↦ w.0 | inr w ↦ absurd (let low = parts.0 in omega (arith, w.1, low)) ]) ∙ ap (λ (n : ℕ). n == k) parts.1

-- a page that stays keeps its kind
kind_stays : (x y : Image) (k r : ℕ) → length y ≡ length x → page_at y r ≡ page_at x r → is_kind y k r ≡ is_kind x k r
unfolding is_kind
kind_stays x y k r long same = ap (λ (n : ℕ). nat_lt r n && kind_of (page_at y r) == k) long ∙ ap (λ (q : Page). nat_lt r (length x) && kind_of q == k) same

-- a page is written, of the kind that it has or that was noted
notes_written : (x : Image) (e : Draft) (ps : List ℕ) (p kind : ℕ) (payload : List ℕ) → Notes x e ps → 1 ≤ p → p < length e.image → 16 + length payload ≤ image_size e.image → (is_kind e.image kind p ≡ true) ⊎ In p e.broken
    → Notes x (written p kind payload e) ps
unfolding written wrote
notes_written x e ps p kind payload h some low room met = record {
  shaped = written_shaped e.image y p kind some w h.shaped (omega (arith, low));
  size = written_size e.image y p kind some w ∙ h.size;
  long = long ∙ h.long;
  kinds = λ k r. elim (eqb_tells r p) [
    | inl at ↦ elim met [
      | inl is ↦ elim (h.kinds kind p) [
        | inl same ↦ inl (ap (is_kind y k) at.1 ∙ kind_is y kind k p here ∙ sym (kind_is x kind k p (sym same ∙ is)) ∙ ap (is_kind x k) (sym at.1))
        | inr i ↦ inr (subst (λ (n : ℕ). In n e.broken) (sym at.1) i)
      ]
      | inr i ↦ inr (subst (λ (n : ℕ). In n e.broken) (sym at.1) i)
    ]
    | inr ne ↦ elim (h.kinds k r) [ inl same ↦ inl (other k r ne.1 ∙ same) | inr i ↦ inr i ]
  ];
  to = h.to;
  back = h.back;
}
  where
    y : Image
    y = (written p kind payload e).image

    w : IsWritten e.image y p kind
    w = form_written e p kind payload h.shaped some (omega (arith, low)) room

    long : length y ≡ length e.image
    long = omega (arith, w.long, low)

    here : is_kind y kind p ≡ true
    here = kind_found y kind p (omega (arith, long, low)) w.here

    other : (k r : ℕ) → r ≢ p → is_kind y k r ≡ is_kind e.image k r
    other k r ne = kind_stays e.image y k r long (w.others r ne)

-- The SCN entry of page p is raised.
module _ (x : Image) (p : ℕ) (inside : scn_page_of x p < length x) where
  abbrev s : ℕ
  s = scn_page_of x p

  place_same : (d : Draft) → image_size d.image ≡ image_size x → scn_page_of d.image p ≡ s
  place_same d same = ap (λ (n : ℕ). scn_place n (p / entries_in n)) same

  notes_entry : (e : Draft) (ps : List ℕ) → Notes x e ps → (is_kind e.image scn_kind s ≡ true) ⊎ In s e.broken → Notes x (entry_written p e) ps
  unfolding entry_written
  notes_entry e ps h met = notes_written x e ps (scn_page_of e.image p) 10 (drop 16 entries) h some low room (subst (λ (n : ℕ). (is_kind e.image scn_kind n ≡ true) ⊎ In n e.broken) (sym at) met)
    where
      at : scn_page_of e.image p ≡ s
      at = place_same e h.size

      entries : Page
      entries = with_part (32 + 4 * entry_number e.image p) (bytes_of 4 (image_scn e.image)) (page_at e.image (scn_page_of e.image p))

      low : scn_page_of e.image p < length e.image
      low = let long = h.long in omega (arith, at, inside, long)

      some : 1 ≤ scn_page_of e.image p
      some = let two = scn_place-some (image_size e.image) (p / entries_in (image_size e.image)) h.shaped.size in omega (arith, two)

      facts : SizeFacts (image_size e.image)
      facts = size_facts (image_size e.image) h.shaped.size

      within : 32 + 4 * entry_number e.image p + 4 ≤ image_size e.image
      within =
          let least = entries-least (image_size e.image) h.shaped.size in
          let below : entry_number e.image p < entries_in (image_size e.image) = omega arith in
          omega (arith, facts.at_least)

      page_long : length (page_at e.image (scn_page_of e.image p)) ≡ image_size e.image
      page_long = all_at (λ page. length page ≡ image_size e.image) e.image h.shaped.sizes (scn_page_of e.image p) low

      room : 16 + length (drop 16 entries) ≤ image_size e.image
      room =
          let four = length-bytes_of 4 (image_scn e.image) in
          let long : length entries ≡ image_size e.image = length-with_part (32 + 4 * entry_number e.image p) (bytes_of 4 (image_scn e.image)) (page_at e.image (scn_page_of e.image p)) (omega (arith, page_long, within, four)) ∙ page_long in
          omega (arith, facts.at_least, long, length-drop 16 entries)

  notes_chosen : (t : Bool) (d e : Draft) (ps : List ℕ) → Notes x d ps → Notes x e ps → Notes x (elim t as (λ z. Draft) [ true ↦ d | false ↦ e ]) ps
  notes_chosen true d e ps a b = a
  notes_chosen false d e ps a b = b

  pub notes_raised : (d : Draft) (ps : List ℕ) → Notes x d ps → Notes x (raised p d) (entry_broken x p ++ ps)
  unfolding raised entry_raised has_entry
  notes_raised d ps h = by (has_entry x p) refl
    where
      same_entry : has_entry d.image p ≡ has_entry x p
      same_entry = ap (λ (n : ℕ). elim (p == 0 || is_scn_place n p) as (λ z. Bool) [ true ↦ false | false ↦ true ]) h.size

      e : Draft
      e = needs 10 (scn_page_of d.image p) d

      asked : Notes x e (other_kind x scn_kind s ++ ps)
      asked = subst (λ (n : ℕ). Notes x (needs 10 n d) (other_kind x scn_kind s ++ ps)) (sym (place_same d h.size)) (notes_needs x d ps 10 s h)

      met : (is_kind e.image scn_kind s ≡ true) ⊎ In s e.broken
      met = subst (λ (n : ℕ). (is_kind (needs 10 n d).image 10 s ≡ true) ⊎ In s (needs 10 n d).broken) (sym (place_same d h.size)) (needs_met 10 s d)

      by : (t : Bool) → has_entry x p ≡ t → Notes x (raised p d) (entry_broken x p ++ ps)
      by true f =
          subst (λ (qs : List ℕ). Notes x (raised p d) (qs ++ ps)) (sym (ap (λ (t : Bool). elim t as (λ z. List ℕ) [ true ↦ other_kind x scn_kind s | false ↦ [] ]) f))
          (subst (λ (t : Bool). Notes x (elim t as (λ z. Draft) [ true ↦ entry_raised p e | false ↦ d ]) (other_kind x scn_kind s ++ ps)) (sym (same_entry ∙ f))
          (notes_chosen (nat_lt (scn_entry e.image p) (image_scn e.image)) (entry_written p e) e (other_kind x scn_kind s ++ ps) (notes_entry e (other_kind x scn_kind s ++ ps) asked met) asked))
      by false f =
          subst (λ (qs : List ℕ). Notes x (raised p d) (qs ++ ps)) (sym (ap (λ (t : Bool). elim t as (λ z. List ℕ) [ true ↦ other_kind x scn_kind s | false ↦ [] ]) f))
          (subst (λ (t : Bool). Notes x (elim t as (λ z. Draft) [ true ↦ entry_raised p e | false ↦ d ]) ps) (sym (same_entry ∙ f)) h)

  -- and page p is written after it
  pub notes_put : (d : Draft) (ps : List ℕ) (kind : ℕ) (payload : List ℕ) → Notes x d ps → 1 ≤ p → p < length x → 16 + length payload ≤ image_size x → (is_kind (raised p d).image kind p ≡ true) ⊎ In p (raised p d).broken
      → Notes x (put p kind payload d) (entry_broken x p ++ ps)
  unfolding put
  notes_put d ps kind payload h some low room met =
      let r : Notes x (raised p d) (entry_broken x p ++ ps) = notes_raised d ps h in
      let long = r.long in
      let same = r.size in
      notes_written x (raised p d) (entry_broken x p ++ ps) p kind payload r some (omega (arith, low, long)) (omega (arith, room, same)) met

-- what was noted stays noted, and what is of its kind is so where the SCN page of another is written
pub kept_raised : (p kind q : ℕ) (d : Draft) (x : Image) (ps : List ℕ) → Notes x d ps → Notes x (raised p d) (entry_broken x p ++ ps) → (is_kind d.image kind q ≡ true) ⊎ In q d.broken → (is_kind (raised p d).image kind q ≡ true) ⊎ In q (raised p d).broken
kept_raised p kind q d x ps h r met = elim met [
  | inl is ↦ elim (h.kinds kind q) [
    | inl same ↦ elim (r.kinds kind q) [ inl again ↦ inl (again ∙ sym same ∙ is) | inr i ↦ inr i ]
    | inr i ↦ inr (r.back q (in_right q (entry_broken x p) ps (h.to q i)))
  ]
  | inr i ↦ inr (r.back q (in_right q (entry_broken x p) ps (h.to q i)))
]

-- Page q is given back.
module _ (x : Image) (shaped : IsShaped x) (q : ℕ) (some : 1 ≤ q) (below : q < length x) where
  abbrev i : ℕ
  i = inventory_of x q

  map_low : i < length x
  map_low = let most = inventory_most (image_size x) q some in omega (arith, most, below)

  map_some : 1 ≤ i
  map_some = inventory_place_some (image_size x) (q / bits_in (image_size x)) shaped.size

  entry_low : scn_page_of x i < length x
  entry_low = let least = shaped.least in elim (scn_place_before (image_size x) i shaped.size) [ inl two ↦ omega (arith, two, least) | inr le ↦ omega (arith, le, map_low) ]

  pub notes_given : (d : Draft) (ps : List ℕ) → Notes x d ps → Notes x (give_page q d) (give_broken x q ++ ps)
  unfolding set_bit
  notes_given d ps h =
      subst (λ (n : ℕ). Notes x (put n inventory_kind (drop 16 (with_bit (bit_number d.image q) 1 (page_at d.image n))) (needs 2 n d)) (give_broken x q ++ ps)) (sym at)
      (subst (Notes x (put i inventory_kind payload (needs 2 i d))) (sym (append_assoc (entry_broken x i) (other_kind x inventory_kind i) ps))
      (notes_put x i entry_low (needs 2 i d) (other_kind x inventory_kind i ++ ps) 2 payload asked map_some map_low room
      (kept_raised i inventory_kind i (needs 2 i d) x (other_kind x inventory_kind i ++ ps) asked (notes_raised x i entry_low (needs 2 i d) (other_kind x inventory_kind i ++ ps) asked) (needs_met 2 i d))))
    where
      at : inventory_of d.image q ≡ i
      at = ap (λ (n : ℕ). inventory_place n (q / bits_in n)) h.size

      payload : List ℕ
      payload = drop 16 (with_bit (bit_number d.image q) 1 (page_at d.image i))

      asked : Notes x (needs 2 i d) (other_kind x inventory_kind i ++ ps)
      asked = notes_needs x d ps 2 i h

      room : 16 + length payload ≤ image_size x
      room =
          let facts : SizeFacts (image_size x) = size_facts (image_size x) shaped.size in
          let size = h.size in
          let long = h.long in
          let page : length (page_at d.image i) ≡ image_size d.image = all_at (λ page. length page ≡ image_size d.image) d.image h.shaped.sizes i (omega (arith, map_low, long)) in
          let bits = with_bit_length (bit_number d.image q) 1 (page_at d.image i) in
          omega (arith, facts.at_least, size, page, bits, length-drop 16 (with_bit (bit_number d.image q) 1 (page_at d.image i)))

  -- Where all that it changes is of its kind, it isn't refused, and each page keeps its kind, a data page its bytes.
  module _ (none : give_broken x q ≡ []) where
    parts : (entry_broken x i ≡ []) × (other_kind x inventory_kind i ≡ [])
    parts = append_none (entry_broken x i) (other_kind x inventory_kind i) none

    map : is_kind x inventory_kind i ≡ true
    map = other_met x 2 i parts.1

    pub given_cause : mark_cause x q ≡ None
    given_cause =
        first_next (not_kind x inventory_kind i) (entry_cause x i ∷ []) (ap (λ (t : Bool). when (not t) (NotDatabase i)) map)
        ∙ first_next (entry_cause x i) [] (no_entry_broken x i parts.0) ∙ no_cause

    after : Image
    after = (give_page q (drafted x)).image

    notes : Notes x (give_page q (drafted x)) (give_broken x q ++ [])
    notes = notes_given (drafted x) [] (notes_none x shaped)

    kind_kept : (kind r : ℕ) → is_kind (give_page q (drafted x)).image kind r ≡ is_kind x kind r
    kind_kept kind r = elim (notes.kinds kind r) [ inl same ↦ same | inr found ↦ absurd (subst (λ (ps : List ℕ). In r (ps ++ [])) none (notes.to r found)) ]

    entry_there : HasItsEntry x i
    entry_there has = other_met x 10 (scn_page_of x i) (sym (ap (λ (t : Bool). elim t as (λ z. List ℕ) [ true ↦ other_kind x scn_kind (scn_page_of x i) | false ↦ [] ]) has) ∙ parts.0)

    data_kept : (r : ℕ) → is_kind x data_kind r ≡ true → page_at (give_page q (drafted x)).image r ≡ page_at x r
    unfolding set_bit
    data_kept r data_page =
        let payload : List ℕ = drop 16 (with_bit (bit_number x q) 1 (page_at x i)) in
        let facts : SizeFacts (image_size x) = size_facts (image_size x) shaped.size in
        let page : length (page_at x i) ≡ image_size x = all_at (λ page. length page ≡ image_size x) x shaped.sizes i map_low in
        let bits = with_bit_length (bit_number x q) 1 (page_at x i) in
        let room : 16 + length payload ≤ image_size x = omega (arith, facts.at_least, page, bits, length-drop 16 (with_bit (bit_number x q) 1 (page_at x i))) in
        let puts : Puts x i 2 payload (put i inventory_kind payload (drafted x)) = put_on x i 2 payload shaped entry_there map_some (omega (arith, map_low)) room in
        let other_map : r ≢ i = λ e. absurd (omega (arith, sym (kind_parts x data_kind r data_page).1 ∙ ap (λ (n : ℕ). kind_of (page_at x n)) e ∙ (kind_parts x inventory_kind i map).1)) in
        ap (λ (d : Draft). page_at (put i inventory_kind payload d).image r) (needs_found x 2 i map) ∙ puts.on.others r other_map (λ e. no_entry r data_page e)
      where
        no_entry : (r : ℕ) → is_kind x data_kind r ≡ true → r ≡ scn_page_of x i → ⊥
        no_entry r data_page e =
            let ten : is_kind x scn_kind (scn_page_of x i) ≡ true = entry_there (inventory_has x (q / bits_in (image_size x)) shaped.size) in
            absurd (omega (arith, sym (kind_parts x data_kind r data_page).1 ∙ ap (λ (n : ℕ). kind_of (page_at x n)) e ∙ (kind_parts x scn_kind (scn_page_of x i) ten).1))

-- one image in place of another: the same kinds, and the same data pages
pub record IsGivenOn (x y : Image) : Type 0 where
  pub shaped : IsShaped y
  pub size : image_size y ≡ image_size x
  pub long : length y ≡ length x
  pub kinds : (kind r : ℕ) → is_kind y kind r ≡ is_kind x kind r
  pub kept : (r : ℕ) → is_kind x data_kind r ≡ true → page_at y r ≡ page_at x r

pub given_on : (x : Image) (shaped : IsShaped x) (q : ℕ) (some : 1 ≤ q) (below : q < length x) → give_broken x q ≡ [] → IsGivenOn x (give_page q (drafted x)).image
given_on x shaped q some below none =
    let h : Notes x (give_page q (drafted x)) (give_broken x q ++ []) = notes x shaped q some below none in
    record { shaped = h.shaped; size = h.size; long = h.long; kinds = kind_kept x shaped q some below none; kept = data_kept x shaped q some below none }

-- what is of its kind there is of its kind here
pub give_by : (x y : Image) (q : ℕ) → image_size y ≡ image_size x → ((kind r : ℕ) → is_kind y kind r ≡ is_kind x kind r) → give_broken y q ≡ give_broken x q
give_by x y q size kinds =
    let at : inventory_of y q ≡ inventory_of x q = ap (λ (n : ℕ). inventory_place n (q / bits_in n)) size in
    let i : ℕ = inventory_of x q in
    ap (λ (n : ℕ). entry_broken y n ++ other_kind y inventory_kind n) at
    ∙ ap (λ (ps : List ℕ). ps ++ other_kind y inventory_kind i) (entry_by x y i size ∙ ap (λ (ps : List ℕ). elim (has_entry x i) as (λ z. List ℕ) [ true ↦ ps | false ↦ [] ]) (other_by x y 10 (scn_page_of x i) (kinds 10 (scn_page_of x i))))
    ∙ ap (λ (ps : List ℕ). entry_broken x i ++ ps) (other_by x y 2 i (kinds 2 i))

pub give_same : (x y : Image) (q : ℕ) → IsGivenOn x y → give_broken y q ≡ give_broken x q
give_same x y q on = give_by x y q on.size on.kinds
