-- A write of a page is its SCN entry first, where that is raised, and then the page.
use Rattle.std.proofs.Common.{◌≡◌, ◌≢◌, inl, inr, ℕ, zero, suc, ◌+◌, ◌*◌, ◌/◌, ◌<◌, ◌≤◌, List, [], ◌∷◌, ◌++◌, length, drop, refl, sym, ap, subst, ◌∙◌, arith, Bool, true, false, ◌&&◌, ◌||◌, ◌==◌, not, nat_lt, Some, None}
use Rattle.nb_alloc.proofs.Common.{and_parts, and_left, or_left, or_right, or_from, ltb-true, lt-ltb, eq-eqb, ne_eqb, leb_tells, length-set, bytes_of, with_part, entries_in, scn_place, is_scn_place, most_pages, kind_of, stamped, scn_kind, Refusal, NotDatabase, Full, Page, Image, page_at, image_size, image_scn, with_page, Base, Stroke, page, on_base, base_after, merged_page, Draft, drafted, old_page, wrote, written, is_kind, needs, scn_page_of, entry_number, scn_entry, has_entry, entry_written, entry_raised, raised, put, Cause, when, not_kind, lowest_broken, not_of_form, no_room, stroke_page, stroke_other, kind_parts, entry_cause, must_raise, raise_stroke, raise_strokes, put_stroke, needs_found, is_so, page_image, none_some}
use Rattle.nb_alloc.proofs.BehindLaws.{page_alone}

-- a page stroke below the length keeps the length
pub length-with_page : (p : ℕ) (bytes : Page) (image : Image) → p < length image → length (with_page p bytes image) ≡ length image
unfolding with_page
length-with_page p bytes image low = elim (leb_tells (suc p) (length image)) [
  | inl w ↦ rw (w.0, with_page) (length-set image p bytes)
  | inr w ↦ absurd (omega (arith, low, w.1))
]

pub stroke_long : (b : Base) (p : ℕ) (bytes : Page) → p < length b.image → length (on_base (page p bytes) b).image ≡ length b.image
stroke_long b p bytes low = ap length (stroke_page b p bytes) ∙ length-with_page p (merged_page p bytes b.image) b.image low

-- no SCN page stands at page 0
pub scn_place-some : (size k : ℕ) → 0 < entries_in size → 0 < scn_place size k
scn_place-some size zero some = omega arith
scn_place-some size (suc k) some = omega (arith, some)

-- what holds where the SCN entry of a page has to be raised and may be
pub record MayRaise (image : Image) (p : ℕ) : Type 0 where
  pub has : has_entry image p ≡ true
  pub is : is_kind image scn_kind (scn_page_of image p) ≡ true
  pub low : scn_page_of image p < length image
  pub kind : kind_of (page_at image (scn_page_of image p)) ≡ scn_kind
  pub below : scn_entry image p < image_scn image

pub may_raise : (image : Image) (p : ℕ) → entry_cause image p ≡ None → must_raise image p ≡ true → MayRaise image p
may_raise image p none must =
    let both = and_parts (has_entry image p) (nat_lt (scn_entry image p) (image_scn image)) must in
    let is : is_kind image scn_kind (scn_page_of image p) ≡ true = is_so (is_kind image scn_kind (scn_page_of image p)) (NotDatabase (scn_page_of image p)) (sym (there both.0) ∙ none) in
    let parts = kind_parts image scn_kind (scn_page_of image p) is in
    record { has = both.0; is = is; low = parts.0; kind = parts.1; below = ltb-true (scn_entry image p) (image_scn image) both.1 }
  where
    there : has_entry image p ≡ true → entry_cause image p ≡ not_kind image scn_kind (scn_page_of image p)
    there e = ap (λ (t : Bool). elim t as (λ z. Cause) [ true ↦ not_kind image scn_kind (scn_page_of image p) | false ↦ None ]) e

-- what stands after the head of the SCN page then
abbrev raised_payload : Image → ℕ → List ℕ
raised_payload image p = drop 16 (with_part (32 + 4 * entry_number image p) (bytes_of 4 (image_scn image)) (page_at image (scn_page_of image p)))

-- the strokes of the raise, by whether it has to be
pub raised_once : (image : Image) (p : ℕ) → must_raise image p ≡ true → raise_strokes image p ≡ raise_stroke image p ∷ []
raised_once image p must = ap (λ (t : Bool). elim t as (λ z. List Stroke) [ true ↦ raise_stroke image p ∷ [] | false ↦ [] ]) must

pub raised_not : (image : Image) (p : ℕ) → must_raise image p ≡ false → raise_strokes image p ≡ []
raised_not image p must = ap (λ (t : Bool). elim t as (λ z. List Stroke) [ true ↦ raise_stroke image p ∷ [] | false ↦ [] ]) must

-- what the raise keeps, where the page is no SCN page: the length, page 0 and the page itself
pub record Keeps (image : Image) (p : ℕ) (after : Image) : Type 0 where
  pub long : length after ≡ length image
  pub first : page_at after 0 ≡ page_at image 0
  pub same : page_at after p ≡ page_at image p

pub one_raise_keeps : (b : Base) (p : ℕ) → kind_of (page_at b.image p) ≢ scn_kind → 0 < entries_in (image_size b.image) → MayRaise b.image p → Keeps b.image p (on_base (raise_stroke b.image p) b).image
one_raise_keeps b p plain some may =
    let q : ℕ = scn_page_of b.image p in
    let low : q ≤ length b.image = omega (arith, may.low) in
    let front : 0 < q = scn_place-some (image_size b.image) (p / entries_in (image_size b.image)) some in
    let other : p ≢ q = λ e. plain (ap (λ n. kind_of (page_at b.image n)) e ∙ may.kind) in
    record {
      long = stroke_long b q _ may.low;
      first = stroke_other b q 0 _ low (λ (e : 0 ≡ q). absurd (omega (arith, e, front)));
      same = stroke_other b q p _ low other;
    }

pub raise_keeps : (b : Base) (p : ℕ) → entry_cause b.image p ≡ None → kind_of (page_at b.image p) ≢ scn_kind → 0 < entries_in (image_size b.image) → Keeps b.image p (base_after b (raise_strokes b.image p)).image
unfolding base_after
raise_keeps b p none plain some = by (must_raise b.image p) refl
  where
    after : List Stroke → Type 0
    after ss = Keeps b.image p (base_after b ss).image

    by : (t : Bool) → must_raise b.image p ≡ t → after (raise_strokes b.image p)
    by false must = subst after (sym (raised_not b.image p must)) (record { long = refl; first = refl; same = refl })
    by true must = subst after (sym (raised_once b.image p must)) (one_raise_keeps b p plain some (may_raise b.image p none must))

-- so the page is written after the raise as it would be before
pub put_stroke-after : (image after : Image) (p kind : ℕ) (payload : List ℕ) → Keeps image p after → put_stroke after p kind payload ≡ put_stroke image p kind payload
put_stroke-after image after p kind payload keeps =
    ap (λ (old : Page). page p (stamped old kind payload (image_scn after) p)) keeps.same
    ∙ ap (λ (first : Page). page p (stamped (page_at image p) kind payload (Rattle.nb_fields.specs.Header.scn_of first) p)) keeps.first

-- the page's bytes before a stroke, where it is below the length
pub old_below : (p : ℕ) (image : Image) → p < length image → old_page p image ≡ page_at image p
unfolding old_page
old_below p image low = rw (lt-ltb p (length image) low, old_page) refl

-- which pages have an entry, by the test of the place
entry_by : (image : Image) (p : ℕ) (t : Bool) → (p == 0 || is_scn_place (image_size image) p) ≡ t → has_entry image p ≡ not t
unfolding has_entry
entry_by image p true e = ap (λ (t : Bool). elim t as (λ z. Bool) [ true ↦ false | false ↦ true ]) e
entry_by image p false e = ap (λ (t : Bool). elim t as (λ z. Bool) [ true ↦ false | false ↦ true ]) e

pub first-without : (image : Image) (p : ℕ) → p ≡ 0 → has_entry image p ≡ false
first-without image p e = entry_by image p true (or_left (p == 0) (is_scn_place (image_size image) p) (eq-eqb p 0 e))

pub scn_page-without : (image : Image) (p size : ℕ) → size ≡ image_size image → is_scn_place size p ≡ true → has_entry image p ≡ false
scn_page-without image p size same is = entry_by image p true (or_right (p == 0) (is_scn_place (image_size image) p) (subst (λ n. is_scn_place n p ≡ true) same is))

pub other-with : (image : Image) (p size : ℕ) → size ≡ image_size image → p ≢ 0 → is_scn_place size p ≡ false → has_entry image p ≡ true
other-with image p size same some is = entry_by image p false (or_from (p == 0) (is_scn_place (image_size image) p) (ne_eqb p 0 some) (subst (λ n. is_scn_place n p ≡ false) same is))

-- a page without an entry is never refused for it, nor raised
pub no_entry_cause : (image : Image) (p : ℕ) → has_entry image p ≡ false → entry_cause image p ≡ None
no_entry_cause image p e = ap (λ (t : Bool). elim t as (λ z. Cause) [ true ↦ not_kind image scn_kind (scn_page_of image p) | false ↦ None ]) e

pub entry_cause-is : (image : Image) (p : ℕ) → has_entry image p ≡ true → entry_cause image p ≡ not_kind image scn_kind (scn_page_of image p)
entry_cause-is image p e = ap (λ (t : Bool). elim t as (λ z. Cause) [ true ↦ not_kind image scn_kind (scn_page_of image p) | false ↦ None ]) e

pub not_raised : (image : Image) (p : ℕ) → has_entry image p ≡ false → must_raise image p ≡ false
not_raised image p e = and_left (has_entry image p) (nat_lt (scn_entry image p) (image_scn image)) e

pub must_raise-is : (image : Image) (p : ℕ) → has_entry image p ≡ true → must_raise image p ≡ nat_lt (scn_entry image p) (image_scn image)
must_raise-is image p e = ap (λ (t : Bool). t && nat_lt (scn_entry image p) (image_scn image)) e

-- The draft after the raise is that of the database after it.
pub record Raises (b : Base) (p : ℕ) (d : Draft) : Type 0 where
  pub strokes : d.strokes ≡ raise_strokes b.image p
  pub broken : d.broken ≡ []
  pub full : d.full ≡ false
  pub image : d.image ≡ (base_after b (raise_strokes b.image p)).image

-- the forms, by the tests that they make
module _ (image : Image) (p : ℕ) where
  abbrev q : ℕ
  q = scn_page_of image p

  abbrev before : Draft
  before = drafted image

  abbrev refused : Draft
  refused = record { image = image; strokes = []; broken = q ∷ []; full = false }

  raised-none : has_entry image p ≡ false → raised p before ≡ before
  unfolding raised
  raised-none e = ap (λ (t : Bool). elim t as (λ z. Draft) [ true ↦ entry_raised p (needs 10 q before) | false ↦ before ]) e

  raised-one : has_entry image p ≡ true → raised p before ≡ entry_raised p (needs 10 q before)
  unfolding raised
  raised-one e = ap (λ (t : Bool). elim t as (λ z. Draft) [ true ↦ entry_raised p (needs 10 q before) | false ↦ before ]) e

  needs-broken : is_kind image scn_kind q ≡ false → needs 10 q before ≡ refused
  unfolding needs
  needs-broken e = ap (λ (t : Bool). elim t as (λ z. Draft) [ true ↦ before | false ↦ refused ]) e

  entry_raised-done : nat_lt (scn_entry image p) (image_scn image) ≡ true → entry_raised p before ≡ entry_written p before
  unfolding entry_raised
  entry_raised-done e = ap (λ (t : Bool). elim t as (λ z. Draft) [ true ↦ entry_written p before | false ↦ before ]) e

  entry_raised-not : nat_lt (scn_entry image p) (image_scn image) ≡ false → entry_raised p before ≡ before
  unfolding entry_raised
  entry_raised-not e = ap (λ (t : Bool). elim t as (λ z. Draft) [ true ↦ entry_written p before | false ↦ before ]) e

  entry_raised-broken : (d : Draft) → (entry_raised p d).broken ≡ d.broken
  unfolding entry_raised entry_written written wrote
  entry_raised-broken d = by (nat_lt (scn_entry d.image p) (image_scn d.image))
    where
      by : (t : Bool) → (elim t as (λ z. Draft) [ true ↦ entry_written p d | false ↦ d ]).broken ≡ d.broken
      by true = refl
      by false = refl

no_stroke : (b : Base) → (base_after b []).image ≡ b.image
unfolding base_after
no_stroke b = refl

-- the entry isn't raised
kept_draft : (b : Base) (p : ℕ) → must_raise b.image p ≡ false → Raises b p (drafted b.image)
kept_draft b p must =
    let none : raise_strokes b.image p ≡ [] = raised_not b.image p must in
    record { strokes = sym none; broken = refl; full = refl; image = sym (no_stroke b) ∙ ap (λ (ss : List Stroke). (base_after b ss).image) (sym none) }

-- it is raised
written_draft : (b : Base) (p : ℕ) → entry_cause b.image p ≡ None → must_raise b.image p ≡ true → Raises b p (entry_written p (drafted b.image))
unfolding entry_written written wrote
written_draft b p none must =
    let may = may_raise b.image p none must in
    let q : ℕ = scn_page_of b.image p in
    let payload : List ℕ = raised_payload b.image p in
    let old : old_page q b.image ≡ page_at b.image q = old_below q b.image may.low in
    let one : raise_strokes b.image p ≡ raise_stroke b.image p ∷ [] = raised_once b.image p must in
    record {
      strokes = ap (λ (x : Page). page q (stamped x scn_kind payload (image_scn b.image) q) ∷ []) old ∙ sym one;
      broken = refl;
      full = refl;
      image = ap (λ (x : Page). with_page q (merged_page q (stamped x scn_kind payload (image_scn b.image) q) b.image) b.image) old
          ∙ sym (page_image b q (stamped (page_at b.image q) scn_kind payload (image_scn b.image) q)) ∙ ap (λ (ss : List Stroke). (base_after b ss).image) (sym one);
    }

pub draft_raised : (b : Base) (p : ℕ) → entry_cause b.image p ≡ None → Raises b p (raised p (drafted b.image))
draft_raised b p none = by (has_entry b.image p) (nat_lt (scn_entry b.image p) (image_scn b.image)) refl refl
  where
    is : (has_entry b.image p ≡ true) → is_kind b.image scn_kind (scn_page_of b.image p) ≡ true
    is e = is_so (is_kind b.image scn_kind (scn_page_of b.image p)) (NotDatabase (scn_page_of b.image p)) (sym (entry_cause-is b.image p e) ∙ none)

    by : (has low : Bool) → has_entry b.image p ≡ has → nat_lt (scn_entry b.image p) (image_scn b.image) ≡ low → Raises b p (raised p (drafted b.image))
    by false low e f = subst (Raises b p) (sym (raised-none b.image p e)) (kept_draft b p (not_raised b.image p e))
    by true false e f =
        subst (Raises b p) (sym (raised-one b.image p e ∙ ap (entry_raised p) (needs_found b.image 10 (scn_page_of b.image p) (is e)) ∙ entry_raised-not b.image p f))
        (kept_draft b p (must_raise-is b.image p e ∙ f))
    by true true e f =
        subst (Raises b p) (sym (raised-one b.image p e ∙ ap (entry_raised p) (needs_found b.image 10 (scn_page_of b.image p) (is e)) ∙ entry_raised-done b.image p f))
        (written_draft b p none (must_raise-is b.image p e ∙ f))

pub none_broken : lowest_broken [] ≡ None
unfolding lowest_broken
none_broken = refl

-- what the short form of a page finds and does
module _ (b : Base) (p kind : ℕ) (payload : List ℕ) where
  abbrev made : Draft
  made = put p kind payload (drafted b.image)

  abbrev so_far : Draft
  so_far = raised p (drafted b.image)

  abbrev last : Stroke
  last = page p (stamped (old_page p so_far.image) kind payload (image_scn so_far.image) p)

  made_strokes : made.strokes ≡ so_far.strokes ++ last ∷ []
  unfolding put written wrote
  made_strokes = refl

  made_broken : made.broken ≡ so_far.broken
  unfolding put written wrote
  made_broken = refl

  made_full : made.full ≡ so_far.full
  unfolding put written wrote
  made_full = refl

  -- its strokes
  pub put_strokes : p < length b.image → kind_of (page_at b.image p) ≢ scn_kind → 0 < entries_in (image_size b.image) → entry_cause b.image p ≡ None
      → made.strokes ≡ raise_strokes b.image p ++ put_stroke b.image p kind payload ∷ []
  put_strokes low plain some none =
      let d = draft_raised b p none in
      let keeps : Keeps b.image p so_far.image = subst (Keeps b.image p) (sym d.image) (raise_keeps b p none plain some) in
      let old : old_page p so_far.image ≡ page_at so_far.image p = old_below p so_far.image (omega (arith, low, keeps.long)) in
      made_strokes ∙ ap (λ (ss : List Stroke). ss ++ last ∷ []) d.strokes
      ∙ ap (λ (x : Page). raise_strokes b.image p ++ page p (stamped x kind payload (image_scn so_far.image) p) ∷ []) old
      ∙ ap (λ (s : Stroke). raise_strokes b.image p ++ s ∷ []) (put_stroke-after b.image so_far.image p kind payload keeps)

  -- it finds nothing broken, and asks for no page
  pub put_form : entry_cause b.image p ≡ None → not_of_form made ≡ None
  put_form none = ap lowest_broken (made_broken ∙ (draft_raised b p none).broken) ∙ none_broken

  pub put_room : entry_cause b.image p ≡ None → no_room made ≡ None
  put_room none = ap (λ (t : Bool). when t (Full most_pages)) (made_full ∙ (draft_raised b p none).full)

  -- or its SCN page isn't of the form
  pub put_refused : (r : Refusal) → entry_cause b.image p ≡ Some r → not_of_form made ≡ Some r
  put_refused r cause = by (has_entry b.image p) (is_kind b.image scn_kind q) refl refl
    where
      q : ℕ
      q = scn_page_of b.image p

      by : (has is : Bool) → has_entry b.image p ≡ has → is_kind b.image scn_kind q ≡ is → not_of_form made ≡ Some r
      by false is e f = absurd (none_some r (sym (no_entry_cause b.image p e) ∙ cause))
      by true true e f = absurd (none_some r (ap (λ (t : Bool). when (not t) (NotDatabase q)) (sym f) ∙ sym (entry_cause-is b.image p e) ∙ cause))
      by true false e f =
          ap lowest_broken (made_broken ∙ ap (λ (d : Draft). d.broken) (raised-one b.image p e) ∙ entry_raised-broken b.image p _ ∙ ap (λ (d : Draft). d.broken) (needs-broken b.image p f))
          ∙ page_alone q ∙ ap (λ (t : Bool). when (not t) (NotDatabase q)) (sym f) ∙ sym (entry_cause-is b.image p e) ∙ cause
