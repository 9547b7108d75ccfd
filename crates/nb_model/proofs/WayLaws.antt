-- The pages that wait go out one by one: what is left and what reads after each of them.
use Rattle.std.proofs.Common.{◌≡◌, ◌≢◌, ◌⊎◌, inl, inr, ⊎_elim, ℕ, suc, ◌<◌, ◌≤◌, List, [], ◌∷◌, ◌++◌, length, refl, sym, ap, subst, ◌∙◌, arith, append_assoc, length-append, Bool, true, false, ◌==◌, ◌||◌, nat_eq, nat_le}
use Rattle.nb_model.proofs.Common.{list_any, true≢false, append-nil, eqb_tells, leb_tells, is_scn_place, state_of, size_of, stalled_state, merge_state, Page, Image, page_at, first_page, image_size, image_state, is_forced, with_page, Base, page, noted, on_base, Trail, bases_of, settles_at, after_stroke, HasPage, IsFirm, IsBehind, IsRewritten, IsOnTheWay, IsRead, Contains-push}
use Rattle.nb_model.proofs.SoundLaws.{with_page_length}
use Rattle.nb_model.proofs.StrokeLaws.{with_page_same, with_page_other, whole_page, stroke_page, stroke-frozen, stroke-diverted}
use Rattle.nb_model.proofs.TrailLaws.{waits_after}
use Rattle.nb_model.proofs.BehindLaws.{f_there}

-- images with the same pages are the same
pub same_pages : (a b : Image) → length a ≡ length b → ((p : ℕ) → page_at a p ≡ page_at b p) → a ≡ b
same_pages [] [] long same = refl
same_pages [] (y ∷ ys) long same = absurd (omega arith)
same_pages (x ∷ xs) [] long same = absurd (omega arith)
same_pages (x ∷ xs) (y ∷ ys) long same = ap (λ (z : Page). z ∷ xs) (same 0) ∙ ap (λ (zs : Image). y ∷ zs) (same_pages xs ys (omega arith) (λ p. same (suc p)))

-- A page after page 0 is written.
module _ (b : Base) (p : ℕ) (bytes : Page) (some : 1 ≤ p) (low : p < length b.image) where
  abbrev new : Base
  new = on_base (page p bytes) b

  put_image : (on_base (page p bytes) b).image ≡ with_page p bytes b.image
  put_image = stroke_page b p bytes ∙ ap (λ (x : Page). with_page p x b.image) (whole_page p bytes b.image some)

  pub put_same : page_at (on_base (page p bytes) b).image p ≡ bytes
  put_same = ap (λ (x : Image). page_at x p) put_image ∙ with_page_same p bytes b.image (omega arith)

  pub put_other : (q : ℕ) → q ≢ p → page_at (on_base (page p bytes) b).image q ≡ page_at b.image q
  put_other q ne = ap (λ (x : Image). page_at x q) put_image ∙ with_page_other p q bytes b.image (omega arith) ne

  pub put_first : first_page (on_base (page p bytes) b).image ≡ first_page b.image
  put_first = put_other 0 (λ (e : 0 ≡ p). absurd (omega (arith, e)))

  pub put_long : length (on_base (page p bytes) b).image ≡ length b.image
  put_long = ap length put_image ∙ with_page_length p bytes b.image (omega arith) ∙ omega arith

  -- and in it one more at most
  pub put_longer : (more : List ℕ) × ((on_base (page p bytes) b).diverted ≡ b.diverted ++ more)
  unfolding on_base noted
  put_longer = by (image_state b.image == stalled_state) (list_any (nat_eq p) b.diverted)
    where
      by : (stalled any : Bool) → (more : List ℕ) × ((elim stalled as (λ z. List ℕ) [ true ↦ elim any as (λ z. List ℕ) [ true ↦ b.diverted | false ↦ b.diverted ++ p ∷ [] ] | false ↦ b.diverted ]) ≡ b.diverted ++ more)
      by true true = ([], sym (append-nil b.diverted))
      by true false = (p ∷ [], refl)
      by false any = ([], sym (append-nil b.diverted))

-- It is the page that is seen.
module _ (t : Trail) (p : ℕ) (some : 1 ≤ p) (low : p < length t.base.image) (main : image_state t.base.image ≢ stalled_state) where
  abbrev own : Page
  own = page_at t.base.image p

  -- of a database as long as the one that is seen, with its page 0
  module _ (b : Base) (long : length b.image ≡ length t.base.image) (first : first_page b.image ≡ first_page t.base.image) where
    inside : p < length b.image
    inside = omega (arith, low, long)

    main_b : image_state b.image ≢ stalled_state
    main_b e = main (sym (ap state_of first) ∙ e)

    long_put : length (on_base (page p own) b).image ≡ length t.base.image
    long_put = put_long b p own some inside ∙ long

    first_put : first_page (on_base (page p own) b).image ≡ first_page t.base.image
    first_put = put_first b p own some inside ∙ first

    -- its page is the one that is seen, and every other as it was
    here : (q : ℕ) → q ≡ p → page_at (on_base (page p own) b).image q ≡ page_at t.base.image q
    here q e = ap (page_at (on_base (page p own) b).image) e ∙ put_same b p own some inside ∙ sym (ap (page_at t.base.image) e)

    there : (q : ℕ) → q ≢ p → page_at (on_base (page p own) b).image q ≡ page_at b.image q
    there = put_other b p own some inside

  -- An SCN page goes out.
  pub way_put : (f : Trail) (b : Base) → is_scn_place (image_size t.base.image) p ≡ true → IsOnTheWay f t b → IsOnTheWay f t (on_base (page p (page_at t.base.image p)) b)
  way_put f b at way = record {
    long = long_put b way.long way.first;
    first = first_put b way.long way.first;
    scn_pages = λ q inside_q at_q. elim (eqb_tells q p) [
      | inl w ↦ inr (here b way.long way.first q w.1)
      | inr w ↦ subst (λ (x : Page). (x ≡ page_at f.base.image q) ⊎ (x ≡ page_at t.base.image q)) (sym (there b way.long way.first q w.1)) (way.scn_pages q (below q inside_q) at_q)
    ];
    others = λ q inside_q plain. elim (eqb_tells q p) [
      | inl w ↦ absurd (true≢false (sym at ∙ ap (is_scn_place (image_size t.base.image)) (sym w.1) ∙ plain))
      | inr w ↦ ⊎_elim
          (λ (has : HasPage (bases_of f) q (page_at b.image q)). inl (subst (HasPage (bases_of f) q) (sym (there b way.long way.first q w.1)) has))
          (λ (r : IsRewritten t b q). absurd (main r.stalled))
          (way.others q (below q inside_q) plain)
    ];
    below = λ stalled. absurd (main stalled);
    frozen = stroke-frozen b p own ∙ way.frozen;
    diverted = (way.diverted.0, way.diverted.1 ∙ ap (λ (x : List ℕ). x ++ way.diverted.0) (sym same_table));
    merging = λ m. same_table ∙ way.merging m;
  }
    where
      same_table : (on_base (page p own) b).diverted ≡ b.diverted
      same_table = stroke-diverted b p own (main_b b way.long way.first)

      below : (q : ℕ) → q < length (on_base (page p own) b).image → q < length b.image
      below q low_q = omega (arith, low_q, long_put b way.long way.first, way.long)

  -- Another page goes out, where no SCN page waits.
  pub firm_put : (b : Base) → is_scn_place (image_size t.base.image) p ≡ false → t.earlier ≢ [] → IsFirm t b → IsFirm t (on_base (page p (page_at t.base.image p)) b)
  firm_put b plain unsettled left = record {
    mixed = record {
      long = long_put b left.mixed.long left.mixed.first;
      first = first_put b left.mixed.long left.mixed.first;
      each = λ q inside_q. elim (eqb_tells q p) [
        | inl w ↦ record { base = t.base; there = Contains-push t.earlier t.base; below = omega (arith, w.1, low); same = here b left.mixed.long left.mixed.first q w.1 }
        | inr w ↦ subst (HasPage (bases_of t) q) (sym (there b left.mixed.long left.mixed.first q w.1)) (left.mixed.each q (omega (arith, inside_q, long_put b left.mixed.long left.mixed.first, left.mixed.long)))
      ];
    };
    kept = λ q at. elim (eqb_tells q p) [
      | inl w ↦ here b left.mixed.long left.mixed.first q w.1
      | inr w ↦ there b left.mixed.long left.mixed.first q w.1 ∙ left.kept q at
    ];
    rest = record {
      frozen = stroke-frozen b p own ∙ left.rest.frozen;
      diverted = (left.rest.diverted.0, left.rest.diverted.1 ∙ ap (λ (x : List ℕ). x ++ left.rest.diverted.0) (sym same_table));
      merging = λ m. same_table ∙ left.rest.merging m;
      whole = λ none. absurd (unsettled none);
    };
  }
    where
      same_table : (on_base (page p own) b).diverted ≡ b.diverted
      same_table = stroke-diverted b p own (main_b b left.mixed.long left.mixed.first)

  -- What reads then: the page waits no longer.
  pub read_put : (f : Trail) (waits later : ℕ → Bool) (r : Base) → ((q : ℕ) → q ≢ p → later q ≡ waits q) → later p ≡ false → IsRead f t waits r → IsRead f t later (on_base (page p (page_at t.base.image p)) r)
  read_put f waits later r as_before gone is = record {
    long = long_put r is.long is.first;
    first = first_put r is.long is.first;
    waiting = λ q waits_q. elim (eqb_tells q p) [
      | inl w ↦ absurd (true≢false (sym waits_q ∙ ap later w.1 ∙ gone))
      | inr w ↦ there r is.long is.first q w.1 ∙ is.waiting q (sym (as_before q w.1) ∙ waits_q)
    ];
    others = λ q none. elim (eqb_tells q p) [
      | inl w ↦ here r is.long is.first q w.1
      | inr w ↦ there r is.long is.first q w.1 ∙ is.others q (sym (as_before q w.1) ∙ none)
    ];
    frozen = stroke-frozen r p own ∙ is.frozen;
    diverted = stroke-diverted r p own (main_b r is.long is.first) ∙ is.diverted;
  }

-- The way begins where the files are behind,
pub way_start : (f t : Trail) (b : Base) → IsBehind f t → image_state t.base.image ≢ stalled_state → IsFirm f b → IsOnTheWay f t b
way_start f t b is main left = record {
  long = left.mixed.long ∙ is.long;
  first = left.mixed.first ∙ is.first;
  scn_pages = λ p low at. inl (left.kept p (ap (λ (n : ℕ). is_scn_place n p) (ap size_of is.first) ∙ at));
  others = λ p low plain. inl (left.mixed.each p low);
  below = λ stalled. absurd (main stalled);
  frozen = left.rest.frozen;
  diverted = left.rest.diverted;
  merging = λ m. left.rest.merging (ap state_of is.first ∙ m);
}

pub read_start : (f t : Trail) (waits : ℕ → Bool) → IsBehind f t → f.base.diverted ≡ t.base.diverted → ((p : ℕ) → waits p ≡ false → page_at f.base.image p ≡ page_at t.base.image p) → IsRead f t waits f.base
read_start f t waits is table clean = record { long = is.long; first = is.first; waiting = λ p w. refl; others = clean; frozen = is.frozen; diverted = table }

-- where no SCN page waits what reads may be left so,
pub read_firm : (f t : Trail) (waits : ℕ → Bool) (r : Base) → IsBehind f t → t.earlier ≢ [] → IsRead f t waits r → ((p : ℕ) → is_scn_place (image_size t.base.image) p ≡ true → waits p ≡ false) → IsFirm t r
read_firm f t waits r behind unsettled is none = record {
  mixed = record { long = is.long; first = is.first; each = λ p low. by p low (waits p) refl };
  kept = λ p at. is.others p (none p at);
  rest = record {
    frozen = is.frozen;
    diverted = ([], sym is.diverted ∙ sym (append-nil r.diverted));
    merging = λ m. is.diverted;
    whole = λ nothing. absurd (unsettled nothing);
  };
}
  where
    by : (p : ℕ) → p < length r.image → (u : Bool) → waits p ≡ u → HasPage (bases_of t) p (page_at r.image p)
    by p low true w = record { base = f.base; there = f_there f t behind; below = omega (arith, low, is.long, behind.long); same = is.waiting p w }
    by p low false w = record { base = t.base; there = Contains-push t.earlier t.base; below = omega (arith, low, is.long); same = is.others p w }

-- and where none waits it is what is seen.
pub read_done : (f t : Trail) (waits : ℕ → Bool) (r : Base) → IsRead f t waits r → ((p : ℕ) → waits p ≡ false) → r ≡ t.base
read_done f t waits r is none =
    let image : r.image ≡ t.base.image = same_pages r.image t.base.image is.long (λ p. is.others p (none p)) in
    λ i. record { image = image i; frozen = is.frozen i; diverted = is.diverted i }

-- A page waits: the files stay behind.
module _ (f t : Trail) (p : ℕ) (bytes : Page) (is : IsBehind f t) (some : 1 ≤ p) (low : p < length t.base.image) (loose : is_forced t.base.image ≡ false) where
  not_settled : settles_at t (page p bytes) ≡ false
  unfolding settles_at
  not_settled = by t.earlier (is_forced t.base.image) (p == 0) (nat_le (length t.base.image) p) loose (some_page p some) (elim (leb_tells (length t.base.image) p) [ inl w ↦ absurd (omega (arith, w.1, low)) | inr w ↦ w.0 ])
    where
      some_page : (p : ℕ) → 1 ≤ p → (p == 0) ≡ false
      some_page p some = elim (eqb_tells p 0) [ inl w ↦ absurd (omega (arith, some, w.1)) | inr w ↦ w.0 ]

      by : (bases : List Base) (forced first longer : Bool) → forced ≡ false → first ≡ false → longer ≡ false
          → elim (elim bases as (λ z. Bool) [ [] ↦ true | b ∷ bs ↦ false ]) as (λ z. Bool) [ true ↦ forced || (first || longer) | false ↦ false ] ≡ false
      by [] forced first longer e0 e1 e2 = ap (λ (x : Bool). x || (first || longer)) e0 ∙ ap (λ (x : Bool). x || longer) e1 ∙ e2
      by (b ∷ bs) forced first longer e0 e1 e2 = refl

  pub waits_is : after_stroke (page p bytes) t ≡ record { base = on_base (page p bytes) t.base; earlier = bases_of t }
  waits_is = waits_after (page p bytes) t not_settled

  pub wait_behind : IsBehind f (after_stroke (page p bytes) t)
  wait_behind = subst (IsBehind f) (sym waits_is) (record {
    before = is.before;
    behind = is.behind ++ new ∷ [];
    part = ap (λ (bs : List Base). bs ++ new ∷ []) is.part ∙ append_assoc is.before (bases_of f ++ is.behind) (new ∷ []) ∙ ap (λ (bs : List Base). is.before ++ bs) (append_assoc (bases_of f) is.behind (new ∷ []));
    long = is.long ∙ sym (put_long t.base p bytes some low);
    first = is.first ∙ sym first;
    frozen = is.frozen ∙ sym (stroke-frozen t.base p bytes);
    diverted = (
      is.diverted.0 ++ longer.0,
      longer.1 ∙ ap (λ (x : List ℕ). x ++ longer.0) is.diverted.1 ∙ append_assoc f.base.diverted is.diverted.0 longer.0,
    );
    merging = λ m.
        let merges : image_state t.base.image ≡ merge_state = sym (ap state_of first) ∙ m in
        is.merging merges ∙ sym (stroke-diverted t.base p bytes (λ stalled. absurd (omega (arith, stalled, merges))));
  })
    where
      new : Base
      new = on_base (page p bytes) t.base

      first : first_page (on_base (page p bytes) t.base).image ≡ first_page t.base.image
      first = put_first t.base p bytes some low

      longer : (more : List ℕ) × ((on_base (page p bytes) t.base).diverted ≡ t.base.diverted ++ more)
      longer = put_longer t.base p bytes some low

  -- it isn't settled then
  pub wait_unsettled : (after_stroke (page p bytes) t).earlier ≢ []
  wait_unsettled none = absurd (omega (arith, ap length (sym (ap (λ (u : Trail). u.earlier) waits_is) ∙ none), length-append t.earlier (t.base ∷ [])))

-- the files are not behind themselves
pub behind_itself : (t : Trail) → IsBehind t t
behind_itself t = record {
  before = [];
  behind = [];
  part = sym (append-nil (bases_of t));
  long = refl;
  first = refl;
  frozen = refl;
  diverted = ([], sym (append-nil t.base.diverted));
  merging = λ m. refl;
}
