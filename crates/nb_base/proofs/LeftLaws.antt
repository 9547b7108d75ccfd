-- What a crash may leave goes on by a page write: by itself, and where the write is lost.
use Rattle.std.proofs.Common.{◌≡◌, ◌≢◌, ◌⊎◌, inl, inr, ⊎_elim, ℕ, zero, suc, ◌+◌, List, [], ◌∷◌, ◌++◌, length, take, drop, refl, sym, ap, subst, ◌∙◌, arith, append_assoc, length-append, Bool, true, false, ◌||◌, ◌==◌, nat_eq, nat_le, Option, Some, None, max}
use Rattle.nb_base.proofs.Common.{list_any, true≢false, eqb_tells, take-append-drop, append-nil, is_scn_place, state_of, size_of, stalled_state, merge_state, Page, Image, page_at, first_page, image_size, image_state, is_forced, with_page, Base, Stroke, page, on_base, merged_page, noted, entry_for, Trail, bases_of, is_synced, settles_at, after_stroke, IsMixture, IsFirm, must_sync, same-number, with_page_length, with_page_same, with_page_other, itself_firm, trail_base, waits_after, Fits, not_le, some_none, stroke_page, stroke-frozen, stroke-diverted}
use Rattle.nb_model.proofs.MixtureWrites.{mixture_put, mixture_lost}
use Rattle.nb_base.proofs.OwnedLaws.{entry-front}

-- a page that fits is written as it is
pub merged_fits : (p : ℕ) (bytes : Page) (image : Image) → (p ≡ 0 → take 64 bytes ≡ take 64 (first_page image)) → merged_page p bytes image ≡ bytes
unfolding merged_page
merged_fits zero bytes image front = ap (λ (x : Page). x ++ drop 64 bytes) (sym (front refl)) ∙ take-append-drop 64 bytes
merged_fits (suc p) bytes image front = refl

-- A page stroke.
module _ (b : Base) (p : ℕ) (bytes : Page) where
  pub stroke-stalled : image_state b.image ≡ stalled_state → (on_base (page p bytes) b).diverted ≡ noted p b.diverted
  unfolding on_base
  stroke-stalled is = elim (eqb_tells (image_state b.image) 1) [
    | inl w ↦ ap (λ (t : Bool). elim t as (λ z. List ℕ) [ true ↦ noted p b.diverted | false ↦ b.diverted ]) w.0
    | inr w ↦ absurd (w.1 is)
  ]

-- Entries that are noted.
entry-any : (p : ℕ) (table : List ℕ) (k : ℕ) → entry_for p table ≡ Some k → list_any (nat_eq p) table ≡ true
unfolding entry_for
entry-any p [] k e = absurd (some_none {X = ℕ} _ (sym e))
entry-any p (q ∷ qs) k e = elim (eqb_tells p q) [
  | inl w ↦ ap (λ (t : Bool). t || list_any (nat_eq p) qs) w.0
  | inr w ↦ ap (λ (t : Bool). t || list_any (nat_eq p) qs) w.0 ∙ by (entry-any p qs) (entry_for p qs) refl (sym (ap (λ (t : Bool). elim t as (λ z. Option ℕ) [ true ↦ Some 0 | false ↦ elim (entry_for p qs) [ None ↦ None | Some i ↦ Some (suc i) ] ]) w.0) ∙ e)
]
  where
    by : ((i : ℕ) → entry_for p qs ≡ Some i → list_any (nat_eq p) qs ≡ true) → (x : Option ℕ) → entry_for p qs ≡ x → elim (entry_for p qs) as (λ z. Option ℕ) [ None ↦ None | Some i ↦ Some (suc i) ] ≡ Some k → list_any (nat_eq p) qs ≡ true
    by so_far None is h = absurd (some_none {X = ℕ} _ (sym h ∙ ap (λ (y : Option ℕ). elim y as (λ z. Option ℕ) [ None ↦ None | Some i ↦ Some (suc i) ]) is))
    by so_far (Some i) is h = so_far i is

none-any : (p : ℕ) (table : List ℕ) → entry_for p table ≡ None → list_any (nat_eq p) table ≡ false
unfolding entry_for
none-any p [] e = refl
none-any p (q ∷ qs) e = elim (eqb_tells p q) [
  | inl w ↦ absurd (some_none {X = ℕ} _ (sym (ap (λ (t : Bool). elim t as (λ z. Option ℕ) [ true ↦ Some 0 | false ↦ elim (entry_for p qs) [ None ↦ None | Some i ↦ Some (suc i) ] ]) w.0) ∙ e))
  | inr w ↦ ap (λ (t : Bool). t || list_any (nat_eq p) qs) w.0 ∙ none-any p qs (by (entry_for p qs) refl (sym (ap (λ (t : Bool). elim t as (λ z. Option ℕ) [ true ↦ Some 0 | false ↦ elim (entry_for p qs) [ None ↦ None | Some i ↦ Some (suc i) ] ]) w.0) ∙ e))
]
  where
    by : (x : Option ℕ) → entry_for p qs ≡ x → elim (entry_for p qs) as (λ z. Option ℕ) [ None ↦ None | Some i ↦ Some (suc i) ] ≡ None → entry_for p qs ≡ None
    by None is h = is
    by (Some i) is h = absurd (some_none {X = ℕ} _ (sym (ap (λ (y : Option ℕ). elim y as (λ z. Option ℕ) [ None ↦ None | Some i ↦ Some (suc i) ]) is) ∙ h))

pub noted-there : (p : ℕ) (table : List ℕ) (k : ℕ) → entry_for p table ≡ Some k → noted p table ≡ table
unfolding noted
noted-there p table k e = ap (λ (t : Bool). elim t as (λ z. List ℕ) [ true ↦ table | false ↦ table ++ p ∷ [] ]) (entry-any p table k e)

pub noted-new : (p : ℕ) (table : List ℕ) → entry_for p table ≡ None → noted p table ≡ table ++ p ∷ []
unfolding noted
noted-new p table e = ap (λ (t : Bool). elim t as (λ z. List ℕ) [ true ↦ table | false ↦ table ++ p ∷ [] ]) (none-any p table e)

noted-longer : (p : ℕ) (table : List ℕ) → (more : List ℕ) × (noted p table ≡ table ++ more)
unfolding noted
noted-longer p table = by (list_any (nat_eq p) table)
  where
    by : (t : Bool) → (more : List ℕ) × (elim t as (λ z. List ℕ) [ true ↦ table | false ↦ table ++ p ∷ [] ] ≡ table ++ more)
    by true = ([], sym (append-nil table))
    by false = (p ∷ [], refl)

-- A stroke that settles has nothing waiting before it, and one that isn't synced doesn't.
settled_none : (bases : List Base) (x : Bool) → elim (elim bases as (λ z. Bool) [ [] ↦ true | b ∷ bs ↦ false ]) as (λ z. Bool) [ true ↦ x | false ↦ false ] ≡ true → bases ≡ []
settled_none [] x e = refl
settled_none (b ∷ bs) x e = absurd (true≢false (sym e))

waiting_false : (bases : List Base) (x : Bool) → x ≡ false → elim (elim bases as (λ z. Bool) [ [] ↦ true | b ∷ bs ↦ false ]) as (λ z. Bool) [ true ↦ x | false ↦ false ] ≡ false
waiting_false [] x e = e
waiting_false (b ∷ bs) x e = refl

pub settles_none : (t : Trail) (p : ℕ) (bytes : Page) → settles_at t (page p bytes) ≡ true → t.earlier ≡ []
unfolding settles_at
settles_none t p bytes e = settled_none t.earlier (is_synced t.base.image p) e

waits_none : (t : Trail) (p : ℕ) (bytes : Page) → is_synced t.base.image p ≡ false → settles_at t (page p bytes) ≡ false
unfolding settles_at
waits_none t p bytes e = waiting_false t.earlier (is_synced t.base.image p) e

-- a write that isn't synced is of a page below the length, and neither of page 0 nor of an SCN page
may_stay : (forced first scn longer : Bool) → (forced || (first || scn) || longer) ≡ false → ((forced || (first || longer)) ≡ false) × (first ≡ false) × (scn ≡ false) × (longer ≡ false)
may_stay true first scn longer e = absurd (true≢false e)
may_stay false true scn longer e = absurd (true≢false e)
may_stay false false true longer e = absurd (true≢false e)
may_stay false false false longer e = (e, refl, refl, e)

some_base : (xs : List Base) (x : Base) → xs ++ x ∷ [] ≡ [] → ⊥
some_base xs x e = absurd (omega (arith, ap length e, length-append xs (x ∷ [])))

-- One page stroke on what was seen.
module _ (t : Trail) (p : ℕ) (bytes : Page) (fits : Fits p bytes t.base.image) where
  abbrev now : Image
  now = t.base.image

  abbrev s : Stroke
  s = page p bytes

  abbrev later : Trail
  later = after_stroke s t

  abbrev new : Image
  new = with_page p bytes now

  new_is : (after_stroke s t).base.image ≡ with_page p bytes now
  new_is = ap (λ (b : Base). b.image) (trail_base s t) ∙ stroke_page t.base p bytes ∙ ap (λ (x : Page). with_page p x now) (merged_fits p bytes now fits.front)

  -- page 0 keeps its first 64 bytes
  new_front : take 64 (first_page (with_page p bytes now)) ≡ take 64 (first_page now)
  new_front = elim (eqb_tells p 0) [
    | inl w ↦ ap (λ (n : ℕ). take 64 (first_page (with_page n bytes now))) w.1 ∙ ap (take 64) (with_page_same 0 bytes now (omega arith)) ∙ fits.front w.1
    | inr w ↦ ap (take 64) (with_page_other p 0 bytes now fits.low (λ (e : 0 ≡ p). w.1 (sym e)))
  ]

  pub later_size : image_size (after_stroke s t).base.image ≡ image_size now
  later_size = ap image_size new_is ∙ same-number (first_page new) (first_page now) new_front 24 4 (omega arith)

  pub later_state : image_state (after_stroke s t).base.image ≡ image_state now
  later_state = ap image_state new_is ∙ same-number (first_page new) (first_page now) new_front 22 2 (omega arith)

  pub later_length : length (after_stroke s t).base.image ≡ max (length now) (p + 1)
  later_length = ap length new_is ∙ with_page_length p bytes now fits.low

  pub later_front : take 64 (first_page (after_stroke s t).base.image) ≡ take 64 (first_page now)
  later_front = ap (λ (x : Image). take 64 (first_page x)) new_is ∙ new_front

  pub later_frozen : (after_stroke s t).base.frozen ≡ t.base.frozen
  later_frozen = ap (λ (b : Base). b.frozen) (trail_base s t) ∙ stroke-frozen t.base p bytes

  -- The outcome has that page too. In the stalled state its entry is there, or no entry is missing.
  module _ (b : Base) (left : IsFirm t b) where
    pub fits_left : Fits p bytes b.image
    fits_left = record { low = omega (arith, fits.low, left.mixed.long); front = λ e. fits.front e ∙ ap (take 64) (sym (left.mixed.first)) }

    pub state_left : image_state b.image ≡ image_state now
    state_left = ap state_of (left.mixed.first)

    pub size_left : image_size b.image ≡ image_size now
    size_left = ap size_of (left.mixed.first)

    -- the image of the outcome's stroke
    pub put_is : (on_base s b).image ≡ with_page p bytes b.image
    put_is = stroke_page b p bytes ∙ ap (λ (x : Page). with_page p x b.image) (merged_fits p bytes b.image fits_left.front)

    base_is : (on_base s t.base).image ≡ with_page p bytes now
    base_is = stroke_page t.base p bytes ∙ ap (λ (x : Page). with_page p x now) (merged_fits p bytes now fits.front)

    -- the image after the stroke, of what was seen and of the outcome
    stroke_size : image_size (on_base s t.base).image ≡ image_size now
    stroke_size = ap (λ (x : Base). image_size x.image) (sym (trail_base s t)) ∙ later_size

    stroke_other : (q : ℕ) → q ≢ p → page_at (on_base s t.base).image q ≡ page_at now q
    stroke_other q ne = ap (λ (x : Image). page_at x q) base_is ∙ with_page_other p q bytes now fits.low ne

    put_kept : (q : ℕ) → is_scn_place (image_size (on_base s t.base).image) q ≡ true → page_at (on_base s b).image q ≡ page_at (on_base s t.base).image q
    put_kept q at = elim (eqb_tells q p) [
      | inl w ↦
          ap (λ (x : Image). page_at x q) put_is ∙ ap (page_at (with_page p bytes b.image)) w.1 ∙ with_page_same p bytes b.image fits_left.low ∙ sym (with_page_same p bytes now fits.low)
          ∙ sym (ap (page_at (with_page p bytes now)) w.1) ∙ sym (ap (λ (x : Image). page_at x q) base_is)
      | inr w ↦
          ap (λ (x : Image). page_at x q) put_is ∙ with_page_other p q bytes b.image fits_left.low w.1 ∙ left.kept q (ap (λ (n : ℕ). is_scn_place n q) (sym stroke_size) ∙ at)
          ∙ sym (stroke_other q w.1)
    ]

    abbrev Keeps : Type 0
    Keeps = image_state now ≡ stalled_state → ((k : ℕ) × (entry_for p b.diverted ≡ Some k)) ⊎ (b.diverted ≡ t.base.diverted)

    -- its entries are the first ones
    put_diverted : Keeps → (rest : List ℕ) × ((on_base s t.base).diverted ≡ (on_base s b).diverted ++ rest)
    put_diverted keeps = elim (eqb_tells (image_state now) 1) [
      | inl w ↦
          let of_t : (on_base s t.base).diverted ≡ noted p t.base.diverted = stroke-stalled t.base p bytes w.1 in
          let of_b : (on_base s b).diverted ≡ noted p b.diverted = stroke-stalled b p bytes (state_left ∙ w.1) in
          ⊎_elim
          (λ (has : (k : ℕ) × (entry_for p b.diverted ≡ Some k)).
          let there : entry_for p t.base.diverted ≡ Some has.0 = ap (entry_for p) left.rest.diverted.1 ∙ entry-front p b.diverted left.rest.diverted.0 has.0 has.1 in
          (left.rest.diverted.0, of_t ∙ noted-there p t.base.diverted has.0 there ∙ left.rest.diverted.1 ∙ ap (λ (x : List ℕ). x ++ left.rest.diverted.0) (sym (of_b ∙ noted-there p b.diverted has.0 has.1))))
          (λ (same : b.diverted ≡ t.base.diverted). ([], of_t ∙ ap (noted p) (sym same) ∙ sym of_b ∙ sym (append-nil (on_base s b).diverted)))
          (keeps w.1)
      | inr w ↦
          let of_t : (on_base s t.base).diverted ≡ t.base.diverted = stroke-diverted t.base p bytes w.1 in
          let of_b : (on_base s b).diverted ≡ b.diverted = stroke-diverted b p bytes (λ e. w.1 (sym state_left ∙ e)) in
          (left.rest.diverted.0, of_t ∙ left.rest.diverted.1 ∙ ap (λ (x : List ℕ). x ++ left.rest.diverted.0) (sym of_b))
    ]

    pub put_left : Keeps → IsFirm (after_stroke s t) (on_base s b)
    put_left keeps = by (settles_at t s) refl
      where
        by : (u : Bool) → settles_at t s ≡ u → IsFirm (after_stroke s t) (on_base s b)
        by true is =
            let same : later.base ≡ on_base s b = trail_base s t ∙ ap (on_base s) (sym (left.rest.whole (settles_none t p bytes is))) in
            subst (λ (x : Base). IsFirm later x) same (itself_firm later)
        by false is =
            let mixed : IsMixture (bases_of t ++ on_base s t.base ∷ []) (on_base s t.base).image (with_page p bytes b.image) = mixture_put (bases_of t) now b.image left.mixed p bytes fits.low (on_base s t.base) base_is in
            subst (λ (x : Trail). IsFirm x (on_base s b)) (sym (waits_after s t is)) (record {
              mixed = subst (IsMixture (bases_of t ++ on_base s t.base ∷ []) (on_base s t.base).image) (sym put_is) mixed;
              kept = put_kept;
              rest = record {
                frozen = stroke-frozen b p bytes ∙ left.rest.frozen ∙ sym (stroke-frozen t.base p bytes);
                diverted = put_diverted keeps;
                merging = λ m.
                    let merges : image_state now ≡ merge_state = sym later_state ∙ ap (λ (x : Base). image_state x.image) (trail_base s t) ∙ m in
                    stroke-diverted b p bytes (λ e. absurd (omega (arith, e, merges, state_left))) ∙ left.rest.merging merges ∙ sym (stroke-diverted t.base p bytes (λ e. absurd (omega (arith, e, merges))));
                whole = λ none. absurd (some_base t.earlier t.base none);
              };
            })

    -- The outcome lost it, where it wasn't synced.
    pub stay_left : must_sync now p ≡ false → IsFirm (after_stroke s t) b
    stay_left waits =
        let parts : ((is_forced now || (p == 0 || nat_le (length now) p)) ≡ false) × ((p == 0) ≡ false) × (is_scn_place (image_size now) p ≡ false) × (nat_le (length now) p ≡ false) =
        may_stay (is_forced now) (p == 0) (is_scn_place (image_size now) p) (nat_le (length now) p) waits in
        let mixed : IsMixture (bases_of t ++ on_base s t.base ∷ []) (on_base s t.base).image b.image =
        mixture_lost (bases_of t) now b.image left.mixed p bytes fits.low (on_base s t.base) base_is (not_le (length now) p parts.3) (some_page p parts.1) in
        subst (λ (x : Trail). IsFirm x b) (sym (waits_after s t (waits_none t p bytes parts.0))) (record {
          mixed = mixed;
          kept = λ q at.
              let at_now : is_scn_place (image_size now) q ≡ true = ap (λ (n : ℕ). is_scn_place n q) (sym stroke_size) ∙ at in
              left.kept q at_now ∙ sym (stroke_other q (λ same. absurd (true≢false (sym at_now ∙ ap (is_scn_place (image_size now)) same ∙ parts.2))));
          rest = record {
            frozen = left.rest.frozen ∙ sym (stroke-frozen t.base p bytes);
            diverted = stays_diverted;
            merging = λ m.
                let merges : image_state now ≡ merge_state = sym later_state ∙ ap (λ (x : Base). image_state x.image) (trail_base s t) ∙ m in
                left.rest.merging merges ∙ sym (stroke-diverted t.base p bytes (λ e. absurd (omega (arith, e, merges))));
            whole = λ none. absurd (some_base t.earlier t.base none);
          };
        })
      where
        some_page : (q : ℕ) → (q == 0) ≡ false → q ≢ 0
        some_page zero e same = true≢false e
        some_page (suc q) e same = absurd (omega (arith, same))

        stays_diverted : (rest : List ℕ) × ((on_base s t.base).diverted ≡ b.diverted ++ rest)
        stays_diverted = elim (eqb_tells (image_state now) 1) [
          | inl w ↦
              let more_ : (more : List ℕ) × (noted p t.base.diverted ≡ t.base.diverted ++ more) = noted-longer p t.base.diverted in
              (left.rest.diverted.0 ++ more_.0, stroke-stalled t.base p bytes w.1 ∙ more_.1 ∙ ap (λ (x : List ℕ). x ++ more_.0) left.rest.diverted.1 ∙ append_assoc b.diverted left.rest.diverted.0 more_.0)
          | inr w ↦ (left.rest.diverted.0, stroke-diverted t.base p bytes w.1 ∙ left.rest.diverted.1)
        ]
