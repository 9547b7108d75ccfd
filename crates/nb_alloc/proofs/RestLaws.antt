-- A new page that nothing stops, on any image of the form: what is left of it after each round.
use Rattle.std.proofs.Common.{◌≡◌, ◌≢◌, inl, inr, ℕ, zero, suc, ◌+◌, ◌/◌, ◌<◌, ◌≤◌, List, ◌++◌, length, refl, sym, ap, subst, ◌∙◌, arith, Bool, true, false, ◌==◌, Option, Some, None}
use Rattle.nb_alloc.proofs.Common.{true≢false, eqb_tells, bits_in, inventory_place, is_system_place, most_pages, inventory_kind, NotDatabase, Full, Image, image_size, Stroke, Draft, drafted, is_kind, is_free_page, put, take_page, lowest_free, first_not, needed_at, system_kind, new_within, joined_new, inventory_before, IsLowestFree, lowest_is, lowest_behind, IsShaped, IsReady, Visits, system_visits, draft_cause, Met, met, try_stops, try_full, try_more, try_last, joined_cause, new_of, round, behind, IsSearchable, some_none}
use Rattle.nb_alloc.proofs.WayLaws.{stopped_cause, full_cause}

-- A try that isn't refused has all that it needs, and finds a page.
pub record Tried (image : Image) (left : ℕ) : Type 0 where
  pub rest : ℕ
  pub left_is : left ≡ suc rest
  pub none : first_not image (needed_at image (lowest_free image)) ≡ None
  pub page : (lowest_free image == most_pages) ≡ false

pub tried : (kind : ℕ) (payload : ℕ → List ℕ) (image : Image) (left : ℕ) → draft_cause (new_within left kind payload (drafted image)).0 ≡ None → Tried image left
unfolding new_within
tried kind payload image zero clear = absurd (some_none (Full most_pages) (sym (full_cause image) ∙ clear))
tried kind payload image (suc left) clear = by (first_not image (needed_at image (lowest_free image))) (lowest_free image == most_pages) refl refl
  where
    by : (o : Option ℕ) (t : Bool) → first_not image (needed_at image (lowest_free image)) ≡ o → (lowest_free image == most_pages) ≡ t → Tried image (suc left)
    by (Some q) t e f = absurd (some_none (NotDatabase q) (sym (ap (λ (y : Draft × ℕ). draft_cause y.0) (try_stops image kind payload left q e) ∙ stopped_cause image q) ∙ clear))
    by None true e f = absurd (some_none (Full most_pages) (sym (ap (λ (y : Draft × ℕ). draft_cause y.0) (try_full image kind payload left e f) ∙ full_cause image) ∙ clear))
    by None false e f = record { rest = left; left_is = refl; none = e; page = f }

-- What is left to make of it, where its search comes to that place next.
pub record Rest (kind : ℕ) (payload : ℕ → List ℕ) (image : Image) (place : ℕ) (strokes : List Stroke) (number : ℕ) : Type 0 where
  pub left : ℕ
  pub shaped : IsShaped image
  pub long : 5 ≤ length image
  pub most : length image ≤ most_pages
  pub at : lowest_free image ≡ place
  pub clear : draft_cause (new_within left kind payload (drafted image)).0 ≡ None
  pub strokes_are : (new_within left kind payload (drafted image)).0.strokes ≡ strokes
  pub number_is : (new_within left kind payload (drafted image)).1 ≡ number

pub all_left : (kind : ℕ) (payload : ℕ → List ℕ) (image : Image) (place : ℕ) → IsSearchable image → length image ≤ most_pages → place ≡ lowest_free image → draft_cause (new_of kind payload image).0 ≡ None
    → Rest kind payload image place (new_of kind payload image).0.strokes (new_of kind payload image).1
all_left kind payload image place may most at clear = record { left = length image + 4; shaped = may.shaped; long = may.long; most = most; at = sym at; clear = clear; strokes_are = refl; number_is = refl }

-- where its search is
pub record Here (image : Image) (place : ℕ) : Type 0 where
  pub five : 5 ≤ place
  pub there : place ≤ length image
  pub below : place < most_pages
  pub maps : (k : ℕ) → k ≤ place / bits_in (image_size image) → is_kind image inventory_kind (inventory_place (image_size image) k) ≡ true
  pub ready : IsReady image place

pub here : (kind : ℕ) (payload : ℕ → List ℕ) (image : Image) (place : ℕ) (strokes : List Stroke) (number : ℕ) → Rest kind payload image place strokes number → Here image place
here kind payload image place strokes number rest = subst (Here image) rest.at (record {
  five = found.low;
  there = found.high;
  below = (let high = found.high in let most = rest.most in omega (arith, high, most, other));
  maps = all.maps;
  ready = all.ready other;
})
  where
    found : IsLowestFree image 5 (length image) (lowest_free image)
    found = lowest_is image rest.long

    try : Tried image rest.left
    try = tried kind payload image rest.left rest.clear

    all : Met image (lowest_free image)
    all = met image (lowest_free image) try.none

    other : lowest_free image ≢ most_pages
    other = elim (eqb_tells (lowest_free image) most_pages) [ inl w ↦ absurd (true≢false (sym w.0 ∙ try.page)) | inr w ↦ w.1 ]

-- a round at a system place
pub record Onward (kind : ℕ) (payload : ℕ → List ℕ) (image : Image) (place : ℕ) (strokes : List Stroke) (number : ℕ) : Type 0 where
  pub rest_strokes : List Stroke
  pub strokes_are : strokes ≡ (round image place).strokes ++ rest_strokes
  pub rest : Rest kind payload (round image place).image (behind image place) rest_strokes number

pub onward : (kind : ℕ) (payload : ℕ → List ℕ) (image : Image) (place : ℕ) (strokes : List Stroke) (number : ℕ) → Rest kind payload image place strokes number → is_system_place (image_size image) place ≡ true → Onward kind payload image place strokes number
onward kind payload image place strokes number rest system = subst (λ (n : ℕ). Onward kind payload image n strokes number) rest.at (at_lowest (subst (λ (n : ℕ). is_system_place (image_size image) n ≡ true) (sym rest.at) system))
  where
    p : ℕ
    p = lowest_free image

    at_lowest : is_system_place (image_size image) (lowest_free image) ≡ true → Onward kind payload image (lowest_free image) strokes number
    at_lowest there =
        let found : IsLowestFree image 5 (length image) (lowest_free image) = lowest_is image rest.long in
        let at : Here image (lowest_free image) = subst (Here image) (sym rest.at) (here kind payload image place strokes number rest) in
        let try : Tried image rest.left = tried kind payload image rest.left rest.clear in
        let after : Image = (round image (lowest_free image)).image in
        let visits : Visits image (lowest_free image) (system_kind image (lowest_free image)) (round image (lowest_free image)) = system_visits image (lowest_free image) rest.shaped at.five at.there at.ready there in
        let more : new_within rest.left kind payload (drafted image) ≡ joined_new (round image (lowest_free image)) (new_within try.rest kind payload (drafted after)) =
        ap (λ (n : ℕ). new_within n kind payload (drafted image)) try.left_is ∙ try_more image kind payload try.rest try.none try.page there in
        let long = visits.on.long in
        let least = rest.long in
        let below = at.below in
        let most = rest.most in
        record {
          rest_strokes = (new_within try.rest kind payload (drafted after)).0.strokes;
          strokes_are = sym rest.strokes_are ∙ ap (λ (x : Draft × ℕ). x.0.strokes) more;
          rest = record {
            left = try.rest;
            shaped = visits.on.shaped;
            long = omega (arith, long, least);
            most = omega (arith, long, below, most);
            at = lowest_behind after (lowest_free image) at.five (omega (arith, long)) (λ q five le. elim (eqb_tells q (lowest_free image)) [
              | inl w ↦ ap (is_free_page after) w.1 ∙ visits.on.here
              | inr w ↦ visits.on.others q w.1 (λ own. absurd (omega (arith, own, inventory_before (image_size image) q rest.shaped.size (omega (arith, five)), le))) ∙ found.before q five (omega (arith, le, w.1))
            ]);
            clear = sym (joined_cause (round image (lowest_free image)) (new_within try.rest kind payload (drafted after)).0 visits.clear) ∙ sym (ap (λ (x : Draft × ℕ). draft_cause x.0) more) ∙ rest.clear;
            strokes_are = refl;
            number_is = sym (ap (λ (x : Draft × ℕ). x.1) more) ∙ rest.number_is;
          };
        }

-- the last round
pub record AtLast (kind : ℕ) (payload : ℕ → List ℕ) (image : Image) (place : ℕ) (strokes : List Stroke) (number : ℕ) : Type 0 where
  pub strokes_are : strokes ≡ (take_page place (put place kind (payload place) (drafted image))).strokes
  pub number_is : place ≡ number

pub at_last : (kind : ℕ) (payload : ℕ → List ℕ) (image : Image) (place : ℕ) (strokes : List Stroke) (number : ℕ) → Rest kind payload image place strokes number → is_system_place (image_size image) place ≡ false → AtLast kind payload image place strokes number
at_last kind payload image place strokes number rest plain = subst (λ (n : ℕ). AtLast kind payload image n strokes number) rest.at (at_lowest (subst (λ (n : ℕ). is_system_place (image_size image) n ≡ false) (sym rest.at) plain))
  where
    at_lowest : is_system_place (image_size image) (lowest_free image) ≡ false → AtLast kind payload image (lowest_free image) strokes number
    at_lowest there =
        let p : ℕ = lowest_free image in
        let try : Tried image rest.left = tried kind payload image rest.left rest.clear in
        let last : new_within rest.left kind payload (drafted image) ≡ (take_page p (put p kind (payload p) (drafted image)), p) =
        ap (λ (n : ℕ). new_within n kind payload (drafted image)) try.left_is ∙ try_last image kind payload try.rest try.none try.page there in
        record { strokes_are = sym rest.strokes_are ∙ ap (λ (x : Draft × ℕ). x.0.strokes) last; number_is = sym (ap (λ (x : Draft × ℕ). x.1) last) ∙ rest.number_is }
