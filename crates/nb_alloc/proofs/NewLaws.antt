-- A new page: its rounds, each on the database that the round before left.
use Rattle.std.proofs.Common.{◌≡◌, ℕ, ◌≤◌, List, [], ◌++◌, length, refl, sym, ap, subst, ◌∙◌, append_assoc, true, false, None, Result, Ok, Err, IsErr, IsErrAnd}
use Rattle.nb_alloc.proofs.Common.{is_system_place, most_pages, World, Fault, Quiet, after_all-joined, Page, Image, image_size, Base, Stroke, Trail, after_stroke, Draft, drafted, put, take_page, system_page, lowest_free, IsOf, drafts_are, drafted_is, put_keeps, set_bit_keeps, system_keeps, join_set_bit, after_strokes, Held, IsOpen, Makes, after_base, makes_none, makes_then, Tries, mark_cause, mark_strokes, HoldsMap, IsSupplied, GoesOn, IsOnward, new_of, round, behind, IsSearchable, draft_cause}
use Rattle.nb_alloc.proofs.RestLaws.{Rest, all_left, here, Onward, onward, AtLast, at_last}
use Rattle.nb_alloc.proofs.DoesLaws.{makes_valued, tries_passed, tries_made, tries_front, tries_next}
use Rattle.nb_alloc.proofs.MakeLaws.{tries_named}

-- A page is made as a draft has it, and then taken.
module _ (t : Trail) (p : ℕ) (e : Draft) (of : IsOf t.base e) where
  -- the image after strokes that are those of the draft
  pub image_is : (made : List Stroke) → made ≡ e.strokes → (after_strokes t made).base.image ≡ e.image
  image_is made same = ap (λ (ss : List Stroke). (after_strokes t ss).base.image) same ∙ ap (λ (x : Base). x.image) (after_base t e.strokes) ∙ of.is

  abbrev taking : List Stroke
  taking = mark_strokes (after_strokes t e.strokes).base.image p 0

  taken_strokes : e.strokes ++ taking ≡ (take_page p e).strokes
  taken_strokes = ap (λ (x : Image). e.strokes ++ (take_page p (drafted x)).strokes) (image_is e.strokes refl) ∙ sym (ap (λ (d : Draft). d.strokes) (join_set_bit 0 p e))

  -- it was not made
  pub take_not : (T : Type 0) (result : Result T Fault) (fault : Fault) (old new : World) (a b : Held) → IsErr result × IsErrAnd result (λ f. f ≡ fault)
      → Tries {T = Unit {0}} (Err fault) old new a b t None e.strokes → Tries result old new a b t None (take_page p e).strokes
  take_not T result fault old new a b passed first =
      tries_passed result fault (λ r. Tries r old new a b t None (take_page p e).strokes) passed
      (subst (λ (ss : List Stroke). Tries {T = T} (Err fault) old new a b t None ss) taken_strokes (tries_front (Unit {0}) T fault old new a b t None e.strokes taking first))

  -- its bit is written
  pub take_after : (result : Result (Unit {0}) Fault) (old mid new : World) (a b c : Held) → mark_cause e.image p ≡ None → Tries {T = Unit {0}} (Ok tt) old mid a b t None e.strokes
      → Tries result mid new b c (after_strokes t e.strokes) (mark_cause (after_strokes t e.strokes).base.image p) taking → Tries result old new a c t None (take_page p e).strokes
  take_after result old mid new a b c clear first second =
      let image : Image = (after_strokes t e.strokes).base.image in
      let none : mark_cause image p ≡ None = ap (λ (x : Image). mark_cause x p) (image_is e.strokes refl) ∙ clear in
      subst (λ (ss : List Stroke). Tries result old new a c t None ss) taken_strokes
      (tries_next {S = Unit {0}} tt result old mid new a b c t e.strokes taking first (tries_named result mid new b c (after_strokes t e.strokes) (mark_cause image p) None taking taking none refl second))

pub system_of : (b : Base) (p : ℕ) → IsOf b (system_page p (drafted b.image))
system_of b p = system_keeps (IsOf b) (drafts_are b) p (drafted b.image) (drafted_is b)

pub put_of : (b : Base) (p kind : ℕ) (payload : List ℕ) → IsOf b (put p kind payload (drafted b.image))
put_of b p kind payload = put_keeps (IsOf b) (drafts_are b) p kind payload (drafted b.image) (drafted_is b)

pub round_is : (b : Base) (p : ℕ) → IsOf b (round b.image p)
round_is b p = set_bit_keeps (IsOf b) (drafts_are b) 0 p (system_page p (drafted b.image)) (system_of b p)

-- the same payload for each number
abbrev pub told : List ℕ → ℕ → List ℕ
told payload = λ p. payload

-- What was made of a new page so far, and what is left.
pub record SoFar (kind : ℕ) (payload : ℕ → List ℕ) (old now : World) (a b : Held) (t : Trail) (place : ℕ) (strokes : List Stroke) (number : ℕ) (map : Page) : Type 0 where
  pub done : List Stroke
  pub makes : Makes {T = Unit {0}} (Ok tt) old now a b t done
  pub holds : HoldsMap (after_strokes t done).base.image place map
  pub rest_strokes : List Stroke
  pub strokes_are : strokes ≡ done ++ rest_strokes
  pub rest : Rest kind payload (after_strokes t done).base.image place rest_strokes number

pub so_far_begun : (kind : ℕ) (payload : ℕ → List ℕ) (w : World) (a : Held) (t : Trail) (place : ℕ) (map : Page) → Quiet w w → IsOpen w a t → length t.base.image ≤ most_pages → place ≡ lowest_free t.base.image
    → HoldsMap t.base.image place map → IsSearchable t.base.image → draft_cause (new_of kind payload t.base.image).0 ≡ None
    → SoFar kind payload w w a a t place (new_of kind payload t.base.image).0.strokes (new_of kind payload t.base.image).1 map
so_far_begun kind payload w a t place map quiet is most at holds may free = record {
  done = [];
  makes = makes_none (Ok tt) w w a a t refl quiet is is;
  holds = holds;
  rest_strokes = (new_of kind payload t.base.image).0.strokes;
  strokes_are = refl;
  rest = all_left kind payload t.base.image place may most at free;
}

module _ (kind : ℕ) (payload : ℕ → List ℕ) (old mid : World) (a b : Held) (t : Trail) (place : ℕ) (strokes : List Stroke) (number : ℕ) (map : Page) (so : SoFar kind payload old mid a b t place strokes number map) where
  abbrev u : Trail
  u = after_strokes t so.done

  abbrev x : Image
  x = u.base.image

  so_tries : Tries {T = Unit {0}} (Ok tt) old mid a b t None so.done
  so_tries = tries_made {T = Unit {0}} (Ok tt) old mid a b t None so.done refl tt so.makes tt

  pub supplied : IsSupplied x place
  supplied = let rest = so.rest in record { shaped = rest.shaped; ready = (here kind payload x place so.rest_strokes number rest).ready }

  -- a round at a system place
  module _ (system : is_system_place (image_size x) place ≡ true) where
    on : Onward kind payload x place so.rest_strokes number
    on = onward kind payload x place so.rest_strokes number so.rest system

    pub goes_onward : GoesOn x place
    goes_onward = let next = here kind payload (round x place).image (behind x place) on.rest_strokes number on.rest in record { below = next.below; maps = next.maps }

    grouped : strokes ≡ so.done ++ ((round x place).strokes ++ on.rest_strokes)
    grouped = so.strokes_are ∙ ap (λ (ss : List Stroke). so.done ++ ss) on.strokes_are

    -- the round failed
    pub round_failed : (S T : Type 0) (result : Result T Fault) (fault : Fault) (new : World) (c : Held) → IsErr result × IsErrAnd result (λ f. f ≡ fault)
        → Tries {T = S} (Err fault) mid new b c u None (round x place).strokes → Tries result old new a c t None strokes
    round_failed S T result fault new c passed second =
        tries_passed result fault (λ r. Tries r old new a c t None strokes) passed
        (subst (λ (ss : List Stroke). Tries {T = T} (Err fault) old new a c t None ss) (sym grouped)
        (tries_next {S = Unit {0}} {T = T} tt (Err fault) old mid new a b c t so.done ((round x place).strokes ++ on.rest_strokes) so_tries
        (tries_front S T fault mid new b c u None (round x place).strokes on.rest_strokes second)))

    -- or the search goes on
    pub round_done : (next : ℕ) (then : Page) (new : World) (c : Held) → Tries (Ok next) mid new b c u None (round x place).strokes → IsOnward (round x place).image place next then
        → SoFar kind payload old new a c t next strokes number then
    round_done next then new c second further =
        let more : List Stroke = (round x place).strokes in
        let done : List Stroke = so.done ++ more in
        let seen : (after_strokes t done).base.image ≡ (round x place).image =
        ap (λ (v : Trail). v.base.image) (after_all-joined after_stroke t so.done more) ∙ image_is u place (round x place) (round_is u.base place) more refl in
        record {
          done = done;
          makes = makes_then tt (Ok tt) old mid new a b c t so.done more so.makes (makes_valued next tt mid new b c u more second.makes);
          holds = subst (λ (y : Image). HoldsMap y next then) (sym seen) further.holds;
          rest_strokes = on.rest_strokes;
          strokes_are = grouped ∙ sym (append_assoc so.done more on.rest_strokes);
          rest = subst (λ (n : ℕ). Rest kind payload (after_strokes t done).base.image n on.rest_strokes number) (sym further.found)
              (subst (λ (y : Image). Rest kind payload y (behind x place) on.rest_strokes number) (sym seen) on.rest);
        }

  -- the new page itself
  module _ (plain : is_system_place (image_size x) place ≡ false) where
    last : AtLast kind payload x place so.rest_strokes number
    last = at_last kind payload x place so.rest_strokes number so.rest plain

    pub last_number : place ≡ number
    last_number = last.number_is

    pub last_round : {T : Type 0} (result : Result T Fault) (new : World) (c : Held) → Tries result mid new b c u None (take_page place (put place kind (payload place) (drafted x))).strokes
        → Tries result old new a c t None strokes
    last_round result new c second =
        subst (λ (ss : List Stroke). Tries result old new a c t None ss) (sym (so.strokes_are ∙ ap (λ (ss : List Stroke). so.done ++ ss) last.strokes_are))
        (tries_next {S = Unit {0}} tt result old mid new a b c t so.done (take_page place (put place kind (payload place) (drafted x))).strokes so_tries second)
