-- Leaked pages are given back: the strokes fit, each at its point, and a page that the history leads to stays taken.
use Rattle.std.proofs.Common.{◌≡◌, ◌≢◌, inl, inr, ℕ, zero, suc, ◌+◌, ◌<◌, ◌≤◌, List, [], ◌∷◌, ◌++◌, length, refl, sym, ap, subst, ◌∙◌, arith, Bool, true, false, cond, ◌||◌, ◌==◌, not, nat_eq, Contains, Some, None}
use Rattle.nb_model.proofs.Common.{AllByRecursion, filter, range_with_len, Contains-append_left, Contains-append_right, and_parts, cases_Bool, true≢false, eqb-true, or_cases, kind_of, is_inventory_place, is_scn_place, is_system_place, data_kind, Base, Freed, Refused, Cause, broken_at, Catalogue, History, pages_of, found_pages, reclaim_cause, reclaimed, reclaim_turn, Draft, drafted, give_page, is_free_page, Page, Image, page_at, first_page, image_size, is_among, is_taken_data, is_leaked, leaked, reached, Seen, Outcome, says, unless, used, table_chains, chains, pages_of_all, HasHeader, IsSoundImage, Stroke, base_after, all_given, not_true}
use Rattle.nb_model.proofs.BitSound.{bit_put}
use Rattle.nb_model.proofs.DropTurns.{join_given, given_none}
use Rattle.nb_model.proofs.FitLaws.{IsWhole, AreFitting, Fits, fits_first, fitting_append}
use Rattle.nb_model.proofs.HeldLaws.{IsHeld, held_bit}
use Rattle.nb_model.proofs.LeadLaws.{LeadsTo, leads_found}
use Rattle.nb_model.proofs.NoRows.{HasNoRows, no_rows}
use Rattle.nb_model.proofs.PutSound.{no_first, header_whole}
use Rattle.nb_model.proofs.ReadLaws.{eq_yes}
use Rattle.nb_model.proofs.SoundLaws.{kind_of_header}
use Rattle.nb_model.proofs.StrokeLaws.{base_after-append}
use Rattle.nb_model.proofs.TableDrafts.{bit_inventory, bit_longer}

-- A page that may be given back: it is behind the first two, and below the length.
pub record IsGivable (image : Image) (p : ℕ) : Type 0 where
  pub two : 2 ≤ p
  pub below : p < length image

pub longer_givable : (x y : Image) (ps : List ℕ) → length x ≤ length y → AllByRecursion (IsGivable x) ps → AllByRecursion (IsGivable y) ps
longer_givable x y [] longer all = tt
longer_givable x y (p ∷ ps) longer all = (record { two = all.0.two; below = let low = all.0.below in omega (arith, low, longer) }, longer_givable x y ps longer all.1)

pub given_first : (p : ℕ) (ps : List ℕ) (z : Image) → (all_given (p ∷ ps) (drafted z)).strokes ≡ (give_page p (drafted z)).strokes ++ (all_given ps (drafted (give_page p (drafted z)).image)).strokes
unfolding all_given
given_first p ps z = ap (λ (d : Draft). d.strokes) (join_given ps (give_page p (drafted z)))

module _ (b : Base) (h : IsWhole b.image) (p : ℕ) (at : IsGivable b.image p) where
  abbrev one : Draft
  one = give_page p (drafted b.image)

  pub one_fits : Fits HasNoRows b one
  one_fits =
      (bit_put HasNoRows (no_rows 10 (omega arith)) (no_rows 2 (omega arith)) b 1 p (drafted b.image) (omega arith) (fits_first HasNoRows b h) at.below (bit_inventory b.image h 1 p at.two at.below)).fits

  pub one_longer : length b.image ≤ length one.image
  one_longer = bit_longer b.image h 1 p at.two at.below

-- The strokes of all of them fit.
pub given_fits : (ps : List ℕ) (b : Base) → IsWhole b.image → AllByRecursion (IsGivable b.image) ps → AreFitting HasNoRows b (all_given ps (drafted b.image)).strokes
given_fits [] b h all = subst (AreFitting HasNoRows b) (sym (given_none b.image)) tt
given_fits (p ∷ ps) b h all =
    let d : Draft = give_page p (drafted b.image) in
    let fits : Fits HasNoRows b d = one_fits b h p all.0 in
    let then : Base = base_after b d.strokes in
    let same : then.image ≡ d.image = fits.is.is in
    let rest : AreFitting HasNoRows then (all_given ps (drafted then.image)).strokes =
    given_fits ps then (subst IsWhole (sym same) fits.whole) (longer_givable b.image then.image ps (subst (λ (x : Image). length b.image ≤ length x) (sym same) (one_longer b h p all.0)) all.1) in
    subst (AreFitting HasNoRows b) (sym (given_first p ps b.image))
    (fitting_append HasNoRows d.strokes (all_given ps (drafted d.image)).strokes b fits.each (subst (λ (x : Image). AreFitting HasNoRows then (all_given ps (drafted x)).strokes) same rest))

-- A page that isn't given back stays held.
pub given_holds : (q : ℕ) (bytes : Page) (ps : List ℕ) (b : Base) → IsWhole b.image → AllByRecursion (IsGivable b.image) ps → AllByRecursion (λ (p : ℕ). q ≢ p) ps → IsHeld q bytes b.image → IsHeld q bytes (base_after b (all_given ps (drafted b.image)).strokes).image
unfolding base_after
given_holds q bytes [] b h all off held = subst (λ (ss : List Stroke). IsHeld q bytes (base_after b ss).image) (sym (given_none b.image)) held
given_holds q bytes (p ∷ ps) b h all off held =
    let d : Draft = give_page p (drafted b.image) in
    let fits : Fits HasNoRows b d = one_fits b h p all.0 in
    let then : Base = base_after b d.strokes in
    let same : then.image ≡ d.image = fits.is.is in
    let here : IsHeld q bytes then.image = subst (IsHeld q bytes) (sym same) (held_bit q bytes b.image h 1 p (omega arith) all.0.two all.0.below off.0 held) in
    let rest : IsHeld q bytes (base_after then (all_given ps (drafted then.image)).strokes).image =
    given_holds q bytes ps then (subst IsWhole (sym same) fits.whole) (longer_givable b.image then.image ps (subst (λ (x : Image). length b.image ≤ length x) (sym same) (one_longer b h p all.0)) all.1) off.1 here in
    subst (λ (ss : List Stroke). IsHeld q bytes (base_after b ss).image) (sym (given_first p ps b.image))
    (subst (λ (c : Base). IsHeld q bytes c.image) (sym (base_after-append b d.strokes (all_given ps (drafted d.image)).strokes))
    (subst (λ (x : Image). IsHeld q bytes (base_after then (all_given ps (drafted x)).strokes).image) same rest))

leaked_kind : (image : Image) (p : ℕ) → is_leaked image p ≡ true → kind_of (page_at image p) ≡ data_kind
leaked_kind image p holds =
    eqb-true (kind_of (page_at image p)) 5
    (and_parts (not (is_free_page image p)) (kind_of (page_at image p) == data_kind) (and_parts (is_taken_data image p) (not (is_among p (reached image))) holds).0).1

-- A leaked page of a sound image is at no system place, and after the first two.
pub leaked_plain : (image : Image) → IsSoundImage image → (p : ℕ) → p < length image → is_leaked image p ≡ true → is_system_place (image_size image) p ≡ false
unfolding is_system_place
leaked_plain image sound p low holds = elim (cases_Bool (is_inventory_place (image_size image) p || is_scn_place (image_size image) p)) [
  | inr fails ↦ fails
  | inl place ↦ absurd (elim (or_cases _ _ place) [
    | inl at ↦ (let two = sound.sound.system.inventories p low at in omega (arith, five, two))
    | inr at ↦ (let ten = sound.sound.system.scn_pages p low at in omega (arith, five, ten))
  ])
]
  where
    five : kind_of (page_at image p) ≡ data_kind
    five = leaked_kind image p holds

pub leaked_two : (image : Image) → HasHeader image → IsSoundImage image → (p : ℕ) → p < length image → is_leaked image p ≡ true → 2 ≤ p
unfolding is_system_place is_inventory_place
leaked_two image header sound p low holds = by p refl
  where
    five : kind_of (page_at image p) ≡ data_kind
    five = leaked_kind image p holds

    by : (q : ℕ) → p ≡ q → 2 ≤ p
    by zero e =
        let one = kind_of_header (first_page image) header.header in
        let same : kind_of (page_at image p) ≡ kind_of (first_page image) = ap (λ (n : ℕ). kind_of (page_at image n)) e in
        omega (arith, one, same, five)
    by (suc zero) e = absurd (true≢false (sym (ap (is_system_place (image_size image)) e) ∙ leaked_plain image sound p low holds))
    by (suc (suc q)) e = omega (arith, e)

-- What holds of each page of a range that passes a test.
all_filtered : (test : ℕ → Bool) (P : ℕ → Type 0) (n a : ℕ) → ((p : ℕ) → a ≤ p → p < a + n → test p ≡ true → P p) → AllByRecursion P (filter test (range_with_len a n))
all_filtered test P zero a each = tt
all_filtered test P (suc n) a each = by (test a) refl (all_filtered test P n (a + 1) (λ p low high holds. each p (omega (arith, low)) (omega (arith, high)) holds))
  where
    by : (t : Bool) → test a ≡ t → AllByRecursion P (filter test (range_with_len (a + 1) n)) → AllByRecursion P (cond t (a ∷ filter test (range_with_len (a + 1) n)) (filter test (range_with_len (a + 1) n)))
    by true e rest = (each a (omega arith) (omega arith) e, rest)
    by false e rest = rest

pub all_leaked : (image : Image) (P : ℕ → Type 0) → ((p : ℕ) → p < length image → is_leaked image p ≡ true → P p) → AllByRecursion P (leaked image)
unfolding leaked
all_leaked image P each = all_filtered (is_leaked image) P (length image) 0 (λ p low high holds. each p (omega (arith, high)) holds)

-- a page of a list is among them
pub among_at : (q : ℕ) (ps : List ℕ) → Contains ps q → is_among q ps ≡ true
among_at q [] at = absurd (omega (arith, at.1))
among_at q (p ∷ ps) (zero, low, is) = ap (λ (t : Bool). t || is_among q ps) (eq_yes q p (sym is))
among_at q (p ∷ ps) (suc k, low, is) = either (nat_eq q p) (among_at q ps (k, omega (arith, low), is))
  where
    either : (t : Bool) → is_among q ps ≡ true → (t || is_among q ps) ≡ true
    either true holds = refl
    either false holds = holds

-- the pages of the history are reached
history_reached : (image : Image) (q : ℕ) → Contains (found_pages History image) q → is_among q (reached image) ≡ true
unfolding chains pages_of_all
history_reached image q at =
    among_at q (found_pages Catalogue image ++ (found_pages History image ++ pages_of_all image (table_chains (used _)))) (Contains-append_right (found_pages Catalogue image) _ q (Contains-append_left (found_pages History image) _ q at))

-- `reclaim` in a sound image
module _ (s : Seen) (header : HasHeader s.base.image) (is : IsSoundImage s.base.image) where
  abbrev image : Image
  image = s.base.image

  whole : IsWhole image
  whole = header_whole image header is

  pub givable : AllByRecursion (IsGivable image) (leaked image)
  givable = all_leaked image (IsGivable image) (λ p low holds. record { two = leaked_two image header is p low holds; below = low })

  pub reclaim_fits : AreFitting HasNoRows s.base (reclaim_turn s).strokes
  unfolding reclaim_turn unless
  reclaim_fits = by (reclaim_cause image)
    where
      by : (c : Cause) → AreFitting HasNoRows s.base (elim c as (λ z. Outcome) [ Some refusal ↦ says s (Refused refusal) [] | None ↦ says s (Freed (length (leaked image))) (reclaimed image).strokes ]).strokes
      by None = given_fits (leaked image) s.base whole givable
      by (Some r) = tt

  -- the history is of the form where it isn't refused
  history_formed : reclaim_cause image ≡ None → broken_at (pages_of History image) ≡ None
  unfolding chains
  history_formed none =
      let check = no_first _ _ (no_first _ _ none).1 in
      let formed = no_first _ _ (no_first _ _ check.0).1 in
      (no_first _ _ (no_first _ _ formed.0).1).0

  off_history : (q : ℕ) → Contains (found_pages History image) q → AllByRecursion (λ (p : ℕ). q ≢ p) (leaked image)
  off_history q at = all_leaked image (λ (p : ℕ). q ≢ p) (λ p low holds e.
      absurd (true≢false (sym (history_reached image q at) ∙ ap (λ (n : ℕ). is_among n (reached image)) e ∙ not_true _ (and_parts _ _ holds).1)))

  pub reclaim_holds : (q : ℕ) (bytes : Page) → LeadsTo image q → IsHeld q bytes image → IsHeld q bytes (base_after s.base (reclaim_turn s).strokes).image
  unfolding reclaim_turn unless base_after
  reclaim_holds q bytes leads held = by (reclaim_cause image) refl
    where
      by : (c : Cause) → reclaim_cause image ≡ c → IsHeld q bytes (base_after s.base (elim c as (λ z. Outcome) [ Some refusal ↦ says s (Refused refusal) [] | None ↦ says s (Freed (length (leaked image))) (reclaimed image).strokes ]).strokes).image
      by None none = given_holds q bytes (leaked image) s.base whole givable (off_history q (leads_found image q leads (history_formed none))) held
      by (Some r) e = held
