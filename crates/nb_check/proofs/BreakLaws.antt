-- Which facts an image breaks, and the first of them.
use Rattle.std.proofs.Common.{◌≡◌, inl, inr, ℕ, zero, suc, ◌+◌, ◌-◌, ◌*◌, ◌/◌, ◌<◌, ◌≤◌, List, [], ◌∷◌, length, refl, sym, ap, ◌∙◌, arith, IsTrue, true, false, Option, Some, None, ◌&&◌, ◌||◌, not, nat_lt, nat_le}
use Rattle.nb_check.proofs.Common.{AllByRecursion, lt-div-mul-add, and_parts, or_cases, ltb-true, eqb-true, is_page_size, bits_in, entries_in, inventory_place, scn_place, entries-least, bits-least, Image, image_size, inventory_of, has_entry, is_free_page, Fact, BlankPage, SystemPlace, TakenPast, LateStamp, WrongEntry, HeaderStamp, Broken, breaks, number_of, facts, first_from, first_broken, covered, unsound, is_entry_low, is_entry_late, IsFirstBelow, some_none}
use Rattle.nb_check.proofs.FirstLaws.{first_none, first_all, first_found}

abbrev lowest : Image → Fact → Option ℕ
lowest image f = first_from (covered image) 0 (breaks image f)

abbrev by_lowest : Image → Fact → List Fact → Option ℕ → Option (ℕ × ℕ)
by_lowest image f fs o = elim o as (λ z. Option (ℕ × ℕ)) [ Some p ↦ Some (number_of f, p) | None ↦ first_broken image fs ]

broken_is : (image : Image) (f : Fact) (fs : List Fact) (o : Option ℕ) → lowest image f ≡ o → first_broken image (f ∷ fs) ≡ by_lowest image f fs o
unfolding first_broken
broken_is image f fs o e = ap (by_lowest image f fs) e

-- no page breaks a fact
abbrev pub BreaksNone : Image → Fact → Type 0
BreaksNone image f = (p : ℕ) → p < covered image → breaks image f p ≡ false

none_lowest : (image : Image) (f : Fact) → BreaksNone image f → lowest image f ≡ None
none_lowest image f none = first_all (covered image) 0 (breaks image f) (λ q low high. none q (omega (arith, high)))

lowest_none : (image : Image) (f : Fact) → lowest image f ≡ None → BreaksNone image f
lowest_none image f none p below = first_none (covered image) 0 (breaks image f) none p (omega arith) (omega (arith, below))

passed : (image : Image) (f : Fact) (fs : List Fact) (r : Option (ℕ × ℕ)) → BreaksNone image f → first_broken image fs ≡ r → first_broken image (f ∷ fs) ≡ r
passed image f fs r none rest = broken_is image f fs None (none_lowest image f none) ∙ rest

named : (image : Image) (f : Fact) (fs : List Fact) (p : ℕ) → breaks image f p ≡ true → p < covered image → ((q : ℕ) → q < p → breaks image f q ≡ false) → first_broken image (f ∷ fs) ≡ Some (number_of f, p)
named image f fs p holds below before = broken_is image f fs (Some p) (first_found (covered image) 0 (breaks image f) p (omega arith) (omega (arith, below)) holds (λ q low high. before q high))

none_parts : (image : Image) (f : Fact) (fs : List Fact) → first_broken image (f ∷ fs) ≡ None → BreaksNone image f × (first_broken image fs ≡ None)
none_parts image f fs none = by (lowest image f) refl
  where
    by : (o : Option ℕ) → lowest image f ≡ o → BreaksNone image f × (first_broken image fs ≡ None)
    by None e = (lowest_none image f e, sym (broken_is image f fs None e) ∙ none)
    by (Some p) e = absurd (some_none (number_of f, p) (sym (broken_is image f fs (Some p) e) ∙ none))

none_left : (image : Image) → first_broken image [] ≡ None
unfolding first_broken
none_left image = refl

-- where no fact is broken
pub unsound_none : (image : Image) → ((f : Fact) → BreaksNone image f) → unsound image ≡ None
unfolding unsound
unsound_none image none =
    passed image BlankPage _ None (none BlankPage)
    (passed image SystemPlace _ None (none SystemPlace)
    (passed image TakenPast _ None (none TakenPast)
    (passed image LateStamp _ None (none LateStamp)
    (passed image WrongEntry _ None (none WrongEntry)
    (passed image HeaderStamp _ None (none HeaderStamp) (none_left image))))))

none_each : (image : Image) (fs : List Fact) → first_broken image fs ≡ None → AllByRecursion (BreaksNone image) fs
none_each image [] none = tt
none_each image (f ∷ fs) none = let parts = none_parts image f fs none in (parts.0, none_each image fs parts.1)

pub none_unsound : (image : Image) → unsound image ≡ None → (f : Fact) → BreaksNone image f
unfolding unsound
none_unsound image none f = of f
  where
    all : AllByRecursion (BreaksNone image) facts
    all = none_each image facts none

    of : (g : Fact) → BreaksNone image g
    of BlankPage = all.0
    of SystemPlace = all.1.0
    of TakenPast = all.1.1.0
    of LateStamp = all.1.1.1.0
    of WrongEntry = all.1.1.1.1.0
    of HeaderStamp = all.1.1.1.1.1.0

-- the first that all pages break is why it isn't sound
module _ (image : Image) (broken : Broken) (first : IsFirstBelow image (covered image) (Some broken)) where
  before : (f : Fact) → number_of f < number_of broken.fact → BreaksNone image f
  before f less p below = first.2 f p below (inl less)

  lower : (f : Fact) → f ≡ broken.fact → (q : ℕ) → q < broken.page → breaks image f q ≡ false
  lower f same q less = (let below = first.1 in first.2 f q (omega (arith, less, below)) (inr (same, less)))

  at_fact : (f : Fact) → f ≡ broken.fact → breaks image f broken.page ≡ true
  at_fact f same = ap (λ (g : Fact). breaks image g broken.page) same ∙ first.0

  this : (f : Fact) (fs : List Fact) → f ≡ broken.fact → first_broken image (f ∷ fs) ≡ Some (number_of f, broken.page)
  this f fs same = named image f fs broken.page (at_fact f same) first.1 (lower f same)

  earlier : (f g : Fact) → g ≡ broken.fact → number_of f < number_of g → BreaksNone image f
  earlier f g same less = (let number : number_of g ≡ number_of broken.fact = ap number_of same in before f (omega (arith, less, number)))

  by_fact : (g : Fact) → g ≡ broken.fact → first_broken image facts ≡ Some (number_of g, broken.page)
  by_fact BlankPage e = this BlankPage _ e
  by_fact SystemPlace e = passed image BlankPage _ _ (earlier BlankPage SystemPlace e (omega arith)) (this SystemPlace _ e)
  by_fact TakenPast e =
      passed image BlankPage _ _ (earlier BlankPage TakenPast e (omega arith)) (passed image SystemPlace _ _ (earlier SystemPlace TakenPast e (omega arith)) (this TakenPast _ e))
  by_fact LateStamp e =
      passed image BlankPage _ _ (earlier BlankPage LateStamp e (omega arith))
      (passed image SystemPlace _ _ (earlier SystemPlace LateStamp e (omega arith)) (passed image TakenPast _ _ (earlier TakenPast LateStamp e (omega arith)) (this LateStamp _ e)))
  by_fact WrongEntry e =
      passed image BlankPage _ _ (earlier BlankPage WrongEntry e (omega arith))
      (passed image SystemPlace _ _ (earlier SystemPlace WrongEntry e (omega arith))
      (passed image TakenPast _ _ (earlier TakenPast WrongEntry e (omega arith)) (passed image LateStamp _ _ (earlier LateStamp WrongEntry e (omega arith)) (this WrongEntry _ e))))
  by_fact HeaderStamp e =
      passed image BlankPage _ _ (earlier BlankPage HeaderStamp e (omega arith))
      (passed image SystemPlace _ _ (earlier SystemPlace HeaderStamp e (omega arith))
      (passed image TakenPast _ _ (earlier TakenPast HeaderStamp e (omega arith))
      (passed image LateStamp _ _ (earlier LateStamp HeaderStamp e (omega arith)) (passed image WrongEntry _ _ (earlier WrongEntry HeaderStamp e (omega arith)) (this HeaderStamp _ e)))))

  pub unsound_first : unsound image ≡ Some (number_of broken.fact, broken.page)
  unfolding unsound
  unsound_first = by_fact broken.fact refl

pub unsound_not : (image : Image) → IsFirstBelow image (covered image) None → unsound image ≡ None
unsound_not image first = unsound_none image (λ f p below. first f p below)

-- A page has its bit and its entry in inventory pages that stand before it, or less than so many pages after.
covers : (per : ℕ) (place : ℕ → ℕ) → 0 < per → ((k : ℕ) → k * per ≤ place k + 1) → (p n : ℕ) → place (p / per) < n → p < n + per
covers per place some near p n below =
    let whole : p < (p / per) * per + per = lt-div-mul-add {a = p} {b = per} some in
    let begins : (p / per) * per ≤ place (p / per) + 1 = near (p / per) in
    omega (arith, whole, begins, below)

inventory_near : (size k : ℕ) → k * bits_in size ≤ inventory_place size k + 1
inventory_near size zero = omega arith
inventory_near size (suc k) = (let place : inventory_place size (suc k) ≡ suc k * bits_in size - 1 = refl in omega (arith, place))

inventory_covers : (size p n : ℕ) → IsTrue (is_page_size size) → inventory_place size (p / bits_in size) < n → p < n + bits_in size
inventory_covers size p n valid below = covers (bits_in size) (inventory_place size) (let least = bits-least size valid in omega (arith, least)) (inventory_near size) p n below

entry_near : (size k : ℕ) → k * entries_in size ≤ scn_place size k + 1
entry_near size zero = omega arith
entry_near size (suc k) = (let place : scn_place size (suc k) ≡ suc k * entries_in size = refl in omega (arith, place))

entry_covers : (size p n : ℕ) → IsTrue (is_page_size size) → scn_place size (p / entries_in size) < n → p < n + entries_in size
entry_covers size p n valid below = covers (entries_in size) (scn_place size) (let least = entries-least size valid in omega (arith, least)) (entry_near size) p n below

-- a page that breaks a fact has a bit or an entry
pub breaks_below : (image : Image) → IsTrue (is_page_size (image_size image)) → (f : Fact) (p : ℕ) → breaks image f p ≡ true → p < covered image
unfolding breaks
breaks_below image valid BlankPage p holds = (let low = ltb-true p (length image) (and_parts _ _ holds).0 in omega (arith, low))
breaks_below image valid SystemPlace p holds = (let low = ltb-true p (length image) (and_parts _ _ holds).0 in omega (arith, low))
breaks_below image valid TakenPast p holds =
    let parts = and_parts (nat_le (length image) p) (nat_lt (inventory_of image p) (length image) && not (is_free_page image p)) holds in
    inventory_covers (image_size image) p (length image) valid (ltb-true (inventory_of image p) (length image) (and_parts (nat_lt (inventory_of image p) (length image)) (not (is_free_page image p)) parts.1).0)
breaks_below image valid LateStamp p holds = (let low = ltb-true p (length image) (and_parts _ _ holds).0 in omega (arith, low))
breaks_below image valid WrongEntry p holds = elim (or_cases (is_entry_low image p) (is_entry_late image p) (and_parts (has_entry image p) (is_entry_low image p || is_entry_late image p) holds).1) [
  | inl low ↦ (let below = ltb-true p (length image) (and_parts _ _ low).0 in omega (arith, below))
  | inr late ↦
      (let near = entry_covers (image_size image) p (length image) valid (ltb-true _ _ (and_parts _ _ late).0) in
      let few : entries_in (image_size image) ≤ bits_in (image_size image) = omega arith in
      omega (arith, near, few))
]
breaks_below image valid HeaderStamp p holds = (let none = eqb-true p 0 (and_parts _ _ holds).0 in let least = bits-least (image_size image) valid in omega (arith, none, least))
