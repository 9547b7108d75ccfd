-- The pages of a chain are given back one after the other, along their links, which stay.
use Rattle.std.proofs.Common.{◌≡◌, ◌≢◌, ℕ, zero, suc, ◌-◌, ◌<◌, List, [], ◌∷◌, ◌++◌, length, refl, sym, ap, subst, append_assoc, ◌∙◌, arith, true, None, Ok, Err}
use Rattle.nb_table.proofs.Common.{AllByRecursion, true≢false, append-nil, data_kind, World, Fault, Quiet, Chain, first_of, owner_of, owner_in, next_in, is_in_chain, walk, pages_of, Draft, drafted, give_page, Image, page_at, Stroke, all_given, Trail, after_stroke, IsWalk, walk_cases, walk_zero, IsOf, drafted_is, drafts_are, set_bit_keeps, eq_yes, chain_owner, IsShaped, kind_parts, after_strokes, IsNoRefusal, Held, IsOpen, Makes, makes_none, makes_then, makes_front, not_data, mark_cause, StopsShort, Tries, WhereMemory, short_front, short_then, wanted_as, wanted_so, owner_is, tries_made, sure_of, makes_valued, image_is, IsGivenOn, given_cause, given_on, give_same, kind_is, IsGivable, err_ok, unless_none, given_none, given_first, all_go, all_both}
use Rattle.nb_change.proofs.ReachedLaws.{after_all-joined}
use Rattle.nb_model.proofs.ChainWalks.{ends as walk_ends, leads as walk_leads, Walks}

-- it is so where pages keep their kinds
givable_on : (x y : Image) (q : ℕ) → IsGivenOn x y → IsGivable x q → IsGivable y q
givable_on x y q on h = record { some = h.some; kind = on.kinds 5 q ∙ h.kind; given = give_same x y q on ∙ h.given }

-- Some pages of a chain were given back; the others are still to come, `number` next.
pub record IsGiving (chain : Chain) (pages : List ℕ) (old now : World) (a b : Held) (t : Trail) (left number : ℕ) : Type 0 where
  pub made : List Stroke
  pub rest : List ℕ
  pub makes : Makes {T = Unit {0}} (Ok tt) old now a b t made
  pub shaped : IsShaped (after_strokes t made).base.image
  pub walks : walk left chain t.base.image number ≡ Ok rest
  pub givable : AllByRecursion (IsGivable (after_strokes t made).base.image) rest
  pub same : AllByRecursion (λ (q : ℕ). page_at (after_strokes t made).base.image q ≡ page_at t.base.image q) rest
  pub strokes : (all_given pages (drafted t.base.image)).strokes ≡ made ++ (all_given rest (drafted (after_strokes t made).base.image)).strokes

-- none was given back yet
pub giving_begun : (chain : Chain) (pages : List ℕ) (w : World) (a : Held) (t : Trail) (left number : ℕ) → Quiet w w → IsOpen w a t → IsShaped t.base.image → pages_of chain t.base.image ≡ Ok pages
    → AllByRecursion (IsGivable t.base.image) pages → left ≡ length t.base.image → number ≡ first_of chain → IsGiving chain pages w w a a t left number
unfolding pages_of
giving_begun chain pages w a t left number quiet is shaped found givable all first = record {
  made = [];
  rest = pages;
  makes = makes_none {T = Unit {0}} (Ok tt) w w a a t refl quiet is is;
  shaped = shaped;
  walks = ap (λ (n : ℕ). walk n chain t.base.image number) all ∙ ap (walk (length t.base.image) chain t.base.image) first ∙ found;
  givable = givable;
  same = all_same t.base.image pages;
  strokes = refl;
}
  where
    all_same : (x : Image) (ps : List ℕ) → AllByRecursion (λ (q : ℕ). page_at x q ≡ page_at x q) ps
    all_same x [] = tt
    all_same x (p ∷ ps) = (refl, all_same x ps)

-- A walk goes on from its first page.
pub record IsFirst (chain : Chain) (image : Image) (left number : ℕ) (rest : List ℕ) : Type 0 where
  pub then : List ℕ
  pub is : rest ≡ number ∷ then
  pub in_it : is_in_chain chain image number ≡ true
  pub ends : next_in (page_at image number) ≡ 0 → then ≡ []
  pub leads : next_in (page_at image number) ≢ 0 → walk left chain image (next_in (page_at image number)) ≡ Ok then

pub walk_first : (chain : Chain) (image : Image) (left number : ℕ) (rest : List ℕ) → walk (suc left) chain image number ≡ Ok rest → IsFirst chain image left number rest
walk_first chain image left number rest e = let w : Walks chain image left number rest = walk_cases left chain image number rest e in by rest w.in_it w.goes
  where
    by : (ps : List ℕ) → is_in_chain chain image number ≡ true → IsWalk chain image left number ps → IsFirst chain image left number ps
    by ps in_it (walk_ends last) = record { then = []; is = refl; in_it = in_it; ends = λ e. refl; leads = λ ne. absurd (ne last) }
    by ps in_it (walk_leads qs more is) = record {
      then = qs;
      is = refl;
      in_it = in_it;
      ends = λ e. absurd (true≢false (sym (eq_yes (next_in (page_at image number)) 0 e) ∙ more));
      leads = λ ne. is;
    }

-- A page is given back.
module _ (chain : Chain) (pages : List ℕ) (old mid : World) (a b : Held) (t : Trail) (left number : ℕ) (g : IsGiving chain pages old mid a b t (suc left) number) where
  abbrev x : Image
  x = t.base.image

  abbrev u : Trail
  u = after_strokes t g.made

  abbrev z : Image
  z = u.base.image

  abbrev d : Draft
  d = give_page number (drafted z)

  abbrev all : List Stroke
  all = (all_given pages (drafted x)).strokes

  one : IsFirst chain x left number g.rest
  one = walk_first chain x left number g.rest g.walks

  givable : AllByRecursion (IsGivable z) (number ∷ one.then)
  givable = subst (AllByRecursion (IsGivable z)) one.is g.givable

  same : AllByRecursion (λ (q : ℕ). page_at z q ≡ page_at x q) (number ∷ one.then)
  same = subst (AllByRecursion (λ (q : ℕ). page_at z q ≡ page_at x q)) one.is g.same

  below : number < length z
  below = (kind_parts z data_kind number givable.0.kind).0

  data_here : not_data z (owner_of chain) number ≡ None
  data_here =
      owner_is z (owner_of chain) number (kind_is z data_kind number below (kind_parts z data_kind number givable.0.kind).1) (ap owner_in same.0 ∙ chain_owner chain x number one.in_it)

  free : mark_cause z number ≡ None
  free = given_cause z g.shaped number givable.0.some below givable.0.given

  on : IsGivenOn z d.image
  on = given_on z g.shaped number givable.0.some below givable.0.given

  all_is : all ≡ g.made ++ (d.strokes ++ (all_given one.then (drafted d.image)).strokes)
  all_is = g.strokes ∙ ap (λ (ps : List ℕ). g.made ++ (all_given ps (drafted z)).strokes) one.is ∙ ap (λ (ss : List Stroke). g.made ++ ss) (given_first number one.then z)

  failed : (fault : Fault) (new : World) (c : Held) → Tries {T = ℕ} (Err fault) mid new b c u (mark_cause z number) d.strokes → Tries {T = Unit {0}} (Err fault) old new a c t None all
  failed fault new c tries =
      let sure : IsNoRefusal fault = sure_of {T = ℕ} (Err fault) (mark_cause z number) free tries.test in
      let these = unless_none (mark_cause z number) d.strokes free in
      let makes : Makes {T = ℕ} (Err fault) mid new b c u d.strokes = subst (λ (ss : List Stroke). Makes {T = ℕ} (Err fault) mid new b c u ss) these tries.makes in
      let stops = subst (λ (ss : List Stroke). WhereMemory {T = ℕ} (Err fault) (StopsShort mid new b c u ss)) these tries.stops in
      let others : List Stroke = (all_given one.then (drafted d.image)).strokes in
      tries_made {T = Unit {0}} (Err fault) old new a c t None all refl sure
      (subst (λ (ss : List Stroke). Makes {T = Unit {0}} (Err fault) old new a c t ss) (sym all_is)
      (makes_then tt (Err fault) old mid new a b c t g.made (d.strokes ++ (all_given one.then (drafted d.image)).strokes) g.makes
      (makes_front ℕ (Unit {0}) fault mid new b c u d.strokes (all_given one.then (drafted d.image)).strokes sure makes)))
      (wanted_so {T = Unit {0}} (Err fault) (StopsShort mid new b c u d.strokes) (StopsShort old new a c t all)
      (λ short. subst (λ (ss : List Stroke). StopsShort old new a c t ss) (sym all_is) (short_then tt old mid new a b c t g.made (d.strokes ++ others) g.makes (short_front mid new b c u d.strokes others short)))
      (wanted_as ℕ (Unit {0}) fault (StopsShort mid new b c u d.strokes) stops))

  makes_then_this : (next : ℕ) (new : World) (c : Held) → Tries (Ok next) mid new b c u (mark_cause z number) d.strokes → Makes {T = Unit {0}} (Ok tt) old new a c t (g.made ++ d.strokes)
  makes_then_this next new c tries = makes_then tt (Ok tt) old mid new a b c t g.made d.strokes g.makes (makes_valued {S = ℕ} next tt mid new b c u d.strokes (subst (λ (ss : List Stroke). Makes (Ok next) mid new b c u ss) (unless_none (mark_cause z number) d.strokes free) tries.makes))

  next_is : (next : ℕ) → next ≡ next_in (page_at z number) → next ≡ next_in (page_at x number)
  next_is next e = e ∙ ap next_in same.0

  -- it was the last
  last : (next : ℕ) (new : World) (c : Held) → Tries (Ok next) mid new b c u (mark_cause z number) d.strokes → next ≡ next_in (page_at z number) → next ≡ 0 → Tries {T = Unit {0}} (Ok tt) old new a c t None all
  last next new c tries link zero_next =
      let none : one.then ≡ [] = one.ends (sym (next_is next link) ∙ zero_next) in
      let these : all ≡ g.made ++ d.strokes =
      all_is ∙ ap (λ (ps : List ℕ). g.made ++ (d.strokes ++ (all_given ps (drafted d.image)).strokes)) none ∙ ap (λ (ss : List Stroke). g.made ++ (d.strokes ++ ss)) (given_none d.image)
      ∙ ap (λ (ss : List Stroke). g.made ++ ss) (append-nil d.strokes) in
      tries_made {T = Unit {0}} (Ok tt) old new a c t None all refl tt (subst (λ (ss : List Stroke). Makes {T = Unit {0}} (Ok tt) old new a c t ss) (sym these) (makes_then_this next new c tries)) tt

  -- others are still to come
  abbrev v : Trail
  v = after_strokes t (g.made ++ d.strokes)

  image_then : v.base.image ≡ d.image
  image_then =
      ap (λ (w : Trail). w.base.image) (after_all-joined after_stroke t g.made d.strokes)
      ∙ image_is u number d (set_bit_keeps (IsOf u.base) (drafts_are u.base) 1 number (drafted z) (drafted_is u.base)) d.strokes refl

  same_then : AllByRecursion (λ (q : ℕ). page_at d.image q ≡ page_at x q) one.then
  same_then = all_go (λ (q : ℕ). IsGivable z q × (page_at z q ≡ page_at x q)) (λ (q : ℕ). page_at d.image q ≡ page_at x q) one.then
      (λ q both. on.kept q both.0.kind ∙ both.1)
      (all_both (IsGivable z) (λ (q : ℕ). page_at z q ≡ page_at x q) one.then givable.1 same.1)

  onward : (next : ℕ) (new : World) (c : Held) → Tries (Ok next) mid new b c u (mark_cause z number) d.strokes → next ≡ next_in (page_at z number) → next ≢ 0 → IsGiving chain pages old new a c t left next
  onward next new c tries link some = record {
    made = g.made ++ d.strokes;
    rest = one.then;
    makes = makes_then_this next new c tries;
    shaped = subst IsShaped (sym image_then) on.shaped;
    walks = ap (walk left chain x) (next_is next link) ∙ one.leads (λ e. some (next_is next link ∙ e));
    givable = subst (λ (y : Image). AllByRecursion (IsGivable y) one.then) (sym image_then) (all_go (IsGivable z) (IsGivable d.image) one.then (λ q h. givable_on z d.image q on h) givable.1);
    same = subst (λ (y : Image). AllByRecursion (λ (q : ℕ). page_at y q ≡ page_at x q) one.then) (sym image_then) same_then;
    strokes = all_is ∙ sym (append_assoc g.made d.strokes (all_given one.then (drafted d.image)).strokes)
        ∙ ap (λ (y : Image). (g.made ++ d.strokes) ++ (all_given one.then (drafted y)).strokes) (sym image_then);
  }

-- The same where some pages are left to look at.
module _ (chain : Chain) (pages : List ℕ) (old mid : World) (a b : Held) (t : Trail) where
  pub giving_data : (left number : ℕ) → 0 < left → (g : IsGiving chain pages old mid a b t left number) → not_data (after_strokes t g.made).base.image (owner_of chain) number ≡ None
  giving_data zero number some g = absurd (omega (arith, some))
  giving_data (suc left) number some g = data_here chain pages old mid a b t left number g

  pub giving_failed : (left number : ℕ) → 0 < left → (g : IsGiving chain pages old mid a b t left number) (fault : Fault) (new : World) (c : Held)
      → Tries {T = ℕ} (Err fault) mid new b c (after_strokes t g.made) (mark_cause (after_strokes t g.made).base.image number) (give_page number (drafted (after_strokes t g.made).base.image)).strokes
      → Tries {T = Unit {0}} (Err fault) old new a c t None (all_given pages (drafted t.base.image)).strokes
  giving_failed zero number some g fault new c tries = absurd (omega (arith, some))
  giving_failed (suc left) number some g fault new c tries = failed chain pages old mid a b t left number g fault new c tries

  pub giving_last : (left number : ℕ) → 0 < left → (g : IsGiving chain pages old mid a b t left number) (next : ℕ) (new : World) (c : Held)
      → Tries (Ok next) mid new b c (after_strokes t g.made) (mark_cause (after_strokes t g.made).base.image number) (give_page number (drafted (after_strokes t g.made).base.image)).strokes → next ≡ next_in (page_at (after_strokes t g.made).base.image number) → next ≡ 0
      → Tries {T = Unit {0}} (Ok tt) old new a c t None (all_given pages (drafted t.base.image)).strokes
  giving_last zero number some g next new c tries link last_next = absurd (omega (arith, some))
  giving_last (suc left) number some g next new c tries link last_next = last chain pages old mid a b t left number g next new c tries link last_next

  pub giving_onward : (left number : ℕ) → 0 < left → (g : IsGiving chain pages old mid a b t left number) (next : ℕ) (new : World) (c : Held)
      → Tries (Ok next) mid new b c (after_strokes t g.made) (mark_cause (after_strokes t g.made).base.image number) (give_page number (drafted (after_strokes t g.made).base.image)).strokes → next ≡ next_in (page_at (after_strokes t g.made).base.image number) → next ≢ 0
      → IsGiving chain pages old new a c t (left - 1) next
  giving_onward zero number some g next new c tries link more = absurd (omega (arith, some))
  giving_onward (suc left) number some g next new c tries link more =
      let fewer : left ≡ suc left - 1 = omega arith in
      subst (λ (n : ℕ). IsGiving chain pages old new a c t n next) fewer (onward chain pages old mid a b t left number g next new c tries link more)

  -- some always are
  pub giving_over : (left number : ℕ) → left ≡ 0 → IsGiving chain pages old mid a b t left number → ⊥
  giving_over zero number none g = err_ok number g.rest (sym (walk_zero chain t.base.image number) ∙ g.walks)
  giving_over (suc left) number none g = absurd (omega (arith, none))

  -- what is open
  pub giving_opened : (left number : ℕ) → (g : IsGiving chain pages old mid a b t left number) → IsOpen mid b (after_strokes t g.made)
  giving_opened left number g = g.makes.opened
