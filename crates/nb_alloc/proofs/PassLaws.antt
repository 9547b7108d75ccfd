-- The tests of a search for new pages at one page, each as a need that is met or not.
use Rattle.std.proofs.Common.{◌≡◌, ◌≢◌, ℕ, ◌-◌, ◌/◌, List, [], ◌∷◌, ◌++◌, length, refl, sym, ap, subst, ◌∙◌, Bool, true, false, not, ◌==◌, ◌&&◌, nat_lt, IsTrue, Option, Some, None}
use Rattle.nb_alloc.proofs.Common.{true≢false, is_page_size, bits_in, entries_in, is_inventory_place, is_scn_place, is_system_place, most_pages, inventory_kind, scn_kind, Refusal, NotDatabase, Full, Image, image_size, is_kind, inventory_of, scn_page_of, has_entry, free_from, system_kind, Need, first_not, entry_page, is_kept, Cause, first_cause, when, not_kind, eq_no, eq_yes, first_behind, first_append, behind_none, behind_some, first_none, inventory_there, scn_page_there, plain_place, places_apart, need_cause, next_place, maps_up_to, maps_on, entry_on, map_entry_on, own_entry_on, needed_on, IsMadeBehind, same_made, made_here, IsFreshBehind, same_fresh, fresh_here, way_cause, first_here, first_next, none_some, some_none}
use Rattle.nb_alloc.proofs.CauseLaws.{none_behind}
use Rattle.nb_alloc.proofs.PlaceTests.{system_second}

-- the SCN page of an entry: it is made on the way, or there is no entry, or it is tested
pub entry_made : (x : Image) (made q : ℕ) → scn_page_of x q ≡ made → need_cause (first_not x (entry_on x made q)) ≡ None
entry_made x made q same = ap (λ (t : Bool). need_cause (first_not x (elim t as (λ z. List Need) [ true ↦ [] | false ↦ entry_page x q ]))) (eq_yes (scn_page_of x q) made same) ∙ ap need_cause (first_none x)

entry_is : (x : Image) (q : ℕ) (t : Bool) → has_entry x q ≡ t → entry_page x q ≡ elim t as (λ z. List Need) [ true ↦ record { kind = scn_kind; page = scn_page_of x q } ∷ [] | false ↦ [] ]
unfolding entry_page
entry_is x q t e = ap (λ (u : Bool). elim u as (λ z. List Need) [ true ↦ record { kind = scn_kind; page = scn_page_of x q } ∷ [] | false ↦ [] ]) e

entry_asked : (x : Image) (made q : ℕ) → scn_page_of x q ≢ made → entry_on x made q ≡ entry_page x q
entry_asked x made q other = ap (λ (t : Bool). elim t as (λ z. List Need) [ true ↦ [] | false ↦ entry_page x q ]) (eq_no (scn_page_of x q) made other)

pub entry_none : (x : Image) (made q : ℕ) → scn_page_of x q ≢ made → has_entry x q ≡ false → need_cause (first_not x (entry_on x made q)) ≡ None
entry_none x made q other none = ap (λ (ns : List Need). need_cause (first_not x ns)) (entry_asked x made q other ∙ entry_is x q false none) ∙ ap need_cause (first_none x)

one_need : (x : Image) (p : ℕ) (t : Bool) → is_kind x scn_kind p ≡ t → need_cause (first_not x (record { kind = scn_kind; page = p } ∷ [])) ≡ when (not t) (NotDatabase p)
unfolding first_not
one_need x p true e = ap (λ (u : Bool). need_cause (elim u as (λ z. Option ℕ) [ true ↦ None | false ↦ Some p ])) e
one_need x p false e = ap (λ (u : Bool). need_cause (elim u as (λ z. Option ℕ) [ true ↦ None | false ↦ Some p ])) e

pub entry_tested : (x : Image) (made q : ℕ) → scn_page_of x q ≢ made → has_entry x q ≡ true → need_cause (first_not x (entry_on x made q)) ≡ not_kind x scn_kind (scn_page_of x q)
entry_tested x made q other has =
    ap (λ (ns : List Need). need_cause (first_not x ns)) (entry_asked x made q other ∙ entry_is x q true has)
    ∙ one_need x (scn_page_of x q) (is_kind x scn_kind (scn_page_of x q)) refl

-- that of an inventory page: asked for before, or now
pub map_by : (x : Image) (from made p : ℕ) (t : Bool) → (nat_lt 5 from && inventory_of x p == inventory_of x (from - 1)) ≡ t
    → first_not x (map_entry_on x from made p) ≡ first_not x (elim t as (λ z. List Need) [ true ↦ [] | false ↦ entry_on x made (inventory_of x p) ])
map_by x from made p t is = ap (λ (u : Bool). first_not x (elim u as (λ z. List Need) [ true ↦ [] | false ↦ entry_on x made (inventory_of x p) ])) is

-- that of page p itself
pub own_kept : (x : Image) (made p : ℕ) → is_kept x p ≡ true → need_cause (first_not x (own_entry_on x made p)) ≡ None
own_kept x made p is = ap (λ (t : Bool). need_cause (first_not x (elim t as (λ z. List Need) [ true ↦ [] | false ↦ entry_on x made p ]))) is ∙ ap need_cause (first_none x)

pub own_asked : (x : Image) (made p : ℕ) → is_kept x p ≡ false → first_not x (own_entry_on x made p) ≡ first_not x (entry_on x made p)
own_asked x made p is = ap (λ (t : Bool). first_not x (elim t as (λ z. List Need) [ true ↦ [] | false ↦ entry_on x made p ])) is

pub kept_there : (x : Image) (p : ℕ) (t : Bool) → is_system_place (image_size x) p ≡ true → is_kind x (system_kind x p) p ≡ t → is_kept x p ≡ t
unfolding is_kept
kept_there x p t system is = ap (λ (u : Bool). u && is_kind x (system_kind x p) p) system ∙ is

-- The tests in order: the inventory pages, whether a page is left, and the SCN pages.
module _ (x : Image) (from made fresh p : ℕ) (at : p ≡ next_place x from fresh) where
  abbrev maps : Option ℕ
  maps = first_not x (maps_on x from fresh p)

  abbrev asks : Bool → List Need
  asks t = elim t [ true ↦ [] | false ↦ map_entry_on x from made p ++ own_entry_on x made p ]

  cause_is : way_cause x from made fresh ≡ first_cause (need_cause (first_behind maps (first_not x (asks (p == most_pages)))) ∷ when (p == most_pages) (Full most_pages) ∷ [])
  cause_is =
      ap (λ (n : ℕ). first_cause (need_cause (first_not x (needed_on x from made fresh n)) ∷ when (n == most_pages) (Full most_pages) ∷ [])) (sym at)
      ∙ ap (λ (o : Option ℕ). first_cause (need_cause o ∷ when (p == most_pages) (Full most_pages) ∷ [])) (first_append x (maps_on x from fresh p) (asks (p == most_pages)))

  some_first : (o rest : Option ℕ) (r : Refusal) (c : Cause) → need_cause o ≡ Some r → first_cause (need_cause (first_behind o rest) ∷ c ∷ []) ≡ Some r
  some_first (Some q) rest r c e = ap (λ (y : Option ℕ). first_cause (need_cause y ∷ c ∷ [])) (behind_some q rest) ∙ first_here (Some (NotDatabase q)) (c ∷ []) r e
  some_first None rest r c e = absurd (none_some r e)

  need_none : (o : Option ℕ) → need_cause o ≡ None → o ≡ None
  need_none None e = refl
  need_none (Some q) e = absurd (some_none (NotDatabase q) e)

  pub way_maps : (r : Refusal) → need_cause maps ≡ Some r → way_cause x from made fresh ≡ Some r
  way_maps r e = cause_is ∙ some_first maps (first_not x (asks (p == most_pages))) r (when (p == most_pages) (Full most_pages)) e

  module _ (none : need_cause maps ≡ None) where
    rest_is : way_cause x from made fresh ≡ first_cause (need_cause (first_not x (asks (p == most_pages))) ∷ when (p == most_pages) (Full most_pages) ∷ [])
    rest_is =
        cause_is ∙ ap (λ (o : Option ℕ). first_cause (need_cause (first_behind o (first_not x (asks (p == most_pages)))) ∷ when (p == most_pages) (Full most_pages) ∷ [])) (need_none maps none)
        ∙ ap (λ (o : Option ℕ). first_cause (need_cause o ∷ when (p == most_pages) (Full most_pages) ∷ [])) (behind_none (first_not x (asks (p == most_pages))))

    pub way_full : p ≡ most_pages → way_cause x from made fresh ≡ Some (Full most_pages)
    way_full end =
        rest_is ∙ ap (λ (t : Bool). first_cause (need_cause (first_not x (asks t)) ∷ when t (Full most_pages) ∷ [])) (eq_yes p most_pages end)
        ∙ first_next (need_cause (first_not x [])) (Some (Full most_pages) ∷ []) (ap need_cause (first_none x)) ∙ first_here (Some (Full most_pages)) [] (Full most_pages) refl

    module _ (other : p ≢ most_pages) where
      asked_is : way_cause x from made fresh ≡ first_cause (need_cause (first_behind (first_not x (map_entry_on x from made p)) (first_not x (own_entry_on x made p))) ∷ None ∷ [])
      asked_is =
          rest_is ∙ ap (λ (t : Bool). first_cause (need_cause (first_not x (asks t)) ∷ when t (Full most_pages) ∷ [])) (eq_no p most_pages other)
          ∙ ap (λ (o : Option ℕ). first_cause (need_cause o ∷ None ∷ [])) (first_append x (map_entry_on x from made p) (own_entry_on x made p))

      pub way_map_entry : (r : Refusal) → need_cause (first_not x (map_entry_on x from made p)) ≡ Some r → way_cause x from made fresh ≡ Some r
      way_map_entry r e = asked_is ∙ some_first (first_not x (map_entry_on x from made p)) (first_not x (own_entry_on x made p)) r None e

      pub way_own : need_cause (first_not x (map_entry_on x from made p)) ≡ None → way_cause x from made fresh ≡ need_cause (first_not x (own_entry_on x made p))
      way_own e =
          asked_is ∙ ap (λ (o : Option ℕ). first_cause (need_cause (first_behind o (first_not x (own_entry_on x made p))) ∷ None ∷ [])) (need_none (first_not x (map_entry_on x from made p)) e)
          ∙ ap (λ (o : Option ℕ). first_cause (need_cause o ∷ None ∷ [])) (behind_none (first_not x (own_entry_on x made p))) ∙ none_behind (need_cause (first_not x (own_entry_on x made p)))

-- where the search goes on, and what it reads for that
pub place_fresh : (x : Image) (from fresh : ℕ) → inventory_of x from ≡ fresh → next_place x from fresh ≡ from
place_fresh x from fresh own = ap (λ (t : Bool). elim t as (λ z. ℕ) [ true ↦ from | false ↦ free_from (length x - from) from x ]) (eq_yes (inventory_of x from) fresh own)

pub place_free : (x : Image) (from fresh : ℕ) → inventory_of x from ≢ fresh → next_place x from fresh ≡ free_from (length x - from) from x
place_free x from fresh other = ap (λ (t : Bool). elim t as (λ z. ℕ) [ true ↦ from | false ↦ free_from (length x - from) from x ]) (eq_no (inventory_of x from) fresh other)

pub maps_fresh : (x : Image) (from fresh p : ℕ) → inventory_of x from ≡ fresh → need_cause (first_not x (maps_on x from fresh p)) ≡ None
maps_fresh x from fresh p own = ap (λ (t : Bool). need_cause (first_not x (elim t as (λ z. List Need) [ true ↦ [] | false ↦ maps_up_to x from p ]))) (eq_yes (inventory_of x from) fresh own) ∙ ap need_cause (first_none x)

pub maps_free : (x : Image) (from fresh p : ℕ) → inventory_of x from ≢ fresh → maps_on x from fresh p ≡ maps_up_to x from p
maps_free x from fresh p other = ap (λ (t : Bool). elim t as (λ z. List Need) [ true ↦ [] | false ↦ maps_up_to x from p ]) (eq_no (inventory_of x from) fresh other)

-- where no fresh inventory page is at hand, it is refused as its search of the inventories is
pub maps_cause : (x : Image) (from fresh p : ℕ) → inventory_of x from ≢ fresh → p ≡ free_from (length x - from) from x
    → need_cause (first_not x (maps_on x from fresh (next_place x from fresh))) ≡ need_cause (first_not x (maps_up_to x from p))
maps_cause x from fresh p other at =
    ap (λ (ns : List Need). need_cause (first_not x ns)) (maps_free x from fresh (next_place x from fresh) other)
    ∙ ap (λ (n : ℕ). need_cause (first_not x (maps_up_to x from n))) (place_free x from fresh other ∙ sym at)

-- nothing is refused for no cause
pub none_is : (r : Refusal) (c : Cause) → None ≡ Some r → c ≡ Some r
none_is r c e = cc

-- The places of system pages that were passed without their pages, after page p.
module _ (x : Image) (p : ℕ) (size : IsTrue (is_page_size (image_size x))) where
  pub kind_map : is_inventory_place (image_size x) p ≡ true → system_kind x p ≡ 2
  kind_map e = ap (λ (t : Bool). elim t as (λ z. ℕ) [ true ↦ 2 | false ↦ 10 ]) e

  pub kind_entries : is_inventory_place (image_size x) p ≡ false → system_kind x p ≡ 10
  kind_entries e = ap (λ (t : Bool). elim t as (λ z. ℕ) [ true ↦ 2 | false ↦ 10 ]) e

  pub no_map : is_scn_place (image_size x) p ≡ true → is_inventory_place (image_size x) p ≡ false
  no_map at = by (is_inventory_place (image_size x) p) refl
    where
      by : (t : Bool) → is_inventory_place (image_size x) p ≡ t → is_inventory_place (image_size x) p ≡ false
      by false e = e
      by true e = absurd (places_apart (image_size x) p size e at)

  -- its system page stands there
  module _ (there : is_kind x (system_kind x p) p ≡ true) where
    pub made_kept : (made : ℕ) → IsMadeBehind x p made made
    made_kept made = same_made refl (λ at. ap (λ (k : ℕ). is_kind x k p) (sym (kind_entries (no_map at))) ∙ there)

    pub fresh_kept : (fresh : ℕ) → IsFreshBehind x p fresh fresh
    fresh_kept fresh = same_fresh refl (λ at. ap (λ (k : ℕ). is_kind x k p) (sym (kind_map at)) ∙ there)

  -- an inventory page is about to be made there,
  module _ (at : is_inventory_place (image_size x) p ≡ true) where
    pub made_map : (made : ℕ) → IsMadeBehind x p made made
    made_map made = same_made refl (λ scn. absurd (places_apart (image_size x) p size at scn))

    pub fresh_map : is_kind x (system_kind x p) p ≡ false → (fresh : ℕ) → IsFreshBehind x p fresh p
    fresh_map none fresh = fresh_here refl at (ap (λ (k : ℕ). is_kind x k p) (sym (kind_map at)) ∙ none)

  -- or an SCN page
  module _ (other : is_inventory_place (image_size x) p ≡ false) where
    pub made_entries : is_system_place (image_size x) p ≡ true → is_kind x (system_kind x p) p ≡ false → (made : ℕ) → IsMadeBehind x p made p
    made_entries system none made = made_here refl (system_second (image_size x) p other ∙ system) (ap (λ (k : ℕ). is_kind x k p) (sym (kind_entries other)) ∙ none)

    pub fresh_entries : (fresh : ℕ) → IsFreshBehind x p fresh fresh
    fresh_entries fresh = same_fresh refl (λ at. absurd (true≢false (sym at ∙ other)))

-- no system page stands at page p
pub made_plain : (x : Image) (p made : ℕ) → is_system_place (image_size x) p ≡ false → IsMadeBehind x p made made
made_plain x p made plain = same_made refl (λ at. absurd (true≢false (sym at ∙ (plain_place (image_size x) p plain).1)))

pub fresh_plain : (x : Image) (p fresh : ℕ) → is_system_place (image_size x) p ≡ false → IsFreshBehind x p fresh fresh
fresh_plain x p fresh plain = same_fresh refl (λ at. absurd (true≢false (sym at ∙ (plain_place (image_size x) p plain).0)))

-- Whether the system page of page p that was looked for at this place is there.
module _ (x : Image) (size p place : ℕ) (there test : Bool) (same : size ≡ image_size x) (sized : IsTrue (is_page_size size)) (read : there ≡ is_kind x (system_kind x place) place) (is : there ≡ test) where
  x_sized : IsTrue (is_page_size (image_size x))
  x_sized = subst (λ (s : ℕ). IsTrue (is_page_size s)) same sized

  of_kind : (kind q : ℕ) → place ≡ q → system_kind x q ≡ kind → is_kind x kind q ≡ test
  of_kind kind q at kinds = ap (λ (n : ℕ). is_kind x n q) (sym kinds) ∙ ap (λ (r : ℕ). is_kind x (system_kind x r) r) (sym at) ∙ sym read ∙ is

  -- its inventory page,
  pub map_found : place ≡ inventory_of x p → is_kind x inventory_kind (inventory_of x p) ≡ test
  map_found at = of_kind 2 (inventory_of x p) at (kind_map x (inventory_of x p) x_sized (inventory_there (image_size x) (p / bits_in (image_size x)) x_sized))

  -- or the SCN page with its entry
  pub entries_found : place ≡ scn_page_of x p → is_kind x scn_kind (scn_page_of x p) ≡ test
  entries_found at =
      let apart = no_map x (scn_page_of x p) x_sized (scn_page_there (image_size x) (p / entries_in (image_size x)) x_sized) in
      of_kind 10 (scn_page_of x p) at (kind_entries x (scn_page_of x p) x_sized apart)
