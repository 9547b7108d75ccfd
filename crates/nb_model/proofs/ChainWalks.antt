-- A chain is the same chain in another image that has its pages, or pages that lead on as they did.
use Rattle.std.proofs.Common.{◌≡◌, ℕ, zero, suc, ◌<◌, ◌≤◌, List, [], ◌∷◌, ◌++◌, length, refl, sym, ap, subst, ◌∙◌, arith, Bool, true, false, ◌==◌, nat_lt, Result, Ok, Err, None}
use Rattle.nb_model.proofs.Common.{AllByRecursion, list_all, and_parts, and_from, lt-ltb, ltb-true, eq-eqb, eqb-true, kind_of, data_kind, broken_at, Chain, first_of, owner_of, owner_in, next_in, is_slot, slots_in, is_in_chain, linked, walk, pages_of, found_pages, spots_on, spots_of, spots, Page, Image, page_at, err_ok, ok_same}

-- a page has the form of those of the chain
pub record HasForm (chain : Chain) (page : Page) : Type 0 where
  pub of_kind : kind_of page ≡ data_kind
  pub owner : owner_in page ≡ owner_of chain
  pub slots : list_all (is_slot chain) (slots_in page) ≡ true

pub form_there : (chain : Chain) (image : Image) (p : ℕ) → is_in_chain chain image p ≡ true → HasForm chain (page_at image p)
unfolding is_in_chain
form_there chain image p is =
    let rest = (and_parts (nat_lt p (length image)) _ is).1 in
    let kind = and_parts (kind_of (page_at image p) == data_kind) _ rest in
    let owner = and_parts (owner_in (page_at image p) == owner_of chain) _ kind.1 in
    record { of_kind = eqb-true (kind_of (page_at image p)) 5 kind.0; owner = eqb-true (owner_in (page_at image p)) (owner_of chain) owner.0; slots = owner.1 }

pub there_by : (chain : Chain) (image : Image) (p : ℕ) → p < length image → HasForm chain (page_at image p) → is_in_chain chain image p ≡ true
unfolding is_in_chain
there_by chain image p low form =
    and_from (nat_lt p (length image)) _ (lt-ltb p (length image) low)
    (and_from (kind_of (page_at image p) == data_kind) _ (eq-eqb (kind_of (page_at image p)) 5 form.of_kind) (and_from (owner_in (page_at image p) == owner_of chain) _ (eq-eqb (owner_in (page_at image p)) (owner_of chain) form.owner) form.slots))

-- A page of a chain is one in another image, and leads on to the same page.
pub record StaysLinked (chain : Chain) (x y : Image) (q : ℕ) : Type 0 where
  pub in_it : is_in_chain chain y q ≡ true
  pub next : next_in (page_at y q) ≡ next_in (page_at x q)

-- so where the page is the same
pub linked_same : (chain : Chain) (x y : Image) (q : ℕ) → length x ≤ length y → is_in_chain chain x q ≡ true → page_at y q ≡ page_at x q → StaysLinked chain x y q
unfolding is_in_chain
linked_same chain x y q longer in_it same = record {
  in_it = there_by chain y q (let low = ltb-true q (length x) (and_parts (nat_lt q (length x)) _ in_it).0 in omega (arith, low, longer)) (subst (HasForm chain) (sym same) (form_there chain x q in_it));
  next = ap next_in same;
}

-- A walk by its tests.
abbrev pub onward : (chain : Chain) (image : Image) (left p : ℕ) → Bool → Result (List ℕ) ℕ
onward chain image left p t = elim t as (λ z. Result (List ℕ) ℕ) [ true ↦ Ok (p ∷ []) | false ↦ linked p (walk left chain image (next_in (page_at image p))) ]

abbrev chosen : (chain : Chain) (image : Image) (left p : ℕ) → Bool → Bool → Result (List ℕ) ℕ
chosen chain image left p t u = elim t as (λ z. Result (List ℕ) ℕ) [ false ↦ Err p | true ↦ onward chain image left p u ]

walk_is : (left : ℕ) (chain : Chain) (image : Image) (p : ℕ) → walk (suc left) chain image p ≡ chosen chain image left p (is_in_chain chain image p) (next_in (page_at image p) == 0)
unfolding walk
walk_is left chain image p = refl

pub walk_on_is : (left : ℕ) (chain : Chain) (image : Image) (p : ℕ) → is_in_chain chain image p ≡ true → walk (suc left) chain image p ≡ onward chain image left p (next_in (page_at image p) == 0)
walk_on_is left chain image p is = walk_is left chain image p ∙ ap (λ (t : Bool). chosen chain image left p t (next_in (page_at image p) == 0)) is

pub walk_zero : (chain : Chain) (image : Image) (p : ℕ) → walk zero chain image p ≡ Err p
unfolding walk
walk_zero chain image p = refl

-- What a walk that ends well goes over: one page, or one page and what the walk from its next goes over.
pub data IsWalk (chain : Chain) (image : Image) (left p : ℕ) : List ℕ → Type 0 where
  ends : next_in (page_at image p) ≡ 0 → IsWalk chain image left p (p ∷ [])
  leads : (qs : List ℕ) → (next_in (page_at image p) == 0) ≡ false → walk left chain image (next_in (page_at image p)) ≡ Ok qs → IsWalk chain image left p (p ∷ qs)

pub record Walks (chain : Chain) (image : Image) (left p : ℕ) (ps : List ℕ) : Type 0 where
  pub in_it : is_in_chain chain image p ≡ true
  pub goes : IsWalk chain image left p ps

pub walk_cases : (left : ℕ) (chain : Chain) (image : Image) (p : ℕ) (ps : List ℕ) → walk (suc left) chain image p ≡ Ok ps → Walks chain image left p ps
walk_cases left chain image p ps e = by (is_in_chain chain image p) (next_in (page_at image p) == 0) refl refl
  where
    by_rest : (r : Result (List ℕ) ℕ) → walk left chain image (next_in (page_at image p)) ≡ r → linked p r ≡ Ok ps → (next_in (page_at image p) == 0) ≡ false → IsWalk chain image left p ps
    by_rest (Ok qs) is h more = subst (IsWalk chain image left p) (ok_same (p ∷ qs) ps (Ok (p ∷ qs)) refl h) (leads qs more is)
    by_rest (Err q) is h more = absurd (err_ok q ps h)

    by : (t u : Bool) → is_in_chain chain image p ≡ t → (next_in (page_at image p) == 0) ≡ u → Walks chain image left p ps
    by false u is next = absurd (err_ok p ps (sym (walk_is left chain image p ∙ ap (λ (b : Bool). chosen chain image left p b (next_in (page_at image p) == 0)) is) ∙ e))
    by true true is next = record {
      in_it = is;
      goes = subst (IsWalk chain image left p) (ok_same (p ∷ []) ps (walk (suc left) chain image p) (walk_on_is left chain image p is ∙ ap (onward chain image left p) next) e) (ends (eqb-true (next_in (page_at image p)) 0 next));
    }
    by true false is next = record {
      in_it = is;
      goes = by_rest (walk left chain image (next_in (page_at image p))) refl (sym (walk_on_is left chain image p is ∙ ap (onward chain image left p) next) ∙ e) next;
    }

-- where each page stays linked the walk is the same, with as many pages left at least
pub walk_stays : (n m : ℕ) (chain : Chain) (x y : Image) (p : ℕ) (ps : List ℕ) → walk n chain x p ≡ Ok ps → n ≤ m → AllByRecursion (StaysLinked chain x y) ps → walk m chain y p ≡ Ok ps
walk_stays zero m chain x y p ps e le all = absurd (err_ok p ps (sym (walk_zero chain x p) ∙ e))
walk_stays (suc n) zero chain x y p ps e le all = absurd (omega (arith, le))
walk_stays (suc n) (suc m) chain x y p ps e le all = by ps (walk_cases n chain x p ps e).goes all (λ qs h rest. walk_stays n m chain x y (next_in (page_at x p)) qs h (omega (arith, le)) rest)
  where
    by : (qs : List ℕ) → IsWalk chain x n p qs → AllByRecursion (StaysLinked chain x y) qs
        → ((rs : List ℕ) → walk n chain x (next_in (page_at x p)) ≡ Ok rs → AllByRecursion (StaysLinked chain x y) rs → walk m chain y (next_in (page_at x p)) ≡ Ok rs)
        → walk (suc m) chain y p ≡ Ok qs
    by qs (ends last) all rest = walk_on_is m chain y p all.0.in_it ∙ ap (onward chain y m p) (eq-eqb (next_in (page_at y p)) 0 (all.0.next ∙ last))
    by qs (leads rs more is) all rest =
        walk_on_is m chain y p all.0.in_it ∙ ap (onward chain y m p) (ap (λ (k : ℕ). k == 0) all.0.next ∙ more)
        ∙ ap (linked p) (ap (walk m chain y) all.0.next ∙ rest rs is all.1)

-- So a chain is the same.
pub pages_stay : (chain : Chain) (x y : Image) (ps : List ℕ) → pages_of chain x ≡ Ok ps → length x ≤ length y → AllByRecursion (StaysLinked chain x y) ps → pages_of chain y ≡ Ok ps
unfolding pages_of
pages_stay chain x y ps is longer all = walk_stays (length x) (length y) chain x y (first_of chain) ps is longer all

pub found_is : (chain : Chain) (image : Image) (ps : List ℕ) → pages_of chain image ≡ Ok ps → found_pages chain image ≡ ps
unfolding found_pages
found_is chain image ps is = ap (λ (r : Result (List ℕ) ℕ). elim r as (λ z. List ℕ) [ Ok qs ↦ qs | Err p ↦ [] ]) is

pub ok_found : (chain : Chain) (image : Image) → broken_at (pages_of chain image) ≡ None → pages_of chain image ≡ Ok (found_pages chain image)
ok_found chain image none = by (pages_of chain image) refl none
  where
    by : (r : Result (List ℕ) ℕ) → pages_of chain image ≡ r → broken_at r ≡ None → pages_of chain image ≡ Ok (found_pages chain image)
    by (Ok ps) is e = is ∙ ap Ok (sym (found_is chain image ps is))
    by (Err p) is e = cc

-- Pages that are the same have the same slots.
pub spots_same : (x y : Image) (ps : List ℕ) → AllByRecursion (λ (q : ℕ). page_at y q ≡ page_at x q) ps → spots_of y ps ≡ spots_of x ps
unfolding spots_of
spots_same x y [] same = refl
spots_same x y (p ∷ ps) same = ap (λ (page : Page). spots_on p 0 (slots_in page) ++ spots_of y ps) same.0 ∙ ap (λ us. spots_on p 0 (slots_in (page_at x p)) ++ us) (spots_same x y ps same.1)

pub spots_are : (chain : Chain) (image : Image) (ps : List ℕ) → pages_of chain image ≡ Ok ps → spots chain image ≡ spots_of image ps
unfolding spots
spots_are chain image ps is = ap (spots_of image) (found_is chain image ps is)
