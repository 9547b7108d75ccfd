-- The pages that a change needs: the first that isn't of its kind.
use Rattle.std.proofs.Common.{◌≡◌, inl, inr, ℕ, zero, suc, ◌+◌, ◌/◌, ◌<◌, ◌≤◌, List, [], ◌∷◌, ◌++◌, refl, sym, ap, ◌∙◌, arith, Bool, true, false, ◌==◌, ◌||◌, Option, Some, None}
use Rattle.nb_model.proofs.Common.{eqb_tells, entries_in, inventory_place, scn_place, is_scn_place, inventory_kind, scn_kind, Image, image_size, HasItsEntry, is_kind, scn_page_of, has_entry, Need, first_not, maps_from, entry_page, some_none}

-- the first that isn't of its kind, of pages after others
pub first_behind : Option ℕ → Option ℕ → Option ℕ
first_behind None next = next
first_behind (Some q) next = Some q

pub first_append : (x : Image) (ns ms : List Need) → first_not x (ns ++ ms) ≡ first_behind (first_not x ns) (first_not x ms)
unfolding first_not first_behind
first_append x [] ms = refl
first_append x (n ∷ ns) ms = by (is_kind x n.kind n.page) (first_append x ns ms)
  where
    by : (t : Bool) → first_not x (ns ++ ms) ≡ first_behind (first_not x ns) (first_not x ms)
        → (elim t as (λ z. Option ℕ) [ true ↦ first_not x (ns ++ ms) | false ↦ Some n.page ]) ≡ first_behind (elim t as (λ z. Option ℕ) [ true ↦ first_not x ns | false ↦ Some n.page ]) (first_not x ms)
    by true rest = rest
    by false rest = refl

pub behind_some : (q : ℕ) (o : Option ℕ) → first_behind (Some q) o ≡ Some q
unfolding first_behind
behind_some q o = refl

pub behind_none : (o : Option ℕ) → first_behind None o ≡ o
unfolding first_behind
behind_none o = refl

-- inventory pages that are of their kind
pub maps_found : (x : Image) (size count k : ℕ) → ((j : ℕ) → k ≤ j → j < k + count → is_kind x inventory_kind (inventory_place size j) ≡ true) → first_not x (maps_from size count k) ≡ None
unfolding first_not maps_from
maps_found x size zero k each = refl
maps_found x size (suc count) k each =
    ap (λ (t : Bool). elim t as (λ z. Option ℕ) [ true ↦ first_not x (maps_from size count (k + 1)) | false ↦ Some (inventory_place size k) ]) (each k (omega arith) (omega arith))
    ∙ maps_found x size count (k + 1) (λ j low high. each j (omega (arith, low)) (omega (arith, high)))

-- and back
pub maps_all : (x : Image) (size count k : ℕ) → first_not x (maps_from size count k) ≡ None → (j : ℕ) → k ≤ j → j < k + count → is_kind x inventory_kind (inventory_place size j) ≡ true
unfolding first_not maps_from
maps_all x size zero k none j low high = absurd (omega (arith, low, high))
maps_all x size (suc count) k none j low high = by (λ rest more. maps_all x size count (k + 1) rest j more (omega (arith, high))) (is_kind x inventory_kind (inventory_place size k)) refl none
  where
    by : (first_not x (maps_from size count (k + 1)) ≡ None → k + 1 ≤ j → is_kind x inventory_kind (inventory_place size j) ≡ true) → (t : Bool) → is_kind x inventory_kind (inventory_place size k) ≡ t
        → (elim t as (λ z. Option ℕ) [ true ↦ first_not x (maps_from size count (k + 1)) | false ↦ Some (inventory_place size k) ]) ≡ None → is_kind x inventory_kind (inventory_place size j) ≡ true
    by again true e rest = elim (eqb_tells j k) [
      | inl w ↦ ap (λ (i : ℕ). is_kind x inventory_kind (inventory_place size i)) w.1 ∙ e
      | inr w ↦ again rest (omega (arith, low, w.1))
    ]
    by again false e rest = absurd (some_none (inventory_place size k) rest)

-- or alike in two images
pub maps_alike : (x y : Image) (size count k : ℕ) → ((j : ℕ) → k ≤ j → j < k + count → is_kind x inventory_kind (inventory_place size j) ≡ is_kind y inventory_kind (inventory_place size j)) → first_not x (maps_from size count k) ≡ first_not y (maps_from size count k)
unfolding first_not maps_from
maps_alike x y size zero k each = refl
maps_alike x y size (suc count) k each =
    ap (λ (t : Bool). elim t as (λ z. Option ℕ) [ true ↦ first_not x (maps_from size count (k + 1)) | false ↦ Some (inventory_place size k) ]) (each k (omega arith) (omega arith))
    ∙ ap (λ (o : Option ℕ). elim (is_kind y inventory_kind (inventory_place size k)) as (λ z. Option ℕ) [ true ↦ o | false ↦ Some (inventory_place size k) ]) (maps_alike x y size count (k + 1) (λ j low high. each j (omega (arith, low)) (omega (arith, high))))

pub maps_split : (size a b k : ℕ) → maps_from size (a + b) k ≡ maps_from size a k ++ maps_from size b (k + a)
unfolding maps_from
maps_split size zero b k = ap (λ (n : ℕ). maps_from size n k) (let e : 0 + b ≡ b = omega arith in e) ∙ ap (maps_from size b) (let e : k ≡ k + 0 = omega arith in e)
maps_split size (suc a) b k =
    ap (λ (n : ℕ). maps_from size n k) (let e : suc a + b ≡ suc (a + b) = omega arith in e)
    ∙ ap (λ (ns : List Need). record { kind = inventory_kind; page = inventory_place size k } ∷ ns) (maps_split size a b (k + 1) ∙ ap (λ (n : ℕ). maps_from size a (k + 1) ++ maps_from size b n) (let e : k + 1 + a ≡ k + suc a = omega arith in e))

-- where the SCN page of a page stands goes by the page size
pub entry_moves : (x y : Image) (q : ℕ) → image_size y ≡ image_size x → entry_page y q ≡ entry_page x q
unfolding entry_page has_entry
entry_moves x y q same = ap (λ (s : ℕ). elim (elim (q == 0 || is_scn_place s q) as (λ z. Bool) [ true ↦ false | false ↦ true ]) as (λ z. List Need) [ true ↦ record { kind = scn_kind; page = scn_place s (q / entries_in s) } ∷ [] | false ↦ [] ]) same

pub first_none : (x : Image) → first_not x [] ≡ None
unfolding first_not
first_none x = refl

-- the test of one page
first_one : (x y : Image) (q : ℕ) (t u : Bool) → is_kind x scn_kind (scn_page_of y q) ≡ u
    → first_not x (elim t as (λ z. List Need) [ true ↦ record { kind = scn_kind; page = scn_page_of y q } ∷ [] | false ↦ [] ]) ≡ elim t as (λ z. Option ℕ) [ true ↦ elim u as (λ z. Option ℕ) [ true ↦ None | false ↦ Some (scn_page_of y q) ] | false ↦ None ]
unfolding first_not
first_one x y q true u e = ap (λ (b : Bool). elim b as (λ z. Option ℕ) [ true ↦ None | false ↦ Some (scn_page_of y q) ]) e
first_one x y q false u e = refl

entry_first : (x y : Image) (q : ℕ) (u : Bool) → is_kind x scn_kind (scn_page_of y q) ≡ u
    → first_not x (entry_page y q) ≡ elim (has_entry y q) as (λ z. Option ℕ) [ true ↦ elim u as (λ z. Option ℕ) [ true ↦ None | false ↦ Some (scn_page_of y q) ] | false ↦ None ]
unfolding entry_page
entry_first x y q u e = first_one x y q (has_entry y q) u e

either_none : (t : Bool) → (elim t as (λ z. Option ℕ) [ true ↦ None | false ↦ None ]) ≡ None
either_none true = refl
either_none false = refl

pub entry_found : (x y : Image) (q : ℕ) → is_kind x scn_kind (scn_page_of y q) ≡ true → first_not x (entry_page y q) ≡ None
entry_found x y q is = entry_first x y q true is ∙ either_none (has_entry y q)

pub entry_alike : (x y : Image) (q : ℕ) → is_kind x scn_kind (scn_page_of y q) ≡ is_kind y scn_kind (scn_page_of y q) → first_not x (entry_page y q) ≡ first_not y (entry_page y q)
entry_alike x y q same = entry_first x y q (is_kind y scn_kind (scn_page_of y q)) same ∙ sym (entry_first y y q (is_kind y scn_kind (scn_page_of y q)) refl)

pub ready_none : (x : Image) (q : ℕ) → HasItsEntry x q → first_not x (entry_page x q) ≡ None
ready_none x q there = by (has_entry x q) refl
  where
    by : (t : Bool) → has_entry x q ≡ t → first_not x (entry_page x q) ≡ None
    by true e = entry_found x x q (there e)
    by false e = entry_first x x q (is_kind x scn_kind (scn_page_of x q)) refl
        ∙ ap (λ (t : Bool). elim t as (λ z. Option ℕ) [ true ↦ elim (is_kind x scn_kind (scn_page_of x q)) as (λ z. Option ℕ) [ true ↦ None | false ↦ Some (scn_page_of x q) ] | false ↦ None ]) e

-- and back
pub none_ready : (x : Image) (q : ℕ) → first_not x (entry_page x q) ≡ None → HasItsEntry x q
none_ready x q none has = by (is_kind x scn_kind (scn_page_of x q)) refl
  where
    by : (u : Bool) → is_kind x scn_kind (scn_page_of x q) ≡ u → is_kind x scn_kind (scn_page_of x q) ≡ true
    by true e = e
    by false e = absurd (some_none (scn_page_of x q)
        (sym (ap (λ (t : Bool). elim t as (λ z. Option ℕ) [ true ↦ Some (scn_page_of x q) | false ↦ None ]) has) ∙ sym (entry_first x x q false e) ∙ none))

-- two lists of needs of which none is unmet
pub both_none : (a b : Option ℕ) → first_behind a b ≡ None → (a ≡ None) × (b ≡ None)
unfolding first_behind
both_none None b e = (refl, e)
both_none (Some q) b e = absurd (some_none q e)
