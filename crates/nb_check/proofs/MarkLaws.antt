-- What chains mark, page after page and chain after chain.
use Rattle.std.proofs.Common.{◌≡◌, ◌≢◌, inl, inr, ℕ, ◌+◌, ◌-◌, ◌<◌, ◌≤◌, List, [], ◌∷◌, ◌++◌, length, refl, sym, ap, subst, ◌∙◌, arith, Bool, true, false, ◌&&◌, ◌||◌, ◌==◌, not, nat_eq, Result, Ok, Err}
use Rattle.nb_check.proofs.Common.{AllByRecursion, filter, range_with_len, append-nil, true≢false, all_go, list_any-append, or_assoc, cases_eq, eq_no, eq_yes, lt_yes, kind_of, data_kind, Image, page_at, Chain, is_in_chain, pages_of, found_pages, broken_at, pages_of_all, chains, is_free_page, has, room_of, pages_in, IsWithout, HoldsTaken, is_among, is_taken_data, reached, in_chain, pages_found, is_twice, is_hit, in_danger, is_in_danger, IsReached, Marks}
use Rattle.nb_host.proofs.PlainLaws.{all_append}
use Rattle.std.proofs.lemmas.List.Elements.{filter-append}
use Rattle.nb_check.proofs.BackLaws.{filter_same}
use Rattle.nb_check.proofs.ReportLaws.{range_split, none_left}
use Rattle.nb_check.proofs.SetLaws.{and_all, without_none, without_both}

-- none
hit_none : (t : Bool) (p : ℕ) → is_hit t p [] ≡ false
unfolding is_twice
hit_none true p = refl
hit_none false p = refl

-- what isn't among them isn't twice among them
not_twice : (p : ℕ) (ps : List ℕ) → is_among p ps ≡ false → is_twice p ps ≡ false
unfolding is_twice
not_twice p [] e = refl
not_twice p (q ∷ qs) e = by (nat_eq p q) (is_among p qs) (is_twice p qs) (λ h. not_twice p qs h) e
  where
    by : (e a tw : Bool) → (a ≡ false → tw ≡ false) → (e || a) ≡ false → ((e && a) || tw) ≡ false
    by true a tw rest h = absurd (no h)
      where
        no : true ≡ false → ⊥
        no h = cc
    by false a tw rest h = rest h

twice_both : (p : ℕ) (ps qs : List ℕ) → is_twice p (ps ++ qs) ≡ (is_twice p ps || is_hit (not (is_among p ps)) p qs)
unfolding is_twice
twice_both p [] qs = refl
twice_both p (x ∷ ps) qs =
    ap (λ (u : Bool). (nat_eq p x && u) || is_twice p (ps ++ qs)) (list_any-append (nat_eq p) ps qs) ∙ ap (λ (u : Bool). (nat_eq p x && (is_among p ps || is_among p qs)) || u) (twice_both p ps qs)
    ∙ by (nat_eq p x) (is_among p ps) (is_among p qs) (is_twice p ps) (is_twice p qs) (λ e. not_twice p ps e) (λ e. not_twice p qs e)
  where
    hit : Bool → Bool → Bool → Bool
    hit left twice among = elim left [ true ↦ twice | false ↦ among ]

    by : (e a b tw tq : Bool) → (a ≡ false → tw ≡ false) → (b ≡ false → tq ≡ false) → ((e && (a || b)) || (tw || hit (not a) tq b)) ≡ (((e && a) || tw) || hit (not (e || a)) tq b)
    by false a b tw tq one two = refl
    by true true b tw tq one two = refl
    by true false true tw tq one two = sym (or_yes tw)
      where
        or_yes : (t : Bool) → (t || true) ≡ true
        or_yes true = refl
        or_yes false = refl
    by true false false tw tq one two = ap (λ (u : Bool). tw || u) (two refl)

-- These are hit, or those after them.
hit_both : (t : Bool) (p : ℕ) (ps qs : List ℕ) → is_hit t p (ps ++ qs) ≡ (is_hit t p ps || is_hit (t && not (is_among p ps)) p qs)
hit_both true p ps qs = twice_both p ps qs
hit_both false p ps qs = list_any-append (nat_eq p) ps qs

or_none : (t : Bool) → t ≡ (t || false)
or_none true = refl
or_none false = refl

-- no page
pub reached_none : (marks : Marks) → IsReached marks [] marks
reached_none marks = record {
  left = without_none marks.left;
  danger = λ p low. or_none (has marks.danger p) ∙ ap (λ (u : Bool). has marks.danger p || u) (sym (hit_none (has marks.left p) p));
  left_room = refl;
  danger_room = refl;
}

-- some, and then others
pub reached_both : (before : Marks) (ps : List ℕ) (mid : Marks) (qs : List ℕ) (after : Marks) → IsReached before ps mid → IsReached mid qs after → IsReached before (ps ++ qs) after
reached_both before ps mid qs after one two = record {
  left = without_both before.left ps mid.left qs after.left one.left two.left;
  danger = λ p low.
      two.danger p (let same = one.danger_room in omega (arith, low, same))
      ∙ ap (λ (u : Bool). u || is_hit (has mid.left p) p qs) (one.danger p low) ∙ sym (or_assoc (has before.danger p) (is_hit (has before.left p) p ps) (is_hit (has mid.left p) p qs))
      ∙ ap (λ (u : Bool). has before.danger p || (is_hit (has before.left p) p ps || is_hit u p qs)) (one.left p)
      ∙ ap (λ (u : Bool). has before.danger p || u) (sym (hit_both (has before.left p) p ps qs));
  left_room = two.left_room ∙ one.left_room;
  danger_room = two.danger_room ∙ one.danger_room;
}

-- One page.
twice_one : (p page : ℕ) → is_twice p (page ∷ []) ≡ false
unfolding is_twice
twice_one p page = by (nat_eq p page)
  where
    by : (t : Bool) → ((t && false) || false) ≡ false
    by true = refl
    by false = refl

hit_other : (t : Bool) (p page : ℕ) → p ≢ page → is_hit t p (page ∷ []) ≡ false
hit_other true p page other = twice_one p page
hit_other false p page other = ap (λ (u : Bool). u || false) (eq_no p page other)

hit_same : (p page : ℕ) → p ≡ page → is_hit false p (page ∷ []) ≡ true
hit_same p page same = ap (λ (u : Bool). u || false) (eq_yes p page same)

-- it was left
pub reached_left : (before : Marks) (page : ℕ) (after : List ℕ) → has before.left page ≡ true → IsWithout before.left (page ∷ []) after → length after ≡ length before.left → IsReached before (page ∷ []) (record { left = after; danger = before.danger })
reached_left before page after is out room = record {
  left = out;
  danger = λ p low. or_none (has before.danger p) ∙ ap (λ (u : Bool). has before.danger p || u) (sym (none p));
  left_room = room;
  danger_room = refl;
}
  where
    none : (p : ℕ) → is_hit (has before.left p) p (page ∷ []) ≡ false
    none p = elim (cases_eq p page) [
      | inl same ↦ ap (λ (u : Bool). is_hit u p (page ∷ [])) (ap (has before.left) same ∙ is) ∙ twice_one p page
      | inr other ↦ hit_other (has before.left p) p page other
    ]

-- or it wasn't
pub reached_danger : (before : Marks) (page : ℕ) (after : List ℕ) → has before.left page ≡ false → ((p : ℕ) → p < room_of before.danger → has after p ≡ (nat_eq p page || has before.danger p)) → length after ≡ length before.danger
    → IsReached before (page ∷ []) (record { left = before.left; danger = after })
reached_danger before page after not_left put room = record {
  left = λ p. elim (cases_eq p page) [
    | inl same ↦ let none : has before.left p ≡ false = ap (has before.left) same ∙ not_left in none ∙ ap (λ (u : Bool). u && not (is_among p (page ∷ []))) (sym none)
    | inr other ↦ and_all (has before.left p) ∙ ap (λ (u : Bool). has before.left p && not (u || false)) (sym (eq_no p page other))
  ];
  danger = λ p low. put p low ∙ elim (cases_eq p page) [
    | inl same ↦
        ap (λ (u : Bool). u || has before.danger p) (eq_yes p page same) ∙ sym (or_all (has before.danger p)) ∙ ap (λ (u : Bool). has before.danger p || u) (sym (hit_same p page same))
        ∙ ap (λ (u : Bool). has before.danger p || is_hit u p (page ∷ [])) (sym (ap (has before.left) same ∙ not_left))
    | inr other ↦ ap (λ (u : Bool). u || has before.danger p) (eq_no p page other) ∙ or_none (has before.danger p) ∙ ap (λ (u : Bool). has before.danger p || u) (sym (hit_other (has before.left p) p page other))
  ];
  left_room = refl;
  danger_room = room;
}
  where
    or_all : (t : Bool) → (t || true) ≡ true
    or_all true = refl
    or_all false = refl

-- All that chains reach is marked: what is left of the data pages that are taken is leaked, and the others that are marked are in danger.
reached_data : (image : Image) (cs : List Chain) → AllByRecursion (λ (p : ℕ). (p < length image) × (kind_of (page_at image p) ≡ data_kind)) (pages_of_all image cs)
unfolding pages_of_all found_pages
reached_data image [] = tt
reached_data image (c ∷ cs) = all_append (λ p. (p < length image) × (kind_of (page_at image p) ≡ data_kind)) (found_pages c image) (pages_of_all image cs) (by (pages_of c image) refl) (reached_data image cs)
  where
    by : (r : Result (List ℕ) ℕ) → pages_of c image ≡ r → AllByRecursion (λ (p : ℕ). (p < length image) × (kind_of (page_at image p) ≡ data_kind)) (elim r as (λ z. List ℕ) [ Ok ps ↦ ps | Err p ↦ [] ])
    by (Err q) is = tt
    by (Ok ps) is = all_go (λ q. is_in_chain c image q ≡ true) (λ q. (q < length image) × (kind_of (page_at image q) ≡ data_kind)) ps (λ q in_it. in_chain c image q in_it) (found is)
      where
        found : pages_of c image ≡ Ok ps → AllByRecursion (λ (q : ℕ). is_in_chain c image q ≡ true) ps
        found is = subst (λ (r : Result (List ℕ) ℕ). AllByRecursion (λ (q : ℕ). is_in_chain c image q ≡ true) (elim r as (λ z. List ℕ) [ Ok qs ↦ qs | Err p ↦ [] ])) is
            (pages_found c image (ap broken_at is)).each

of_among : (P : ℕ → Type 0) (p : ℕ) (qs : List ℕ) → AllByRecursion P qs → is_among p qs ≡ true → P p
of_among P p [] all at = absurd (true≢false (sym at))
of_among P p (q ∷ qs) all at = elim (cases_eq p q) [
  | inl same ↦ subst P (sym same) all.0
  | inr other ↦ of_among P p qs all.1 (ap (λ (u : Bool). u || is_among p qs) (sym (eq_no p q other)) ∙ at)
]

module _ (image : Image) (before after : Marks) (taken : HoldsTaken image (length image) before.left) (safe : (p : ℕ) → has before.danger p ≡ false) (marked : IsReached before (reached image) after) where
  abbrev n : ℕ
  n = length image

  -- none that isn't among those that are reached
  off : (t : Bool) (p : ℕ) → is_among p (reached image) ≡ false → is_hit t p (reached image) ≡ false
  off true p e = not_twice p (reached image) e
  off false p e = e

  hit_is : (p : ℕ) → is_hit (is_taken_data image p) p (reached image) ≡ is_in_danger image p
  hit_is p = by (is_among p (reached image)) refl
    where
      kinds : (free kind : Bool) → kind ≡ true → is_among p (reached image) ≡ true → is_hit (not free && kind) p (reached image) ≡ (free || is_twice p (reached image))
      kinds true kind is at = at
      kinds false kind is at = ap (λ (u : Bool). is_hit u p (reached image)) is

      by : (t : Bool) → is_among p (reached image) ≡ t → is_hit (is_taken_data image p) p (reached image) ≡ (t && (is_free_page image p || is_twice p (reached image)))
      by false e = off (is_taken_data image p) p e
      by true e = kinds (is_free_page image p) (kind_of (page_at image p) == data_kind) (eq_yes (kind_of (page_at image p)) data_kind (of_among (λ q. (q < length image) × (kind_of (page_at image q) ≡ data_kind)) p (reached image) (reached_data image (chains image)) e).1) e

  hits : (p : ℕ) → p < room_of after.danger → has after.danger p ≡ is_hit (has before.left p) p (reached image)
  hits p low = marked.danger p (let same = marked.danger_room in omega (arith, low, same)) ∙ ap (λ (u : Bool). u || is_hit (has before.left p) p (reached image)) (safe p)

  below : n ≤ room_of after.danger → (p : ℕ) → p < n → has after.danger p ≡ is_in_danger image p
  below room p low = hits p (omega (arith, room, low)) ∙ ap (λ (u : Bool). is_hit u p (reached image)) (taken p ∙ ap (λ (t : Bool). t && is_taken_data image p) (lt_yes p n low)) ∙ hit_is p

  far : (p : ℕ) → n ≤ p → p < room_of after.danger → has after.danger p ≡ false
  far p high low = hits p low ∙ by (is_among p (reached image)) refl
    where
      by : (t : Bool) → is_among p (reached image) ≡ t → is_hit (has before.left p) p (reached image) ≡ false
      by false e = off (has before.left p) p e
      by true e = absurd (let under = (of_among (λ q. (q < length image) × (kind_of (page_at image q) ≡ data_kind)) p (reached image) (reached_data image (chains image)) e).0 in omega (arith, under, high))

  pub danger_pages : n ≤ room_of after.danger → pages_in after.danger ≡ in_danger image
  unfolding pages_in in_danger
  danger_pages room =
      let parts : room_of after.danger ≡ n + (room_of after.danger - n) = omega (arith, room) in
      ap (λ (m : ℕ). filter (has after.danger) (range_with_len 0 m)) parts ∙ ap (filter (has after.danger)) (range_split n (room_of after.danger - n) 0)
      ∙ filter-append (has after.danger) (range_with_len 0 n) (range_with_len (0 + n) (room_of after.danger - n))
      ∙ ap (λ (xs : List ℕ). filter (has after.danger) (range_with_len 0 n) ++ xs) (none_left (has after.danger) (room_of after.danger - n) (0 + n) (λ q low high. far q (omega (arith, low)) (omega (arith, high, room)))) ∙ append-nil (filter (has after.danger) (range_with_len 0 n))
      ∙ filter_same (has after.danger) (is_in_danger image) n 0 (λ q low high. below room q (omega (arith, high)))
