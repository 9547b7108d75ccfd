-- A page that is written after a search for new pages: what the search leaves of it.
use Rattle.std.proofs.Common.{◌≡◌, ◌≢◌, ◌⊎◌, inl, inr, ℕ, ◌/◌, ◌<◌, ◌≤◌, List, [], ◌∷◌, length, refl, sym, ap, subst, ◌∙◌, arith, Bool, true, false, not, ◌==◌, ◌||◌, nat_lt, min, IsTrue, Option, Some, None, Result, Ok, Err, IfOk, IfSome}
use Rattle.nb_alloc.proofs.Common.{unwrap_or, true≢false, eqb_tells, leb_tells, is_page_size, entries_in, scn_place, is_inventory_place, is_scn_place, is_system_place, most_pages, data_kind, scn_kind, Fault, Refused, Device, Memory, Refusal, NotDatabase, Full, first_cause, lowest_of, lowest_broken, Image, image_size, is_kind, other_kind, has_entry, scn_page_of, IsMadeBehind, same_made, made_here, IsFreshBehind, same_fresh, fresh_here, eq_no, eq_yes, scn_page_there, plain_place, kind_same, IsVisited, kind_parts, Behind, judged, entry_broken, page_in, page_if, IsKnown, EndsAlike, passed, gone, need_cause, scn_place-some, or_false, or_true, kind_found, none_some, some_none, some_same}
use Rattle.nb_alloc.proofs.PlaceTests.{system_second}

-- a page is of one kind
pub one_kind : (x : Image) (a b p : ℕ) → a ≢ b → is_kind x a p ≡ true → is_kind x b p ≡ false
one_kind x a b p other is = by (is_kind x b p) refl
  where
    by : (t : Bool) → is_kind x b p ≡ t → is_kind x b p ≡ false
    by false e = e
    by true e = absurd (other (sym (kind_parts x a p is).1 ∙ (kind_parts x b p e).1))

-- the SCN page of an entry, in an image of the same page size
pub entry_by : (old x : Image) (p : ℕ) → image_size x ≡ image_size old → entry_broken x p ≡ elim (has_entry old p) as (λ z. List ℕ) [ true ↦ other_kind x scn_kind (scn_page_of old p) | false ↦ [] ]
unfolding has_entry
entry_by old x p same = ap (λ (s : ℕ). elim (elim (p == 0 || is_scn_place s p) as (λ z. Bool) [ true ↦ false | false ↦ true ]) as (λ z. List ℕ) [ true ↦ other_kind x scn_kind (scn_place s (p / entries_in s)) | false ↦ [] ]) same

pub other_by : (x y : Image) (kind p : ℕ) → is_kind y kind p ≡ is_kind x kind p → other_kind y kind p ≡ other_kind x kind p
unfolding other_kind
other_by x y kind p same = ap (λ (t : Bool). elim t as (λ z. List ℕ) [ true ↦ [] | false ↦ p ∷ [] ]) same

pub other_none : (x : Image) (kind p : ℕ) → is_kind x kind p ≡ true → other_kind x kind p ≡ []
unfolding other_kind
other_none x kind p is = ap (λ (t : Bool). elim t as (λ z. List ℕ) [ true ↦ [] | false ↦ p ∷ [] ]) is

pub other_page : (x : Image) (kind p : ℕ) (t : Bool) → is_kind x kind p ≡ not t → other_kind x kind p ≡ page_if t p
unfolding other_kind
other_page x kind p true is = ap (λ (t : Bool). elim t as (λ z. List ℕ) [ true ↦ [] | false ↦ p ∷ [] ]) is
other_page x kind p false is = ap (λ (t : Bool). elim t as (λ z. List ℕ) [ true ↦ [] | false ↦ p ∷ [] ]) is

either_none : (t : Bool) (xs : List ℕ) → xs ≡ [] → elim t as (λ z. List ℕ) [ true ↦ xs | false ↦ [] ] ≡ []
either_none true xs e = e
either_none false xs e = refl

-- The search came to page p, a system place or one where the new page is made, and left it of that kind.
module _ (old now next : Image) (p kind : ℕ) (b : Behind) (known : IsKnown old now b) (now_size : image_size now ≡ image_size old) (size : IsTrue (is_page_size (image_size old))) (five : 5 ≤ p) (on : IsVisited now next p kind) (there : p ≤ length now) where
  abbrev entries : ℕ
  entries = scn_page_of old b.page

  next_size : image_size next ≡ image_size old
  next_size = on.size ∙ now_size

  here : is_kind next kind p ≡ true
  here = kind_found next kind p (let long = on.long in omega (arith, long)) on.of_kind

  same : (k r : ℕ) → r ≢ p → is_kind next k r ≡ is_kind now k r
  same k r ne = kind_same now next p kind k r on there ne

  -- the SCN page with its entry is another
  entry_same : entries ≢ p → entry_broken next b.page ≡ entry_broken now b.page
  entry_same ne =
      entry_by old next b.page next_size
      ∙ ap (λ (xs : List ℕ). elim (has_entry old b.page) as (λ z. List ℕ) [ true ↦ xs | false ↦ [] ]) (other_by now next 10 entries (same 10 entries ne)) ∙ sym (entry_by old now b.page now_size)

  -- or stands there
  entry_none : (x : Image) → image_size x ≡ image_size old → is_kind x scn_kind entries ≡ true → entry_broken x b.page ≡ []
  entry_none x is found = entry_by old x b.page is ∙ either_none (has_entry old b.page) (other_kind x scn_kind entries) (other_none x scn_kind entries found)

  entry_place : entries ≡ p → is_scn_place (image_size old) p ≡ true
  entry_place e = ap (is_scn_place (image_size old)) (sym e) ∙ scn_page_there (image_size old) (b.page / entries_in (image_size old)) size

  -- no system page stands at page p, which becomes a data page
  pub known_plain : is_system_place (image_size old) p ≡ false → kind ≡ 5 → IsKnown old next b
  known_plain plain is = record {
    kind = elim (eqb_tells b.page p) [
      | inl w ↦ ap (is_kind next data_kind) w.1 ∙ subst (λ (n : ℕ). is_kind next n p ≡ true) is here ∙ sym (kept (λ lost. true≢false (sym (ap (is_system_place (image_size old)) (sym w.1) ∙ known.place lost) ∙ plain)))
      | inr w ↦ same 5 b.page w.1 ∙ known.kind
    ];
    place = known.place;
    entry = entry_same (λ e. absurd (true≢false (sym (entry_place e) ∙ (plain_place (image_size old) p plain).1))) ∙ known.entry;
    page = known.page;
  }
    where
      kept : (b.lost ≡ true → ⊥) → not b.lost ≡ true
      kept never = by b.lost refl
        where
          by : (t : Bool) → b.lost ≡ t → not b.lost ≡ true
          by false e = ap not e
          by true e = absurd (never e)

  module _ (system : is_system_place (image_size old) p ≡ true) (of_map : is_inventory_place (image_size old) p ≡ true → kind ≡ 2) (of_entries : is_scn_place (image_size old) p ≡ true → kind ≡ 10) where
    not_data : kind ≢ 5
    not_data e = by (is_inventory_place (image_size old) p) refl
      where
        by : (t : Bool) → is_inventory_place (image_size old) p ≡ t → ⊥
        by true at = absurd (omega (arith, e, of_map at))
        by false at = absurd (omega (arith, e, of_entries (system_second (image_size old) p at ∙ system)))

    no_data : is_kind next data_kind p ≡ false
    no_data = one_kind next kind 5 p not_data here

    entry_here : entries ≡ p → entry_broken next b.page ≡ []
    entry_here e = entry_none next next_size (ap (is_kind next scn_kind) e ∙ subst (λ (n : ℕ). is_kind next n p ≡ true) (of_entries (entry_place e)) here)

    -- its system page stood there
    known_kept : is_kind now kind p ≡ true → IsKnown old next b
    known_kept stood = record {
      kind = elim (eqb_tells b.page p) [
        | inl w ↦ ap (is_kind next data_kind) w.1 ∙ no_data ∙ sym (one_kind now kind 5 p not_data stood) ∙ ap (is_kind now data_kind) (sym w.1) ∙ known.kind
        | inr w ↦ same 5 b.page w.1 ∙ known.kind
      ];
      place = known.place;
      entry = elim (eqb_tells entries p) [
        | inl w ↦
            let none : entry_broken now b.page ≡ [] = entry_none now now_size (ap (is_kind now scn_kind) w.1 ∙ subst (λ (n : ℕ). is_kind now n p ≡ true) (of_entries (entry_place w.1)) stood) in
            entry_here w.1 ∙ sym none ∙ known.entry
        | inr w ↦ entry_same w.1 ∙ known.entry
      ];
      page = known.page;
    }

    -- or is made
    known_made : IsKnown old next (passed p b)
    known_made = record {
      kind = elim (eqb_tells p b.page) [
        | inl w ↦ ap (is_kind next data_kind) (sym w.1) ∙ no_data ∙ sym (ap not (ap (λ (t : Bool). b.lost || t) w.0 ∙ or_true b.lost))
        | inr w ↦ same 5 b.page (λ e. w.1 (sym e)) ∙ known.kind ∙ ap not (sym (ap (λ (t : Bool). b.lost || t) w.0 ∙ or_false b.lost))
      ];
      place = λ lost. elim (eqb_tells p b.page) [
        | inl w ↦ ap (is_system_place (image_size old)) (sym w.1) ∙ system
        | inr w ↦ known.place (sym (ap (λ (t : Bool). b.lost || t) w.0 ∙ or_false b.lost) ∙ lost)
      ];
      entry = by (eqb_tells p b.entry) (eqb_tells entries p);
      page = λ some. elim (eqb_tells p b.entry) [
        | inl w ↦ absurd (some (ap (λ (t : Bool). elim t as (λ z. ℕ) [ true ↦ 0 | false ↦ b.entry ]) w.0))
        | inr w ↦
            let is : (passed p b).entry ≡ b.entry = ap (λ (t : Bool). elim t as (λ z. ℕ) [ true ↦ 0 | false ↦ b.entry ]) w.0 in
            is ∙ known.page (λ e. some (is ∙ e))
      ];
    }
      where
        N : ℕ → List ℕ
        N n = page_if (nat_lt 0 n) n

        by : (((p == b.entry) ≡ true) × (p ≡ b.entry)) ⊎ (((p == b.entry) ≡ false) × (p ≢ b.entry)) → (((entries == p) ≡ true) × (entries ≡ p)) ⊎ (((entries == p) ≡ false) × (entries ≢ p)) → entry_broken next b.page ≡ N (passed p b).entry
        by (inl w) v =
            let some : b.entry ≢ 0 = λ e. absurd (omega (arith, e, w.1, five)) in
            let at : entries ≡ p = sym (known.page some) ∙ sym w.1 in
            entry_here at ∙ sym (ap N (ap (λ (t : Bool). elim t as (λ z. ℕ) [ true ↦ 0 | false ↦ b.entry ]) w.0))
        by (inr w) (inl v) =
            let none : b.entry ≡ 0 = elim (eqb_tells b.entry 0) [ inl z ↦ z.1 | inr z ↦ absurd (w.1 (sym (known.page z.1 ∙ v.1))) ] in
            entry_here v.1 ∙ sym (ap N (ap (λ (t : Bool). elim t as (λ z. ℕ) [ true ↦ 0 | false ↦ b.entry ]) w.0 ∙ none))
        by (inr w) (inr v) = entry_same v.1 ∙ known.entry ∙ ap N (sym (ap (λ (t : Bool). elim t as (λ z. ℕ) [ true ↦ 0 | false ↦ b.entry ]) w.0))

    -- whichever it was
    pub known_gone : (made fresh m f : ℕ) → made < p → fresh < p → IsMadeBehind now p made m → IsFreshBehind now p fresh f → IsKnown old next (gone p m f b)
    known_gone made fresh m f low below made_is fresh_is = by made_is fresh_is
      where
        went : (m == p || f == p) ≡ true → IsKnown old next (gone p m f b)
        went e = subst (IsKnown old next) (sym (ap (λ (t : Bool). elim t as (λ z. Behind) [ true ↦ passed p b | false ↦ b ]) e)) known_made

        stayed : (m == p || f == p) ≡ false → is_kind now kind p ≡ true → IsKnown old next (gone p m f b)
        stayed e stood = subst (IsKnown old next) (sym (ap (λ (t : Bool). elim t as (λ z. Behind) [ true ↦ passed p b | false ↦ b ]) e)) (known_kept stood)

        old_scn : is_scn_place (image_size now) p ≡ is_scn_place (image_size old) p
        old_scn = ap (λ (s : ℕ). is_scn_place s p) now_size

        old_map : is_inventory_place (image_size now) p ≡ is_inventory_place (image_size old) p
        old_map = ap (λ (s : ℕ). is_inventory_place s p) now_size

        by : IsMadeBehind now p made m → IsFreshBehind now p fresh f → IsKnown old next (gone p m f b)
        by (made_here e at none) fresh_is = went (ap (λ (t : Bool). t || f == p) (eq_yes m p e))
        by (same_made e kept_scn) (fresh_here h at none) = went (ap (λ (t : Bool). m == p || t) (eq_yes f p h) ∙ or_true (m == p))
        by (same_made e kept_scn) (same_fresh h kept_map) =
            stayed (ap (λ (t : Bool). t || f == p) (eq_no m p (λ i. absurd (omega (arith, i, e, low)))) ∙ eq_no f p (λ i. absurd (omega (arith, i, h, below)))) (of_place (is_inventory_place (image_size old) p) refl)
          where
            of_place : (t : Bool) → is_inventory_place (image_size old) p ≡ t → is_kind now kind p ≡ true
            of_place true at = subst (λ (n : ℕ). is_kind now n p ≡ true) (sym (of_map at)) (kept_map (old_map ∙ at))
            of_place false at =
                let scn : is_scn_place (image_size old) p ≡ true = system_second (image_size old) p at ∙ system in
                subst (λ (n : ℕ). is_kind now n p ≡ true) (sym (of_entries scn)) (kept_scn (old_scn ∙ scn))

-- what the search leaves of the page itself
pub gone_page : (place made fresh : ℕ) (b c : Behind) → c ≡ gone place made fresh b → c.page ≡ b.page
gone_page place made fresh b c is = ap (λ (x : Behind). x.page) is ∙ by (made == place || fresh == place)
  where
    by : (t : Bool) → (elim t as (λ z. Behind) [ true ↦ passed place b | false ↦ b ]).page ≡ b.page
    by true = refl
    by false = refl

pub gone_lost : (place made fresh : ℕ) (b c : Behind) → c ≡ gone place made fresh b → b.lost ≡ true → c.lost ≡ true
gone_lost place made fresh b c is lost = ap (λ (x : Behind). x.lost) is ∙ by (made == place || fresh == place)
  where
    by : (t : Bool) → (elim t as (λ z. Behind) [ true ↦ passed place b | false ↦ b ]).lost ≡ true
    by true = ap (λ (u : Bool). u || place == b.page) lost
    by false = lost

-- Before the search begins.
pub entry_absent : (x : Image) (p : ℕ) → has_entry x p ≡ false → entry_broken x p ≡ []
entry_absent x p none = ap (λ (t : Bool). elim t as (λ z. List ℕ) [ true ↦ other_kind x scn_kind (scn_page_of x p) | false ↦ [] ]) none

pub entry_there : (x : Image) (p : ℕ) → is_kind x scn_kind (scn_page_of x p) ≡ true → entry_broken x p ≡ []
entry_there x p is = either_none (has_entry x p) (other_kind x scn_kind (scn_page_of x p)) (other_none x scn_kind (scn_page_of x p) is)

pub entry_lacks : (x : Image) (p : ℕ) → has_entry x p ≡ true → is_kind x scn_kind (scn_page_of x p) ≡ false → entry_broken x p ≡ scn_page_of x p ∷ []
entry_lacks x p has other =
    ap (λ (t : Bool). elim t as (λ z. List ℕ) [ true ↦ other_kind x scn_kind (scn_page_of x p) | false ↦ [] ]) has ∙ other_page x scn_kind (scn_page_of x p) true other

pub known_begin : (x : Image) (p entry : ℕ) → is_kind x data_kind p ≡ true → entry_broken x p ≡ page_if (nat_lt 0 entry) entry → (entry ≢ 0 → entry ≡ scn_page_of x p) → IsKnown x x (record { page = p; entry = entry; lost = false })
known_begin x p entry is broken at = record { kind = is; place = λ lost. absurd (true≢false (sym lost)); entry = broken; page = at }

pub known_lacking : (x : Image) (p : ℕ) (lacking : Option ℕ) → IsTrue (is_page_size (image_size x)) → is_kind x data_kind p ≡ true → page_in lacking ≡ entry_broken x p → IfSome lacking (λ q. q ≡ scn_page_of x p)
    → IsKnown x x (record { page = p; entry = unwrap_or lacking 0; lost = false })
known_lacking x p None size is broken at = known_begin x p 0 is (sym broken) (λ some. absurd (some refl))
known_lacking x p (Some q) size is broken at =
    let low = scn_place-some (image_size x) (p / entries_in (image_size x)) size in
    let positive : (nat_lt 0 q) ≡ true = elim (leb_tells 1 q) [ inl w ↦ w.0 | inr w ↦ absurd (omega (arith, w.1, low, at)) ] in
    known_begin x p q is (sym broken ∙ sym (ap (λ (t : Bool). page_if t q) positive)) (λ some. at)

-- Why the draft of new pages isn't made, with the page after them.
pub judged_none : (page : ℕ) (pages : List ℕ) (full : Bool) → judged pages full ≡ None → judged (page ∷ pages) full ≡ Some (NotDatabase page)
unfolding first_cause lowest_broken
judged_none page [] full none = refl
judged_none page (q ∷ qs) full none = absurd (some_none (NotDatabase (lowest_of q qs)) none)

pub lowest_min : (p q : ℕ) (qs : List ℕ) → lowest_of (min p q) qs ≡ min p (lowest_of q qs)
lowest_min p q [] = refl
lowest_min p q (r ∷ rs) = ap (λ (n : ℕ). lowest_of n rs) (let e : min (min p q) r ≡ min p (min q r) = omega arith in e) ∙ lowest_min p (min q r) rs

-- the search ended at a page,
pub judged_page : (page other : ℕ) (pages : List ℕ) (full : Bool) → judged pages full ≡ Some (NotDatabase other) → judged (page ∷ pages) full ≡ Some (NotDatabase (min page other))
unfolding first_cause lowest_broken
judged_page page other [] true some = absurd (other_cause some)
  where
    other_cause : Some (Full most_pages) ≡ Some (NotDatabase other) → ⊥
    other_cause e = cc
judged_page page other [] false some = absurd (none_some (NotDatabase other) some)
judged_page page other (q ∷ qs) full some = ap (λ (n : ℕ). Some (NotDatabase n)) (lowest_min page q qs ∙ ap (min page) (page_is some))
  where
    page_is : Some (NotDatabase (lowest_of q qs)) ≡ Some (NotDatabase other) → lowest_of q qs ≡ other
    page_is e = cc

-- or was refused otherwise
pub judged_other : (page : ℕ) (r : Refusal) (pages : List ℕ) (full : Bool) → ((other : ℕ) → r ≢ NotDatabase other) → judged pages full ≡ Some r → judged (page ∷ pages) full ≡ Some (NotDatabase page)
unfolding first_cause lowest_broken
judged_other page r [] full never some = refl
judged_other page r (q ∷ qs) full never some = absurd (never (lowest_of q qs) (sym (some_same (NotDatabase (lowest_of q qs)) r some)))

-- a page that was found to lack is the lowest of its list
page_cause : (o : Option ℕ) → lowest_broken (page_in o) ≡ need_cause o
unfolding lowest_broken
page_cause None = refl
page_cause (Some p) = refl

pub lacking_cause : (o : Option ℕ) (pages : List ℕ) → page_in o ≡ pages → need_cause o ≡ lowest_broken pages
lacking_cause o pages is = sym (page_cause o) ∙ ap lowest_broken is

-- of two pages the lower
pub lower_cause : (page other : ℕ) → lowest_broken (other ∷ page ∷ []) ≡ Some (NotDatabase (min other page))
unfolding lowest_broken
lower_cause page other = refl

pub page_alone : (page : ℕ) → lowest_broken (page ∷ []) ≡ Some (NotDatabase page)
unfolding lowest_broken
page_alone page = refl

-- one judgement after another
pub value_chain : {T : Type 0} (found mid result : Result T Fault) → IfOk mid (λ value. found ≡ Ok value) → IfOk result (λ value. mid ≡ Ok value) → IfOk result (λ value. found ≡ Ok value)
value_chain {T = T} found mid (Ok value) first second = subst (λ (x : Result T Fault). IfOk x (λ v. found ≡ Ok v)) second first
value_chain found mid (Err fault) first second = tt

pub alike_chain : {T : Type 0} (found mid result : Result T Fault) → EndsAlike found mid → EndsAlike mid result → EndsAlike found result
alike_chain (Ok value) mid result first second = tt
alike_chain (Err (Refused r)) mid result first second = tt
alike_chain {T = T} (Err Device) mid result first second = subst (λ (x : Result T Fault). EndsAlike x result) first second
alike_chain {T = T} (Err Memory) mid result first second = subst (λ (x : Result T Fault). EndsAlike x result) first second
