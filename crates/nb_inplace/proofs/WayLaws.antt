-- Images on their way to that of a record: a merge gives it, and what a crash leaves half merged is on the way still.
use Rattle.std.proofs.Common.{◌≡◌, ◌⊎◌, inl, inr, ℕ, zero, suc, ◌+◌, ◌<◌, ◌≤◌, List, [], ◌∷◌, length, replicate, refl, sym, ap, subst, ◌∙◌, arith, None, Contains}
use Rattle.nb_inplace.proofs.Common.{cases_lt, stamp_of, Page, Image, Numbered, page_at, first_page, trimmed, overwritten, written_since, other_pages, taken_from, taken, main_page, HasNoZeros, ChainScn, trimmed-no_zeros, main_here, main_past, lt_no, lt_yes, trimmed_alike, IsBetween, some_none}
use Rattle.nb_model.specs.Follows.{Follows}
use Rattle.nb_model.proofs.FollowsLaws.{follows_overwritten}
use Rattle.nb_inplace.proofs.PagesLaws.{over_alike}
use Rattle.nb_inplace.proofs.StampLaws.{since_first, since_behind}

-- 1. The pages that a level since an SCN takes
module _ (s : ℕ) where
  taken_late : (n : ℕ) (x : Page) (xs : Image) → s < stamp_of x → taken_from n s (x ∷ xs) ≡ (n, x) ∷ taken_from (n + 1) s xs
  unfolding taken_from
  taken_late n x xs late = rw (lt_yes s (stamp_of x) late, taken_from) refl

  taken_early : (n : ℕ) (x : Page) (xs : Image) → stamp_of x ≤ s → taken_from n s (x ∷ xs) ≡ taken_from (n + 1) s xs
  unfolding taken_from
  taken_early n x xs early = rw (lt_no s (stamp_of x) early, taken_from) refl

  none_taken : (n : ℕ) → taken_from n s [] ≡ []
  unfolding taken_from
  none_taken n = refl

  behind : (r x : Numbered) (rs : List Numbered) → Contains rs x → Contains (r ∷ rs) x
  behind r x rs there = (suc there.0, omega (arith, there.1), there.2)

  numbered : (rs : List Numbered) (m n : ℕ) (page : Page) → m ≡ n → Contains rs (m, page) → Contains rs (n, page)
  numbered rs m n page same = subst (λ (k : ℕ). Contains rs (k, page)) same

  -- each page of a later stamp is among them
  taken_there : (n : ℕ) (ps : Image) (p : ℕ) → p < length ps → s < stamp_of (page_at ps p) → Contains (taken_from n s ps) (n + p, page_at ps p)
  taken_there n [] p low later = absurd (omega (arith, low))
  taken_there n (x ∷ xs) zero low later =
      subst (λ (rs : List Numbered). Contains rs (n + 0, x)) (sym (taken_late n x xs later)) (0, omega arith, ap (λ (k : ℕ). (k, x)) (let e : n ≡ n + 0 = omega arith in e))
  taken_there n (x ∷ xs) (suc p) low later =
      let rest : Contains (taken_from (n + 1) s xs) (n + suc p, page_at xs p) = numbered (taken_from (n + 1) s xs) (n + 1 + p) (n + suc p) (page_at xs p) (omega arith) (taken_there (n + 1) xs p (omega (arith, low)) later) in
      elim (cases_lt s (stamp_of x)) [
        | inl late ↦ subst (λ (rs : List Numbered). Contains rs (n + suc p, page_at xs p)) (sym (taken_late n x xs late)) (behind (n, x) (n + suc p, page_at xs p) (taken_from (n + 1) s xs) rest)
        | inr early ↦ subst (λ (rs : List Numbered). Contains rs (n + suc p, page_at xs p)) (sym (taken_early n x xs early)) rest
      ]

  -- a page of that number
  record IsPageFrom (n : ℕ) (ps : Image) (m : ℕ) (page : Page) : Type 0 where
    at : ℕ
    is : m ≡ n + at
    low : at < length ps
    same : page ≡ page_at ps at

  one_on : (n : ℕ) (x : Page) (xs : Image) (m : ℕ) (page : Page) → IsPageFrom (n + 1) xs m page → IsPageFrom n (x ∷ xs) m page
  one_on n x xs m page from = record { at = suc from.at; is = omega (arith, from.is); low = omega (arith, from.low); same = from.same }

  one_first : (n : ℕ) (x : Page) (xs : Image) (m : ℕ) (page : Page) (rs : List Numbered) → (Contains rs (m, page) → IsPageFrom (n + 1) xs m page) → Contains ((n, x) ∷ rs) (m, page) → IsPageFrom n (x ∷ xs) m page
  one_first n x xs m page rs rest (zero, low, is) = record { at = 0; is = let e : m ≡ n = sym (ap (λ (r : Numbered). r.0) is) in omega (arith, e); low = omega arith; same = sym (ap (λ (r : Numbered). r.1) is) }
  one_first n x xs m page rs rest (suc k, low, is) = one_on n x xs m page (rest (k, omega (arith, low), is))

  -- and each of them is one of the image's
  taken_only : (n : ℕ) (ps : Image) (m : ℕ) (page : Page) → Contains (taken_from n s ps) (m, page) → IsPageFrom n ps m page
  taken_only n [] m page there = absurd (none (subst (λ (rs : List Numbered). Contains rs (m, page)) (none_taken n) there))
    where
      none : Contains {X = Numbered} [] (m, page) → ⊥
      none (k, low, is) = omega (arith, low)
  taken_only n (x ∷ xs) m page there = elim (cases_lt s (stamp_of x)) [
    | inl late ↦ one_first n x xs m page (taken_from (n + 1) s xs) (λ rest. taken_only (n + 1) xs m page rest) (subst (λ (rs : List Numbered). Contains rs (m, page)) (taken_late n x xs late) there)
    | inr early ↦ one_on n x xs m page (taken_only (n + 1) xs m page (subst (λ (rs : List Numbered). Contains rs (m, page)) (taken_early n x xs early) there))
  ]

-- an image goes on from itself
follows_itself : (a : Image) (s : ℕ) → Follows a s a
follows_itself a s = record { size = refl; no_shorter = omega arith; same = λ p low early. (low, refl) }

-- 2. The image of a record, and one on its way there: after page 0 it has each page that stood before the SCN, and nothing is behind its end.
pub record IsOnTheWay (size s : ℕ) (image now : Image) : Type 0 where
  pub same : (p : ℕ) → 1 ≤ p → p < length image → stamp_of (page_at image p) ≤ s → main_page size now p ≡ page_at image p
  pub behind : (p : ℕ) → length image ≤ p → main_page size now p ≡ replicate size 0

module _ (size s : ℕ) (image now : Image) (way : IsOnTheWay size s image now) (some : 1 ≤ length image) where
  abbrev rs : List Numbered
  rs = taken s image

  its : (p : ℕ) → p < length image → s < stamp_of (page_at image p) → Contains rs (p, page_at image p)
  its p low late = numbered s rs (0 + p) p (page_at image p) (omega arith) (taken_there s 0 image p low late)

  -- the pages taken give the whole
  pub way_gives : s < stamp_of (first_page image) → HasNoZeros image → trimmed (overwritten size rs now) ≡ image
  way_gives first none =
      trimmed_alike size (overwritten size rs now) (overwritten size rs image) (λ p. over_alike size rs image now p (seen p)) ∙ ap trimmed (follows_overwritten size (follows_itself image s)) ∙ trimmed-no_zeros image none
    where
      seen : (p : ℕ) → (main_page size now p ≡ main_page size image p) ⊎ ((page : Page) × Contains rs (p, page))
      seen zero = inr (first_page image, its 0 (omega (arith, some)) first)
      seen (suc p) = elim (cases_lt (suc p) (length image)) [
        | inl low ↦ elim (cases_lt s (stamp_of (page_at image (suc p)))) [
          | inl late ↦ inr (page_at image (suc p), its (suc p) low late)
          | inr early ↦ inl (way.same (suc p) (omega arith) low early ∙ sym (main_here size image (suc p) low))
        ]
        | inr past ↦ inl (way.behind (suc p) past ∙ sym (main_past size image (suc p) past))
      ]

  -- with some of them written over it is on the way still
  pub way_on : (half : Image) → IsBetween size rs now half → IsOnTheWay size s image half
  way_on half between = record {
    same = λ p behind low early. elim (between p behind) [
      | inl was ↦ was ∙ way.same p behind low early
      | inr one ↦ let from = taken_only s 0 image p (main_page size half p) one in from.same ∙ ap (page_at image) (let e : from.at ≡ p = omega (arith, from.is) in e)
    ];
    behind = λ p past. elim (between p (omega (arith, past, some))) [
      | inl was ↦ was ∙ way.behind p past
      | inr one ↦ let from = taken_only s 0 image p (main_page size half p) one in absurd (omega (arith, from.is, from.low, past))
    ];
  }

-- 3. An image of which no page after page 0 was written since
none_since : (name : List ℕ) (s : ℕ) (ps : List Page) → written_since name s ps ≡ None → (k : ℕ) → k < length ps → stamp_of (page_at ps k) ≤ s
none_since name s [] e k low = absurd (omega (arith, low))
none_since name s (p ∷ ps) e k low = elim (cases_lt s (stamp_of p)) [
  | inl late ↦ absurd (some_none (ChainScn name (stamp_of p) s) (sym (since_first name s p ps late) ∙ e))
  | inr early ↦ by k low early (λ j below. none_since name s ps (sym (since_behind name s p ps early) ∙ e) j below)
]
  where
    by : (k : ℕ) → k < length (p ∷ ps) → stamp_of p ≤ s → ((j : ℕ) → j < length ps → stamp_of (page_at ps j) ≤ s) → stamp_of (page_at (p ∷ ps) k) ≤ s
    by zero low early rest = early
    by (suc k) low early rest = rest k (omega (arith, low))

unwritten : (name : List ℕ) (s : ℕ) (image : Image) → written_since name s (other_pages image) ≡ None → (p : ℕ) → 1 ≤ p → p < length image → stamp_of (page_at image p) ≤ s
unwritten name s [] e p some low = absurd (omega (arith, low))
unwritten name s (x ∷ xs) e zero some low = absurd (omega arith)
unwritten name s (x ∷ xs) e (suc p) some low = none_since name s xs e p (omega (arith, low))

-- is on the way to each image that goes on from what it goes on from.
pub way_begins : (name : List ℕ) (size s : ℕ) (from image now : Image) → Follows from s image → Follows from s now → written_since name s (other_pages now) ≡ None → 1 ≤ length image → IsOnTheWay size s image now
way_begins name size s from image now leads on none some = record {
  same = λ p behind low early.
      let was = leads.same p low early in
      let there : p < length now = omega (arith, was.0, on.no_shorter) in
      main_here size now p there ∙ (on.same p there (unwritten name s now none p behind there)).1 ∙ sym was.1;
  behind = λ p past. elim (cases_lt p (length now)) [
    | inl low ↦ let was = on.same p low (unwritten name s now none p (omega (arith, past, some)) low) in absurd (omega (arith, was.0, leads.no_shorter, past))
    | inr beyond ↦ main_past size now p beyond
  ];
}
