-- The pages of files side by side: how they go on by the least number, that they rise, and their sizes.
use Rattle.std.proofs.Common.{◌≡◌, ◌≢◌, inl, inr, ℕ, zero, suc, ◌+◌, ◌-◌, ◌<◌, ◌≤◌, List, [], ◌∷◌, ◌++◌, length, refl, sym, ap, subst, ◌∙◌, arith, true, false, ◌==◌, Option, Some, None}
use Rattle.nb_fold.proofs.Common.{AllByRecursion, eqb_tells, most_pages, Page, Numbered, AreRising, AreOfSize, eq_no, AllRise, AllOfSize, pages_left, Held, Waits, AllWait, WaitsBy, IsLeast, AreAtEnd, waiting_page, waits_at, count_at, counts_at, rest_after, rests, Files, bytes_of, page_of, or_before, last_page, with_number, folded_from, folded_pages}
use Rattle.nb_model.proofs.SpelledLaws.{rise_lower}

-- no page below the first
pub none_below : (n least : ℕ) (rs : List Numbered) → AreRising least rs → n < least → page_of n rs ≡ None
none_below n least [] rise low = refl
none_below n least (r ∷ rs) rise low = rw (eq_no r.0 n (λ e. absurd (omega (arith, e, rise.0, low))), page_of) (none_below n (r.0 + 1) rs rise.2 (omega (arith, rise.0, low)))

-- nor after the last number
pub none_above : (n least : ℕ) (rs : List Numbered) → AreRising least rs → most_pages ≤ n → page_of n rs ≡ None
none_above n least [] rise high = refl
none_above n least (r ∷ rs) rise high = rw (eq_no r.0 n (λ e. absurd (omega (arith, e, rise.1, high))), page_of) (none_above n (r.0 + 1) rs rise.2 high)

pub rest_other : (n m : ℕ) (rs : List Numbered) → m ≢ n → page_of m (rest_after n rs) ≡ page_of m rs
rest_other n m [] other = refl
rest_other n m (r ∷ rs) other = elim (eqb_tells r.0 n) [
  | inl w ↦ rw (w.0, rest_after) (rw (eq_no r.0 m (λ e. other (sym e ∙ w.1)), page_of) refl)
  | inr w ↦ rw (w.0, rest_after) refl
]

-- where no rise_lower one comes first the rest rises from the next number on
pub rest_next : (n : ℕ) (rs : List Numbered) → AreRising n rs → AreRising (n + 1) (rest_after n rs)
rest_next n [] rise = tt
rest_next n (r ∷ rs) rise = elim (eqb_tells r.0 n) [
  | inl w ↦ rw (w.0, rest_after) (rise_lower (n + 1) (r.0 + 1) rs (omega (arith, w.1)) rise.2)
  | inr w ↦ let other = w.1 in rw (w.0, rest_after) (above r.0 n rise.0 other, rise.1, rise.2)
]
  where
    above : (a b : ℕ) → b ≤ a → a ≢ b → b + 1 ≤ a
    above a b low other = elim (eqb_tells a b) [ inl e ↦ absurd (other e.1) | inr e ↦ omega (arith, low, e.1) ]

-- of several files
pub rests_next : (n : ℕ) (rss : List (List Numbered)) → AllRise n rss → AllRise (n + 1) (rests n rss)
rests_next n [] rise = tt
rests_next n (rs ∷ rss) rise = (rest_next n rs rise.0, rests_next n rss rise.1)

pub last_none : (n least : ℕ) (rss : List (List Numbered)) → AllRise least rss → n < least → last_page n rss ≡ None
last_none n least [] rise low = refl
last_none n least (rs ∷ rss) rise low = ap (λ o. or_before o (page_of n rs)) (last_none n least rss rise.1 low) ∙ none_below n least rs rise.0 low

pub last_other : (n m : ℕ) (rss : List (List Numbered)) → m ≢ n → last_page m (rests n rss) ≡ last_page m rss
last_other n m [] other = refl
last_other n m (rs ∷ rss) other = ap (λ o. or_before o (page_of m (rest_after n rs))) (last_other n m rss other) ∙ ap (or_before (last_page m rss)) (rest_other n m rs other)

-- a page before others
number_more : (n : ℕ) (o : Option Page) (xs ys : List Numbered) → with_number n o (xs ++ ys) ≡ with_number n o xs ++ ys
number_more n (Some page) xs ys = refl
number_more n None xs ys = refl

-- so many numbers, and then more
folded_split : (a b c k : ℕ) (rss : List (List Numbered)) → c ≡ a + b → folded_from c k rss ≡ folded_from a k rss ++ folded_from b (k + a) rss
unfolding folded_from
folded_split zero b c k rss is =
    ap (λ n. folded_from n k rss) (let e : c ≡ b = omega (arith, is) in e) ∙ ap (λ n. folded_from b n rss) (let e : k ≡ k + 0 = omega arith in e)
folded_split (suc a) b zero k rss is = absurd (omega (arith, is))
folded_split (suc a) b (suc c) k rss is =
    ap (with_number k (last_page k rss)) (folded_split a b c (k + 1) rss (omega (arith, is)) ∙ ap (λ n. folded_from a (k + 1) rss ++ folded_from b n rss) (let e : (k + 1) + a ≡ k + suc a = omega arith in e))
    ∙ number_more k (last_page k rss) (folded_from a (k + 1) rss) (folded_from b (k + suc a) rss)

-- none of these numbers
folded_none : (left k : ℕ) (rss : List (List Numbered)) → ((m : ℕ) → k ≤ m → m < k + left → last_page m rss ≡ None) → folded_from left k rss ≡ []
unfolding folded_from
folded_none zero k rss none = refl
folded_none (suc left) k rss none =
    ap (λ o. with_number k o (folded_from left (k + 1) rss)) (none k (omega arith) (omega arith)) ∙ folded_none left (k + 1) rss (λ m low high. none m (omega (arith, low)) (omega (arith, high)))

-- the same pages
folded_same : (left k : ℕ) (rss qss : List (List Numbered)) → ((m : ℕ) → k ≤ m → last_page m rss ≡ last_page m qss) → folded_from left k rss ≡ folded_from left k qss
unfolding folded_from
folded_same zero k rss qss same = refl
folded_same (suc left) k rss qss same =
    ap (λ o. with_number k o (folded_from left (k + 1) rss)) (same k (omega arith)) ∙ ap (with_number k (last_page k qss)) (folded_same left (k + 1) rss qss (λ m low. same m (omega (arith, low))))

-- after the numbers below the least
behind_least : (n : ℕ) (rss : List (List Numbered)) (left : ℕ) → AllRise n rss → most_pages ≡ n + suc left → folded_pages rss ≡ with_number n (last_page n rss) (folded_from left (n + 1) rss)
unfolding folded_from
behind_least n rss left rise is =
    folded_split n (suc left) most_pages 0 rss is ∙ ap (λ (xs : List Numbered). xs ++ folded_from (suc left) (0 + n) rss) (folded_none n 0 rss (λ m low high. last_none m n rss rise (omega (arith, high))))
    ∙ ap (λ k. folded_from (suc left) k rss) (let e : 0 + n ≡ n = omega arith in e)

-- The page of the least number comes first, and then what the files have after it.
pub folded_least : (n : ℕ) (page : Page) (rss : List (List Numbered)) → n < most_pages → AllRise n rss → last_page n rss ≡ Some page → folded_pages rss ≡ (n, page) ∷ folded_pages (rests n rss)
folded_least n page rss low rise is =
    behind_least n rss left rise all ∙ ap (λ o. with_number n o (folded_from left (n + 1) rss)) is
    ∙ ap (λ (xs : List Numbered). (n, page) ∷ xs) (folded_same left (n + 1) rss (rests n rss) (λ m above. sym (last_other n m rss (λ e. absurd (omega (arith, e, above)))))
    ∙ ap (λ o. with_number n o (folded_from left (n + 1) (rests n rss))) (sym (last_none n (n + 1) (rests n rss) next (omega arith))) ∙ sym (behind_least n (rests n rss) left (all_lower (rests n rss) next) all))
  where
    left : ℕ
    left = 1048575 - n

    all : most_pages ≡ n + suc left
    all = omega (arith, low)

    next : AllRise (n + 1) (rests n rss)
    next = rests_next n rss rise

    all_lower : (qss : List (List Numbered)) → AllRise (n + 1) qss → AllRise n qss
    all_lower [] r = tt
    all_lower (qs ∷ qss) r = (rise_lower n (n + 1) qs (omega arith) r.0, all_lower qss r.1)

-- no file has a page more
pub folded_ends : (rss : List (List Numbered)) → AllByRecursion (λ (rs : List Numbered). rs ≡ []) rss → folded_pages rss ≡ []
folded_ends rss none = folded_none most_pages 0 rss (λ m low high. nothing m rss none)
  where
    nothing : (m : ℕ) (qss : List (List Numbered)) → AllByRecursion (λ (rs : List Numbered). rs ≡ []) qss → last_page m qss ≡ None
    nothing m [] n = refl
    nothing m (qs ∷ qss) n = ap (λ o. or_before o (page_of m qs)) (nothing m qss n.1) ∙ ap (page_of m) n.0

-- Folded pages rise.
number_rises : (n : ℕ) (o : Option Page) (rs : List Numbered) → n < most_pages → AreRising (n + 1) rs → AreRising n (with_number n o rs)
number_rises n (Some page) rs low rise = (omega arith, low, rise)
number_rises n None rs low rise = rise_lower n (n + 1) rs (omega arith) rise

pub folded_rises : (left k : ℕ) (rss : List (List Numbered)) → k + left ≤ most_pages → AreRising k (folded_from left k rss)
unfolding folded_from
folded_rises zero k rss low = tt
folded_rises (suc left) k rss low = number_rises k (last_page k rss) (folded_from left (k + 1) rss) (omega (arith, low)) (folded_rises left (k + 1) rss (omega (arith, low)))

-- Folded pages have their size.
abbrev IsSized : (size : ℕ) → Option Page → Type 0
IsSized size (Some page) = length page ≡ size
IsSized size None = Unit {0}

page_sized : (size n : ℕ) (rs : List Numbered) → AreOfSize size rs → IsSized size (page_of n rs)
page_sized size n [] sizes = tt
page_sized size n (r ∷ rs) sizes = elim (eqb_tells r.0 n) [ inl w ↦ rw (w.0, page_of) sizes.0 | inr w ↦ rw (w.0, page_of) (page_sized size n rs sizes.1) ]

or_sized : (size : ℕ) (a b : Option Page) → IsSized size a → IsSized size b → IsSized size (or_before a b)
or_sized size (Some page) b first second = first
or_sized size None b first second = second

pub last_sized : (size n : ℕ) (rss : List (List Numbered)) → AllOfSize size rss → IsSized size (last_page n rss)
last_sized size n [] sizes = tt
last_sized size n (rs ∷ rss) sizes = or_sized size (last_page n rss) (page_of n rs) (last_sized size n rss sizes.1) (page_sized size n rs sizes.0)

number_sized : (size n : ℕ) (o : Option Page) (rs : List Numbered) → IsSized size o → AreOfSize size rs → AreOfSize size (with_number n o rs)
number_sized size n (Some page) rs first more = (first, more)
number_sized size n None rs first more = more

pub folded_sizes : (size left k : ℕ) (rss : List (List Numbered)) → AllOfSize size rss → AreOfSize size (folded_from left k rss)
unfolding folded_from
folded_sizes size zero k rss sizes = tt
folded_sizes size (suc left) k rss sizes = number_sized size k (last_page k rss) (folded_from left (k + 1) rss) (last_sized size k rss sizes) (folded_sizes size left (k + 1) rss sizes)

-- The pages that wait.
module _ (files : Files) where
  -- each file goes on with the least number at least
  waits_from : (n least : ℕ) (s : Held) (rs : List Numbered) (waiting : Option ℕ) → s.waiting ≡ waiting → Waits files s rs → AreRising least rs → ((m : ℕ) → s.waiting ≡ Some m → n ≤ m) → AreRising n rs
  waits_from n least s rs None is waits rise low = subst (AreRising n) (sym (subst (λ w. WaitsBy (bytes_of (files s.reader.name)) s.reader s.page w rs) is waits)) tt
  waits_from n least s rs (Some m) is waits rise low =
      let some = subst (λ w. WaitsBy (bytes_of (files s.reader.name)) s.reader s.page w rs) is waits in
      subst (AreRising n) (sym some.1) (let r = subst (AreRising least) some.1 rise in (low m is, r.1, r.2))

  pub all_from : (n least : ℕ) (ss : List Held) (rss : List (List Numbered)) → AllWait files ss rss → AllRise least rss → IsLeast n ss → AllRise n rss
  all_from n least [] [] waits rise low = tt
  all_from n least [] (rs ∷ rss) waits rise low = absurd waits
  all_from n least (s ∷ ss) [] waits rise low = absurd waits
  all_from n least (s ∷ ss) (rs ∷ rss) waits rise low = (waits_from n least s rs s.waiting refl waits.0 rise.0 low.0, all_from n least ss rss waits.1 rise.1 low.1)

  -- the page that waits is the one that the file has
  page_waits : (n : ℕ) (s : Held) (rs : List Numbered) (waiting : Option ℕ) → s.waiting ≡ waiting → Waits files s rs → AreRising n rs → elim (waits_at n s.waiting) as (λ b. Option Page) [ true ↦ Some s.page | false ↦ None ] ≡ page_of n rs
  page_waits n s rs None is waits rise =
      ap (λ w. elim (waits_at n w) as (λ b. Option Page) [ true ↦ Some s.page | false ↦ None ]) is ∙ sym (ap (page_of n) (subst (λ w. WaitsBy (bytes_of (files s.reader.name)) s.reader s.page w rs) is waits))
  page_waits n s rs (Some m) is waits rise =
      let some = subst (λ w. WaitsBy (bytes_of (files s.reader.name)) s.reader s.page w rs) is waits in
      ap (λ w. elim (waits_at n w) as (λ b. Option Page) [ true ↦ Some s.page | false ↦ None ]) is ∙ by some.0 (subst (AreRising n) some.1 rise) ∙ sym (ap (page_of n) some.1)
    where
      by : (more : List Numbered) → AreRising n ((m, s.page) ∷ more) → elim (m == n) as (λ b. Option Page) [ true ↦ Some s.page | false ↦ None ] ≡ page_of n ((m, s.page) ∷ more)
      by more r = elim (eqb_tells m n) [ inl w ↦ rw (w.0, page_of) refl | inr w ↦ rw (w.0, page_of) (sym (none_below n (m + 1) more r.2 (omega (arith, r.0)))) ]

  pub page_is : (n : ℕ) (ss : List Held) (rss : List (List Numbered)) → AllWait files ss rss → AllRise n rss → waiting_page n ss ≡ last_page n rss
  page_is n [] [] waits rise = refl
  page_is n [] (rs ∷ rss) waits rise = absurd waits
  page_is n (s ∷ ss) [] waits rise = absurd waits
  page_is n (s ∷ ss) (rs ∷ rss) waits rise =
      ap (λ o. or_before o (elim (waits_at n s.waiting) as (λ b. Option Page) [ true ↦ Some s.page | false ↦ None ])) (page_is n ss rss waits.1 rise.1)
      ∙ ap (or_before (last_page n rss)) (page_waits n s rs s.waiting refl waits.0 rise.0)

  -- none waits where no file has a page more
  none_waits : (s : Held) (rs : List Numbered) → s.waiting ≡ None → Waits files s rs → rs ≡ []
  none_waits s rs is waits = subst (λ w. WaitsBy (bytes_of (files s.reader.name)) s.reader s.page w rs) is waits

  pub all_end : (ss : List Held) (rss : List (List Numbered)) → AllWait files ss rss → AreAtEnd ss → AllByRecursion (λ (rs : List Numbered). rs ≡ []) rss
  all_end [] [] waits ends = tt
  all_end [] (rs ∷ rss) waits ends = absurd waits
  all_end (s ∷ ss) [] waits ends = absurd waits
  all_end (s ∷ ss) (rs ∷ rss) waits ends = (none_waits s rs ends.0 waits.0, all_end ss rss waits.1 ends.1)

  -- how many pages are left after it
  left_one : (n : ℕ) (s : Held) (rs : List Numbered) (waiting : Option ℕ) → s.waiting ≡ waiting → Waits files s rs → length rs ≡ count_at n s.waiting + length (rest_after n rs)
  left_one n s rs None is waits =
      let none = subst (λ w. WaitsBy (bytes_of (files s.reader.name)) s.reader s.page w rs) is waits in
      ap length none ∙ sym (ap (λ w. count_at n w + length (rest_after n rs)) is ∙ ap (λ (xs : List Numbered). 0 + length (rest_after n xs)) none)
  left_one n s rs (Some m) is waits =
      let some = subst (λ w. WaitsBy (bytes_of (files s.reader.name)) s.reader s.page w rs) is waits in
      ap length some.1 ∙ by some.0 ∙ sym (ap (λ w. count_at n w + length (rest_after n rs)) is ∙ ap (λ (xs : List Numbered). count_at n (Some m) + length (rest_after n xs)) some.1)
    where
      by : (more : List Numbered) → length ((m, s.page) ∷ more) ≡ count_at n (Some m) + length (rest_after n ((m, s.page) ∷ more))
      by more = elim (eqb_tells m n) [ inl w ↦ rw (w.0, count_at, rest_after) (omega arith) | inr w ↦ rw (w.0, count_at, rest_after) (omega arith) ]

  pub left_after : (n : ℕ) (ss : List Held) (rss : List (List Numbered)) → AllWait files ss rss → pages_left rss ≡ counts_at n ss + pages_left (rests n rss)
  left_after n [] [] waits = refl
  left_after n [] (rs ∷ rss) waits = absurd waits
  left_after n (s ∷ ss) [] waits = absurd waits
  left_after n (s ∷ ss) (rs ∷ rss) waits =
      let one = left_one n s rs s.waiting refl waits.0 in
      let more = left_after n ss rss waits.1 in omega (arith, one, more)
