-- Which page comes next.
use Rattle.std.proofs.Common.{◌≡◌, ℕ, ◌<◌, ◌≤◌, List, [], ◌∷◌, refl, sym, ap, ◌∙◌, arith, Bool, true, false, Option, Some, None}
use Rattle.nb_fold.proofs.Common.{Page, eq_no, eq_yes, or_before, Held, AreAtEnd, IsLeast, waiting_page, waits_at, none_some, some_same}

-- a page, where it is the one
abbrev page_if : Bool → Page → Option Page
page_if b page = elim b as (λ x. Option Page) [ true ↦ Some page | false ↦ None ]

-- no page of that number waits in a file
apart : (n : ℕ) (s : Held) (waiting : Option ℕ) → s.waiting ≡ waiting → ((m : ℕ) → s.waiting ≡ Some m → n < m) → page_if (waits_at n s.waiting) s.page ≡ None
apart n s None is low = ap (λ w. page_if (waits_at n w) s.page) is
apart n s (Some m) is low = ap (λ w. page_if (waits_at n w) s.page) is ∙ ap (λ b. page_if b s.page) (eq_no m n (λ e. absurd (let l = low m is in omega (arith, e, l))))

none_ends : (n : ℕ) (ss : List Held) → AreAtEnd ss → waiting_page n ss ≡ None
none_ends n [] ends = refl
none_ends n (s ∷ ss) ends =
    ap (λ o. or_before o (page_if (waits_at n s.waiting) s.page)) (none_ends n ss ends.1) ∙ apart n s None ends.0 (λ m is. absurd (none_some m (sym ends.0 ∙ is)))

none_lower : (n m : ℕ) (ss : List Held) → n < m → IsLeast m ss → waiting_page n ss ≡ None
none_lower n m [] low least = refl
none_lower n m (s ∷ ss) low least =
    ap (λ o. or_before o (page_if (waits_at n s.waiting) s.page)) (none_lower n m ss low least.1) ∙ apart n s s.waiting refl (λ k is. let l = least.0 k is in omega (arith, low, l))

first_is : (n : ℕ) (s : Held) → s.waiting ≡ Some n → page_if (waits_at n s.waiting) s.page ≡ Some s.page
first_is n s is = ap (λ w. page_if (waits_at n w) s.page) is ∙ ap (λ b. page_if b s.page) (eq_yes n n refl)

first_least : (n : ℕ) (s : Held) → s.waiting ≡ Some n → (m : ℕ) → s.waiting ≡ Some m → n ≤ m
first_least n s is m same = let e = some_same n m (sym is ∙ same) in omega (arith, e)

least_ends : (n : ℕ) (ss : List Held) → AreAtEnd ss → IsLeast n ss
least_ends n [] ends = tt
least_ends n (s ∷ ss) ends = (λ m is. absurd (none_some m (sym ends.0 ∙ is)), least_ends n ss ends.1)

least_lower : (n m : ℕ) (ss : List Held) → n < m → IsLeast m ss → IsLeast n ss
least_lower n m [] low least = tt
least_lower n m (s ∷ ss) low least = (λ k is. let l = least.0 k is in omega (arith, low, l), least_lower n m ss low least.1)

-- the first alone waits
pub first_alone : (n : ℕ) (s : Held) (ss : List Held) → s.waiting ≡ Some n → AreAtEnd ss → IsLeast n (s ∷ ss) × (waiting_page n (s ∷ ss) ≡ Some s.page)
first_alone n s ss is ends = ((first_least n s is, least_ends n ss ends), ap (λ o. or_before o (page_if (waits_at n s.waiting) s.page)) (none_ends n ss ends) ∙ first_is n s is)

-- or its number is lower
pub first_lower : (n m : ℕ) (s : Held) (ss : List Held) → s.waiting ≡ Some n → n < m → IsLeast m ss → IsLeast n (s ∷ ss) × (waiting_page n (s ∷ ss) ≡ Some s.page)
first_lower n m s ss is low least = ((first_least n s is, least_lower n m ss low least), ap (λ o. or_before o (page_if (waits_at n s.waiting) s.page)) (none_lower n m ss low least) ∙ first_is n s is)
