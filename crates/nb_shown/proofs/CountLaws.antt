-- Pages are counted one after the other.
use Rattle.std.proofs.Common.{◌≡◌, ℕ, zero, suc, ◌+◌, refl, sym, ap, ◌∙◌, arith, Bool, true, false, not, ◌==◌}
use Rattle.nb_shown.proofs.Common.{kind_of, Image, page_at, is_free_page, count_from, is_other, PageCounts, counts_below, is_taken_of, one_if, with_page}
use Rattle.std.proofs.lemmas.Bool.{true≢false}

-- one that counts, or one that doesn't, before the others
abbrev before : Bool → ℕ → ℕ
before t n = elim t [ true ↦ suc n | false ↦ n ]

before_more : (t : Bool) (a b c : ℕ) → a ≡ b + c → before t a ≡ before t b + c
before_more true a b c e = omega (arith, e)
before_more false a b c e = e

before_none : (t : Bool) → before t 0 ≡ one_if t
before_none true = refl
before_none false = refl

-- the last of so many pages
last_of : (test : ℕ → Bool) (n p : ℕ) → count_from (suc n) p test ≡ count_from n p test + one_if (test (p + n))
unfolding count_from
last_of test zero p =
    let here : p ≡ p + 0 = omega arith in
    let none : (n : ℕ) → n ≡ 0 + n = λ n. omega arith in
    before_none (test p) ∙ ap (λ (m : ℕ). one_if (test m)) here ∙ none (one_if (test (p + 0)))
last_of test (suc n) p =
    let later : p + 1 + n ≡ p + suc n = omega arith in
    before_more (test p) (count_from (suc n) (p + 1) test) (count_from n (p + 1) test) (one_if (test (p + suc n)))
    (last_of test n (p + 1) ∙ ap (λ (m : ℕ). count_from n (p + 1) test + one_if (test m)) later)

page_more : (test : ℕ → Bool) (p : ℕ) → count_from (suc p) 0 test ≡ count_from p 0 test + one_if (test p)
page_more test p =
    let here : 0 + p ≡ p = omega arith in
    last_of test p 0 ∙ ap (λ (m : ℕ). count_from p 0 test + one_if (test m)) here

-- the same counts
same_counts : (h i s d r o f h' i' s' d' r' o' f' : ℕ) → h ≡ h' → i ≡ i' → s ≡ s' → d ≡ d' → r ≡ r' → o ≡ o' → f ≡ f'
    → ◌≡◌ {A = PageCounts} (record { header = h; inventory = i; scn = s; data_pages = d; raw = r; other = o; free = f })
    (record { header = h'; inventory = i'; scn = s'; data_pages = d'; raw = r'; other = o'; free = f' })
same_counts h i s d r o f h' i' s' d' r' o' f' eh ei es ed er eo ef = rw (eh, ei, es, ed, er, eo, ef) refl

-- what is counted with one page more
pub counts_more : (image : Image) (p : ℕ) → counts_below image (suc p) ≡ with_page (is_free_page image p) (kind_of (page_at image p)) (counts_below image p)
counts_more image p =
    same_counts _ _ _ _ _ _ _ _ _ _ _ _ _ _
    (page_more (is_taken_of image (λ k. k == 1)) p) (page_more (is_taken_of image (λ k. k == 2)) p) (page_more (is_taken_of image (λ k. k == 10)) p)
    (page_more (is_taken_of image (λ k. k == 5)) p) (page_more (is_taken_of image (λ k. k == 8)) p) (page_more (is_taken_of image is_other) p)
    (page_more (is_free_page image) p)

-- one page more was counted
pub counted_next : (image : Image) (p kind : ℕ) (is_free : Bool) (c d : PageCounts) → is_free_page image p ≡ is_free → kind ≡ kind_of (page_at image p) → c ≡ counts_below image p → d ≡ with_page is_free kind c
    → d ≡ counts_below image (p + 1)
counted_next image p kind is_free c d free kind_is so_far is =
    let next : suc p ≡ p + 1 = omega arith in
    is ∙ ap (with_page is_free kind) so_far ∙ ap (λ (k : ℕ). with_page is_free k (counts_below image p)) kind_is
    ∙ ap (λ (b : Bool). with_page b (kind_of (page_at image p)) (counts_below image p)) (sym free)
    ∙ sym (counts_more image p) ∙ ap (counts_below image) next

-- a page is free where it isn't used
pub is_unused : (used is_free : Bool) → used ≡ false → used ≡ not is_free → is_free ≡ true
is_unused used true unused same = refl
is_unused used false unused same = absurd (true≢false (sym same ∙ unused))

pub is_used : (used is_free : Bool) → used ≡ true → used ≡ not is_free → is_free ≡ false
is_used used true taken same = absurd (true≢false (sym taken ∙ same))
is_used used false taken same = refl
