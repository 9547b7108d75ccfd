-- Counting pages from the end gives the length of an image without its pages of zeros.
use Rattle.std.proofs.Common.{◌≡◌, inl, inr, ℕ, zero, suc, ◌+◌, ◌≤◌, [], ◌∷◌, length, refl, sym, ap, ◌∙◌, arith, Bool, true, false}
use Rattle.nb_chain.proofs.Common.{cases_Bool, is_zeros, Page, Image, page_at, trimmed, without_blank, trimmed-none}

by_last : (blank : Bool) (below here : ℕ) → ℕ
by_last blank below here = elim blank [ true ↦ below | false ↦ here ]

last_step : (blank : ℕ → Bool) (n : ℕ) → without_blank blank (suc n) ≡ by_last (blank n) (without_blank blank n) (suc n)
unfolding without_blank by_last
last_step blank n = refl

none_left : (blank : ℕ → Bool) → without_blank blank 0 ≡ 0
unfolding without_blank
none_left blank = refl

-- the last page is blank, and isn't
last_blank : (blank : ℕ → Bool) (n : ℕ) → blank n ≡ true → without_blank blank (suc n) ≡ without_blank blank n
unfolding by_last
last_blank blank n e = last_step blank n ∙ ap (λ (b : Bool). by_last b (without_blank blank n) (suc n)) e

last_filled : (blank : ℕ → Bool) (n : ℕ) → blank n ≡ false → without_blank blank (suc n) ≡ suc n
unfolding by_last
last_filled blank n e = last_step blank n ∙ ap (λ (b : Bool). by_last b (without_blank blank n) (suc n)) e

-- pages that are blank alike are counted alike
pub counted_alike : (f g : ℕ → Bool) → ((p : ℕ) → f p ≡ g p) → (n : ℕ) → without_blank f n ≡ without_blank g n
counted_alike f g same zero = none_left f ∙ sym (none_left g)
counted_alike f g same (suc n) =
    last_step f n ∙ ap (λ (b : Bool). by_last b (without_blank f n) (suc n)) (same n) ∙ ap (λ (k : ℕ). by_last (g n) k (suc n)) (counted_alike f g same n) ∙ sym (last_step g n)

-- one page before the others
more : Bool → ℕ → ℕ
more blank zero = elim blank [ true ↦ 0 | false ↦ 1 ]
more blank (suc k) = suc (suc k)

one_more : (b : Bool) → by_last b 0 1 ≡ more b 0
unfolding by_last more
one_more true = refl
one_more false = refl

some_more : (b : Bool) (n : ℕ) → more b (suc n) ≡ suc (suc n)
unfolding more
some_more b n = refl

before_others : (f : ℕ → Bool) (n : ℕ) → without_blank f (suc n) ≡ more (f 0) (without_blank (λ p. f (suc p)) n)
before_others f zero =
    last_step f 0 ∙ ap (λ (k : ℕ). by_last (f 0) k 1) (none_left f) ∙ one_more (f 0) ∙ sym (ap (more (f 0)) (none_left (λ p. f (suc p))))
before_others f (suc n) = elim (cases_Bool (f (suc n))) [
  | inl w ↦ last_blank f (suc n) w ∙ before_others f n ∙ sym (ap (more (f 0)) (last_blank (λ p. f (suc p)) n w))
  | inr w ↦ last_filled f (suc n) w ∙ sym (some_more (f 0) n) ∙ sym (ap (more (f 0)) (last_filled (λ p. f (suc p)) n w))
]

-- an image by its first page and what is left of the others
by_rest : Page → Image → Image
by_rest p rest = elim rest [
  | [] ↦ elim (is_zeros p) [ true ↦ [] | false ↦ p ∷ [] ]
  | q ∷ qs ↦ p ∷ q ∷ qs
]

trimmed_by : (p : Page) (ps : Image) → trimmed (p ∷ ps) ≡ by_rest p (trimmed ps)
unfolding trimmed by_rest
trimmed_by p ps = refl

length_by : (p : Page) (rest : Image) → length (by_rest p rest) ≡ more (is_zeros p) (length rest)
unfolding by_rest more
length_by p (q ∷ qs) = refl
length_by p [] = from (is_zeros p)
  where
    from : (b : Bool) → length {A = Page} (elim b [ true ↦ [] | false ↦ p ∷ [] ]) ≡ elim b [ true ↦ 0 | false ↦ 1 ]
    from true = refl
    from false = refl

-- the length of an image without the pages of zeros at its end
pub length_trimmed : (image : Image) → length (trimmed image) ≡ without_blank (λ p. is_zeros (page_at image p)) (length image)
length_trimmed [] = ap length trimmed-none ∙ sym (none_left (λ p. is_zeros (page_at [] p)))
length_trimmed (p ∷ ps) =
    ap length (trimmed_by p ps) ∙ length_by p (trimmed ps) ∙ ap (more (is_zeros p)) (length_trimmed ps) ∙ sym (before_others (λ q. is_zeros (page_at (p ∷ ps) q)) (length ps))

-- the same with the place in front of so many pages named
pub found_filled : (blank : ℕ → Bool) (n m : ℕ) → n ≡ suc m → blank m ≡ false → without_blank blank n ≡ n
found_filled blank n m next e = ap (without_blank blank) next ∙ last_filled blank m e ∙ sym next

pub found_blank : (blank : ℕ → Bool) (n m : ℕ) → n ≡ suc m → blank m ≡ true → without_blank blank n ≡ without_blank blank m
found_blank blank n m next e = ap (without_blank blank) next ∙ last_blank blank m e

pub found_none : (blank : ℕ → Bool) (n : ℕ) → n ≡ 0 → without_blank blank n ≡ n
found_none blank n none = ap (without_blank blank) none ∙ none_left blank ∙ sym none

-- no more are left than there were
pub no_more : (blank : ℕ → Bool) (n : ℕ) → without_blank blank n ≤ n
no_more blank zero = omega (arith, none_left blank)
no_more blank (suc n) = elim (cases_Bool (blank n)) [
  | inl w ↦ omega (arith, last_blank blank n w, no_more blank n)
  | inr w ↦ omega (arith, last_filled blank n w)
]

-- what was read from the end on, once the pages past `count` are known to be blank
pub end_within : (blank : ℕ → Bool) (count total before here after : ℕ) → here + count ≤ before + total → without_blank blank total ≡ without_blank blank count → after ≤ here + 1 → after + without_blank blank total ≤ before + total + 1
end_within blank count total before here after so_far same read = omega (arith, so_far, same, no_more blank count, read)
