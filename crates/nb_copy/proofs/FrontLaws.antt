-- The front of a copy grows page by page, and with page 0 it is the whole.
use Rattle.std.proofs.Common.{◌≡◌, ℕ, zero, suc, ◌+◌, ◌*◌, ◌<◌, ◌≤◌, List, [], ◌∷◌, ◌++◌, length, take, drop, replicate, refl, sym, ap, ◌∙◌, arith, Some}
use Rattle.nb_copy.proofs.Common.{take_all, drop_all, take-append-le, length-take-le, length-replicate, is_zeros, padded, put_at, Page, Image, page_at, first_page, joined, IsOfSize, all-take, IsBlank, front_pages, zeros-take}
use Rattle.nb_model.proofs.PutLaws.{put-second, put-next, put-first}

-- one page more of a list
take-more : (k : ℕ) (ps : List Page) → k < length ps → take (suc k) ps ≡ take k ps ++ page_at ps k ∷ []
take-more k [] low = absurd (omega (arith, low))
take-more zero (p ∷ ps) low = refl
take-more (suc k) (p ∷ ps) low = ap (λ (x : List Page). p ∷ x) (take-more k ps (let l : k < length ps = omega (arith, low) in l))

module _ (size : ℕ) where
  -- a page goes after those that stand there
  next_page : (k : ℕ) (p : Page) (ps : List Page) (page : Page) → IsOfSize size (p ∷ ps) → k < length ps → page ≡ page_at ps k → length page ≡ size
      → put_at (joined (front_pages size (suc k) (p ∷ ps))) (suc k * size) page ≡ joined (front_pages size (suc (suc k)) (p ∷ ps))
  unfolding front_pages
  next_page zero p ps page sizes low is long =
      ap (λ x. put_at [] x page) (let e : 1 * size ≡ size = omega arith in e) ∙ put-second size page
      ∙ ap (λ (x : List Page). joined (replicate size 0 ∷ x)) (ap (λ (x : Page). x ∷ []) is ∙ sym (take-more 0 ps low))
  next_page (suc j) p ps page sizes low is long =
      let pages : List Page = replicate size 0 ∷ take (suc j) ps in
      let count : length pages ≡ suc (suc j) = ap suc (length-take-le (suc j) ps (omega (arith, low))) in
      let all : IsOfSize size pages = (length-replicate {A = ℕ} size 0, all-take (λ x. length x ≡ size) (suc j) ps sizes.1) in
      ap (λ x. put_at (joined pages) (x * size) page) (sym count) ∙ put-next size page pages all long
      ∙ ap (λ (x : List Page). joined (replicate size 0 ∷ x)) (ap (λ (x : Page). take (suc j) ps ++ x ∷ []) is ∙ sym (take-more (suc j) ps low))

  pub front_next : (k : ℕ) (frozen : Image) (page : Page) → IsOfSize size frozen → 1 ≤ k → k < length frozen → page ≡ page_at frozen k → length page ≡ size
      → put_at (joined (front_pages size k frozen)) (k * size) page ≡ joined (front_pages size (k + 1) frozen)
  front_next k [] page sizes some low is long = absurd (omega (arith, low))
  front_next zero (p ∷ ps) page sizes some low is long = absurd (omega (arith, some))
  front_next (suc k) (p ∷ ps) page sizes some low is long =
      next_page k p ps page sizes (omega (arith, low)) is long ∙ ap (λ n. joined (front_pages size n (p ∷ ps))) (let e : suc (suc k) ≡ suc k + 1 = omega arith in e)

  -- a page put into nothing
  put_nothing : (page : Page) → put_at [] 0 page ≡ page ++ []
  unfolding put_at padded
  put_nothing page = ap (λ (rest : List ℕ). page ++ rest) (drop_all (0 + length page) [] (omega arith))

  -- page 0 over the zeros in its place
  pub front_whole : (k : ℕ) (frozen : Image) (first : Page) → IsOfSize size frozen → 1 ≤ k → k ≡ length frozen → first ≡ first_page frozen
      → put_at (joined (front_pages size k frozen)) (0 * length first) first ≡ joined frozen
  unfolding front_pages
  front_whole k [] first sizes some all is = absurd (omega (arith, some, all))
  front_whole zero (p ∷ ps) first sizes some all is = absurd (omega (arith, some))
  front_whole (suc zero) (p ∷ []) first sizes some all is =
      ap (λ x. put_at [] x first) (let e : 0 * length first ≡ 0 = omega arith in e) ∙ put_nothing first ∙ ap (λ (x : Page). joined (x ∷ [])) is
  front_whole (suc zero) (p ∷ q ∷ ps) first sizes some all is = absurd (omega (arith, all))
  front_whole (suc (suc k)) (p ∷ ps) first sizes some all is =
      let cut : take (suc k) ps ≡ ps = take_all (suc k) ps (omega (arith, all)) in
      ap (λ (x : List Page). put_at (joined (replicate size 0 ∷ x)) (0 * length first) first) cut
      ∙ ap (λ x. put_at (joined (replicate size 0 ∷ ps)) x first) (let e : 0 * length first ≡ 0 = omega arith in e)
      ∙ put-first size (replicate size 0) first ps (length-replicate {A = ℕ} size 0, sizes.1) (ap length is ∙ sizes.0)
      ∙ ap (λ (x : Page). joined (x ∷ ps)) is

  -- the front begins with zeros
  pub front_blank : (k : ℕ) (frozen : Image) → 64 ≤ size → IsBlank (Some (joined (front_pages size k frozen)))
  unfolding front_pages
  front_blank zero frozen wide = refl
  front_blank (suc zero) frozen wide = refl
  front_blank (suc (suc k)) frozen wide =
      ap is_zeros (take-append-le 64 (replicate size 0) (joined (take (suc k) (drop 1 frozen))) (omega (arith, wide, length-replicate {A = ℕ} size 0))) ∙ zeros-take 64 size
