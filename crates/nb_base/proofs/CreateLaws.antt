-- The file of a new database as it reads while it is made: pages from 1 on, and page 0 at last.
use Rattle.std.proofs.Common.{◌≡◌, ℕ, zero, suc, ◌+◌, ◌-◌, ◌*◌, ◌<◌, ◌≤◌, List, [], ◌∷◌, ◌++◌, length, drop, map, replicate, refl, sym, ◌∙◌, ap, subst, arith, mul-le-mul_right, IsTrue, Some, Ok}
use Rattle.nb_base.proofs.Common.{flat_map, range_with_len, length-replicate, take_all, drop_all, is_page_size, fresh, fresh_count, fresh_page, size_facts, File, padded, put_at, Page, joined, IsOfSize, base_of, owner, joined-flat_map, put-next, owner_main, length-fresh_page, fresh_count-least, fresh_main, fresh_rebuilt}
use Rattle.std.proofs.lemmas.List.FromFn.{length-map-range_with_len, map-range_with_len_more}
use Rattle.nb_host.specs.Files.{with_page}
use Rattle.nb_base.proofs.Common.{length-joined}
use Rattle.nb_base.specs.Stays.{EndsWithin}

-- so many pages of a new database, from page 1 on
abbrev rest : (size raw n : ℕ) → List Page
rest size raw n = map (fresh_page size raw) (range_with_len 1 n)

-- pages from 1 on, and zeros where page 0 will be, once there is one
abbrev with_gap : (size : ℕ) → List Page → List Page
with_gap size [] = []
with_gap size (p ∷ ps) = replicate size 0 ∷ p ∷ ps

-- the file as it reads once the pages from 1 on, up to this number, are written
pub record HasRest (size raw number : ℕ) (file : File) : Type 0 where
  pub n : ℕ
  pub next : number ≡ suc n
  pub reads : file ≡ Some (joined (with_gap size (rest size raw n)))

pub rest_begun : (size raw : ℕ) (file : File) → file ≡ Some [] → HasRest size raw 1 file
rest_begun size raw file is = record { n = 0; next = refl; reads = is }

-- the first page after the gap, and a page after others
put-gap : (size : ℕ) (page : Page) → put_at [] (1 * size) page ≡ joined (replicate size 0 ∷ page ∷ [])
unfolding put_at padded
put-gap size page =
    let same : 1 * size ≡ size = omega arith in
    let long : length (replicate {A = ℕ} (1 * size - 0) 0) ≤ 1 * size = omega (arith, length-replicate {A = ℕ} (1 * size - 0) 0) in
    ap (λ (x : List ℕ). x ++ (page ++ drop (1 * size + length page) [])) (take_all (1 * size) (replicate (1 * size - 0) 0) long ∙ ap (λ k. replicate {A = ℕ} k 0) (let e : 1 * size - 0 ≡ size = omega arith in e))
    ∙ ap (λ (x : List ℕ). replicate size 0 ++ (page ++ x)) (drop_all (1 * size + length page) [] (omega arith))

with_gap-next : (size : ℕ) (page : Page) (ps : List Page) → IsOfSize size ps → length page ≡ size → put_at (joined (with_gap size ps)) (suc (length ps) * size) page ≡ joined (with_gap size (ps ++ page ∷ []))
with_gap-next size page [] sizes long = put-gap size page
with_gap-next size page (p ∷ ps) sizes long = put-next size page (replicate size 0 ∷ p ∷ ps) (length-replicate {A = ℕ} size 0, sizes) long

rest-sizes : (size raw from n : ℕ) → IsTrue (is_page_size size) → IsOfSize size (map (fresh_page size raw) (range_with_len from n))
rest-sizes size raw from zero is = tt
rest-sizes size raw from (suc n) is = (length-fresh_page size raw from is, rest-sizes size raw (from + 1) n is)

module _ (size raw : ℕ) (is : IsTrue (is_page_size size)) where
  -- a page that isn't the first stands after the header
  pub far_behind : (number : ℕ) (page : Page) → page ≡ fresh_page size raw number → 1 ≤ number → 64 ≤ number * length page
  far_behind number page page_is some =
      let long : length page ≡ size = ap length page_is ∙ length-fresh_page size raw number is in
      let low : 1 * length page ≤ number * length page = mul-le-mul_right (length page) some in
      omega (arith, low, long, (size_facts size is).at_least)

  -- a page more
  pub rest_more : (number : ℕ) (page : Page) (before after : File) → page ≡ fresh_page size raw number → HasRest size raw number before → after ≡ with_page before (number * length page) page → HasRest size raw (number + 1) after
  rest_more number page before after page_is so_far put =
      let n : ℕ = so_far.n in
      let count : length (rest size raw n) ≡ n = length-map-range_with_len (fresh_page size raw) 1 n in
      let long : length page ≡ size = ap length page_is ∙ length-fresh_page size raw number is in
      let place : number * length page ≡ suc (length (rest size raw n)) * size = ap (λ k. number * k) long ∙ ap (λ k. k * size) (so_far.next ∙ ap suc (sym count)) in
      let last : 1 + n ≡ number = omega (arith, so_far.next) in
      record {
        n = n + 1;
        next = omega (arith, so_far.next);
        reads = put ∙ ap (λ (f : File). with_page f (number * length page) page) so_far.reads ∙ ap (λ k. Some (put_at (joined (with_gap size (rest size raw n))) k page)) place
            ∙ ap Some (with_gap-next size page (rest size raw n) (rest-sizes size raw 1 n is) long)
            ∙ ap (λ (p : Page). Some (joined (with_gap size (rest size raw n ++ p ∷ [])))) page_is
            ∙ ap (λ (ps : List Page). Some (joined (with_gap size ps))) (sym (map-range_with_len_more (fresh_page size raw) 1 n number last));
      }

  -- the pages after page 0
  rest-all : (n : ℕ) → fresh_count size raw ≡ suc n → drop 1 (fresh size raw) ≡ rest size raw n
  unfolding fresh
  rest-all n all = ap (λ k. drop 1 (map (fresh_page size raw) (range_with_len 0 k))) all

  some-gap : (ps : List Page) → 1 ≤ length ps → with_gap size ps ≡ replicate size 0 ∷ ps
  some-gap [] h = absurd (omega arith)
  some-gap (p ∷ ps) h = refl

  -- page 0 makes the file whole
  pub rest_whole : (page : Page) (file : File) → page ≡ fresh_page size raw 0 → HasRest size raw (fresh_count size raw) file → with_page file (0 * length page) page ≡ Some (flat_map (λ p. p) (fresh size raw))
  rest_whole page file page_is so_far =
      let n : ℕ = so_far.n in
      let some : 1 ≤ length (rest size raw n) = omega (arith, length-map-range_with_len (fresh_page size raw) 1 n, so_far.next, fresh_count-least size raw) in
      let pages : joined (with_gap size (rest size raw n)) ≡ flat_map (λ p. p) (replicate size 0 ∷ drop 1 (fresh size raw)) =
      ap joined (some-gap (rest size raw n) some) ∙ ap (λ (ps : List Page). joined (replicate size 0 ∷ ps)) (sym (rest-all n so_far.next)) ∙ joined-flat_map (replicate size 0 ∷ drop 1 (fresh size raw)) in
      ap (λ (f : File). with_page f (0 * length page) page) (so_far.reads ∙ ap Some pages)
      ∙ ap (λ k. Some (put_at (flat_map (λ p. p) (replicate size 0 ∷ drop 1 (fresh size raw))) k page)) (let e : 0 * length page ≡ 0 = omega arith in e)
      ∙ ap (λ (p : Page). Some (put_at (flat_map (λ p. p) (replicate size 0 ∷ drop 1 (fresh size raw))) 0 p)) page_is
      ∙ ap Some (fresh_rebuilt size raw (replicate size 0) is (length-replicate {A = ℕ} size 0))

  -- and then it is that of the new database
  pub whole_shows : (name : List ℕ) (number count : ℕ) (page : Page) (file : File) → raw ≤ 65535 → count ≡ fresh_count size raw → count ≤ number → (1 ≤ count → number ≤ count) → page ≡ fresh_page size raw 0
      → HasRest size raw number file → (d : File) → owner name (with_page file (0 * length page) page) d ≡ Ok (base_of (fresh size raw))
  whole_shows name number count page file few count_is done within page_is so_far d =
      let least = fresh_count-least size raw in
      let upper : number ≤ count = within (omega (arith, least, count_is)) in
      let all : number ≡ fresh_count size raw = omega (arith, upper, done, count_is) in
      let reads = rest_whole page file page_is (subst (λ k. HasRest size raw k file) all so_far) in
      subst (λ (f : File). owner name f d ≡ Ok (base_of (fresh size raw))) (sym reads) (owner_main name (fresh size raw) _ d (fresh_main size raw is few))

-- no longer than its pages
pub rest_within : (size raw number : ℕ) → IsTrue (is_page_size size) → (file : File) → HasRest size raw number file → EndsWithin (number * size) file
rest_within size raw number is file so_far = subst (EndsWithin (number * size)) (sym so_far.reads) (by (rest size raw so_far.n) (rest-sizes size raw 1 so_far.n is) (length-map-range_with_len (fresh_page size raw) 1 so_far.n))
  where
    by : (ps : List Page) → IsOfSize size ps → length ps ≡ so_far.n → EndsWithin (number * size) (Some (joined (with_gap size ps)))
    by [] sizes count = omega arith
    by (p ∷ ps) sizes count =
        omega (arith, length-joined size (replicate size 0 ∷ p ∷ ps) (length-replicate {A = ℕ} size 0, sizes), ap (λ n. n * size) (let e : length (replicate {A = ℕ} size 0 ∷ p ∷ ps) ≡ number = omega (arith, count, so_far.next) in e))

-- once all pages from 1 on are written
pub looped_within : (size raw number count : ℕ) → IsTrue (is_page_size size) → (looped mid : File) → count ≤ number → (1 ≤ count → number ≤ count) → count ≡ fresh_count size raw → HasRest size raw number looped → mid ≡ looped
    → EndsWithin (count * size) mid × (0 < count)
looped_within size raw number count is looped mid done within count_is so_far same =
    let some : 0 < count = omega (arith, fresh_count-least size raw, count_is) in
    let upper : number ≤ count = within some in
    let all : number ≡ count = omega (arith, upper, done) in
    (subst (EndsWithin (count * size)) (sym same) (subst (λ n. EndsWithin (n * size) looped) all (rest_within size raw number is looped so_far)), some)
