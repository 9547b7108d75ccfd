-- Lists of pages, after whose ends zeros are seen: which pages are the same once records are written over.
use Rattle.std.proofs.Common.{◌≡◌, ◌≢◌, ◌⊎◌, inl, inr, ℕ, zero, suc, ◌-◌, List, [], ◌∷◌, ◌++◌, length, drop, replicate, refl, sym, ap, ◌∙◌, arith, Contains}
use Rattle.nb_inplace.proofs.Common.{cases_eq, cases_lt, get_or-append_right, get_or-set_same, Page, Image, Numbered, page_at, written_at, overwritten, main_page, main_here, other_page, written-behind, written-inside, written-past, written-zero, length-written}

-- the page that is written
behind_zeros : (k : ℕ) (z page : Page) → page_at (replicate k z ++ page ∷ []) k ≡ page
behind_zeros zero z page = refl
behind_zeros (suc k) z page = behind_zeros k z page

pub written_page : (size : ℕ) (r : Numbered) (image : Image) → main_page size (written_at size r image) r.0 ≡ r.1
written_page size r image =
    main_here size (written_at size r image) r.0 (omega (arith, length-written size r image)) ∙ elim (cases_lt r.0 (length image)) [
      | inl w ↦ ap (λ (x : Image). page_at x r.0) (written-inside size r image w) ∙ get_or-set_same image r.0 r.1 [] w
      | inr w ↦
          ap (λ (x : Image). page_at x r.0) (written-past size r image w)
          ∙ get_or-append_right image (replicate (r.0 - length image) (replicate size 0) ++ r.1 ∷ []) (length image) r.0 [] refl w ∙ behind_zeros (r.0 - length image) (replicate size 0) r.1
    ]

-- A page of records is the same whatever was there before, and every other is as it was.
pub over_alike : (size : ℕ) (rs : List Numbered) (a b : Image) (p : ℕ) → (main_page size b p ≡ main_page size a p) ⊎ ((page : Page) × Contains rs (p, page)) → main_page size (overwritten size rs b) p ≡ main_page size (overwritten size rs a) p
unfolding overwritten
over_alike size [] a b p (inl same) = same
over_alike size [] a b p (inr (page, (k, low, is))) = absurd (omega (arith, low))
over_alike size (r ∷ rs) a b p either = over_alike size rs (written_at size r a) (written_at size r b) p (by (cases_eq p r.0) either)
  where
    further : (page : Page) → p ≢ r.0 → Contains (r ∷ rs) (p, page) → Contains rs (p, page)
    further page other (zero, low, is) = absurd (other (ap (λ (x : Numbered). x.0) (sym is)))
    further page other (suc k, low, is) = (k, omega (arith, low), is)

    by : (p ≡ r.0) ⊎ (p ≢ r.0) → (main_page size b p ≡ main_page size a p) ⊎ ((page : Page) × Contains (r ∷ rs) (p, page)) → (main_page size (written_at size r b) p ≡ main_page size (written_at size r a) p) ⊎ ((page : Page) × Contains rs (p, page))
    by (inl is) here = inl (ap (main_page size (written_at size r b)) is ∙ written_page size r b ∙ sym (ap (main_page size (written_at size r a)) is ∙ written_page size r a))
    by (inr other) (inl same) = inl (other_page size r.0 r.1 b p other ∙ same ∙ sym (other_page size r.0 r.1 a p other))
    by (inr other) (inr (page, there)) = inr (page, further page other there)

-- Where page 0 is a record's, what stands there before is the same to all.
pub over_first : (size : ℕ) (rs : List Numbered) (p q : Page) (ps : List Page) → (page : Page) × Contains rs (0, page) → overwritten size rs (p ∷ ps) ≡ overwritten size rs (q ∷ ps)
unfolding overwritten
over_first size [] p q ps (page, (k, low, is)) = absurd (omega (arith, low))
over_first size ((zero, x) ∷ rs) p q ps has = ap (overwritten size rs) (written-zero size x p ps ∙ sym (written-zero size x q ps))
over_first size ((suc n, x) ∷ rs) p q ps (page, there) =
    let more : List Page = drop 1 (written_at size (suc n, x) (q ∷ ps)) in
    ap (overwritten size rs) (written-behind size n x p q ps) ∙ over_first size rs p q more (page, further there) ∙ ap (overwritten size rs) (sym (written-behind size n x q q ps))
  where
    further : Contains ((suc n, x) ∷ rs) (0, page) → Contains rs (0, page)
    further (zero, low, is) = absurd (let same : suc n ≡ 0 = ap (λ (r : Numbered). r.0) is in omega (arith, same))
    further (suc k, low, is) = (k, omega (arith, low), is)
