-- A walk over a chain, page by page along the links. What came of it on the way, P says of the pages so far.
use Rattle.std.proofs.Common.{◌≡◌, ◌≢◌, inl, inr, ℕ, suc, ◌+◌, ◌-◌, ◌<◌, List, [], ◌∷◌, ◌++◌, length, refl, sym, ap, subst, ◌∙◌, arith, append_assoc, length-append, Bool, true, false, not, ◌==◌, Some, None, Result, Ok, Err}
use Rattle.nb_walk.proofs.Common.{Refusal, NotDatabase, Image, page_at, when, broken_at, Chain, first_of, is_in_chain, next_in, linked, walk, pages_of, found_pages, last_of, eq_no, eq_yes, not_linked, is_so}
use Rattle.std.proofs.lemmas.Bool.Decides.{eqb_tells}
use Rattle.nb_model.proofs.ChainWalks.{onward, walk_on_is, walk_zero, found_is}
use Rattle.nb_host.proofs.PlainLaws.{none_some}

-- a test that is refused fails
refused : (t : Bool) (q r : Refusal) → when (not t) q ≡ Some r → (t ≡ false) × (Some q ≡ Some r)
refused false q r e = (refl, e)
refused true q r e = absurd (none_some r e)

-- pages in front of what a walk goes over
abbrev pub behind : List ℕ → Result (List ℕ) ℕ → Result (List ℕ) ℕ
behind ps (Ok qs) = Ok (ps ++ qs)
behind ps (Err q) = Err q

behind_none : (r : Result (List ℕ) ℕ) → r ≡ behind [] r
behind_none (Ok qs) = refl
behind_none (Err q) = refl

behind_more : (ps : List ℕ) (p : ℕ) (r : Result (List ℕ) ℕ) → behind ps (linked p r) ≡ behind (ps ++ p ∷ []) r
behind_more ps p (Ok qs) = ap Ok (sym (append_assoc ps (p ∷ []) qs))
behind_more ps p (Err q) = refl

last_behind : (ps : List ℕ) (p : ℕ) → last_of (ps ++ p ∷ []) ≡ p
last_behind [] p = refl
last_behind (q ∷ []) p = refl
last_behind (q ∷ r ∷ ps) p = last_behind (r ∷ ps) p

-- the walk from a page on
module _ (chain : Chain) (image : Image) (left p : ℕ) where
  walk_broken : is_in_chain chain image p ≡ false → walk (suc left) chain image p ≡ Err p
  unfolding walk
  walk_broken is = ap (λ (t : Bool). elim t as (λ z. Result (List ℕ) ℕ) [ false ↦ Err p | true ↦ onward chain image left p (next_in (page_at image p) == 0) ]) is

  module _ (is : is_in_chain chain image p ≡ true) where
    walk_ended : next_in (page_at image p) ≡ 0 → walk (suc left) chain image p ≡ Ok (p ∷ [])
    walk_ended end = walk_on_is left chain image p is ∙ ap (onward chain image left p) (eq_yes (next_in (page_at image p)) 0 end)

    walk_on : next_in (page_at image p) ≢ 0 → walk (suc left) chain image p ≡ linked p (walk left chain image (next_in (page_at image p)))
    walk_on some = walk_on_is left chain image p is ∙ ap (onward chain image left p) (eq_no (next_in (page_at image p)) 0 some)

-- What came of a walk along a chain, up to one page.
pub record Walks (chain : Chain) (image : Image) (P : List ℕ → Type 0) (left number : ℕ) : Type 0 where
  pub seen : List ℕ
  pub are : pages_of chain image ≡ behind seen (walk left chain image number)
  pub is : P seen
  pub long : length seen + left ≡ length image

pub walks_first : (chain : Chain) (image : Image) (P : List ℕ → Type 0) (left number : ℕ) → left ≡ length image → number ≡ first_of chain → P [] → Walks chain image P left number
unfolding pages_of
walks_first chain image P left number many first is = record {
  seen = [];
  are = ap (λ (n : ℕ). walk n chain image (first_of chain)) (sym many) ∙ ap (walk left chain image) (sym first) ∙ behind_none (walk left chain image number);
  is = is;
  long = omega (arith, many);
}

module _ (chain : Chain) (image : Image) (P : List ℕ → Type 0) (all number : ℕ) (some : 0 < all) (was : Walks chain image P all number) where
  abbrev left : ℕ
  left = all - 1

  pub so : Walks chain image P (suc left) number
  so = subst (λ (n : ℕ). Walks chain image P n number) (let e : all ≡ suc (all - 1) = omega (arith, some) in e) was

  -- the next page breaks the form
  pub walks_broken : (r : Refusal) → not_linked chain image number ≡ Some r → broken_at (pages_of chain image) ≡ Some r
  walks_broken r some =
      let both = refused (is_in_chain chain image number) (NotDatabase number) r some in
      ap broken_at (so.are ∙ ap (behind so.seen) (walk_broken chain image left number both.0)) ∙ both.1

  -- or is one of the chain
  module _ (none : not_linked chain image number ≡ None) where
    abbrev next_page : ℕ
    next_page = next_in (page_at image number)

    is_linked : is_in_chain chain image number ≡ true
    is_linked = is_so (is_in_chain chain image number) (NotDatabase number) none

    ended : next_page ≡ 0 → pages_of chain image ≡ Ok (so.seen ++ number ∷ [])
    ended end = so.are ∙ ap (behind so.seen) (walk_ended chain image left number is_linked end)

    leads : next_page ≢ 0 → pages_of chain image ≡ behind so.seen (linked number (walk left chain image next_page))
    leads on = so.are ∙ ap (behind so.seen) (walk_on chain image left number is_linked on)

    -- where the chain is of the form, the pages so far are its first ones, and this one is the next
    pub walks_split : broken_at (pages_of chain image) ≡ None → (rest : List ℕ) × (found_pages chain image ≡ so.seen ++ (number ∷ rest))
    walks_split formed = elim (eqb_tells next_page 0) [
      | inl w ↦ ([], found_is chain image (so.seen ++ number ∷ []) (ended w.1))
      | inr w ↦ by w.1 (walk left chain image next_page) refl
    ]
      where
        by : next_page ≢ 0 → (r : Result (List ℕ) ℕ) → walk left chain image next_page ≡ r → (rest : List ℕ) × (found_pages chain image ≡ so.seen ++ (number ∷ rest))
        by on (Ok qs) e = (qs, found_is chain image (so.seen ++ number ∷ qs) (leads on ∙ ap (λ (r : Result (List ℕ) ℕ). behind so.seen (linked number r)) e))
        by on (Err q) e = absurd (none_some (NotDatabase q) (sym formed ∙ ap broken_at (leads on ∙ ap (λ (r : Result (List ℕ) ℕ). behind so.seen (linked number r)) e)))

    module _ (Q : List ℕ → Type 0) (one : (ps : List ℕ) → P ps → Q (ps ++ number ∷ [])) where
      abbrev more : List ℕ
      more = so.seen ++ number ∷ []

      long_more : length more ≡ length so.seen + 1
      long_more = length-append so.seen (number ∷ [])

      -- it leads on
      pub walks_next : (next : ℕ) → next ≡ next_page → next ≢ 0 → Walks chain image Q left next
      walks_next next is on = record {
        seen = more;
        are = leads (λ e. on (is ∙ e)) ∙ behind_more so.seen number (walk left chain image next_page) ∙ ap (λ (n : ℕ). behind more (walk left chain image n)) (sym is);
        is = one so.seen so.is;
        long = (let long = so.long in omega (arith, long, long_more));
      }

      -- or is the last
      module _ (next : ℕ) (is : next ≡ next_page) (end : next ≡ 0) where
        walks_pages : pages_of chain image ≡ Ok more
        walks_pages = ended (sym is ∙ end)

        walks_found : found_pages chain image ≡ more
        walks_found = found_is chain image more walks_pages

        pub walks_none : broken_at (pages_of chain image) ≡ None
        walks_none = ap broken_at walks_pages

        pub walks_all : Q (found_pages chain image)
        walks_all = subst Q (sym walks_found) (one so.seen so.is)

        pub walks_last : number ≡ last_of (found_pages chain image)
        walks_last = sym (ap last_of walks_found ∙ last_behind so.seen number)

        -- each page was read once
        pub walks_length : length (found_pages chain image) + left ≡ length image
        walks_length = (let long = so.long in omega (arith, long, long_more, ap length walks_found))

-- the walk has come by more pages than there are
pub walks_over : (chain : Chain) (image : Image) (P : List ℕ → Type 0) (count number : ℕ) → count ≡ 0 → Walks chain image P count number → broken_at (pages_of chain image) ≡ Some (NotDatabase number)
walks_over chain image P count number none so =
    ap broken_at (so.are ∙ ap (λ (n : ℕ). behind so.seen (walk n chain image number)) none ∙ ap (behind so.seen) (walk_zero chain image number))
