-- The pages of a chain are tested one after the other, along their links, before any of them is given back.
use Rattle.std.proofs.Common.{◌≡◌, ◌≢◌, ℕ, zero, suc, ◌-◌, ◌<◌, List, [], ◌∷◌, ◌++◌, length, refl, sym, ap, subst, ◌∙◌, arith, min, Option, Some, None, Ok}
use Rattle.nb_table.proofs.Common.{append-nil, data_kind, Refusal, NotDatabase, Cause, lowest_of, lowest_broken, Chain, first_of, owner_of, next_in, walk, pages_of, Image, page_at, walk_zero, in_chain, chain_owner, give_broken, not_data, need_cause, owner_is, lowest_append, kind_is, drop_broken, err_ok, none_some, some_none}
use Rattle.nb_table.proofs.GiveLaws.{IsFirst, walk_first}

page_same : (p q : ℕ) → Some (NotDatabase p) ≡ Some (NotDatabase q) → p ≡ q
page_same p q e = cc

-- the lowest of two lists
pub lower_both : (pages more : List ℕ) (p q : ℕ) → Some (NotDatabase p) ≡ lowest_broken pages → Some (NotDatabase q) ≡ lowest_broken more → Some (NotDatabase (min p q)) ≡ lowest_broken (more ++ pages)
unfolding lowest_broken
lower_both [] more p q e f = absurd (some_none (NotDatabase p) e)
lower_both (x ∷ xs) [] p q e f = absurd (some_none (NotDatabase q) f)
lower_both (x ∷ xs) (y ∷ ys) p q e f =
    let a : p ≡ lowest_of x xs = page_same p (lowest_of x xs) e in
    let b : q ≡ lowest_of y ys = page_same q (lowest_of y ys) f in
    ap (λ (n : ℕ). Some (NotDatabase n)) (let same : min p q ≡ lowest_of y (ys ++ x ∷ xs) = omega (arith, a, b, lowest_append y ys x xs) in same)

pub lower_first : (pages more : List ℕ) (p : ℕ) → Some (NotDatabase p) ≡ lowest_broken pages → None ≡ lowest_broken more → Some (NotDatabase p) ≡ lowest_broken (more ++ pages)
unfolding lowest_broken
lower_first pages [] p e f = e
lower_first pages (y ∷ ys) p e f = absurd (none_some (NotDatabase (lowest_of y ys)) f)

pub lower_second : (pages more : List ℕ) (c : Cause) → None ≡ lowest_broken pages → c ≡ lowest_broken more → c ≡ lowest_broken (more ++ pages)
unfolding lowest_broken
lower_second [] more c e f = f ∙ ap lowest_broken (sym (append-nil more))
lower_second (x ∷ xs) more c e f = absurd (none_some (NotDatabase (lowest_of x xs)) e)

-- Some pages of a chain were tested, after others; the rest are still to come, `number` next.
pub record Checks (chain : Chain) (image : Image) (pages noted : List ℕ) (left number : ℕ) (lacking : Option ℕ) : Type 0 where
  pub behind : List ℕ
  pub rest : List ℕ
  pub walks : walk left chain image number ≡ Ok rest
  pub lowest : need_cause lacking ≡ lowest_broken behind
  pub whole : drop_broken image pages noted ≡ drop_broken image rest behind

-- none was tested yet
pub checks_begun : (chain : Chain) (image : Image) (pages noted : List ℕ) (left number : ℕ) (lacking : Option ℕ) → pages_of chain image ≡ Ok pages → need_cause lacking ≡ lowest_broken noted
    → left ≡ length image → number ≡ first_of chain → Checks chain image pages noted left number lacking
unfolding pages_of
checks_begun chain image pages noted left number lacking found lowest all first = record {
  behind = noted;
  rest = pages;
  walks = ap (λ (n : ℕ). walk n chain image number) all ∙ ap (walk (length image) chain image) first ∙ found;
  lowest = lowest;
  whole = refl;
}

-- A page is tested.
module _ (chain : Chain) (image : Image) (pages noted : List ℕ) (left number : ℕ) (lacking : Option ℕ) (c : Checks chain image pages noted (suc left) number lacking) where
  one : IsFirst chain image left number c.rest
  one = walk_first chain image left number c.rest c.walks

  abbrev next_behind : List ℕ
  next_behind = give_broken image number ++ c.behind

  whole_is : drop_broken image pages noted ≡ drop_broken image one.then next_behind
  whole_is = c.whole ∙ ap (λ (ps : List ℕ). drop_broken image ps c.behind) one.is

  data_here : not_data image (owner_of chain) number ≡ None
  data_here =
      let parts = in_chain chain image number one.in_it in
      owner_is image (owner_of chain) number (kind_is image data_kind number parts.0 parts.1) (chain_owner chain image number one.in_it)

  onward : (found : Option ℕ) (next : ℕ) → need_cause found ≡ lowest_broken next_behind → next ≡ next_in (page_at image number) → next ≢ 0 → Checks chain image pages noted left next found
  onward found next lowest link some = record {
    behind = next_behind;
    rest = one.then;
    walks = ap (walk left chain image) link ∙ one.leads (λ e. some (link ∙ e));
    lowest = lowest;
    whole = whole_is;
  }

  last : (found : Option ℕ) (next : ℕ) → need_cause found ≡ lowest_broken next_behind → next ≡ next_in (page_at image number) → next ≡ 0 → need_cause found ≡ lowest_broken (drop_broken image pages noted)
  last found next lowest link end =
      let none : one.then ≡ [] = one.ends (sym link ∙ end) in
      lowest ∙ ap lowest_broken (sym (whole_is ∙ ap (λ (ps : List ℕ). drop_broken image ps next_behind) none))

-- The same where some pages are left to look at.
module _ (chain : Chain) (image : Image) (pages noted : List ℕ) where
  pub checks_data : (left number : ℕ) (lacking : Option ℕ) → 0 < left → Checks chain image pages noted left number lacking → not_data image (owner_of chain) number ≡ None
  checks_data zero number lacking some c = absurd (omega (arith, some))
  checks_data (suc left) number lacking some c = data_here chain image pages noted left number lacking c

  -- a refusal of the page is of no page of the chain
  pub checks_refused : (left number : ℕ) (lacking : Option ℕ) → 0 < left → Checks chain image pages noted left number lacking → (r : Refusal) → not_data image (owner_of chain) number ≡ Some r → lowest_broken (drop_broken image pages noted) ≡ Some r
  checks_refused left number lacking some c r e = absurd (none_some r (sym (checks_data left number lacking some c) ∙ e))

  pub checks_last : (left number : ℕ) (lacking : Option ℕ) → 0 < left → (c : Checks chain image pages noted left number lacking) (found : Option ℕ) (next : ℕ) → need_cause found ≡ lowest_broken (give_broken image number ++ c.behind)
      → next ≡ next_in (page_at image number) → next ≡ 0 → need_cause found ≡ lowest_broken (drop_broken image pages noted)
  checks_last zero number lacking some c found next lowest link end = absurd (omega (arith, some))
  checks_last (suc left) number lacking some c found next lowest link end = last chain image pages noted left number lacking c found next lowest link end

  pub checks_onward : (left number : ℕ) (lacking : Option ℕ) → 0 < left → (c : Checks chain image pages noted left number lacking) (found : Option ℕ) (next : ℕ) → need_cause found ≡ lowest_broken (give_broken image number ++ c.behind)
      → next ≡ next_in (page_at image number) → next ≢ 0 → Checks chain image pages noted (left - 1) next found
  checks_onward zero number lacking some c found next lowest link more = absurd (omega (arith, some))
  checks_onward (suc left) number lacking some c found next lowest link more =
      let fewer : left ≡ suc left - 1 = omega arith in
      subst (λ (n : ℕ). Checks chain image pages noted n next found) fewer (onward chain image pages noted left number lacking c found next lowest link more)

  -- some always are
  pub checks_over : (left number : ℕ) (lacking : Option ℕ) → left ≡ 0 → Checks chain image pages noted left number lacking → ⊥
  checks_over zero number lacking none c = err_ok number c.rest (sym (walk_zero chain image number) ∙ c.walks)
  checks_over (suc left) number lacking none c = absurd (omega (arith, none))
