-- A statement on a table, test by test: before the table is looked for, that it is there, after that, and that its chain is of the form.
use Rattle.std.proofs.Common.{◌≡◌, ℕ, List, [], ◌∷◌, refl, sym, ap, subst, ◌∙◌, Option, Some, None, is_none, Result}
use Rattle.nb_table.proofs.Common.{World, Fault, Refusal, NoTable, Quiet, quiet_joined, Refused, Done, Image, Cause, first_cause, when, broken_at, Chain, Catalogue, RowsFrom, Spot, pages_of, table_spot, first_in, Seen, Outcome, says, unless, with_spot, in_table, Trail, Held, IsOpen, but_pages, Does, makes_after, unless_refused, unless_allowed, seeing, chain_cause, rows_cause, first_here, first_next, no_cause, some_same, one_cause, StopsShort, WhereMemory, short_after, wanted_so}
use Rattle.nb_model.specs.declared.reply.Reply.{Reply}
use Rattle.nb_model.specs.Account.{Base}

-- The chain of the rows that a slot of the catalogue leads to.
abbrev pub chain_at : Spot → Chain
chain_at spot = RowsFrom (first_in spot.bytes)

-- why a table isn't found
abbrev pub find_cause : Image → (table : List ℕ) → Cause
find_cause image table = first_cause (broken_at (pages_of Catalogue image) ∷ when (is_none (table_spot table image)) NoTable ∷ [])

-- Why the rows aren't come by, test by test.
module _ (image : Image) (before : Cause) (table : List ℕ) (behind : Cause) where
  -- what is tested before the table is looked for
  pub before_fails : (r : Refusal) → before ≡ Some r → rows_cause image before table behind ≡ Some r
  before_fails r e = first_here before (broken_at (pages_of Catalogue image) ∷ chain_cause image behind (table_spot table image) ∷ []) r e

  abbrev chain : Option Spot → Cause
  chain o = chain_cause image behind o

  module _ (free : before ≡ None) where
    -- that it is there
    pub table_fails : (r : Refusal) → find_cause image table ≡ Some r → rows_cause image before table behind ≡ Some r
    unfolding first_cause
    table_fails r e = first_next before (broken_at (pages_of Catalogue image) ∷ chain_cause image behind (table_spot table image) ∷ []) free ∙ by (broken_at (pages_of Catalogue image)) (table_spot table image) e
      where
        by : (b : Cause) (o : Option Spot) → first_cause (b ∷ when (is_none o) NoTable ∷ []) ≡ Some r → first_cause (b ∷ chain o ∷ []) ≡ Some r
        by (Some q) o f = f
        by None None f = f
        by None (Some spot) f = cc

    module _ (found : find_cause image table ≡ None) (spot : Spot) (at : table_spot table image ≡ Some spot) where
      formed : broken_at (pages_of Catalogue image) ≡ None
      unfolding first_cause
      formed = by (broken_at (pages_of Catalogue image)) found
        where
          by : (b : Cause) → first_cause (b ∷ when (is_none (table_spot table image)) NoTable ∷ []) ≡ None → b ≡ None
          by None f = refl
          by (Some q) f = cc

      leads : rows_cause image before table behind ≡ chain (Some spot)
      leads =
          first_next before (broken_at (pages_of Catalogue image) ∷ chain_cause image behind (table_spot table image) ∷ []) free ∙ first_next (broken_at (pages_of Catalogue image)) (chain (table_spot table image) ∷ []) formed ∙ one_cause (chain (table_spot table image)) ∙ ap chain at

      abbrev broken : Cause
      broken = broken_at (pages_of (chain_at spot) image)

      -- what is tested then
      pub behind_fails : (r : Refusal) → behind ≡ Some r → rows_cause image before table behind ≡ Some r
      behind_fails r e = leads ∙ first_here behind (broken ∷ []) r e

      -- the chain
      pub chain_fails : behind ≡ None → (r : Refusal) → broken ≡ Some r → rows_cause image before table behind ≡ Some r
      chain_fails passed r e = leads ∙ first_next behind (broken ∷ []) passed ∙ first_here broken [] r e

      pub rows_none : behind ≡ None → broken ≡ None → rows_cause image before table behind ≡ None
      rows_none passed e = leads ∙ first_next behind (broken ∷ []) passed ∙ first_next broken [] e ∙ no_cause

  -- what none of these tests finds
  module _ (none : rows_cause image before table behind ≡ None) (spot : Spot) (at : table_spot table image ≡ Some spot) where
    chain_none : first_cause (behind ∷ broken_at (pages_of (chain_at spot) image) ∷ []) ≡ None
    unfolding first_cause
    chain_none = by before (broken_at (pages_of Catalogue image)) (none ∙ refl)
      where
        by : (a b : Cause) → first_cause (a ∷ b ∷ chain (table_spot table image) ∷ []) ≡ None → chain (Some spot) ≡ None
        by None None f = ap chain (sym at) ∙ sym (one_cause (chain (table_spot table image))) ∙ f
        by None (Some q) f = cc
        by (Some q) b f = cc

    pub chain_formed : broken_at (pages_of (chain_at spot) image) ≡ None
    unfolding first_cause
    chain_formed = by behind (broken_at (pages_of (chain_at spot) image)) chain_none
      where
        by : (a b : Cause) → first_cause (a ∷ b ∷ []) ≡ None → b ≡ None
        by None None f = refl
        by None (Some q) f = cc
        by (Some q) b f = cc

    -- so the chain from the page that the slot names
    pub chain_formed_from : (first : ℕ) → first ≡ first_in spot.bytes → broken_at (pages_of (RowsFrom first) image) ≡ None
    chain_formed_from first e = ap (λ (n : ℕ). broken_at (pages_of (RowsFrom n) image)) e ∙ chain_formed

-- The turn, by its tests.
module _ (s : Seen) (before : Cause) (table : List ℕ) (behind : Cause) (go : Spot → Chain → Outcome) where
  abbrev image : Image
  image = s.base.image

  same_refusal : (q r : Refusal) → Some q ≡ Some r → says s (Refused q) [] ≡ says s (Refused r) []
  unfolding unless
  same_refusal q r e = ap (λ (c : Cause). unless s c (says s Done [])) e

  abbrev onward : Spot → Outcome
  onward spot = unless s (first_cause (behind ∷ broken_at (pages_of (chain_at spot) image) ∷ [])) (go spot (chain_at spot))

  abbrev turn_by : (a b : Cause) → Option Spot → Outcome
  turn_by a b o = unless s (first_cause (a ∷ b ∷ [])) (with_spot s o NoTable onward)

  -- it is refused
  pub table_refused : (r : Refusal) → rows_cause image before table behind ≡ Some r → in_table s before table behind go ≡ says s (Refused r) []
  unfolding in_table unless with_spot first_cause
  table_refused r e = by before (broken_at (pages_of Catalogue image)) (table_spot table image) e
    where
      by : (a b : Cause) (o : Option Spot) → first_cause (a ∷ b ∷ chain_cause image behind o ∷ []) ≡ Some r → turn_by a b o ≡ says s (Refused r) []
      by (Some q) b o f = same_refusal q r f
      by None (Some q) o f = same_refusal q r f
      by None None None f = same_refusal NoTable r f
      by None None (Some spot) f = unless_refused s _ (go spot (chain_at spot)) r (sym (one_cause (chain_cause image behind (Some spot))) ∙ f)

  -- or goes on with the table's slot in the catalogue and its chain
  pub table_goes : rows_cause image before table behind ≡ None → (spot : Spot) → table_spot table image ≡ Some spot → in_table s before table behind go ≡ go spot (chain_at spot)
  unfolding in_table unless with_spot first_cause
  table_goes none spot at = by before (broken_at (pages_of Catalogue image)) (table_spot table image) none at
    where
      by : (a b : Cause) (o : Option Spot) → first_cause (a ∷ b ∷ chain_cause image behind o ∷ []) ≡ None → o ≡ Some spot → turn_by a b o ≡ go spot (chain_at spot)
      by (Some q) b o f h = cc
      by None (Some q) o f h = cc
      by None None None f h = cc
      by None None (Some x) f h =
          unless_allowed s _ (go x (chain_at x)) (sym (one_cause (chain_cause image behind (Some x))) ∙ f) ∙ ap (λ (y : Spot). go y (chain_at y)) (some_same x spot h)

  pub table_goes_from : rows_cause image before table behind ≡ None → (spot : Spot) → table_spot table image ≡ Some spot → (first : ℕ) → first ≡ first_in spot.bytes → in_table s before table behind go ≡ go spot (RowsFrom first)
  table_goes_from none spot at first e = table_goes none spot at ∙ ap (λ (n : ℕ). go spot (RowsFrom n)) (sym e)

-- What was found of a table holds also where its database is seen by a turn. So a turn that goes on with it is done by calls that change nothing
-- and one that does the rest.
pub table_does : {T : Type 0} (reply : T → Reply) (result : Result T Fault) (old mid new : World) (a b c : Held) (t : Trail) (s : Seen) (turn : Seen → Outcome) → t.base ≡ s.base → but_pages b ≡ but_pages a → Quiet old mid → IsOpen old a t
    → (rest : Outcome) → turn (seeing s t.base) ≡ rest → Does reply result mid new b c t rest → Does reply result old new a c t (turn s)
table_does {T} reply result old mid new a b c t s turn same still quiet is rest e does =
    subst (λ (x : Base). Does reply result old new a c t (turn (seeing s x))) same (subst (λ (o : Outcome). Does reply result old new a c t o) (sym e) (record {
      answer = does.answer;
      makes = makes_after result old mid new a b c t rest.strokes still quiet is does.makes;
      idle = λ told. quiet_joined old mid new quiet (does.idle told);
    }))

-- and where that one stops for want of memory, so does the turn
pub table_stops : {T : Type 0} (result : Result T Fault) (old mid new : World) (a b c : Held) (t : Trail) (s : Seen) (turn : Seen → Outcome) → t.base ≡ s.base → but_pages b ≡ but_pages a → Quiet old mid → IsOpen old a t
    → (rest : Outcome) → turn (seeing s t.base) ≡ rest → WhereMemory result (StopsShort mid new b c t rest.strokes) → WhereMemory result (StopsShort old new a c t (turn s).strokes)
table_stops result old mid new a b c t s turn same still quiet is rest e stops =
    subst (λ (x : Base). WhereMemory result (StopsShort old new a c t (turn (seeing s x)).strokes)) same (subst (λ (o : Outcome). WhereMemory result (StopsShort old new a c t o.strokes)) (sym e)
    (wanted_so result (StopsShort mid new b c t rest.strokes) (StopsShort old new a c t rest.strokes) (short_after old mid new a b c t rest.strokes still quiet is) stops))
