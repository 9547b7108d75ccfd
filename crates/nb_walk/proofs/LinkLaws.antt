-- Whether a page is one of a chain, by the tests of it in their order.
use Rattle.std.proofs.Common.{◌≡◌, ℕ, length, refl, ap, ◌∙◌, Bool, true, false, not, ◌&&◌, ◌==◌, nat_lt, Some, None}
use Rattle.nb_walk.proofs.Common.{list_all, data_kind, Refusal, NotDatabase, Page, Image, page_at, when, Chain, owner_of, is_slot, slots_in, is_in_chain, owner_in, is_data, not_data, not_linked, is_so, and_right}
use Rattle.nb_fields.specs.Page.{kind_of}
use Rattle.nb_model.specs.Forms.{is_kind}
use Rattle.nb_alloc.proofs.DataLaws.{by_kind}

and_groups : (a b c d : Bool) → (a && (b && (c && d))) ≡ (((a && b) && c) && d)
and_groups true true c d = refl
and_groups true false c d = refl
and_groups false b c d = refl

module _ (chain : Chain) (image : Image) (p : ℕ) where
  abbrev page : Page
  page = page_at image p

  abbrev all : Bool
  all = list_all (is_slot chain) (slots_in page)

  abbrev is_its : Bool
  is_its = is_data image (owner_of chain) p

  by_tests : not_linked chain image p ≡ when (not (is_its && all)) (NotDatabase p)
  unfolding is_in_chain is_kind
  by_tests = ap (λ (t : Bool). when (not t) (NotDatabase p)) (and_groups (nat_lt p (length image)) (kind_of page == data_kind) (owner_in page == owner_of chain) all)

  -- it is no data page of that owner
  pub data_not : (r : Refusal) → not_data image (owner_of chain) p ≡ Some r → not_linked chain image p ≡ Some r
  data_not r some = by_tests ∙ by_kind is_its all (NotDatabase p) r some

  -- a slot is of no form
  pub slots_not : all ≡ false → not_linked chain image p ≡ Some (NotDatabase p)
  slots_not bad = by_tests ∙ ap (λ (t : Bool). when (not t) (NotDatabase p)) (and_right is_its all bad)

  -- it is one
  pub linked_yes : not_data image (owner_of chain) p ≡ None → all ≡ true → not_linked chain image p ≡ None
  linked_yes none good =
      by_tests ∙ ap (λ (t : Bool). when (not (t && all)) (NotDatabase p)) (is_so is_its (NotDatabase p) none) ∙ ap (λ (t : Bool). when (not t) (NotDatabase p)) good
