-- Whether a page is a data page of an owner.
use Rattle.std.proofs.Common.{◌≡◌, ℕ, sym, ap, ◌∙◌, refl, arith, Bool, true, false, not, ◌&&◌, ◌==◌, Some, None}
use Rattle.nb_alloc.proofs.Common.{is_header, data_kind, Refusal, NotDatabase, Image, page_at, first_page, is_kind, when, not_kind, owner_in, eq_yes, kind_parts, not_data}
use Rattle.nb_model.proofs.HeaderLaws.{header-kind}

-- tests of the owner after tests of the kind
pub by_kind : (kind owner : Bool) (r s : Refusal) → when (not kind) r ≡ Some s → when (not (kind && owner)) r ≡ Some s
by_kind false owner r s e = e
by_kind true owner r s e = cc

by_owner : (kind owner : Bool) (r : Refusal) → when (not kind) r ≡ None → when (not (kind && owner)) r ≡ when (not owner) r
by_owner false owner r e = cc
by_owner true owner r e = refl

module _ (image : Image) (owner p : ℕ) where
  -- the page is past the end or of another kind
  kind_fails : (r : Refusal) → not_kind image data_kind p ≡ Some r → not_data image owner p ≡ Some r
  kind_fails r e = by_kind (is_kind image data_kind p) (owner_in (page_at image p) == owner) (NotDatabase p) r e

  -- it is a data page
  module _ (kind : not_kind image data_kind p ≡ None) where
    pub owner_is : owner_in (page_at image p) ≡ owner → not_data image owner p ≡ None
    owner_is same =
        by_owner (is_kind image data_kind p) (owner_in (page_at image p) == owner) (NotDatabase p) kind ∙ ap (λ (t : Bool). when (not t) (NotDatabase p)) (eq_yes (owner_in (page_at image p)) owner same)

-- page 0 of a database is none
kind_of_header : (image : Image) → is_header (first_page image) ≡ true → is_kind image data_kind 0 ≡ true → ⊥
kind_of_header image header is = absurd (omega (arith, (kind_parts image data_kind 0 is).1, header-kind (page_at image 0) header))

header_none : (image : Image) → is_header (first_page image) ≡ true → not_kind image data_kind 0 ≡ Some (NotDatabase 0)
header_none image header = by (is_kind image data_kind 0) refl
  where
    by : (t : Bool) → is_kind image data_kind 0 ≡ t → not_kind image data_kind 0 ≡ Some (NotDatabase 0)
    by false e = ap (λ (t : Bool). when (not t) (NotDatabase 0)) e
    by true e = absurd (kind_of_header image header e)

pub no_data_first : (image : Image) (owner p : ℕ) → is_header (first_page image) ≡ true → p ≡ 0 → not_data image owner p ≡ Some (NotDatabase p)
no_data_first image owner p header e =
    ap (λ (n : ℕ). not_data image owner n) e ∙ kind_fails image owner 0 (NotDatabase 0) (header_none image header) ∙ ap (λ (n : ℕ). Some (NotDatabase n)) (sym e)
