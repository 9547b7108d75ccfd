-- A standby that is half merged: the same file gives the same image over it, and goes on with it, and so does no other file.
use Rattle.std.proofs.Common.{◌≡◌, ◌⊎◌, inl, inr, ℕ, zero, suc, ◌+◌, ◌≤◌, List, length, take, refl, sym, ap, subst, ◌∙◌, arith, None, Contains}
use Rattle.nb_inplace.proofs.Common.{part, state_of, size_of, guid_of, pending_of, part-take, applying_state, Files, not_database, Page, Image, Numbered, first_page, image_size, image_in, trimmed, overwritten, Contents, main_page, as_standby, merged, header-long, same-number, IsLaid, laid, laid-front, trimmed_alike, IsMergeable, applying_page, IsBetween, IsHalf, level_pages}
use Rattle.nb_inplace.proofs.PagesLaws.{over_alike}
use Rattle.nb_inplace.proofs.VerdictLaws.{IsAccepted, IsFor, as_it_stands, begun, accepted}
use Rattle.nb_inplace.proofs.FirstLaws.{HasFirst, level_first}
use Rattle.nb_inplace.proofs.ControlLaws.{applying-size, applying-state, applying-pending, applying-guid, applying_same, applying_twice}

-- bytes of the form, and page 0 of their image
module _ (bytes : List ℕ) (formed : not_database bytes ≡ None) where
  abbrev front_page : Page
  front_page = first_page (image_in bytes)

  is_laid : IsLaid (image_in bytes) bytes
  is_laid = laid bytes formed

  pub front : take 64 bytes ≡ take 64 front_page
  front = laid-front (image_in bytes) bytes is_laid

  pub front_long : 64 ≤ length front_page
  front_long = header-long front_page is_laid.header

  pub front_size : image_size (image_in bytes) ≡ size_of bytes
  front_size = sym (same-number bytes front_page front 24 4 (omega arith))

  pub front_state : state_of front_page ≡ state_of bytes
  front_state = sym (same-number bytes front_page front 22 2 (omega arith))

  front_part : (at w : ℕ) → at + w ≤ 64 → part at w front_page ≡ part at w bytes
  front_part at w low = sym (part-take 64 at w front_page low) ∙ ap (part at w) (sym front) ∙ part-take 64 at w bytes low

  pub front_guid : guid_of front_page ≡ guid_of bytes
  front_guid = front_part 32 16 (omega arith)

  pub front_pending : pending_of front_page ≡ pending_of bytes
  front_pending = front_part 48 16 (omega arith)

-- what is merged over each of two images whose pages, but those of records, are the same
pub merged_alike : (size : ℕ) (rs : List Numbered) (a b : Image) → image_size a ≡ size → image_size b ≡ size → HasFirst rs → IsBetween size rs a b → merged rs b ≡ merged rs a
unfolding merged
merged_alike size rs a b size_a size_b first between =
    ap (λ (n : ℕ). as_standby (trimmed (overwritten n rs b))) size_b
    ∙ ap as_standby (trimmed_alike size (overwritten size rs b) (overwritten size rs a) (λ p. over_alike size rs a b p (either p)))
    ∙ ap (λ (n : ℕ). as_standby (trimmed (overwritten n rs a))) (sym size_a)
  where
    either : (p : ℕ) → (main_page size b p ≡ main_page size a p) ⊎ ((page : Page) × Contains rs (p, page))
    either zero = inr first
    either (suc p) = elim (between (suc p) (omega arith)) [ inl same ↦ inl same | inr there ↦ inr (main_page size b (suc p), there) ]

module _ (size : ℕ) (rs : List Numbered) where
  pub between_none : (a : Image) → IsBetween size rs a a
  between_none a p some = inl refl

  pub between_on : (a b c : Image) → IsBetween size rs a b → IsBetween size rs b c → IsBetween size rs a c
  between_on a b c first second p some = elim (second p some) [ inl same ↦ elim (first p some) [ inl was ↦ inl (same ∙ was) | inr there ↦ inr (subst (λ (x : Page). Contains rs (p, x)) (sym same) there) ] | inr there ↦ inr there ]

-- What a half of a mergeable standby is.
module _ (files : Files) (standby name bytes : List ℕ) (c : Contents) (m : IsMergeable files standby name bytes c) where
  abbrev its : IsAccepted files name bytes c
  its = accepted files standby name bytes c m

  sixteen : length c.head.guid ≡ 16
  sixteen = (level_pages its.level c its.read).guid

  abbrev page : Page
  page = first_page (image_in bytes)

  module _ (half : List ℕ) (h : IsHalf bytes c half) where
    pub half_state : state_of half ≡ applying_state
    half_state = sym (front_state half h.formed) ∙ ap state_of h.first ∙ applying-state c.head.guid page sixteen (front_long bytes its.formed)

    pub half_pending : pending_of half ≡ c.head.guid
    half_pending = sym (front_pending half h.formed) ∙ ap pending_of h.first ∙ applying-pending c.head.guid page sixteen (front_long bytes its.formed)

    half_front_size : size_of (first_page (image_in half)) ≡ size_of bytes
    half_front_size = ap size_of h.first ∙ applying-size c.head.guid page sixteen (front_long bytes its.formed) ∙ front_size bytes its.formed

    pub half_size : size_of half ≡ size_of bytes
    half_size = sym (front_size half h.formed) ∙ half_front_size

    half_guid : guid_of half ≡ guid_of bytes
    half_guid = sym (front_guid half h.formed) ∙ ap guid_of h.first ∙ applying-guid c.head.guid page sixteen (front_long bytes its.formed) ∙ front_guid bytes its.formed

    pub half_previous : guid_of half ≡ c.head.previous
    half_previous = half_guid ∙ previous its.for
      where
        previous : IsFor name bytes c → guid_of bytes ≡ c.head.previous
        previous (as_it_stands is on) = sym on.previous
        previous (begun is same) = same.previous

    -- The same image is merged over it.
    pub half_gives : merged c.pages (image_in half) ≡ merged c.pages (image_in bytes)
    half_gives = merged_alike (size_of bytes) c.pages (image_in bytes) (image_in half) (front_size bytes its.formed) half_front_size (level_first its.level c its.read) h.pages

    -- A half of it is a half of the whole.
    pub half_on : (further : List ℕ) → IsHalf half c further → IsHalf bytes c further
    half_on further more = record {
      formed = more.formed;
      first = more.first ∙ ap (applying_page c.head.guid) h.first ∙ applying_twice c.head.guid page sixteen (front_long bytes its.formed);
      pages = between_on (size_of bytes) c.pages (image_in bytes) (image_in half) (image_in further) h.pages (subst (λ (n : ℕ). IsBetween n c.pages (image_in half) (image_in further)) half_size more.pages);
    }

  -- A standby that is half merged already is one.
  pub itself_half : state_of bytes ≡ applying_state → IsHalf bytes c bytes
  itself_half is = record {
    formed = its.formed;
    first = sym (applying_same c.head.guid page sixteen (front_long bytes its.formed) (front_state bytes its.formed ∙ is) (front_pending bytes its.formed ∙ pending its.for));
    pages = between_none (size_of bytes) c.pages (image_in bytes);
  }
    where
      pending : IsFor name bytes c → pending_of bytes ≡ c.head.guid
      pending (as_it_stands zero_is on) = absurd (omega (arith, is, zero_is))
      pending (begun three same) = same.pending
