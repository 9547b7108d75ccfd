-- A table that is dropped: its slot in the catalogue becomes free, which leaves each page of its chain as it was.
use Rattle.std.proofs.Common.{◌≡◌, ◌≢◌, inl, inr, ℕ, ◌+◌, ◌*◌, ◌<◌, ◌≤◌, List, [], ◌∷◌, ◌++◌, length, drop, refl, sym, ap, subst, ◌∙◌, arith, Bool, true, false, None, Result, Ok, Err}
use Rattle.nb_table.proofs.Common.{AllByRecursion, eqb_tells, with_part, is_scn_place, header_kind, data_kind, scn_kind, World, Fault, lowest_broken, not_of_form, not_kind, Chain, Catalogue, RowsFrom, Spot, first_in, owner_in, is_in_chain, found_pages, pages_of, table_spot, put_slot, free_slot, HasItsEntry, Draft, drafted, put, is_kind, other_kind, scn_page_of, Image, page_at, image_size, Stroke, all_given, Trail, StaysLinked, linked_same, ok_found, pages_stay, IsOf, drafted_is, drafts_are, put_keeps, join_given, in_chain, chain_owner, pages_found, first_found, all_at, kind_of_header, scn_place_of, IsShaped, Puts, put_on, kind_parts, after_strokes, Held, IsOpen, entry_broken, give_broken, entry_cause, Tries, tries_opened, tries_front, tries_then, sure_of, tries_named, image_is, In, Notes, give_by, no_entry_broken, kind_is, IsWholeTable, IsGivable, dropped, drop_broken, spot_on, append_none, all_go, all_both}
use Rattle.nb_fields.specs.Page.{kind_of}
use Rattle.nb_model.specs.Sound.{HasHeader}
use Rattle.nb_model.proofs.SpotLaws.{IsSpotOn, spot_within}
use Rattle.nb_alloc.proofs.PutLaws.{other-with}
use Rattle.nb_table.proofs.DropCauseLaws.{AreBelow, slot_noted, slot_room, given_noted, noted_lowest}
use Rattle.nb_model.proofs.RoomThere.{none_broken, other_met}
use Rattle.nb_model.proofs.RoundLaws.{kind_found}

-- nothing that giving pages back changes is broken, nor what was noted before
drop_empty : (x : Image) (ps noted : List ℕ) → drop_broken x ps noted ≡ [] → (noted ≡ []) × AllByRecursion (λ (q : ℕ). give_broken x q ≡ []) ps
drop_empty x [] noted e = (e, tt)
drop_empty x (q ∷ qs) noted e =
    let rest = drop_empty x qs (give_broken x q ++ noted) e in
    let both = append_none (give_broken x q) noted rest.0 in
    (both.1, (both.0, rest.1))

-- The catalogue begins at page 3, so the database has four pages.
pub table_least : (x : Image) (table : List ℕ) (spot : Spot) → IsWholeTable x table spot → 3 ≤ length x
table_least x table spot has = let low : 3 < length x = (in_chain Catalogue x 3 (first_found Catalogue x has.catalogue)).0 in omega (arith, low)

module _ (x : Image) (h : HasHeader x) (shaped : IsShaped x) (table : List ℕ) (spot : Spot) (has : IsWholeTable x table spot) where
  abbrev chain : Chain
  chain = RowsFrom (first_in spot.bytes)

  abbrev pages : List ℕ
  pages = found_pages chain x

  abbrev freed : Draft
  freed = put_slot spot.page spot.slot free_slot (drafted x)

  abbrev pub noted : List ℕ
  noted = entry_broken x spot.page

  -- a page of a chain isn't the header
  chain_some : (c : Chain) (q : ℕ) → is_in_chain c x q ≡ true → 1 ≤ q
  chain_some c q in_it =
      let kind : kind_of (page_at x q) ≡ data_kind = (in_chain c x q in_it).1 in
      elim (eqb_tells q 0) [
        | inl w ↦ let first : kind_of (page_at x q) ≡ header_kind = ap (λ (n : ℕ). kind_of (page_at x n)) w.1 ∙ kind_of_header _ h.header in absurd (omega (arith, first, kind))
        | inr w ↦ omega (arith, w.1)
      ]

  chain_kind : (c : Chain) (q : ℕ) → is_in_chain c x q ≡ true → is_kind x data_kind q ≡ true
  chain_kind c q in_it = let parts = in_chain c x q in_it in kind_found x data_kind q parts.0 parts.1

  each : AllByRecursion (λ (q : ℕ). is_in_chain chain x q ≡ true) pages
  each = (pages_found chain x has.formed).each

  below : AreBelow x pages
  below = all_go (λ (q : ℕ). is_in_chain chain x q ≡ true) (λ (q : ℕ). (1 ≤ q) × (q < length x)) pages (λ q in_it. (chain_some chain q in_it, (in_chain chain x q in_it).0)) each

  -- the slot is in a page of the catalogue
  on : IsSpotOn (λ (q : ℕ). is_in_chain Catalogue x q ≡ true) x spot
  unfolding table_spot
  on = spot_on Catalogue x has.catalogue _ spot has.found

  pub slot_some : 1 ≤ spot.page
  slot_some = chain_some Catalogue spot.page on.page

  slot_kind : is_kind x data_kind spot.page ≡ true
  slot_kind = chain_kind Catalogue spot.page on.page

  slot_low : spot.page < length x
  slot_low = (in_chain Catalogue x spot.page on.page).0

  free_length : length free_slot ≡ 256
  free_length = refl

  inside : 32 + 256 * spot.slot + length free_slot ≤ image_size x
  inside =
      let page : length (page_at x spot.page) ≡ image_size x = all_at (λ page. length page ≡ image_size x) x shaped.sizes spot.page slot_low in
      let most = spot_within x spot.page spot.slot page on.within in
      omega (arith, most, free_length)

  notes : Notes x freed noted
  notes = slot_noted x shaped spot.page spot.slot free_slot slot_some slot_kind inside

  -- why it isn't dropped
  pub drop_cause : not_of_form (dropped x spot) ≡ lowest_broken (drop_broken x pages noted)
  drop_cause = noted_lowest x (dropped x spot) (drop_broken x pages noted) (given_noted x shaped pages freed noted below notes)

  -- where nothing is broken
  module _ (none : lowest_broken (drop_broken x pages noted) ≡ None) where
    empty : (noted ≡ []) × AllByRecursion (λ (q : ℕ). give_broken x q ≡ []) pages
    empty = drop_empty x pages noted (none_broken (drop_broken x pages noted) none)

    pub slot_entry : entry_cause x spot.page ≡ None
    slot_entry = no_entry_broken x spot.page empty.0

    entry_there : HasItsEntry x spot.page
    entry_there e = other_met x 10 (scn_page_of x spot.page) (sym (ap (λ (t : Bool). elim t as (λ z. List ℕ) [ true ↦ other_kind x scn_kind (scn_page_of x spot.page) | false ↦ [] ]) e) ∙ empty.0)

    abbrev payload : List ℕ
    payload = drop 16 (with_part (32 + 256 * spot.slot) free_slot (page_at x spot.page))

    puts : Puts x spot.page 5 payload (put spot.page data_kind payload (drafted x))
    puts = put_on x spot.page 5 payload shaped entry_there slot_some (let low = slot_low in omega (arith, low)) (slot_room x shaped spot.page spot.slot free_slot slot_some slot_kind inside)

    -- each page keeps its kind
    kind_kept : (kind r : ℕ) → is_kind freed.image kind r ≡ is_kind x kind r
    kind_kept kind r = elim (notes.kinds kind r) [ inl same ↦ same | inr found ↦ absurd (subst (In r) empty.0 (notes.to r found)) ]

    pub slot_shaped : IsShaped freed.image
    slot_shaped = notes.shaped

    longer : length x ≤ length freed.image
    longer = let long = notes.long in omega (arith, long)

    first_some : 1 ≤ first_in spot.bytes
    first_some = chain_some chain (first_in spot.bytes) (first_found chain x has.formed)

    -- no page of the chain is the one of the slot, nor the SCN page of that
    other_page : (q : ℕ) → is_in_chain chain x q ≡ true → q ≢ spot.page
    other_page q in_it e = absurd (omega (arith, first_some, sym (chain_owner chain x q in_it) ∙ ap (λ (n : ℕ). owner_in (page_at x n)) e ∙ chain_owner Catalogue x spot.page on.page))

    other_entry : (q : ℕ) → is_in_chain chain x q ≡ true → q ≢ scn_page_of x spot.page
    other_entry q in_it e = by (is_scn_place (image_size x) spot.page) refl
      where
        by : (t : Bool) → is_scn_place (image_size x) spot.page ≡ t → ⊥
        by true at = other_page q in_it (e ∙ scn_place_of (image_size x) spot.page shaped.size at)
        by false at =
            let some = slot_some in
            let ten : is_kind x scn_kind (scn_page_of x spot.page) ≡ true = entry_there (other-with x spot.page (image_size x) refl (λ none_at. absurd (omega (arith, some, none_at))) at) in
            absurd (omega (arith, sym (in_chain chain x q in_it).1 ∙ ap (λ (n : ℕ). kind_of (page_at x n)) e ∙ (kind_parts x scn_kind (scn_page_of x spot.page) ten).1))

    one_same : (q : ℕ) → is_in_chain chain x q ≡ true → page_at freed.image q ≡ page_at x q
    unfolding put_slot
    one_same q in_it = puts.on.others q (other_page q in_it) (other_entry q in_it)

    -- so the chain is as it was
    pub chain_stays : pages_of chain freed.image ≡ Ok pages
    chain_stays =
        pages_stay chain x freed.image pages (ok_found chain x has.formed) longer
        (all_go (λ (q : ℕ). is_in_chain chain x q ≡ true) (StaysLinked chain x freed.image) pages (λ q in_it. linked_same chain x freed.image q longer in_it (one_same q in_it)) each)

    -- and each of its pages may be given back
    pub chain_givable : AllByRecursion (IsGivable freed.image) pages
    chain_givable = all_go (λ (q : ℕ). (is_in_chain chain x q ≡ true) × (give_broken x q ≡ [])) (IsGivable freed.image) pages
        (λ q both. record {
          some = chain_some chain q both.0;
          kind = kind_kept 5 q ∙ chain_kind chain q both.0;
          given = give_by x freed.image q notes.size kind_kept ∙ both.1;
        })
        (all_both (λ (q : ℕ). is_in_chain chain x q ≡ true) (λ (q : ℕ). give_broken x q ≡ []) pages each empty.1)

-- What the calls do of it.
module _ (t : Trail) (h : HasHeader t.base.image) (shaped : IsShaped t.base.image) (table : List ℕ) (spot : Spot) (has : IsWholeTable t.base.image table spot) where
  abbrev image : Image
  image = t.base.image

  abbrev its_pages : List ℕ
  its_pages = found_pages (RowsFrom (first_in spot.bytes)) image

  abbrev slot : Draft
  slot = freed image h shaped table spot has

  abbrev u : Trail
  u = after_strokes t slot.strokes

  abbrev whole : Draft
  whole = dropped image spot

  -- the chain of its pages, by its first
  pub its_chain : (first : ℕ) → first ≡ first_in spot.bytes → pages_of (RowsFrom first) image ≡ Ok its_pages
  its_chain first e = ap (λ (n : ℕ). pages_of (RowsFrom n) image) e ∙ ok_found (RowsFrom (first_in spot.bytes)) image has.formed

  -- the page of the slot is a data page
  pub its_kind : not_kind image data_kind spot.page ≡ None
  its_kind = let parts = in_chain Catalogue image spot.page (on image h shaped table spot has).page in kind_is image data_kind spot.page parts.0 parts.1

  image_then : u.base.image ≡ slot.image
  unfolding put_slot
  image_then = image_is t 0 slot (put_keeps (IsOf t.base) (drafts_are t.base) spot.page 5 (drop 16 (with_part (32 + 256 * spot.slot) free_slot (page_at image spot.page))) (drafted image) (drafted_is t.base)) slot.strokes refl

  abbrev given : List Stroke
  given = (all_given its_pages (drafted u.base.image)).strokes

  both : slot.strokes ++ given ≡ whole.strokes
  both =
      ap (λ (x : Image). slot.strokes ++ (all_given its_pages (drafted x)).strokes) image_then
      ∙ sym (ap (λ (d : Draft). d.strokes) (join_given its_pages slot))

  -- where all that is written is of its kind
  module _ (none : lowest_broken (drop_broken image its_pages (entry_broken image spot.page)) ≡ None) where
    free : not_of_form whole ≡ None
    free = drop_cause image h shaped table spot has ∙ none

    entry : entry_cause image spot.page ≡ None
    entry = slot_entry image h shaped table spot has none

    pub drop_shaped : IsShaped u.base.image
    drop_shaped = subst IsShaped (sym image_then) (slot_shaped image h shaped table spot has none)

    pub drop_chain : (first : ℕ) → first ≡ first_in spot.bytes → pages_of (RowsFrom first) u.base.image ≡ Ok its_pages
    drop_chain first e = ap (λ (n : ℕ). pages_of (RowsFrom n) u.base.image) e ∙ ap (pages_of (RowsFrom (first_in spot.bytes))) image_then ∙ chain_stays image h shaped table spot has none

    pub drop_givable : AllByRecursion (IsGivable u.base.image) its_pages
    drop_givable = subst (λ (y : Image). AllByRecursion (IsGivable y) its_pages) (sym image_then) (chain_givable image h shaped table spot has none)

    pub drop_front : (fault : Fault) (old new : World) (a b : Held) → Tries {T = Unit {0}} (Err fault) old new a b t (entry_cause image spot.page) slot.strokes → Tries {T = Unit {0}} (Err fault) old new a b t (not_of_form whole) whole.strokes
    drop_front fault old new a b tries =
        tries_named {T = Unit {0}} (Err fault) old new a b t (entry_cause image spot.page) (not_of_form whole) (slot.strokes ++ given) whole.strokes (entry ∙ sym free) both
        (tries_front (Unit {0}) (Unit {0}) fault old new a b t (entry_cause image spot.page) slot.strokes given tries)

    pub drop_opened : (old mid : World) (a b : Held) → Tries {T = Unit {0}} (Ok tt) old mid a b t (entry_cause image spot.page) slot.strokes → IsOpen mid b u
    drop_opened old mid a b one = tries_opened {T = Unit {0}} tt old mid a b t (entry_cause image spot.page) slot.strokes one

    pub drop_then : (result : Result (Unit {0}) Fault) (old mid new : World) (a b c : Held) → Tries {T = Unit {0}} (Ok tt) old mid a b t (entry_cause image spot.page) slot.strokes
        → Tries result mid new b c u None given → Tries result old new a c t (not_of_form whole) whole.strokes
    drop_then result old mid new a b c one two =
        tries_named result old new a c t (entry_cause image spot.page) (not_of_form whole) (slot.strokes ++ given) whole.strokes (entry ∙ sym free) both
        (tries_then {S = Unit {0}} tt result old mid new a b c t (entry_cause image spot.page) slot.strokes given one (sure_of result None refl two.test) two.makes two.stops)
