-- What a change of a chain of data pages is made of: pages that are put, new pages, and pages that are given back. Each of its strokes fits
-- and writes no row of the history, and each page of the history that is taken stays as it is.
use Rattle.std.proofs.Common.{◌≡◌, ◌≢◌, inl, inr, ℕ, ◌+◌, ◌*◌, ◌/◌, ◌<◌, ◌≤◌, List, [], ◌∷◌, length, drop, refl, sym, ap, subst, ◌∙◌, arith, length-drop, false, ◌==◌, Option, Some, None}
use Rattle.nb_model.proofs.Common.{AllByRecursion, or_parts, eqb_tells, bytes_of, with_part, stamped, data_payload, entries_in, bits_in, is_inventory_place, is_scn_place, is_system_place, most_pages, length-bytes_of, length-with_part, SizeFacts, size_facts, inventory_kind, data_kind, Base, base_of, Chain, Slot, Spot, owner_of, owner_in, spots_of, free_spot, put_slot, last_of, grown, place_at, place_slot, Draft, drafted, old_page, put, with_bit, set_bit, give_page, inventory_of, bit_number, new_within, new_page, Page, Image, page_at, image_size, image_scn, all_given}
use Rattle.nb_model.proofs.BitSound.{bit_put}
use Rattle.nb_model.proofs.DraftJoin.{joined_new, join_put, join_set_bit, join_new}
use Rattle.nb_model.proofs.FitLaws.{IsWhole, Fits, fits_first, form_page, fitting_stays, fits_broken}
use Rattle.nb_model.proofs.HeldLaws.{IsHeld, IsOfHistory, IsMade, held_put, held_bit, set_bit_is, new_is_made}
use Rattle.nb_model.proofs.NewSound.{HoldsOfKinds, inventory_before, plain_place, new_fits}
use Rattle.nb_model.proofs.NoRows.{HasNoRows, no_rows, owner_no_rows}
use Rattle.nb_model.proofs.PutSound.{IsPlace, IsPlain, plain_here}
use Rattle.nb_model.proofs.RoomLaws.{last_of_all, old_there, put_full}
use Rattle.nb_model.proofs.RoundLaws.{AnyPage, any_kinds, IsNew, new_is_new, no_place, kind_found, put_here, put_other, put_size, put_longer}
use Rattle.nb_model.proofs.SlotLaws.{linked_owner, written_owner, new_owner}
use Rattle.nb_model.proofs.SoundLaws.{all_at, inventory_there, inventory_place_some}
use Rattle.nb_model.proofs.SpotLaws.{IsSpotOn, free_on, spot_within}
use Rattle.nb_model.proofs.OnwardTests.{plain_from}

-- A page that a chain of tables may have: no system page, and not of the history.
pub record IsTablePage (image : Image) (p : ℕ) : Type 0 where
  pub plain : IsPlain image p
  pub below : p < length image
  pub owner : owner_in (page_at image p) ≢ 1

pub table_system : (image : Image) (p : ℕ) → IsTablePage image p → is_system_place (image_size image) p ≡ false
table_system image p page = plain_from (image_size image) p page.plain.no_inventory page.plain.no_scn_page

-- it stands after the first two pages
pub table_two : (image : Image) (p : ℕ) → IsWhole image → IsTablePage image p → 2 ≤ p
table_two image p h page = let some = page.plain.place.behind in let other = (no_place image h p (table_system image p page)).0 0 in omega (arith, some, other)

-- So it is in another image of that page size that is no shorter.
pub table_later : (old new : Image) (p : ℕ) → image_size new ≡ image_size old → length old ≤ length new → owner_in (page_at new p) ≢ 1 → IsTablePage old p → IsTablePage new p
table_later old new p size longer owner page = record {
  plain = record {
    place = record { behind = page.plain.place.behind; there = omega (arith, page.below, longer); most = page.plain.place.most };
    no_inventory = ap (λ (s : ℕ). is_inventory_place s p) size ∙ page.plain.no_inventory;
    no_scn_page = ap (λ (s : ℕ). is_scn_place s p) size ∙ page.plain.no_scn_page;
  };
  below = omega (arith, page.below, longer);
  owner = owner;
}

-- A page that is held isn't one of a chain of tables.
held_apart : (image : Image) (p q : ℕ) (bytes : Page) → IsOfHistory bytes → IsHeld q bytes image → IsTablePage image p → q ≢ p
held_apart image p q bytes history held page e = page.owner (ap (λ (n : ℕ). owner_in (page_at image n)) (sym e) ∙ ap owner_in held.is ∙ history.owner)

-- What is kept of a base by the strokes of a draft.
pub record Keeps (b : Base) (d : Draft) : Type 0 where
  pub fits : Fits HasNoRows b d
  pub held : (q : ℕ) (bytes : Page) → IsOfHistory bytes → IsHeld q bytes b.image → IsHeld q bytes d.image

-- A draft goes on to another that keeps as much, and each page of a chain of tables stays one.
pub record Goes (b : Base) (d e : Draft) : Type 0 where
  pub keeps : Keeps b e
  pub pages : (q : ℕ) → IsTablePage d.image q → IsTablePage e.image q

pub keeps_first : (b : Base) → IsWhole b.image → Keeps b (drafted b.image)
keeps_first b h = record { fits = fits_first HasNoRows b h; held = λ q bytes history held. held }

pub goes_still : (b : Base) (d : Draft) → Keeps b d → Goes b d d
goes_still b d k = record { keeps = k; pages = λ q page. page }

pub goes_both : (b : Base) (d e f : Draft) → Goes b d e → Goes b e f → Goes b d f
goes_both b d e f x y = record { keeps = y.keeps; pages = λ q page. y.pages q (x.pages q page) }

pub goes_broken : (b : Base) (d e : Draft) (broken : List ℕ) → Goes b d e → Goes b d (record e { broken = broken })
goes_broken b d e broken g = record { keeps = record { fits = fits_broken HasNoRows b broken e g.keeps.fits; held = g.keeps.held }; pages = g.pages }

pub all_pages : (b : Base) (d e : Draft) (ps : List ℕ) → Goes b d e → AllByRecursion (IsTablePage d.image) ps → AllByRecursion (IsTablePage e.image) ps
all_pages b d e [] goes all = tt
all_pages b d e (p ∷ ps) goes all = (goes.pages p all.0, all_pages b d e ps goes all.1)

no_rows_kinds : HoldsOfKinds HasNoRows
no_rows_kinds = record { inventories = no_rows 2 (omega arith); scn_pages = no_rows 10 (omega arith) }

-- The bit of a page is written: no page changes but system pages.
module _ (image : Image) (h : IsWhole image) (bit p : ℕ) (two : 2 ≤ p) (low : p < length image) where
  abbrev i : ℕ
  i = inventory_of image p

  abbrev row : List ℕ
  row = drop 16 (with_bit (bit_number image p) bit (page_at image i))

  pub bit_inventory : i < length image
  bit_inventory = let before = inventory_before (image_size image) p h.fields.size two in omega (arith, before, low)

  bit_place : IsPlace image i
  bit_place = record { behind = inventory_place_some (image_size image) (p / bits_in (image_size image)) h.fields.size; there = omega (arith, bit_inventory); most = let most = h.sound.most in omega (arith, bit_inventory, most) }

  bit_is : set_bit bit p (drafted image) ≡ put i inventory_kind row (drafted image)
  bit_is = set_bit_is bit p image (kind_found image inventory_kind i bit_inventory (h.sound.sound.system.inventories i bit_inventory (inventory_there (image_size image) (p / bits_in (image_size image)) h.fields.size)))

  pub bit_size : image_size (set_bit bit p (drafted image)).image ≡ image_size image
  bit_size = ap (λ (x : Draft). image_size x.image) bit_is ∙ put_size image h i bit_place 2 row

  pub bit_longer : length image ≤ length (set_bit bit p (drafted image)).image
  bit_longer = subst (λ (x : Draft). length image ≤ length x.image) (sym bit_is) (put_longer image h i bit_place 2 row)

  pub bit_plain : (q : ℕ) → is_system_place (image_size image) q ≡ false → page_at (set_bit bit p (drafted image)).image q ≡ page_at image q
  bit_plain q plain =
      let other = no_place image h q plain in
      ap (λ (x : Draft). page_at x.image q) bit_is ∙ put_other image h i bit_place 2 row q (other.0 (p / bits_in (image_size image))) (other.1 (i / entries_in (image_size image)))

module _ (b : Base) (d : Draft) (k : Keeps b d) where
  abbrev whole : IsWhole d.image
  whole = k.fits.whole

  size_facts_here : SizeFacts (image_size d.image)
  size_facts_here = size_facts (image_size d.image) whole.fields.size

  page_long : (p : ℕ) → p < length d.image → length (page_at d.image p) ≡ image_size d.image
  page_long p low = all_at (λ page. length page ≡ image_size d.image) d.image whole.sound.sizes p low

  -- A page is put.
  pub goes_put : (p kind : ℕ) (payload : List ℕ) → IsTablePage d.image p → (kind == 0) ≡ false → 16 + length payload ≤ image_size d.image → owner_in (form_page p kind payload d.image) ≢ 1 → Goes b d (put p kind payload d)
  goes_put p kind payload page some room owner = record {
    keeps = record {
      fits = (plain_here HasNoRows (no_rows 10 (omega arith)) b p kind payload d k.fits page.plain some room (owner_no_rows (form_page p kind payload d.image) owner)).fits;
      held = λ q bytes history held.
          let now : IsHeld q bytes d.image = k.held q bytes history held in
          subst (IsHeld q bytes) (sym same) (held_put q bytes d.image whole p kind payload page.plain.place (held_apart d.image p q bytes history now page) (λ e. absurd ((no_place image h p plain).0 (q / bits_in (image_size image)) (sym e))) now);
    };
    pages = λ q other. subst (λ (x : Image). IsTablePage x q) (sym same) (table_later image new q (put_size image h p at kind payload) (put_longer image h p at kind payload) (owner_then q other) other);
  }
    where
      image : Image
      image = d.image

      h : IsWhole image
      h = whole

      at : IsPlace image p
      at = page.plain.place

      plain : is_system_place (image_size image) p ≡ false
      plain = table_system image p page

      new : Image
      new = (put p kind payload (drafted image)).image

      same : (put p kind payload d).image ≡ new
      same = ap (λ (x : Draft). x.image) (join_put p kind payload d)

      owner_then : (q : ℕ) → IsTablePage image q → owner_in (page_at new q) ≢ 1
      owner_then q other is = elim (eqb_tells q p) [
        | inl w ↦ owner (sym (ap (λ (n : ℕ). owner_in (page_at new n)) w.1 ∙ ap owner_in (put_here image h p at kind payload)) ∙ is)
        | inr w ↦ other.owner (sym (ap owner_in (put_other image h p at kind payload q w.1 ((no_place image h q (table_system image q other)).1 (p / entries_in (image_size image))))) ∙ is)
      ]

  -- A page is given back.
  pub goes_give : (p : ℕ) → IsTablePage d.image p → Goes b d (give_page p d)
  goes_give p page = record {
    keeps = record {
      fits = (bit_put HasNoRows no_rows_kinds.scn_pages no_rows_kinds.inventories b 1 p d (omega arith) k.fits page.below (bit_inventory d.image whole 1 p two page.below)).fits;
      held = λ q bytes history held.
          let now : IsHeld q bytes d.image = k.held q bytes history held in
          subst (IsHeld q bytes) (sym same) (held_bit q bytes d.image whole 1 p (omega arith) two page.below (held_apart d.image p q bytes history now page) now);
    };
    pages = λ q other. subst (λ (x : Image). IsTablePage x q) (sym same)
        (table_later d.image new q (bit_size d.image whole 1 p two page.below) (bit_longer d.image whole 1 p two page.below)
        (λ is. other.owner (sym (ap owner_in (bit_plain d.image whole 1 p two page.below q (table_system d.image q other))) ∙ is)) other);
  }
    where
      two : 2 ≤ p
      two = table_two d.image p whole page

      new : Image
      new = (give_page p (drafted d.image)).image

      same : (give_page p d).image ≡ new
      same = ap (λ (x : Draft). x.image) (join_set_bit 1 p d)

  -- A page is made, of an owner that isn't the history.
  pub record GoesToNew (made : Draft × ℕ) : Type 0 where
    pub goes : Goes b d made.0
    pub page : IsTablePage made.0.image made.1

  pub goes_new : (payload : ℕ → List ℕ) → ((p : ℕ) → length (payload p) ≤ 1008) → ((old : Page) (scn p : ℕ) → p ≢ 1 → p < most_pages → owner_in (stamped old data_kind (payload p) scn p) ≢ 1)
      → (new_page 5 payload d).0.full ≡ false → GoesToNew (new_page 5 payload d)
  goes_new payload room owner left = record {
    goes = record {
      keeps = record { fits = fits; held = λ q bytes history held. subst (IsHeld q bytes) (sym same) (is_made.keeps q bytes (k.held q bytes history held)) };
      pages = λ q other. subst (λ (x : Image). IsTablePage x q) (sym same) (table_later d.image new.0.image q is_new.size longer (owner_then q other) other);
    };
    page = subst (λ (x : Draft × ℕ). IsTablePage x.0.image x.1) (sym is) new_table;
  }
    where
      tries : ℕ
      tries = length d.image + 4

      new : Draft × ℕ
      new = new_within tries 5 payload (drafted d.image)

      is : new_page 5 payload d ≡ joined_new d new
      is = join_new tries 5 payload d

      same : (new_page 5 payload d).0.image ≡ new.0.image
      same = ap (λ (x : Draft × ℕ). x.0.image) is

      fits : Fits HasNoRows b (new_page 5 payload d).0
      fits = new_fits HasNoRows no_rows_kinds b tries 5 payload d refl room (λ x p w five most. owner_no_rows _ (owner (old_page p x) (image_scn x) p (λ e. absurd (omega (arith, five, e))) most)) k.fits

      some : new.0.full ≡ false
      some = (or_parts new.0.full d.full (ap (λ (x : Draft × ℕ). x.0.full) (sym is) ∙ left)).0

      is_new : IsNew d.image 5 new
      is_new = new_is_new tries 5 payload d.image whole refl room some

      is_made : IsMade d.image 5 payload new
      is_made = new_is_made tries 5 payload d.image whole refl room some

      new_whole : IsWhole new.0.image
      new_whole = subst IsWhole same fits.whole

      longer : length d.image ≤ length new.0.image
      longer =
          let alone : Fits AnyPage (base_of d.image) new.0 = new_fits AnyPage any_kinds (base_of d.image) tries 5 payload (drafted d.image) refl room (λ x p w five most. tt) (fits_first AnyPage (base_of d.image) whole) in
          omega (arith, (fitting_stays AnyPage new.0.strokes (base_of d.image) alone.each whole).longer, ap length alone.is.is)

      most : new.1 < most_pages
      most = let all = new_whole.sound.most in omega (arith, is_new.below, all)

      new_owner_is : owner_in (page_at new.0.image new.1) ≢ 1
      new_owner_is e = owner (old_page new.1 is_made.of.0) (image_scn is_made.of.0) new.1 (λ one. (no_place d.image whole new.1 is_new.plain).0 0 one) most (sym (ap owner_in is_made.of.1) ∙ e)

      owner_then : (q : ℕ) → IsTablePage d.image q → owner_in (page_at new.0.image q) ≢ 1
      owner_then q other e = elim (eqb_tells q new.1) [
        | inl w ↦ new_owner_is (ap (λ (n : ℕ). owner_in (page_at new.0.image n)) (sym w.1) ∙ e)
        | inr w ↦ other.owner (sym (ap owner_in (is_new.others q (table_system d.image q other) w.1)) ∙ e)
      ]

      new_table : IsTablePage new.0.image new.1
      new_table =
          let places = plain_place (image_size d.image) new.1 is_new.plain in
          record {
            plain = record {
              place = record { behind = is_new.behind; there = omega (arith, is_new.below); most = most };
              no_inventory = ap (λ (s : ℕ). is_inventory_place s new.1) is_new.size ∙ places.0;
              no_scn_page = ap (λ (s : ℕ). is_scn_place s new.1) is_new.size ∙ places.1;
            };
            below = is_new.below;
            owner = new_owner_is;
          }

  -- A slot is written.
  pub goes_slot : (p slot : ℕ) (bytes : Slot) → IsTablePage d.image p → 256 * slot + 288 ≤ image_size d.image → length bytes ≡ 256 → Goes b d (put_slot p slot bytes d)
  unfolding put_slot
  goes_slot p slot bytes page within long =
      let size = size_facts_here in
      let old : Page = page_at d.image p in
      let old_long : length old ≡ image_size d.image = page_long p page.below in
      let payload : List ℕ = drop 16 (with_part (32 + 256 * slot) bytes old) in
      goes_put p 5 payload page refl
      (omega (arith, size.at_least, old_long, within, long, length-drop 16 (with_part (32 + 256 * slot) bytes old), length-with_part (32 + 256 * slot) bytes old (omega (arith, old_long, within, long))))
      (λ e. page.owner (sym (ap (λ (x : Page). owner_in (stamped x data_kind payload (image_scn d.image) p)) (old_there d.image p page.below) ∙ written_owner slot bytes old (image_scn d.image) p long (omega (arith, old_long, within))) ∙ e))

  -- The next page is named in a page.
  pub goes_link : (p next : ℕ) → IsTablePage d.image p → Goes b d (put p data_kind (drop 16 (with_part 16 (bytes_of 4 next) (page_at d.image p))) d)
  goes_link p next page =
      let size = size_facts_here in
      let old : Page = page_at d.image p in
      let old_long : length old ≡ image_size d.image = page_long p page.below in
      let payload : List ℕ = drop 16 (with_part 16 (bytes_of 4 next) old) in
      let four : length (bytes_of 4 next) ≡ 4 = length-bytes_of 4 next in
      goes_put p 5 payload page refl
      (omega (arith, size.at_least, old_long, length-drop 16 (with_part 16 (bytes_of 4 next) old), length-with_part 16 (bytes_of 4 next) old (omega (arith, size.at_least, old_long, four))))
      (λ e. page.owner (sym (ap (λ (x : Page). owner_in (stamped x data_kind payload (image_scn d.image) p)) (old_there d.image p page.below) ∙ linked_owner old next (image_scn d.image) p (omega (arith, size.at_least, old_long))) ∙ e))

-- where a page was left for all, it was left before
pub place_left : (chain : Chain) (room : Option Spot) (pages : List ℕ) (bytes : Slot) (d : Draft) → (place_at chain room pages bytes d).full ≡ false → d.full ≡ false
unfolding put_slot grown
place_left chain (Some s) pages bytes d left = put_full s.page data_kind (drop 16 (with_part (32 + 256 * s.slot) bytes (page_at d.image s.page))) d left
place_left chain None pages bytes d left = new_left (put_full (last_of pages) data_kind (drop 16 (with_part 16 (bytes_of 4 made.1) (page_at made.0.image (last_of pages)))) made.0 left)
  where
    made : Draft × ℕ
    made = new_page 5 (λ p. data_payload 0 (owner_of chain) bytes) d

    new_left : made.0.full ≡ false → d.full ≡ false
    new_left left = (or_parts _ d.full (ap (λ (x : Draft × ℕ). x.0.full) (sym (join_new (length d.image + 4) 5 (λ p. data_payload 0 (owner_of chain) bytes) d)) ∙ left)).1

-- A slot is placed: where the pages have no room, on a page more.
module _ (b : Base) (d : Draft) (k : Keeps b d) (chain : Chain) (pages : List ℕ) (bytes : Slot) (long : length bytes ≡ 256) (other : owner_of chain ≢ 1) (small : owner_of chain < 4294967296)
    (some : 1 ≤ length pages) (each : AllByRecursion (IsTablePage d.image) pages) where
  slot_room : (p : ℕ) → length (data_payload 0 (owner_of chain) bytes) ≤ 1008
  unfolding data_payload bytes_of
  slot_room p = omega (arith, long)

  abbrev made : Draft × ℕ
  made = new_page 5 (λ p. data_payload 0 (owner_of chain) bytes) d

  abbrev last : ℕ
  last = last_of pages

  made_goes : made.0.full ≡ false → GoesToNew b d k made
  made_goes left = goes_new b d k (λ p. data_payload 0 (owner_of chain) bytes) slot_room (λ old scn p one most e. other (sym (new_owner old 0 (owner_of chain) bytes scn p small) ∙ e)) left

  pub goes_grown : (grown chain pages bytes d).0.full ≡ false → Goes b d (grown chain pages bytes d).0
  unfolding grown
  goes_grown left =
      let one : GoesToNew b d k made = made_goes (put_full last data_kind (drop 16 (with_part 16 (bytes_of 4 made.1) (page_at made.0.image last))) made.0 left) in
      goes_broken b d _ _ (goes_both b d made.0 _ one.goes (goes_link b made.0 one.goes.keeps last made.1 (last_of_all (IsTablePage made.0.image) pages some (all_pages b d made.0 pages one.goes each))))

  -- at a place that is in its page
  pub goes_at : (room : Option Spot) → ((s : Spot) → room ≡ Some s → IsTablePage d.image s.page × (256 * s.slot + 288 ≤ image_size d.image)) → (place_at chain room pages bytes d).full ≡ false → Goes b d (place_at chain room pages bytes d)
  goes_at (Some s) within left = let here = within s refl in goes_broken b d (put_slot s.page s.slot bytes d) _ (goes_slot b d k s.page s.slot bytes here.0 here.1 long)
  goes_at None within left = goes_grown left

  pub goes_place : (place_slot chain pages bytes d).full ≡ false → Goes b d (place_slot chain pages bytes d)
  unfolding place_slot
  goes_place left = goes_at (free_spot (spots_of d.image pages)) within left
    where
      within : (s : Spot) → free_spot (spots_of d.image pages) ≡ Some s → IsTablePage d.image s.page × (256 * s.slot + 288 ≤ image_size d.image)
      within s found =
          let on : IsSpotOn (IsTablePage d.image) d.image s = free_on (IsTablePage d.image) d.image pages s each found in
          (on.page, spot_within d.image s.page s.slot (page_long b d k s.page on.page.below) on.within)

-- Pages are given back, one after the other.
pub goes_given : (b : Base) (ps : List ℕ) (d : Draft) → Keeps b d → AllByRecursion (IsTablePage d.image) ps → Goes b d (all_given ps d)
unfolding all_given
goes_given b [] d k each = goes_still b d k
goes_given b (p ∷ ps) d k each =
    let one : Goes b d (give_page p d) = goes_give b d k p each.0 in
    goes_both b d (give_page p d) _ one (goes_given b ps (give_page p d) one.keeps (all_pages b d (give_page p d) ps one each.1))
