-- Each stroke that makes room for a row of the history fits at its point, and each stroke that writes the row.
use Rattle.std.proofs.Common.{◌≡◌, inl, inr, ℕ, zero, suc, ◌+◌, ◌-◌, ◌*◌, ◌/◌, ◌<◌, ◌≤◌, List, [], ◌∷◌, length, drop, refl, sym, ap, subst, ◌∙◌, arith, length-drop, length-append, Bool, true, false, ◌==◌, nat_lt, Option, Some, None, Result, Ok, Err}
use Rattle.nb_model.proofs.Common.{AllByRecursion, div-mul-le_self, true≢false, and_parts, eqb-true, lt-ltb, ltb-true, false_from_ne_true, eqb_tells, bytes_of, with_part, kind_of, stamped, data_payload, is_inventory_place, is_scn_place, most_pages, length-bytes_of, length-padded, length-with_part, SizeFacts, size_facts, stalled_state, header_kind, data_kind, scn_kind, Ask, Base, Room, needs_taken, room_in, broken_at, Chain, History, Slot, Spot, first_of, owner_of, owner_in, slots_from, slots_in, spots_on, spots_of, spots, is_in_chain, next_in, linked, walk, pages_of, found_pages, first_such, free_spot, put_slot, last_of, grown, backup_slot, Draft, drafted, old_page, needs, put, written, wrote, inventory_of, scn_page_of, is_free_page, new_page, wants, IsPlainRoom, Page, Image, page_at, image_size, image_scn, HasHeader, IsSoundImage, begin, on_base, base_after, err_ok, ok_same, all_append}
use Rattle.nb_model.proofs.ControlMay.{may_begin}
use Rattle.nb_model.proofs.ControlSound.{new_size, control_long}
use Rattle.nb_model.proofs.DraftLaws.{IsKept, either, put_keeps}
use Rattle.nb_model.proofs.FitLaws.{IsWhole, Fits, Stays, form_page, fits_first, fits_needs, page_keeps, fitting_stays, fits_broken}
use Rattle.nb_model.proofs.NewSound.{HoldsOfKinds, plain_place, new_fits}
use Rattle.nb_model.proofs.PutSound.{IsPlain, IsPut, header_fields, header_whole, old_length, plain_here}
use Rattle.nb_model.proofs.RoundLaws.{IsNew, new_is_new}
use Rattle.nb_model.proofs.SoundLaws.{all_at, kind_of_header, with_page_length}
use Rattle.nb_model.proofs.OnwardTests.{plain_from}

-- What K has to hold of: the pages of the inventories, a new page of the history, and a page that is linked to the next.
pub record HoldsOfHistory (K : Page → Type 0) : Type 0 where
  pub kinds : HoldsOfKinds K
  pub added : (old : Page) (scn number : ℕ) → 1024 ≤ length old → K (stamped old data_kind (data_payload 0 1 []) scn number)
  pub linked : (old : Page) (next scn number : ℕ) → 1024 ≤ length old → kind_of old ≡ data_kind → K old → K (stamped old data_kind (drop 16 (with_part 16 (bytes_of 4 next) old)) scn number)

-- any page
abbrev pub AnyPage : Page → Type 0
AnyPage bytes = Unit {0}

pub any_history : HoldsOfHistory AnyPage
any_history = record { kinds = record { inventories = λ bytes e. tt; scn_pages = λ bytes e. tt }; added = λ old scn number long. tt; linked = λ old next scn number long kind holds. tt }

-- K holds of the pages of the history
abbrev pub HoldsOfChain : (K : Page → Type 0) → Image → Type 0
HoldsOfChain K image = (p : ℕ) → is_in_chain History image p ≡ true → K (page_at image p)

-- a page of a chain is below the length, and of kind 5
pub in_chain : (chain : Chain) (image : Image) (p : ℕ) → is_in_chain chain image p ≡ true → (p < length image) × (kind_of (page_at image p) ≡ data_kind)
unfolding is_in_chain
in_chain chain image p is =
    let parts = and_parts (nat_lt p (length image)) _ is in
    (ltb-true p (length image) parts.0, eqb-true (kind_of (page_at image p)) 5 (and_parts (kind_of (page_at image p) == data_kind) _ parts.1).0)

-- and has its owner
pub chain_owner : (chain : Chain) (image : Image) (p : ℕ) → is_in_chain chain image p ≡ true → owner_in (page_at image p) ≡ owner_of chain
unfolding is_in_chain
chain_owner chain image p is =
    let rest = (and_parts (kind_of (page_at image p) == data_kind) _ (and_parts (nat_lt p (length image)) _ is).1).1 in
    eqb-true (owner_in (page_at image p)) (owner_of chain) (and_parts (owner_in (page_at image p) == owner_of chain) _ rest).0

-- such a page is no system page
pub chain_plain : (chain : Chain) (image : Image) (p : ℕ) → HasHeader image → IsSoundImage image → is_in_chain chain image p ≡ true → IsPlain image p
chain_plain chain image p h is in_it =
    let low : p < length image = (in_chain chain image p in_it).0 in
    let kind : kind_of (page_at image p) ≡ data_kind = (in_chain chain image p in_it).1 in
    let most = is.most in
    record {
      place = record {
        behind = elim (eqb_tells p 0) [
          | inl w ↦ let first : kind_of (page_at image p) ≡ header_kind = ap (λ (n : ℕ). kind_of (page_at image n)) w.1 ∙ kind_of_header _ h.header in absurd (omega (arith, first, kind))
          | inr w ↦ omega (arith, w.1)
        ];
        there = omega (arith, low);
        most = omega (arith, low, most);
      };
      no_inventory = false_from_ne_true _ (λ at. absurd (omega (arith, kind, is.sound.system.inventories p low at)));
      no_scn_page = false_from_ne_true _ (λ at. absurd (omega (arith, kind, is.sound.system.scn_pages p low at)));
    }

-- The pages that a walk finds: there is one at least, and each is one of the chain.
pub record AreFound (chain : Chain) (image : Image) (ps : List ℕ) : Type 0 where
  pub some : 1 ≤ length ps
  pub each : AllByRecursion (λ (q : ℕ). is_in_chain chain image q ≡ true) ps

walk_finds : (left : ℕ) (chain : Chain) (image : Image) (p : ℕ) (ps : List ℕ) → walk left chain image p ≡ Ok ps → AreFound chain image ps
unfolding walk
walk_finds zero chain image p ps e = absurd (err_ok p ps e)
walk_finds (suc left) chain image p ps e = by (λ qs. walk_finds left chain image (next_in (page_at image p)) qs) (is_in_chain chain image p) refl e
  where
    behind : Result (List ℕ) ℕ
    behind = walk left chain image (next_in (page_at image p))

    one : (qs : List ℕ) → is_in_chain chain image p ≡ true → AllByRecursion (λ (q : ℕ). is_in_chain chain image q ≡ true) qs → p ∷ qs ≡ ps → AreFound chain image ps
    one qs is all same = subst (AreFound chain image) same (record { some = omega arith; each = (is, all) })

    by_rest : is_in_chain chain image p ≡ true → (r : Result (List ℕ) ℕ) → ((qs : List ℕ) → r ≡ Ok qs → AreFound chain image qs) → linked p r ≡ Ok ps → AreFound chain image ps
    by_rest is (Ok qs) rest e = one qs is (rest qs refl).each (ok_same (p ∷ qs) ps (Ok (p ∷ qs)) refl e)
    by_rest is (Err q) rest e = absurd (err_ok q ps e)

    by_last : ((qs : List ℕ) → behind ≡ Ok qs → AreFound chain image qs) → is_in_chain chain image p ≡ true → (t : Bool) → elim t as (λ z. Result (List ℕ) ℕ) [ true ↦ Ok (p ∷ []) | false ↦ linked p behind ] ≡ Ok ps → AreFound chain image ps
    by_last rest is true e = one [] is tt (ok_same (p ∷ []) ps (Ok (p ∷ [])) refl e)
    by_last rest is false e = by_rest is behind rest e

    by : ((qs : List ℕ) → behind ≡ Ok qs → AreFound chain image qs) → (t : Bool) → is_in_chain chain image p ≡ t
        → elim t as (λ z. Result (List ℕ) ℕ) [ false ↦ Err p | true ↦ elim (next_in (page_at image p) == 0) as (λ z. Result (List ℕ) ℕ) [ true ↦ Ok (p ∷ []) | false ↦ linked p behind ] ] ≡ Ok ps → AreFound chain image ps
    by rest false is e = absurd (err_ok p ps e)
    by rest true is e = by_last rest is (next_in (page_at image p) == 0) e

pub pages_found : (chain : Chain) (image : Image) → broken_at (pages_of chain image) ≡ None → AreFound chain image (found_pages chain image)
unfolding found_pages pages_of
pages_found chain image none = by (pages_of chain image) refl none
  where
    by : (r : Result (List ℕ) ℕ) → pages_of chain image ≡ r → broken_at r ≡ None → AreFound chain image (elim r as (λ z. List ℕ) [ Ok ps ↦ ps | Err p ↦ [] ])
    by (Ok ps) is none = walk_finds _ chain image _ ps is
    by (Err p) is none = cc

-- the first page is one of them
pub first_found : (chain : Chain) (image : Image) → broken_at (pages_of chain image) ≡ None → is_in_chain chain image (first_of chain) ≡ true
unfolding pages_of walk
first_found chain image none = by (length image) none
  where
    some_none : (p : ℕ) → broken_at (Err p) ≡ None → ⊥
    some_none p e = cc

    here : (t : Bool) (r : Result (List ℕ) ℕ) → broken_at (elim t as (λ z. Result (List ℕ) ℕ) [ false ↦ Err (first_of chain) | true ↦ r ]) ≡ None → t ≡ true
    here true r e = refl
    here false r e = absurd (some_none (first_of chain) e)

    by : (left : ℕ) → broken_at (walk left chain image (first_of chain)) ≡ None → is_in_chain chain image (first_of chain) ≡ true
    by zero e = absurd (some_none (first_of chain) e)
    by (suc left) e = here (is_in_chain chain image (first_of chain)) _ e

pub last_of_all : (P : ℕ → Type 0) (ps : List ℕ) → 1 ≤ length ps → AllByRecursion P ps → P (last_of ps)
last_of_all P [] some all = absurd (omega (arith, some))
last_of_all P (p ∷ []) some all = all.0
last_of_all P (p ∷ q ∷ qs) some all = last_of_all P (q ∷ qs) (omega arith) all.1

-- A slot of a page of the chain, within that page.
pub record IsSpotOf (chain : Chain) (image : Image) (s : Spot) : Type 0 where
  pub page : is_in_chain chain image s.page ≡ true
  pub within : s.slot < (length (page_at image s.page) - 32) / 256

slots_length : (count at : ℕ) (page : Page) → length (slots_from count at page) ≡ count
unfolding slots_from
slots_length zero at page = refl
slots_length (suc count) at page = let rest = slots_length count (at + 256) page in omega (arith, rest)

module _ (chain : Chain) (image : Image) where
  page_spots : (p most slot : ℕ) (ss : List Slot) → is_in_chain chain image p ≡ true → most ≡ (length (page_at image p) - 32) / 256 → slot + length ss ≤ most → AllByRecursion (IsSpotOf chain image) (spots_on p slot ss)
  unfolding spots_on
  page_spots p most slot [] is many low = tt
  page_spots p most slot (s ∷ ss) is many low = (record { page = is; within = omega (arith, many, low) }, page_spots p most (slot + 1) ss is many (omega (arith, low)))

  all_spots : (ps : List ℕ) → AllByRecursion (λ (q : ℕ). is_in_chain chain image q ≡ true) ps → AllByRecursion (IsSpotOf chain image) (spots_of image ps)
  unfolding spots_of slots_in
  all_spots [] all = tt
  all_spots (p ∷ ps) all =
      let most : ℕ = (length (page_at image p) - 32) / 256 in
      all_append (IsSpotOf chain image) (spots_on p 0 (slots_from most 32 (page_at image p))) (spots_of image ps)
      (page_spots p most 0 (slots_from most 32 (page_at image p)) all.0 refl (omega (arith, slots_length most 32 (page_at image p)))) (all_spots ps all.1)

pub first_passes : (test : Spot → Bool) (P : Spot → Type 0) (xs : List Spot) (x : Spot) → first_such test xs ≡ Some x → AllByRecursion P xs → P x
unfolding first_such
first_passes test P [] x e all = cc
first_passes test P (y ∷ ys) x e all = by (λ f. first_passes test P ys x f all.1) (test y) e
  where
    by : (first_such test ys ≡ Some x → P x) → (t : Bool) → elim t as (λ z. Option Spot) [ true ↦ Some y | false ↦ first_such test ys ] ≡ Some x → P x
    by rest true e = let same : y ≡ x = cc in subst P same all.0
    by rest false e = rest e

-- so is the free slot that is found
pub free_is_spot : (image : Image) (s : Spot) → broken_at (pages_of History image) ≡ None → free_spot (spots History image) ≡ Some s → IsSpotOf History image s
unfolding free_spot spots
free_is_spot image s none is = first_passes _ (IsSpotOf History image) (spots_of image (found_pages History image)) s is (all_spots History image (found_pages History image) (pages_found History image none).each)

-- a page that is put leaves a page for a new one, if there was one before
pub put_full : (p kind : ℕ) (payload : List ℕ) (d : Draft) → (put p kind payload d).full ≡ false → d.full ≡ false
unfolding written wrote
put_full p kind payload d = put_keeps (λ x. x.full ≡ false → d.full ≡ false) kept p kind payload d (λ e. e)
  where
    kept : IsKept (λ x. x.full ≡ false → d.full ≡ false)
    kept = record { writes = λ q k xs x h. h; reads = λ broken x h. h; fills = λ x h e. absurd (true≢false e) }

-- a page below the length is there before it is written
pub old_there : (image : Image) (p : ℕ) → p < length image → old_page p image ≡ page_at image p
unfolding old_page
old_there image p low = rw (lt-ltb p (length image) low, old_page) refl

pub data_short : (p : ℕ) → length (data_payload 0 1 []) ≤ 1008
unfolding data_payload bytes_of
data_short p = omega arith

-- a place for a row of the history in a sound image
pub record HasPlainRoom (image : Image) (page slot : ℕ) : Type 0 where
  pub below : page < length image
  pub plain : IsPlainRoom image page slot

-- a place for a row stays one, where the image keeps its page size and gets no shorter
pub room_with : (image new : Image) (p slot : ℕ) → image_size new ≡ image_size image → length image ≤ length new → HasPlainRoom image p slot → HasPlainRoom new p slot
room_with image new p slot size longer room = record {
  below = omega (arith, room.below, longer);
  plain = record {
    behind = room.plain.behind;
    no_inventory = ap (λ (s : ℕ). is_inventory_place s p) size ∙ room.plain.no_inventory;
    no_scn_page = ap (λ (s : ℕ). is_scn_place s p) size ∙ room.plain.no_scn_page;
    within = omega (arith, room.plain.within, size);
  };
}

pub room_stays : (old new : Base) (p slot : ℕ) → Stays old new → HasPlainRoom old.image p slot → HasPlainRoom new.image p slot
room_stays old new p slot stays = room_with old.image new.image p slot stays.size stays.longer

-- so where a backup begins
pub room_begun : (b : Base) (guid : List ℕ) (ask : Option Ask) (p slot : ℕ) → HasHeader b.image → IsSoundImage b.image → length guid ≡ 16 → image_scn b.image ≤ 4294967293 → HasPlainRoom b.image p slot
    → HasPlainRoom (on_base (begin guid ask) b).image p slot
unfolding on_base
room_begun b guid ask p slot h is sixteen scn =
    room_with b.image _ p slot (new_size 1 (image_scn b.image + 1) guid b.image h is (may_begin b.image h guid sixteen scn)) (omega (arith, control_long stalled_state (image_scn b.image + 1) guid b.image))

-- A slot that is found is a place for a row.
pub spot_room : (image : Image) (s : Spot) → HasHeader image → IsSoundImage image → IsSpotOf History image s → HasPlainRoom image s.page s.slot
spot_room image s h is spot =
    let plain : IsPlain image s.page = chain_plain History image s.page h is spot.page in
    let low : s.page < length image = (in_chain History image s.page spot.page).0 in
    let long : length (page_at image s.page) ≡ image_size image = all_at (λ page. length page ≡ image_size image) image is.sizes s.page low in
    record {
      below = low;
      plain = record {
        behind = plain.place.behind;
        no_inventory = plain.no_inventory;
        no_scn_page = plain.no_scn_page;
        within = let most = div-mul-le_self (length (page_at image s.page) - 32) 256 in let inside = spot.within in omega (arith, most, inside, long);
      };
    }

-- The room for a row: the strokes that make it fit, and it is a place for one.
module _ (b : Base) (h : HasHeader b.image) (is : IsSoundImage b.image) (unbroken : broken_at (pages_of History b.image) ≡ None) where
  abbrev whole : IsWhole b.image
  whole = header_whole b.image h is

  abbrev last : ℕ
  last = last_of (found_pages History b.image)

  abbrev made : Draft × ℕ
  made = new_page 5 (λ p. data_payload 0 1 []) (drafted b.image)

  abbrev link : List ℕ
  link = drop 16 (with_part 16 (bytes_of 4 made.1) (page_at made.0.image last))

  abbrev d : Draft
  d = put last data_kind link made.0

  pub last_in : is_in_chain History b.image last ≡ true
  last_in = let found = pages_found History b.image unbroken in last_of_all (λ q. is_in_chain History b.image q ≡ true) (found_pages History b.image) found.some found.each

  last_plain : IsPlain b.image last
  last_plain = chain_plain History b.image last h is last_in

  last_low : last < length b.image
  last_low = (in_chain History b.image last last_in).0

  module _ (K : Page → Type 0) (holds : HoldsOfHistory K) (chain : HoldsOfChain K b.image) where
    pub made_fits : Fits K b made.0
    made_fits = new_fits K holds.kinds b (length b.image + 4) 5 (λ p. data_payload 0 1 []) (drafted b.image) refl data_short added (fits_first K b whole)
      where
        added : (x : Image) (p : ℕ) → IsWhole x → 5 ≤ p → p < most_pages → K (form_page p data_kind (data_payload 0 1 []) x)
        added x p w five most =
            let size : SizeFacts (image_size x) = size_facts (image_size x) w.fields.size in
            holds.added (old_page p x) (image_scn x) p (omega (arith, size.at_least, old_length x p 5 (data_payload 0 1 []) w.fields w.sound refl (omega (arith, size.at_least, data_short p))))

    made_stays : Stays b (base_after b made.0.strokes)
    made_stays = fitting_stays K made.0.strokes b made_fits.each whole

    made_size : image_size made.0.image ≡ image_size b.image
    made_size = ap image_size (sym made_fits.is.is) ∙ made_stays.size

    made_long : length b.image ≤ length made.0.image
    made_long = omega (arith, made_stays.longer, ap length made_fits.is.is)

    pub link_plain : IsPlain made.0.image last
    link_plain = record {
      place = record { behind = last_plain.place.behind; there = omega (arith, last_low, made_long); most = last_plain.place.most };
      no_inventory = ap (λ (s : ℕ). is_inventory_place s last) made_size ∙ last_plain.no_inventory;
      no_scn_page = ap (λ (s : ℕ). is_scn_place s last) made_size ∙ last_plain.no_scn_page;
    }

    pub link_low : last < length made.0.image
    link_low = omega (arith, last_low, made_long)

    module _ (left : made.0.full ≡ false) where
      new : IsNew b.image 5 made
      new = new_is_new (length b.image + 4) 5 (λ p. data_payload 0 1 []) b.image whole refl data_short left

      last_kind : kind_of (page_at made.0.image last) ≡ data_kind
      last_kind = elim (eqb_tells last made.1) [
        | inl w ↦ ap (λ (n : ℕ). kind_of (page_at made.0.image n)) w.1 ∙ new.of_kind
        | inr w ↦ ap kind_of (new.others last (plain_from (image_size b.image) last last_plain.no_inventory last_plain.no_scn_page) w.1) ∙ (in_chain History b.image last last_in).1
      ]

      page_long : length (page_at made.0.image last) ≡ image_size made.0.image
      page_long = all_at (λ page. length page ≡ image_size made.0.image) made.0.image made_fits.whole.sound.sizes last (omega (arith, last_low, made_long))

      size : SizeFacts (image_size made.0.image)
      size = size_facts (image_size made.0.image) made_fits.whole.fields.size

      link_put : IsPut K b made.0.image last 5 link d
      link_put = plain_here K holds.kinds.scn_pages b last 5 link made.0 made_fits link_plain refl
          (omega (
            arith,
            size.at_least,
            page_long,
            length-drop 16 (with_part 16 (bytes_of 4 made.1) (page_at made.0.image last)),
            length-with_part 16 (bytes_of 4 made.1) (page_at made.0.image last) (omega (arith, size.at_least, page_long, length-bytes_of 4 made.1)),
          ))
          (subst (λ (old : Page). K (stamped old data_kind link (image_scn made.0.image) last)) (sym (old_there made.0.image last (omega (arith, last_low, made_long))))
          (holds.linked (page_at made.0.image last) made.1 (image_scn made.0.image) last (omega (arith, size.at_least, page_long)) last_kind
          (subst (λ (x : Image). K (page_at x last)) made_fits.is.is (page_keeps K last made.0.strokes b made_fits.each whole (chain last last_in)))))

      d_stays : Stays b (base_after b d.strokes)
      d_stays = fitting_stays K d.strokes b link_put.fits.each whole

      link_room : HasPlainRoom d.image made.1 0
      link_room = record {
        below = omega (arith, new.below, ap length link_put.is, with_page_length last (form_page last data_kind link link_put.between) link_put.between (omega (arith, last_low, made_long, link_put.raises.long)), link_put.raises.long);
        plain = record {
          behind = new.behind;
          no_inventory = ap (λ (s : ℕ). is_inventory_place s made.1) d_size ∙ (plain_place (image_size b.image) made.1 new.plain).0;
          no_scn_page = ap (λ (s : ℕ). is_scn_place s made.1) d_size ∙ (plain_place (image_size b.image) made.1 new.plain).1;
          within = omega (arith, size.at_least, made_size, d_size);
        };
      }
        where
          d_size : image_size d.image ≡ image_size b.image
          d_size = ap image_size (sym link_put.fits.is.is) ∙ d_stays.size

    -- a slot that is free is only read
    read_fits : (s : Spot) → Fits K b (needs_taken s.page (needs 10 (scn_page_of b.image s.page) (needs 2 (inventory_of b.image s.page) (drafted b.image))))
    unfolding needs_taken
    read_fits s =
        let read : Draft = needs 10 (scn_page_of b.image s.page) (needs 2 (inventory_of b.image s.page) (drafted b.image)) in
        let fits : Fits K b read = fits_needs K b 10 _ _ (fits_needs K b 2 _ (drafted b.image) (fits_first K b whole)) in
        either (Fits K b) (is_free_page read.image s.page) _ _ (record { is = record { is = fits.is.is }; each = fits.each; whole = fits.whole }) fits

    -- What the room for a row is.
    record IsRoom (room : Room) : Type 0 where
      fits : Fits K b room.draft
      there : HasPlainRoom (base_after b room.draft.strokes).image room.page room.slot

    room_is : (room_in b.image).draft.full ≡ false → IsRoom (room_in b.image)
    unfolding room_in grown
    room_is left = by (free_spot (spots History b.image)) refl left
      where
        by : (o : Option Spot) → free_spot (spots History b.image) ≡ o
            → (elim o as (λ z. Room) [
              | Some s ↦ record { draft = needs_taken s.page (needs 10 (scn_page_of b.image s.page) (needs 2 (inventory_of b.image s.page) (drafted b.image))); page = s.page; slot = s.slot }
              | None ↦ record { draft = wants made.0.image 5 last d; page = made.1; slot = 0 }
            ]).draft.full ≡ false
            → IsRoom (elim o as (λ z. Room) [
              | Some s ↦ record { draft = needs_taken s.page (needs 10 (scn_page_of b.image s.page) (needs 2 (inventory_of b.image s.page) (drafted b.image))); page = s.page; slot = s.slot }
              | None ↦ record { draft = wants made.0.image 5 last d; page = made.1; slot = 0 }
            ])
        by (Some s) found left = record {
          fits = read_fits s;
          there = room_stays b _ s.page s.slot (fitting_stays K _ b (read_fits s).each whole) (spot_room b.image s h is (free_is_spot b.image s unbroken found));
        }
        by None found left =
            let some : made.0.full ≡ false = put_full last data_kind link made.0 left in
            record { fits = fits_broken K b _ d (link_put some).fits; there = subst (λ (x : Image). HasPlainRoom x made.1 0) (sym (link_put some).fits.is.is) (link_room some) }

  -- Each stroke fits, for any K that holds of such pages.
  pub room_fits : (K : Page → Type 0) → HoldsOfHistory K → HoldsOfChain K b.image → (room_in b.image).draft.full ≡ false → Fits K b (room_in b.image).draft
  room_fits K holds chain left = (room_is K holds chain left).fits

  -- and there is a place for the row then
  pub room_there : (room_in b.image).draft.full ≡ false → HasPlainRoom (base_after b (room_in b.image).draft.strokes).image (room_in b.image).page (room_in b.image).slot
  room_there left = (room_is AnyPage any_history (λ p is. tt) left).there

-- The slot of a row has 256 bytes, where the name has 224 at most.
pub backup_length : (level scn time : ℕ) (guid name : List ℕ) → length guid ≡ 16 → length name ≤ 224 → length (backup_slot level scn time guid name) ≡ 256
unfolding backup_slot bytes_of
backup_length level scn time guid name sixteen short = length-padded 256 _ (omega (arith, sixteen, short, length-append guid name))

-- A row is written at its place.
pub slot_fits : (K : Page → Type 0) → ((bytes : Page) → kind_of bytes ≡ scn_kind → K bytes) → (b : Base) (p slot : ℕ) (row : Slot) → HasHeader b.image → IsSoundImage b.image → HasPlainRoom b.image p slot → length row ≡ 256
    → K (stamped (page_at b.image p) data_kind (drop 16 (with_part (32 + 256 * slot) row (page_at b.image p))) (image_scn b.image) p) → Fits K b (put_slot p slot row (drafted b.image))
unfolding put_slot
slot_fits K scn_pages b p slot row h is room long holds =
    let page : Page = page_at b.image p in
    let low : p < length b.image = room.below in
    let whole : length page ≡ image_size b.image = all_at (λ x. length x ≡ image_size b.image) b.image is.sizes p low in
    let size : SizeFacts (image_size b.image) = size_facts (image_size b.image) (header_fields b.image h).size in
    (plain_here K scn_pages b p 5 (drop 16 (with_part (32 + 256 * slot) row page)) (drafted b.image) (fits_first K b (header_whole b.image h is))
    (record { place = record { behind = room.plain.behind; there = omega (arith, low); most = omega (arith, low, is.most) }; no_inventory = room.plain.no_inventory; no_scn_page = room.plain.no_scn_page }) refl
    (omega (arith, size.at_least, whole, room.plain.within, long, length-drop 16 (with_part (32 + 256 * slot) row page), length-with_part (32 + 256 * slot) row page (omega (arith, whole, room.plain.within, long))))
    (subst (λ (old : Page). K (stamped old data_kind (drop 16 (with_part (32 + 256 * slot) row page)) (image_scn b.image) p)) (sym (old_there b.image p low)) holds)).fits
