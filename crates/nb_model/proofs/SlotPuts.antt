-- A slot of a chain is written in a neat image: the chain's slots are as before but for that one, and no other chain changes.
use Rattle.std.proofs.Common.{◌≡◌, ◌≢◌, ℕ, zero, suc, ◌+◌, ◌*◌, ◌/◌, ◌≤◌, List, [], ◌∷◌, map, length, drop, refl, sym, ap, subst, ◌∙◌, arith, Bool, true, Ok, Contains}
use Rattle.nb_model.proofs.Common.{AllByRecursion, list_all, and_parts, and_from, with_part, stamped, bits_in, entries_in, is_scn_place, data_kind, Chain, History, Slot, Spot, is_slot, next_in, slots_in, pages_of, found_pages, spots, put_slot, drafted, raised, inventory_of, scn_page_of, Page, Image, page_at, image_size, image_scn, chains, IsNeat, HasHeader, IsSoundImage, all_go}
use Rattle.nb_model.proofs.ChainWalks.{HasForm, form_there, StaysLinked, pages_stay, found_is, spots_are}
use Rattle.nb_model.proofs.FitLaws.{IsWhole}
use Rattle.nb_model.proofs.HeldChains.{KeepsEach, KeepsBut, IsHeldIn, chains_held, one_changes, nothing_changes}
use Rattle.nb_model.proofs.HeldLaws.{IsHeld, held_by, held_put}
use Rattle.nb_model.proofs.HeldRoom.{held_here}
use Rattle.nb_model.proofs.NeatLaws.{ChangesChain}
use Rattle.nb_model.proofs.NewSound.{stamped_kind, places_apart}
use Rattle.nb_model.proofs.PutSound.{IsPlace, IsPlain, Raises, header_whole}
use Rattle.nb_model.proofs.RoomLaws.{chain_plain, old_there}
use Rattle.nb_model.proofs.RoundLaws.{no_place, bit_by, raises, put_here, put_longer}
use Rattle.nb_model.proofs.SlotLaws.{IsSlotWritten, slot_is_written, written_owner, written_next, rows_written}
use Rattle.nb_model.proofs.SoundLaws.{all_at, inventory_there, scn_page_there}
use Rattle.nb_model.proofs.SpotLaws.{IsSpotOn, spot_within}
use Rattle.nb_model.proofs.SpotWrites.{put_at, spots_written}

-- what holds of each holds of one of them
pub held_at : {X : Type 0} (P : X → Type 0) (xs : List X) (x : X) → Contains xs x → AllByRecursion P xs → P x
held_at P [] x here all = absurd (omega (arith, here.1))
held_at P (y ∷ xs) x (zero, low, is) all = subst P is all.0
held_at P (y ∷ xs) x (suc k, low, is) all = held_at P xs x (k, omega (arith, low), is) all.1

-- Where the entry of a page is raised no page that is held changes.
pub raised_keeps : (x : Image) (h : IsWhole x) (p : ℕ) (at : IsPlace x p) → KeepsEach x (raised p (drafted x)).image
raised_keeps x h p at q bytes held =
    let m : Image = (raised p (drafted x)).image in
    let r : Raises x m p = raises x h p at in
    held_by q bytes x m r.size (omega (arith, r.long)) (r.others q (λ e. (no_place x h q held.plain).1 (p / entries_in (image_size x)) e)) (bit_by x m q r.size (r.others (inventory_of x q) (apart q))) held
  where
    apart : (q : ℕ) → inventory_of x q ≢ scn_page_of x p
    apart q e = places_apart (image_size x) (inventory_of x q) h.fields.size (inventory_there (image_size x) (q / bits_in (image_size x)) h.fields.size)
        (subst (λ (n : ℕ). is_scn_place (image_size x) n ≡ true) (sym e) (scn_page_there (image_size x) (p / entries_in (image_size x)) h.fields.size))

pub list_each : (test : Slot → Bool) (xs : List Slot) → list_all test xs ≡ true → AllByRecursion (λ s. test s ≡ true) xs
list_each test [] e = tt
list_each test (x ∷ xs) e = let parts = and_parts (test x) (list_all test xs) e in (parts.0, list_each test xs parts.1)

pub each_list : (test : Slot → Bool) (xs : List Slot) → AllByRecursion (λ s. test s ≡ true) xs → list_all test xs ≡ true
each_list test [] all = refl
each_list test (x ∷ xs) all = and_from (test x) (list_all test xs) all.0 (each_list test xs all.1)

-- What such a write leaves.
pub record IsSlotPut (c : Chain) (s : Spot) (bytes : Slot) (x y : Image) : Type 0 where
  pub changes : ChangesChain c x y
  pub spots_then : spots c y ≡ map (put_at s.page s.slot bytes) (spots c x)

module _ (x : Image) (header : HasHeader x) (is : IsSoundImage x) (neat : IsNeat x) (c : Chain) (of_all : Contains (chains x) c) (s : Spot) (on : IsSpotOn (Contains (found_pages c x)) x s) where
  abbrev p : ℕ
  p = s.page

  abbrev page : Page
  page = page_at x p

  pub whole : IsWhole x
  whole = header_whole x header is

  its : IsHeldIn c x p
  its = held_at (IsHeldIn c x) (found_pages c x) p on.page (held_at (λ d. AllByRecursion (IsHeldIn d x) (found_pages d x)) (chains x) c of_all (chains_held x header is neat))

  pub spot_plain : IsPlain x p
  spot_plain = chain_plain c x p header is its.in_it

  -- before its page is written, while the entry of the page is raised, nothing changes
  pub slot_between : ChangesChain History x (raised p (drafted x)).image
  slot_between = nothing_changes x header is neat (raised p (drafted x)).image (let r : Raises x (raised p (drafted x)).image p = raises x whole p spot_plain.place in omega (arith, r.long)) (raised_keeps x whole p spot_plain.place)

  module _ (bytes : Slot) (long : length bytes ≡ 256) (fits : is_slot c bytes ≡ true) where
    abbrev payload : List ℕ
    payload = drop 16 (with_part (32 + 256 * s.slot) bytes page)

    abbrev y : Image
    y = (put_slot p s.slot bytes (drafted x)).image

    abbrev new : Page
    new = stamped page data_kind payload (image_scn x) p

    old_long : length page ≡ image_size x
    old_long = all_at (λ (q : Page). length q ≡ image_size x) x is.sizes p its.held.below

    room : 32 + 256 * s.slot + 256 ≤ length page
    room = omega (arith, spot_within x p s.slot old_long on.within, old_long)

    new_is : page_at y p ≡ new
    unfolding put_slot
    new_is = put_here x whole p spot_plain.place 5 payload ∙ ap (λ (old : Page). stamped old data_kind payload (image_scn x) p) (old_there x p its.held.below)

    longer : length x ≤ length y
    unfolding put_slot
    longer = put_longer x whole p spot_plain.place 5 payload

    pub keeps : KeepsBut p x y
    unfolding put_slot
    keeps q b other held = held_put q b x whole p 5 payload spot_plain.place other (λ e. absurd ((no_place x whole p its.held.plain).0 (q / bits_in (image_size x)) (sym e))) held

    held_then : IsHeld p (page_at y p) y
    unfolding put_slot
    held_then = subst (λ (b : Page). IsHeld p b y) (sym (put_here x whole p spot_plain.place 5 payload)) (held_here x whole p page 5 payload spot_plain its.held)

    form : HasForm c (page_at y p)
    form =
        let old : HasForm c page = form_there c x p its.in_it in
        subst (HasForm c) (sym new_is) (record {
          of_kind = stamped_kind page 5 payload (image_scn x) p;
          owner = written_owner s.slot bytes page (image_scn x) p long room ∙ old.owner;
          slots = each_list (is_slot c) (slots_in new) (rows_written (λ row. is_slot c row ≡ true) s.slot bytes page long room fits (image_scn x) p (list_each (is_slot c) (slots_in page) old.slots));
        })

    slot_changes : ChangesChain c x y
    slot_changes = one_changes x header is neat y longer c p of_all on.page keeps form (ap next_in new_is ∙ written_next s.slot bytes page (image_scn x) p long room) held_then

    same_but : AllByRecursion (λ (q : ℕ). q ≢ p → page_at y q ≡ page_at x q) (found_pages c x)
    same_but = all_go (IsHeldIn c x) (λ q. q ≢ p → page_at y q ≡ page_at x q) (found_pages c x) (λ q at other. (keeps q (page_at x q) other at.held).is)
        (held_at (λ d. AllByRecursion (IsHeldIn d x) (found_pages d x)) (chains x) c of_all (chains_held x header is neat))

    pub slot_put : IsSlotPut c s bytes x y
    slot_put = record { changes = slot_changes; spots_then = by (held_at (λ d. (ps : List ℕ) × (pages_of d x ≡ Ok ps)) (chains x) c of_all neat.formed) }
      where
        by : (ps : List ℕ) × (pages_of c x ≡ Ok ps) → spots c y ≡ map (put_at p s.slot bytes) (spots c x)
        by (ps, are) =
            let found : found_pages c x ≡ ps = found_is c x ps are in
            let linked : AllByRecursion (StaysLinked c x y) ps = subst (AllByRecursion (StaysLinked c x y)) found (held_at (λ d. AllByRecursion (StaysLinked d x y) (found_pages d x)) (chains x) c of_all slot_changes.linked) in
            spots_are c y ps (pages_stay c x y ps are longer linked)
            ∙ spots_written p s.slot bytes x y ps (subst (IsSlotWritten s.slot bytes page) (sym new_is) (slot_is_written s.slot bytes page (image_scn x) p long room)) (subst (AllByRecursion (λ (q : ℕ). q ≢ p → page_at y q ≡ page_at x q)) found same_but)
            ∙ ap (map (put_at p s.slot bytes)) (sym (spots_are c x ps are))
