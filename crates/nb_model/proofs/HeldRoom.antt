-- Where room is made for a row of the history, its page is held, and each row on it is one that stood on a page of the history.
use Rattle.std.proofs.Common.{◌≡◌, ◌≢◌, inl, inr, ℕ, ◌+◌, ◌/◌, ◌<◌, ◌≤◌, List, [], ◌∷◌, length, drop, refl, sym, ap, subst, ◌∙◌, arith, Bool, true, false, Contains, Option, Some, None}
use Rattle.nb_model.proofs.Common.{AllByRecursion, true≢false, eqb_tells, bytes_of, with_part, stamped, data_payload, bits_in, entries_in, is_inventory_place, is_system_place, most_pages, SizeFacts, size_facts, data_kind, Base, Room, needs_taken, room_in, broken_at, not_of_form, lowest_broken, History, Slot, Spot, next_in, owner_in, is_used, slots_in, spots, pages_of, found_pages, free_spot, is_in_chain, last_of, grown, Draft, drafted, old_page, put, needs, is_free_page, inventory_of, scn_page_of, new_page, wants, Page, Image, page_at, image_size, image_scn, HasHeader, IsSoundImage}
use Rattle.nb_model.proofs.DraftJoin.{join_put}
use Rattle.nb_model.proofs.FitLaws.{IsWhole, form_page}
use Rattle.nb_model.proofs.HeldLaws.{IsHeld, IsOfHistory, IsMade, held_put, new_is_made}
use Rattle.nb_model.proofs.LeadLaws.{LeadsTo, found_leads, linked_leads}
use Rattle.nb_model.proofs.NewSound.{stamped_kind}
use Rattle.nb_model.proofs.PutSound.{IsPlain, needs_image, header_whole}
use Rattle.nb_model.proofs.RoomLaws.{AnyPage, any_history, in_chain, chain_owner, chain_plain, free_is_spot, IsSpotOf, made_fits, link_plain, link_low, old_there, data_short, put_full}
use Rattle.nb_model.proofs.RoundLaws.{IsNew, new_is_new, no_place, bit_by, put_here, put_other, put_size, put_longer, put_inventory}
use Rattle.nb_model.proofs.SlotLaws.{linked_slots, linked_next, linked_owner, new_slots, new_owner}
use Rattle.nb_model.proofs.FoundSpots.{found_there}
use Rattle.nb_model.proofs.SoundLaws.{all_at, inventory_there}
use Rattle.nb_model.proofs.OnwardTests.{plain_from}
use Rattle.nb_model.proofs.DraftLaws.{either}

-- A page is held, links of the history lead to it, and what P says holds of each row that it uses.
pub record HoldsRows (P : Slot → Type 0) (q : ℕ) (image : Image) : Type 0 where
  pub bytes : Page
  pub held : IsHeld q bytes image
  pub leads : LeadsTo image q
  pub of_history : IsOfHistory bytes
  pub rows : AllByRecursion (λ row. is_used row ≡ true → P row) (slots_in bytes)

-- P holds of each row on a page of the chain of the history
abbrev pub HasChainRows : (P : Slot → Type 0) → Image → Type 0
HasChainRows P image = (p : ℕ) → is_in_chain History image p ≡ true → AllByRecursion (λ row. is_used row ≡ true → P row) (slots_in (page_at image p))

-- a page that was needed to be taken is
pub needs_image_same : (p : ℕ) (d : Draft) → (needs_taken p d).image ≡ d.image
unfolding needs_taken
needs_image_same p d = either (λ (x : Draft). x.image ≡ d.image) (is_free_page d.image p) _ _ refl refl

needs_is_taken : (p : ℕ) (d : Draft) → not_of_form (needs_taken p d) ≡ None → is_free_page d.image p ≡ false
unfolding needs_taken lowest_broken
needs_is_taken p d none = by (is_free_page d.image p) refl none
  where
    by : (t : Bool) → is_free_page d.image p ≡ t → not_of_form (elim t as (λ z. Draft) [ true ↦ record d { broken = p ∷ d.broken } | false ↦ d ]) ≡ None → is_free_page d.image p ≡ false
    by true is h = cc
    by false is h = is

-- A page that is held is written itself.
pub held_here : (image : Image) → IsWhole image → (p : ℕ) (old : Page) (kind : ℕ) (payload : List ℕ) → IsPlain image p → IsHeld p old image → IsHeld p (form_page p kind payload image) (put p kind payload (drafted image)).image
held_here image h p old kind payload plain held =
    let size : image_size (put p kind payload (drafted image)).image ≡ image_size image = put_size image h p plain.place kind payload in
    record {
      is = put_here image h p plain.place kind payload;
      behind = held.behind;
      below = let longer = put_longer image h p plain.place kind payload in let low = held.below in omega (arith, longer, low);
      plain = ap (λ (s : ℕ). is_system_place s p) size ∙ held.plain;
      taken = bit_by image (put p kind payload (drafted image)).image p size
          (put_inventory image h p plain.place kind payload (p / bits_in (image_size image)) (λ e. (no_place image h p held.plain).0 (p / bits_in (image_size image)) (sym e))) ∙ held.taken;
    }

module _ (P : Slot → Type 0) (b : Base) (h : HasHeader b.image) (is : IsSoundImage b.image) (unbroken : broken_at (pages_of History b.image) ≡ None) (rows : HasChainRows P b.image) where
  -- the first free slot
  spot_held : (s : Spot) → IsSpotOf History b.image s → Contains (found_pages History b.image) s.page → is_free_page b.image s.page ≡ false → HoldsRows P s.page b.image
  spot_held s spot among taken =
      let plain : IsPlain b.image s.page = chain_plain History b.image s.page h is spot.page in
      let facts = in_chain History b.image s.page spot.page in
      record {
        bytes = page_at b.image s.page;
        held = record { is = refl; behind = plain.place.behind; below = facts.0; plain = plain_from (image_size b.image) s.page plain.no_inventory plain.no_scn_page; taken = taken };
        leads = found_leads b.image s.page unbroken among;
        of_history = record { of_kind = facts.1; owner = chain_owner History b.image s.page spot.page };
        rows = rows s.page spot.page;
      }

  -- a new page, to which the last one is linked
  abbrev made : Draft × ℕ
  made = new_page 5 (λ p. data_payload 0 1 []) (drafted b.image)

  abbrev last : ℕ
  last = last_of (found_pages History b.image)

  abbrev link : List ℕ
  link = drop 16 (with_part 16 (bytes_of 4 made.1) (page_at made.0.image last))

  new_held : made.0.full ≡ false → HoldsRows P made.1 (put last data_kind link made.0).image
  new_held left = subst (HoldsRows P made.1) (sym (ap (λ (x : Draft). x.image) (join_put last 5 link made.0))) (elim (eqb_tells made.1 last) [
    | inl w ↦ record {
      bytes = form_page last data_kind link made.0.image;
      held = subst (λ (n : ℕ). IsHeld n (form_page last data_kind link made.0.image) linked) (sym w.1) (held_here made.0.image whole last page 5 link plain (subst (λ (n : ℕ). IsHeld n page made.0.image) w.1 held));
      leads = leads;
      of_history = record { of_kind = stamped_kind (old_page last made.0.image) 5 link (image_scn made.0.image) last; owner = linked_owner_same w.1 };
      rows = subst (AllByRecursion (λ row. is_used row ≡ true → P row)) (sym (linked_same w.1)) unused;
    }
    | inr w ↦ record {
      bytes = page;
      held = held_put made.1 page made.0.image whole last 5 link plain.place w.1
          (λ e. absurd (true≢false (sym (inventory_there (image_size made.0.image) (made.1 / bits_in (image_size made.0.image)) whole.fields.size) ∙ ap (is_inventory_place (image_size made.0.image)) e ∙ plain.no_inventory))) held;
      leads = leads;
      of_history = record { of_kind = new.of_kind; owner = owner };
      rows = unused;
    }
  ])
    where
      whole : IsWhole made.0.image
      whole = (made_fits b h is unbroken AnyPage any_history (λ p in_it. tt)).whole

      new : IsNew b.image 5 made
      new = new_is_new (length b.image + 4) 5 (λ p. data_payload 0 1 []) b.image (header_whole b.image h is) refl data_short left

      taken : IsMade b.image 5 (λ p. data_payload 0 1 []) made
      taken = new_is_made (length b.image + 4) 5 (λ p. data_payload 0 1 []) b.image (header_whole b.image h is) refl data_short left

      page : Page
      page = page_at made.0.image made.1

      linked : Image
      linked = (put last data_kind link (drafted made.0.image)).image

      plain : IsPlain made.0.image last
      plain = link_plain b h is unbroken AnyPage any_history (λ p in_it. tt)

      held : IsHeld made.1 page made.0.image
      held = record { is = refl; behind = new.behind; below = new.below; plain = ap (λ (s : ℕ). is_system_place s made.1) new.size ∙ new.plain; taken = taken.taken }

      owner : owner_in page ≡ 1
      owner = ap owner_in taken.of.1 ∙ new_owner (old_page made.1 taken.of.0) 0 1 [] (image_scn taken.of.0) made.1 (omega arith)

      unused : AllByRecursion (λ row. is_used row ≡ true → P row) (slots_in page)
      unused = subst (λ (x : Page). AllByRecursion (λ row. is_used row ≡ true → P row) (slots_in x)) (sym taken.of.1) (new_slots P (old_page made.1 taken.of.0) (image_scn taken.of.0) made.1)

      last_long : made.1 ≡ last → 1024 ≤ length (page_at made.0.image last)
      last_long e =
          let low : last < length made.0.image = omega (arith, new.below, e) in
          let size : SizeFacts (image_size made.0.image) = size_facts (image_size made.0.image) whole.fields.size in
          let long : length (page_at made.0.image last) ≡ image_size made.0.image = all_at (λ x. length x ≡ image_size made.0.image) made.0.image whole.sound.sizes last low in
          omega (arith, long, size.at_least)

      linked_owner_same : made.1 ≡ last → owner_in (form_page last data_kind link made.0.image) ≡ 1
      linked_owner_same e =
          ap (λ (old : Page). owner_in (stamped old data_kind link (image_scn made.0.image) last)) (old_there made.0.image last (omega (arith, new.below, e)))
          ∙ linked_owner (page_at made.0.image last) made.1 (image_scn made.0.image) last (last_long e) ∙ ap (λ (n : ℕ). owner_in (page_at made.0.image n)) (sym e) ∙ owner

      -- the last page is there, and long enough for a link
      last_low : last < length made.0.image
      last_low = link_low b h is unbroken AnyPage any_history (λ p in_it. tt)

      last_links : next_in (page_at linked last) ≡ made.1
      last_links =
          let size : SizeFacts (image_size made.0.image) = size_facts (image_size made.0.image) whole.fields.size in
          let long : length (page_at made.0.image last) ≡ image_size made.0.image = all_at (λ x. length x ≡ image_size made.0.image) made.0.image whole.sound.sizes last last_low in
          let few : length made.0.image ≤ most_pages = whole.sound.most in
          ap next_in (put_here made.0.image whole last plain.place 5 link)
          ∙ ap (λ (old : Page). next_in (stamped old data_kind link (image_scn made.0.image) last)) (old_there made.0.image last last_low)
          ∙ linked_next (page_at made.0.image last) made.1 (image_scn made.0.image) last (omega (arith, long, size.at_least)) (let low = new.below in omega (arith, low, few))

      -- no other page of the history changes
      others : (z : ℕ) → is_in_chain History b.image z ≡ true → z ≢ made.1 → z ≢ last → page_at linked z ≡ page_at b.image z
      others z in_it off apart =
          let its : IsPlain b.image z = chain_plain History b.image z h is in_it in
          let no_place_of : is_system_place (image_size b.image) z ≡ false = plain_from (image_size b.image) z its.no_inventory its.no_scn_page in
          put_other made.0.image whole last plain.place 5 link z apart ((no_place made.0.image whole z (ap (λ (s : ℕ). is_system_place s z) new.size ∙ no_place_of)).1 (last / entries_in (image_size made.0.image)))
          ∙ new.others z no_place_of off

      leads : LeadsTo linked made.1
      leads = linked_leads b.image linked made.1 (let some = new.behind in omega (arith, some)) unbroken others last_links

      linked_same : made.1 ≡ last → slots_in (form_page last data_kind link made.0.image) ≡ slots_in page
      linked_same e =
          ap (λ (old : Page). slots_in (stamped old data_kind link (image_scn made.0.image) last)) (old_there made.0.image last (omega (arith, new.below, e)))
          ∙ linked_slots (page_at made.0.image last) made.1 (image_scn made.0.image) last (last_long e) ∙ ap (λ (n : ℕ). slots_in (page_at made.0.image n)) (sym e)

  -- a slot that is free is read, and its page has to be taken
  abbrev read : Spot → Draft
  read s = needs 10 (scn_page_of b.image s.page) (needs 2 (inventory_of b.image s.page) (drafted b.image))

  abbrev room : Option Spot → Room
  room o = elim o as (λ z. Room) [
    | Some s ↦ record { draft = needs_taken s.page (read s); page = s.page; slot = s.slot }
    | None ↦ record { draft = wants made.0.image 5 last (put last data_kind link made.0); page = made.1; slot = 0 }
  ]

  read_image : (s : Spot) → (read s).image ≡ b.image
  read_image s = needs_image 10 (scn_page_of b.image s.page) (needs 2 (inventory_of b.image s.page) (drafted b.image)) ∙ needs_image 2 (inventory_of b.image s.page) (drafted b.image)

  -- The page for the row is held.
  pub room_held : not_of_form (room_in b.image).draft ≡ None → (room_in b.image).draft.full ≡ false → HoldsRows P (room_in b.image).page (room_in b.image).draft.image
  unfolding room_in grown free_spot
  room_held formed left = by (free_spot (spots History b.image)) refl formed left
    where
      by : (o : Option Spot) → free_spot (spots History b.image) ≡ o → not_of_form (room o).draft ≡ None → (room o).draft.full ≡ false → HoldsRows P (room o).page (room o).draft.image
      by (Some s) found formed left =
          subst (HoldsRows P s.page) (sym (needs_image_same s.page (read s) ∙ read_image s))
          (spot_held s (free_is_spot b.image s unbroken found) (found_there History b.image _ s found).page (subst (λ (x : Image). is_free_page x s.page ≡ false) (read_image s) (needs_is_taken s.page (read s) formed)))
      by None found formed left = new_held (put_full last data_kind link made.0 left)
