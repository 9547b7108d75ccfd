-- Room is made for a row of the history where it has no free slot: a new page is made, and the history then leads to it. No table changes.
use Rattle.std.proofs.Common.{◌≡◌, ◌≢◌, ◌⊎◌, inl, inr, ⊎_elim, ℕ, ◌+◌, ◌/◌, ◌<◌, ◌≤◌, List, [], ◌∷◌, ◌++◌, length, drop, refl, sym, ap, subst, ◌∙◌, arith, true, false, None, Ok, Contains}
use Rattle.nb_model.proofs.Common.{AllByRecursion, History, list_all, eqb_tells, bytes_of, with_part, kind_of, stamped, data_payload, bits_in, is_inventory_place, is_scn_place, is_system_place, most_pages, SizeFacts, size_facts, data_kind, Base, broken_at, Chain, Spot, first_of, owner_in, next_in, is_slot, is_used, slots_in, pages_of, found_pages, spots_on, spots_of, spots, last_of, grown, Draft, drafted, old_page, put, raised, is_free_page, new_page, Page, Image, page_at, image_size, image_scn, chains, AreDistinct, IsNeat, HasHeader, IsSoundImage, base_after, all_go, all_both}
use Rattle.nb_model.proofs.Along.{Along, along_append, along_more, put_along}
use Rattle.nb_model.proofs.ChainGrows.{fewer_below, walk_grows}
use Rattle.nb_model.proofs.ChainWalks.{HasForm, form_there, there_by, StaysLinked, linked_same, pages_stay, found_is, spots_same, spots_are}
use Rattle.nb_model.proofs.DraftJoin.{join_put}
use Rattle.nb_model.proofs.FitLaws.{IsWhole, Fits, fits_first, fitting_stays, form_page}
use Rattle.nb_model.proofs.HeldAlong.{new_held_along, each_along, longer_along, both_along}
use Rattle.nb_model.proofs.HeldChains.{KeepsEach, KeepsBut, IsHeldIn, IsFormed, all_formed, chains_held, among_or_not, chain_each}
use Rattle.nb_model.proofs.HeldLaws.{IsHeld, IsMade, held_put, new_is_made}
use Rattle.nb_model.proofs.HeldRoom.{held_here}
use Rattle.nb_model.proofs.NeatGrows.{GrowsChain}
use Rattle.nb_model.proofs.NeatLaws.{once_chain, chain_apart, chains_are}
use Rattle.nb_model.proofs.NewSlots.{IsFree, free_fits, new_next, none_used}
use Rattle.nb_model.proofs.NewSound.{new_fits, stamped_kind}
use Rattle.nb_model.proofs.PutSound.{IsPlain, Raises, header_whole}
use Rattle.nb_model.proofs.RoomLaws.{chain_plain, pages_found, put_full, old_there, data_short}
use Rattle.nb_model.proofs.GrowthTurns.{last_held, spots_both, spots_one, spots_like, free_unused}
use Rattle.nb_model.proofs.RoundLaws.{AnyPage, any_kinds, IsNew, new_is_new, no_place, raises, put_here, put_longer}
use Rattle.nb_model.proofs.SlotLaws.{linked_slots, linked_owner, linked_next, new_owner}
use Rattle.nb_model.proofs.SlotPuts.{held_at, raised_keeps, each_list}
use Rattle.nb_model.proofs.SoundLaws.{all_at}

-- The history whose slots are all used grows by a page whose slots are all free.
module _ (b : Base) (header : HasHeader b.image) (is : IsSoundImage b.image) (neat : IsNeat b.image) (unbroken : broken_at (pages_of History b.image) ≡ None) (full : (grown History (found_pages History b.image) [] (drafted b.image)).0.full ≡ false) where
  abbrev x : Image
  x = b.image

  abbrev c : Chain
  c = History

  pub of_all : Contains (chains x) c
  of_all = subst (λ (cs : List Chain). Contains cs c) (sym (chains_are x)) (1, omega arith, refl)

  own_pages : AreDistinct (found_pages c x)
  own_pages = chain_apart x (chains x) c of_all neat.apart

  abbrev pub ps : List ℕ
  ps = found_pages c x

  abbrev pub payload : ℕ → List ℕ
  payload p = data_payload 0 1 []

  abbrev pub made : Draft × ℕ
  made = new_page 5 payload (drafted x)

  abbrev pub m : Image
  m = made.0.image

  abbrev pub n : ℕ
  n = made.1

  abbrev pub last : ℕ
  last = last_of ps

  abbrev pub link : List ℕ
  link = drop 16 (with_part 16 (bytes_of 4 n) (page_at m last))

  abbrev pub y : Image
  y = (put last data_kind link (drafted m)).image

  pub whole : IsWhole x
  whole = header_whole x header is

  pub room : (p : ℕ) → length (payload p) ≤ 1008
  room p = data_short p

  pub left : made.0.full ≡ false
  unfolding grown
  left = put_full last data_kind link made.0 full

  pub is_new : IsNew x 5 made
  is_new = new_is_new (length x + 4) 5 payload x whole refl room left

  pub is_made : IsMade x 5 payload made
  is_made = new_is_made (length x + 4) 5 payload x whole refl room left

  pub made_fits : Fits AnyPage b made.0
  made_fits = new_fits AnyPage any_kinds b (length x + 4) 5 payload (drafted x) refl room (λ z p w five most. tt) (fits_first AnyPage b whole)

  pub m_whole : IsWhole m
  m_whole = made_fits.whole

  pub m_longer : length x ≤ length m
  m_longer = omega (arith, (fitting_stays AnyPage made.0.strokes b made_fits.each whole).longer, ap length made_fits.is.is)

  its_held : AllByRecursion (IsHeldIn c x) ps
  its_held = held_at (λ d. AllByRecursion (IsHeldIn d x) (found_pages d x)) (chains x) c of_all (chains_held x header is neat)

  pub last_in : Contains ps last
  last_in = last_held ps (pages_found c x unbroken).some

  last_there : IsHeldIn c x last
  last_there = held_at (IsHeldIn c x) ps last last_in its_held

  last_m : page_at m last ≡ page_at x last
  last_m = (is_made.keeps last (page_at x last) last_there.held).is

  last_held_m : IsHeld last (page_at m last) m
  last_held_m = subst (λ (page : Page). IsHeld last page m) (sym last_m) (is_made.keeps last (page_at x last) last_there.held)

  pub last_plain : IsPlain m last
  last_plain =
      let plain : IsPlain x last = chain_plain c x last header is last_there.in_it in
      record {
        place = record { behind = plain.place.behind; there = let low = last_held_m.below in omega (arith, low); most = plain.place.most };
        no_inventory = ap (λ (s : ℕ). is_inventory_place s last) is_new.size ∙ plain.no_inventory;
        no_scn_page = ap (λ (s : ℕ). is_scn_place s last) is_new.size ∙ plain.no_scn_page;
      }

  -- the new page
  new_held : IsHeld n (page_at m n) m
  new_held = record { is = refl; behind = is_new.behind; below = is_new.below; plain = ap (λ (s : ℕ). is_system_place s n) is_new.size ∙ is_new.plain; taken = is_made.taken }

  new_apart : n ≢ last
  new_apart e = is_made.other last (page_at x last) last_there.held (sym e)

  n_small : n < most_pages
  n_small = let low = is_new.below in let most = m_whole.sound.most in omega (arith, low, most)

  pub free : AllByRecursion IsFree (slots_in (page_at m n))
  free = subst (λ (page : Page). AllByRecursion IsFree (slots_in page)) (sym is_made.of.1) (none_used (old_page n is_made.of.0) 1 (image_scn is_made.of.0) n)

  new_form : HasForm c (page_at m n)
  new_form = record {
    of_kind = is_new.of_kind;
    owner = ap owner_in is_made.of.1 ∙ new_owner (old_page n is_made.of.0) 0 1 [] (image_scn is_made.of.0) n (omega arith);
    slots = each_list (is_slot c) (slots_in (page_at m n)) (all_go IsFree (λ s. is_slot c s ≡ true) (slots_in (page_at m n)) (λ s is_free. free_fits c s is_free) free);
  }

  new_leads : next_in (page_at m n) ≡ 0
  new_leads = ap next_in is_made.of.1 ∙ new_next (old_page n is_made.of.0) 1 [] (image_scn is_made.of.0) n

  -- the last page leads to it
  size_m : SizeFacts (image_size m)
  size_m = size_facts (image_size m) m_whole.fields.size

  last_long : 1024 ≤ length (page_at m last)
  last_long = omega (arith, size_m.at_least, all_at (λ page. length page ≡ image_size m) m m_whole.sound.sizes last last_held_m.below)

  linked_page : page_at y last ≡ stamped (page_at m last) data_kind link (image_scn m) last
  linked_page = put_here m m_whole last last_plain.place 5 link ∙ ap (λ (old : Page). stamped old data_kind link (image_scn m) last) (old_there m last last_held_m.below)

  link_slots : slots_in (page_at y last) ≡ slots_in (page_at x last)
  link_slots = ap slots_in linked_page ∙ linked_slots (page_at m last) n (image_scn m) last last_long ∙ ap slots_in last_m

  link_next : next_in (page_at y last) ≡ n
  link_next = ap next_in linked_page ∙ linked_next (page_at m last) n (image_scn m) last last_long (omega (arith, n_small))

  link_form : HasForm c (page_at y last)
  link_form =
      let old : HasForm c (page_at x last) = form_there c x last last_there.in_it in
      record {
        of_kind = ap kind_of linked_page ∙ stamped_kind (page_at m last) 5 link (image_scn m) last;
        owner = ap owner_in linked_page ∙ linked_owner (page_at m last) n (image_scn m) last last_long ∙ ap owner_in last_m ∙ old.owner;
        slots = ap (list_all (is_slot c)) link_slots ∙ old.slots;
      }

  pub keeps_m : KeepsBut last m y
  keeps_m q page other held = held_put q page m m_whole last 5 link last_plain.place other (λ e. absurd ((no_place m m_whole last last_held_m.plain).0 (q / bits_in (image_size m)) (sym e))) held

  pub keeps_x : KeepsBut last x y
  keeps_x q page other held = keeps_m q page other (is_made.keeps q page held)

  y_longer : length m ≤ length y
  y_longer = put_longer m m_whole last last_plain.place 5 link

  pub longer : length x ≤ length y
  longer = omega (arith, m_longer, y_longer)

  last_held_y : IsHeld last (form_page last data_kind link m) y
  last_held_y = held_here m m_whole last (page_at m last) 5 link last_plain last_held_m

  pub new_held_y : IsHeld n (page_at m n) y
  new_held_y = keeps_m n (page_at m n) new_apart new_held

  -- The chain has that page more.
  leads_on : (q : ℕ) → IsHeldIn c x q → q ≢ last → StaysLinked c x y q
  leads_on q at other = linked_same c x y q longer at.in_it (keeps_x q (page_at x q) other at.held).is

  walked : pages_of c x ≡ Ok ps
  walked = let formed = held_at (λ d. (qs : List ℕ) × (pages_of d x ≡ Ok qs)) (chains x) c of_all neat.formed in formed.1 ∙ ap Ok (sym (found_is c x formed.0 formed.1))

  enough : length ps + 1 ≤ length y
  enough =
      let least = is.least in
      let few = fewer_below (length x) ps (omega (arith, least)) own_pages (all_go (IsHeldIn c x) (λ (q : ℕ). (1 ≤ q) × (q < length x)) ps (λ q at. (at.held.behind, at.held.below)) its_held) in
      omega (arith, few, longer)

  grown_pages : pages_of c y ≡ Ok (ps ++ n ∷ [])
  unfolding pages_of
  grown_pages =
      walk_grows c x y last n (there_by c y last last_held_y.below link_form) link_next is_new.behind
      (there_by c y n new_held_y.below (subst (HasForm c) (sym new_held_y.is) new_form)) (ap next_in new_held_y.is ∙ new_leads)
      ps (first_of c) (length x) (length y) walked own_pages refl (all_go (IsHeldIn c x) (λ q. q ≢ last → StaysLinked c x y q) ps leads_on its_held) enough

  same_slots : (q : ℕ) → IsHeldIn c x q → slots_in (page_at y q) ≡ slots_in (page_at x q)
  same_slots q at = elim (eqb_tells q last) [
    | inl w ↦ ap (λ (k : ℕ). slots_in (page_at y k)) w.1 ∙ link_slots ∙ ap (λ (k : ℕ). slots_in (page_at x k)) (sym w.1)
    | inr w ↦ ap slots_in (keeps_x q (page_at x q) w.1 at.held).is
  ]

  abbrev pub more : List Spot
  more = spots_on n 0 (slots_in (page_at m n))

  pub more_unused : AllByRecursion (λ (u : Spot). is_used u.bytes ≡ false) more
  more_unused = free_unused n 0 (slots_in (page_at m n)) free

  pub grown_spots : spots c y ≡ spots c x ++ more
  grown_spots =
      spots_are c y (ps ++ n ∷ []) grown_pages ∙ spots_both y ps (n ∷ [])
      ∙ ap (λ (us : List Spot). us ++ spots_of y (n ∷ [])) (spots_like x y ps (all_go (IsHeldIn c x) (λ q. slots_in (page_at y q) ≡ slots_in (page_at x q)) ps same_slots its_held) ∙ sym (spots_are c x ps walked))
      ∙ ap (λ (us : List Spot). spots c x ++ us) (spots_one y n ∙ ap (λ (page : Page). spots_on n 0 (slots_in page)) new_held_y.is)

  pub grows : GrowsChain c n x y
  grows = record {
    pages = grown_pages;
    same = all_go HasOnce (λ d. (d ≡ c) ⊎ ((pages_of d y ≡ pages_of d x) × (spots d y ≡ spots d x))) (chains x) one all_once;
    taken = chain_each x (λ q. is_free_page y q ≡ false) (chains x)
        (all_go (λ d. AllByRecursion (IsHeldIn d x) (found_pages d x)) (λ d. AllByRecursion (λ q. is_free_page y q ≡ false) (found_pages d x)) (chains x)
        (λ d held. all_go (IsHeldIn d x) (λ q. is_free_page y q ≡ false) (found_pages d x) (λ q at. one_taken q at.held) held) (chains_held x header is neat));
    new_taken = new_held_y.taken;
    apart = chain_each x (λ q. n ≢ q) (chains x)
        (all_go (λ d. AllByRecursion (IsHeldIn d x) (found_pages d x)) (λ d. AllByRecursion (λ q. n ≢ q) (found_pages d x)) (chains x)
        (λ d held. all_go (IsHeldIn d x) (λ q. n ≢ q) (found_pages d x) (λ q at e. is_made.other q (page_at x q) at.held (sym e)) held) (chains_held x header is neat));
  }
    where
      HasOnce : Chain → Type 0
      HasOnce d = IsFormed x header is neat d × (Contains (found_pages d x) last → d ≡ c)

      all_once : AllByRecursion HasOnce (chains x)
      all_once = all_both (IsFormed x header is neat) (λ d. Contains (found_pages d x) last → d ≡ c) (chains x) (all_formed x header is neat) (once_chain x (chains x) c last neat.apart of_all last_in)

      one_taken : (q : ℕ) → IsHeld q (page_at x q) x → is_free_page y q ≡ false
      one_taken q held = elim (eqb_tells q last) [
        | inl w ↦ ap (is_free_page y) w.1 ∙ last_held_y.taken
        | inr w ↦ (keeps_x q (page_at x q) w.1 held).taken
      ]

      same_pages : (d : Chain) (qs : List ℕ) → AllByRecursion (λ (q : ℕ). q ≢ last) qs → AllByRecursion (IsHeldIn d x) qs → AllByRecursion (λ (q : ℕ). page_at y q ≡ page_at x q) qs
      same_pages d [] off all = tt
      same_pages d (q ∷ qs) off all = ((keeps_x q (page_at x q) off.0 all.0.held).is, same_pages d qs off.1 all.1)

      links : (d : Chain) (qs : List ℕ) → AllByRecursion (λ (q : ℕ). q ≢ last) qs → AllByRecursion (IsHeldIn d x) qs → AllByRecursion (StaysLinked d x y) qs
      links d [] off all = tt
      links d (q ∷ qs) off all = (linked_same d x y q longer all.0.in_it (keeps_x q (page_at x q) off.0 all.0.held).is, links d qs off.1 all.1)

      one : (d : Chain) → HasOnce d → (d ≡ c) ⊎ ((pages_of d y ≡ pages_of d x) × (spots d y ≡ spots d x))
      one d facts = ⊎_elim (λ here. inl (facts.1 here)) (λ off.
          let found : found_pages d x ≡ facts.0.pages = found_is d x facts.0.pages facts.0.are in
          let then : pages_of d y ≡ Ok facts.0.pages = pages_stay d x y facts.0.pages facts.0.are longer (subst (AllByRecursion (StaysLinked d x y)) found (links d (found_pages d x) off facts.0.each)) in
          inr (then ∙ sym facts.0.are, spots_are d y facts.0.pages then ∙ spots_same x y facts.0.pages (subst (AllByRecursion (λ (q : ℕ). page_at y q ≡ page_at x q)) found (same_pages d (found_pages d x) off facts.0.each)) ∙ sym (spots_are d x facts.0.pages facts.0.are))) (among_or_not last (found_pages d x))

-- What is given along the strokes: nothing changes before the last page leads to the new one.
module _ (b : Base) (header : HasHeader b.image) (is : IsSoundImage b.image) (neat : IsNeat b.image) (unbroken : broken_at (pages_of History b.image) ≡ None) (full : (grown History (found_pages History b.image) [] (drafted b.image)).0.full ≡ false)
    (Gives : Image → Type 0) (not_yet : (z : Image) → KeepsEach b.image z → length b.image ≤ length z → Gives z) (then : Gives (y b header is neat unbroken full)) where
  abbrev made_then : Draft × ℕ
  made_then = made b header is neat unbroken full

  abbrev end_page : ℕ
  end_page = last b header is neat unbroken full

  abbrev link_then : List ℕ
  link_then = link b header is neat unbroken full

  fitting : Fits AnyPage b made_then.0
  fitting = made_fits b header is neat unbroken full

  keeping : IsMade b.image 5 (λ p. data_payload 0 1 []) made_then
  keeping = is_made b header is neat unbroken full

  whole_then : IsWhole made_then.0.image
  whole_then = m_whole b header is neat unbroken full

  plain_then : IsPlain made_then.0.image end_page
  plain_then = last_plain b header is neat unbroken full

  no_shorter : length b.image ≤ length made_then.0.image
  no_shorter = m_longer b header is neat unbroken full

  made_along : Along Gives b made_then.0.strokes
  made_along = along_more (λ z. KeepsEach b.image z × (length b.image ≤ length z)) Gives b made_then.0.strokes (λ z facts. not_yet z facts.0 facts.1)
      (both_along (KeepsEach b.image) (λ z. length b.image ≤ length z) b made_then.0.strokes
      (each_along b.image b made_then.0.strokes (λ q page held. new_held_along q page (length b.image + 4) 5 (λ p. data_payload 0 1 []) b b.image refl (whole b header is neat unbroken full) refl
      (room b header is neat unbroken full) (left b header is neat unbroken full) held))
      (longer_along AnyPage (length b.image) b made_then.0.strokes fitting.each (whole b header is neat unbroken full) (omega arith)))

  link_along : Along Gives (base_after b made_then.0.strokes) (put end_page data_kind link_then (drafted made_then.0.image)).strokes
  link_along =
      let r : Raises made_then.0.image (raised end_page (drafted made_then.0.image)).image end_page = raises made_then.0.image whole_then end_page plain_then.place in
      put_along Gives (base_after b made_then.0.strokes) made_then.0.image end_page 5 link_then fitting.is.is (not_yet made_then.0.image keeping.keeps no_shorter)
      (not_yet (raised end_page (drafted made_then.0.image)).image (λ q page held. raised_keeps made_then.0.image whole_then end_page plain_then.place q page (keeping.keeps q page held)) (omega (arith, r.long, no_shorter))) then

  pub grown_along : Along Gives b (grown History (found_pages History b.image) [] (drafted b.image)).0.strokes
  unfolding grown
  grown_along = subst (λ (d : Draft). Along Gives b d.strokes) (sym (join_put end_page 5 link_then made_then.0)) (along_append Gives b made_then.0.strokes (put end_page data_kind link_then (drafted made_then.0.image)).strokes made_along link_along)

  pub grown_end : (grown History (found_pages History b.image) [] (drafted b.image)).0.image ≡ y b header is neat unbroken full
  unfolding grown
  grown_end = ap (λ (d : Draft). d.image) (join_put end_page 5 link_then made_then.0)
