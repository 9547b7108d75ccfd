-- The slot of a new table is placed in the catalogue, in an image in which the table's page stands.
use Rattle.std.proofs.Common.{◌≡◌, ◌≢◌, ◌⊎◌, inl, inr, ⊎_elim, ℕ, zero, suc, ◌+◌, ◌*◌, ◌≤◌, ◌<◌, List, [], ◌∷◌, ◌++◌, length, drop, refl, sym, ap, subst, ◌∙◌, arith, Bool, true, false, Option, Some, None, is_some, Ok, Contains}
use Rattle.nb_model.proofs.Common.{AllByRecursion, told_text, true≢false, and_from, and_left, and_right, eq-eqb, append-nil, bytes_of, with_part, data_payload, data_kind, same_name, Base, broken_at, Chain, Catalogue, History, RowsFrom, Slot, Spot, owner_of, next_in, is_slot, is_used, table_of, first_in, slots_in, first_such, free_spot, walk, pages_of, found_pages, spots_of, spots, table_spot, table_slot, put_slot, last_of, grown, place_at, place_slot, Draft, drafted, wants, put, raised, new_page, Page, Image, page_at, GivesRows, used, table_chains, chains, pages_of_all, IsNeat, HasHeader, IsSoundImage, is_table_name, some_same, all_go, all_both}
use Rattle.nb_model.proofs.Along.{Along, put_along}
use Rattle.nb_model.proofs.ChainWalks.{HasForm, there_by, walk_on_is, onward, found_is, spots_are}
use Rattle.nb_model.proofs.DraftJoin.{Joins, joined, joined_grouped, join_put, join_wants, join_new}
use Rattle.nb_model.proofs.GrowthTurns.{free_unused, spots_one, begins, behind, grown_spots, grows, new_spot, y as grown_image, made as made_in, last as last_in_chain, last_in, is_made as is_made_in, keeps_x, grown_along, grown_end}
use Rattle.nb_model.proofs.HeldChains.{KeepsEach, nothing_changes, ok_none}
use Rattle.nb_model.proofs.HeldLaws.{IsHeld}
use Rattle.nb_model.proofs.Inserted.{Inserted, inserted_last, inserted_used, used_more, Among, used_nothing}
use Rattle.nb_model.proofs.NeatDrops.{has_name}
use Rattle.nb_model.proofs.NeatGrows.{GrowsChain}
use Rattle.nb_model.proofs.NeatLaws.{pages_among, chain_apart, chains_are, same_pages, stays_neat, other_rows, rows_of_none, used_yes, used_not, ChangesChain, no_catalogue_history}
use Rattle.nb_model.proofs.NeatMakes.{no_page, a_page, MakesTable, table_made}
use Rattle.nb_model.proofs.NewSlots.{IsFree}
use Rattle.nb_model.proofs.FoundSpots.{each_held, found_there}
use Rattle.nb_model.proofs.SlotPuts.{slot_between, keeps as slot_keeps, IsSlotPut, slot_put}
use Rattle.nb_model.proofs.SpotKeys.{ChangesOnce, Absent}
use Rattle.nb_model.proofs.SpotLaws.{IsSpotOn}
use Rattle.nb_model.proofs.SpotMaps.{ChangesOne, is_free_slot, free_unused as not_used, none_such, no_such, such_passes, first_true, first_false, others_found, now_found}
use Rattle.nb_model.proofs.SpotMore.{first_in_front, first_behind}
use Rattle.nb_model.proofs.SpotWrites.{put_at, put_it, all_change, changes_once}
use Rattle.nb_model.proofs.TableCases.{chain_at}
use Rattle.nb_model.proofs.TableSlots.{table_used, table_first, table_name, table_is_slot}
use Rattle.nb_model.proofs.TableTurns.{table_length, name_short}

free_of_catalogue : (image : Image) → free_spot (spots Catalogue image) ≡ free_spot (spots_of image (found_pages Catalogue image))
unfolding spots
free_of_catalogue image = refl

-- what is put into place after other strokes makes the same strokes
join_grown : (chain : Chain) (ps : List ℕ) (bytes : Slot) (d : Draft) → (grown chain ps bytes d).0 ≡ joined d (grown chain ps bytes (drafted d.image)).0
unfolding grown
join_grown chain ps bytes d =
    let made : Draft × ℕ = new_page 5 (λ p. data_payload 0 (owner_of chain) bytes) (drafted d.image) in
    let link : List ℕ = drop 16 (with_part 16 (bytes_of 4 made.1) (page_at made.0.image (last_of ps))) in
    ap (λ (n : Draft × ℕ). wants n.0.image 5 (last_of ps) (put (last_of ps) data_kind (drop 16 (with_part 16 (bytes_of 4 n.1) (page_at n.0.image (last_of ps)))) n.0)) (join_new (length d.image + 4) 5 (λ p. data_payload 0 (owner_of chain) bytes) d)
    ∙ ap (wants made.0.image 5 (last_of ps)) (join_put (last_of ps) 5 link (joined d made.0) ∙ joined_grouped d made.0 (put (last_of ps) data_kind link (drafted made.0.image)) ∙ ap (joined d) (sym (join_put (last_of ps) 5 link made.0)))
    ∙ join_wants made.0.image 5 (last_of ps) d (put (last_of ps) data_kind link made.0)

pub join_at : (chain : Chain) (room : Option Spot) (ps : List ℕ) (bytes : Slot) → Joins (place_at chain room ps bytes)
unfolding put_slot grown
join_at chain (Some s) ps bytes d =
    let slots : List ℕ = drop 16 (with_part (32 + 256 * s.slot) bytes (page_at d.image s.page)) in
    ap (wants d.image 5 s.page) (join_put s.page 5 slots d) ∙ join_wants d.image 5 s.page d (put s.page data_kind slots (drafted d.image))
join_at chain None ps bytes d = join_grown chain ps bytes d

-- a spot that is found is among them
such_among : (s : Spot) (free : is_used s.bytes ≡ false) (f : Spot → Spot) (filled : is_used (f s).bytes ≡ true) (test : Spot → Bool) (xs : List Spot) → first_such test xs ≡ Some s → Among f s free filled xs
unfolding first_such
such_among s free f filled test [] found = cc
such_among s free f filled test (x ∷ xs) found = by (test x) refl (λ h. such_among s free f filled test xs h)
  where
    by : (t : Bool) → test x ≡ t → (first_such test xs ≡ Some s → Among f s free filled xs) → (x ≡ s) ⊎ Among f s free filled xs
    by true is rest = inl (some_same x s (sym (first_true test x xs is) ∙ found))
    by false is rest = inr (rest (sym (first_false test x xs is) ∙ found))

used_from : (P : Spot → Type 0) (xs : List Spot) → AllByRecursion P xs → AllByRecursion (λ u. P u × (is_used u.bytes ≡ true)) (used xs)
used_from P [] all = subst (AllByRecursion (λ u. P u × (is_used u.bytes ≡ true))) (sym used_nothing) tt
used_from P (x ∷ xs) all = by (is_used x.bytes) refl (used_from P xs all.1)
  where
    by : (t : Bool) → is_used x.bytes ≡ t → AllByRecursion (λ u. P u × (is_used u.bytes ≡ true)) (used xs) → AllByRecursion (λ u. P u × (is_used u.bytes ≡ true)) (used (x ∷ xs))
    by true is rest = subst (AllByRecursion (λ u. P u × (is_used u.bytes ≡ true))) (sym (used_yes x xs is)) ((all.0, is), rest)
    by false is rest = subst (AllByRecursion (λ u. P u × (is_used u.bytes ≡ true))) (sym (used_not x xs is)) rest

pub none_is : {X : Type 0} (o : Option X) → is_some o ≡ false → o ≡ None
none_is None e = refl
none_is (Some s) e = absurd (true≢false e)

absent_at : (n : ℕ) (qs : List ℕ) (q : ℕ) → Absent n qs → Contains qs q → n ≢ q
absent_at n [] q absent at e = absurd (omega (arith, at.1))
absent_at n (z ∷ qs) q absent (zero, low, is) e = absent.0 (e ∙ sym is)
absent_at n (z ∷ qs) q absent (suc k, low, is) e = absent_at n qs q absent.1 (k, omega (arith, low), is) e

-- The slot of the new table is placed, in an image in which its page stands.
module _ (c : Base) (header : HasHeader c.image) (is : IsSoundImage c.image) (neat : IsNeat c.image) (n : ℕ) (page : Page) (held : IsHeld n page c.image) (form : HasForm (RowsFrom n) page) (ends : next_in page ≡ 0)
    (free : AllByRecursion IsFree (slots_in page)) (apart : Absent n (pages_of_all c.image (chains c.image))) (table : List ℕ) (named : is_table_name table ≡ true) (none : table_spot table c.image ≡ None) where
  abbrev z : Image
  z = c.image

  abbrev bytes : Slot
  bytes = table_slot table n

  abbrev ms : List Spot
  ms = spots Catalogue z

  abbrev ps : List ℕ
  ps = found_pages Catalogue z

  small : n < 4294967296
  small = let low = held.below in let most = is.most in omega (arith, low, most)

  short : length table ≤ 30
  short = name_short table named

  long : length bytes ≡ 256
  long = table_length table n (omega (arith, short))

  fits : is_slot Catalogue bytes ≡ true
  fits = table_is_slot table n short named

  of_all : Contains (chains z) Catalogue
  of_all = subst (λ (cs : List Chain). Contains cs Catalogue) (sym (chains_are z)) (0, omega arith, refl)

  walked : (qs : List ℕ) × (pages_of Catalogue z ≡ Ok qs)
  walked = (subst (AllByRecursion (λ d. (qs : List ℕ) × (pages_of d z ≡ Ok qs))) (chains_are z) neat.formed).0

  pages_are : pages_of Catalogue z ≡ Ok ps
  pages_are = walked.1 ∙ ap Ok (sym (found_is Catalogue z walked.0 walked.1))

  unbroken : broken_at (pages_of Catalogue z) ≡ None
  unbroken = ok_none (pages_of Catalogue z) ps pages_are

  not_of_catalogue : (q : ℕ) → Contains ps q → n ≢ q
  not_of_catalogue q at = absent_at n (pages_of_all z (chains z)) q apart (pages_among z (chains z) Catalogue q of_all at)

  abbrev Gives : Image → Type 0
  Gives w = GivesRows z w table []

  still : (w : Image) → KeepsEach z w → length z ≤ length w → Gives w
  still w keeps less =
      let changes : ChangesChain History z w = nothing_changes z header is neat w less keeps in
      record {
        neat = stays_neat z w neat History no_catalogue_history changes (λ first e. cc);
        its = other_rows z w neat History no_catalogue_history changes table (λ u found e. cc) ∙ rows_of_none z table none;
        others = λ other ne. other_rows z w neat History no_catalogue_history changes other (λ u found e. cc);
      }

  -- its chain, wherever its page is held
  new_chain : (y : Image) → IsHeld n page y → pages_of (RowsFrom n) y ≡ Ok (n ∷ [])
  unfolding pages_of
  new_chain y at = by (length y) (let low = at.below in omega (arith, low))
    where
      by : (k : ℕ) → 1 ≤ k → walk k (RowsFrom n) y n ≡ Ok (n ∷ [])
      by zero less = absurd (omega (arith, less))
      by (suc k) less =
          walk_on_is k (RowsFrom n) y n (there_by (RowsFrom n) y n at.below (subst (HasForm (RowsFrom n)) (sym at.is) form)) ∙ ap (onward (RowsFrom n) y k n) (eq-eqb (next_in (page_at y n)) 0 (ap next_in at.is ∙ ends))

  new_free : (y : Image) → IsHeld n page y → AllByRecursion (λ (u : Spot). is_used u.bytes ≡ false) (spots (RowsFrom n) y)
  new_free y at = subst (AllByRecursion (λ (u : Spot). is_used u.bytes ≡ false)) (sym (spots_are (RowsFrom n) y (n ∷ []) (new_chain y at) ∙ spots_one y n)) (free_unused n 0 (slots_in (page_at y n)) (subst (λ (b : Page). AllByRecursion IsFree (slots_in b)) (sym at.is) free))

  no_name : AllByRecursion (λ u. has_name table u ≡ false) ms
  unfolding table_spot
  no_name = none_such (has_name table) ms none

  other_names : (v : Spot) → table_of v.bytes ≡ table → AllByRecursion (λ (u : Spot). table_of v.bytes ≢ table_of u.bytes) (used ms)
  other_names v its = all_go (λ u. (has_name table u ≡ false) × (is_used u.bytes ≡ true)) (λ u. table_of v.bytes ≢ table_of u.bytes) (used ms)
      (λ u facts e. true≢false (sym (and_from (is_used u.bytes) _ facts.1 (same u (sym its ∙ e))) ∙ facts.0)) (used_from (λ u. has_name table u ≡ false) ms no_name)
    where
      same : (u : Spot) → table ≡ table_of u.bytes → same_name (table_of u.bytes) table ≡ true
      same u e = by (same_name (table_of u.bytes) table) refl
        where
          by : (t : Bool) → t ≡ same_name (table_of u.bytes) table → same_name (table_of u.bytes) table ≡ true
          by true h = sym h
          by false h = absurd (told_text (table_of u.bytes) table false h (sym e))

  has_it : (v : Spot) → v.bytes ≡ bytes → has_name table v ≡ true
  has_it v its =
      let name : table_of v.bytes ≡ table = ap table_of its ∙ table_name table n short in
      and_from (is_used v.bytes) _ (ap is_used its ∙ table_used table n) (by name (same_name (table_of v.bytes) table) refl)
    where
      by : table_of v.bytes ≡ table → (t : Bool) → t ≡ same_name (table_of v.bytes) table → same_name (table_of v.bytes) table ≡ true
      by name true h = sym h
      by name false h = absurd (told_text (table_of v.bytes) table false h name)

  has_no_other : (v : Spot) → v.bytes ≡ bytes → (other : List ℕ) → other ≢ table → has_name other v ≡ false
  has_no_other v its other ne = and_right (is_used v.bytes) _ (by (same_name (table_of v.bytes) other) refl)
    where
      by : (t : Bool) → t ≡ same_name (table_of v.bytes) other → same_name (table_of v.bytes) other ≡ false
      by false h = sym h
      by true h = absurd (ne (sym (told_text (table_of v.bytes) other true h) ∙ ap table_of its ∙ table_name table n short))

  chain_is : (v : Spot) → v.bytes ≡ bytes → chain_at v ≡ RowsFrom n
  chain_is v its = ap RowsFrom (ap first_in its ∙ table_first table n small)

  -- What is given along the strokes and after them, and the table is in the catalogue then.
  pub record Made (d : Draft) : Type 0 where
    pub along : Along Gives c d.strokes
    pub behind : Gives d.image
    pub there : is_some (table_spot table d.image) ≡ true

  -- It goes into a free slot.
  module _ (s : Spot) (found : free_spot ms ≡ Some s) where
    on : IsSpotOn (Contains ps) z s
    unfolding free_spot
    on = found_there Catalogue z is_free_slot s found

    abbrev f : Spot → Spot
    f = put_at s.page s.slot bytes

    abbrev y : Image
    y = (put_slot s.page s.slot bytes (drafted z)).image

    its_put : IsSlotPut Catalogue s bytes z y
    its_put = slot_put z header is neat Catalogue of_all s on bytes long fits

    its_bytes : (f s).bytes ≡ bytes
    its_bytes = ap (λ (v : Spot). v.bytes) (put_it s.page s.slot bytes s refl refl)

    filled : is_used (f s).bytes ≡ true
    filled = ap is_used its_bytes ∙ table_used table n

    unused : is_used s.bytes ≡ false
    unfolding free_spot
    unused = not_used s (such_passes is_free_slot ms s found)

    all : AllByRecursion (ChangesOne f s) ms
    unfolding spots
    all = all_change s.page s.slot bytes (Contains ps) z s on refl refl ps (each_held ps)

    once : ChangesOnce f s ms
    unfolding spots
    once = changes_once s.page s.slot bytes s z ps (chain_apart z (chains z) Catalogue of_all neat.apart) all

    held_then : IsHeld n page y
    held_then = slot_keeps z header is neat Catalogue of_all s on bytes long fits n page (not_of_catalogue s.page on.page) held

    finds : table_spot table y ≡ Some (f s)
    unfolding table_spot free_spot
    finds = ap (first_such (has_name table)) its_put.spots_then ∙ now_found f s (has_name table) is_free_slot ms found
        (all_go {X = Spot} (λ u. ChangesOne f s u × (has_name table u ≡ false)) (λ u. is_free_slot u ≡ false → has_name table (f u) ≡ false) ms (λ u facts. one u facts.0 facts.1) (all_both {X = Spot} (ChangesOne f s) (λ u. has_name table u ≡ false) ms all no_name))
        (has_it (f s) its_bytes)
      where
        one : (u : Spot) → ChangesOne f s u → has_name table u ≡ false → is_free_slot u ≡ false → has_name table (f u) ≡ false
        one u (inl same) without full = ap (has_name table) same ∙ without
        one u (inr it) without full = absurd (true≢false (sym (such_passes is_free_slot ms s found) ∙ ap is_free_slot (sym it) ∙ full))

    finds_other : (other : List ℕ) → other ≢ table → table_spot other y ≡ table_spot other z
    unfolding table_spot
    finds_other other ne = ap (first_such (has_name other)) its_put.spots_then ∙ others_found f s (has_name other) ms all (and_left (is_used s.bytes) _ unused) (has_no_other (f s) its_bytes other ne)

    makes : MakesTable z y (f s) n []
    unfolding free_spot
    makes = record {
      catalogue = pages_then.0 ∙ pages_are ∙ ap Ok (sym (append-nil ps));
      tables = subst (λ (vs : List Spot). Inserted (f s) (used ms) (used vs)) (sym its_put.spots_then) (inserted_used f s unused filled ms once (such_among s unused f filled is_free_slot ms found));
      same = all_go (λ d. (pages_of d y ≡ pages_of d z) × ((d ≡ Catalogue) ⊎ (spots d y ≡ spots d z))) (λ d. (d ≡ Catalogue) ⊎ ((pages_of d y ≡ pages_of d z) × (spots d y ≡ spots d z))) (chains z)
          (λ d facts. ⊎_elim (λ e. inl e) (λ spots_are. inr (facts.0, spots_are)) facts.1)
          (all_both (λ d. pages_of d y ≡ pages_of d z) (λ d. (d ≡ Catalogue) ⊎ (spots d y ≡ spots d z)) (chains z) (same_pages z y neat Catalogue its_put.changes) its_put.changes.others);
      taken = its_put.changes.taken;
      more = no_page;
      more_taken = tt;
      new_taken = held_then.taken;
      made = ap (λ (d : Chain). pages_of d y) (chain_is (f s) its_bytes) ∙ new_chain y held_then;
      free = subst (λ (d : Chain). AllByRecursion (λ (u : Spot). is_used u.bytes ≡ false) (spots d y)) (sym (chain_is (f s) its_bytes)) (new_free y held_then);
      apart = apart;
      named = other_names (f s) (ap table_of its_bytes ∙ table_name table n short);
    }
      where
        pages_then : AllByRecursion (λ d. pages_of d y ≡ pages_of d z) (Catalogue ∷ History ∷ table_chains (used ms))
        pages_then = subst (AllByRecursion (λ d. pages_of d y ≡ pages_of d z)) (chains_are z) (same_pages z y neat Catalogue its_put.changes)

    pub slot_made : Made (put_slot s.page s.slot bytes (drafted z))
    unfolding put_slot
    slot_made =
        let last : Gives y = table_made z y neat (f s) n [] makes table finds finds_other in
        record {
          along = put_along Gives c z s.page 5 (drop 16 (with_part (32 + 256 * s.slot) bytes (page_at z s.page))) refl (still z (λ q b at. at) (omega arith)) (still_changes (raised s.page (drafted z)).image (slot_between z header is neat Catalogue of_all s on)) last;
          behind = last;
          there = ap is_some finds;
        }
      where
        still_changes : (w : Image) → ChangesChain History z w → Gives w
        still_changes w changes = record {
          neat = stays_neat z w neat History no_catalogue_history changes (λ first e. cc);
          its = other_rows z w neat History no_catalogue_history changes table (λ u found e. cc) ∙ rows_of_none z table none;
          others = λ other ne. other_rows z w neat History no_catalogue_history changes other (λ u found e. cc);
        }

  -- Or the catalogue grows by a page.
  module _ (full : (grown Catalogue ps bytes (drafted z)).0.full ≡ false) where
    zero_small : 0 < 4294967296
    zero_small = omega arith

    abbrev w : Image
    w = grown_image c header is neat Catalogue of_all unbroken zero_small bytes long fits full

    abbrev v : Spot
    v = new_spot c header is neat Catalogue of_all unbroken zero_small bytes long fits full

    abbrev e : ℕ
    e = (made_in c header is neat Catalogue of_all unbroken zero_small bytes long fits full).1

    g : GrowsChain Catalogue e z w
    g = grows c header is neat Catalogue of_all unbroken zero_small bytes long fits full

    spots_then : (rest : List Spot) × ((spots Catalogue w ≡ ms ++ v ∷ rest) × AllByRecursion (λ (u : Spot). is_used u.bytes ≡ false) rest)
    spots_then =
        let b0 = begins c header is neat Catalogue of_all unbroken zero_small bytes long fits full in
        (behind c header is neat Catalogue of_all unbroken zero_small bytes long fits full, (grown_spots c header is neat Catalogue of_all unbroken zero_small bytes long fits full, free_unused e 1 b0.rest b0.free))

    held_there : IsHeld n page w
    held_there = keeps_x c header is neat Catalogue of_all unbroken zero_small bytes long fits full n page (not_of_catalogue (last_in_chain c header is neat Catalogue of_all unbroken zero_small bytes long fits full) (last_in c header is neat Catalogue of_all unbroken zero_small bytes long fits full)) held

    finds_it : table_spot table w ≡ Some v
    unfolding table_spot
    finds_it = ap (first_such (has_name table)) spots_then.1.0 ∙ first_behind (has_name table) ms (v ∷ spots_then.0) no_name ∙ first_true (has_name table) v spots_then.0 (has_it v refl)

    finds_others : (other : List ℕ) → other ≢ table → table_spot other w ≡ table_spot other z
    unfolding table_spot
    finds_others other ne = ap (first_such (has_name other)) spots_then.1.0
        ∙ first_in_front (has_name other) ms (v ∷ spots_then.0) (first_false (has_name other) v spots_then.0 (has_no_other v refl other ne) ∙ no_such (has_name other) spots_then.0 (all_go (λ (u : Spot). is_used u.bytes ≡ false) (λ u. has_name other u ≡ false) spots_then.0 (λ u none. and_left (is_used u.bytes) _ none) spots_then.1.1))

    makes_more : MakesTable z w v n (e ∷ [])
    makes_more = record {
      catalogue = g.pages;
      tables = subst (Inserted v (used ms)) (sym (ap used spots_then.1.0 ∙ used_more ms spots_then.0 v (table_used table n) spots_then.1.1)) (inserted_last v (used ms));
      same = g.same;
      taken = g.taken;
      more = a_page e g.apart (λ same. (is_made_in c header is neat Catalogue of_all unbroken zero_small bytes long fits full).other n page held (sym same));
      more_taken = (g.new_taken, tt);
      new_taken = held_there.taken;
      made = ap (λ (d : Chain). pages_of d w) (chain_is v refl) ∙ new_chain w held_there;
      free = subst (λ (d : Chain). AllByRecursion (λ (u : Spot). is_used u.bytes ≡ false) (spots d w)) (sym (chain_is v refl)) (new_free w held_there);
      apart = apart;
      named = other_names v (table_name table n short);
    }

    pub page_made : Made (grown Catalogue ps bytes (drafted z)).0
    page_made =
        let last : Gives w = table_made z w neat v n (e ∷ []) makes_more table finds_it finds_others in
        let end : (grown Catalogue ps bytes (drafted z)).0.image ≡ w = grown_end c header is neat Catalogue of_all unbroken zero_small bytes long fits full Gives still last in
        record {
          along = grown_along c header is neat Catalogue of_all unbroken zero_small bytes long fits full Gives still last;
          behind = subst Gives (sym end) last;
          there = ap (λ (i : Image). is_some (table_spot table i)) end ∙ ap is_some finds_it;
        }

  pub placed : (place_slot Catalogue ps bytes (drafted z)).full ≡ false → Made (place_slot Catalogue ps bytes (drafted z))
  unfolding place_slot
  placed left = by (free_spot (spots_of z ps)) refl left
    where
      by : (o : Option Spot) → free_spot (spots_of z ps) ≡ o → (elim o as (λ k. Draft) [ Some s ↦ wants z 5 s.page (put_slot s.page s.slot bytes (drafted z)) | None ↦ (grown Catalogue ps bytes (drafted z)).0 ]).full ≡ false
          → Made (elim o as (λ k. Draft) [ Some s ↦ wants z 5 s.page (put_slot s.page s.slot bytes (drafted z)) | None ↦ (grown Catalogue ps bytes (drafted z)).0 ])
      by (Some s) found left = let m = slot_made s (free_of_catalogue z ∙ found) in record { along = m.along; behind = m.behind; there = m.there }
      by None found left = page_made left
