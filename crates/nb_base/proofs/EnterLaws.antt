-- Drafted entries come into the table, once their slots are written: what a crash leaves meanwhile, and that the files hold what is seen then.
use Rattle.std.proofs.Common.{◌≡◌, inl, inr, ⊎_elim, ℕ, zero, suc, ◌<◌, ◌≤◌, List, [], ◌∷◌, ◌++◌, length, get_or, take, drop, refl, sym, ap, subst, ◌∙◌, arith, append_assoc, length-append, Bool, false, Option, Some, None, Ok, max}
use Rattle.nb_base.proofs.Common.{eqb_tells, leb_tells, append-nil, state_of, size_of, page_in, slot_place, stalled_state, File, Files, bytes_of, with_file, World, Leaves, IsDurable, IsStill, IsTimely, Passes, Changes, Only, Moved, left_before, with_file-same, with_file-other, begun, moved_on, left_with, still_more, durable_is, AreEntries, HasTable, slot_page, Waits, Stays, Fronts, FrontStep, HasAll, Image, page_at, first_page, image_size, image_state, Base, delta_name, entry_for, behind_entries, owned, owner, Trail, StandsIn, IsOnTheWay, IsEntering, way_left, enter_left, named, itself_firm, same_pages, owned_length, owned_at, Held, IsOpen, StandsAs, HasPageIn, IsSlotted, GoesIn, none_there, for_here, some_same, nil_from_length, get_or_past, owned-none}
use Rattle.nb_model.specs.Owner.{slot_page as owned_slot}
use Rattle.nb_base.proofs.MergingLaws.{entry_named}
use Rattle.nb_base.proofs.OwnedLaws.{Holds, holds, shows, base-length, base-page, base-state, base-size, owned-entry, entry-front, entry-behind, entry-later, later, slots_stay}
use Rattle.nb_base.proofs.StateLaws.{same_main}
use Rattle.nb_base.proofs.StepLaws.{delta_moved}
use Rattle.nb_base.proofs.WriteLaws.{main_apart, delta_apart}
use Rattle.nb_base.proofs.WrittenLaws.{HasMain}

-- The number after the greatest entry.
entry_more : (p q : ℕ) (qs : List ℕ) (k : ℕ) → entry_for p qs ≡ Some k → (j : ℕ) × (entry_for p (q ∷ qs) ≡ Some j)
entry_more p q qs k e = elim (eqb_tells p q) [
  | inl w ↦ (0, for_here p q qs w.1)
  | inr w ↦ (suc k, entry-later p q qs w.1 ∙ ap later e)
]

behind_most : (n : ℕ) (xs : List ℕ) → ((p k : ℕ) → entry_for p xs ≡ Some k → p < n) → behind_entries xs ≤ n
behind_most n [] all = omega arith
behind_most n (x ∷ xs) all =
    let first = all x 0 (for_here x x xs refl) in
    let rest = behind_most n xs (λ p k e. let more = entry_more p x xs k e in all p more.0 more.1) in
    omega (arith, first, rest)

behind_more : (xs ys : List ℕ) → behind_entries xs ≤ behind_entries (xs ++ ys)
behind_more [] ys = omega arith
behind_more (x ∷ xs) ys = let rest = behind_more xs ys in omega (arith, rest)

-- a slot that holds the same in another file
slot_same : (size : ℕ) (main : Image) (d c : List ℕ) (p k : ℕ) → page_in size c (slot_place size k) ≡ page_in size d (slot_place size k) → owned_slot size main c p k ≡ owned_slot size main d p k
unfolding owned_slot
slot_same size main d c zero k same = ap (λ (x : List ℕ). take 64 (page_at main 0) ++ drop 64 x) same
slot_same size main d c (suc p) k same = same

slot_later : (size : ℕ) (main : Image) (d : List ℕ) (p k : ℕ) → 1 ≤ p → owned_slot size main d p k ≡ page_in size d (slot_place size k)
unfolding owned_slot
slot_later size main d zero k some = absurd (omega (arith, some))
slot_later size main d (suc p) k some = refl

-- All pages that waited are in their slots.
module _ (w : World) (reads : (n : List ℕ) → Leaves w n (w.files n)) (held : Held) (f t : Trail) (waits : ℕ → Bool) (goes : GoesIn w held f t waits) (none : (p : ℕ) → waits p ≡ false) where
  abbrev name : List ℕ
  name = held.name

  abbrev d : File
  d = w.files (delta_name name)

  abbrev r : Base
  r = goes.reads.base

  abbrev table : List ℕ
  table = f.base.diverted

  abbrev drafts : List ℕ
  drafts = goes.behind.diverted.0

  abbrev is : IsSlotted f t waits goes.reads.base
  is = goes.reads.is

  one : image_state t.base.image ≡ stalled_state
  one = sym goes.agrees.state ∙ goes.stalled

  hr : Holds goes.reads.base (w.files held.name) (w.files (delta_name held.name))
  hr = holds name r (w.files name) d goes.reads.opens

  main_one : image_state hr.main ≡ stalled_state
  main_one = sym (base-state r (w.files name) d hr) ∙ ap state_of is.first ∙ one

  main_size : image_size hr.main ≡ held.page_size
  main_size = sym (base-size r (w.files name) d hr) ∙ ap size_of is.first ∙ sym goes.agrees.page_size

  pub its_table : HasTable held.page_size (w.files (delta_name held.name)) f.base.diverted
  its_table = subst (λ (x : List ℕ). HasTable held.page_size d x) is.diverted (subst (λ n. HasTable n d r.diverted) main_size (hr.entries.some (omega (arith, main_one))))

  -- whatever a crash leaves of the main file is frozen
  frozen_main : (m : File) → Leaves w held.name m → Holds goes.reads.base m (w.files (delta_name held.name))
  frozen_main m left = same_main r (w.files name) d m hr (subst (λ (x : Image). HasMain x m) same h.has)
    where
      files : Files
      files = with_file w.files name m

      s : StandsAs name (IsOnTheWay f t) files
      s = goes.left files (left_with w name w.files m (λ n other. reads n) left)

      h : Holds s.base m d
      h = holds name s.base m d (subst (λ (x : File). owner name x d ≡ Ok s.base) (with_file-same w.files name m) (subst (λ (x : File). owner name (files name) x ≡ Ok s.base) (with_file-other w.files name m (delta_name name) (delta_apart name)) s.opens))

      same : h.main ≡ hr.main
      same =
          sym (h.frozen.stalled (sym (base-state s.base m d h) ∙ ap state_of s.is.first ∙ one)) ∙ s.is.frozen ∙ sym is.frozen ∙ hr.frozen.stalled main_one

  -- A difference file with the first of the drafted entries in its table, and the same slots.
  module _ (m c : File) (left : Leaves w held.name m) (front rest : List ℕ) (split : goes.behind.diverted.0 ≡ front ++ rest) (has : HasTable held.page_size c (f.base.diverted ++ front))
      (slots : (k : ℕ) → slot_page held.page_size c k ≡ slot_page held.page_size (w.files (delta_name held.name)) k) where
    h : Holds goes.reads.base m (w.files (delta_name held.name))
    h = frozen_main m left

    h_size : image_size h.main ≡ held.page_size
    h_size = sym (base-size r m d h) ∙ ap size_of is.first ∙ sym goes.agrees.page_size

    h_one : image_state h.main ≡ stalled_state
    h_one = sym (base-state r m d h) ∙ ap state_of is.first ∙ one

    abbrev all : List ℕ
    all = f.base.diverted ++ front

    abbrev entered : Base
    entered = record { image = owned (image_size h.main) h.main (bytes_of c) (f.base.diverted ++ front); frozen = goes.reads.base.frozen; diverted = f.base.diverted ++ front }

    entered_holds : Holds (record { image = owned (image_size h.main) h.main (bytes_of c) (f.base.diverted ++ front); frozen = goes.reads.base.frozen; diverted = f.base.diverted ++ front }) m c
    entered_holds = delta_moved r entered m d c h (omega (arith, h_one)) (subst (λ n. HasTable n c all) (sym h_size) has) refl refl

    all_is : t.base.diverted ≡ (f.base.diverted ++ front) ++ rest
    all_is = goes.behind.diverted.1 ∙ ap (λ (x : List ℕ). table ++ x) split ∙ sym (append_assoc table front rest)

    in_t : (p k : ℕ) → entry_for p (f.base.diverted ++ front) ≡ Some k → entry_for p t.base.diverted ≡ Some k
    in_t p k e = ap (entry_for p) all_is ∙ entry-front p all rest k e

    -- where the entry of a page is
    either : (p k : ℕ) → entry_for p (f.base.diverted ++ front) ≡ Some k → (P : Type 0) → (entry_for p f.base.diverted ≡ Some k → P) → (length f.base.diverted ≤ k → P) → P
    either p k e P old new = by (entry_for p table) refl
      where
        by : (x : Option ℕ) → entry_for p table ≡ x → P
        by (Some j) is = old (is ∙ ap (λ n. Some n) (some_same {X = ℕ} _ _ (sym (entry-front p table front j is) ∙ e)))
        by None is = new (entry-behind p table front k is e)

    r_long : length goes.reads.base.image ≡ max (length h.main) (behind_entries f.base.diverted)
    r_long = base-length r m d h ∙ ap (λ (x : List ℕ). max (length h.main) (behind_entries x)) is.diverted

    low : (p k : ℕ) → entry_for p (f.base.diverted ++ front) ≡ Some k → p < length t.base.image
    low p k e = either p k e (p < length t.base.image)
        (λ at. let last = named p table k at in omega (arith, last, r_long, is.long))
        (λ late. (goes.inside p k (in_t p k e) late).1)

    long : length (owned (image_size h.main) h.main (bytes_of c) (f.base.diverted ++ front)) ≡ length t.base.image
    long =
        let most = behind_most (length t.base.image) all low in
        let more = behind_more table front in
        omega (arith, owned_length (image_size h.main) h.main (bytes_of c) all, most, more, r_long, is.long)

    slot_is : (p k : ℕ) → owned_slot (image_size h.main) h.main (bytes_of c) p k ≡ owned_slot (image_size h.main) h.main (bytes_of d) p k
    slot_is p k = slot_same (image_size h.main) h.main (bytes_of d) (bytes_of c) p k (subst (λ n. page_in n (bytes_of c) (slot_place n k) ≡ page_in n (bytes_of d) (slot_place n k)) (sym h_size) (slots k))

    at_entry : (p k : ℕ) → entry_for p (f.base.diverted ++ front) ≡ Some k → page_at (owned (image_size h.main) h.main (bytes_of c) (f.base.diverted ++ front)) p ≡ owned_slot (image_size h.main) h.main (bytes_of d) p k
    at_entry p k e =
        owned_at (image_size h.main) h.main (bytes_of c) all p (omega (arith, low p k e, long)) ∙ owned-entry (image_size h.main) h.main (bytes_of c) all p k e ∙ slot_is p k

    of_entry : (p k : ℕ) → entry_for p (f.base.diverted ++ front) ≡ Some k → page_at (owned (image_size h.main) h.main (bytes_of c) (f.base.diverted ++ front)) p ≡ page_at t.base.image p
    of_entry p k e = either p k e (page_at entered.image p ≡ page_at t.base.image p)
        (λ at.
        let in_r : entry_for p r.diverted ≡ Some k = ap (entry_for p) is.diverted ∙ at in
        at_entry p k e ∙ sym (base-page r m d h p (omega (arith, low p k e, is.long)) ∙ owned-entry (image_size h.main) h.main (bytes_of d) r.diverted p k in_r) ∙ is.named p k at (none p))
        (λ late.
        let in_slot : HasPageIn held.page_size k (page_at t.base.image p) d = goes.slots p k (in_t p k e) late (none p) in
        at_entry p k e ∙ slot_later (image_size h.main) h.main (bytes_of d) p k (goes.inside p k (in_t p k e) late).0
        ∙ subst (λ n. page_in n (bytes_of d) (slot_place n k) ≡ page_at t.base.image p) (sym h_size) in_slot.same)

    of_none : (p : ℕ) → entry_for p (f.base.diverted ++ front) ≡ None → page_at (owned (image_size h.main) h.main (bytes_of c) (f.base.diverted ++ front)) p ≡ page_at f.base.image p
    of_none p e = elim (leb_tells (suc p) (length t.base.image)) [
      | inl v ↦
          let inside : p < length r.image = omega (arith, v.1, is.long) in
          owned_at (image_size h.main) h.main (bytes_of c) all p (omega (arith, v.1, long)) ∙ owned-none (image_size h.main) h.main (bytes_of c) all p e
          ∙ sym (base-page r m d h p inside ∙ owned-none (image_size h.main) h.main (bytes_of d) r.diverted p (ap (entry_for p) is.diverted ∙ none_front))
          ∙ is.others p none_front
      | inr v ↦ get_or_past entered.image p [] (omega (arith, v.1, long)) ∙ sym (get_or_past f.base.image p [] (omega (arith, v.1, goes.behind.long)))
    ]
      where
        none_front : entry_for p f.base.diverted ≡ None
        none_front = by (entry_for p table) refl
          where
            by : (x : Option ℕ) → entry_for p table ≡ x → entry_for p table ≡ None
            by None at = at
            by (Some k) at = absurd (none_there (sym e ∙ entry-front p table front k at))

    first : first_page (owned (image_size h.main) h.main (bytes_of c) (f.base.diverted ++ front)) ≡ first_page t.base.image
    first = by (entry_for 0 all) refl
      where
        by : (x : Option ℕ) → entry_for 0 all ≡ x → first_page entered.image ≡ first_page t.base.image
        by (Some k) e = of_entry 0 k e
        by None e = of_none 0 e ∙ goes.behind.first

    entering : IsEntering f t (record { image = owned (image_size h.main) h.main (bytes_of c) (f.base.diverted ++ front); frozen = goes.reads.base.frozen; diverted = f.base.diverted ++ front })
    entering = record { stalled = one; long = long; first = first; named = of_entry; others = of_none; frozen = is.frozen; front = (front, refl); diverted = (rest, all_is) }

    pub entered_left : (files : Files) → files held.name ≡ m → files (delta_name held.name) ≡ c → StandsIn held.name t files
    entered_left files main beside = record {
      base = entered;
      opens = ap (λ (x : File). owner name x (files (delta_name name))) main ∙ ap (owner name m) beside ∙ shows name entered m c entered_holds;
      left = enter_left f t goes.behind entered goes.unsettled entering;
    }

    -- Once all are there, it is what is seen.
    pub entered_shown : rest ≡ [] → owner held.name m c ≡ Ok t.base
    entered_shown no_rest =
        shows name entered m c entered_holds
        ∙ ap (λ (b : Base). Ok b) (let image = same_pages entered.image t.base.image long (λ p. by p (entry_for p all) refl) in λ i. record { image = image i; frozen = (is.frozen ∙ goes.behind.frozen) i; diverted = sym t_all i })
      where
        t_all : t.base.diverted ≡ f.base.diverted ++ front
        t_all = all_is ∙ ap (λ (x : List ℕ). all ++ x) no_rest ∙ append-nil all

        by : (p : ℕ) (x : Option ℕ) → entry_for p all ≡ x → page_at entered.image p ≡ page_at t.base.image p
        by p (Some k) e = of_entry p k e
        by p None e = of_none p e ∙ goes.plain p (ap (entry_for p) t_all ∙ e)

  -- While the drafted entries go into the table.
  stays_left : (before files : Files) → StandsAs held.name (IsOnTheWay f t) before → files held.name ≡ before held.name → Stays held.page_size (length f.base.diverted) (before (delta_name held.name)) (files (delta_name held.name)) → StandsIn held.name t files
  stays_left before files s main stays = record {
    base = s.base;
    opens = ap (λ (x : File). owner name x c) main ∙ shows name s.base m c (delta_moved s.base s.base m d_ c h (omega (arith, h_one)) table_c refl
        (h.image ∙ sym (slots_stay (image_size h.main) h.main (bytes_of d_) (bytes_of c) s.base.diverted (λ k low. subst (λ n. page_in n (bytes_of c) (slot_place n k) ≡ page_in n (bytes_of d_) (slot_place n k)) (sym h_size) (stays.slots k)))));
    left = way_left f t goes.behind s.base goes.unsettled s.is;
  }
    where
      m : File
      m = before name

      d_ : File
      d_ = before (delta_name name)

      c : File
      c = files (delta_name name)

      h : Holds s.base (before held.name) (before (delta_name held.name))
      h = holds name s.base m d_ s.opens

      h_one : image_state h.main ≡ stalled_state
      h_one = sym (base-state s.base m d_ h) ∙ ap state_of s.is.first ∙ one

      h_size : image_size h.main ≡ held.page_size
      h_size = sym (base-size s.base m d_ h) ∙ ap size_of s.is.first ∙ sym goes.agrees.page_size

      table_c : HasTable (image_size h.main) (files (delta_name held.name)) s.base.diverted
      table_c = subst (λ n. HasTable n c s.base.diverted) (sym h_size) (stays.tables s.base.diverted (omega (arith, ap length s.is.diverted.1, length-append s.base.diverted s.is.diverted.0))
          (subst (λ n. HasTable n d_ s.base.diverted) h_size (h.entries.some (omega (arith, h_one)))))

  module _ (new : World) (timely : IsTimely w) (changes : Changes w new (Only (delta_name held.name)) (Moved w (delta_name held.name) (FrontStep held.page_size f.base.diverted goes.behind.diverted.0 (w.files (delta_name held.name))))) where
    pub enter_changes : Changes w new (Only (delta_name held.name)) (StandsIn held.name t)
    enter_changes =
        moved_on w w new (Only (delta_name name)) (StandsAs name (IsOnTheWay f t)) (StandsIn name t) (delta_name name) (FrontStep held.page_size table drafts d) (begun w (Only (delta_name name)) (StandsAs name (IsOnTheWay f t)) timely goes.left) changes refl
        (λ files s. record { base = s.base; opens = s.opens; left = way_left f t goes.behind s.base goes.unsettled s.is })
        (λ before files all s step others.
        ⊎_elim
        (λ stays. stays_left before files s (others name (main_apart name)) stays)
        (λ (fronts : Fronts held.page_size table drafts d (files (delta_name name))).
        entered_left (before name) (files (delta_name name)) (all name) fronts.tables.front fronts.tables.rest fronts.tables.split fronts.tables.has fronts.slots files (others name (main_apart name)) refl)
        step)

  -- what waits in the table
  pub drafts_wait : AreEntries held.entries → Waits held.page_size held.entries held.drafted f.base.diverted goes.behind.diverted.0 (w.files (delta_name held.name))
  drafts_wait are = record {
    all = goes.agrees.entries ∙ goes.behind.diverted.1;
    many = omega (arith, goes.drafted, ap length goes.behind.diverted.1, length-append table drafts);
    has = its_table;
    slots = λ k late low.
        let at : entry_for (get_or held.entries k 0) t.base.diverted ≡ Some k = ap (entry_for (get_or held.entries k 0)) (sym goes.agrees.entries) ∙ entry_named held.entries k are.once low in
        (goes.slots (get_or held.entries k 0) k at late (none (get_or held.entries k 0))).whole;
  }

  -- Once the table has all entries and is kept for good, with the slots, the files hold what is seen.
  pub enter_open : (new : World) → ((m : File) → Leaves new held.name m → Leaves w held.name m) → new.files held.name ≡ w.files held.name → HasAll held.page_size held.entries (w.files (delta_name held.name)) (new.files (delta_name held.name))
      → IsDurable new (delta_name held.name) (new.files (delta_name held.name)) → (now : Held) → now ≡ record held { drafted = 0 } → IsOpen new now t
  enter_open new main_left main_same has durable now is_now = subst (λ (h : Held). IsOpen new h t) (sym is_now) (record {
    left = λ files all.
        let beside : files (delta_name name) ≡ c = durable_is new (delta_name name) c durable (files (delta_name name)) (all (delta_name name)) in
        record { base = t.base; opens = ap (owner name (files name)) beside ∙ shown (files name) (main_left (files name) (all name)); left = itself_firm t };
    shows = ap (λ (x : File). owner name x c) main_same ∙ shown (w.files name) (reads name);
    agrees = record {
      header = goes.agrees.header;
      page_size = goes.agrees.page_size;
      state = goes.agrees.state;
      opened = goes.agrees.opened;
      forced = goes.agrees.forced;
      count = goes.agrees.count;
      main_count = goes.agrees.main_count;
      entries = goes.agrees.entries;
    };
    drafted = refl;
  })
    where
      c : File
      c = new.files (delta_name name)

      shown : (m : File) → Leaves w held.name m → owner held.name m (new.files (delta_name held.name)) ≡ Ok t.base
      shown m left = entered_shown m c left drafts [] (sym (append-nil drafts)) (subst (λ (x : List ℕ). HasTable held.page_size c x) (goes.agrees.entries ∙ goes.behind.diverted.1) has.has) has.slots refl

  -- Where none is drafted, the slots are kept for good.
  module _ (new : World) (still : IsStill w new) (no_drafts : held.drafted ≡ 0) where
    pub kept_changes : IsTimely w → new.said ≡ w.said → Passes w new → Changes w new (Only (delta_name held.name)) (StandsIn held.name t)
    kept_changes timely silent time =
        still_more w w new (Only (delta_name name)) (StandsIn name t)
        (begun w (Only (delta_name name)) (StandsIn name t) timely (λ files all. let s = goes.left files all in record { base = s.base; opens = s.opens; left = way_left f t goes.behind s.base goes.unsettled s.is }))
        time still silent

    pub kept_open : IsDurable new (delta_name held.name) (new.files (delta_name held.name)) → IsOpen new held t
    kept_open durable =
        enter_open new (λ m left. left_before w new _ still.left name m tt left) (ap (λ (x : Files). x name) still.files)
        (record {
          has = subst (λ (x : File). HasTable held.page_size x held.entries) (sym beside) (subst (λ (x : List ℕ). HasTable held.page_size d x) (sym (goes.agrees.entries ∙ no_more)) its_table);
          slots = λ k. ap (λ (x : File). slot_page held.page_size x k) beside;
          no_shorter = omega (arith, ap (λ (x : File). length (bytes_of x)) beside);
        })
        durable held (λ i. record held { drafted = no_drafts i })
      where
        beside : new.files (delta_name held.name) ≡ w.files (delta_name held.name)
        beside = ap (λ (x : Files). x (delta_name name)) still.files

        no_more : t.base.diverted ≡ f.base.diverted
        no_more =
            goes.behind.diverted.1 ∙ ap (λ (x : List ℕ). table ++ x) (nil_from_length drafts (omega (arith, goes.drafted, no_drafts, ap length goes.behind.diverted.1, length-append table drafts))) ∙ append-nil table
