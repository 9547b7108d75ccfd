-- What two files hold of a database, in each backup state, and what a change of one of them makes of its image.
use Rattle.std.proofs.Common.{◌≡◌, ◌≢◌, inl, inr, ℕ, zero, suc, ◌+◌, ◌<◌, ◌≤◌, List, [], ◌∷◌, ◌++◌, length, get_or, take, drop, refl, sym, ap, subst, ◌∙◌, arith, length-append, Bool, true, false, ◌==◌, Option, Some, None, Result, Ok, Err, max}
use Rattle.nb_base.proofs.Common.{leb_tells, eqb_tells, ext_get_or, length-drop, length-replicate, length-take-le, is_header, state_of, size_of, table_of, page_in, slot_place, normal_state, stalled_state, File, bytes_of, Refusal, BadDelta, Unfinished, HasTable, length-page_in, Page, Image, page_at, first_page, image_size, image_state, image_in, trimmed, with_page, written_at, IsOfSize, Cause, not_database, Base, base_of, merged_page, entry_for, behind_entries, main_page, owned_page, owned, diverted_base, owner_with, owner_in, owner, formed, header-long, header-state, same-header, same-number, laid, laid-front, laid-wide, some_page, owner-none, owner-refused, owner-formed, owner_in-normal, owned-first, owned-front, main_here, main_past, other_page, written_length, named, all_at, with_page_length, IsTrimmed, all-left, with_page_same, with_page_other, trimmed_length, trimmed_at, trimmed_page, owned_length, owned_at, none_there, for_here, ok_same, err_ok, some_same, owned-none}
use Rattle.nb_model.specs.Owner.{slot_page}
use Rattle.nb_base.proofs.WrittenLaws.{HasMain, laid_formed, laid_image, written_same, written_inner, written_sizes}

-- The image of two files, page by page.
module _ (size : ℕ) (main : Image) (delta table : List ℕ) where
  -- an image is theirs where its length and its pages are
  pub is_owned : (image : Image) → length image ≡ max (length main) (behind_entries table) → ((p : ℕ) → p < length image → page_at image p ≡ owned_page size main delta table p) → image ≡ owned size main delta table
  is_owned image long pages = ext_get_or [] image (owned size main delta table) (long ∙ sym (owned_length size main delta table))
      (λ p low. pages p low ∙ sym (owned_at size main delta table p (omega (arith, low, long, owned_length size main delta table))))

  -- a page by its entry
  pub owned-entry : (p k : ℕ) → entry_for p table ≡ Some k → owned_page size main delta table p ≡ slot_page size main delta p k
  unfolding owned_page
  owned-entry p k is = ap (λ (x : Option ℕ). elim x as (λ z. Page) [ Some k ↦ slot_page size main delta p k | None ↦ main_page size main p ]) is

-- each page of them has the size of a page
module _ (size : ℕ) (main : Image) (delta table : List ℕ) (sizes : IsOfSize size main) (wide : 64 ≤ size) (some : 1 ≤ length main) where
  main_wide : (p : ℕ) → length (main_page size main p) ≡ size
  main_wide p = elim (leb_tells (suc p) (length main)) [
    | inl w ↦ ap length (main_here size main p w.1) ∙ all_at (λ page. length page ≡ size) main sizes p w.1
    | inr w ↦ ap length (main_past size main p (omega (arith, w.1))) ∙ length-replicate {A = ℕ} size 0
  ]

  slot_wide : (p k : ℕ) → length (slot_page size main delta p k) ≡ size
  unfolding slot_page
  slot_wide zero k =
      let page : List ℕ = page_in size delta (slot_place size k) in
      let full : length (page_at main 0) ≡ size = all_at (λ page. length page ≡ size) main sizes 0 some in
      let front : length (take 64 (page_at main 0)) ≡ 64 = length-take-le 64 (page_at main 0) (omega (arith, wide, full)) in
      omega (arith, length-append (take 64 (page_at main 0)) (drop 64 page), front, length-drop 64 page, length-page_in size delta (slot_place size k), wide)
  slot_wide (suc p) k = length-page_in size delta (slot_place size k)

  owned-sizes : (p : ℕ) → length (owned_page size main delta table p) ≡ size
  owned-sizes p = by (entry_for p table) refl
    where
      by : (x : Option ℕ) → entry_for p table ≡ x → length (owned_page size main delta table p) ≡ size
      by None is = ap length (owned-none size main delta table p is) ∙ main_wide p
      by (Some k) is = ap length (owned-entry size main delta table p k is) ∙ slot_wide p k

-- where there are no entries it is the main file's
pub owned-alone : (size : ℕ) (main : Image) (delta : List ℕ) → main ≡ owned size main delta []
unfolding entry_for
owned-alone size main delta = is_owned size main delta [] main (omega arith) (λ p low. sym (main_here size main p low) ∙ sym (owned-none size main delta [] p refl))

-- after the first entry
abbrev pub later : Option ℕ → Option ℕ
later None = None
later (Some k) = Some (suc k)

pub entry-later : (p q : ℕ) (qs : List ℕ) → p ≢ q → entry_for p (q ∷ qs) ≡ later (entry_for p qs)
unfolding entry_for
entry-later p q qs other = elim (eqb_tells p q) [ inl w ↦ absurd (other w.1) | inr w ↦ rw (w.0, entry_for) (by (entry_for p qs)) ]
  where
    by : (x : Option ℕ) → elim x as (λ z. Option ℕ) [ None ↦ None | Some k ↦ Some (suc k) ] ≡ later x
    by None = refl
    by (Some k) = refl

later-none : (x : Option ℕ) → later x ≡ None → x ≡ None
later-none None e = refl
later-none (Some k) e = absurd (none_there (sym e))

-- the entry at a place names the page
pub record IsEntry (p k : ℕ) (table : List ℕ) : Type 0 where
  pub below : k < length table
  pub names : get_or table k 0 ≡ p

pub entry_at : (p : ℕ) (table : List ℕ) (k : ℕ) → entry_for p table ≡ Some k → IsEntry p k table
unfolding entry_for
entry_at p [] k e = absurd (none_there e)
entry_at p (q ∷ qs) k e = elim (eqb_tells p q) [
  | inl w ↦ here k (some_same {X = ℕ} _ _ (sym (for_here p q qs w.1) ∙ e)) w.1
  | inr w ↦ by (entry_at p qs) (entry_for p qs) refl (sym (entry-later p q qs w.1) ∙ e)
]
  where
    here : (k : ℕ) → 0 ≡ k → p ≡ q → IsEntry p k (q ∷ qs)
    here zero is same = record { below = omega arith; names = sym same }
    here (suc k) is same = absurd (omega arith)

    by : ((j : ℕ) → entry_for p qs ≡ Some j → IsEntry p j qs) → (x : Option ℕ) → entry_for p qs ≡ x → later (entry_for p qs) ≡ Some k → IsEntry p k (q ∷ qs)
    by so_far None is h = absurd (none_there (ap later (sym is) ∙ h))
    by so_far (Some j) is h =
        let rest = so_far j is in
        subst (λ n. IsEntry p n (q ∷ qs)) (some_same {X = ℕ} _ _ (ap later (sym is) ∙ h)) (record { below = omega (arith, rest.below); names = rest.names })

-- so no two pages have one entry
pub entry_apart : (p q k j : ℕ) (table : List ℕ) → entry_for p table ≡ Some k → entry_for q table ≡ Some j → q ≢ p → j ≢ k
entry_apart p q k j table e f other same = other (sym (entry_at q table j f).names ∙ ap (λ n. get_or table n 0) same ∙ (entry_at p table k e).names)

-- with one entry more
pub entry-added : (p : ℕ) (table : List ℕ) → entry_for p table ≡ None → entry_for p (table ++ p ∷ []) ≡ Some (length table)
unfolding entry_for
entry-added p [] none = for_here p p [] refl
entry-added p (q ∷ qs) none = elim (eqb_tells p q) [
  | inl w ↦ absurd (none_there (sym none ∙ for_here p q qs w.1))
  | inr w ↦ entry-later p q (qs ++ p ∷ []) w.1 ∙ ap later (entry-added p qs (later-none (entry_for p qs) (sym (entry-later p q qs w.1) ∙ none))) ∙ ap (λ n. Some n) (let e : suc (length qs) ≡ length (q ∷ qs) = omega arith in e)
]

pub entry-others : (p q : ℕ) (table : List ℕ) → q ≢ p → entry_for q (table ++ p ∷ []) ≡ entry_for q table
unfolding entry_for
entry-others p q [] other = entry-later q p [] other
entry-others p q (x ∷ xs) other = elim (eqb_tells q x) [
  | inl w ↦ for_here q x (xs ++ p ∷ []) w.1 ∙ sym (for_here q x xs w.1)
  | inr w ↦ entry-later q x (xs ++ p ∷ []) w.1 ∙ ap later (entry-others p q xs other) ∙ sym (entry-later q x xs w.1)
]

-- an entry of a front is the same entry of the whole
pub entry-front : (p : ℕ) (front rest : List ℕ) (k : ℕ) → entry_for p front ≡ Some k → entry_for p (front ++ rest) ≡ Some k
unfolding entry_for
entry-front p [] rest k e = absurd (none_there e)
entry-front p (q ∷ qs) rest k e = elim (eqb_tells p q) [
  | inl w ↦ for_here p q (qs ++ rest) w.1 ∙ sym (for_here p q qs w.1) ∙ e
  | inr w ↦ entry-later p q (qs ++ rest) w.1 ∙ by (entry-front p qs rest) (entry_for p qs) refl (sym (entry-later p q qs w.1) ∙ e)
]
  where
    by : ((j : ℕ) → entry_for p qs ≡ Some j → entry_for p (qs ++ rest) ≡ Some j) → (x : Option ℕ) → entry_for p qs ≡ x → later (entry_for p qs) ≡ Some k → later (entry_for p (qs ++ rest)) ≡ Some k
    by so_far None is h = absurd (none_there (ap later (sym is) ∙ h))
    by so_far (Some j) is h = ap later (so_far j is ∙ sym is) ∙ h

-- and one that the front doesn't have stands after it
pub entry-behind : (p : ℕ) (front rest : List ℕ) (k : ℕ) → entry_for p front ≡ None → entry_for p (front ++ rest) ≡ Some k → length front ≤ k
unfolding entry_for
entry-behind p [] rest k none e = omega arith
entry-behind p (q ∷ qs) rest k none e = elim (eqb_tells p q) [
  | inl w ↦ absurd (none_there (sym none ∙ for_here p q qs w.1))
  | inr w ↦ by (λ j none. entry-behind p qs rest j none) (entry_for p (qs ++ rest)) refl (later-none (entry_for p qs) (sym (entry-later p q qs w.1) ∙ none)) (sym (entry-later p q (qs ++ rest) w.1) ∙ e)
]
  where
    by : ((j : ℕ) → entry_for p qs ≡ None → entry_for p (qs ++ rest) ≡ Some j → length qs ≤ j) → (x : Option ℕ) → entry_for p (qs ++ rest) ≡ x → entry_for p qs ≡ None → later (entry_for p (qs ++ rest)) ≡ Some k → suc (length qs) ≤ k
    by so_far None is none h = absurd (none_there (ap later (sym is) ∙ h))
    by so_far (Some j) is none h = let low = so_far j none is in omega (arith, low, some_same {X = ℕ} _ _ (ap later (sym is) ∙ h))

pub behind-added : (p : ℕ) (table : List ℕ) → behind_entries (table ++ p ∷ []) ≡ max (behind_entries table) (p + 1)
behind-added p [] = omega arith
behind-added p (q ∷ qs) = omega (arith, behind-added p qs)

-- A page is the same with two main files that have the same front, and the same page there where no entry names it.
slot_alike : (size : ℕ) (a b : Image) (delta : List ℕ) (q k : ℕ) → take 64 (page_at a 0) ≡ take 64 (page_at b 0) → slot_page size a delta q k ≡ slot_page size b delta q k
unfolding slot_page
slot_alike size a b delta zero k front = ap (λ (x : List ℕ). x ++ drop 64 (page_in size delta (slot_place size k))) front
slot_alike size a b delta (suc q) k front = refl

owned_alike : (size : ℕ) (a b : Image) (delta table : List ℕ) (q : ℕ) → take 64 (page_at a 0) ≡ take 64 (page_at b 0) → (entry_for q table ≡ None → main_page size a q ≡ main_page size b q)
    → owned_page size a delta table q ≡ owned_page size b delta table q
owned_alike size a b delta table q front same = by (entry_for q table) refl
  where
    by : (x : Option ℕ) → entry_for q table ≡ x → owned_page size a delta table q ≡ owned_page size b delta table q
    by None is = owned-none size a delta table q is ∙ same is ∙ sym (owned-none size b delta table q is)
    by (Some k) is = owned-entry size a delta table q k is ∙ slot_alike size a b delta q k front ∙ sym (owned-entry size b delta table q k is)

-- One page of the main file is written, which keeps the first 64 bytes of page 0.
module _ (size : ℕ) (main : Image) (delta table : List ℕ) (p : ℕ) (page : Page) (some : 1 ≤ length main) (long : 64 ≤ length (page_at main 0))
    (front : p ≡ 0 → take 64 page ≡ take 64 (page_at main 0)) where
  abbrev new : Image
  new = written_at size (p, page) main

  longer : length new ≡ max (length main) (p + 1)
  longer = written_length size p page main

  pub front_stays : take 64 (page_at (written_at size (p, page) main) 0) ≡ take 64 (page_at main 0)
  front_stays = elim (eqb_tells p 0) [
    | inl w ↦ ap (λ n. take 64 (page_at (written_at size (n, page) main) 0)) w.1 ∙ ap (take 64) (written_same size 0 page main) ∙ front w.1
    | inr w ↦ ap (take 64) (sym (main_here size new 0 (omega (arith, longer))) ∙ other_page size p page main 0 (λ e. w.1 (sym e)) ∙ main_here size main 0 (omega (arith, some)))
  ]

  -- every other page stays
  other_stays : (q : ℕ) → q ≢ p → owned_page size (written_at size (p, page) main) delta table q ≡ owned_page size main delta table q
  other_stays q other = owned_alike size new main delta table q front_stays (λ none. other_page size p page main q other)

  -- Where no entry names it, it is the page of the image.
  pub main_shows : entry_for p table ≡ None → p ≤ length (owned size main delta table) → owned size (written_at size (p, page) main) delta table ≡ with_page p page (owned size main delta table)
  main_shows none low =
      let image : Image = owned size main delta table in
      let has : length image ≡ max (length main) (behind_entries table) = owned_length size main delta table in
      let all : length (with_page p page image) ≡ max (length image) (p + 1) = with_page_length p page image low in
      sym (is_owned size new delta table (with_page p page image) (omega (arith, has, all, longer))
      (λ q below. elim (eqb_tells q p) [
        | inl w ↦ ap (page_at (with_page p page image)) w.1 ∙ with_page_same p page image low
            ∙ sym (ap (owned_page size new delta table) w.1 ∙ owned-none size new delta table p none ∙ main_here size new p (omega (arith, longer)) ∙ written_same size p page main)
        | inr w ↦ with_page_other p q page image low w.1 ∙ owned_at size main delta table q (omega (arith, below, all, low, w.1)) ∙ sym (other_stays q w.1)
      ]))

  -- Where one does, the image stays, zeros or not: the main file's image has none at its end.
  pub main_hidden : (k : ℕ) → entry_for p table ≡ Some k → IsOfSize size main → IsTrimmed main → length page ≡ size → 1 ≤ length (trimmed (written_at size (p, page) main))
      → owned size (trimmed (written_at size (p, page) main)) delta table ≡ owned size main delta table
  main_hidden k is sizes whole wide there =
      let image : Image = owned size main delta table in
      let has : length image ≡ max (length main) (behind_entries table) = owned_length size main delta table in
      let inside : p + 1 ≤ behind_entries table = named p table k is in
      sym (is_owned size (trimmed new) delta table image (elim (leb_tells (length main) (behind_entries table)) [
        | inl w ↦ omega (arith, has, longer, inside, trimmed_length new, w.1)
        | inr w ↦ omega (arith, has, longer, inside, w.1, ap length (written_inner size p page main (omega (arith, inside, w.1)) whole))
      ])
      (λ q below. owned_at size main delta table q below
      ∙ sym (owned_alike size (trimmed new) main delta table q (ap (take 64) (trimmed_at new 0 there) ∙ front_stays)
      (λ none. trimmed_page size new (written_sizes size p page main sizes wide) q ∙ other_page size p page main q (λ same. none_there (sym none ∙ ap (λ n. entry_for n table) same ∙ is))))))

-- The difference file changes, and the main file stays.
module _ (size : ℕ) (main : Image) (delta new : List ℕ) where
  slot_same : (q k : ℕ) → page_in size new (slot_place size k) ≡ page_in size delta (slot_place size k) → slot_page size main new q k ≡ slot_page size main delta q k
  unfolding slot_page
  slot_same zero k same = ap (λ (x : List ℕ). take 64 (page_at main 0) ++ drop 64 x) same
  slot_same (suc q) k same = same

  page_same : (table : List ℕ) (q : ℕ) → ((k : ℕ) → entry_for q table ≡ Some k → page_in size new (slot_place size k) ≡ page_in size delta (slot_place size k)) → owned_page size main new table q ≡ owned_page size main delta table q
  page_same table q same = by (entry_for q table) refl
    where
      by : (x : Option ℕ) → entry_for q table ≡ x → owned_page size main new table q ≡ owned_page size main delta table q
      by None is = owned-none size main new table q is ∙ sym (owned-none size main delta table q is)
      by (Some k) is = owned-entry size main new table q k is ∙ slot_same q k (same k is) ∙ sym (owned-entry size main delta table q k is)

  -- Where its slots hold what they held, the image stays.
  pub slots_stay : (table : List ℕ) → ((k : ℕ) → k < length table → page_in size new (slot_place size k) ≡ page_in size delta (slot_place size k)) → owned size main new table ≡ owned size main delta table
  slots_stay table same =
      let image : Image = owned size main delta table in
      sym (is_owned size main new table image (owned_length size main delta table)
      (λ q below. owned_at size main delta table q below ∙ sym (page_same table q (λ k is. same k (entry_at q table k is).below))))

  module _ (some : 1 ≤ length main) (long : 64 ≤ length (page_at main 0)) where
    -- the page that a slot gives
    slot_gives : (table : List ℕ) (p k : ℕ) (page : Page) → page_in size new (slot_place size k) ≡ page → slot_page size main new p k ≡ merged_page p page (owned size main delta table)
    unfolding slot_page merged_page
    slot_gives table zero k page is =
        ap (λ (x : List ℕ). take 64 (page_at main 0) ++ drop 64 x) is
        ∙ ap (λ (x : List ℕ). x ++ drop 64 page) (sym (ap (take 64) (owned-first size main delta table some) ∙ owned-front size main delta table some long))
    slot_gives table (suc p) k page is = is

    -- The slot of an entry is written: its page is that of the image.
    pub slot_shows : (table : List ℕ) (p k : ℕ) (page : Page) → entry_for p table ≡ Some k → page_in size new (slot_place size k) ≡ page
        → ((j : ℕ) → j < length table → j ≢ k → page_in size new (slot_place size j) ≡ page_in size delta (slot_place size j))
        → owned size main new table ≡ with_page p (merged_page p page (owned size main delta table)) (owned size main delta table)
    slot_shows table p k page at is others =
        let image : Image = owned size main delta table in
        let put : Page = merged_page p page image in
        let has : length image ≡ max (length main) (behind_entries table) = owned_length size main delta table in
        let inside : p + 1 ≤ behind_entries table = named p table k at in
        let low : p ≤ length image = omega (arith, has, inside) in
        let all : length (with_page p put image) ≡ max (length image) (p + 1) = with_page_length p put image low in
        sym (is_owned size main new table (with_page p put image) (omega (arith, has, all, inside))
        (λ q below. elim (eqb_tells q p) [
          | inl w ↦ ap (page_at (with_page p put image)) w.1 ∙ with_page_same p put image low ∙ sym (ap (owned_page size main new table) w.1 ∙ owned-entry size main new table p k at ∙ slot_gives table p k page is)
          | inr w ↦ with_page_other p q put image low w.1 ∙ owned_at size main delta table q (omega (arith, below, all, low, inside, has))
              ∙ sym (page_same table q (λ j f. others j (entry_at q table j f).below (entry_apart p q k j table at f w.1)))
        ]))

    -- The table has one entry more.
    pub entry_shows : (table : List ℕ) (p : ℕ) (page : Page) → entry_for p table ≡ None → p ≤ length (owned size main delta table) → page_in size new (slot_place size (length table)) ≡ page
        → ((j : ℕ) → j < length table → page_in size new (slot_place size j) ≡ page_in size delta (slot_place size j))
        → owned size main new (table ++ p ∷ []) ≡ with_page p (merged_page p page (owned size main delta table)) (owned size main delta table)
    entry_shows table p page none low is others =
        let image : Image = owned size main delta table in
        let put : Page = merged_page p page image in
        let has : length image ≡ max (length main) (behind_entries table) = owned_length size main delta table in
        let all : length (with_page p put image) ≡ max (length image) (p + 1) = with_page_length p put image low in
        let more : behind_entries (table ++ p ∷ []) ≡ max (behind_entries table) (p + 1) = behind-added p table in
        let at : entry_for p (table ++ p ∷ []) ≡ Some (length table) = entry-added p table none in
        sym (is_owned size main new (table ++ p ∷ []) (with_page p put image) (omega (arith, has, all, more))
        (λ q below. elim (eqb_tells q p) [
          | inl w ↦ ap (page_at (with_page p put image)) w.1 ∙ with_page_same p put image low
              ∙ sym (ap (owned_page size main new (table ++ p ∷ [])) w.1 ∙ owned-entry size main new (table ++ p ∷ []) p (length table) at ∙ slot_gives table p (length table) page is)
          | inr w ↦ with_page_other p q put image low w.1 ∙ owned_at size main delta table q (omega (arith, below, all, low, w.1)) ∙ sym (other_entry q w.1)
        ]))
      where
        other_entry : (q : ℕ) → q ≢ p → owned_page size main new (table ++ p ∷ []) q ≡ owned_page size main delta table q
        other_entry q other = by (entry_for q table) refl
          where
            by : (x : Option ℕ) → entry_for q table ≡ x → owned_page size main new (table ++ p ∷ []) q ≡ owned_page size main delta table q
            by None e = owned-none size main new (table ++ p ∷ []) q (entry-others p q table other ∙ e) ∙ sym (owned-none size main delta table q e)
            by (Some k) e = owned-entry size main new (table ++ p ∷ []) q k (entry-others p q table other ∙ e) ∙ slot_same q k (others k (entry_at q table k e).below) ∙ sym (owned-entry size main delta table q k e)

-- The difference file's table is this one; in the normal state it isn't looked at, and there is none.
pub record HasEntries (state size : ℕ) (delta : File) (table : List ℕ) : Type 0 where
  pub none : state ≡ normal_state → table ≡ []
  pub some : 0 < state → HasTable size delta table

-- the frozen image, by the state
pub record IsFrozen (state : ℕ) (main frozen : Image) : Type 0 where
  pub stalled : state ≡ stalled_state → frozen ≡ main
  pub other : state ≢ stalled_state → frozen ≡ []

-- What two files hold of a database. The state and the page size are those of the main file's header.
pub record Holds (b : Base) (m d : File) : Type 0 where
  pub main : Image
  pub has : HasMain main m
  pub opened : image_state main ≤ 2
  pub entries : HasEntries (image_state main) (image_size main) d b.diverted
  pub image : b.image ≡ owned (image_size main) main (bytes_of d) b.diverted
  pub frozen : IsFrozen (image_state main) main b.frozen

-- From the bytes of the main file.
module _ (bytes : List ℕ) (formed : not_database bytes ≡ None) where
  pub bytes-state : image_state (image_in bytes) ≡ state_of bytes
  bytes-state = sym (same-number bytes (first_page (image_in bytes)) (laid-front (image_in bytes) bytes (laid bytes formed)) 22 2 (omega arith))

  pub bytes-size : image_size (image_in bytes) ≡ size_of bytes
  bytes-size = sym (same-number bytes (first_page (image_in bytes)) (laid-front (image_in bytes) bytes (laid bytes formed)) 24 4 (omega arith))

-- the frozen image by a test of the state
pub frozen_in : (state : ℕ) (main : Image) → IsFrozen state main (elim (state == stalled_state) as (λ z. Image) [ true ↦ main | false ↦ [] ])
frozen_in state main = elim (eqb_tells state 1) [
  | inl w ↦ record { stalled = λ e. ap (λ (t : Bool). elim t as (λ z. Image) [ true ↦ main | false ↦ [] ]) w.0; other = λ ne. absurd (ne w.1) }
  | inr w ↦ record { stalled = λ e. absurd (w.1 e); other = λ ne. ap (λ (t : Bool). elim t as (λ z. Image) [ true ↦ main | false ↦ [] ]) w.0 }
]

one_frozen : (state : ℕ) (main x y : Image) → IsFrozen state main x → IsFrozen state main y → x ≡ y
one_frozen state main x y a b = elim (eqb_tells state 1) [
  | inl w ↦ a.stalled w.1 ∙ sym (b.stalled w.1)
  | inr w ↦ a.other w.1 ∙ sym (b.other w.1)
]

-- two databases with the same parts
same_base : (x y : Base) → x.image ≡ y.image → x.frozen ≡ y.frozen → x.diverted ≡ y.diverted → x ≡ y
same_base x y image frozen diverted = λ i. record { image = image i; frozen = frozen i; diverted = diverted i }

-- A database whose difference file has that table.
module _ (bytes delta table : List ℕ) where
  diverted-parts : (diverted_base bytes delta table).image ≡ owned (size_of bytes) (image_in bytes) delta table
  unfolding diverted_base
  diverted-parts = refl

  diverted-table : (diverted_base bytes delta table).diverted ≡ table
  unfolding diverted_base
  diverted-table = refl

  diverted-frozen : IsFrozen (state_of bytes) (image_in bytes) (diverted_base bytes delta table).frozen
  unfolding diverted_base
  diverted-frozen = frozen_in (state_of bytes) (image_in bytes)

module _ (name : List ℕ) (b : Base) (bytes : List ℕ) (d : File) (formed : not_database bytes ≡ None) where
  abbrev main_ : Image
  main_ = image_in bytes

  has_bytes : HasMain main_ (Some bytes)
  has_bytes = record { bytes = bytes; there = refl; laid = laid bytes formed }

  -- the normal state
  holds_normal : state_of bytes ≡ normal_state → base_of main_ ≡ b → Holds b (Some bytes) d
  holds_normal normal is =
      let state : image_state main_ ≡ normal_state = bytes-state bytes formed ∙ normal in
      let table : b.diverted ≡ [] = sym (ap (λ (x : Base). x.diverted) is) in
      record {
        main = main_;
        has = has_bytes;
        opened = omega (arith, state);
        entries = record { none = λ e. table; some = λ some. absurd (omega (arith, some, state)) };
        image = sym (ap (λ (x : Base). x.image) is) ∙ owned-alone (image_size main_) main_ (bytes_of d) ∙ ap (λ (t : List ℕ). owned (image_size main_) main_ (bytes_of d) t) (sym table);
        frozen = record { stalled = λ e. absurd (omega (arith, e, state)); other = λ ne. sym (ap (λ (x : Base). x.frozen) is) };
      }

  -- the stalled and the merge state
  holds_diverted : 0 < state_of bytes → state_of bytes ≤ 2 → (delta table : List ℕ) → d ≡ Some delta → table_of (size_of bytes) delta ≡ Ok table → diverted_base bytes delta table ≡ b → Holds b (Some bytes) d
  holds_diverted diverts opened delta table there has is =
      let state : image_state main_ ≡ state_of bytes = bytes-state bytes formed in
      let size : image_size main_ ≡ size_of bytes = bytes-size bytes formed in
      let same : table ≡ b.diverted = sym (diverted-table bytes delta table) ∙ ap (λ (x : Base). x.diverted) is in
      record {
        main = main_;
        has = has_bytes;
        opened = omega (arith, state, opened);
        entries = record {
          none = λ e. absurd (omega (arith, e, state, diverts));
          some = λ some. subst (λ (f : File). HasTable (image_size main_) f b.diverted) (sym there) (ap (λ n. table_of n delta) size ∙ has ∙ ap (λ (t : List ℕ). Ok t) same);
        };
        image = sym (ap (λ (x : Base). x.image) is) ∙ diverted-parts bytes delta table ∙ ap (λ n. owned n main_ delta table) (sym size)
            ∙ ap (λ (t : List ℕ). owned (image_size main_) main_ delta t) same ∙ ap (λ (f : File). owned (image_size main_) main_ (bytes_of f) b.diverted) (sym there);
        frozen = subst (λ n. IsFrozen n main_ b.frozen) (sym state) (subst (λ (x : Base). IsFrozen (state_of bytes) main_ x.frozen) is (diverted-frozen bytes delta table));
      }

  -- what the owner of the files says
  table_holds : 0 < state_of bytes → state_of bytes ≤ 2 → (delta : List ℕ) → d ≡ Some delta → (found : Result (List ℕ) ℕ) → table_of (size_of bytes) delta ≡ found
      → elim found as (λ z. Result Base Refusal) [ Err page ↦ Err (BadDelta page) | Ok table ↦ Ok (diverted_base bytes delta table) ] ≡ Ok b → Holds b (Some bytes) d
  table_holds diverts opened delta there (Err page) has is = absurd (err_ok {E = Refusal} {T = Base} _ _ is)
  table_holds diverts opened delta there (Ok table) has is = holds_diverted diverts opened delta table there has (ok_same (diverted_base bytes delta table) b (Ok (diverted_base bytes delta table)) refl is)

  with_holds : 0 < state_of bytes → state_of bytes ≤ 2 → (f : File) → d ≡ f → owner_with name bytes f ≡ Ok b → Holds b (Some bytes) d
  unfolding owner_with
  with_holds diverts opened None there is = absurd (err_ok {E = Refusal} {T = Base} _ _ is)
  with_holds diverts opened (Some delta) there is = table_holds diverts opened delta there (table_of (size_of bytes) delta) refl is

  in_holds : state_of bytes ≤ 3 → (state : ℕ) → state_of bytes ≡ state → owner_in state name bytes d ≡ Ok b → Holds b (Some bytes) d
  unfolding owner_in
  in_holds most zero at is = holds_normal at (ok_same (base_of main_) b (owner_in 0 name bytes d) (owner_in-normal name bytes d) is)
  in_holds most (suc k) at is = elim (eqb_tells k 2) [
    | inl w ↦ absurd (err_ok {E = Refusal} {T = Base} _ _ (sym (ap (λ (t : Bool). elim t as (λ z. Result Base Refusal) [ true ↦ Err Unfinished | false ↦ owner_with name bytes d ]) w.0) ∙ is))
    | inr w ↦ with_holds (omega (arith, at)) (low k at w.1) d refl (sym (ap (λ (t : Bool). elim t as (λ z. Result Base Refusal) [ true ↦ Err Unfinished | false ↦ owner_with name bytes d ]) w.0) ∙ is)
  ]
    where
      low : (k : ℕ) → state_of bytes ≡ suc k → k ≢ 2 → state_of bytes ≤ 2
      low k at ne = elim (leb_tells 2 k) [
        | inl v ↦ absurd (ne (let e : k ≡ 2 = omega (arith, most, at, v.1) in e))
        | inr v ↦ omega (arith, at, v.1)
      ]

-- Files that show a database hold it.
pub holds : (name : List ℕ) (b : Base) (m d : File) → owner name m d ≡ Ok b → Holds b m d
holds name b None d is = absurd (err_ok {E = Refusal} {T = Base} _ _ (sym (owner-none name d) ∙ is))
holds name b (Some bytes) d is = by (not_database bytes) refl
  where
    by : (cause : Cause) → not_database bytes ≡ cause → Holds b (Some bytes) d
    by (Some r) e = absurd (err_ok {E = Refusal} {T = Base} _ _ (sym (owner-refused name bytes d r e) ∙ is))
    by None e = in_holds name b bytes d e (header-state bytes (formed bytes e).header) (state_of bytes) refl (sym (owner-formed name bytes d e) ∙ is)

-- And files that hold it show it.
owner_in-diverted : (k : ℕ) (name bytes delta table : List ℕ) → k ≢ 2 → table_of (size_of bytes) delta ≡ Ok table → owner_in (suc k) name bytes (Some delta) ≡ Ok (diverted_base bytes delta table)
unfolding owner_in owner_with
owner_in-diverted k name bytes delta table other has = elim (eqb_tells k 2) [
  | inl w ↦ absurd (other w.1)
  | inr w ↦ rw (w.0, owner_in) (rw (has, owner_with) refl)
]

pub shows : (name : List ℕ) (b : Base) (m d : File) → Holds b m d → owner name m d ≡ Ok b
shows name b m d h = ap (λ (f : File). owner name f d) h.has.there ∙ owner-formed name bytes d none ∙ by (state_of bytes) refl d refl
  where
    bytes : List ℕ
    bytes = h.has.bytes

    none : not_database bytes ≡ None
    none = laid_formed h.main bytes h.has.laid

    image_is : image_in bytes ≡ h.main
    image_is = laid_image h.main bytes h.has.laid

    state : image_state h.main ≡ state_of bytes
    state = ap image_state (sym image_is) ∙ bytes-state bytes none

    size : image_size h.main ≡ size_of bytes
    size = ap image_size (sym image_is) ∙ bytes-size bytes none

    frozen : IsFrozen (state_of bytes) (image_in bytes) b.frozen
    frozen = subst (λ n. IsFrozen n (image_in bytes) b.frozen) state (subst (λ (x : Image). IsFrozen (image_state h.main) x b.frozen) (sym image_is) h.frozen)

    diverts : (k : ℕ) → state_of bytes ≡ suc k → (f : File) → d ≡ f → HasTable (image_size h.main) f b.diverted → owner_in (suc k) name bytes d ≡ Ok b
    diverts k at None there has = absurd has
    diverts k at (Some delta) there has =
        let table : table_of (size_of bytes) delta ≡ Ok b.diverted = ap (λ n. table_of n delta) (sym size) ∙ has in
        let low : k ≢ 2 = λ e. absurd (omega (arith, h.opened, state, at, e)) in
        let parts : (diverted_base bytes delta b.diverted).image ≡ b.image =
        diverted-parts bytes delta b.diverted ∙ ap (λ n. owned n (image_in bytes) delta b.diverted) (sym size) ∙ ap (λ (x : Image). owned (image_size h.main) x delta b.diverted) image_is
        ∙ ap (λ (f : File). owned (image_size h.main) h.main (bytes_of f) b.diverted) (sym there) ∙ sym h.image in
        ap (owner_in (suc k) name bytes) there ∙ owner_in-diverted k name bytes delta b.diverted low table
        ∙ ap (λ (x : Base). Ok x) (same_base (diverted_base bytes delta b.diverted) b parts (one_frozen (state_of bytes) (image_in bytes) _ _ (diverted-frozen bytes delta b.diverted) frozen) (diverted-table bytes delta b.diverted))

    by : (s : ℕ) → state_of bytes ≡ s → (f : File) → d ≡ f → owner_in (state_of bytes) name bytes d ≡ Ok b
    by zero at f there =
        let normal : image_state h.main ≡ normal_state = state ∙ at in
        let image : image_in bytes ≡ b.image = image_is ∙ owned-alone (image_size h.main) h.main (bytes_of d) ∙ ap (λ (t : List ℕ). owned (image_size h.main) h.main (bytes_of d) t) (sym (h.entries.none normal)) ∙ sym h.image in
        ap (λ n. owner_in n name bytes d) at ∙ owner_in-normal name bytes d
        ∙ ap (λ (x : Base). Ok x) (same_base (base_of (image_in bytes)) b image (sym (h.frozen.other (λ e. absurd (omega (arith, e, normal))))) (sym (h.entries.none normal)))
    by (suc k) at f there = ap (λ n. owner_in n name bytes d) at ∙ diverts k at f there (subst (λ (x : File). HasTable (image_size h.main) x b.diverted) there (h.entries.some (omega (arith, state, at))))

-- Page 0 of the image has the main file's header.
module _ (b : Base) (m d : File) (h : Holds b m d) where
  pub main-some : 1 ≤ length h.main
  main-some = some_page h.main h.has.laid.header

  pub main-long : 64 ≤ length (page_at h.main 0)
  main-long = header-long (page_at h.main 0) h.has.laid.header

  pub base-front : take 64 (first_page b.image) ≡ take 64 (first_page h.main)
  base-front = ap (λ (x : Image). take 64 (first_page x)) h.image ∙ ap (take 64) (owned-first (image_size h.main) h.main (bytes_of d) b.diverted main-some)
      ∙ owned-front (image_size h.main) h.main (bytes_of d) b.diverted main-some main-long

  pub base-header : is_header (first_page b.image) ≡ true
  base-header = same-header (first_page b.image) (first_page h.main) base-front ∙ h.has.laid.header

  pub base-state : image_state b.image ≡ image_state h.main
  base-state = same-number (first_page b.image) (first_page h.main) base-front 22 2 (omega arith)

  pub base-size : image_size b.image ≡ image_size h.main
  base-size = same-number (first_page b.image) (first_page h.main) base-front 24 4 (omega arith)

  pub base-length : length b.image ≡ max (length h.main) (behind_entries b.diverted)
  base-length = ap length h.image ∙ owned_length (image_size h.main) h.main (bytes_of d) b.diverted

  pub base-page : (p : ℕ) → p < length b.image → page_at b.image p ≡ owned_page (image_size h.main) h.main (bytes_of d) b.diverted p
  base-page p low = ap (λ (x : Image). page_at x p) h.image ∙ owned_at (image_size h.main) h.main (bytes_of d) b.diverted p (omega (arith, low, ap length h.image))

  -- each page has the size of a page
  pub base-sizes : (p : ℕ) → p < length b.image → length (page_at b.image p) ≡ image_size b.image
  base-sizes p low =
      let wide : 1024 ≤ image_size h.main = laid-wide h.main h.has.bytes h.has.laid in
      ap length (base-page p low)
      ∙ owned-sizes (image_size h.main) h.main (bytes_of d) b.diverted (all-left (λ page. length page ≡ image_size h.main) h.main h.has.laid.rest h.has.laid.sizes) (omega (arith, wide)) main-some p ∙ sym base-size
