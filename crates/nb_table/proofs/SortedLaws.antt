-- Rows in the order of their keys, slot by slot.
use Rattle.std.proofs.Common.{Ordering, Less, Equal, Greater, ◌≡◌, ◌≢◌, inl, inr, ℕ, suc, ◌<◌, List, [], ◌∷◌, ◌++◌, refl, sym, ap, ◌∙◌, arith, Bool, true, false, cond, ◌==◌, nat_lt, nat_eq, Option, Some, None, option_map, is_some, slice_index}
use Rattle.nb_table.proofs.Common.{list_all, insert_entry, is_at, and_from, eqb_tells, leb_tells, RowsFrom, Slot, Spot, is_used, is_slot, key_of, text_in, first_such, row_spot, slots_in, spots_on, spots_of, Page, Image, page_at, RowMap, with_row, row_at, rows_in, eq_yes, eq_no, lt_yes, lt_no, has_key, unused_key, other_key, first_held, first_miss, spots_more, false_true, true≢false}
use Rattle.std.specs.Ordering.{nat_cmp, is_eq, match_ordering}
use Rattle.std.specs.Map.{lookup}
use Rattle.nb_model.proofs.RowMaps.{rows_rise, same_maps, rows_at}
use Rattle.nb_model.proofs.SpotMore.{more_rows}

-- How two numbers compare.
cmp_less : (a b : ℕ) → a < b → nat_cmp a b ≡ Less
cmp_less a b h = ap (λ (t : Bool). cond t Less (cond (a == b) Equal Greater)) (lt_yes a b h)

cmp_same : (a b : ℕ) → a ≡ b → nat_cmp a b ≡ Equal
cmp_same a b e = ap (λ (t : Bool). cond t Less (cond (a == b) Equal Greater)) (lt_no a b (omega (arith, e))) ∙ ap (λ (t : Bool). cond t Equal Greater) (eq_yes a b e)

cmp_more : (a b : ℕ) → b < a → nat_cmp a b ≡ Greater
cmp_more a b h = ap (λ (t : Bool). cond t Less (cond (a == b) Equal Greater)) (lt_no a b (omega (arith, h))) ∙ ap (λ (t : Bool). cond t Equal Greater) (eq_no a b (λ e. absurd (omega (arith, h, e))))

-- A map that holds its keys in order looks a key up as the definitions do,

pub get_is : (key : ℕ) (rs : RowMap) → lookup (is_at (nat_cmp key)) rs ≡ row_at key rs
unfolding row_at
get_is key [] = refl
get_is key (r ∷ rs) = elim (eqb_tells key r.0) [
  | inl w ↦ ap (λ (o : Ordering). cond (is_eq o) (Some r.1) (lookup (is_at (nat_cmp key)) rs)) (cmp_same key r.0 w.1) ∙ sym (ap (λ (t : Bool). elim t as (λ z. Option (List ℕ)) [ true ↦ Some r.1 | false ↦ row_at key rs ]) (eq_yes key r.0 w.1))
  | inr w ↦ other w.1 (get_is key rs)
]
  where
    not_same : key ≢ r.0 → is_eq (nat_cmp key r.0) ≡ false
    not_same ne = elim (leb_tells (suc key) r.0) [
      | inl less ↦ ap is_eq (cmp_less key r.0 less.1)
      | inr more ↦ ap is_eq (cmp_more key r.0 (omega (arith, more.1, ne)))
    ]

    other : key ≢ r.0 → lookup (is_at (nat_cmp key)) rs ≡ row_at key rs → lookup (is_at (nat_cmp key)) (r ∷ rs) ≡ row_at key (r ∷ rs)
    other ne rest =
        ap (λ (t : Bool). cond t (Some r.1) (lookup (is_at (nat_cmp key)) rs)) (not_same ne) ∙ rest
        ∙ sym (ap (λ (t : Bool). elim t as (λ z. Option (List ℕ)) [ true ↦ Some r.1 | false ↦ row_at key rs ]) (eq_no key r.0 ne))

-- and takes a row in as they do.
pub insert_is : (key : ℕ) (text : List ℕ) (rs : RowMap) → insert_entry nat_cmp rs key text ≡ with_row key text rs
unfolding with_row
insert_is key text [] = refl
insert_is key text (r ∷ rs) = by (insert_is key text rs)
  where
    put : Bool → Bool → RowMap
    put less same = elim less as (λ z. RowMap) [ true ↦ (key, text) ∷ r ∷ rs | false ↦ elim same as (λ z. RowMap) [ true ↦ (key, text) ∷ rs | false ↦ r ∷ with_row key text rs ] ]

    ordered : Ordering → RowMap
    ordered o = match_ordering o ((key, text) ∷ r ∷ rs) ((r.0, text) ∷ rs) (r ∷ insert_entry nat_cmp rs key text)

    by : insert_entry nat_cmp rs key text ≡ with_row key text rs → ordered (nat_cmp key r.0) ≡ put (nat_lt key r.0) (nat_eq key r.0)
    by rest = elim (leb_tells (suc key) r.0) [
      | inl less ↦ ap ordered (cmp_less key r.0 less.1) ∙ sym (ap (λ (t : Bool). put t (nat_eq key r.0)) (lt_yes key r.0 less.1))
      | inr most ↦ elim (eqb_tells key r.0) [
        | inl w ↦
            ap ordered (cmp_same key r.0 w.1) ∙ ap (λ (k : ℕ). (k, text) ∷ rs) (sym w.1)
            ∙ sym (ap (λ (t : Bool). put t (nat_eq key r.0)) (lt_no key r.0 (omega (arith, w.1))) ∙ ap (put false) (eq_yes key r.0 w.1))
        | inr w ↦
            let more : r.0 < key = omega (arith, most.1, w.1) in
            ap ordered (cmp_more key r.0 more) ∙ ap (λ (xs : RowMap). r ∷ xs) rest
            ∙ sym (ap (λ (t : Bool). put t (nat_eq key r.0)) (lt_no key r.0 (omega (arith, more))) ∙ ap (put false) (eq_no key r.0 w.1))
      ]
    ]

-- One slot more after those that were come by.
module _ (ss : List Spot) (s : Spot) where
  abbrev more : List Spot
  more = ss ++ s ∷ []

  abbrev text_of : Spot → List ℕ
  text_of x = text_in x.bytes

  abbrev key : ℕ
  key = key_of s.bytes

  same_rows : ((k : ℕ) → first_such (has_key k) more ≡ first_such (has_key k) ss) → rows_in more ≡ rows_in ss
  unfolding row_spot
  same_rows same = same_maps (rows_in more) (rows_in ss) (rows_rise more) (rows_rise ss) (λ k. rows_at k more ∙ ap (option_map text_of) (same k) ∙ sym (rows_at k ss))

  -- a free one
  pub row_free : is_used s.bytes ≡ false → rows_in more ≡ rows_in ss
  row_free none = same_rows (λ k. first_miss (has_key k) s ss (unused_key k s none))

  -- another row with a key that was come by before
  pub row_again : is_some (row_at key (rows_in ss)) ≡ true → rows_in more ≡ rows_in ss
  unfolding row_spot
  row_again some = same_rows (λ k. elim (eqb_tells k key) [
    | inl w ↦ at_key k (ap (λ (n : ℕ). is_some (row_at n (rows_in ss))) w.1 ∙ some) (first_such (has_key k) ss) refl
    | inr w ↦ first_miss (has_key k) s ss (other_key key k s refl w.1)
  ])
    where
      at_key : (k : ℕ) → is_some (row_at k (rows_in ss)) ≡ true → (o : Option Spot) → first_such (has_key k) ss ≡ o → first_such (has_key k) more ≡ first_such (has_key k) ss
      at_key k there (Some y) e = first_held (has_key k) s ss y e ∙ sym e
      at_key k there None e = absurd (false_true (sym (ap is_some (rows_at k ss ∙ ap (option_map text_of) e)) ∙ there))

  -- a row with a new key
  pub row_new : is_used s.bytes ≡ true → is_some (row_at key (rows_in ss)) ≡ false → rows_in more ≡ with_row key (text_in s.bytes) (rows_in ss)
  unfolding row_spot
  row_new used none = more_rows ss [] s key (and_from (is_used s.bytes) (key == key) used (eq_yes key key refl)) tt (by (row_spot key ss) refl)
    where
      by : (o : Option Spot) → row_spot key ss ≡ o → row_spot key ss ≡ None
      by None e = e
      by (Some y) e = absurd (true≢false (sym (ap is_some (rows_at key ss ∙ ap (option_map text_of) e)) ∙ none))

-- the rows that a map holds, and one slot more
module _ (ss : List Spot) (s : Spot) (slot : Slot) (rs : RowMap) (is : rs ≡ rows_in ss) (same : s.bytes ≡ slot) where
  pub held_free : slice_index slot 0 ≡ 0 → rs ≡ rows_in (ss ++ s ∷ [])
  held_free free =
      let first : slice_index s.bytes 0 ≡ 0 = ap (λ (b : Slot). slice_index b 0) same ∙ free in
      is ∙ sym (row_free ss s (eq_no (slice_index s.bytes 0) 1 (λ e. absurd (omega (arith, e, first)))))

  module _ (key : ℕ) (its : key ≡ key_of slot) where
    there : is_some (row_at (key_of s.bytes) (rows_in ss)) ≡ is_some (lookup (is_at (nat_cmp key)) rs)
    there =
        ap (λ (k : ℕ). is_some (row_at k (rows_in ss))) (ap key_of same ∙ sym its) ∙ ap (λ (m : RowMap). is_some (row_at key m)) (sym is) ∙ sym (ap is_some (get_is key rs))

    held_again : is_some (lookup (is_at (nat_cmp key)) rs) ≡ true → rs ≡ rows_in (ss ++ s ∷ [])
    held_again some = is ∙ sym (row_again ss s (there ∙ some))

    held_new : is_used slot ≡ true → is_some (lookup (is_at (nat_cmp key)) rs) ≡ false → (text : List ℕ) → text ≡ text_in slot → insert_entry nat_cmp rs key text ≡ rows_in (ss ++ s ∷ [])
    held_new used none text text_is =
        insert_is key text rs ∙ ap (with_row key text) is ∙ ap (λ (k : ℕ). with_row k text (rows_in ss)) (its ∙ sym (ap key_of same)) ∙ ap (λ (t : List ℕ). with_row (key_of s.bytes) t (rows_in ss)) (text_is ∙ sym (ap text_in same))
        ∙ sym (row_new ss s (ap is_used same ∙ used) (there ∙ none))

    -- it is added where there is none with its key
    pub held_added : is_used slot ≡ true → (text : List ℕ) → text ≡ text_in slot → (now : RowMap) → (is_some (lookup (is_at (nat_cmp key)) rs) ≡ true → now ≡ rs)
        → (is_some (lookup (is_at (nat_cmp key)) rs) ≡ false → now ≡ insert_entry nat_cmp rs key text) → now ≡ rows_in (ss ++ s ∷ [])
    held_added used text text_is now old new = by (is_some (lookup (is_at (nat_cmp key)) rs)) refl
      where
        by : (t : Bool) → is_some (lookup (is_at (nat_cmp key)) rs) ≡ t → now ≡ rows_in (ss ++ s ∷ [])
        by true e = old e ∙ held_again e
        by false e = new e ∙ held_new used e text text_is

-- which chain of rows a slot stands in doesn't matter to its form
pub any_rows : (first : ℕ) (slots : List Slot) → list_all (is_slot (RowsFrom first)) slots ≡ list_all (is_slot (RowsFrom 0)) slots
unfolding is_slot
any_rows first slots = refl

-- a scan has come by the rows in the slots of these pages
abbrev pub HoldsRows : Image → RowMap → List ℕ → Type 0
HoldsRows image entries ps = entries ≡ rows_in (spots_of image ps)

-- of none yet
pub rows_none : (image : Image) → HoldsRows image [] []
unfolding rows_in spots_of
rows_none image = refl

-- and of one more
pub rows_more : (image : Image) (ps : List ℕ) (p : ℕ) (page : Page) (entries : RowMap) → page ≡ page_at image p → entries ≡ rows_in (spots_of image ps ++ spots_on p 0 (slots_in page)) → HoldsRows image entries (ps ++ p ∷ [])
rows_more image ps p page entries there is =
    is ∙ ap (λ (x : Page). rows_in (spots_of image ps ++ spots_on p 0 (slots_in x))) there ∙ ap rows_in (sym (spots_more image ps p))
