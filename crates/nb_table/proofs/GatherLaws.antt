-- What a walk has come by, and one slot more.
use Rattle.std.proofs.Common.{◌≡◌, ◌≢◌, ℕ, ◌+◌, List, [], ◌∷◌, ◌++◌, length, refl, ap, ◌∙◌, arith, ◌*◌, ◌<◌, Bool, true, false, ◌&&◌, nat_eq, min, Option, Some, None, slice_index, is_some}
use Rattle.nb_table.proofs.Common.{eqb-true, Slot, Spot, is_used, first_such, free_spot, spots_of, Image, Page, used, eq_no, eq_yes, stays, misses, hits, Table, Row, Place, Found, Walked, has, is_sought, place_of, found_of, place_at, found_at, gathered, Comes, comes_next, part}
use Rattle.nb_table.specs.declared.look.Sought.{Sought}

sought_is : (sought : Sought) (slot : Slot) → is_sought sought slot ≡ (is_used slot && has sought slot)
sought_is (Table name) slot = refl
sought_is (Row at key) slot = refl

-- the used slots, and one more
used_more : (ss : List Spot) (s : Spot) → length (used (ss ++ s ∷ [])) ≡ length (used ss) + length (used (s ∷ []))
unfolding used
used_more [] s = omega arith
used_more (x ∷ xs) s = by (used_more xs s) (is_used x.bytes)
  where
    by : length (used (xs ++ s ∷ [])) ≡ length (used xs) + length (used (s ∷ [])) → (t : Bool) → length (elim t as (λ z. List Spot) [ true ↦ x ∷ used (xs ++ s ∷ []) | false ↦ used (xs ++ s ∷ []) ]) ≡ length (elim t as (λ z. List Spot) [ true ↦ x ∷ used xs | false ↦ used xs ]) + length (used (s ∷ []))
    by rest true = omega (arith, rest)
    by rest false = rest

used_one : (s : Spot) → is_used s.bytes ≡ true → length (used (s ∷ [])) ≡ 1
unfolding used
used_one s e = ap (λ (t : Bool). length (elim t as (λ z. List Spot) [ true ↦ s ∷ [] | false ↦ [] ])) e

used_not : (s : Spot) → is_used s.bytes ≡ false → length (used (s ∷ [])) ≡ 0
unfolding used
used_not s e = ap (λ (t : Bool). length (elim t as (λ z. List Spot) [ true ↦ s ∷ [] | false ↦ [] ])) e

abbrev found_with : Place → Slot → Found
found_with place bytes = record { place = place; bytes = bytes }

pub found_is : (f : Found) (place : Place) (bytes : Slot) → f.place ≡ place → f.bytes ≡ bytes → f ≡ record { place = place; bytes = bytes }
found_is f place bytes a b = ap (λ (p : Place). found_with p f.bytes) a ∙ ap (found_with place) b

abbrev pub walked_of : Option Found → Option Place → ℕ → Walked
walked_of found room used = record { found = found; room = room; used = used }

three : (a b : Option Found) (c d : Option Place) (m n : ℕ) → a ≡ b → c ≡ d → m ≡ n → walked_of a c m ≡ walked_of b d n
three a b c d m n e f g = ap (λ (x : Option Found). walked_of x c m) e ∙ ap (λ (x : Option Place). walked_of b x m) f ∙ ap (walked_of b d) g

module _ (sought : Sought) (ss : List Spot) (s : Spot) (old : Walked) (is : old ≡ gathered sought ss) where
  abbrev wanted : Spot → Bool
  wanted x = is_sought sought x.bytes

  abbrev unused : Spot → Bool
  unused x = nat_eq (slice_index x.bytes 0) 0

  abbrev more : List Spot
  more = ss ++ s ∷ []

  its_found : old.found ≡ found_at (first_such wanted ss)
  its_found = ap (λ (x : Walked). x.found) is

  room_is : old.room ≡ place_at (first_such unused ss)
  unfolding free_spot
  room_is = ap (λ (x : Walked). x.room) is

  used_is : old.used ≡ min 12 (length (used ss))
  used_is = ap (λ (x : Walked). x.used) is

  -- a free slot
  module _ (free : slice_index s.bytes 0 ≡ 0) where
    not_used : is_used s.bytes ≡ false
    not_used = eq_no (slice_index s.bytes 0) 1 (λ e. absurd (omega (arith, e, free)))

    used_same : old.used ≡ min 12 (length (used more))
    used_same = used_is ∙ ap (min 12) (let a = used_more ss s in let b = used_not s not_used in let c : length (used ss) ≡ length (used more) = omega (arith, a, b) in c)

    found_same : old.found ≡ found_at (first_such wanted more)
    found_same = misses found_at wanted ss s old.found its_found refl (λ x. refl) (sought_is sought s.bytes ∙ ap (λ (t : Bool). t && has sought s.bytes) not_used)

    pub free_first : is_some old.room ≡ false → walked_of old.found (Some (place_of s)) old.used ≡ gathered sought more
    unfolding free_spot
    free_first none = three _ _ _ _ _ _ found_same (hits place_at unused ss s old.room room_is refl (λ x. refl) none (eq_yes (slice_index s.bytes 0) 0 free)) used_same

    pub free_more : is_some old.room ≡ true → old ≡ gathered sought more
    unfolding free_spot
    free_more some = three _ _ _ _ _ _ found_same (stays place_at unused ss s old.room room_is refl (λ x. refl) some) used_same

  -- a used one
  module _ (is_one : is_used s.bytes ≡ true) where
    not_free : slice_index s.bytes 0 ≢ 0
    not_free e = absurd (omega (arith, eqb-true (slice_index s.bytes 0) 1 is_one, e))

    room_same : old.room ≡ place_at (free_spot more)
    unfolding free_spot
    room_same = misses place_at unused ss s old.room room_is refl (λ x. refl) (eq_no (slice_index s.bytes 0) 0 not_free)

    wanted_is : wanted s ≡ has sought s.bytes
    wanted_is = sought_is sought s.bytes ∙ ap (λ (t : Bool). t && has sought s.bytes) is_one

    -- how many are used then
    abbrev pub UsedMore : ℕ → Type 0
    UsedMore n = n ≡ min 12 (length (used more))

    pub counted : (n : ℕ) → n ≡ min 12 (min (old.used + 1) 4294967295) → UsedMore n
    counted n e = (let a = used_more ss s in let b = used_one s is_one in let f = used_is in omega (arith, a, b, e, f))

    pub used_hit : (n : ℕ) → UsedMore n → is_some old.found ≡ false → has sought s.bytes ≡ true → walked_of (Some (found_of s)) old.room n ≡ gathered sought more
    used_hit n count none e = three _ _ _ _ _ _ (hits found_at wanted ss s old.found its_found refl (λ x. refl) none (wanted_is ∙ e)) room_same count

    pub used_miss : (n : ℕ) → UsedMore n → has sought s.bytes ≡ false → walked_of old.found old.room n ≡ gathered sought more
    used_miss n count e = three _ _ _ _ _ _ (misses found_at wanted ss s old.found its_found refl (λ x. refl) (wanted_is ∙ e)) room_same count

    pub used_more_of : (n : ℕ) → UsedMore n → is_some old.found ≡ true → walked_of old.found old.room n ≡ gathered sought more
    used_more_of n count some = three _ _ _ _ _ _ (stays found_at wanted ss s old.found its_found refl (λ x. refl) some) room_same count

-- one slot more of a page
pub gathered_next : (sought : Sought) (old new : Walked) (ss : List Spot) (page : Page) (number count slot : ℕ) → slot < count → (bytes : Slot) → bytes ≡ part (32 + 256 * slot) 256 page
    → ((front : List Spot) → old ≡ gathered sought front → new ≡ gathered sought (front ++ record { page = number; slot = slot; bytes = bytes } ∷ []))
    → Comes (λ xs. old ≡ gathered sought xs) ss page number count slot → Comes (λ xs. new ≡ gathered sought xs) ss page number count (slot + 1)
gathered_next sought old new ss page number count slot low bytes are one comes =
    comes_next (λ xs. old ≡ gathered sought xs) (λ xs. new ≡ gathered sought xs) ss page number count slot low comes
    (λ front was. one front was ∙ ap (λ (b : Slot). gathered sought (front ++ record { page = number; slot = slot; bytes = b } ∷ [])) are)

-- a walk has come by the slots of these pages
abbrev pub Gathers : Sought → Image → Walked → List ℕ → Type 0
Gathers sought image walked ps = walked ≡ gathered sought (spots_of image ps)

-- of none yet
pub gathered_none : (sought : Sought) (image : Image) → Gathers sought image (walked_of None None 0) []
unfolding first_such free_spot used spots_of
gathered_none sought image = refl
