-- Slots of the history, one by one: what they hold, and what a walk comes by.
use Rattle.std.proofs.Common.{◌≡◌, List, [], ◌∷◌, ◌++◌, ℕ, refl, sym, ap, ◌∙◌, Bool, true, false, ◌&&◌, ◌==◌, nat_eq, Option, Some, None, slice_index, is_some}
use Rattle.nb_engine.proofs.Common.{number_in, part, Image, Slot, Spot, is_used, file_in, spots_of, first_such, last_such, free_spot, eq_yes, HistoryRow, Room, Walked, row_in, row_at, room_at, meets, gathered}
use Rattle.nb_walk.proofs.FirstLaws.{stays, misses, hits}
use Rattle.nb_engine.specs.declared.rows.Wanted.{Wanted}

-- a row, by its fields
abbrev pub row_of : (time level : ℕ) (guid : List ℕ) (scn : ℕ) (name : List ℕ) → HistoryRow
row_of time level guid scn name = record { time = time; level = level; guid = guid; scn = scn; name = name }

pub row_is : (slot : Slot) (time level : ℕ) (guid : List ℕ) (scn : ℕ) (name : List ℕ) → time ≡ number_in 8 8 slot → level ≡ slice_index slot 1 → guid ≡ part 16 16 slot → scn ≡ number_in 4 4 slot → name ≡ file_in slot
    → row_of time level guid scn name ≡ row_in slot
row_is slot time level guid scn name a b c d e =
    ap (λ (x : ℕ). row_of x level guid scn name) a ∙ ap (λ (x : ℕ). row_of (number_in 8 8 slot) x guid scn name) b ∙ ap (λ (x : List ℕ). row_of (number_in 8 8 slot) (slice_index slot 1) x scn name) c
    ∙ ap (λ (x : ℕ). row_of (number_in 8 8 slot) (slice_index slot 1) (part 16 16 slot) x name) d ∙ ap (λ (x : List ℕ). row_of (number_in 8 8 slot) (slice_index slot 1) (part 16 16 slot) (number_in 4 4 slot) x) e

-- the last that passes a test, and one more after the list
module _ {X : Type 0} (test : X → Bool) (x : X) where
  pub last_hit : (xs : List X) → test x ≡ true → last_such test (xs ++ x ∷ []) ≡ Some x
  unfolding last_such
  last_hit [] e = ap (λ (t : Bool). elim t as (λ z. Option X) [ true ↦ Some x | false ↦ None ]) e
  last_hit (y ∷ ys) e = ap (λ (o : Option X). elim o as (λ z. Option X) [ Some z ↦ Some z | None ↦ elim (test y) as (λ z. Option X) [ true ↦ Some y | false ↦ None ] ]) (last_hit ys e)

  pub last_miss : (xs : List X) → test x ≡ false → last_such test (xs ++ x ∷ []) ≡ last_such test xs
  unfolding last_such
  last_miss [] e = ap (λ (t : Bool). elim t as (λ z. Option X) [ true ↦ Some x | false ↦ None ]) e
  last_miss (y ∷ ys) e = ap (λ (o : Option X). elim o as (λ z. Option X) [ Some z ↦ Some z | None ↦ elim (test y) as (λ z. Option X) [ true ↦ Some y | false ↦ None ] ]) (last_miss ys e)

abbrev pub walked_of : Option HistoryRow → Option Room → Walked
walked_of row room = record { row = row; room = room }

both : (a b : Option HistoryRow) (c d : Option Room) → a ≡ b → c ≡ d → walked_of a c ≡ walked_of b d
both a b c d e f = ap (λ (x : Option HistoryRow). walked_of x c) e ∙ ap (walked_of b) f

-- What a walk has come by is what these slots gave, and it comes by one more.
module _ (wanted : Wanted) (ss : List Spot) (s : Spot) (old : Walked) (is : old ≡ gathered wanted ss) where
  abbrev taken : Spot → Bool
  taken x = is_used x.bytes && meets wanted (row_in x.bytes)

  abbrev unused : Spot → Bool
  unused x = nat_eq (slice_index x.bytes 0) 0

  abbrev place : Room
  place = record { page = s.page; slot = s.slot }

  abbrev more : List Spot
  more = ss ++ s ∷ []

  -- a free slot is of no row
  free_not : slice_index s.bytes 0 ≡ 0 → taken s ≡ false
  free_not e = ap (λ (n : ℕ). n == 1 && meets wanted (row_in s.bytes)) e

  row_kept : taken s ≡ false → old.row ≡ row_at (last_such taken more)
  row_kept e = ap (λ (x : Walked). x.row) is ∙ ap row_at (sym (last_miss taken s ss e))

  room_is : old.room ≡ room_at (first_such unused ss)
  unfolding free_spot
  room_is = ap (λ (x : Walked). x.room) is

  room_kept : unused s ≡ false → old.room ≡ room_at (free_spot more)
  unfolding free_spot
  room_kept e = misses room_at unused ss s old.room room_is refl (λ x. refl) e

  -- the first free slot
  pub free_first : is_some old.room ≡ false → slice_index s.bytes 0 ≡ 0 → walked_of old.row (Some place) ≡ gathered wanted more
  unfolding free_spot
  free_first none e = both _ _ _ _ (row_kept (free_not e)) (hits room_at unused ss s old.room room_is refl (λ x. refl) none (eq_yes (slice_index s.bytes 0) 0 e))

  -- a free slot more
  pub free_more : is_some old.room ≡ true → slice_index s.bytes 0 ≡ 0 → old ≡ gathered wanted more
  unfolding free_spot
  free_more some e = both _ _ _ _ (row_kept (free_not e)) (stays room_at unused ss s old.room room_is refl (λ x. refl) some)

  -- a row that is looked for
  pub used_met : slice_index s.bytes 0 ≡ 1 → meets wanted (row_in s.bytes) ≡ true → walked_of (Some (row_in s.bytes)) old.room ≡ gathered wanted more
  used_met e met =
      both _ _ _ _ (sym (ap row_at (last_hit taken s ss (ap (λ (n : ℕ). n == 1 && meets wanted (row_in s.bytes)) e ∙ met)))) (room_kept (ap (λ (n : ℕ). nat_eq n 0) e))

  -- another row
  pub used_other : slice_index s.bytes 0 ≡ 1 → meets wanted (row_in s.bytes) ≡ false → old ≡ gathered wanted more
  used_other e other =
      both _ _ _ _ (row_kept (ap (λ (n : ℕ). n == 1 && meets wanted (row_in s.bytes)) e ∙ other)) (room_kept (ap (λ (n : ℕ). nat_eq n 0) e))

-- a walk has come by the slots of these pages
abbrev pub Gathers : Wanted → Image → Walked → List ℕ → Type 0
Gathers wanted image walked ps = walked ≡ gathered wanted (spots_of image ps)

-- of none yet
pub gathered_none : (wanted : Wanted) (image : Image) → Gathers wanted image (walked_of None None) []
unfolding first_such last_such free_spot spots_of
gathered_none wanted image = refl
