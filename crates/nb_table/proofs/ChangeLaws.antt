-- What a row's turn does, once its table's rows are come by.
use Rattle.std.proofs.Common.{◌≡◌, ℕ, List, [], ◌∷◌, refl, sym, ap, ◌∙◌, true, false, Option, Some, None, Result, Ok, Err, IfOk, is_some}
use Rattle.nb_table.proofs.Common.{data_kind, World, Fault, Refusal, KeyExists, NoKey, Refused, Done, Image, Trail, Draft, drafted, Cause, when, read_only, too_long, not_kind, not_of_form, no_room, broken_at, short_for, Chain, RowsFrom, Slot, Spot, pages_of, found_pages, spots, table_spot, row_spot, free_spot, first_in, row_slot, free_slot, put_slot, place_slot, Seen, Outcome, says, unless, changes, with_spot, in_row, insert_turn, update_turn, delete_turn, Held, Does, entry_cause, done, StopsShort, Tries, WhereMemory, refused_by, judged_by, seeing, tries_does, tries_stops, slot_alone, Found, Row, Walked, rows_cause, place_cause, gathered, found_at, place_at, row_kind, applies, first_here, first_next, no_cause, when_false}
use Rattle.nb_table.proofs.InTableLaws.{table_refused, table_goes_from}
use Rattle.nb_table.proofs.PlaceLaws.{IsPlaceOf, found_some, found_there}

-- what is said is `ok`
pub said : (result : Result (Unit {0}) Fault) → IfOk result (λ value. done value ≡ Done)
said (Ok value) = refl
said (Err fault) = tt

-- A row is looked for to be written.
module _ (s : Seen) (chain : Chain) (key : ℕ) (bytes : Slot) where
  abbrev image : Image
  image = s.base.image

  abbrev row_by : Option Spot → Outcome
  row_by o = with_spot s o (NoKey key) (λ row. changes s [] (put_slot row.page row.slot bytes (drafted image)) Done)

  -- it isn't there
  pub row_missing : row_spot key (spots chain image) ≡ None → in_row s chain key bytes ≡ says s (Refused (NoKey key)) []
  unfolding in_row with_spot
  row_missing none = ap row_by none

  -- its slot is written
  pub row_written : (row : Spot) → row_spot key (spots chain image) ≡ Some row → in_row s chain key bytes ≡ unless s (entry_cause image row.page) (says s Done (put_slot row.page row.slot bytes (drafted image)).strokes)
  unfolding in_row with_spot
  row_written row found =
      ap row_by found ∙ judged_by s [] (put_slot row.page row.slot bytes (drafted image)) Done no_cause
      ∙ ap (λ (c : Cause). unless s c (says s Done (put_slot row.page row.slot bytes (drafted image)).strokes)) (slot_alone image row.page row.slot bytes)

-- the page of a row that was found is a data page
pub found_kind : (image : Image) (chain : Chain) → broken_at (pages_of chain image) ≡ None → (key : ℕ) (row : Found) → Some row ≡ found_at (row_spot key (spots chain image)) → not_kind image data_kind row.place.page ≡ None
found_kind image chain formed key row found =
    let at = found_some (row_spot key (spots chain image)) row found in
    ap (λ (n : ℕ). not_kind image data_kind n) at.page ∙ row_kind chain image formed key at.spot at.is

-- the turn that writes its slot, by the place that was found
row_turn : (s : Seen) (chain : Chain) (key : ℕ) (bytes : Slot) (row : Found) → Some row ≡ found_at (row_spot key (spots chain s.base.image))
    → in_row s chain key bytes ≡ unless s (entry_cause s.base.image row.place.page) (says s Done (put_slot row.place.page row.place.slot bytes (drafted s.base.image)).strokes)
row_turn s chain key bytes row found =
    row_written s chain key bytes at.spot at.is
    ∙ ap (λ (n : ℕ). unless s (entry_cause image n) (says s Done (put_slot at.spot.page at.spot.slot bytes (drafted image)).strokes)) (sym at.page)
    ∙ ap (λ (d : Draft). unless s (entry_cause image row.place.page) (says s Done d.strokes)) (sym are)
  where
    image : Image
    image = s.base.image

    at : IsPlaceOf (row_spot key (spots chain image)) row.place
    at = found_some (row_spot key (spots chain image)) row found

    are : put_slot row.place.page row.place.slot bytes (drafted image) ≡ put_slot at.spot.page at.spot.slot bytes (drafted image)
    are = ap (λ (n : ℕ). put_slot n row.place.slot bytes (drafted image)) at.page ∙ ap (λ (n : ℕ). put_slot at.spot.page n bytes (drafted image)) at.slot

-- so a call that writes it does that, and where memory runs out it stops before the last of its strokes
module _ (result : Result (Unit {0}) Fault) (old new : World) (a b : Held) (t : Trail) (s : Seen) (chain : Chain) (key : ℕ) (bytes : Slot) (row : Found) (same : t.base ≡ s.base) (found : Some row ≡ found_at (row_spot key (spots chain t.base.image)))
    (tries : Tries result old new a b t (entry_cause t.base.image row.place.page) (put_slot row.place.page row.place.slot bytes (drafted t.base.image)).strokes) where
  pub row_does : Does done result old new a b t (in_row s chain key bytes)
  row_does =
      tries_does done result old new a b t s (λ (x : Seen). in_row x chain key bytes) (entry_cause t.base.image row.place.page) Done refl (put_slot row.place.page row.place.slot bytes (drafted t.base.image)).strokes same
      (row_turn (seeing s t.base) chain key bytes row found) (said result) tries

  pub row_stops : WhereMemory result (StopsShort old new a b t (in_row s chain key bytes).strokes)
  row_stops =
      tries_stops result old new a b t s (λ (x : Seen). in_row x chain key bytes) (entry_cause t.base.image row.place.page) Done (put_slot row.place.page row.place.slot bytes (drafted t.base.image)).strokes same
      (row_turn (seeing s t.base) chain key bytes row found) tries

-- A row is added.
module _ (s : Seen) (chain : Chain) (key : ℕ) (bytes : Slot) where
  abbrev now : Image
  now = s.base.image

  abbrev into : Draft
  into = place_slot chain (found_pages chain now) bytes (drafted now)

  abbrev known : Cause
  known = when (is_some (row_spot key (spots chain now))) (KeyExists key)

  -- a new page is made for it, and the database is too short for one
  abbrev short : Cause
  short = short_for (free_spot (spots chain now)) now

  abbrev pub adding : Outcome
  adding = changes s (known ∷ short ∷ []) into Done

  -- its key is there already
  pub key_known : is_some (row_spot key (spots chain now)) ≡ true → adding ≡ says s (Refused (KeyExists key)) []
  key_known e = refused_by s (known ∷ short ∷ []) into Done (KeyExists key) (first_here known (short ∷ []) (KeyExists key) (applies _ _ e))

  -- or it isn't, and the row is placed
  pub key_new : is_some (row_spot key (spots chain now)) ≡ false → adding ≡ unless s (place_cause chain now bytes) (says s Done into.strokes)
  unfolding changes
  key_new e = ap (λ (c : Cause). unless s c (says s Done into.strokes)) (first_next known (short ∷ not_of_form into ∷ no_room into ∷ []) (when_false _ _ e))

-- What a walk for a key came by.
module _ (first key : ℕ) (ss : List Spot) (walked : Walked) (is : walked ≡ gathered (Row first key) ss) where
  pub walked_found : walked.found ≡ found_at (row_spot key ss)
  unfolding row_spot
  walked_found = ap (λ (x : Walked). x.found) is

  pub walked_room : walked.room ≡ place_at (free_spot ss)
  walked_room = ap (λ (x : Walked). x.room) is

  pub walked_key : is_some walked.found ≡ is_some (row_spot key ss)
  walked_key = ap (λ (o : Option Found). is_some o) walked_found ∙ found_there (row_spot key ss)

-- The turns, by what was tested.
module _ (s : Seen) (table : List ℕ) (key : ℕ) (text : List ℕ) where
  abbrev seen : Image
  seen = s.base.image

  abbrev tests : Cause
  tests = rows_cause seen (read_only seen) table (too_long text)

  pub insert_refused : (r : Refusal) → tests ≡ Some r → insert_turn s table key text ≡ says s (Refused r) []
  unfolding insert_turn
  insert_refused r e = table_refused s (read_only seen) table (too_long text) _ r e

  pub insert_goes : tests ≡ None → (spot : Spot) → table_spot table seen ≡ Some spot → (first : ℕ) → first ≡ first_in spot.bytes → (bytes : Slot) → bytes ≡ row_slot key text
      → insert_turn s table key text ≡ adding s (RowsFrom first) key bytes
  unfolding insert_turn
  insert_goes none spot at first e bytes are = table_goes_from s (read_only seen) table (too_long text) _ none spot at first e ∙ ap (λ (bs : Slot). adding s (RowsFrom first) key bs) (sym are)

  pub update_refused : (r : Refusal) → tests ≡ Some r → update_turn s table key text ≡ says s (Refused r) []
  unfolding update_turn
  update_refused r e = table_refused s (read_only seen) table (too_long text) _ r e

  pub update_goes : tests ≡ None → (spot : Spot) → table_spot table seen ≡ Some spot → (first : ℕ) → first ≡ first_in spot.bytes → (bytes : Slot) → bytes ≡ row_slot key text
      → update_turn s table key text ≡ in_row s (RowsFrom first) key bytes
  unfolding update_turn
  update_goes none spot at first e bytes are = table_goes_from s (read_only seen) table (too_long text) _ none spot at first e ∙ ap (λ (bs : Slot). in_row s (RowsFrom first) key bs) (sym are)

module _ (s : Seen) (table : List ℕ) (key : ℕ) where
  abbrev image_seen : Image
  image_seen = s.base.image

  pub delete_refused : (r : Refusal) → rows_cause image_seen (read_only image_seen) table (too_long []) ≡ Some r → delete_turn s table key ≡ says s (Refused r) []
  unfolding delete_turn
  delete_refused r e = table_refused s (read_only image_seen) table None _ r e

  pub delete_goes : rows_cause image_seen (read_only image_seen) table (too_long []) ≡ None → (spot : Spot) → table_spot table image_seen ≡ Some spot → (first : ℕ) → first ≡ first_in spot.bytes → (bytes : Slot) → bytes ≡ free_slot
      → delete_turn s table key ≡ in_row s (RowsFrom first) key bytes
  unfolding delete_turn
  delete_goes none spot at first e bytes are = table_goes_from s (read_only image_seen) table None _ none spot at first e ∙ ap (λ (bs : Slot). in_row s (RowsFrom first) key bs) (sym are)
