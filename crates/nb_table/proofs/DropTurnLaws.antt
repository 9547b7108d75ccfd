-- The turn of a table that is dropped, by its causes.
use Rattle.std.proofs.Common.{◌≡◌, ℕ, List, [], ◌∷◌, refl, ap, ◌∙◌, Some, None}
use Rattle.nb_table.proofs.Common.{Refusal, Done, Refused, Cause, first_cause, broken_at, read_only, not_of_form, no_room, Chain, Catalogue, Spot, found_pages, free_slot, pages_of, put_slot, table_spot, drafted, Image, Seen, Outcome, says, unless, changes, all_given, drop_turn, no_first, judged_by, IsWholeTable, dropped, chain_cause, rows_cause, no_cause}
use Rattle.nb_table.proofs.DropCauseLaws.{dropped_full}
use Rattle.nb_table.proofs.InTableLaws.{chain_formed, table_refused, table_goes}

-- of two causes the first, where there is no second
alone : (a b : Cause) → b ≡ None → first_cause (a ∷ b ∷ []) ≡ a
unfolding first_cause
alone None b e = ap (λ (c : Cause). first_cause (c ∷ [])) e
alone (Some r) b e = refl

module _ (s : Seen) (table : List ℕ) where
  abbrev image : Image
  image = s.base.image

  abbrev tests : Cause
  tests = rows_cause image (read_only image) table None

  abbrev drops : Spot → Chain → Outcome
  drops spot chain = changes s [] (all_given (found_pages chain image) (put_slot spot.page spot.slot free_slot (drafted image))) Done

  pub drop_refused : (r : Refusal) → tests ≡ Some r → drop_turn s table ≡ says s (Refused r) []
  unfolding drop_turn
  drop_refused r e = table_refused s (read_only image) table None drops r e

  -- what was come by is a whole table
  pub whole_table : tests ≡ None → (spot : Spot) → table_spot table image ≡ Some spot → IsWholeTable image table spot
  whole_table none spot found = record {
    catalogue = (no_first (broken_at (pages_of Catalogue image)) (chain_cause image None (table_spot table image) ∷ []) (no_first (read_only image) (broken_at (pages_of Catalogue image) ∷ chain_cause image None (table_spot table image) ∷ []) none).1).0;
    found = found;
    formed = chain_formed image (read_only image) table None none spot found;
  }

  pub drop_says : tests ≡ None → (spot : Spot) → IsWholeTable image table spot → drop_turn s table ≡ unless s (not_of_form (dropped image spot)) (says s Done (dropped image spot).strokes)
  unfolding drop_turn
  drop_says none spot has =
      table_goes s (read_only image) table None drops none spot has.found ∙ judged_by s [] (dropped image spot) Done no_cause
      ∙ ap (λ (c : Cause). unless s c (says s Done (dropped image spot).strokes)) (alone (not_of_form (dropped image spot)) (no_room (dropped image spot)) (dropped_full image spot))
