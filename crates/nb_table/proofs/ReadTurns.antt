-- The turns that read rows, by what is found on the way.
use Rattle.std.proofs.Common.{◌≡◌, ℕ, List, [], ◌∷◌, refl, ap, ◌∙◌, Option, Some, None}
use Rattle.nb_table.proofs.Common.{Refusal, NoTable, NoKey, Refused, Value, Image, Cause, first_cause, broken_at, Chain, Catalogue, RowsFrom, Spot, pages_of, spots, table_spot, row_spot, first_in, text_in, Seen, Outcome, says, unless, rows_in, with_spot, in_table, get_turn, scan_turn, unless_refused, unless_allowed, first_next, one_cause}
use Rattle.nb_model.specs.declared.reply.Reply.TheVariants.{Rows}
use Rattle.nb_table.proofs.FindLaws.{search_cause, search_whole}

-- a slot that was looked for, by what was found
spot_some : (s : Seen) (o : Option Spot) (r : Refusal) (go : Spot → Outcome) (spot : Spot) → o ≡ Some spot → with_spot s o r go ≡ go spot
unfolding with_spot
spot_some s o r go spot e = ap (λ (x : Option Spot). with_spot s x r go) e

-- a search that is refused
searched : (s : Seen) (broken : Cause) (o : Option Spot) (missing : Refusal) (go : Spot → Outcome) (r : Refusal) → search_cause broken o missing ≡ Some r → unless s broken (with_spot s o missing go) ≡ says s (Refused r) []
unfolding with_spot unless first_cause
searched s (Some q) o missing go r e = ap (λ (c : Cause). unless s c (with_spot s o missing go)) e
searched s None None missing go r e = ap (λ (c : Cause). unless s c (with_spot s None missing go)) e
searched s None (Some spot) missing go r e = cc

module _ (s : Seen) (table : List ℕ) (go : Spot → Chain → Outcome) where
  abbrev image : Image
  image = s.base.image

  abbrev turn : Outcome
  turn = in_table s None table None go

  abbrev chain : Spot → Chain
  chain spot = RowsFrom (first_in spot.bytes)

  abbrev behind : Spot → Outcome
  behind spot = unless s (broken_at (pages_of (chain spot) image)) (go spot (chain spot))

  abbrev tested : Spot → Outcome
  tested spot = unless s (first_cause (None ∷ broken_at (pages_of (chain spot) image) ∷ [])) (go spot (chain spot))

  abbrev searched_for : Outcome
  searched_for = with_spot s (table_spot table image) NoTable tested

  inner : (spot : Spot) → tested spot ≡ behind spot
  inner spot = ap (λ (c : Cause). unless s c (go spot (chain spot))) (first_next None (broken_at (pages_of (chain spot) image) ∷ []) refl ∙ one_cause (broken_at (pages_of (chain spot) image)))

  each : (o : Option Spot) → with_spot s o NoTable tested ≡ with_spot s o NoTable behind
  unfolding with_spot
  each None = refl
  each (Some spot) = inner spot

  turn_is : turn ≡ unless s (broken_at (pages_of Catalogue image)) (with_spot s (table_spot table image) NoTable behind)
  unfolding in_table
  turn_is =
      let c : Cause = broken_at (pages_of Catalogue image) in
      ap (λ (x : Cause). unless s x searched_for) (first_next None (c ∷ []) refl ∙ one_cause c) ∙ ap (λ (o : Outcome). unless s c o) (each (table_spot table image))

  -- the table isn't found
  pub table_missing : (r : Refusal) → search_cause (broken_at (pages_of Catalogue image)) (table_spot table image) NoTable ≡ Some r → turn ≡ says s (Refused r) []
  table_missing r e = turn_is ∙ searched s (broken_at (pages_of Catalogue image)) (table_spot table image) NoTable behind r e

  module _ (spot : Spot) (found : search_cause (broken_at (pages_of Catalogue image)) (table_spot table image) NoTable ≡ None) (at : table_spot table image ≡ Some spot) where
    pub table_found : turn ≡ behind spot
    table_found =
        turn_is ∙ unless_allowed s _ _ (search_whole (broken_at (pages_of Catalogue image)) (table_spot table image) NoTable found) ∙ spot_some s (table_spot table image) NoTable behind spot at

    -- its chain is broken
    pub table_broken : (r : Refusal) → broken_at (pages_of (chain spot) image) ≡ Some r → turn ≡ says s (Refused r) []
    table_broken r e = table_found ∙ unless_refused s _ _ r e

    pub table_whole : broken_at (pages_of (chain spot) image) ≡ None → turn ≡ go spot (chain spot)
    table_whole e = table_found ∙ unless_allowed s _ _ e

-- `get`
module _ (s : Seen) (table : List ℕ) (key : ℕ) where
  abbrev got : Spot → Outcome
  got row = says s (Value (text_in row.bytes)) []

  abbrev get_from : Spot → Chain → Outcome
  get_from spot chain = with_spot s (row_spot key (spots chain s.base.image)) (NoKey key) got

  pub get_missing : (r : Refusal) → search_cause (broken_at (pages_of Catalogue s.base.image)) (table_spot table s.base.image) NoTable ≡ Some r → get_turn s table key ≡ says s (Refused r) []
  unfolding get_turn
  get_missing r e = table_missing s table get_from r e

  module _ (spot : Spot) (found : search_cause (broken_at (pages_of Catalogue s.base.image)) (table_spot table s.base.image) NoTable ≡ None) (at : table_spot table s.base.image ≡ Some spot) where
    abbrev its : Chain
    its = RowsFrom (first_in spot.bytes)

    pub get_refused : (r : Refusal) → search_cause (broken_at (pages_of its s.base.image)) (row_spot key (spots its s.base.image)) (NoKey key) ≡ Some r → get_turn s table key ≡ says s (Refused r) []
    unfolding get_turn
    get_refused r e = table_found s table get_from spot found at ∙ searched s (broken_at (pages_of its s.base.image)) (row_spot key (spots its s.base.image)) (NoKey key) got r e

    pub get_says : (row : Spot) → search_cause (broken_at (pages_of its s.base.image)) (row_spot key (spots its s.base.image)) (NoKey key) ≡ None → row_spot key (spots its s.base.image) ≡ Some row
        → get_turn s table key ≡ says s (Value (text_in row.bytes)) []
    unfolding get_turn
    get_says row none e =
        table_whole s table get_from spot found at (search_whole (broken_at (pages_of its s.base.image)) (row_spot key (spots its s.base.image)) (NoKey key) none)
        ∙ spot_some s (row_spot key (spots its s.base.image)) (NoKey key) got row e

-- `scan`
module _ (s : Seen) (table : List ℕ) where
  abbrev scan_from : Spot → Chain → Outcome
  scan_from spot chain = says s (Rows (rows_in (spots chain s.base.image))) []

  pub scan_missing : (r : Refusal) → search_cause (broken_at (pages_of Catalogue s.base.image)) (table_spot table s.base.image) NoTable ≡ Some r → scan_turn s table ≡ says s (Refused r) []
  unfolding scan_turn
  scan_missing r e = table_missing s table scan_from r e

  module _ (spot : Spot) (found : search_cause (broken_at (pages_of Catalogue s.base.image)) (table_spot table s.base.image) NoTable ≡ None) (at : table_spot table s.base.image ≡ Some spot) where
    pub scan_broken : (r : Refusal) → broken_at (pages_of (RowsFrom (first_in spot.bytes)) s.base.image) ≡ Some r → scan_turn s table ≡ says s (Refused r) []
    unfolding scan_turn
    scan_broken r e = table_broken s table scan_from spot found at r e

    pub scan_says : broken_at (pages_of (RowsFrom (first_in spot.bytes)) s.base.image) ≡ None → scan_turn s table ≡ says s (Rows (rows_in (spots (RowsFrom (first_in spot.bytes)) s.base.image))) []
    unfolding scan_turn
    scan_says e = table_whole s table scan_from spot found at e
