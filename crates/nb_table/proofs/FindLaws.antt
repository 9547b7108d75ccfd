-- A table or a row that was looked for: it is found, or there is none.
use Rattle.std.proofs.Common.{◌≡◌, ℕ, [], ◌∷◌, refl, sym, ap, ◌∙◌, Option, Some, None, is_none}
use Rattle.nb_table.proofs.Common.{Refusal, NoKey, Image, Cause, first_cause, when, broken_at, Spot, RowsFrom, pages_of, spots, row_spot, Found, found_of, spot_of, found_at, first_here, first_next, no_cause, some_none, some_same}

-- why a row isn't found, and that it is
abbrev pub row_cause : Image → (first key : ℕ) → Cause
row_cause image first key = first_cause (broken_at (pages_of (RowsFrom first) image) ∷ when (is_none (row_spot key (spots (RowsFrom first) image))) (NoKey key) ∷ [])

abbrev pub row_found : Image → (first key : ℕ) → Option Spot
row_found image first key = row_spot key (spots (RowsFrom first) image)

-- what a walk has found, by the slot that is looked for
pub found_some : (o : Option Spot) (f : Found) → Some f ≡ found_at o → o ≡ Some (spot_of f)
found_some None f e = absurd (some_none f e)
found_some (Some s) f e = ap (λ (x : Found). Some (spot_of x)) (sym (some_same f (found_of s) e))

pub found_none : (o : Option Spot) → None ≡ found_at o → o ≡ None
found_none None e = refl
found_none (Some s) e = absurd (some_none (found_of s) (sym e))

-- the refusals of a search: the chain is broken, or nothing is found
module _ (broken : Cause) (o : Option Spot) (missing : Refusal) where
  abbrev pub search_cause : Cause
  search_cause = first_cause (broken ∷ when (is_none o) missing ∷ [])

  pub search_broken : (r : Refusal) → broken ≡ Some r → search_cause ≡ Some r
  search_broken r e = first_here broken (when (is_none o) missing ∷ []) r e

  pub search_missing : broken ≡ None → o ≡ None → search_cause ≡ Some missing
  search_missing whole none = first_next broken (when (is_none o) missing ∷ []) whole ∙ first_here (when (is_none o) missing) [] missing (ap (λ (x : Option Spot). when (is_none x) missing) none)

  pub search_found : (s : Spot) → broken ≡ None → o ≡ Some s → search_cause ≡ None
  search_found s whole some = first_next broken (when (is_none o) missing ∷ []) whole ∙ first_next (when (is_none o) missing) [] (ap (λ (x : Option Spot). when (is_none x) missing) some) ∙ no_cause

  -- what a search that isn't refused says
  pub search_whole : search_cause ≡ None → broken ≡ None
  search_whole e = by broken refl
    where
      by : (c : Cause) → broken ≡ c → broken ≡ None
      by None d = d
      by (Some r) d = absurd (some_none r (sym (search_broken r d) ∙ e))
