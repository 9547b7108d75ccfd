-- Causes that aren't the refusal of words which name no job.
use Rattle.std.proofs.Common.{◌≢◌, ℕ, List, [], ◌∷◌, length, map, Bool, Option, Some, None, Result, Ok, Err, true, false, nat_lt, not, min, ◌/◌, ◌%◌, ◌==◌, ◌||◌}
use Rattle.nb_model.proofs.Common.{is_header, size_of, most_pages, AllByRecursion, Refusal, Usage, NotDatabase, Image, Cause, first_cause, when, read_only, not_raw, not_database, lowest_broken, runs_other, runs_any, broken_at, too_short, short_for, Chain, Spot, pages_of, unsound_by, check_cause, chains, some_same}
use Rattle.nb_model.specs.Facts.{unsound}

abbrev pub IsOther : Cause → Type 0
IsOther c = c ≢ Some Usage

pub none_other : IsOther None
none_other e = cc

pub other_first : (cs : List Cause) → AllByRecursion IsOther cs → IsOther (first_cause cs)
unfolding first_cause
other_first [] h = none_other
other_first (None ∷ cs) h = other_first cs h.1
other_first (Some r ∷ cs) h = h.0

pub other_when : (test : Bool) (r : Refusal) → r ≢ Usage → IsOther (when test r)
other_when true r h e = h (some_same r Usage e)
other_when false r h e = none_other e

-- nor is a file that can't be a database
pub other_database : (bytes : List ℕ) → IsOther (not_database bytes)
unfolding not_database
other_database bytes = by (is_header bytes)
  where
    pages : ℕ
    pages = length bytes / size_of bytes

    by : (t : Bool) → IsOther (elim t as (λ z. Cause) [
      | false ↦ Some (NotDatabase 0)
      | true ↦ first_cause (when (not (length bytes % size_of bytes == 0) || nat_lt pages 5) (NotDatabase (min pages most_pages)) ∷ when (nat_lt most_pages pages) (NotDatabase most_pages) ∷ [])
    ])
    by false = λ e. cc
    by true = other_first _ (other_when _ _ (λ e. cc), (other_when _ _ (λ e. cc), tt))

pub other_broken : (ps : List ℕ) → IsOther (lowest_broken ps)
unfolding lowest_broken
other_broken [] e = cc
other_broken (p ∷ ps) e = cc

pub other_raw : (image : Image) (p : ℕ) → IsOther (not_raw image p)
unfolding not_raw
other_raw image p = other_first _ (other_when _ _ (λ e. cc), (other_when _ _ (λ e. cc), (other_when _ _ (λ e. cc), (other_when _ _ (λ e. cc), tt))))

pub other_read_only : (image : Image) → IsOther (read_only image)
other_read_only image = other_when _ _ (λ e. cc)

pub other_runs : (running : Option ℕ) (session : ℕ) → IsOther (runs_other running session)
other_runs None session = none_other
other_runs (Some other) session = other_when _ _ (λ e. cc)

pub other_short : (image : Image) → IsOther (too_short image)
other_short image = other_when _ _ (λ e. cc)

pub other_short_for : (room : Option Spot) (image : Image) → IsOther (short_for room image)
other_short_for (Some s) image = none_other
other_short_for None image = other_short image

pub other_pages : (pages : Result (List ℕ) ℕ) → IsOther (broken_at pages)
other_pages (Ok ps) = none_other
other_pages (Err p) = λ e. cc

pub other_runs_any : (running : Option ℕ) → IsOther (runs_any running)
other_runs_any None = none_other
other_runs_any (Some other) = λ e. cc

-- nor is a check, or a reclaim
other_unsound : (broken : Option (ℕ × ℕ)) → IsOther (unsound_by broken)
other_unsound None = none_other
other_unsound (Some broken) = λ e. cc

other_chains : (image : Image) (cs : List Chain) → AllByRecursion IsOther (map (λ c. broken_at (pages_of c image)) cs)
other_chains image [] = tt
other_chains image (c ∷ cs) = (other_pages (pages_of c image), other_chains image cs)

pub other_check : (image : Image) → IsOther (check_cause image)
other_check image = other_first _ (other_unsound (unsound image), (other_first _ (other_chains image (chains image)), tt))
