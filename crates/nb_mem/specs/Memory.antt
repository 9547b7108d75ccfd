-- A host in memory, as contracts see it.
use Rattle.std.specs.Prelude.{◌≡◌, ◌⊎◌, ℕ, ◌+◌, ◌-◌, ◌^◌, min, Bool, true, false, ◌||◌, ◌==◌, nat_le, List, [], ◌∷◌, Option, None, Some, Result, MatchResult}
use Rattle.std.specs.List.{list_any}
use Rattle.nb_host.specs.Causes.{CountsFault, own_count}
use Rattle.nb_mem.specs.declared.entry.Entry.{Entry}

pub record Memory : Type 0 where
  -- the calls that were answered with no fault, the newest first
  pub history : List Entry
  -- how many calls there were, how many failed, and how many of these for want of memory
  pub calls : ℕ
  pub faults : ℕ
  pub shortages : ℕ
  -- the numbers of the calls that fail, and the number from which on each call fails
  pub failing : List ℕ
  pub stop : Option ℕ

-- before the first call, with the numbers of the calls that are to fail
abbrev pub fresh : List ℕ → Option ℕ → Memory
fresh failing stop = record { history = []; calls = 0; faults = 0; shortages = 0; failing = failing; stop = stop }

-- one more; at the last value of a `u64` the count stands still
abbrev pub raised : ℕ → ℕ
raised count = min (count + 1) (2 ^ 64 - 1)

-- whether the call of that number comes after the last that may succeed
abbrev pub is_stopped : Option ℕ → ℕ → Bool
is_stopped None number = false
is_stopped (Some stop) number = nat_le stop number

-- whether the call of that number is to fail
abbrev pub is_due : List ℕ → Option ℕ → ℕ → Bool
is_due failing stop number = list_any (λ n. n == number) failing || is_stopped stop number

-- whether the next call is to fail
abbrev pub is_next_due : Memory → Bool
is_next_due m = is_due m.failing m.stop (raised m.calls)

-- The call was counted. It failed exactly where it was to fail, or where memory ran out in it; then nothing else changed.
-- Else it stands in the history, and the counts of faults stay.
pub record Answers {T E : Type 0} (result : Result T E) (old new : Memory) (entry : Entry) : Type 0 where
  pub cause : CountsFault result (own_count old.faults) (own_count new.faults)
  pub exact : MatchResult result
      (λ _. (is_next_due old ≡ false) × (new ≡ record old { history = entry ∷ old.history; calls = raised old.calls }))
      (λ _. ((is_next_due old ≡ true) × (new ≡ record old { calls = raised old.calls; faults = raised old.faults }))
      ⊎ ((is_next_due old ≡ false) × (new ≡ record old { calls = raised old.calls; faults = raised old.faults; shortages = raised old.shortages })))
