-- Which calls a twin refuses, and which it follows.
use Rattle.std.specs.Prelude.{◌≡◌, ◌⊎◌, ℕ, ◌+◌, ◌-◌, ◌^◌, ◌≤◌, min, Bool, true, false, List, Option, Some, None, Result, Ok, Err, IsErr, OnErr, MatchResult}
use Rattle.nb_host.specs.Causes.{FaultCount, Rose}
use Rattle.nb_shadow.specs.declared.pair.Pairs.{Pairs}
use Rattle.nb_shadow.specs.Pairs.{HasNoTwin, HasTwin, IsNoTwin, IsTwinName, IsTwinOf}

-- one more was counted; at the last value of a `u64` the count stands still
pub record Raised (before after : ℕ) : Type 0 where
  pub risen : min (before + 1) (2 ^ 64 - 1) ≤ after
  pub no_lower : before ≤ after

-- a file with no twin: nothing has changed
pub record EntersAlone (ps : Pairs) (name : List ℕ) (was is : Bool) (before after : ℕ) : Type 0 where
  pub no_twin : IsNoTwin ps name
  pub has_none : HasNoTwin ps name
  pub same : is ≡ was
  pub count : after ≡ before

-- a file whose twin wasn't behind: it is until it has followed
pub record EntersBoth (ps : Pairs) (name copy : List ℕ) (was is : Bool) (before after : ℕ) : Type 0 where
  pub no_twin : IsNoTwin ps name
  pub of : IsTwinOf ps name copy
  pub kept_up : was ≡ false
  pub until : is ≡ true
  pub count : after ≡ before

-- what is refused: a twin's own name, and while the twin is behind a file that has one
abbrev pub IsRefused : Pairs → List ℕ → (behind : Bool) → Type 0
IsRefused ps name behind = IsTwinName ps name ⊎ (HasTwin ps name × (behind ≡ true))

pub record Refuses (ps : Pairs) (name : List ℕ) (was is : Bool) (before after : ℕ) : Type 0 where
  pub why : IsRefused ps name was
  pub same : is ≡ was
  pub count : Raised before after

abbrev pub Enters : {E : Type 0} → Pairs → (name : List ℕ) → Result (Option (List ℕ)) E → (was is : Bool) (before after : ℕ) → Type 0
Enters ps name (Ok None) was is before after = EntersAlone ps name was is before after
Enters ps name (Ok (Some copy)) was is before after = EntersBoth ps name copy was is before after
Enters ps name (Err e) was is before after = Refuses ps name was is before after

-- What a change comes to for the twin, which was behind or not and is, over a host that was `old` and is `new`.
pub record Follows {H T E : Type 0} (faults : H → FaultCount) (result : Result T E) (ps : Pairs) (name : List ℕ) (was is : Bool) (old new : H) : Type 0 where
  -- while the twin isn't behind, a call on another name than a twin's fails only where the host did
  pub blame : OnErr result (was ≡ false → IsNoTwin ps name → Rose (faults old) (faults new))
  -- where one of the two calls failed, the twin is behind from then on
  pub behind : MatchResult result (λ _. is ≡ was) (λ _. HasTwin ps name → is ≡ true)
  -- what is refused fails, and the host isn't called
  pub refuses : IsRefused ps name was → IsErr result × (new ≡ old)

-- What a call on a file that changes nothing comes to.
pub record Asks {H T E : Type 0} (faults : H → FaultCount) (result : Result T E) (ps : Pairs) (name : List ℕ) (old new : H) : Type 0 where
  -- on another name than a twin's it fails only where the host did
  pub blame : OnErr result (IsNoTwin ps name → Rose (faults old) (faults new))
  -- on a twin's it fails, and the host isn't called
  pub refuses : IsTwinName ps name → IsErr result × (new ≡ old)
