-- Agents in a list, by their sessions.
use Rattle.std.proofs.Common.{◌≡◌, ◌≢◌, ◌<◌, ◌≤◌, ◌+◌, ◌-◌, ◌*◌, ◌^◌, ℕ, zero, suc, List, [], ◌∷◌, length, take, drop, get_or, ◌⊎◌, inl, inr, Some, Result, Ok, Err, OnOk, slice_get, slice_set, refl, ap, sym, ◌∙◌, subst, arith}
use Rattle.nb_sched.proofs.Common.{AllByRecursion, range_with_len, RunError, scene, Kind, agent_of, IsLower, Rests, IsReady, total}
use Rattle.std.proofs.lemmas.Bool.{cases_lt}
use Rattle.std.proofs.lemmas.List.Sums.{sum_by-set}
use Rattle.std.proofs.lemmas.Option.{slice_get-get_or, slice_get_within, get_or_from_slice_get}

-- an agent has the session after its place
pub agent_there : {A : Type 0} (agents : List A) (session : ℕ) (agent : A) → agent_of agents session ≡ Some agent → (0 < session) × (slice_get agents (session - 1) ≡ Some agent)
agent_there agents zero agent there = absurd cc
agent_there agents (suc place) agent there = let same : suc place - 1 ≡ place = omega arith in (omega arith, rw same there)

-- the agent that is read at the place before a session
pub agent_read : {A : Type 0} (agents : List A) (session place : ℕ) (other : A) → (1 ≤ session) × (place ≡ session - 1) → place < length agents → agent_of agents session ≡ Some (get_or agents place other)
agent_read agents zero place other is within = absurd (omega arith)
agent_read agents (suc n) place other is within =
    let same : place ≡ n = omega arith in
    rw (← same) (slice_get-get_or agents place other within)

-- an agent that is there is the same, whatever stands for one that isn't
pub get_or_any : {A : Type 0} (agents : List A) (place : ℕ) (a b : A) → place < length agents → get_or agents place a ≡ get_or agents place b
get_or_any agents place a b within = cc (slice_get-get_or agents place a within, slice_get-get_or agents place b within)

-- what stands at j after a write at i: what was written, or what stood there
get_of_set : {A : Type 0} (xs : List A) (i j : ℕ) (y z : A) → slice_get (slice_set xs i y) j ≡ Some z → ((j ≡ i) × (z ≡ y)) ⊎ ((j ≢ i) × (slice_get xs j ≡ Some z))
get_of_set [] i j y z there = absurd cc
get_of_set (x ∷ xs) zero zero y z there = inl (refl, cc)
get_of_set (x ∷ xs) zero (suc j) y z there = inr (omega arith, there)
get_of_set (x ∷ xs) (suc i) zero y z there = inr (omega arith, there)
get_of_set (x ∷ xs) (suc i) (suc j) y z there =
    elim (get_of_set xs i j y z there) [ inl here ↦ inl (ap suc here.0, here.1) | inr other ↦ inr (λ same. other.0 (omega arith), other.1) ]

-- the agent of a session once that of another was written anew
pub agent_of_set : {A : Type 0} (agents : List A) (session other : ℕ) (moved agent : A) → 0 < session → agent_of (slice_set agents (session - 1) moved) other ≡ Some agent
    → ((other ≡ session) × (agent ≡ moved)) ⊎ ((other ≢ session) × (agent_of agents other ≡ Some agent))
agent_of_set agents session zero moved agent above there = absurd cc
agent_of_set agents session (suc place) moved agent above there =
    elim (get_of_set agents (session - 1) place moved agent there) [ inl here ↦ inl (omega (arith, here.0), here.1) | inr other ↦ inr (λ same. other.0 (omega arith), other.1) ]

module _ {A : Type 0} (left : A → ℕ × ℕ) where
  -- a session past the last agent has none
  pub rests_past : (agents : List A) (session : ℕ) → length agents < session → Rests left agents session
  rests_past agents zero past agent there = absurd cc
  rests_past agents (suc place) past agent there = let within = slice_get_within agents place agent there in absurd (omega arith)

  -- each after some rests, where those up to a number do and those past it
  pub rests_behind : (agents : List A) (count most : ℕ) → ((session : ℕ) → most < session → Rests left agents session) → ((session : ℕ) → count < session → session ≤ most → Rests left agents session)
      → (session : ℕ) → count < session → Rests left agents session
  rests_behind agents count most past upto session from = elim (cases_lt most session) [ inl beyond ↦ past session beyond | inr within ↦ upto session from within ]

  -- where less is left to one agent, less is left to all
  pub total_falls : (agents : List A) (session : ℕ) (agent moved : A) → agent_of agents session ≡ Some agent → IsLower (left moved) (left agent) → total left (slice_set agents (session - 1) moved) < total left agents
  total_falls agents session agent moved is lower =
      let there = (agent_there agents session agent is).1 in
      let weight : A → ℕ = λ a. (left a).0 * 2 ^ 64 + (left a).1 in
      let sums = sum_by-set weight agents (session - 1) moved agent (slice_get_within agents (session - 1) agent there) in
      let old = ap weight (get_or_from_slice_get agents (session - 1) agent agent there) in
      let range = lower.in_range in
      elim lower.falls [ inl first ↦ omega (arith, sums, old, range, first) | inr second ↦ omega (arith, sums, old, range, second.0, second.1) ]

-- What is said of each number of a range, of those after some, and of the last of the first ones.
module _ (P : ℕ → Type 0) where
  all_in : (first n : ℕ) → ((m : ℕ) → first ≤ m → P m) → AllByRecursion P (range_with_len first n)
  all_in first zero all = tt
  all_in first (suc n) all = (all first (omega arith), all_in (first + 1) n (λ m from. all m (omega arith)))

  pub all_behind : (first n count : ℕ) → ((m : ℕ) → first + count ≤ m → P m) → AllByRecursion P (drop count (range_with_len first n))
  all_behind first n zero all = all_in first n (λ m from. all m (omega arith))
  all_behind first zero (suc count) all = tt
  all_behind first (suc n) (suc count) all = all_behind (first + 1) n count (λ m from. all m (omega arith))

  pub last_of : (first n count : ℕ) → count < n → AllByRecursion P (take (suc count) (range_with_len first n)) → P (first + count)
  last_of first zero count within all = absurd (omega arith)
  last_of first (suc n) zero within all = let same : first ≡ first + 0 = omega arith in subst P same all.0
  last_of first (suc n) (suc count) within all = let same : first + 1 + count ≡ first + suc count = omega arith in subst P same (last_of (first + 1) n count (omega arith) all.1)

module _ {A H C : Type 0} (of : Kind A H C)
    (keeps_others : (mover other : A) (host : H) (shared : C) (moved : A) (host' : H) (shared' : C)
    → of.session other ≢ of.session mover → of.fits mover host shared → of.fits other host shared
    → of.step mover host shared (Ok tt) moved host' shared' → of.fits other host' shared') where
  -- after a turn that answers Ok all agents stand in their places and have what they need
  ready_again : (agents : List A) (session : ℕ) (agent moved : A) (host host' : H) (shared shared' : C)
      → IsReady of (scene agents host shared) → agent_of agents session ≡ Some agent
      → of.step agent host shared (Ok tt) moved host' shared' → of.fits moved host' shared' → of.session moved ≡ of.session agent
      → IsReady of (scene (slice_set agents (session - 1) moved) host' shared')
  ready_again agents session agent moved host host' shared shared' ready is made fit same =
      let above = (agent_there agents session agent is).0 in
      let mine : of.session agent ≡ session = ready.placed session agent is in
      record {
        placed = λ n b there. elim (agent_of_set agents session n moved b above there) [
          | inl here ↦ ap of.session here.1 ∙ same ∙ mine ∙ sym here.0
          | inr other ↦ ready.placed n b other.1
        ];
        fit = λ n b there. elim (agent_of_set agents session n moved b above there) [
          | inl here ↦ subst (λ (a : A). of.fits a host' shared') (sym here.1) fit
          | inr other ↦ keeps_others agent b host shared moved host' shared' (λ apart. other.0 (sym (ready.placed n b other.1) ∙ apart ∙ mine))
              (ready.fit session agent is) (ready.fit n b other.1) made
        ];
      }

  -- the same, whatever it answers
  pub ready_then : (agents : List A) (session : ℕ) (agent moved : A) (host host' : H) (shared shared' : C) (answer : Result (Unit {0}) RunError)
      → IsReady of (scene agents host shared) → agent_of agents session ≡ Some agent
      → of.step agent host shared answer moved host' shared' → OnOk answer (of.fits moved host' shared') → of.session moved ≡ of.session agent
      → OnOk answer (IsReady of (scene (slice_set agents (session - 1) moved) host' shared'))
  ready_then agents session agent moved host host' shared shared' (Ok done) ready is made fit same = ready_again agents session agent moved host host' shared shared' ready is made fit same
  ready_then agents session agent moved host host' shared shared' (Err error) ready is made fit same = tt
