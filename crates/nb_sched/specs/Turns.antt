-- Turns of several agents, one after another.
use Rattle.std.specs.Prelude.{◌≡◌, ◌<◌, ◌+◌, ◌-◌, ◌*◌, ◌^◌, ℕ, zero, suc, List, [], ◌∷◌, ◌++◌, ◌⊎◌, Option, Some, None, Result, Ok, Err, IsErr, OnOk, slice_get, slice_set}
use Rattle.std.specs.List.{sum_by}
use Rattle.nb_host.specs.declared.faults.RunError.{RunError}

-- no turn is left
abbrev pub IsDone : ℕ × ℕ → Type 0
IsDone left = left ≡ (0, 0)

-- The first number fell, or it is the same and the second fell. The second is one of 64 bits.
pub record IsLower (new old : ℕ × ℕ) : Type 0 where
  pub falls : (new.0 < old.0) ⊎ ((new.0 ≡ old.0) × (new.1 < old.1))
  pub in_range : new.1 < 2 ^ 64

-- what there is between two turns: the agents, the host, and the value that they share
pub record Scene (A H C : Type 0) : Type 0 where
  pub agents : List A
  pub host : H
  pub shared : C

abbrev pub scene : {A H C : Type 0} → List A → H → C → Scene A H C
scene agents host shared = record { agents = agents; host = host; shared = shared }

-- a kind of agents: what is left to each, its session, what it needs, and what a turn does
pub record Kind (A H C : Type 0) : Type 1 where
  pub left : A → ℕ × ℕ
  pub session : A → ℕ
  pub fits : A → H → C → Type 0
  pub step : A → H → C → Result (Unit {0}) RunError → A → H → C → Type 0

abbrev pub kind : {A H C : Type 0} → (A → ℕ × ℕ) → (A → ℕ) → (A → H → C → Type 0) → (A → H → C → Result (Unit {0}) RunError → A → H → C → Type 0) → Kind A H C
kind left session fits step = record { left = left; session = session; fits = fits; step = step }

-- the agent of a session: the first is that of session 1
abbrev pub agent_of : {A : Type 0} → List A → (session : ℕ) → Option A
agent_of agents zero = None
agent_of agents (suc place) = slice_get agents place

-- the session has no agent, or one that has finished
abbrev pub Rests : {A : Type 0} → (A → ℕ × ℕ) → List A → (session : ℕ) → Type 0
Rests {A} left agents session = (agent : A) → agent_of agents session ≡ Some agent → IsDone (left agent)

-- every agent has finished
abbrev pub AllDone : {A : Type 0} → (A → ℕ × ℕ) → List A → Type 0
AllDone left agents = (session : ℕ) → Rests left agents session

-- each agent stands in the place of its session, and has what it needs
pub record IsReady {A H C : Type 0} (of : Kind A H C) (now : Scene A H C) : Type 0 where
  pub placed : (session : ℕ) (agent : A) → agent_of now.agents session ≡ Some agent → of.session agent ≡ session
  pub fit : (session : ℕ) (agent : A) → agent_of now.agents session ≡ Some agent → of.fits agent now.host now.shared

-- The agent of a session, which has not finished, makes one turn with this answer. The other agents stay as they are. All are ready
-- before it, and after it where it answers Ok.
pub record Moves {A H C : Type 0} (of : Kind A H C) (session : ℕ) (before : Scene A H C) (answer : Result (Unit {0}) RunError) (after : Scene A H C) : Type 0 where
  pub agent : A
  pub moved : A
  pub there : agent_of before.agents session ≡ Some agent
  pub unfinished : ¬ IsDone (of.left agent)
  pub made : of.step agent before.host before.shared answer moved after.host after.shared
  pub agents : after.agents ≡ slice_set before.agents (session - 1) moved
  pub ready : IsReady of before
  pub still_ready : OnOk answer (IsReady of after)
  pub falls : OnOk answer (IsLower (of.left moved) (of.left agent))
  pub same_session : of.session moved ≡ of.session agent

-- The numbers of an order are gone through, one after another, each from where the one before it ended. A session that rests does
-- nothing; any other makes one turn. With Ok all of them are gone through; an error is that of a turn, and is the last thing done.
abbrev pub TakesTurns : {A H C : Type 0} → Kind A H C → (order : List ℕ) → (before : Scene A H C) → Result (Unit {0}) RunError → (after : Scene A H C) → Type 0
TakesTurns of [] before answer after = (answer ≡ Ok tt) × (after ≡ before)
TakesTurns {A} {H} {C} of (session ∷ order) before answer after =
    (Rests of.left before.agents session × TakesTurns of order before answer after)
    ⊎ (((mid : Scene A H C) × Moves of session before (Ok tt) mid × TakesTurns of order mid answer after)
    ⊎ (IsErr answer × Moves of session before answer after))

-- A turn of an order answers an error. P holds of the numbers before it and of the scene at which it began.
pub record FailsBehind {A H C : Type 0} (of : Kind A H C) (P : List ℕ → Scene A H C → Type 0) (order : List ℕ) (error : RunError) (after : Scene A H C) : Type 0 where
  pub front : List ℕ
  pub session : ℕ
  pub rest : List ℕ
  pub is : order ≡ front ++ (session ∷ rest)
  pub last : Scene A H C
  pub holds : P front last
  pub move : Moves of session last (Err error) after

-- turns end: with Ok where P holds of the whole order and of what stands after it, and with an error as just said
abbrev pub EndsWith : {A H C : Type 0} → Kind A H C → (List ℕ → Scene A H C → Type 0) → (order : List ℕ) → Result (Unit {0}) RunError → (after : Scene A H C) → Type 0
EndsWith of P order (Ok done) after = P order after
EndsWith of P order (Err error) after = FailsBehind of P order error after

-- what is left of all agents, as one number
abbrev pub total : {A : Type 0} → (A → ℕ × ℕ) → List A → ℕ
total left agents = sum_by (λ agent. (left agent).0 * 2 ^ 64 + (left agent).1) agents
