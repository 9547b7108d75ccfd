-- What a check has found in danger, where it is the one statement of a script.
use Rattle.std.proofs.Common.{Bool, ◌≡◌, ◌≢◌, ◌⊎◌, inl, inr, ℕ, zero, suc, ◌-◌, ◌<◌, ◌≤◌, List, [], ◌∷◌, length, replicate, get_or, refl, sym, ap, subst, ◌∙◌, arith, length-set, IsTrue, Ok, Option, Some, None}
use Rattle.std.proofs.lemmas.Bool.{cases_eq}
use Rattle.nb_script.specs.Scripts.{statements_of}
use Rattle.nb_sched.specs.Turns.{IsLower}
use Rattle.nb_session.proofs.Common.{FaultCount, World, Statement, Trail, Scene, scene, agent_of, AllDone, Moves, TakesTurns, Held, Task, Told, Plan, Asker, task_left, left_of, fresh_asker, first_askers}
use Rattle.nb_sched.proofs.AgentLaws.{agent_of_set, agent_there}
use Rattle.nb_sched.proofs.TurnLaws.{turns_hold}
use Rattle.nb_session.proofs.SceneLaws.{sessions_kind, agent_some}
use Rattle.nb_session.proofs.WholeLaws.{first_agent}
use Rattle.nb_session.specs.Dangers.{Finds, alone, danger_after, first_danger}
use Rattle.nb_state.specs.Open.{IsOpen}

-- no other session has a statement
others_none : (n i : ℕ) → get_or {A = List Statement} (replicate n []) i [] ≡ []
others_none zero i = refl
others_none (suc n) zero = refl
others_none (suc n) (suc i) = others_none n i

-- what has none left finds no more
finds_none : (tells : Bool) (old : World) (held : Held) (task : Option Task) (statements : List Statement) (before after : Option (List ℕ)) → length statements ≡ 0 → Finds tells old held task statements before after → after ≡ before
finds_none tells old held None [] before after none finds = finds
finds_none tells old held None (s ∷ ss) before after none finds = absurd (omega (arith, none))
finds_none tells old held (Some task) statements before after none finds = finds

-- session 1 has found this, and nobody has a statement left to begin
abbrev HaveFound : Option (List ℕ) → List Asker → Type 0
HaveFound found agents = (1 ≤ length agents) × ((n : ℕ) (a : Asker) → agent_of agents n ≡ Some a → (length a.statements ≡ 0) × (n ≡ 1 → a.danger ≡ found))

first_is : (agents : List Asker) (found : Option (List ℕ)) → HaveFound found agents → first_danger agents ≡ found
first_is [] found have = absurd (omega (arith, have.0))
first_is (a ∷ agents) found have = (have.1 1 a refl).1 refl

module _ {H : Type 0} (tells : Bool) (told : IsTrue tells) (world : H → World) (faults : H → FaultCount) (old : H) (before : Held) (how : Told) (plan : Plan) (statement : Statement) (is : plan.sessions ≡ alone statement) (t : Trail) (opened : IsOpen (world old) before t) where
  abbrev start : Scene Asker H Held
  start = scene (first_askers how plan) old before

  abbrev found : Option (List ℕ)
  found = danger_after statement t.base.image None

  -- no other session has a statement
  others : (n : ℕ) → 0 < n → n ≢ 1 → statements_of plan n ≡ []
  others zero low other = absurd (omega (arith, low))
  others (suc zero) low other = absurd (other refl)
  others (suc (suc n)) low other =
      let place : suc (suc n) - 1 ≡ suc n = omega arith in
      ap (λ (ss : List (List Statement)). get_or ss (suc (suc n) - 1) []) is ∙ ap (λ (i : ℕ). get_or (alone statement) i []) place ∙ others_none 15 n

  mine : statements_of plan 1 ≡ statement ∷ []
  mine = ap (λ (ss : List (List Statement)). get_or ss (1 - 1) []) is

  idle : (n : ℕ) → 0 < n → n ≢ 1 → left_of (fresh_asker how plan n) ≡ (0, 0)
  idle n low other = ap (λ (ss : List Statement). (length ss, 0)) (others n low other)

  -- the first turn is that of session 1
  module _ (n : ℕ) (after : Scene Asker H Held) (move : Moves (sessions_kind tells world faults) n start (Ok tt) after) where
    low : 0 < n
    low = (agent_there (first_askers how plan) n move.agent move.there).0

    fresh : move.agent ≡ fresh_asker how plan n
    fresh = first_agent how plan n move.agent move.there

    is_first : n ≡ 1
    is_first = elim (cases_eq n 1) [ inl one ↦ one | inr other ↦ absurd (move.unfinished (ap left_of fresh ∙ idle n low other)) ]

    agent_is : move.agent ≡ fresh_asker how plan 1
    agent_is = fresh ∙ ap (fresh_asker how plan) is_first

    none_left : length move.moved.statements ≡ 0
    none_left =
        let lower : IsLower (left_of move.moved) (1, 0) = subst (IsLower (left_of move.moved)) (ap left_of agent_is ∙ ap (λ (ss : List Statement). (length ss, 0)) mine) move.falls in
        elim lower.falls [
          | inl first ↦ (let fewer : length move.moved.statements < 1 = first in omega (arith, fewer))
          | inr second ↦ (let less : task_left move.moved.task < 0 = second.1 in absurd (omega (arith, less)))
        ]

    finds : Finds tells (world old) before None (statement ∷ []) None move.moved.danger
    finds =
        subst (λ (ss : List Statement). Finds tells (world old) before None ss None move.moved.danger) mine
        (subst (λ (a : Asker). Finds tells (world old) before a.task a.statements a.danger move.moved.danger) agent_is move.made.danger)

    sixteen : length after.agents ≡ 16
    sixteen = ap length move.agents ∙ length-set (first_askers how plan) (n - 1) move.moved

    others_left : (m : ℕ) (a : Asker) → m ≢ n → agent_of (first_askers how plan) m ≡ Some a → length a.statements ≡ 0
    others_left m a apart there =
        ap (λ (x : Asker). length x.statements) (first_agent how plan m a there)
        ∙ ap length (others m (agent_there (first_askers how plan) m a there).0 (λ one. apart (one ∙ sym is_first)))

    first_move : HaveFound found after.agents
    first_move = (
      omega (arith, sixteen),
      λ m a there.
          elim (agent_of_set (first_askers how plan) n m move.moved a low (subst (λ (agents : List Asker). agent_of agents m ≡ Some a) move.agents there)) [
            | inl here ↦ (ap (λ (x : Asker). length x.statements) here.1 ∙ none_left, λ one. ap (λ (x : Asker). x.danger) here.1 ∙ finds t told opened)
            | inr other ↦ (others_left m a other.0 other.1, λ one. absurd (other.0 (one ∙ sym is_first)))
          ],
    )

  -- what stands between two turns: none was taken yet, or session 1 has found what there is
  abbrev Stands : List ℕ → Scene Asker H Held → Type 0
  Stands front s = (s ≡ start) ⊎ HaveFound found s.agents

  -- no later turn finds more
  later_move : (n : ℕ) (s after : Scene Asker H Held) → HaveFound found s.agents → Moves (sessions_kind tells world faults) n s (Ok tt) after → HaveFound found after.agents
  later_move n s after have move =
      let prior = have.1 n move.agent move.there in
      let low = (agent_there s.agents n move.agent move.there).0 in
      let none : length move.moved.statements ≡ 0 = elim move.falls.falls [
        | inl first ↦ (let fewer : length move.moved.statements < length move.agent.statements = first in absurd (omega (arith, fewer, prior.0)))
        | inr second ↦ (let equal : length move.moved.statements ≡ length move.agent.statements = second.0 in equal ∙ prior.0)
      ] in
      let same = finds_none tells (world s.host) s.shared move.agent.task move.agent.statements move.agent.danger move.moved.danger prior.0 move.made.danger in
      let long : length after.agents ≡ length s.agents = ap length move.agents ∙ length-set s.agents (n - 1) move.moved in (
        omega (arith, long, have.0),
        λ m a there.
            elim (agent_of_set s.agents n m move.moved a low (subst (λ (agents : List Asker). agent_of agents m ≡ Some a) move.agents there)) [
              | inl here ↦ (ap (λ (x : Asker). length x.statements) here.1 ∙ none, λ one. ap (λ (x : Asker). x.danger) here.1 ∙ same ∙ prior.1 (sym here.0 ∙ one))
              | inr other ↦ have.1 m a other.1
            ],
      )

  any_move : (n : ℕ) (s after : Scene Asker H Held) → Stands [] s → Moves (sessions_kind tells world faults) n s (Ok tt) after → HaveFound found after.agents
  any_move n s after (inl same) move = first_move n after (subst (λ (x : Scene Asker H Held). Moves (sessions_kind tells world faults) n x (Ok tt) after) same move)
  any_move n s after (inr have) move = later_move n s after have move

  -- once all have finished it was found
  ended : (s : Scene Asker H Held) → Stands [] s → AllDone left_of s.agents → first_danger s.agents ≡ found
  ended s (inr have) done = first_is s.agents found have
  ended s (inl same) done =
      let long : length (first_askers how plan) ≡ 16 = refl in
      let one = agent_some (first_askers how plan) 1 (omega arith) (omega (arith, long)) in
      let left : left_of one.0 ≡ (0, 0) = done 1 one.0 (subst (λ (x : Scene Asker H Held). agent_of x.agents 1 ≡ Some one.0) (sym same) one.1) in
      let some : length one.0.statements ≡ 1 = ap (λ (a : Asker). length a.statements) (first_agent how plan 1 one.0 one.1) ∙ ap length mine in
      let none : length one.0.statements ≡ 0 = ap (λ (p : ℕ × ℕ). p.0) left in
      absurd (omega (arith, some, none))

  pub found_alone : (order : List ℕ) (after : Scene Asker H Held) → TakesTurns (sessions_kind tells world faults) order start (Ok tt) after → AllDone left_of after.agents → first_danger after.agents ≡ found
  found_alone order after turns done =
      let stands : Stands order after =
      turns_hold (sessions_kind tells world faults) Stands (λ front n s stands rests. stands) (λ front n s s' stands move. inr (any_move n s s' stands move)) order start after (Ok tt) (inl refl) turns in
      ended after stands done
