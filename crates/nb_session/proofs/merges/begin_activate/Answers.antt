use Rattle.std.proofs.Common.{◌≡◌, ℕ, ◌-◌, List, [], ◌∷◌, sym, subst, Result}
use Rattle.nb_session.proofs.Common.{slice_index_or, World, RunError, Statement, Turn, Begins, Now, Trail, Held, Taken, Told, Turns}
use Rattle.nb_session.proofs.merges.begin_activate.Goals as goal

-- the first turn of a statement
abbrev Begun : (told : Told) (answer : Result Taken RunError) (old new : World) (a b : Held) (t : Trail) (now : Now) (session : ℕ) (more : List Turn) → Statement → Type 0
Begun told answer old new a b t now session more statement =
    slice_index_or now.todo (session - 1) [] ≡ Begins statement ∷ more → Turns told (λ taken. taken.refused) (λ taken. taken.task) answer old new a b t now session (Begins statement) [] more

pub returns-then-state-eq0-clause-turn : goal.returns-then-state-eq0-clause-turn
returns-then-state-eq0-clause-turn g c now t more tells ready makes =
    let held = c.args.engine.now in
    subst (Begun c.args.told c.say_activated.result (g.H.Host.world c.args.host.now) (g.H.Host.world c.say_activated.new.host) held held t now c.args.session more) (sym c.requires.activate) (c.say_activated.ensures.turn now t more tells ready makes)

pub returns-else-state-eq0-clause-turn : goal.returns-else-state-eq0-clause-turn
returns-else-state-eq0-clause-turn g c now t more tells ready makes here = c.begin_merge.ensures.turn c.args.told now t more tells ready makes here
