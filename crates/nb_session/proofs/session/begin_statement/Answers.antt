use Rattle.std.proofs.Common.{◌≡◌, ℕ, ◌-◌, List, [], ◌∷◌, refl, sym, subst, Result}
use Rattle.nb_session.proofs.Common.{slice_index_or, World, RunError, Statement, Turn, Begins, Now, Trail, Held, Taken, Told, Turns}
use Rattle.nb_session.proofs.FindLaws.{begun_nothing}
use Rattle.nb_session.proofs.session.begin_statement.Goals as goal

-- the first turn of a statement
abbrev Begun : (told : Told) (answer : Result Taken RunError) (old new : World) (a b : Held) (t : Trail) (now : Now) (session : ℕ) (more : List Turn) → Statement → Type 0
Begun told answer old new a b t now session more statement =
    slice_index_or now.todo (session - 1) [] ≡ Begins statement ∷ more → Turns told (λ taken. taken.refused) (λ taken. taken.task) answer old new a b t now session (Begins statement) [] more

pub returns-in-EndBackup-clause-turn : goal.returns-in-EndBackup-clause-turn
returns-in-EndBackup-clause-turn g c now t more tells ready makes here = c.begin_merge.ensures.turn c.args.told now t more tells ready makes here

pub returns-in-Activate-clause-turn : goal.returns-in-Activate-clause-turn
returns-in-Activate-clause-turn g c now t more tells ready makes here = c.begin_activate.ensures.turn now t more tells ready makes here

pub returns-in-Backup-clause-turn : goal.returns-in-Backup-clause-turn
returns-in-Backup-clause-turn g c now t more tells ready makes here = c.begin_backup.ensures.turn c.args.told now t more tells ready makes here

pub returns-in-CopyTo-clause-turn : goal.returns-in-CopyTo-clause-turn
returns-in-CopyTo-clause-turn g c now t more tells ready makes =
    subst (Begun c.args.told c.begin_copy.result (g.H.Host.world c.args.host.now) (g.H.Host.world c.begin_copy.new.host) c.args.engine.now c.begin_copy.new.engine t now c.args.session more) (sym c.in-CopyTo.is) (c.begin_copy.ensures.turn c.args.told now t more tells ready makes)

pub returns-in_default-clause-turn : goal.returns-in_default-clause-turn
returns-in_default-clause-turn g c now t more tells ready makes here = c.answer.ensures.turn now t more tells ready makes here

pub returns-in_default-clause-others : goal.returns-in_default-clause-others
returns-in_default-clause-others g c = c.answer.ensures.others c.args.session

pub returns-in-EndBackup-clause-danger : goal.returns-in-EndBackup-clause-danger
returns-in-EndBackup-clause-danger g c t tells opened = begun_nothing c.args.statement.now _ t.base.image c.args.danger.now c.begin_merge.result c.in-EndBackup.is refl

pub returns-in-CopyTo-clause-danger : goal.returns-in-CopyTo-clause-danger
returns-in-CopyTo-clause-danger g c t tells opened = begun_nothing c.args.statement.now _ t.base.image c.args.danger.now c.begin_copy.result c.in-CopyTo.is refl

pub returns-in-Activate-clause-danger : goal.returns-in-Activate-clause-danger
returns-in-Activate-clause-danger g c t tells opened = begun_nothing c.args.statement.now _ t.base.image c.args.danger.now c.begin_activate.result c.in-Activate.is refl
