use Rattle.std.proofs.Common.{◌≡◌, ℕ, sym, subst, Result}
use Rattle.nb_session.proofs.Common.{World, Fault, Statement, Seen, next_guid, delta_name, Trail, first_turn, Held, name_of, Backed, KnowsFree, StartsBackup, file_asked}
use Rattle.nb_session.proofs.copies.start.Goals as goal

-- the start of the backup that a statement asks for
abbrev StartsAsked : (result : Result Backed Fault) (old new : World) (a b : Held) (t : Trail) (s : Seen) (session : ℕ) → Statement → Type 0
StartsAsked result old new a b t s session x = KnowsFree 0 old.files s (file_asked x) → (file_asked x ≡ delta_name (name_of a) → ⊥) → StartsBackup result old new a b t (file_asked x) (next_guid s.given) (first_turn s session x)

pub returns-in-Backup-clause-turn : goal.returns-in-Backup-clause-turn
unfolding first_turn
returns-in-Backup-clause-turn g c s t tells same runs is free apart given =
    subst (StartsAsked c.start.result (g.H.Host.world c.args.host.now) (g.H.Host.world c.start.new.host) c.args.engine.now c.start.new.engine t s c.args.session) (sym c.in-Backup.is)
    (λ known off. c.start.ensures.turn s t tells same runs is known off given) free apart

pub returns-in-BackupSince-clause-turn : goal.returns-in-BackupSince-clause-turn
unfolding first_turn
returns-in-BackupSince-clause-turn g c s t tells same runs is free apart given =
    subst (StartsAsked c.start_since.result (g.H.Host.world c.args.host.now) (g.H.Host.world c.start_since.new.host) c.args.engine.now c.start_since.new.engine t s c.args.session) (sym c.in-BackupSince.is)
    (λ known off. c.start_since.ensures.turn s t tells same runs is known off given) free apart
