use Rattle.std.proofs.Common.{◌≡◌, ℕ, List, sym, subst, Result, IfOk}
use Rattle.nb_top.proofs.Common.{Fault, Ask, Backup, BackupSince, asks_of, Plan, plan_of}
use Rattle.nb_top.proofs.request.script_asking.Goals as goal

abbrev Asks : Result Plan Fault → (db : List ℕ) → Ask → Type 0
Asks result db ask = IfOk result (λ script. script ≡ plan_of db (asks_of ask))

pub returns-in-Stat-clause-script : goal.returns-in-Stat-clause-script
returns-in-Stat-clause-script c = subst (Asks c.script_showing.result c.args.db.now) (sym c.in-Stat.is) c.script_showing.ensures.script

pub returns-in-Check-clause-script : goal.returns-in-Check-clause-script
returns-in-Check-clause-script c = subst (Asks c.script_of_one.result c.args.db.now) (sym c.in-Check.is) c.script_of_one.ensures.script

pub returns-in-Reclaim-clause-script : goal.returns-in-Reclaim-clause-script
returns-in-Reclaim-clause-script c = subst (Asks c.script_of_one-in-Reclaim.result c.args.db.now) (sym c.in-Reclaim.is) c.script_of_one-in-Reclaim.ensures.script

pub returns-in-Backup-clause-script : goal.returns-in-Backup-clause-script
returns-in-Backup-clause-script c =
    subst (Asks c.script_of_one-in-Backup.result c.args.db.now) (sym c.in-Backup.is)
    (subst (λ name. Asks c.script_of_one-in-Backup.result c.args.db.now (Backup c.in-Backup.level name)) c.copied-name.ensures c.script_of_one-in-Backup.ensures.script)

pub returns-in-BackupSince-clause-script : goal.returns-in-BackupSince-clause-script
returns-in-BackupSince-clause-script c =
    subst (Asks c.script_of_one-in-BackupSince.result c.args.db.now) (sym c.in-BackupSince.is)
    (subst (λ name. Asks c.script_of_one-in-BackupSince.result c.args.db.now (BackupSince c.in-BackupSince.guid name)) c.copied-name-in-BackupSince.ensures c.script_of_one-in-BackupSince.ensures.script)

pub returns-in-Lock-clause-script : goal.returns-in-Lock-clause-script
returns-in-Lock-clause-script c = subst (Asks c.script_of_one-in-Lock.result c.args.db.now) (sym c.in-Lock.is) c.script_of_one-in-Lock.ensures.script

pub returns-in-LockWithSize-clause-script : goal.returns-in-LockWithSize-clause-script
returns-in-LockWithSize-clause-script c = subst (Asks c.script_of_one-in-LockWithSize.result c.args.db.now) (sym c.in-LockWithSize.is) c.script_of_one-in-LockWithSize.ensures.script

pub returns-in-Unlock-clause-script : goal.returns-in-Unlock-clause-script
returns-in-Unlock-clause-script c = subst (Asks c.script_of_one-in-Unlock.result c.args.db.now) (sym c.in-Unlock.is) c.script_of_one-in-Unlock.ensures.script

pub returns-in-Activate-clause-script : goal.returns-in-Activate-clause-script
returns-in-Activate-clause-script c = subst (Asks c.script_of_one-in-Activate.result c.args.db.now) (sym c.in-Activate.is) c.script_of_one-in-Activate.ensures.script
