use Rattle.nb_session.proofs.TurnLaws.{under_is, further}
use Rattle.nb_session.proofs.session.go_on.Goals as goal

pub returns-in-Some-Backup-clause-turn : goal.returns-in-Some-Backup-clause-turn
returns-in-Some-Backup-clause-turn g c now t more tells ready makes = further (under_is c.in-Some-Backup.is c.in-Some-Backup.field-0-is) (c.back_up_on.ensures.turn c.args.told now t more tells ready makes)

pub returns-in-Some-Copy-clause-turn : goal.returns-in-Some-Copy-clause-turn
returns-in-Some-Copy-clause-turn g c now t more tells ready makes = further (under_is c.in-Some-Copy.is c.in-Some-Copy.field-0-is) (c.copy_on.ensures.turn now t more tells ready makes)

pub returns-in-Some-End-clause-turn : goal.returns-in-Some-End-clause-turn
returns-in-Some-End-clause-turn g c now t more tells ready makes = further (under_is c.in-Some-End.is c.in-Some-End.field-0-is) (c.end_backup.ensures.turn c.args.told now t more tells ready makes)

pub returns-in-Some-Merge-clause-turn : goal.returns-in-Some-Merge-clause-turn
returns-in-Some-Merge-clause-turn g c now t more tells ready makes = further (under_is c.in-Some-Merge.is c.in-Some-Merge.field-0-is) (c.merge_on.ensures.turn now t more tells ready makes)
