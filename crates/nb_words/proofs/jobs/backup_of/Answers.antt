use Rattle.std.proofs.Common.{◌∙◌, sym}
use Rattle.nb_words.proofs.JobLaws.{backup_unnamed, backup_of_level}
use Rattle.nb_words.proofs.jobs.backup_of.Goals as goal

pub returns-in_err-db : goal.returns-in_err-db
returns-in_err-db c = c.from_residual.ensures ∙ backup_unnamed c.args.since.now c.args.db.now c.args.file.now (sym c.database_and_file.ensures ∙ c.in_err-db.was)

pub returns-in-Some-level : goal.returns-in-Some-level
returns-in-Some-level c =
    backup_of_level c.args.since.now c.args.db.now c.args.file.now c.in-Some-level.level (c.in_ok-db.db, c.in_ok-db.file) (sym c.database_and_file.ensures ∙ c.in_ok-db.was) (sym c.guid.ensures ∙ c.in-None.is) (sym c.level.ensures ∙ c.in-Some-level.is)
