use Rattle.std.proofs.Common.{◌∙◌, sym}
use Rattle.nb_words.proofs.JobLaws.{asked_by_name}
use Rattle.nb_words.proofs.jobs.of_two.Goals as goal

pub returns : goal.returns
returns c = asked_by_name c.args.verb.now c.args.name.now c.in_ok-db.db c.asked_of.result (sym c.eq.ensures ∙ c.if-eq.false) (sym c.database.ensures ∙ c.in_ok-db.was) c.asked_of.ensures
