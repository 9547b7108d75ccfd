use Rattle.std.proofs.Common.{◌∙◌, sym, arith}
use Rattle.nb_words.proofs.JobLaws.{restored}
use Rattle.nb_words.proofs.jobs.restore.Goals as goal

pub returns-in-Some-files-clause-exact : goal.returns-in-Some-files-clause-exact
returns-in-Some-files-clause-exact c =
    restored c.args.words.now _ c.in-Some.db c.in-Some-files.files (omega (arith, c.if-words-lt2.false)) (omega (arith, c.if-words-gt11.false))
    (sym c.database.ensures ∙ c.in-Some.is) (sym c.in_ok-files.ensures.exact ∙ c.in-Some-files.is)
