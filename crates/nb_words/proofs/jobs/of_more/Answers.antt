use Rattle.std.proofs.Common.{◌∙◌, sym, arith}
use Rattle.nb_words.proofs.JobLaws.{folded}
use Rattle.nb_host.proofs.PlainLaws.{not_false}
use Rattle.nb_words.proofs.jobs.of_more.Goals as goal

pub returns-in-Some-files-clause-exact : goal.returns-in-Some-files-clause-exact
returns-in-Some-files-clause-exact c =
    folded c.args.verb.now c.args.out.now c.args.words.now c.in-Some.out c.in-Some-files.files (not_false _ (sym c.ne.ensures ∙ c.if-ne.false)) (omega (arith, c.if-words-lt2.false)) (omega (arith, c.if-words-gt9.false))
    (sym c.file.ensures ∙ c.in-Some.is) (sym c.in_ok-files.ensures.exact ∙ c.in-Some-files.is)
