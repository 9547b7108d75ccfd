use Rattle.std.proofs.Common.{◌∙◌, sym, subst}
use Rattle.nb_words.proofs.JobLaws.{Taken, nothing_taken, one_taken, taken_all, not_all}
use Rattle.nb_words.proofs.jobs.files.Goals as goal

pub loop-word-init : goal.loop-word-init
loop-word-init c = subst (Taken c.args.words.now 0) (sym c.new-names.ensures) (nothing_taken c.args.words.now)

pub returns-in-None-clause-exact : goal.returns-in-None-clause-exact
returns-in-None-clause-exact c = not_all c.args.words.now c.loop-word.word-index _ c.loop-word-test.true (sym c.file.ensures ∙ c.in-None.is)

pub loop-word-preserved : goal.loop-word-preserved
loop-word-preserved c =
    one_taken c.args.words.now c.loop-word.word-index _ c.loop-word.names c.push.new.self c.in-Some.name c.loop-word-test.true (sym c.file.ensures ∙ c.in-Some.is) c.loop-word.invariant c.in_ok-push-in-Some.ensures.ok

pub returns-clause-exact : goal.returns-clause-exact
returns-clause-exact c = taken_all c.args.words.now c.loop-word.word-index c.loop-word.names c.loop-word-test.false c.loop-word.invariant
