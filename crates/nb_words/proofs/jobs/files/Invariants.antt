use Rattle.nb_words.proofs.JobLaws.{Taken}
use Rattle.nb_words.proofs.jobs.files.Given as goal

abbrev pub invariant-loop-word : goal.invariant-loop-word
invariant-loop-word l = Taken l.words l.word-index l.names
