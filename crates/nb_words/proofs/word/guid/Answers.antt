use Rattle.nb_words.proofs.Common.{false≢true}
use Rattle.nb_words.proofs.Parts.{guid_none}
use Rattle.nb_words.proofs.word.guid.Goals as goal

pub returns-in-Err : goal.returns-in-Err
returns-in-Err c = guid_none c.args.word.now c.if-word-ne36.false (λ u e. false≢true (c.in-Err.ensures.ok.1 (u, e)))
