use Rattle.std.proofs.Common.{◌∙◌, rules}
use Rattle.nb_words.proofs.Whole.{holds, none}
use Rattle.nb_words.proofs.line.read.Goals as goal

pub returns-in-Ok-clause-found : goal.returns-in-Ok-clause-found
returns-in-Ok-clause-found c = holds c.args.words.now c.in-Ok.matches (search rules) c.in-Ok.ensures.no_fault c.in-Ok.ensures.matches

pub returns : goal.returns
returns c = record { found = none c.args.words.now c.in-Err.error (search rules) c.in-Err.ensures.fault (λ e. c.in_default.not-OutOfMemory (c.kind.ensures ∙ e)); only_memory = tt }
