use Rattle.std.proofs.Common.{map, string_bytes, inr, refl}
use Rattle.nb_words.proofs.Found.{none_found}
use Rattle.nb_words.proofs.reading.read_job.Goals as goal

pub returns-clause-refusal : goal.returns-clause-refusal
returns-clause-refusal c = inr (refl, none_found (map string_bytes c.args.words.now) c.in_ok-found.field-0 c.in-None.is c.in_ok-found.ensures.found)
