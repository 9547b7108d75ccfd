use Rattle.std.proofs.Common.{◌∙◌, ap, [], List, unwrap_or, Option, codes}
use Rattle.nb_words.proofs.Common.{found_of, Text}
use Rattle.clap.proofs.WalkLemmas.{raw_values-rows}
use Rattle.nb_words.proofs.line.plain_words.Goals as goal

pub returns : goal.returns
returns c = ap (λ (o : Option (List Text)). unwrap_or o []) (c.get_raw.ensures ∙ raw_values-rows (found_of c.args.found.now) (codes "words"))
