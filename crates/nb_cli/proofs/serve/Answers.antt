use Rattle.nb_cli.proofs.ArgLaws.{IsShort, asked_of, no_job_of, unread, usage_of}
use Rattle.std.specs.Vec.Iter.{into_iter_items}
use Rattle.nb_cli.specs.Ended.{listed}
use Rattle.nb_cli.proofs.serve.Goals as goal

pub returns-clause-ends : goal.returns-clause-ends
returns-clause-ends g c asked ask = record {
  words = c.words_of-words.result;
  read = c.words_of-words.ensures;
  exits = c.serve_words.ensures.ends asked (asked_of (listed into_iter_items c.args.args) c.words_of-words.result (g.H.Host.world c.args.host.now).files asked c.words_of-words.ensures ask);
}

pub returns-clause-usage : goal.returns-clause-usage
returns-clause-usage g c = usage_of (listed into_iter_items c.args.args) c.words_of-words.result _ c.words_of-words.ensures c.serve_words.ensures.usage c.serve_words.ensures.memory

pub returns-clause-no_job : goal.returns-clause-no_job
returns-clause-no_job g c = no_job_of (listed into_iter_items c.args.args) c.words_of-words.result _ c.words_of-words.ensures c.serve_words.ensures.no_job c.serve_words.ensures.memory

pub returns-clause-no_text : goal.returns-clause-no_text
returns-clause-no_text g c = unread (listed into_iter_items c.args.args) c.words_of-words.result _ c.words_of-words.ensures c.serve_words.ensures.no_text

pub returns-clause-memory : goal.returns-clause-memory
returns-clause-memory g c = unread (listed into_iter_items c.args.args) c.words_of-words.result _ c.words_of-words.ensures c.serve_words.ensures.memory
