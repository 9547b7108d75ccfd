use Rattle.std.proofs.Common.{ap, sym, ◌∙◌, arith}
use Rattle.nb_cache.proofs.Common.{option_map}
use Rattle.std.specs.Map.Iter.{deref_pair}
use Rattle.nb_cache.proofs.KeyedLaws.{last_split}
use Rattle.nb_cache.proofs.IndexLaws.{Finds-vacated, Finds-not_full}
use Rattle.nb_cache.proofs.places.vacate.Goals as goal

pub returns-then-held-count-clause-last : goal.returns-then-held-count-clause-last
returns-then-held-count-clause-last c =
    last_split c.args.frames.now.entries c.unwrap.result.0.now c.unwrap.result.1.now c.requires.some
    (sym (ap (option_map deref_pair) c.unwrap.ensures) ∙ c.peek_lru.ensures) c.len-count.ensures.valid.0

pub returns-then-held-count-clause-finds : goal.returns-then-held-count-clause-finds
returns-then-held-count-clause-finds c =
    Finds-not_full c.args.index.now c.args.frames.now.entries c.args.held (omega arith) c.requires.indexed.finds

pub returns-clause-last : goal.returns-clause-last
returns-clause-last c =
    last_split c.args.frames.now.entries c.unwrap.result.0.now c.unwrap.result.1.now c.requires.some
    (sym (ap (option_map deref_pair) c.unwrap.ensures) ∙ c.peek_lru.ensures) c.len-count.ensures.valid.0

pub returns-clause-finds : goal.returns-clause-finds
returns-clause-finds c =
    Finds-vacated c.args.index.now c.leave.new.self c.args.frames.now.entries c.args.held c.unwrap.result.0.now c.unwrap.result.1.now c.requires.indexed.finds c.requires.some
    (sym (ap (option_map deref_pair) c.unwrap.ensures) ∙ c.peek_lru.ensures) c.len-count.ensures.valid.0 (omega arith) c.leave.ensures.holders
