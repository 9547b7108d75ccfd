use Rattle.std.proofs.Common.{◌∙◌, ℕ, ◌+◌, ◌-◌, sym, ap, arith}
use Rattle.nb_page.proofs.Common.{length_after, length_after-none, length_after-more, fresh_count-is, is_system_place, plain_places}
use Rattle.nb_fields.proofs.PlainLaws.{fresh_count-plain, fresh_count-last}
use Rattle.nb_page.proofs.count.fresh_count.Goals as goal

pub loop-init : goal.loop-init
loop-init c = record { rest = fresh_count-is c.args.size c.args.raw (c.args.raw - 0) (omega arith); least = omega arith; most = omega arith }

pub loop-preserved : goal.loop-preserved
loop-preserved c =
    let left : ℕ = c.args.raw - (c.loop.counter + 1) in
    let more = length_after-more c.args.size (c.args.raw - c.loop.counter) left c.loop.count (omega arith) in
    record {
      rest = ap (λ p. length_after c.args.size left (p + 1)) c.next_plain-count.ensures.value ∙ sym more ∙ c.loop.invariant.rest;
      least = omega arith;
      most = omega arith;
    }

pub returns-clause-value : goal.returns-clause-value
returns-clause-value c = sym (length_after-none c.args.size (c.args.raw - c.loop.counter) c.loop.count (omega arith)) ∙ c.loop.invariant.rest

pub returns-clause-plain : goal.returns-clause-plain
returns-clause-plain c = ap (λ n. plain_places c.args.size 5 (n - 5)) (returns-clause-value c) ∙ fresh_count-plain c.args.size c.args.raw c.requires.size

pub returns-clause-last : goal.returns-clause-last
returns-clause-last c some = ap (λ n. is_system_place c.args.size (n - 1)) (returns-clause-value c) ∙ fresh_count-last c.args.size c.args.raw c.requires.size some
