use Rattle.std.proofs.Common.{◌≡◌, ℕ, ◌+◌, ◌*◌, ◌/◌, ◌<◌, length, ap, subst, refl, ◌∙◌, arith}
use Rattle.nb_check.proofs.Common.{size_facts, IsFirstBelow}
use Rattle.nb_check.proofs.CoverLaws.{group_most, map_on}
use Rattle.nb_check.proofs.pass.look_past.Goals as goal

pub overflow_mul-end : goal.overflow_mul-end
overflow_mul-end c =
    let most = group_most c.args.extent.count c.bits_in-bits.result c.bits_in-bits.ensures.some in
    let size = size_facts (length c.args.map.now) c.requires.size in
    omega (arith, most.1, size.at_most, c.bits_in-bits.ensures.value, c.requires.most)

pub loop-number-init : goal.loop-number-init
loop-number-init c = record { broken = λ image of map entries first. first; taken = refl }

pub fact_past-fact-requires-clause-covered : goal.fact_past-fact-requires-clause-covered
fact_past-fact-requires-clause-covered c = subst (λ (b : ℕ). c.loop-number.number < (c.args.extent.count / b + 1) * b) c.bits_in-bits.ensures.value c.loop-number-test.true

pub loop-number-preserved : goal.loop-number-preserved
loop-number-preserved c = record {
  broken = λ image of map entries first.
      let covered = subst (λ (b : ℕ). c.loop-number.number < (c.args.extent.count / b + 1) * b) c.bits_in-bits.ensures.value c.loop-number-test.true in
      c.first_of-found.ensures image (c.loop-number.invariant.broken image of map entries first)
      (c.fact_past-fact.ensures image of (map_on image (length c.args.map.now) c.args.extent c.requires.size of c.loop-number.number c.loop-number.auto.number covered c.args.map.now map) entries);
  taken = c.loop-number.invariant.taken;
}

pub returns-clause-broken : goal.returns-clause-broken
returns-clause-broken c image of map entries first =
    let most = group_most c.args.extent.count c.bits_in-bits.result c.bits_in-bits.ensures.some in
    let all : c.loop-number.number ≡ (c.args.extent.count / c.bits_in-bits.result + 1) * c.bits_in-bits.result = omega (arith, most.0, c.loop-number-test.false, c.loop-number.auto.number-end) in
    subst (λ (m : ℕ). IsFirstBelow image m c.loop-number.found.broken) (all ∙ ap (λ (b : ℕ). (c.args.extent.count / b + 1) * b) c.bits_in-bits.ensures.value) (c.loop-number.invariant.broken image of map entries first)
