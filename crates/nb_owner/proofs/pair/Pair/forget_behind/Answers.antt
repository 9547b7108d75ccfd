use Rattle.std.proofs.Common.{◌≡◌, ◌-◌, ap, sym, ◌∙◌, arith, nat_eq}
use Rattle.nb_owner.proofs.Common.{remove_entry, Held, Pages, but_below}
use Rattle.nb_owner.proofs.OpenLaws.{below_none, below_next}
use Rattle.nb_owner.proofs.pair.Pair.forget_behind.Goals as goal

pub loop-number-init : goal.loop-number-init
loop-number-init c = record {
  most = omega arith;
  pages = ap (λ (ps : Pages). record c.args.self.now { pages = ps }) (sym (below_none c.args.before c.args.self.now.pages));
  least = omega arith;
  none = c.requires.none;
}

pub loop-number-preserved : goal.loop-number-preserved
loop-number-preserved c =
    let loop = c.loop-number.invariant in
    record {
      most = omega (arith, loop.most);
      pages = c.forget.ensures.forgets ∙ ap (λ (h : Held). record h { pages = remove_entry (nat_eq (c.loop-number.number - 1)) h.pages }) loop.pages
          ∙ ap (λ (ps : Pages). record c.args.self.now { pages = ps }) (below_next c.args.before c.loop-number.number c.args.self.now.pages loop.most (omega (arith, c.loop-number-test.true)));
      least = omega (arith, loop.most, loop.least, c.loop-number-test.true);
      none = c.forget.ensures.none;
    }

pub returns : goal.returns
returns c =
    let loop = c.loop-number.invariant in
    let end : c.args.before - c.loop-number.number ≡ c.args.before - c.args.self.now.files.count = omega (arith, loop.most, loop.least, c.loop-number-test.false, c.count-count.ensures.value, ap (λ (h : Held). h.files.count) c.self.view_is) in
    loop.pages ∙ ap (λ n. record c.args.self.now { pages = but_below n c.args.before c.args.self.now.pages }) end
