use Rattle.std.proofs.Common.{List, sym, ap, subst, ◌∙◌, ◌+◌, arith, Err}
use Rattle.nb_fold.proofs.Common.{head_of, Folds, folded, IsReady, Held, pages_left, pages_of_each, passed}
use Rattle.nb_fold.proofs.FoldLaws.{fold_done, fold_fails, most_folded, not_prepared}
use Rattle.nb_fold.proofs.folding.fold.Goals as goal

pub returns-in_err-sources-clause-folds : goal.returns-in_err-sources-clause-folds
returns-in_err-sources-clause-folds g c tells =
    passed _ (λ r. Folds r (g.H.Host.world c.args.host.now) (g.H.Host.world c.prepare.new.host) c.args.out.now c.args.files.now) c.from_residual.result c.in_err-sources.field-0.0 c.from_residual.ensures
    (not_prepared _ _ c.args.out.now c.args.files.now c.in_err-sources.field-0.0 c.prepare.ensures.quiet (λ refusal is. c.in_err-sources.ensures.refused tells refusal (ap Err is)))

pub returns-in_err-write-clause-folds : goal.returns-in_err-write-clause-folds
returns-in_err-write-clause-folds g c tells =
    let mid = g.H.Host.world c.prepare.new.host in
    let plan = c.in_ok-sources.ensures.ready tells in
    let file = c.in_ok-sources.file in
    let most = mid.reads + pages_left (pages_of_each plan.files) in
    let ready = subst (λ (ss : List Held). IsReady mid file ss (folded plan.files).pages most) (sym c.deref_mut.ensures.value) plan.ready in
    let write = c.in_err-write.ensures in
    passed _ (λ r. Folds r (g.H.Host.world c.args.host.now) (g.H.Host.world c.write.new.host) c.args.out.now c.args.files.now) c.from_residual-in_err-write.result c.in_err-write.field-0.0 c.from_residual-in_err-write.ensures
    (fold_fails (g.H.Host.world c.args.host.now) mid (g.H.Host.world c.write.new.host) c.args.out.now c.args.files.now c.in_ok-sources.sources.items file c.prepare.ensures.quiet plan c.in_err-write.field-0.0
    (write.sure tells (folded plan.files).pages most ready) (write.makes tells (folded plan.files).pages most ready) write.gave)

pub returns-clause-folds : goal.returns-clause-folds
returns-clause-folds g c tells =
    let mid = g.H.Host.world c.prepare.new.host in
    let plan = c.in_ok-sources.ensures.ready tells in
    let file = c.in_ok-sources.file in
    let most = mid.reads + pages_left (pages_of_each plan.files) in
    let ready = subst (λ (ss : List Held). IsReady mid file ss (folded plan.files).pages most) (sym c.deref_mut.ensures.value) plan.ready in
    let write = c.in_ok-write.ensures in
    fold_done (g.H.Host.world c.args.host.now) mid (g.H.Host.world c.write.new.host) c.args.out.now c.args.files.now c.in_ok-sources.sources.items file c.prepare.ensures.quiet plan _
    (ap head_of (c.head.ensures ∙ write.head)) (c.written.ensures ∙ write.pages tells (folded plan.files).pages most ready) (write.done tells (folded plan.files).pages most ready) (let read = write.within tells (folded plan.files).pages most ready in omega (arith, read, plan.reads))
    (write.makes tells (folded plan.files).pages most ready) write.gave

pub returns-in_err-write-clause-within : goal.returns-in_err-write-clause-within
returns-in_err-write-clause-within g c tells =
    let old = g.H.Host.world c.args.host.now in
    let mid = g.H.Host.world c.prepare.new.host in
    let plan = c.in_ok-sources.ensures.ready tells in
    let most = mid.reads + pages_left (pages_of_each plan.files) in
    let ready = subst (λ (ss : List Held). IsReady mid c.in_ok-sources.file ss (folded plan.files).pages most) (sym c.deref_mut.ensures.value) plan.ready in
    let read = c.write.ensures.within tells (folded plan.files).pages most ready in
    omega (arith, most_folded old.files c.args.out.now c.args.files.now plan.files plan.accepted, plan.opened, read)

pub returns-clause-within : goal.returns-clause-within
returns-clause-within g c tells =
    let old = g.H.Host.world c.args.host.now in
    let mid = g.H.Host.world c.prepare.new.host in
    let plan = c.in_ok-sources.ensures.ready tells in
    let most = mid.reads + pages_left (pages_of_each plan.files) in
    let ready = subst (λ (ss : List Held). IsReady mid c.in_ok-sources.file ss (folded plan.files).pages most) (sym c.deref_mut.ensures.value) plan.ready in
    let read = c.write.ensures.within tells (folded plan.files).pages most ready in
    omega (arith, most_folded old.files c.args.out.now c.args.files.now plan.files plan.accepted, plan.opened, read)
