use Rattle.nb_restore.proofs.Common.{joined, Restores, passed}
use Rattle.nb_restore.proofs.MostLaws.{prepared_within, pieces_of, copied_within}
use Rattle.nb_restore.proofs.RestoreLaws.{not_prepared, plan_for, restore_fails, restore_done}
use Rattle.std.proofs.Common.{ℕ, ◌+◌, arith}
use Rattle.nb_chain.specs.Most.{RefusedReads, chain_most}
use Rattle.nb_restore.specs.declared.plan.Plan.{Plan}
use Rattle.nb_chain.proofs.MostLaws.{refused_as}
use Rattle.nb_restore.proofs.RefusedLaws.{done_refuses}
use Rattle.nb_restore.proofs.restoring.restore.Goals as goal

pub returns-in_err-count-clause-restores : goal.returns-in_err-count-clause-restores
returns-in_err-count-clause-restores g c tells =
    let prepare = c.in_err-count.ensures in
    passed _ (λ r. Restores r (g.H.Host.world c.args.host.now) (g.H.Host.world c.prepare.new.host) c.args.target.now c.args.files.now) c.from_residual-in_err-count.result c.in_err-count.field-0.0 c.from_residual-in_err-count.ensures
    (not_prepared _ _ _ _ c.in_err-count.field-0.0 prepare.quiet (prepare.answer tells))

pub returns-in_err-write_target-clause-restores : goal.returns-in_err-write_target-clause-restores
returns-in_err-write_target-clause-restores g c tells =
    let prepare = c.in_ok-count.ensures in
    let write = c.in_err-write_target.ensures in
    let plan = plan_for _ _ (g.H.Host.world c.write_target.new.host) _ _ c.in_ok-count.field-0 prepare.quiet (prepare.answer tells) c.index-files-0.result c.deref_mut.result.now c.deref_mut-2.result.now c.index-files-0.is c.deref_mut.ensures.value c.deref_mut-2.ensures.value in
    passed _ (λ r. Restores r (g.H.Host.world c.args.host.now) (g.H.Host.world c.write_target.new.host) c.args.target.now c.args.files.now) c.from_residual-in_err-write_target.result c.in_err-write_target.field-0.0 c.from_residual-in_err-write_target.ensures
    (restore_fails _ _ _ _ _ c.in_ok-count.field-0 prepare.quiet (prepare.answer tells) (Unit {0}) _ c.in_err-write_target.field-0.0 (write.done tells _ _ plan) (write.left tells _ _ plan) (write.reads tells _ _ plan) write.gave)

pub returns-clause-restores : goal.returns-clause-restores
returns-clause-restores g c tells =
    let prepare = c.in_ok-count.ensures in
    let write = c.in_ok-write_target.ensures in
    let plan = plan_for _ _ (g.H.Host.world c.write_target.new.host) _ _ c.in_ok-count.field-0 prepare.quiet (prepare.answer tells) c.index-files-0.result c.deref_mut.result.now c.deref_mut-2.result.now c.index-files-0.is c.deref_mut.ensures.value c.deref_mut-2.ensures.value in
    restore_done _ _ _ _ _ c.in_ok-count.field-0 prepare.quiet (prepare.answer tells) (write.done tells _ _ plan) (write.left tells _ _ plan) (write.reads tells _ _ plan) write.gave

pub returns-in_err-count-clause-refused : goal.returns-in_err-count-clause-refused
returns-in_err-count-clause-refused g c tells =
    passed _ (λ r. RefusedReads r (g.H.Host.world c.args.host.now).reads (1 + chain_most (g.H.Host.world c.args.host.now).files c.args.files.now) (g.H.Host.world c.prepare.new.host).reads) c.from_residual-in_err-count.result c.in_err-count.field-0.0 c.from_residual-in_err-count.ensures
    (refused_as Plan ℕ _ _ _ _ (c.in_err-count.ensures.refused tells))

pub returns-in_err-write_target-clause-refused : goal.returns-in_err-write_target-clause-refused
returns-in_err-write_target-clause-refused g c tells =
    let prepare = c.in_ok-count.ensures in
    let plan = plan_for _ _ (g.H.Host.world c.write_target.new.host) _ _ c.in_ok-count.field-0 prepare.quiet (prepare.answer tells) c.index-files-0.result c.deref_mut.result.now c.deref_mut-2.result.now c.index-files-0.is c.deref_mut.ensures.value c.deref_mut-2.ensures.value in
    passed _ (λ r. RefusedReads r (g.H.Host.world c.args.host.now).reads (1 + chain_most (g.H.Host.world c.args.host.now).files c.args.files.now) (g.H.Host.world c.write_target.new.host).reads) c.from_residual-in_err-write_target.result c.in_err-write_target.field-0.0 c.from_residual-in_err-write_target.ensures
    (done_refuses (Unit {0}) ℕ _ c.in_err-write_target.field-0.0 _ _ _ (c.in_err-write_target.ensures.done tells _ _ plan))

pub returns-in_err-count-clause-within : goal.returns-in_err-count-clause-within
returns-in_err-count-clause-within g c tells = prepared_within _ _ _ _ (c.prepare.ensures.within tells)

pub returns-in_err-write_target-clause-within : goal.returns-in_err-write_target-clause-within
returns-in_err-write_target-clause-within g c tells =
    let prepare = c.in_ok-count.ensures in
    let is = prepare.answer tells in
    let plan = plan_for _ _ (g.H.Host.world c.write_target.new.host) _ _ c.in_ok-count.field-0 prepare.quiet (prepare.answer tells) c.index-files-0.result c.deref_mut.result.now c.deref_mut-2.result.now c.index-files-0.is c.deref_mut.ensures.value c.deref_mut-2.ensures.value in
    let pieces = pieces_of _ _ is.pages plan.whole.sizes plan.whole.long in
    let ready = c.prepare.ensures.within tells in
    let write = c.write_target.ensures.within tells _ _ plan in
    copied_within _ _ is.level_0 is.others is.chain.links is.links (joined is.pages) _ _ _ is.chain.accepted is.named is.rest is.plan_is.whole.there ready (omega (arith, pieces, write))

pub returns-clause-within : goal.returns-clause-within
returns-clause-within g c tells =
    let prepare = c.in_ok-count.ensures in
    let is = prepare.answer tells in
    let plan = plan_for _ _ (g.H.Host.world c.write_target.new.host) _ _ c.in_ok-count.field-0 prepare.quiet (prepare.answer tells) c.index-files-0.result c.deref_mut.result.now c.deref_mut-2.result.now c.index-files-0.is c.deref_mut.ensures.value c.deref_mut-2.ensures.value in
    let pieces = pieces_of _ _ is.pages plan.whole.sizes plan.whole.long in
    let ready = c.prepare.ensures.within tells in
    let write = c.write_target.ensures.within tells _ _ plan in
    copied_within _ _ is.level_0 is.others is.chain.links is.links (joined is.pages) _ _ _ is.chain.accepted is.named is.rest is.plan_is.whole.there ready (omega (arith, pieces, write))

pub returns-in_err-piece-clause-within : goal.returns-in_err-piece-clause-within
returns-in_err-piece-clause-within g c tells = omega arith
