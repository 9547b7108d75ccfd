use Rattle.std.proofs.Common.{◌+◌, ◌≤◌, arith}
use Rattle.nb_chain.specs.Most.{chain_most, check_most}
use Rattle.nb_chain.proofs.MostLaws.{refused_later}
use Rattle.nb_restore.proofs.MostLaws.{check_later}
use Rattle.nb_restore.proofs.plan.accept.Goals as goal

pub returns-then-not-branch-clause-refused : goal.returns-then-not-branch-clause-refused
returns-then-not-branch-clause-refused g c tells =
    let few : (g.H.Host.world c.is_free.new.host).reads ≤ (g.H.Host.world c.args.host.now).reads + (1 + chain_most (g.H.Host.world c.args.host.now).files c.args.files.now) = omega (arith, c.in_ok-is_free.ensures.reads tells) in
    few

pub returns-clause-refused : goal.returns-clause-refused
returns-clause-refused g c tells = refused_later _ c.check.result _ _ _ _ 1 _ _ c.in_ok-is_free.ensures.quiet.still.files (c.in_ok-is_free.ensures.reads tells) (c.check.ensures.refused tells)

pub returns-in_err-is_free-clause-within : goal.returns-in_err-is_free-clause-within
returns-in_err-is_free-clause-within g c tells =
    let once = c.is_free.ensures.once tells in
    let few : (g.H.Host.world c.is_free.new.host).reads ≤ (g.H.Host.world c.args.host.now).reads + (1 + check_most (g.H.Host.world c.args.host.now).files c.args.files.now) = omega (arith, once) in
    few

pub returns-then-not-branch-clause-within : goal.returns-then-not-branch-clause-within
returns-then-not-branch-clause-within g c tells =
    let once = c.is_free.ensures.once tells in
    let few : (g.H.Host.world c.is_free.new.host).reads ≤ (g.H.Host.world c.args.host.now).reads + (1 + check_most (g.H.Host.world c.args.host.now).files c.args.files.now) = omega (arith, once) in
    few

pub returns-clause-within : goal.returns-clause-within
returns-clause-within g c tells = check_later _ _ _ _ _ _ c.in_ok-is_free.ensures.quiet.still.files (c.is_free.ensures.once tells) (c.check.ensures.within tells)
