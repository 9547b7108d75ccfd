use Rattle.std.proofs.Common.{sym, subst, Bool, IsTrue, Result}
use Rattle.nb_top.proofs.Common.{World, Fault, Deed, Restore, Fold, Reply, Account, one_turn, Serves}
use Rattle.nb_model.specs.declared.job.Deed.TheVariants.{Plan}
use Rattle.nb_top.proofs.turn.take_turn.Goals as goal

abbrev IsTaken : (tells : Bool) → Result Reply Fault → (old new : World) → Deed → Type 0
IsTaken tells result old new deed = (account : Account) → IsTrue tells → (one_turn old.files deed).knows account → Serves result old new (one_turn old.files deed) ((one_turn old.files deed).turn account)

pub returns-in-Restore-clause-serves : goal.returns-in-Restore-clause-serves
returns-in-Restore-clause-serves g c =
    let old = g.H.Host.world c.args.host.now in
    let new = g.H.Host.world c.restored.new.host in
    subst (IsTaken g.H.Host.tells c.restored.result old new) (sym c.in-Restore.is)
    (subst (λ names. IsTaken g.H.Host.tells c.restored.result old new (Restore c.in-Restore.db names)) c.as_slice.ensures c.restored.ensures.serves)

pub returns-in-Fixup-clause-serves : goal.returns-in-Fixup-clause-serves
returns-in-Fixup-clause-serves g c =
    let old = g.H.Host.world c.args.host.now in
    let new = g.H.Host.world c.fixed.new.host in
    subst (IsTaken g.H.Host.tells c.fixed.result old new) (sym c.in-Fixup.is) (λ account told knows. c.fixed.ensures.serves told)

pub returns-in-Apply-clause-serves : goal.returns-in-Apply-clause-serves
returns-in-Apply-clause-serves g c =
    let old = g.H.Host.world c.args.host.now in
    let new = g.H.Host.world c.merged.new.host in
    subst (IsTaken g.H.Host.tells c.merged.result old new) (sym c.in-Apply.is) (λ account told knows. c.merged.ensures.serves told)

pub returns-in-Fold-clause-serves : goal.returns-in-Fold-clause-serves
returns-in-Fold-clause-serves g c =
    let old = g.H.Host.world c.args.host.now in
    let new = g.H.Host.world c.folded.new.host in
    subst (IsTaken g.H.Host.tells c.folded.result old new) (sym c.in-Fold.is)
    (subst (λ names. IsTaken g.H.Host.tells c.folded.result old new (Fold c.in-Fold.out names)) c.as_slice-in-Fold.ensures c.folded.ensures.serves)

pub returns-in-Plan-clause-serves : goal.returns-in-Plan-clause-serves
returns-in-Plan-clause-serves g c =
    let old = g.H.Host.world c.args.host.now in
    let new = g.H.Host.world c.planned.new.host in
    subst (IsTaken g.H.Host.tells c.planned.result old new) (sym c.in-Plan.is)
    (subst (λ names. IsTaken g.H.Host.tells c.planned.result old new (Plan c.in-Plan.keep names)) c.as_slice-in-Plan.ensures (λ account told knows. c.planned.ensures.serves told))
