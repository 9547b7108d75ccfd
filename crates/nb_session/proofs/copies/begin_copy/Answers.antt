use Rattle.std.proofs.Common.{◌≡◌, [], sym, ap, subst, Ok, Err, None, Some}
use Rattle.nb_session.proofs.Common.{Fault, CopyTo, copy_turn, Begins, name_of, Copying, StartsCopy, Taken, IsBehind}
use Rattle.nb_session.proofs.CopyLaws.{name_kept, cap_kept, knows_unused, begin_acts, begin_behind, begin_refused}
use Rattle.nb_session.proofs.EventLaws.{marks_none}
use Rattle.nb_session.proofs.TouchingLaws.{begins_touch}
use Rattle.nb_session.proofs.StepLaws.{counts_as}
use Rattle.nb_session.proofs.TurnLaws.{seen_now, turns_quiet, begun_ended}
use Rattle.nb_session.proofs.copies.begin_copy.Goals as goal

pub returns-in-Ok-clause-turn : goal.returns-in-Ok-clause-turn
returns-in-Ok-clause-turn g c how now t more tells ready makes here =
    let old = g.H.Host.world c.args.host.now in
    let mid = g.H.Host.world c.start.new.host in
    let a = c.args.engine.now in
    let b = c.start.new.engine in
    let name = c.args.name.now in
    let copier = c.in-Ok.copier in
    let named : name_of b ≡ name_of a = name_kept (record a { running = Some c.args.session }) b c.in-Ok.ensures.held in
    let starts = c.in-Ok.ensures.turn (seen_now now) t tells ready.base ready.running ready.opened (knows_unused old a t now name ready makes.going c.requires.plain) in
    turns_quiet how (λ copy. None) (Ok copier) (λ (taken : Taken). taken.refused) (λ (taken : Taken). taken.task) old mid mid a b t now c.args.session (Begins (CopyTo name)) [] more [] (begins_touch c.args.session (CopyTo name) now (λ asks. asks)) makes here
    (begin_acts old mid a b t now c.args.session name ready named (Ok copier) (cap_kept (record a { running = Some c.args.session }) b c.in-Ok.ensures.held) starts) (λ acts. marks_none old mid a)
    c.under_way.result tt (ap (λ (x : Taken). x.refused) c.under_way.ensures) ready (λ said is. is)
    (λ told. subst (λ (x : Taken). IsBehind mid b c.args.session (Begins (CopyTo name)) [] now x.task) (sym c.under_way.ensures) (begin_behind old mid a b t now c.args.session name ready named copier c.requires.plain starts))

pub returns-in-Err-clause-turn : goal.returns-in-Err-clause-turn
returns-in-Err-clause-turn g c how now t more tells ready makes here =
    let old = g.H.Host.world c.args.host.now in
    let mid = g.H.Host.world c.start.new.host in
    let new = g.H.Host.world c.end_early.new.host in
    let a = c.args.engine.now in
    let b = c.start.new.engine in
    let session = c.args.session in
    let name = c.args.name.now in
    let fault = c.in-Err.fault in
    let named : name_of b ≡ name_of a = name_kept a b c.in-Err.ensures.stays in
    let starts = c.in-Err.ensures.turn (seen_now now) t tells ready.base ready.running ready.opened (knows_unused old a t now name ready makes.going c.requires.plain) in
    begun_ended how (λ copy. None) old mid new a b t now session (CopyTo name) more [] (begins_touch session (CopyTo name) now (λ asks. asks)) makes here ready fault
    (begin_acts old mid a b t now session name ready named (Err fault) (cap_kept a b c.in-Err.ensures.stays) starts) (λ acts. marks_none old mid a) c.end_early.result (c.end_early.new.host ≡ c.start.new.host) (ap g.H.Host.world) (c.end_early.ensures.ended tells) c.end_early.ensures.taken
    (λ refusal is told. begin_refused old mid a b t now session name ready named refusal (subst (λ (f : Fault). StartsCopy (Err f) old mid a b t name (copy_turn (seen_now now) session name)) is starts) new)

pub returns-in-Err-clause-cause : goal.returns-in-Err-clause-cause
returns-in-Err-clause-cause g c = c.end_early.ensures.cause _ (counts_as Copying Taken c.in-Err.fault _ _ c.in-Err.ensures.cause)
