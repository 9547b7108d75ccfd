use Rattle.std.proofs.Common.{◌≡◌, [], sym, ap, subst, Ok, Err, None}
use Rattle.nb_session.proofs.Common.{Fault, Begins, Given, next_guid, first_turn, GaveAtMost, Backed, StartsBackup, Taken, file_asked, begun_in, IsBehind}
use Rattle.nb_session.proofs.BackupLaws.{file_plain, no_delta, seen_with, knows_free, starts_told, start_acts, start_apart, start_behind, start_refused}
use Rattle.nb_session.proofs.EventLaws.{marks_made}
use Rattle.nb_session.proofs.StepLaws.{counts_as}
use Rattle.nb_session.proofs.TouchingLaws.{start_touch}
use Rattle.nb_session.proofs.TurnLaws.{seen_now, turns_quiet, begun_ended}
use Rattle.nb_session.proofs.copies.begin_backup.Goals as goal

pub returns-in-Ok-clause-turn : goal.returns-in-Ok-clause-turn
returns-in-Ok-clause-turn g c how now t more tells ready makes here =
    let old = g.H.Host.world c.args.host.now in
    let mid = g.H.Host.world c.start.new.host in
    let a = c.args.engine.now in
    let b = c.start.new.engine in
    let session = c.args.session in
    let it = c.args.statement.now in
    let asks = c.requires.backup in
    let plain = file_plain it asks c.requires.asked.fits in
    let asked = c.in-Ok.ensures.asks t tells ready.opened in
    let starts = λ (given : Given) (most : GaveAtMost old mid (next_guid given)). c.in-Ok.ensures.turn (seen_with now given) t tells ready.base ready.running ready.opened (knows_free old a t now (file_asked it) ready makes.going plain) (no_delta a (file_asked it) plain) most in
    turns_quiet how (λ copier. None) (Ok c.in-Ok.copier) (λ (taken : Taken). taken.refused) (λ (taken : Taken). taken.task) old mid mid a b t now session (Begins it) [] more (begun_in session (Begins it) now) (start_touch session it now) makes here
    (start_acts old mid a b t now session it asks ready (Ok c.in-Ok.copier) starts asked.0 asked.2 asked.1 c.start.ensures.cap) (marks_made (λ (copier : Backed). None) (Ok c.in-Ok.copier) old mid a b t now session (Begins it) (begun_in session (Begins it) now) (start_apart old mid a b t now session it asks ready plain) (λ m. g.met.H.Host.reads_left c.start.new.host tells m))
    c.under_way.result tt (ap (λ (x : Taken). x.refused) c.under_way.ensures) ready (λ said is. is)
    (λ told. subst (λ (x : Taken). IsBehind mid b session (Begins it) [] now x.task) (sym c.under_way.ensures)
    (start_behind old mid a b t now session it asks ready c.in-Ok.copier (next_guid now.given) plain (starts_told old mid a b t now session it asks ready (Ok c.in-Ok.copier) starts asked.0 asked.2 told)))

pub returns-in-Err-clause-turn : goal.returns-in-Err-clause-turn
returns-in-Err-clause-turn g c how now t more tells ready makes here =
    let old = g.H.Host.world c.args.host.now in
    let mid = g.H.Host.world c.start.new.host in
    let new = g.H.Host.world c.end_early.new.host in
    let a = c.args.engine.now in
    let b = c.start.new.engine in
    let session = c.args.session in
    let it = c.args.statement.now in
    let asks = c.requires.backup in
    let plain = file_plain it asks c.requires.asked.fits in
    let fault = c.in-Err.fault in
    let asked = c.in-Err.ensures.asks t tells ready.opened in
    let starts = λ (given : Given) (most : GaveAtMost old mid (next_guid given)). c.in-Err.ensures.turn (seen_with now given) t tells ready.base ready.running ready.opened (knows_free old a t now (file_asked it) ready makes.going plain) (no_delta a (file_asked it) plain) most in
    begun_ended how (λ copier. None) old mid new a b t now session it more (begun_in session (Begins it) now) (start_touch session it now) makes here ready fault
    (start_acts old mid a b t now session it asks ready (Err fault) starts asked.0 asked.2 asked.1 c.start.ensures.cap)
    (marks_made (λ (copier : Backed). None) (Err fault) old mid a b t now session (Begins it) (begun_in session (Begins it) now) (start_apart old mid a b t now session it asks ready plain) (λ m. g.met.H.Host.reads_left c.start.new.host tells m))
    c.end_early.result (c.end_early.new.host ≡ c.start.new.host) (ap g.H.Host.world) (c.end_early.ensures.ended tells) c.end_early.ensures.taken
    (λ refusal is told. start_refused old mid a b t now session it asks ready refusal (next_guid now.given)
    (subst (λ (f : Fault). StartsBackup (Err f) old mid a b t (file_asked it) (next_guid now.given) (first_turn (seen_now now) session it)) is (starts_told old mid a b t now session it asks ready (Err fault) starts asked.0 asked.2 told)) new)

pub returns-in-Err-clause-cause : goal.returns-in-Err-clause-cause
returns-in-Err-clause-cause g c = c.end_early.ensures.cause _ (counts_as Backed Taken c.in-Err.fault _ _ c.in-Err.ensures.cause)
