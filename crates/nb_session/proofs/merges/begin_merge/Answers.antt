use Rattle.std.proofs.Common.{◌≡◌, ℕ, [], length, refl, sym, ap, subst, ◌∙◌, Ok, Err, Some, None}
use Rattle.nb_session.proofs.Common.{Fault, Reply, Begins, end_turn, end_scn, end_reply, DoesEnd, Merge, Taken, IsBehind}
use Rattle.nb_session.proofs.ActivateLaws.{begins_over, begins_plain, begins_end}
use Rattle.nb_session.proofs.EventLaws.{marks_none}
use Rattle.nb_session.proofs.TouchingLaws.{begins_touch}
use Rattle.nb_session.proofs.MergeLaws.{end_acts, end_behind, end_refused}
use Rattle.nb_session.proofs.StepLaws.{counts_as}
use Rattle.nb_session.proofs.TurnLaws.{seen_now, turns_quiet, begun_ended}
use Rattle.nb_session.proofs.merges.begin_merge.Goals as goal

pub returns-in-Ok-clause-turn : goal.returns-in-Ok-clause-turn
returns-in-Ok-clause-turn g c how now t more tells ready makes here =
    let old = g.H.Host.world c.args.host.now in
    let mid = g.H.Host.world c.end.new.host in
    let a = c.args.engine.now in
    let b = c.end.new.self in
    let session = c.args.session in
    let statement = c.args.statement.now in
    let over = begins_over statement a c.requires.ends in
    let alike = begins_end old a t now session ready statement c.requires.ends in
    let does = c.in-Ok.ensures.turn (seen_now now) t tells ready.base ready.running ready.opened in
    let said : end_reply statement a.files.count (end_scn t.base.image) ≡ c.reply_once_merged.result =
    sym (c.reply_once_merged.ensures.reply ∙ ap (λ (n : ℕ). end_reply statement n c.in-Ok.scn) c.count-pages.ensures.value ∙ ap (end_reply statement a.files.count) does.answer) in
    turns_quiet how (λ scn. None) (Ok c.in-Ok.scn) (λ (taken : Taken). taken.refused) (λ (taken : Taken). taken.task) old mid mid a b t now session _ [] more [] (begins_touch session statement now (begins_plain statement a c.requires.ends)) makes here
    (end_acts old mid a b t now session ready (Begins statement) _ over alike (Ok c.in-Ok.scn) c.end.ensures.cap tt does) (λ acts. marks_none old mid a)
    c.merge_of.result tt (ap (λ (x : Taken). x.refused) c.merge_of.ensures) ready (λ said is. is)
    (λ told. subst (λ (x : Taken). IsBehind mid b session (Begins statement) [] now x.task) (sym c.merge_of.ensures)
    (subst (λ (r : Reply). IsBehind mid b session (Begins statement) [] now (Some (Merge (record { left = length b.files.entries; reply = r })))) said
    (end_behind old mid a b t now session ready (Begins statement) _ over alike (length b.files.entries) refl c.in-Ok.scn does)))

pub returns-in-Err-clause-turn : goal.returns-in-Err-clause-turn
returns-in-Err-clause-turn g c how now t more tells ready makes here =
    let old = g.H.Host.world c.args.host.now in
    let mid = g.H.Host.world c.end.new.host in
    let new = g.H.Host.world c.end_early.new.host in
    let a = c.args.engine.now in
    let b = c.end.new.self in
    let session = c.args.session in
    let statement = c.args.statement.now in
    let over = begins_over statement a c.requires.ends in
    let alike = begins_end old a t now session ready statement c.requires.ends in
    let fault = c.in-Err.fault in
    let does = c.in-Err.ensures.turn (seen_now now) t tells ready.base ready.running ready.opened in
    begun_ended how (λ scn. None) old mid new a b t now session statement more [] (begins_touch session statement now (begins_plain statement a c.requires.ends)) makes here ready fault
    (end_acts old mid a b t now session ready (Begins statement) _ over alike (Err fault) c.end.ensures.cap c.in-Err.ensures.takes_none does) (λ acts. marks_none old mid a) c.end_early.result (c.end_early.new.host ≡ c.end.new.host) (ap g.H.Host.world) (c.end_early.ensures.ended tells) c.end_early.ensures.taken
    (λ refusal is told. end_refused old mid a b t now session ready (Begins statement) _ over alike refusal (subst (λ (f : Fault). DoesEnd (Err f) old mid a b t (end_scn t.base.image) (end_turn (seen_now now) session)) is does) new)

pub returns-in-Err-clause-cause : goal.returns-in-Err-clause-cause
returns-in-Err-clause-cause g c = c.end_early.ensures.cause _ (counts_as ℕ Taken c.in-Err.fault _ _ c.in-Err.ensures.cause)
