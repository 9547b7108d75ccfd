use Rattle.std.proofs.Common.{ℕ, [], refl, ap, ◌∙◌, Ok, Err, Some}
use Rattle.nb_session.proofs.Common.{Device, Reply, Done, PageMade, Value, Scn, ImageShown, CacheShown, write_turn, header_turn, first_turn, done, page_made, valued, scn_is, Held, some_said, quiet_begun}
use Rattle.nb_shown.specs.Replies.{pages_shown, image_shown}
use Rattle.nb_alloc.proofs.WantLaws.{not_wanted}
use Rattle.nb_model.specs.declared.statement.Statement.TheVariants.{Read, ShowPages, ShowImage}
use Rattle.nb_session.proofs.ShortLaws.{read_strokes, stops_lack, wanted_map}
use Rattle.nb_session.proofs.ActLaws.{some_by, does_acts, does_replied, replied_err, tells_replied, tells_unsaid, may_passed, may_value, sync_acts, sync_failed, begin_acts, cache_acts}
use Rattle.nb_session.proofs.FindLaws.{found_nothing}
use Rattle.nb_session.proofs.HeaderLaws.{header_does}
use Rattle.nb_session.proofs.TurnLaws.{seen_now}
use Rattle.nb_session.proofs.statement.do_statement.Goals as goal

pub returns-in-Write-clause-turn : goal.returns-in-Write-clause-turn
unfolding first_turn
returns-in-Write-clause-turn g c now t session tells ready =
    does_replied done c.page_write.result c.done.result c.done.ensures.reply _ _ _ _ t now session c.args.statement.now _ c.in-Write.is refl refl refl _ (ap (λ text. write_turn (seen_now now) c.in-Write.page text) c.as_slice.ensures) ready (wanted_map c.page_write.result (stops_lack _ _ _ _ t _) (c.page_write.ensures.on_memory (seen_now now) t tells ready.base ready.opened))
    (c.page_write.ensures.turn (seen_now now) t tells ready.base ready.opened)

pub returns-in_err-text-in-Read-clause-turn : goal.returns-in_err-text-in-Read-clause-turn
unfolding first_turn
returns-in_err-text-in-Read-clause-turn g c now t session tells ready =
    tells_replied valued (Err c.in_err-text-in-Read.field-0.0) c.from_residual.result (replied_err valued _ c.from_residual.result c.from_residual.ensures) _ _ _ _ t now session c.args.statement.now _ c.in-Read.is refl refl refl _ refl (read_strokes (Read c.in-Read.page) refl (seen_now now) session) ready
    (c.in_err-text-in-Read.ensures.turn (seen_now now) t tells ready.base ready.opened)

pub returns-in_err-new-in-Read-clause-turn : goal.returns-in_err-new-in-Read-clause-turn
unfolding first_turn
returns-in_err-new-in-Read-clause-turn g c now t session tells ready =
    tells_unsaid valued c.in_ok-text-in-Read.text _ c.from_residual-in_err-new-in-Read.result c.in_err-new-in-Read.ensures.only_memory c.from_residual-in_err-new-in-Read.ensures _ _ _ _ t now session c.args.statement.now _ c.in-Read.is refl refl refl _ refl (read_strokes (Read c.in-Read.page) refl (seen_now now) session) ready
    (c.in_ok-text-in-Read.ensures.turn (seen_now now) t tells ready.base ready.opened)

pub returns-in_ok-new-in-Read-clause-turn : goal.returns-in_ok-new-in-Read-clause-turn
unfolding first_turn
returns-in_ok-new-in-Read-clause-turn g c now t session tells ready =
    does_replied valued (Ok c.in_ok-text-in-Read.text) (Ok (Value c.in_ok-new-in-Read.field-0)) (ap Value (c.in_ok-new-in-Read.ensures.ok ∙ c.as_slice-in-Read.ensures.value)) _ _ _ _ t now session c.args.statement.now _ c.in-Read.is refl refl refl _ refl ready tt
    (c.in_ok-text-in-Read.ensures.turn (seen_now now) t tells ready.base ready.opened)

pub returns-in_err-page-in-PageNew-clause-turn : goal.returns-in_err-page-in-PageNew-clause-turn
unfolding first_turn
returns-in_err-page-in-PageNew-clause-turn g c now t session tells ready =
    does_replied page_made (Err c.in_err-page-in-PageNew.field-0.0) c.from_residual-in_err-page-in-PageNew.result (replied_err page_made _ c.from_residual-in_err-page-in-PageNew.result c.from_residual-in_err-page-in-PageNew.ensures) _ _ _ _ t now session c.args.statement.now _ c.in-PageNew.is refl refl refl _ refl ready
    (wanted_map {T = ℕ} (Err c.in_err-page-in-PageNew.field-0.0) (stops_lack _ _ _ _ t _) (c.in_err-page-in-PageNew.ensures.on_memory (seen_now now) t tells ready.base ready.opened))
    (c.in_err-page-in-PageNew.ensures.turn (seen_now now) t tells ready.base ready.opened)

pub returns-in_ok-page-in-PageNew-clause-turn : goal.returns-in_ok-page-in-PageNew-clause-turn
unfolding first_turn
returns-in_ok-page-in-PageNew-clause-turn g c now t session tells ready =
    does_replied page_made (Ok c.in_ok-page-in-PageNew.page) (Ok (PageMade c.in_ok-page-in-PageNew.page)) refl _ _ _ _ t now session c.args.statement.now _ c.in-PageNew.is refl refl refl _ refl ready tt
    (c.in_ok-page-in-PageNew.ensures.turn (seen_now now) t tells ready.base ready.opened)

pub returns-in-Free-clause-turn : goal.returns-in-Free-clause-turn
unfolding first_turn
returns-in-Free-clause-turn g c now t session tells ready =
    does_replied done c.page_free.result c.done-in-Free.result c.done-in-Free.ensures.reply _ _ _ _ t now session c.args.statement.now _ c.in-Free.is refl refl refl _ refl ready (wanted_map c.page_free.result (stops_lack _ _ _ _ t _) (c.page_free.ensures.on_memory (seen_now now) t tells ready.base ready.opened))
    (c.page_free.ensures.turn (seen_now now) t tells ready.base ready.opened)

pub returns-in-Forced-clause-turn : goal.returns-in-Forced-clause-turn
unfolding first_turn
returns-in-Forced-clause-turn g c now t session tells ready =
    does_replied done c.set_forced.result c.done-in-Forced.result c.done-in-Forced.ensures.reply _ _ _ _ t now session c.args.statement.now _ c.in-Forced.is refl refl refl _ refl ready (wanted_map c.set_forced.result (stops_lack _ _ _ _ t _) (c.set_forced.ensures.on_memory (seen_now now) t tells ready.base ready.opened))
    (c.set_forced.ensures.turn (seen_now now) t tells ready.base ready.opened)

pub returns-in-Access-clause-turn : goal.returns-in-Access-clause-turn
unfolding first_turn
returns-in-Access-clause-turn g c now t session tells ready =
    does_replied done c.set_access.result c.done-in-Access.result c.done-in-Access.ensures.reply _ _ _ _ t now session c.args.statement.now _ c.in-Access.is refl refl refl _ refl ready (not_wanted c.set_access.result _ c.set_access.ensures.takes_none)
    (c.set_access.ensures.turn (seen_now now) t tells ready.base ready.opened)

pub returns-in_err-scn-in-BeginBackup-clause-turn : goal.returns-in_err-scn-in-BeginBackup-clause-turn
returns-in_err-scn-in-BeginBackup-clause-turn g c now t session tells ready =
    let asked = c.in_err-scn-in-BeginBackup.ensures.asks tells in
    may_passed (some_by scn_is) some_said _ _ _ _ t now session _ [] _ c.from_residual-in_err-scn-in-BeginBackup.result c.from_residual-in_err-scn-in-BeginBackup.ensures
    (begin_acts _ _ _ _ _ t now session c.args.statement.now c.in-BeginBackup.is ready c.in_err-scn-in-BeginBackup.ensures.cap asked.0 asked.1 asked.2 c.in_err-scn-in-BeginBackup.ensures.takes_none
    (λ s base gave. c.in_err-scn-in-BeginBackup.ensures.turn s t tells base ready.opened gave))

pub returns-in_ok-scn-in-BeginBackup-clause-turn : goal.returns-in_ok-scn-in-BeginBackup-clause-turn
returns-in_ok-scn-in-BeginBackup-clause-turn g c now t session tells ready =
    let asked = c.in_ok-scn-in-BeginBackup.ensures.asks tells in
    may_value (some_by scn_is) some_said _ _ _ _ t now session _ [] c.in_ok-scn-in-BeginBackup.scn (Scn c.in_ok-scn-in-BeginBackup.scn) refl
    (begin_acts _ _ _ _ _ t now session c.args.statement.now c.in-BeginBackup.is ready c.in_ok-scn-in-BeginBackup.ensures.cap asked.0 asked.1 asked.2 tt
    (λ s base gave. c.in_ok-scn-in-BeginBackup.ensures.turn s t tells base ready.opened gave))

pub returns-in_ok-sync-in-Sync-clause-turn : goal.returns-in_ok-sync-in-Sync-clause-turn
returns-in_ok-sync-in-Sync-clause-turn g c now t session tells ready =
    may_value (λ v. Some Done) some_said _ _ _ _ t now session _ [] c.in_ok-sync-in-Sync.field-0 Done refl
    (sync_acts _ _ _ _ t now session c.args.statement.now c.in-Sync.is ready c.in_ok-sync-in-Sync.ensures.same (c.in_ok-sync-in-Sync.ensures.takes t tells ready.opened).left (c.in_ok-sync-in-Sync.ensures.long t tells ready.opened) c.in_ok-sync-in-Sync.ensures.gave c.in_ok-sync-in-Sync.field-0
    (c.in_ok-sync-in-Sync.ensures.settled t tells ready.opened))

pub returns-in_err-sync-in-Sync-clause-turn : goal.returns-in_err-sync-in-Sync-clause-turn
returns-in_err-sync-in-Sync-clause-turn g c now t session tells ready =
    may_passed some_said some_said _ _ _ _ t now session _ [] Device c.from_residual-in_err-sync-in-Sync.result c.from_residual-in_err-sync-in-Sync.ensures
    (sync_failed _ _ _ _ t now session c.args.statement.now c.in-Sync.is ready c.in_err-sync-in-Sync.ensures.same (c.in_err-sync-in-Sync.ensures.takes t tells ready.opened).left (c.in_err-sync-in-Sync.ensures.long t tells ready.opened) c.in_err-sync-in-Sync.ensures.gave some_said)

pub returns-in-ShowHeader-clause-turn : goal.returns-in-ShowHeader-clause-turn
unfolding first_turn
returns-in-ShowHeader-clause-turn g c now t session tells ready =
    let s = seen_now now in
    let w = g.H.Host.world c.args.host.now in
    let held = c.args.engine.now in
    does_acts (λ r. r) (Ok c.header_shown.result) w w held held t now session c.args.statement.now _ c.in-ShowHeader.is refl refl refl (header_turn s) refl ready tt
    (header_does w held t s c.header_shown.result ready.base (quiet_begun w (g.met.H.Host.timely _)) ready.opened (c.header_shown.ensures t.base ready.opened.files.agrees ready.opened.agrees))

pub returns-in-ShowCache-clause-turn : goal.returns-in-ShowCache-clause-turn
returns-in-ShowCache-clause-turn g c now t session tells ready =
    cache_acts (g.H.Host.world c.args.host.now) c.args.engine.now t now session c.args.statement.now c.in-ShowCache.is (g.met.H.Host.timely _) ready (CacheShown c.capacity.result c.held.result)
    (ap (λ (n : ℕ). CacheShown n c.held.result) c.capacity.ensures ∙ ap (CacheShown c.args.engine.now.cap) c.held.ensures)

pub returns-in_err-counts-in-ShowPages-clause-turn : goal.returns-in_err-counts-in-ShowPages-clause-turn
unfolding first_turn
returns-in_err-counts-in-ShowPages-clause-turn g c now t session tells ready =
    tells_replied pages_shown (Err c.in_err-counts-in-ShowPages.field-0.0) c.from_residual-in_err-counts-in-ShowPages.result (replied_err pages_shown _ c.from_residual-in_err-counts-in-ShowPages.result c.from_residual-in_err-counts-in-ShowPages.ensures) _ _ _ _ t now session c.args.statement.now _ c.in-ShowPages.is refl refl refl _ refl (read_strokes ShowPages refl (seen_now now) session) ready
    (c.in_err-counts-in-ShowPages.ensures.turn (seen_now now) t tells ready.base ready.opened)

pub returns-in_ok-counts-in-ShowPages-clause-turn : goal.returns-in_ok-counts-in-ShowPages-clause-turn
unfolding first_turn
returns-in_ok-counts-in-ShowPages-clause-turn g c now t session tells ready =
    does_replied pages_shown (Ok c.in_ok-counts-in-ShowPages.counts) (Ok c.pages_shown.result) c.pages_shown.ensures _ _ _ _ t now session c.args.statement.now _ c.in-ShowPages.is refl refl refl _ refl ready tt
    (c.in_ok-counts-in-ShowPages.ensures.turn (seen_now now) t tells ready.base ready.opened)

pub returns-in_err-sha256-in-ShowImage-clause-turn : goal.returns-in_err-sha256-in-ShowImage-clause-turn
unfolding first_turn
returns-in_err-sha256-in-ShowImage-clause-turn g c now t session tells ready =
    tells_replied (image_shown c.args.engine.now.files.count) (Err c.in_err-sha256-in-ShowImage.field-0.0) c.from_residual-in_err-sha256-in-ShowImage.result (replied_err (image_shown c.args.engine.now.files.count) _ c.from_residual-in_err-sha256-in-ShowImage.result c.from_residual-in_err-sha256-in-ShowImage.ensures) _ _ _ _ t now session c.args.statement.now _ c.in-ShowImage.is refl refl refl _ refl (read_strokes ShowImage refl (seen_now now) session) ready
    (c.in_err-sha256-in-ShowImage.ensures.turn (seen_now now) t tells ready.base ready.opened)

pub returns-in_ok-sha256-in-ShowImage-clause-turn : goal.returns-in_ok-sha256-in-ShowImage-clause-turn
unfolding first_turn
returns-in_ok-sha256-in-ShowImage-clause-turn g c now t session tells ready =
    let shown = c.in_ok-sha256-in-ShowImage.ensures in
    let pages = c.count.ensures.value ∙ ap (λ (h : Held). h.files.count) shown.looks.same in
    does_replied (image_shown c.args.engine.now.files.count) (Ok c.in_ok-sha256-in-ShowImage.sha256) (Ok (ImageShown c.count.result c.in_ok-sha256-in-ShowImage.sha256)) (ap (λ (n : ℕ). ImageShown n c.in_ok-sha256-in-ShowImage.sha256) pages) _ _ _ _ t now session c.args.statement.now _ c.in-ShowImage.is refl refl refl _ refl ready tt
    (shown.turn (seen_now now) t tells ready.base ready.opened)

pub returns-in-Write-clause-danger : goal.returns-in-Write-clause-danger
returns-in-Write-clause-danger g c t tells opened = found_nothing {S = Reply} c.args.statement.now _ t.base.image c.args.danger.now c.done.result c.in-Write.is refl

pub returns-in_err-text-in-Read-clause-danger : goal.returns-in_err-text-in-Read-clause-danger
returns-in_err-text-in-Read-clause-danger g c t tells opened = found_nothing {S = Reply} c.args.statement.now _ t.base.image c.args.danger.now c.from_residual.result c.in-Read.is refl

pub returns-in_err-new-in-Read-clause-danger : goal.returns-in_err-new-in-Read-clause-danger
returns-in_err-new-in-Read-clause-danger g c t tells opened = found_nothing {S = Reply} c.args.statement.now _ t.base.image c.args.danger.now c.from_residual-in_err-new-in-Read.result c.in-Read.is refl

pub returns-in_ok-new-in-Read-clause-danger : goal.returns-in_ok-new-in-Read-clause-danger
returns-in_ok-new-in-Read-clause-danger g c t tells opened = found_nothing {S = Reply} c.args.statement.now _ t.base.image c.args.danger.now (Ok (Value c.in_ok-new-in-Read.field-0)) c.in-Read.is refl

pub returns-in_err-page-in-PageNew-clause-danger : goal.returns-in_err-page-in-PageNew-clause-danger
returns-in_err-page-in-PageNew-clause-danger g c t tells opened = found_nothing {S = Reply} c.args.statement.now _ t.base.image c.args.danger.now c.from_residual-in_err-page-in-PageNew.result c.in-PageNew.is refl

pub returns-in_ok-page-in-PageNew-clause-danger : goal.returns-in_ok-page-in-PageNew-clause-danger
returns-in_ok-page-in-PageNew-clause-danger g c t tells opened = found_nothing {S = Reply} c.args.statement.now _ t.base.image c.args.danger.now (Ok (PageMade c.in_ok-page-in-PageNew.page)) c.in-PageNew.is refl

pub returns-in-Free-clause-danger : goal.returns-in-Free-clause-danger
returns-in-Free-clause-danger g c t tells opened = found_nothing {S = Reply} c.args.statement.now _ t.base.image c.args.danger.now c.done-in-Free.result c.in-Free.is refl

pub returns-in-Forced-clause-danger : goal.returns-in-Forced-clause-danger
returns-in-Forced-clause-danger g c t tells opened = found_nothing {S = Reply} c.args.statement.now _ t.base.image c.args.danger.now c.done-in-Forced.result c.in-Forced.is refl

pub returns-in-Access-clause-danger : goal.returns-in-Access-clause-danger
returns-in-Access-clause-danger g c t tells opened = found_nothing {S = Reply} c.args.statement.now _ t.base.image c.args.danger.now c.done-in-Access.result c.in-Access.is refl

pub returns-in_err-scn-in-BeginBackup-clause-danger : goal.returns-in_err-scn-in-BeginBackup-clause-danger
returns-in_err-scn-in-BeginBackup-clause-danger g c t tells opened = found_nothing {S = Reply} c.args.statement.now _ t.base.image c.args.danger.now c.from_residual-in_err-scn-in-BeginBackup.result c.in-BeginBackup.is refl

pub returns-in_ok-scn-in-BeginBackup-clause-danger : goal.returns-in_ok-scn-in-BeginBackup-clause-danger
returns-in_ok-scn-in-BeginBackup-clause-danger g c t tells opened = found_nothing {S = Reply} c.args.statement.now _ t.base.image c.args.danger.now (Ok (Scn c.in_ok-scn-in-BeginBackup.scn)) c.in-BeginBackup.is refl

pub returns-in_ok-sync-in-Sync-clause-danger : goal.returns-in_ok-sync-in-Sync-clause-danger
returns-in_ok-sync-in-Sync-clause-danger g c t tells opened = found_nothing {S = Reply} c.args.statement.now _ t.base.image c.args.danger.now (Ok Done) c.in-Sync.is refl

pub returns-in_err-sync-in-Sync-clause-danger : goal.returns-in_err-sync-in-Sync-clause-danger
returns-in_err-sync-in-Sync-clause-danger g c t tells opened = found_nothing {S = Reply} c.args.statement.now _ t.base.image c.args.danger.now c.from_residual-in_err-sync-in-Sync.result c.in-Sync.is refl

pub returns-in-ShowHeader-clause-danger : goal.returns-in-ShowHeader-clause-danger
returns-in-ShowHeader-clause-danger g c t tells opened = found_nothing {S = Reply} c.args.statement.now _ t.base.image c.args.danger.now (Ok c.header_shown.result) c.in-ShowHeader.is refl

pub returns-in-ShowCache-clause-danger : goal.returns-in-ShowCache-clause-danger
returns-in-ShowCache-clause-danger g c t tells opened = found_nothing {S = Reply} c.args.statement.now _ t.base.image c.args.danger.now (Ok (CacheShown c.capacity.result c.held.result)) c.in-ShowCache.is refl

pub returns-in_err-counts-in-ShowPages-clause-danger : goal.returns-in_err-counts-in-ShowPages-clause-danger
returns-in_err-counts-in-ShowPages-clause-danger g c t tells opened = found_nothing {S = Reply} c.args.statement.now _ t.base.image c.args.danger.now c.from_residual-in_err-counts-in-ShowPages.result c.in-ShowPages.is refl

pub returns-in_ok-counts-in-ShowPages-clause-danger : goal.returns-in_ok-counts-in-ShowPages-clause-danger
returns-in_ok-counts-in-ShowPages-clause-danger g c t tells opened = found_nothing {S = Reply} c.args.statement.now _ t.base.image c.args.danger.now (Ok c.pages_shown.result) c.in-ShowPages.is refl

pub returns-in_err-sha256-in-ShowImage-clause-danger : goal.returns-in_err-sha256-in-ShowImage-clause-danger
returns-in_err-sha256-in-ShowImage-clause-danger g c t tells opened = found_nothing {S = Reply} c.args.statement.now _ t.base.image c.args.danger.now c.from_residual-in_err-sha256-in-ShowImage.result c.in-ShowImage.is refl

pub returns-in_ok-sha256-in-ShowImage-clause-danger : goal.returns-in_ok-sha256-in-ShowImage-clause-danger
returns-in_ok-sha256-in-ShowImage-clause-danger g c t tells opened = found_nothing {S = Reply} c.args.statement.now _ t.base.image c.args.danger.now (Ok (ImageShown c.count.result c.in_ok-sha256-in-ShowImage.sha256)) c.in-ShowImage.is refl
