use Rattle.std.proofs.Common.{◌≡◌, ℕ, refl, ap, ◌∙◌, Ok, Err, Some}
use Rattle.nb_check.specs.Findings.{said_of}
use Rattle.nb_model.specs.declared.statement.Statement.TheVariants.{Check}
use Rattle.nb_session.proofs.Common.{Leaked, Freed, Reply, first_turn}
use Rattle.nb_session.proofs.ActLaws.{does_replied, replied_err, tells_replied, tells_unsaid}
use Rattle.nb_session.specs.Dangers.{danger_after}
use Rattle.nb_session.proofs.FindLaws.{check_found, check_refused, found_nothing, memory_ends}
use Rattle.nb_session.proofs.ShortLaws.{early_lacks, read_strokes, wanted_map}
use Rattle.nb_session.proofs.TurnLaws.{seen_now}
use Rattle.nb_session.proofs.tables.do_checks.Goals as goal

pub returns-in_err-findings-in-Check-clause-turn : goal.returns-in_err-findings-in-Check-clause-turn
unfolding first_turn
returns-in_err-findings-in-Check-clause-turn g c now t session tells ready =
    tells_replied said_of (Err c.in_err-findings-in-Check.field-0.0) c.from_residual.result (replied_err said_of _ c.from_residual.result c.from_residual.ensures) _ _ _ _ t now session c.args.statement.now _ c.in-Check.is refl refl refl _ refl (read_strokes Check refl (seen_now now) session) ready
    (c.in_err-findings-in-Check.ensures.turn (seen_now now) t tells ready.base ready.opened)

pub returns-in_err-pages-in-Check-clause-turn : goal.returns-in_err-pages-in-Check-clause-turn
unfolding first_turn
returns-in_err-pages-in-Check-clause-turn g c now t session tells ready =
    tells_unsaid said_of c.in_ok-findings-in-Check.findings _ c.from_residual-in_err-pages-in-Check.result c.in_err-pages-in-Check.ensures.only_memory c.from_residual-in_err-pages-in-Check.ensures _ _ _ _ t now session c.args.statement.now _ c.in-Check.is refl refl refl _ refl (read_strokes Check refl (seen_now now) session) ready
    (c.in_ok-findings-in-Check.ensures.turn (seen_now now) t tells ready.base ready.opened)

pub returns-in_err-in_danger-in-Check-clause-turn : goal.returns-in_err-in_danger-in-Check-clause-turn
unfolding first_turn
returns-in_err-in_danger-in-Check-clause-turn g c now t session tells ready =
    tells_unsaid said_of c.in_ok-findings-in-Check.findings _ c.from_residual-in_err-in_danger-in-Check.result c.in_err-in_danger-in-Check.ensures.only_memory c.from_residual-in_err-in_danger-in-Check.ensures _ _ _ _ t now session c.args.statement.now _ c.in-Check.is refl refl refl _ refl (read_strokes Check refl (seen_now now) session) ready
    (c.in_ok-findings-in-Check.ensures.turn (seen_now now) t tells ready.base ready.opened)

pub returns-in_ok-in_danger-in-Check-clause-turn : goal.returns-in_ok-in_danger-in-Check-clause-turn
unfolding first_turn
returns-in_ok-in_danger-in-Check-clause-turn g c now t session tells ready =
    does_replied said_of (Ok c.in_ok-findings-in-Check.findings) (Ok (Leaked c.in_ok-pages-in-Check.pages)) (ap Leaked c.in_ok-pages-in-Check.ensures.ok) _ _ _ _ t now session c.args.statement.now _ c.in-Check.is refl refl refl _ refl ready tt
    (c.in_ok-findings-in-Check.ensures.turn (seen_now now) t tells ready.base ready.opened)

pub returns-in_err-pages-in-Reclaim-clause-turn : goal.returns-in_err-pages-in-Reclaim-clause-turn
unfolding first_turn
returns-in_err-pages-in-Reclaim-clause-turn g c now t session tells ready =
    does_replied Freed (Err c.in_err-pages-in-Reclaim.field-0.0) c.from_residual-in_err-pages-in-Reclaim.result (replied_err Freed _ c.from_residual-in_err-pages-in-Reclaim.result c.from_residual-in_err-pages-in-Reclaim.ensures) _ _ _ _ t now session c.args.statement.now _ c.in-Reclaim.is refl refl refl _ refl ready
    (wanted_map {T = ℕ} (Err c.in_err-pages-in-Reclaim.field-0.0) (early_lacks _ _ _ _ t _) (c.in_err-pages-in-Reclaim.ensures.short (seen_now now) t tells ready.base ready.opened))
    (c.in_err-pages-in-Reclaim.ensures.turn (seen_now now) t tells ready.base ready.opened)

pub returns-in_ok-pages-in-Reclaim-clause-turn : goal.returns-in_ok-pages-in-Reclaim-clause-turn
unfolding first_turn
returns-in_ok-pages-in-Reclaim-clause-turn g c now t session tells ready =
    does_replied Freed (Ok c.in_ok-pages-in-Reclaim.pages) (Ok (Freed c.in_ok-pages-in-Reclaim.pages)) refl _ _ _ _ t now session c.args.statement.now _ c.in-Reclaim.is refl refl refl _ refl ready tt
    (c.in_ok-pages-in-Reclaim.ensures.turn (seen_now now) t tells ready.base ready.opened)

pub returns-in_err-findings-in-Check-clause-danger : goal.returns-in_err-findings-in-Check-clause-danger
returns-in_err-findings-in-Check-clause-danger g c t tells opened =
    check_refused t.base.image c.args.danger.now c.args.statement.now c.in-Check.is (Unit {0}) c.in_err-findings-in-Check.field-0.0 c.from_residual.result c.from_residual.ensures (c.in_err-findings-in-Check.ensures.test t tells opened)

pub returns-in_err-pages-in-Check-clause-danger : goal.returns-in_err-pages-in-Check-clause-danger
returns-in_err-pages-in-Check-clause-danger g c t tells opened =
    memory_ends _ (c.args.danger.now ≡ danger_after c.args.statement.now t.base.image c.args.danger.now) c.from_residual-in_err-pages-in-Check.result c.in_err-pages-in-Check.ensures.only_memory c.from_residual-in_err-pages-in-Check.ensures

pub returns-in_err-in_danger-in-Check-clause-danger : goal.returns-in_err-in_danger-in-Check-clause-danger
returns-in_err-in_danger-in-Check-clause-danger g c t tells opened =
    memory_ends _ (c.args.danger.now ≡ danger_after c.args.statement.now t.base.image c.args.danger.now) c.from_residual-in_err-in_danger-in-Check.result c.in_err-in_danger-in-Check.ensures.only_memory c.from_residual-in_err-in_danger-in-Check.ensures

pub returns-in_ok-in_danger-in-Check-clause-danger : goal.returns-in_ok-in_danger-in-Check-clause-danger
returns-in_ok-in_danger-in-Check-clause-danger g c t tells opened =
    check_found t.base.image c.args.danger.now c.args.statement.now c.in-Check.is (Some c.in_ok-in_danger-in-Check.in_danger) c.in_ok-in_danger-in-Check.in_danger (c.in_ok-findings-in-Check.ensures.test t tells opened) refl
    (c.in_ok-in_danger-in-Check.ensures.ok ∙ c.in_ok-findings-in-Check.ensures.in_danger t tells opened)

pub returns-in_err-pages-in-Reclaim-clause-danger : goal.returns-in_err-pages-in-Reclaim-clause-danger
returns-in_err-pages-in-Reclaim-clause-danger g c t tells opened = found_nothing c.args.statement.now _ t.base.image c.args.danger.now c.from_residual-in_err-pages-in-Reclaim.result c.in-Reclaim.is refl

pub returns-in_ok-pages-in-Reclaim-clause-danger : goal.returns-in_ok-pages-in-Reclaim-clause-danger
returns-in_ok-pages-in-Reclaim-clause-danger g c t tells opened = found_nothing {S = Reply} c.args.statement.now _ t.base.image c.args.danger.now (Ok (Freed c.in_ok-pages-in-Reclaim.pages)) c.in-Reclaim.is refl
