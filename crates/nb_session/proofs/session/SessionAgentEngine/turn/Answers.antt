use Rattle.std.proofs.Common.{◌<◌, ◌^◌, inr, get_or, refl, ap, sym, subst, ◌∙◌, arith}
use Rattle.nb_session.proofs.Common.{AllByRecursion, drop_more, IsFurther, Asker, TaskFits, left_task, task_left, Left}
use Rattle.nb_session.proofs.StepLaws.{went_failed, went_same, went_other, began_failed, began_taken, begun_within}
use Rattle.nb_session.proofs.session.SessionAgentEngine.turn.Goals as goal

pub returns-in_err-go_on-in-Some-clause-step : goal.returns-in_err-go_on-in-Some-clause-step
returns-in_err-go_on-in-Some-clause-step g c =
    rw (← c.self.view_is)
    (went_failed g.H.Host.tells (g.H.Host.world c.args.host.now) (g.H.Host.world c.go_on.new.host) _ _ c.args.engine.now c.go_on.new.engine _ _ c.go_on.ensures.others refl c.in-Some.field-0 c.in-Some.is c.go_on.new.task
    c.in_err-go_on-in-Some.field-0.0 c.from_residual.result c.from_residual.ensures c.in_err-go_on-in-Some.ensures.turn c.in_err-go_on-in-Some.ensures.cause)

pub returns-in_err-taken-in-None-clause-step : goal.returns-in_err-taken-in-None-clause-step
returns-in_err-taken-in-None-clause-step g c =
    let is = c.in-None.is in
    let within = begun_within c.args.self.now c.self.inside.statements.now c.self.inside.next c.requires.unfinished (sym (ap (λ (a : Asker). a.statements) c.self.view_is)) (sym (ap (λ (a : Asker). a.task) c.self.view_is) ∙ is) in
    rw (← c.self.view_is)
    (began_failed g.H.Host.tells (g.H.Host.world c.args.host.now) (g.H.Host.world c.begin_statement.new.host) _ _ c.args.engine.now c.begin_statement.new.engine _ _ c.begin_statement.ensures.others refl
    (get_or c.self.inside.statements.now c.self.inside.next c.index-self-self.result) _ is (drop_more c.self.inside.statements.now c.self.inside.next c.index-self-self.result within)
    c.in_err-taken-in-None.field-0.0 c.from_residual-in_err-taken-in-None.result c.from_residual-in_err-taken-in-None.ensures c.in_err-taken-in-None.ensures.turn c.in_err-taken-in-None.ensures.cause)

pub returns-in_ok-taken-in-None-clause-step : goal.returns-in_ok-taken-in-None-clause-step
returns-in_ok-taken-in-None-clause-step g c =
    let is = c.in-None.is in
    let within = begun_within c.args.self.now c.self.inside.statements.now c.self.inside.next c.requires.unfinished (sym (ap (λ (a : Asker). a.statements) c.self.view_is)) (sym (ap (λ (a : Asker). a.task) c.self.view_is) ∙ is) in
    rw (← c.self.view_is)
    (began_taken g.H.Host.tells (g.H.Host.world c.args.host.now) (g.H.Host.world c.begin_statement.new.host) _ _ c.args.engine.now c.begin_statement.new.engine _ _ c.begin_statement.ensures.others refl
    (get_or c.self.inside.statements.now c.self.inside.next c.index-self-self.result) _ is (drop_more c.self.inside.statements.now c.self.inside.next c.index-self-self.result within)
    c.in_ok-taken-in-None.taken _ refl c.in_ok-taken-in-None.ensures.danger c.in_ok-taken-in-None.ensures.turn c.in_ok-taken-in-None.ensures.cause)

pub returns-in-Same-clause-step : goal.returns-in-Same-clause-step
returns-in-Same-clause-step g c =
    rw (← c.self.view_is)
    (went_same g.H.Host.tells (g.H.Host.world c.args.host.now) (g.H.Host.world c.go_on.new.host) _ _ c.args.engine.now c.go_on.new.engine _ _ c.go_on.ensures.others refl c.in-Some.field-0 c.in-Some.is c.go_on.new.task
    c.in_ok-go_on-in-Some.field-0 c.in-Same.is refl c.in_ok-go_on-in-Some.ensures.turn c.in_ok-go_on-in-Some.ensures.cause)

pub returns-in-Other-clause-step : goal.returns-in-Other-clause-step
returns-in-Other-clause-step g c =
    rw (← c.self.view_is)
    (went_other g.H.Host.tells (g.H.Host.world c.args.host.now) (g.H.Host.world c.go_on.new.host) _ _ c.args.engine.now c.go_on.new.engine _ _ c.go_on.ensures.others refl c.in-Some.field-0 c.in-Some.is c.go_on.new.task
    c.in_ok-go_on-in-Some.field-0 c.in-Other.taken c.in-Other.is refl c.in_ok-go_on-in-Some.ensures.turn c.in_ok-go_on-in-Some.ensures.cause)

pub returns-in-Same-clause-falls : goal.returns-in-Same-clause-falls
returns-in-Same-clause-falls g c =
    let falls = subst (λ (left : Left). task_left (left_task c.go_on.new.task left) < task_left c.self.inside.task) c.in-Same.is c.in_ok-go_on-in-Some.ensures.falls in
    let range = subst (λ (a : Asker). task_left a.task < 2 ^ 64) (sym c.self.view_is) c.requires.fits.in_range in
    rw (← c.self.view_is) (record { falls = inr (refl, falls); in_range = omega (arith, falls, range) })

pub returns-in-Same-clause-fits : goal.returns-in-Same-clause-fits
returns-in-Same-clause-fits g c =
    let falls = subst (λ (left : Left). task_left (left_task c.go_on.new.task left) < task_left c.self.inside.task) c.in-Same.is c.in_ok-go_on-in-Some.ensures.falls in
    let range = subst (λ (a : Asker). task_left a.task < 2 ^ 64) (sym c.self.view_is) c.requires.fits.in_range in
    record {
      asks = subst (λ (a : Asker). AllByRecursion IsFurther a.statements) (sym c.self.view_is) c.requires.fits.asks;
      task = subst (λ (left : Left). TaskFits c.self.inside.number (left_task c.go_on.new.task left) c.go_on.new.engine) c.in-Same.is c.in_ok-go_on-in-Some.ensures.fits;
      in_range = omega (arith, falls, range);
    }

pub returns-in-Other-clause-fits : goal.returns-in-Other-clause-fits
returns-in-Other-clause-fits g c =
    let falls = subst (λ (left : Left). task_left (left_task c.go_on.new.task left) < task_left c.self.inside.task) c.in-Other.is c.in_ok-go_on-in-Some.ensures.falls in
    let range = subst (λ (a : Asker). task_left a.task < 2 ^ 64) (sym c.self.view_is) c.requires.fits.in_range in
    record {
      asks = subst (λ (a : Asker). AllByRecursion IsFurther a.statements) (sym c.self.view_is) c.requires.fits.asks;
      task = subst (λ (left : Left). TaskFits c.self.inside.number (left_task c.go_on.new.task left) c.go_on.new.engine) c.in-Other.is c.in_ok-go_on-in-Some.ensures.fits;
      in_range = omega (arith, falls, range);
    }
