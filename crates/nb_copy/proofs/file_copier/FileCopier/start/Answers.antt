use Rattle.std.proofs.Common.{refl, sym, ap, subst, ◌∙◌, Result}
use Rattle.nb_copy.proofs.Common.{Fault, copy_turn, passed_on, Copying, StartsCopy}
use Rattle.nb_copy.proofs.FileCopyLaws.{copy_failed, copy_begun}
use Rattle.nb_copy.proofs.file_copier.FileCopier.start.Goals as goal

pub returns-in_err-check_copy-clause-turn : goal.returns-in_err-check_copy-clause-turn
returns-in_err-check_copy-clause-turn g c s t tells same runs is free =
    let old = g.H.Host.world c.args.host.now in
    let new = g.H.Host.world c.check_copy.new.host in
    let name = c.args.name.now in
    let fault = c.in_err-check_copy.field-0.0 in
    subst (λ (r : Result Copying Fault). StartsCopy r old new c.args.engine.now c.args.engine.now t name (copy_turn s c.args.session name)) (sym (passed_on c.from_residual.result fault c.from_residual.ensures))
    (copy_failed old new c.args.engine.now c.args.engine.now t s c.args.session name c.check_copy.ensures.quiet runs fault (c.in_err-check_copy.ensures.test s t tells same runs is free) refl)

pub returns-clause-turn : goal.returns-clause-turn
returns-clause-turn g c s t tells same runs is free =
    let old = g.H.Host.world c.args.host.now in
    let new = g.H.Host.world c.check_copy.new.host in
    let copy = c.start.new.self in
    copy_begun old new c.args.engine.now c.set_running.new.self t s c.args.session c.args.name.now c.check_copy.ensures.quiet runs copy (c.in_ok-check_copy.ensures.test s t tells same runs is free) same is c.in_ok-check_copy.ensures.stalled
    c.set_running.ensures
    (ap (λ (x : Copying). x.name) c.start.ensures ∙ c.in_ok-pages.ensures.name) (ap (λ (x : Copying). x.next) c.start.ensures ∙ c.in_ok-pages.ensures.next)
    (ap (λ (x : Copying). x.count) c.start.ensures ∙ c.main_count.ensures.value) (ap (λ (x : Copying). x.size) c.start.ensures ∙ c.in_ok-pages.ensures.size ∙ c.page_size.ensures.value)
