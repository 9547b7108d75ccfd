use Rattle.std.proofs.Common.{ℕ, sym, ap, ◌∙◌, Ok, Err}
use Rattle.nb_table.proofs.Common.{next_in, drafted, give_page, not_data, mark_cause, Tries, tries_early, tries_passed, tries_after, tries_other, tries_valued, none_some}
use Rattle.nb_table.proofs.dropping.give_back.Goals as goal

pub returns-in_err-data_read-clause-tries : goal.returns-in_err-data_read-clause-tries
returns-in_err-data_read-clause-tries g c t tells is none =
    let read = c.in_err-data_read.ensures in
    tries_early (Unit {0}) ℕ _ _ _ _ _ _ t (not_data t.base.image c.args.owner c.args.number) (mark_cause t.base.image c.args.number) _ c.from_residual.ensures read.takes_none (λ r e. absurd (none_some r (sym none ∙ e))) (read.reads t tells is).test read.looks.same read.looks.quiet is (read.looks.opened t tells is)

pub returns-in_err-data_free-clause-tries : goal.returns-in_err-data_free-clause-tries
returns-in_err-data_free-clause-tries g c t tells is none =
    let read = c.in_ok-data_read.ensures in
    let free = c.in_err-data_free.ensures in
    let still = read.looks.opened t tells is in
    let fault = c.in_err-data_free.field-0.0 in
    let w = g.H.Host.world c.args.host.now in
    let new = g.H.Host.world c.data_free.new.host in
    tries_passed c.from_residual-in_err-data_free.result fault (λ r. Tries r w new c.args.engine.now c.data_free.new.self t (mark_cause t.base.image c.args.number) (give_page c.args.number (drafted t.base.image)).strokes) c.from_residual-in_err-data_free.ensures
    (tries_after {T = ℕ} (Err fault) w (g.H.Host.world c.data_read.new.host) new c.args.engine.now c.data_read.new.self c.data_free.new.self t _ _ read.looks.same read.looks.quiet is
    (tries_other (Unit {0}) ℕ fault _ _ _ _ t _ _ (free.tries t tells still)))

pub returns-clause-tries : goal.returns-clause-tries
returns-clause-tries g c t tells is none =
    let read = c.in_ok-data_read.ensures in
    let free = c.in_ok-data_free.ensures in
    let still = read.looks.opened t tells is in
    tries_after (Ok c.get-next.result) (g.H.Host.world c.args.host.now) (g.H.Host.world c.data_read.new.host) (g.H.Host.world c.data_free.new.host) c.args.engine.now c.data_read.new.self c.data_free.new.self t _ _ read.looks.same read.looks.quiet is
    (tries_valued tt c.get-next.result _ _ _ _ t _ _ (free.tries t tells still))

pub returns-clause-next : goal.returns-clause-next
returns-clause-next g c t tells is = c.get-next.ensures.value ∙ ap next_in ((c.in_ok-data_read.ensures.reads t tells is).page)
