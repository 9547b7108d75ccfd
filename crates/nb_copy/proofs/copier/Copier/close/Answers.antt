use Rattle.std.proofs.Common.{◌≡◌, inl, inr, ℕ, ◌<◌, List, length, sym, ap, subst, ◌∙◌, arith, Result}
use Rattle.nb_copy.proofs.Common.{Fault, Device, backup_slot, put_slot, drafted, HasItsEntry, next_time, Stroke, still_open, passed_on, close_backup, Backed, Closes}
use Rattle.nb_copy.proofs.ClosingLaws.{given_time, row_strokes, close_strokes, close_waits, close_row}
use Rattle.nb_copy.proofs.copier.Copier.close.Goals as goal

pub returns-in_err-time-clause-closes : goal.returns-in_err-time-clause-closes
returns-in_err-time-clause-closes g c s t tells same is entry low given =
    let old = g.H.Host.world c.args.host.now in
    let mid = g.H.Host.world c.seconds.new.self in
    let xs : List Stroke = (close_backup s c.args.self.now.backing).strokes in
    subst (λ (r : Result (Unit {0}) Fault). Closes r old mid c.args.engine.now c.args.engine.now t (next_time s.given) xs) (sym (passed_on c.from_residual.result Device c.from_residual.ensures))
    (close_waits old mid c.args.engine.now t is (g.met.H.Host.timely c.args.host.now) c.seconds.ensures.files c.seconds.ensures.log.said c.seconds.ensures.time c.seconds.ensures.log.guids (next_time s.given) xs)

pub returns-clause-closes : goal.returns-clause-closes
returns-clause-closes g c s t tells same is entry low given =
    let old = g.H.Host.world c.args.host.now in
    let mid = g.H.Host.world c.seconds.new.self in
    let new = g.H.Host.world c.history_add.new.host in
    let there : c.self.inside.room.page < length t.base.image = omega (arith, low, ap (λ (v : Backed). v.backing.page) c.self.view_is) in
    let tries = c.history_add.ensures.tries t tells (still_open old mid c.args.engine.now t c.seconds.ensures.files is) in
    let gave = c.in_ok-time.ensures.log.times tells in
    let at : c.in_ok-time.time ≡ next_time s.given = given_time old.times new.times c.in_ok-time.time (next_time s.given) (tries.makes.gave.times ∙ gave) given in
    let its = subst (λ (v : Backed). HasItsEntry t.base.image v.backing.page) (sym c.self.view_is) entry in
    let head = c.self.inside.head in
    let room = c.self.inside.room in
    subst (λ (n : ℕ). Closes c.history_add.result old new c.args.engine.now c.history_add.new.self t n (close_backup s c.args.self.now.backing).strokes) at
    (subst (λ (xs : List Stroke). Closes c.history_add.result old new c.args.engine.now c.history_add.new.self t c.in_ok-time.time xs)
    (ap (λ (n : List ℕ). (put_slot room.page room.slot (backup_slot head.level head.scn c.in_ok-time.time head.guid n) (drafted t.base.image)).strokes) c.copied.ensures ∙ ap (λ (v : Backed). row_strokes v.backing c.in_ok-time.time t.base.image) c.self.view_is ∙ close_strokes s c.args.self.now.backing t.base c.in_ok-time.time same at)
    (close_row old mid c.args.engine.now t is (g.met.H.Host.timely c.args.host.now) c.seconds.ensures.files c.seconds.ensures.log.said c.seconds.ensures.time c.seconds.ensures.log.guids
    c.history_add.result new c.history_add.new.self c.in_ok-time.time c.self.inside.room.page (put_slot room.page room.slot (backup_slot head.level head.scn c.in_ok-time.time head.guid c.copied.result) (drafted t.base.image)).strokes gave its there tries))

pub returns-in_err-time-clause-asks : goal.returns-in_err-time-clause-asks
returns-in_err-time-clause-asks g c t tells is = (0, inl (c.in_err-time.ensures.log.times tells))

pub returns-clause-asks : goal.returns-clause-asks
returns-clause-asks g c t tells is =
    let old = g.H.Host.world c.args.host.now in
    let mid = g.H.Host.world c.seconds.new.self in
    let tries = c.history_add.ensures.tries t tells (still_open old mid c.args.engine.now t c.seconds.ensures.files is) in
    (c.in_ok-time.time, inr (tries.makes.gave.times ∙ c.in_ok-time.ensures.log.times tells))
