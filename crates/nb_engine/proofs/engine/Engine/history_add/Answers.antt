use Rattle.std.proofs.Common.{◌<◌, ◌≤◌, ℕ, length, refl, sym, subst, arith}
use Rattle.nb_engine.proofs.Common.{NotDatabase, quiet_begun, drafted, backup_slot, put_slot, Held, IsOpen, Tries, entry_cause, tries_failed, tries_named, refused_memory, write_cause}
use Rattle.nb_host.specs.declared.faults.Fault.TheVariants.{Refused}
use Rattle.nb_engine.proofs.LinkLaws.{write_low, write_past}
use Rattle.nb_engine.proofs.engine.Engine.history_add.Goals as goal

pub returns-then-room-count-clause-tries : goal.returns-then-room-count-clause-tries
returns-then-room-count-clause-tries g c t tells is =
    let w = g.H.Host.world c.args.host.now in
    let here = subst (λ (h : Held). IsOpen w h t) (sym c.self.view_is) is in
    let row = c.args.row.now in
    let p : ℕ = c.args.room.now.page in
    let strokes = (put_slot p c.args.room.now.slot (backup_slot row.level row.scn row.time row.guid row.name) (drafted t.base.image)).strokes in
    let far : length t.base.image ≤ p = omega (arith, here.files.agrees.count, c.count-count.ensures.value, c.if-room-count.true) in
    tries_failed (Unit {0}) (Refused (NotDatabase p)) w w c.args.self.now c.args.self.now t (write_cause t.base.image p) strokes (refused_memory _) (write_past t.base.image p far) refl
    (quiet_begun w (g.met.H.Host.timely c.args.host.now)) is is

pub returns-clause-tries : goal.returns-clause-tries
returns-clause-tries g c t tells is =
    let w = g.H.Host.world c.args.host.now in
    let here = subst (λ (h : Held). IsOpen w h t) (sym c.self.view_is) is in
    let row = c.args.row.now in
    let p : ℕ = c.args.room.now.page in
    let strokes = (put_slot p c.args.room.now.slot (backup_slot row.level row.scn row.time row.guid row.name) (drafted t.base.image)).strokes in
    let low : p < length t.base.image = omega (arith, here.files.agrees.count, c.count-count.ensures.value, c.if-room-count.false) in
    let new = g.H.Host.world c.add_row.new.host in
    tries_named c.add_row.result w new c.args.self.now c.add_row.new.store t (entry_cause t.base.image p) (write_cause t.base.image p) strokes strokes (write_low t.base.image p low) refl
    (subst (λ (h : Held). Tries c.add_row.result w new h c.add_row.new.store t (entry_cause t.base.image p) strokes) c.self.view_is (c.add_row.ensures.tries t tells here))

pub add_row-requires-clause-inside : goal.add_row-requires-clause-inside
add_row-requires-clause-inside g c = omega (arith, c.count-count.ensures.value, c.if-room-count.false)
