use Rattle.std.proofs.Common.{ℕ, List, length, sym, subst}
use Rattle.nb_delta.proofs.Common.{File, Files, Only, Moved, kept_on, moved_weaker, Keeps, SlotStep, MakesRoom, Prepared, on_ok}
use Rattle.nb_delta.proofs.StepLaws.{keeps_slot, prepared}
use Rattle.nb_delta.proofs.NoteLaws.{slot_then_room}
use Rattle.nb_delta.proofs.writing.put_slot.Goals as goal

pub returns-in_err-write_slot-clause-changes : goal.returns-in_err-write_slot-clause-changes
returns-in_err-write_slot-clause-changes g c tells =
    let bytes : List ℕ = c.args.bytes.now in
    moved_weaker (g.H.Host.world c.args.host.now) (g.H.Host.world c.write_slot.new.host) (Only c.args.name.now) c.args.name.now (SlotStep (length bytes) c.args.place bytes) (Keeps (length bytes) c.args.place)
    (c.write_slot.ensures.changes tells c.args.place c.slot_of.ensures.value)
    (λ b d was step. keeps_slot (length bytes) c.requires.size c.args.place bytes b d step)

pub returns-in_err-make_room-clause-changes : goal.returns-in_err-make_room-clause-changes
returns-in_err-make_room-clause-changes g c tells =
    let bytes : List ℕ = c.args.bytes.now in
    slot_then_room (g.H.Host.world c.args.host.now) (g.H.Host.world c.write_slot.new.host) (g.H.Host.world c.make_room.new.host) c.args.name.now (length bytes) c.requires.size c.args.place (length c.args.page.now) bytes c.requires.room
    (c.write_slot.ensures.changes tells c.args.place c.slot_of.ensures.value) (c.make_room.ensures.changes tells)

pub returns-clause-changes : goal.returns-clause-changes
returns-clause-changes g c tells =
    let bytes : List ℕ = c.args.bytes.now in
    kept_on (g.H.Host.world c.args.host.now) (g.H.Host.world c.make_room.new.host) (g.H.Host.world c.sync_if.new.host) (Only c.args.name.now) (Moved (g.H.Host.world c.args.host.now) c.args.name.now (Keeps (length bytes) c.args.place))
    (slot_then_room (g.H.Host.world c.args.host.now) (g.H.Host.world c.write_slot.new.host) (g.H.Host.world c.make_room.new.host) c.args.name.now (length bytes) c.requires.size c.args.place (length c.args.page.now) bytes c.requires.room
    (c.write_slot.ensures.changes tells c.args.place c.slot_of.ensures.value) (c.make_room.ensures.changes tells))
    c.sync_if.ensures.changes

pub returns-clause-prepared : goal.returns-clause-prepared
returns-clause-prepared g c tells =
    let bytes : List ℕ = c.args.bytes.now in
    let name : List ℕ = c.args.name.now in
    let old : File = (g.H.Host.world c.args.host.now).files name in
    let first : File = (g.H.Host.world c.write_slot.new.host).files name in
    let second : File = (g.H.Host.world c.make_room.new.host).files name in
    on_ok c.sync_if.result
    (subst (λ (f : Files). Prepared (length bytes) c.args.place bytes old (f name)) (sym c.sync_if.ensures.still.files)
    (prepared (length bytes) c.requires.size c.args.place bytes old first second (c.in_ok-write_slot.ensures.put tells c.args.place c.slot_of.ensures.value)
    (subst (λ (n : ℕ). MakesRoom n c.args.place first second) c.requires.room (c.in_ok-make_room.ensures.room tells))))
