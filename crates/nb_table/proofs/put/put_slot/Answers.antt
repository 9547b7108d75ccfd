use Rattle.nb_table.proofs.PlaceLaws.{slot_tries}
use Rattle.nb_table.proofs.put.put_slot.Goals as goal

pub returns-clause-tries : goal.returns-clause-tries
returns-clause-tries g c t tells is kind =
    let w = g.H.Host.world c.args.host.now in
    let new = g.H.Host.world c.data_put.new.host in
    slot_tries c.data_put.result w new c.args.engine.now c.data_put.new.self t c.args.place.page c.args.place.slot c.args.bytes.now kind (c.data_put.ensures.tries t tells is)
