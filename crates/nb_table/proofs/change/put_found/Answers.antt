use Rattle.std.proofs.Common.{refl, sym, ◌∙◌}
use Rattle.nb_table.proofs.Common.{NoKey, quiet_begun, Seen, row_spot, spots, in_row, done, seeing, refused_does}
use Rattle.nb_table.proofs.ChangeLaws.{row_missing, row_does, row_stops, found_kind}
use Rattle.nb_table.proofs.FindLaws.{found_none}
use Rattle.nb_table.proofs.change.put_found.Goals as goal

pub returns-in_default-clause-turn : goal.returns-in_default-clause-turn
returns-in_default-clause-turn g c s t chain tells same is formed found =
    let w = g.H.Host.world c.args.host.now in
    refused_does done (NoKey c.args.key) w w c.args.engine.now c.args.engine.now t s (λ (x : Seen). in_row x chain c.args.key c.args.bytes.now) same refl (quiet_begun w (g.met.H.Host.timely c.args.host.now)) is is
    (row_missing (seeing s t.base) chain c.args.key c.args.bytes.now (found_none (row_spot c.args.key (spots chain t.base.image)) (sym c.in_default.is ∙ found)))

pub returns-clause-turn : goal.returns-clause-turn
returns-clause-turn g c s t chain tells same is formed found =
    let row = c.in-Some.row in
    let there = sym c.in-Some.is ∙ found in
    row_does c.put_slot.result _ _ _ _ t s chain c.args.key c.args.bytes.now row same there (c.put_slot.ensures.tries t tells is (found_kind t.base.image chain formed c.args.key row there))

pub returns-clause-on_memory : goal.returns-clause-on_memory
returns-clause-on_memory g c s t chain tells same is formed found =
    let row = c.in-Some.row in
    let there = sym c.in-Some.is ∙ found in
    row_stops c.put_slot.result _ _ _ _ t s chain c.args.key c.args.bytes.now row same there (c.put_slot.ensures.tries t tells is (found_kind t.base.image chain formed c.args.key row there))

pub returns-in_default-clause-on_memory : goal.returns-in_default-clause-on_memory
returns-in_default-clause-on_memory g c s t chain tells same is formed found = tt
