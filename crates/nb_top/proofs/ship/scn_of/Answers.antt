use Rattle.std.proofs.Common.{ap, ◌∙◌}
use Rattle.nb_top.proofs.Common.{passed}
use Rattle.nb_level.specs.declared.head.LevelHead.{LevelHead}
use Rattle.nb_top.specs.Shipped.{ScnSays}
use Rattle.nb_top.proofs.ShipHeads.{scn_read, scn_unread}
use Rattle.nb_top.proofs.ship.scn_of.Goals as goal

pub returns-in_err-reader-clause-says : goal.returns-in_err-reader-clause-says
returns-in_err-reader-clause-says g c tells bytes contents there read =
    let file = (g.H.Host.world c.args.host.now).files c.args.ship.now in
    let fault = c.in_err-reader.field-0.0 in
    passed _ (λ r. ScnSays contents r) c.from_residual.result fault c.from_residual.ensures
    (scn_unread g.H.Host.tells tells file c.args.ship.now bytes contents there read fault c.in_err-reader.ensures.answer)

pub returns-clause-says : goal.returns-clause-says
returns-clause-says g c tells bytes contents there read =
    let file = (g.H.Host.world c.args.host.now).files c.args.ship.now in
    ap (λ (h : LevelHead). h.scn) c.head.ensures.value
    ∙ scn_read g.H.Host.tells tells file c.args.ship.now bytes contents there read c.in_ok-reader.reader c.in_ok-reader.ensures.answer
