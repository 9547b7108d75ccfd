use Rattle.std.proofs.Common.{refl, Ok, Err}
use Rattle.nb_top.proofs.Common.{merging, Serves, passed}
use Rattle.nb_top.specs.Shipped.{merge_turn}
use Rattle.nb_top.proofs.ShipParts.{scn_says, shipped_fails, shipped_serves, shipped_unread}
use Rattle.nb_top.proofs.ship.merge.Goals as goal

pub returns-in_err-pages-clause-serves : goal.returns-in_err-pages-clause-serves
returns-in_err-pages-clause-serves g c tells =
    let old = g.H.Host.world c.args.host.now in
    let mid = g.H.Host.world c.apply.new.host in
    let fault = c.in_err-pages.field-0.0 in
    passed _ (λ r. Serves r old mid (merging old.files c.args.standby.now c.args.ship.now) (merge_turn old.files c.args.standby.now c.args.ship.now)) c.from_residual.result fault c.from_residual.ensures
    (shipped_fails old mid c.args.standby.now c.args.ship.now (Err fault) (c.in_err-pages.ensures.applies tells) fault refl)

pub returns-in_err-scn-clause-serves : goal.returns-in_err-scn-clause-serves
returns-in_err-scn-clause-serves g c tells =
    let old = g.H.Host.world c.args.host.now in
    let mid = g.H.Host.world c.apply.new.host in
    let new = g.H.Host.world c.scn_of.new.host in
    let count = c.in_ok-pages.pages in
    let does = c.in_ok-pages.ensures.applies tells in
    let fault = c.in_err-scn.field-0.0 in
    let quiet = c.in_err-scn.ensures.quiet in
    passed _ (λ r. Serves r old new (merging old.files c.args.standby.now c.args.ship.now) (merge_turn old.files c.args.standby.now c.args.ship.now)) c.from_residual-in_err-scn.result fault c.from_residual-in_err-scn.ensures
    (shipped_unread old mid c.args.standby.now c.args.ship.now (Ok count) does count refl c.requires new quiet fault
    (scn_says old mid c.args.standby.now c.args.ship.now (Ok count) does count refl c.requires new quiet (Err fault) (λ bytes contents there read. c.in_err-scn.ensures.says tells bytes contents there read)))

pub returns-clause-serves : goal.returns-clause-serves
returns-clause-serves g c tells =
    let old = g.H.Host.world c.args.host.now in
    let mid = g.H.Host.world c.apply.new.host in
    let new = g.H.Host.world c.scn_of.new.host in
    let count = c.in_ok-pages.pages in
    let does = c.in_ok-pages.ensures.applies tells in
    let scn = c.in_ok-scn.scn in
    let quiet = c.in_ok-scn.ensures.quiet in
    shipped_serves old mid c.args.standby.now c.args.ship.now (Ok count) does count refl c.requires new quiet scn
    (scn_says old mid c.args.standby.now c.args.ship.now (Ok count) does count refl c.requires new quiet (Ok scn) (λ bytes contents there read. c.in_ok-scn.ensures.says tells bytes contents there read))
