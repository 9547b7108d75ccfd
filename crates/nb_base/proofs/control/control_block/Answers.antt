use Rattle.std.proofs.Common.{ℕ, List, ◌∙◌}
use Rattle.nb_base.proofs.Common.{still_more}
use Rattle.nb_base.proofs.BlockLaws.{sets_block, block_begun, image_still, block_more, block_done}
use Rattle.nb_base.proofs.StaysLaws.{still_keeps, keeps_joined, page_within, first_rest}
use Rattle.nb_change.proofs.SettledLaws.{synced}
use Rattle.nb_base.proofs.control.control_block.Goals as goal

pub returns-in_err-write_page-clause-left : goal.returns-in_err-write_page-clause-left
returns-in_err-write_page-clause-left g c main tells is sized room =
    let name : List ℕ = c.args.name.now in
    let read = c.in_ok-read_page.ensures in
    let sets = sets_block main _ c.args.state c.args.guid _ _ _ _ is.reads sized (read.answer tells) room c.change_block.ensures.sixteen c.change_block.ensures.fits c.change_block.ensures.written in
    let begun = block_begun name main c.args.state c.args.guid _ _ (g.met.H.Host.timely _) read.files read.log.said read.time is in
    block_more name main c.args.state c.args.guid c.requires.state sets.sixteen room sets.fits _ sets.is g.H.Host.tells c.write_page.result _ _ _ tells begun (image_still name main c.args.state c.args.guid _ _ read.files is)
    c.write_page.ensures.files c.write_page.ensures.log.said c.write_page.ensures.time

pub returns-clause-left : goal.returns-clause-left
returns-clause-left g c main tells is sized room =
    let name : List ℕ = c.args.name.now in
    let read = c.in_ok-read_page.ensures in
    let sets = sets_block main _ c.args.state c.args.guid _ _ _ _ is.reads sized (read.answer tells) room c.change_block.ensures.sixteen c.change_block.ensures.fits c.change_block.ensures.written in
    let begun = block_begun name main c.args.state c.args.guid _ _ (g.met.H.Host.timely _) read.files read.log.said read.time is in
    let wrote =
    block_more name main c.args.state c.args.guid c.requires.state sets.sixteen room sets.fits _ sets.is g.H.Host.tells c.write_page.result _ _ _ tells begun (image_still name main c.args.state c.args.guid _ _ read.files is)
    c.write_page.ensures.files c.write_page.ensures.log.said c.write_page.ensures.time in
    still_more _ _ _ _ _ wrote c.sync.ensures.time c.sync.ensures.files.still c.sync.ensures.log.said

pub returns-clause-done : goal.returns-clause-done
returns-clause-done g c main tells is sized room =
    let name : List ℕ = c.args.name.now in
    let read = c.in_ok-read_page.ensures in
    let sets = sets_block main _ c.args.state c.args.guid _ _ _ _ is.reads sized (read.answer tells) room c.change_block.ensures.sixteen c.change_block.ensures.fits c.change_block.ensures.written in
    block_done name main c.args.state c.args.guid c.requires.state sets.sixteen room sets.fits _ sets.is g.H.Host.tells c.sync.result _ _ _ tells (image_still name main c.args.state c.args.guid _ _ read.files is)
    (c.in_ok-write_page.ensures.files.files tells) c.sync.ensures.files

pub returns-clause-durable : goal.returns-clause-durable
returns-clause-durable g c tells = synced g.H.Host.tells c.sync.result (g.H.Host.world c.write_page.new.self) (g.H.Host.world c.sync.new.self) c.args.name.now tells c.sync.ensures.files

pub returns-in_err-read_page-clause-within : goal.returns-in_err-read_page-clause-within
returns-in_err-read_page-clause-within g c most tells some = let read = c.read_page.ensures in still_keeps _ _ c.args.name.now _ (g.met.H.Host.timely _) read.time read.files

pub returns-in_err-write_page-clause-within : goal.returns-in_err-write_page-clause-within
returns-in_err-write_page-clause-within g c most tells some =
    let read = c.in_ok-read_page.ensures in
    let write = c.write_page.ensures in
    keeps_joined _ _ _ c.args.name.now _ (still_keeps _ _ c.args.name.now _ (g.met.H.Host.timely _) read.time read.files)
    (page_within g.H.Host.tells c.write_page.result _ _ c.args.name.now 0 most _ _ tells (g.met.H.Host.timely _) write.files write.time (c.change_block.ensures.long ∙ c.read_page.auto.into) some)

pub returns-clause-within : goal.returns-clause-within
returns-clause-within g c most tells some =
    let read = c.in_ok-read_page.ensures in
    let write = c.write_page.ensures in
    let sync = c.sync.ensures in
    keeps_joined _ _ _ c.args.name.now _
    (keeps_joined _ _ _ c.args.name.now _ (still_keeps _ _ c.args.name.now _ (g.met.H.Host.timely _) read.time read.files)
    (page_within g.H.Host.tells c.write_page.result _ _ c.args.name.now 0 most _ _ tells (g.met.H.Host.timely _) write.files write.time (c.change_block.ensures.long ∙ c.read_page.auto.into) some))
    (still_keeps _ _ c.args.name.now _ (g.met.H.Host.timely _) sync.time sync.files.still)

pub returns-in_err-read_page-clause-rest : goal.returns-in_err-read_page-clause-rest
returns-in_err-read_page-clause-rest g c bytes tells = let read = c.read_page.ensures in still_keeps _ _ c.args.name.now _ (g.met.H.Host.timely _) read.time read.files

pub returns-in_err-write_page-clause-rest : goal.returns-in_err-write_page-clause-rest
returns-in_err-write_page-clause-rest g c bytes tells =
    let read = c.in_ok-read_page.ensures in
    let write = c.write_page.ensures in
    keeps_joined _ _ _ c.args.name.now _ (still_keeps _ _ c.args.name.now _ (g.met.H.Host.timely _) read.time read.files)
    (first_rest g.H.Host.tells c.write_page.result _ _ c.args.name.now _ bytes _ tells (g.met.H.Host.timely _) write.files write.time (c.change_block.ensures.long ∙ c.read_page.auto.into))

pub returns-clause-rest : goal.returns-clause-rest
returns-clause-rest g c bytes tells =
    let read = c.in_ok-read_page.ensures in
    let write = c.write_page.ensures in
    let sync = c.sync.ensures in
    keeps_joined _ _ _ c.args.name.now _
    (keeps_joined _ _ _ c.args.name.now _ (still_keeps _ _ c.args.name.now _ (g.met.H.Host.timely _) read.time read.files)
    (first_rest g.H.Host.tells c.write_page.result _ _ c.args.name.now _ bytes _ tells (g.met.H.Host.timely _) write.files write.time (c.change_block.ensures.long ∙ c.read_page.auto.into)))
    (still_keeps _ _ c.args.name.now _ (g.met.H.Host.timely _) sync.time sync.files.still)
