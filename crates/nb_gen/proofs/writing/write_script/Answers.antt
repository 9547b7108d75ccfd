use Rattle.nb_gen.proofs.Common.{IsUnfinishedOr}
use Rattle.nb_gather.proofs.QuietLaws.{sync_then, sync_kept}
use Rattle.nb_gen.proofs.WrittenLaws.{script_made, script_left, script_reads}
use Rattle.nb_gen.proofs.writing.write_script.Goals as goal

pub returns-in_err-make-clause-left : goal.returns-in_err-make-clause-left
returns-in_err-make-clause-left g c tells =
    let make = c.make.ensures in
    script_made c.args.name.now c.args.bytes.now c.requires _ _ _ _ tells (g.met.H.Host.timely _) make.files make.log.said make.time

pub returns-in_err-append-clause-left : goal.returns-in_err-append-clause-left
returns-in_err-append-clause-left g c tells =
    let make = c.in_ok-make.ensures in
    let append = c.append.ensures in
    script_left c.args.name.now c.args.bytes.now c.requires _ _ _ _ _ tells make.files _ (g.met.H.Host.timely _) make.log.said make.time append.files append.log.said append.time

pub returns-clause-left : goal.returns-clause-left
returns-clause-left g c tells =
    let make = c.in_ok-make.ensures in
    let append = c.in_ok-append.ensures in
    let sync = c.sync.ensures in
    sync_then c.args.name.now (IsUnfinishedOr c.args.bytes.now) g.H.Host.tells _ _ _ _
    (script_left c.args.name.now c.args.bytes.now c.requires _ _ _ _ _ tells make.files _ (g.met.H.Host.timely _) make.log.said make.time append.files append.log.said append.time) sync.files sync.log.said sync.time

pub returns-clause-kept : goal.returns-clause-kept
returns-clause-kept g c tells =
    sync_kept g.H.Host.tells _ _ _ c.args.name.now c.args.bytes.now tells (script_reads c.args.name.now c.args.bytes.now c.requires _ _ _ _ _ tells c.in_ok-make.ensures.files _ c.in_ok-append.ensures.files) c.sync.ensures.files
