use Rattle.std.proofs.Common.{length, ◌∙◌, ap, arith}
use Rattle.nb_base.proofs.Common.{fresh_page, fresh_count-least, with_file-named}
use Rattle.nb_change.proofs.GaveLaws.{silent_gave, nothing_joined}
use Rattle.nb_base.proofs.CreateLaws.{rest_begun, far_behind, rest_more}
use Rattle.nb_base.proofs.MakingLaws.{made, made_reads, making_reads, making_begun, page_more, synced, synced_reads, synced_whole, rest_kept, first_page, first_page_reads, settled}
use Rattle.nb_base.proofs.Common.{Files, length-fresh_page}
use Rattle.nb_base.proofs.CreateLaws.{looped_within}
use Rattle.nb_base.proofs.MakingLaws.{made_within}
use Rattle.nb_base.proofs.beginnings.make_file.Goals as goal

pub returns-in_err-make-clause-left : goal.returns-in_err-make-clause-left
returns-in_err-make-clause-left g c tells = let make = c.make.ensures in made _ _ _ _ _ _ tells (g.met.H.Host.timely _) make.files make.log make.time

pub returns-in_err-make-clause-reads : goal.returns-in_err-make-clause-reads
returns-in_err-make-clause-reads g c tells = made_reads _ _ _ _ _ _ tells c.make.ensures.files

pub loop-number-init : goal.loop-number-init
loop-number-init g c =
    let make = c.in_ok-make.ensures in
    record {
      making = λ tells. making_begun _ _ _ _ _ _ tells (g.met.H.Host.timely _) make.files make.log make.time;
      pages = λ tells. rest_begun _ _ _ (with_file-named _ _ c.args.name.now _ (make.files.files tells));
      gave = silent_gave _ _ make.log;
      cause = make.cause;
    }

pub returns-in_err-write_page-clause-left : goal.returns-in_err-write_page-clause-left
returns-in_err-write_page-clause-left g c tells =
    let number = c.loop-number.number in
    let page_is = c.fresh.ensures.image ∙ ap (λ size. fresh_page size c.args.raw number) c.loop-number.auto.page in
    let far = far_behind _ _ c.requires.size number _ page_is c.loop-number.auto.number in
    let write = c.write_page.ensures in (page_more _ _ _ _ _ _ _ _ _ tells far (c.loop-number.invariant.making tells) write.files write.log write.time).so_far

pub returns-in_err-write_page-clause-reads : goal.returns-in_err-write_page-clause-reads
returns-in_err-write_page-clause-reads g c tells =
    let number = c.loop-number.number in
    let page_is = c.fresh.ensures.image ∙ ap (λ size. fresh_page size c.args.raw number) c.loop-number.auto.page in
    let far = far_behind _ _ c.requires.size number _ page_is c.loop-number.auto.number in
    let write = c.write_page.ensures in making_reads _ _ _ _ (page_more _ _ _ _ _ _ _ _ _ tells far (c.loop-number.invariant.making tells) write.files write.log write.time)

pub loop-number-preserved : goal.loop-number-preserved
loop-number-preserved g c =
    let number = c.loop-number.number in
    let page_is = c.fresh.ensures.image ∙ ap (λ size. fresh_page size c.args.raw number) c.loop-number.auto.page in
    let far = far_behind _ _ c.requires.size number _ page_is c.loop-number.auto.number in
    let write = c.in_ok-write_page.ensures in
    record {
      making = λ tells. page_more _ _ _ _ _ _ _ _ _ tells far (c.loop-number.invariant.making tells) write.files write.log write.time;
      pages = λ tells. rest_more _ _ c.requires.size number _ _ _ page_is (c.loop-number.invariant.pages tells) (with_file-named _ _ c.args.name.now _ (write.files.files tells));
      gave = nothing_joined _ _ _ c.loop-number.invariant.gave (silent_gave _ _ write.log);
      cause = write.cause ∙ c.loop-number.invariant.cause;
    }

pub returns-in_err-sync-clause-left : goal.returns-in_err-sync-clause-left
returns-in_err-sync-clause-left g c tells = let sync = c.sync.ensures in (synced _ _ _ _ _ _ _ (c.loop-number.invariant.making tells) sync.files sync.log sync.time).so_far

pub returns-in_err-sync-clause-reads : goal.returns-in_err-sync-clause-reads
returns-in_err-sync-clause-reads g c tells = let sync = c.sync.ensures in making_reads _ _ _ _ (synced _ _ _ _ _ _ _ (c.loop-number.invariant.making tells) sync.files sync.log sync.time)

pub fresh-requires-2-clause-inside : goal.fresh-requires-2-clause-inside
fresh-requires-2-clause-inside g c = omega (arith, fresh_count-least (length c.loop-number.page) c.args.raw)

pub returns-in_err-write_page-2-clause-left : goal.returns-in_err-write_page-2-clause-left
returns-in_err-write_page-2-clause-left g c tells =
    let loop = c.loop-number in
    let sync = c.in_ok-sync.ensures in
    let kept = rest_kept _ _ _ _ _ _ _ _ _ _ _ _ tells c.requires.size c.requires.few c.requires.count c.loop-number-test.false loop.auto.number-end loop.invariant sync.files sync.log sync.time in
    let page_is = c.fresh-2.ensures.image ∙ ap (λ size. fresh_page size c.args.raw 0) loop.auto.page in
    let write = c.write_page-2.ensures in first_page _ _ _ _ _ _ _ _ _ tells page_is kept write.files write.log write.time

pub returns-in_err-write_page-2-clause-reads : goal.returns-in_err-write_page-2-clause-reads
returns-in_err-write_page-2-clause-reads g c tells =
    let loop = c.loop-number in
    let sync = c.in_ok-sync.ensures in
    let kept = rest_kept _ _ _ _ _ _ _ _ _ _ _ _ tells c.requires.size c.requires.few c.requires.count c.loop-number-test.false loop.auto.number-end loop.invariant sync.files sync.log sync.time in
    let page_is = c.fresh-2.ensures.image ∙ ap (λ size. fresh_page size c.args.raw 0) loop.auto.page in first_page_reads _ _ _ _ _ _ _ _ _ tells page_is kept c.write_page-2.ensures.files

pub returns-clause-left : goal.returns-clause-left
returns-clause-left g c tells =
    let loop = c.loop-number in
    let sync = c.in_ok-sync.ensures in
    let kept = rest_kept _ _ _ _ _ _ _ _ _ _ _ _ tells c.requires.size c.requires.few c.requires.count c.loop-number-test.false loop.auto.number-end loop.invariant sync.files sync.log sync.time in
    let page_is = c.fresh-2.ensures.image ∙ ap (λ size. fresh_page size c.args.raw 0) loop.auto.page in
    let write = c.write_page-2.ensures in
    let whole = first_page _ _ _ _ _ _ _ _ _ tells page_is kept write.files write.log write.time in
    let last = c.sync-2.ensures in synced_whole _ _ _ _ _ _ _ whole last.files last.log last.time

pub returns-clause-reads : goal.returns-clause-reads
returns-clause-reads g c tells =
    let loop = c.loop-number in
    let sync = c.in_ok-sync.ensures in
    let kept = rest_kept _ _ _ _ _ _ _ _ _ _ _ _ tells c.requires.size c.requires.few c.requires.count c.loop-number-test.false loop.auto.number-end loop.invariant sync.files sync.log sync.time in
    let page_is = c.fresh-2.ensures.image ∙ ap (λ size. fresh_page size c.args.raw 0) loop.auto.page in
    synced_reads _ _ (g.H.Host.world c.args.host.now) _ _ _ _ (first_page_reads _ _ _ _ _ _ _ _ _ tells page_is kept c.write_page-2.ensures.files) c.sync-2.ensures.files

pub returns-clause-made : goal.returns-clause-made
returns-clause-made g c tells =
    let loop = c.loop-number in
    let sync = c.in_ok-sync.ensures in
    let kept = rest_kept _ _ _ _ _ _ _ _ _ _ _ _ tells c.requires.size c.requires.few c.requires.count c.loop-number-test.false loop.auto.number-end loop.invariant sync.files sync.log sync.time in
    let page_is = c.fresh-2.ensures.image ∙ ap (λ size. fresh_page size c.args.raw 0) loop.auto.page in
    settled _ _ _ _ _ _ _ _ _ _ tells page_is kept (c.in_ok-write_page-2.ensures.files.files tells) c.sync-2.ensures.files

pub returns-clause-within : goal.returns-clause-within
returns-clause-within g c tells =
    let loop = c.loop-number in
    let page_is = c.fresh-2.ensures.image ∙ ap (λ size. fresh_page size c.args.raw 0) loop.auto.page in
    let within = looped_within _ c.args.raw loop.number c.args.count c.requires.size _ _ c.loop-number-test.false loop.auto.number-end c.requires.count (loop.invariant.pages tells) (ap (λ (f : Files). f c.args.name.now) c.in_ok-sync.ensures.files.still.files) in
    made_within g.H.Host.tells c.sync-2.result (g.H.Host.world c.sync.new.self) (g.H.Host.world c.write_page-2.new.self) (g.H.Host.world c.sync-2.new.self) c.args.name.now c.args.count _ _ tells within (ap length page_is ∙ length-fresh_page _ c.args.raw 0 c.requires.size) (c.in_ok-write_page-2.ensures.files.files tells) c.sync-2.ensures.files
