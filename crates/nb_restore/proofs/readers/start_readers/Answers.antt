use Rattle.std.proofs.Common.{List, refl, sym, subst, ◌∙◌, arith}
use Rattle.nb_restore.proofs.Common.{drop_all, Reading, AreReady, AreOfPages, IsReady, IsGiven, passed}
use Rattle.nb_page.proofs.QuietLaws.{quiet_begun, quiet_joined}
use Rattle.nb_restore.proofs.SourceLaws.{started_none, started_more, started_fails, started_all, names_from, of_pages_more}
use Rattle.nb_restore.proofs.readers.start_readers.Goals as goal

pub loop-place-init : goal.loop-place-init
loop-place-init g c = record {
  quiet = quiet_begun _ (g.met.H.Host.timely _);
  size = subst (λ (rs : List Reading). AreOfPages c.args.page_size rs) (sym c.new-readers.ensures.items) tt;
  cause = refl;
  within = λ tells. omega arith;
  so_far = λ tells target links sources. started_none _ _ _ _ _ _ c.new-readers.ensures.items sources;
}

pub returns-in_err-reader-clause-ready : goal.returns-in_err-reader-clause-ready
returns-in_err-reader-clause-ready g c tells target links sources =
    let loop = c.loop-place.invariant in
    passed _ (λ r. IsGiven r (λ readers. AreReady (g.H.Host.world c.args.host.now).files target c.args.page_size links readers.items)) c.from_residual.result c.in_err-reader.field-0.0 c.from_residual.ensures
    (started_fails _ _ target _ links c.index-files-place.result _ _ _ (loop.so_far tells target links sources) (names_from c.args.files.now c.loop-place.place c.index-files-place.result (omega (arith, c.loop-place-test.true)) c.index-files-place.is)
    loop.quiet.still.files Reading _ (λ link. IsReady (g.H.Host.world c.loop-place.host).files target c.args.page_size link) _ c.in_err-reader.field-0.0 (λ link source. c.in_err-reader.ensures.ready tells target link source))

pub loop-place-preserved : goal.loop-place-preserved
loop-place-preserved g c =
    let loop = c.loop-place.invariant in
    let reader = c.in_ok-reader.ensures in
    record {
      quiet = quiet_joined _ _ _ loop.quiet reader.quiet;
      size = of_pages_more _ c.loop-place.readers.items _ c.in_ok-reader.reader c.in_ok-push.ensures.items loop.size reader.size;
      cause = reader.cause ∙ loop.cause;
      within = λ tells. let so_far = loop.within tells in let once = reader.once tells in omega (arith, so_far, once, c.loop-place-test.true);
      so_far = λ tells target links sources.
          started_more _ _ target _ links c.index-files-place.result _ _ _ (loop.so_far tells target links sources) (names_from c.args.files.now c.loop-place.place c.index-files-place.result (omega (arith, c.loop-place-test.true)) c.index-files-place.is)
          loop.quiet.still.files c.in_ok-reader.reader _ c.in_ok-push.ensures.items (λ link source. reader.ready tells target link source);
    }

pub returns-clause-ready : goal.returns-clause-ready
returns-clause-ready g c tells target links sources =
    started_all _ _ _ links _ _ (drop_all c.loop-place.place c.args.files.now (omega (arith, c.loop-place-test.false))) (c.loop-place.invariant.so_far tells target links sources)

pub returns-in_err-reader-clause-within : goal.returns-in_err-reader-clause-within
returns-in_err-reader-clause-within g c tells = let so_far = c.loop-place.invariant.within tells in let once = c.in_err-reader.ensures.once tells in omega (arith, so_far, once, c.loop-place-test.true)
