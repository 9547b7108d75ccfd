use Rattle.std.proofs.Common.{◌∷◌, [], length, refl, sym, ◌∙◌, append_assoc}
use Rattle.nb_restore.proofs.Common.{gave_begun, nothing_joined, IsDone, Overwrites, OverwritesAll, passed}
use Rattle.nb_restore.proofs.FrontLaws.{front_begun, front_joined}
use Rattle.nb_restore.proofs.MostLaws.{read_all_none, read_all_next, read_all_within, read_all_ends}
use Rattle.nb_restore.proofs.LevelLaws.{all_so_far_none, all_so_far_next, all_so_far_fails, all_so_far_all, next_taken, all_taken, of_pages_at}
use Rattle.nb_restore.proofs.records.write_levels.Goals as goal

pub loop-reader-init : goal.loop-reader-init
loop-reader-init g c = record {
  left = λ tells. front_begun _ _ (g.met.H.Host.timely _);
  so_far = λ tells links ready more same. all_so_far_none _ _ _ _ c.args.readers.items more _ _ same ready;
  within = λ tells links ready more same. read_all_none _ _ _ _ c.args.readers.items more _ same ready;
  gave = gave_begun _;
  cause = refl;
}

pub write_level-requires-clause-reader : goal.write_level-requires-clause-reader
write_level-requires-clause-reader g c =
    of_pages_at _ c.loop-reader.yielded c.in-Some.reader _ c.args.readers.items (next_taken _ _ c.loop-reader.yielded _ _ _ c.into_iter-reader-iterator.ensures.into_iter_gives.0 c.loop-reader.yielded_by c.in-Some.ensures.steps.0) c.requires.readers ∙ sym c.loop-reader.auto.page

pub returns-in_err-write_level-clause-left : goal.returns-in_err-write_level-clause-left
returns-in_err-write_level-clause-left g c tells = front_joined _ _ _ _ (c.loop-reader.invariant.left tells) (c.write_level.ensures.left tells)

pub returns-in_err-write_level-clause-pages : goal.returns-in_err-write_level-clause-pages
returns-in_err-write_level-clause-pages g c tells links ready =
    let loop = c.loop-reader.invariant in
    passed _ (λ r. IsDone r (OverwritesAll (length c.args.page.now) links ((g.H.Host.world c.args.host.now).files c.args.target.now) ((g.H.Host.world c.write_level.new.host).files c.args.target.now) c.args.first.now c.write_level.new.first)) c.from_residual.result c.in_err-write_level.field-0.0 c.from_residual.ensures
    (all_so_far_fails _ _ _ _ links c.in-Some.reader _ _ _ _ _
    (loop.so_far tells links ready _ (next_taken _ _ c.loop-reader.yielded _ _ _ c.into_iter-reader-iterator.ensures.into_iter_gives.0 c.loop-reader.yielded_by c.in-Some.ensures.steps.0))
    (loop.left tells).others_read (Unit {0}) (Unit {0})
    (λ records. Overwrites (length c.loop-reader.page) records ((g.H.Host.world c.loop-reader.host).files c.args.target.now) ((g.H.Host.world c.write_level.new.host).files c.args.target.now) c.loop-reader.first c.write_level.new.first) _ c.in_err-write_level.field-0.0 (c.in_err-write_level.ensures.pages tells))

pub loop-reader-preserved : goal.loop-reader-preserved
loop-reader-preserved g c =
    let loop = c.loop-reader.invariant in
    let write = c.in_ok-write_level.ensures in
    record {
      left = λ tells. front_joined _ _ _ _ (loop.left tells) (write.left tells);
      so_far = λ tells links ready more same.
          all_so_far_next _ _ _ _ links c.in-Some.reader more _ _ _ _ (loop.so_far tells links ready (c.in-Some.reader ∷ more) (same ∙ append_assoc c.loop-reader.yielded (c.in-Some.reader ∷ []) more)) (loop.left tells).others_read
          _ _ _ c.loop-reader.auto.page (write.pages tells);
      within = λ tells links ready more same.
          read_all_next _ _ _ _ links c.in-Some.reader more _ _ _ (loop.within tells links ready (c.in-Some.reader ∷ more) (same ∙ append_assoc c.loop-reader.yielded (c.in-Some.reader ∷ []) more)) (loop.left tells).others_read (write.within tells);
      gave = nothing_joined _ _ _ loop.gave write.gave;
      cause = write.cause ∙ loop.cause;
    }

pub returns-clause-pages : goal.returns-clause-pages
returns-clause-pages g c tells links ready =
    all_so_far_all _ _ _ links _ _ _ _ (c.loop-reader.invariant.so_far tells links ready [] (all_taken _ _ c.loop-reader.yielded _ c.into_iter-reader-iterator.ensures.into_iter_gives.0 (c.into_iter-reader-iterator.ensures.into_iter_gives.1 ∙ c.args.readers.ok.0) c.loop-reader.yielded_by c.in-None.ensures.steps.0))

pub returns-in_err-write_level-clause-within : goal.returns-in_err-write_level-clause-within
returns-in_err-write_level-clause-within g c tells links ready =
    let loop = c.loop-reader.invariant in
    read_all_within _ _ _ _ links c.in-Some.reader _ _ _ _
    (loop.within tells links ready _ (next_taken _ _ c.loop-reader.yielded _ _ _ c.into_iter-reader-iterator.ensures.into_iter_gives.0 c.loop-reader.yielded_by c.in-Some.ensures.steps.0))
    (loop.left tells).others_read (c.write_level.ensures.within tells)

pub returns-clause-within : goal.returns-clause-within
returns-clause-within g c tells links ready =
    read_all_ends _ _ _ links _ _ _ (c.loop-reader.invariant.within tells links ready [] (all_taken _ _ c.loop-reader.yielded _ c.into_iter-reader-iterator.ensures.into_iter_gives.0 (c.into_iter-reader-iterator.ensures.into_iter_gives.1 ∙ c.args.readers.ok.0) c.loop-reader.yielded_by c.in-None.ensures.steps.0))
